-- How the definitions see a name.
use Rattle.xml_spec.specs.Names as names
use Rattle.saml_names.specs.declared.name.ExpandedName.{ExpandedName}

abbrev pub name_of : ExpandedName → names.ExpandedName
name_of name = record { namespace = name.namespace.now; local = name.local.now }
