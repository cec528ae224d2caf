-- The namespaces of the messages, and names in them: SAML Core, 1.1; XML Signature, 1.2; SAML Metadata, 1.1.
use Rattle.std.specs.Prelude.{ℕ, List}
use Rattle.xml_spec.specs.Names.{ExpandedName}
use Rattle.saml_names.specs.declared.namespaces.TheConstants.{SAML, SAMLP, DS, MD}

abbrev pub saml_namespace : List ℕ
saml_namespace = SAML.now

abbrev pub samlp_namespace : List ℕ
samlp_namespace = SAMLP.now

abbrev pub ds_namespace : List ℕ
ds_namespace = DS.now

abbrev pub md_namespace : List ℕ
md_namespace = MD.now

-- a name of SAML assertions
abbrev pub saml : List ℕ → ExpandedName
saml local = record { namespace = saml_namespace; local = local }

-- a name of SAML protocol messages
abbrev pub samlp : List ℕ → ExpandedName
samlp local = record { namespace = samlp_namespace; local = local }

-- a name of XML Signature
abbrev pub ds : List ℕ → ExpandedName
ds local = record { namespace = ds_namespace; local = local }

-- a name of SAML metadata
abbrev pub md : List ℕ → ExpandedName
md local = record { namespace = md_namespace; local = local }
