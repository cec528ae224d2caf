-- The prefixes and namespaces of the messages: SAML Core 1.1 and 3.1, Metadata 1.1, XML Signature 1.2.
use Rattle.std.specs.Prelude.{ℕ, Bool, true, false, List, codes}
use Rattle.saml_names.specs.Names.{saml_namespace, samlp_namespace, ds_namespace, md_namespace}
use Rattle.element_make.specs.declared.names.Ns.{Ns}
use Rattle.element_make.specs.declared.names.Ns.TheVariants.{Saml, Samlp, Ds, Md}

abbrev pub prefix : Ns → List ℕ
prefix Saml = codes "saml"
prefix Samlp = codes "samlp"
prefix Ds = codes "ds"
prefix Md = codes "md"

abbrev pub namespace : Ns → List ℕ
namespace Saml = saml_namespace
namespace Samlp = samlp_namespace
namespace Ds = ds_namespace
namespace Md = md_namespace

abbrev pub same : Ns → Ns → Bool
same Saml Saml = true
same Samlp Samlp = true
same Ds Ds = true
same Md Md = true
same _ _ = false
