-- The constants spelled out.
use Rattle.std.proofs.Common.{◌≡◌, codes, refl}
use Rattle.saml_names.specs.Names.{saml, saml_namespace, samlp_namespace, ds_namespace, md_namespace}
use Rattle.saml_names.specs.Uris.{success, bearer}

assertions : saml_namespace ≡ codes "urn:oasis:names:tc:SAML:2.0:assertion"
assertions = refl

protocol : samlp_namespace ≡ codes "urn:oasis:names:tc:SAML:2.0:protocol"
protocol = refl

signatures : ds_namespace ≡ codes "http://www.w3.org/2000/09/xmldsig#"
signatures = refl

metadata : md_namespace ≡ codes "urn:oasis:names:tc:SAML:2.0:metadata"
metadata = refl

issuer : saml (codes "Issuer") ≡ record { namespace = codes "urn:oasis:names:tc:SAML:2.0:assertion"; local = codes "Issuer" }
issuer = refl

success_is : success ≡ codes "urn:oasis:names:tc:SAML:2.0:status:Success"
success_is = refl

bearer_is : bearer ≡ codes "urn:oasis:names:tc:SAML:2.0:cm:bearer"
bearer_is = refl
