-- The deployment's providers can be started: their texts hold characters that a document may hold.
use Rattle.std.specs.Prelude.{◌≡◌, codes}
use Rattle.std.proofs.Common.{refl, sym, subst, lit≤}
use lib.Utf8.{encode}
use Rattle.xml_spec.specs.Characters.{IsText}
use Rattle.idp_rules.specs.Config as idp
use Rattle.idp_rules.specs.declared.config.IdpConfig.{IdpConfig}
use Rattle.sp_rules.specs.declared.config.SpConfig.{SpConfig}
use Rattle.sp_server.specs.Config as sp
use Rattle.idp_setup.proofs.Spelling.{users_are_texts}
use Rattle.replay_runs.specs.Deployed.{IsIdpConfig, sp_config, users_text}

sp_entity : IsText (codes "urn:example:sp")
unfolding encode
sp_entity = record { characters = codes "urn:example:sp"; allowed = refl; spelled = refl }

idp_entity : IsText (codes "urn:example:idp")
unfolding encode
idp_entity = record { characters = codes "urn:example:idp"; allowed = refl; spelled = refl }

sp_base : IsText (codes "http://127.0.0.1:8081")
unfolding encode
sp_base = record { characters = codes "http://127.0.0.1:8081"; allowed = refl; spelled = refl }

idp_base : IsText (codes "http://127.0.0.1:8080")
unfolding encode
idp_base = record { characters = codes "http://127.0.0.1:8080"; allowed = refl; spelled = refl }

sign_on : IsText (codes "http://127.0.0.1:8080/sso")
unfolding encode
sign_on = record { characters = codes "http://127.0.0.1:8080/sso"; allowed = refl; spelled = refl }

idp_logout : IsText (codes "http://127.0.0.1:8080/slo")
unfolding encode
idp_logout = record { characters = codes "http://127.0.0.1:8080/slo"; allowed = refl; spelled = refl }

consumer : IsText (codes "http://127.0.0.1:8081/acs")
unfolding encode
consumer = record { characters = codes "http://127.0.0.1:8081/acs"; allowed = refl; spelled = refl }

sp_logout : IsText (codes "http://127.0.0.1:8081/slo")
unfolding encode
sp_logout = record { characters = codes "http://127.0.0.1:8081/slo"; allowed = refl; spelled = refl }

pub usable_sp : (config : SpConfig) → config ≡ sp_config → sp.IsUsable config
usable_sp config is =
    subst sp.IsUsable (sym is)
    (record { texts = record { entity = sp_entity; base = sp_base; service = sign_on }; skew = lit≤ tt; times = tt; logout = idp_logout })

pub usable_idp : (config : IdpConfig) → IsIdpConfig config → idp.IsUsable config
usable_idp config is =
    subst idp.IsUsable (sym is.is)
    (record {
      entity = idp_entity;
      base = idp_base;
      peers = (record { entity = sp_entity; service = consumer; logout = sp_logout }, tt);
      users = users_are_texts users_text config.users is.users;
      few = lit≤ tt;
      apart = refl;
      skew = lit≤ tt;
    })
