-- What `check` prints, at worked examples.
use Rattle.std.specs.Prelude.{◌≡◌, ℕ, List, [], ◌∷◌, None, codes, refl}
use Rattle.owned_values.specs.declared.attributes.Attribute.{Attribute}
use Rattle.request_rows.specs.declared.row.NewSession.{NewSession}
use Rattle.saml_commands.specs.Check.{attribute_lines, session_lines}

-- a line for each value, also for an empty one, and none where there is no value
values : attribute_lines (record { name = codes "mail"; values = codes "a@b" ∷ [] ∷ [] }) ≡ codes "attribute mail a@b\nattribute mail \n"
values = refl

no_value : attribute_lines (record { name = codes "mail"; values = [] }) ≡ []
no_value = refl

-- a session of this user
session_for : List ℕ → List Attribute → NewSession
session_for name attributes = record {
  request = codes "_r1";
  issuer = codes "urn:example:idp";
  assertion = codes "_a1";
  assertion_until = 1704067560000;
  name = name;
  index = None;
  until = 1704096000000;
  attributes = attributes;
  key = 1;
}

one_user : session_lines (session_for (codes "alice") (record { name = codes "role"; values = codes "x y" ∷ [] } ∷ [])) ≡ codes "accepted\nname alice\nattribute role x\\20y\n"
unfolding session_for
one_user = refl

no_name : session_lines (session_for [] []) ≡ codes "accepted\nname \n"
unfolding session_for
no_name = refl
