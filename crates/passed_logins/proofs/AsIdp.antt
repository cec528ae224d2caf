-- To those below a hub is an identity provider that signs its Assertions, and a login that it passes on is as one that is issued.
use Rattle.std.specs.Prelude.{◌≡◌, false, List, [], ◌∷◌, map, None, Contains}
use Rattle.std.proofs.Common.{◌⊎◌, inl, inr, zero, suc, refl, subst, arith}
use Rattle.ledger_records.specs.declared.hub_record.Backed.{Backed}
use Rattle.ledger_records.specs.declared.idp_record.Issued.{Issued}
use Rattle.ledger_records.specs.declared.idp_record.IdpRecord.TheVariants as kinds
use Rattle.provider_config.specs.declared.idp_config.SignMode.TheVariants.{Assertion}
use Rattle.record_ledger.specs.Ledger.{empty_ledger}
use Rattle.idp_rules.specs.declared.config.IdpConfig.{IdpConfig}
use Rattle.idp_answers.specs.Stating.{presented_until}
use Rattle.idp_server.specs.Signed.{AnAssertion}
use Rattle.login_origin.specs.Signed.{Signed}
use Rattle.recorded_logins.specs.Recorded.{Added, AreOf, IsOf as IsOfIssued}
use Rattle.identity_hub.specs.declared.config.HubConfig.{HubConfig}
use Rattle.passed_logins.specs.Passed.{AreSignedFor, IsOf}

abbrev pub as_idp : HubConfig → IdpConfig
as_idp hub = record {
  entity = hub.upstream.entity;
  base = hub.upstream.base;
  listen = hub.upstream.listen;
  peers = hub.peers;
  users = [];
  id_key = hub.upstream.id_key;
  skew = hub.upstream.skew;
  mode = Assertion;
  fanout = false;
}

abbrev pub as_issued : Backed → Issued
as_issued b = record {
  first = b.first;
  moment = b.moment;
  pending = None;
  cookie = [];
  index = b.index;
  session_end = b.until;
  assertion = b.assertion;
  message = b.message;
  user = b.name;
  peer = b.peer;
  consumer = b.consumer;
  request = b.below;
  relay = b.below_relay;
  until = presented_until b.moment;
  attributes = b.attributes;
}

abbrev pub as_added : Backed → Added
as_added b = record { held = empty_ledger; r = kinds.Issued (as_issued b) }

-- ---- elements of a list

which : {X : Type 0} (y : X) (xs : List X) (x : X) → Contains (y ∷ xs) x → (y ≡ x) ⊎ Contains xs x
which y xs x (zero, less, is) = inl is
which y xs x (suc i, less, is) = inr (i, omega (arith, less), is)

further : {X : Type 0} (y : X) (xs : List X) (x : X) → Contains xs x → Contains (y ∷ xs) x
further y xs x at = (suc at.0, omega (arith, at.1), at.2)

mapped : {X Y : Type 0} (f : X → Y) (xs : List X) (x : X) → Contains xs x → Contains (map f xs) (f x)
mapped f [] x at = absurd (omega (arith, at.1))
mapped f (y ∷ xs) x at =
    elim (which y xs x at) [
      | inl is ↦ subst (λ z. Contains (map f (y ∷ xs)) (f z)) is (zero, omega arith, refl)
      | inr rest ↦ further (f y) (map f xs) (f x) (mapped f xs x rest)
    ]

pub unmapped : {X Y : Type 0} (f : X → Y) (xs : List X) (y : Y) → Contains (map f xs) y → (x : X) × Contains xs x × (f x ≡ y)
unmapped f [] y at = absurd (omega (arith, at.1))
unmapped f (x ∷ xs) y at =
    elim (which (f x) (map f xs) y at) [
      | inl is ↦ (x, (zero, omega arith, refl), is)
      | inr rest ↦ let found = unmapped f xs y rest in (found.0, further x xs found.0 found.1, found.2)
    ]

-- ---- what is signed

signed_as : (hub : HubConfig) (passed : List Backed) (s : Signed) → IsOf hub passed s
    → IsOfIssued (as_idp hub) (map as_added passed) s
signed_as hub passed s of = record {
  one = as_added of.one;
  known = mapped as_added passed of.one of.known;
  element = _;
  signed =
      record {
        key = of.peer.key_out;
        made = of.assertion;
        stands =
            AnAssertion (as_issued of.one) of.peer of.assertion (of.of_peer.place, of.of_peer.known, of.of_peer.there) refl
            of.of_login;
        is = refl;
      };
  made = of.made;
  document = of.document;
}

pub are_signed_as : (hub : HubConfig) (passed : List Backed) (issued : List Signed) → AreSignedFor hub passed issued
    → AreOf (as_idp hub) (map as_added passed) issued
are_signed_as hub passed [] all = tt
are_signed_as hub passed (s ∷ issued) all = (signed_as hub passed s all.0, are_signed_as hub passed issued all.1)
