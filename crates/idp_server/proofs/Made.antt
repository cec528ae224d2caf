-- The messages of a logout can be made.
use Rattle.std.proofs.Common.{ℕ, Bool, true, false, if◌then◌else◌, List, [], ◌∷◌, codes, refl}
use Rattle.std.specs.Char.{encode_utf8}
use Rattle.std.specs.List.{AllByRecursion}
use Rattle.std.specs.Str.{chars}
use Rattle.xml_chars.proofs.Texts.{ascii_text}
use Rattle.xml_spec.specs.Characters.{IsText}
use Rattle.xml_spec.proofs.Valid.{name_shown, other_bytes}
use Rattle.saml_names.specs.Uris.{success, responder, partial_logout}
use Rattle.element_make.specs.Made.{MadeNodes, AreMade, IsMade}
use Rattle.protocol_messages.specs.Making.{failed, logged_out, logout_request, session_indexes, succeeded}
use Rattle.idp_answers.proofs.Responses.{named}

indexes_made : (indexes : List (List ℕ)) → AllByRecursion IsText indexes → AreMade (session_indexes indexes)
unfolding chars encode_utf8
indexes_made [] all = tt
indexes_made (index ∷ indexes) all = ((name_shown _ refl, refl), tt, tt, (all.0, tt), indexes_made indexes all.1)

pub asking_made : (id issuer address name : List ℕ) (indexes : List (List ℕ)) (at end : List ℕ) → IsText id
    → IsText issuer → IsText address → IsText name → AllByRecursion IsText indexes
    → IsText at → IsText end → IsMade (logout_request id issuer address name indexes at end)
unfolding chars encode_utf8
asking_made id issuer address name indexes at end id_is issuer_is address_is name_is indexes_are at_is end_is = (
  (name_shown _ refl, refl),
  (
    named (codes "Destination") address (name_shown _ refl, refl) (other_bytes _ _ refl) address_is,
    (
      named (codes "ID") id (name_shown _ refl, refl) (other_bytes _ _ refl) id_is,
      (
        named (codes "IssueInstant") at (name_shown _ refl, refl) (other_bytes _ _ refl) at_is,
        (
          named (codes "NotOnOrAfter") end (name_shown _ refl, refl) (other_bytes _ _ refl) end_is,
          (
            named (codes "Version") (codes "2.0") (name_shown _ refl, refl) (other_bytes _ _ refl) (ascii_text _ refl),
            tt,
          ),
        ),
      ),
    ),
  ),
  (
    (other_bytes _ _ refl, (other_bytes _ _ refl, (other_bytes _ _ refl, (other_bytes _ _ refl, tt)))),
    (
      (other_bytes _ _ refl, (other_bytes _ _ refl, (other_bytes _ _ refl, tt))),
      ((other_bytes _ _ refl, (other_bytes _ _ refl, tt)), ((other_bytes _ _ refl, tt), (tt, tt))),
    ),
  ),
  (
    (name_shown _ refl, refl),
    tt,
    tt,
    (issuer_is, tt),
    (
      (name_shown _ refl, refl),
      tt,
      tt,
      (name_is, tt),
      indexes_made indexes indexes_are,
    ),
  ),
  tt,
)

-- the status of a logout
abbrev pub ended_status : (partial : Bool) → MadeNodes
ended_status partial = if partial then failed partial_logout else succeeded

status_made : (partial : Bool) → AreMade (ended_status partial)
unfolding chars encode_utf8
status_made true = (
  (name_shown _ refl, refl),
  tt,
  tt,
  (
    (name_shown _ refl, refl),
    (named (codes "Value") responder (name_shown _ refl, refl) (other_bytes _ _ refl) (ascii_text responder refl), tt),
    (tt, tt),
    (
      (name_shown _ refl, refl),
      (
        named (codes "Value") partial_logout (name_shown _ refl, refl) (other_bytes _ _ refl)
            (ascii_text partial_logout refl),
        tt,
      ),
      (tt, tt),
      tt,
      tt,
    ),
    tt,
  ),
  tt,
)
status_made false = (
  (name_shown _ refl, refl),
  tt,
  tt,
  (
    (name_shown _ refl, refl),
    (
      named (codes "Value") success (name_shown _ refl, refl) (other_bytes _ _ refl)
          (ascii_text success refl),
      tt,
    ),
    (tt, tt),
    tt,
    tt,
  ),
  tt,
)

pub replying_made : (id issuer address request at : List ℕ) (partial : Bool) → IsText id → IsText issuer
    → IsText address → IsText request → IsText at
    → IsMade (logged_out id issuer address request (ended_status partial) at)
unfolding chars encode_utf8
replying_made id issuer address request at partial id_is issuer_is address_is request_is at_is = (
  (name_shown _ refl, refl),
  (
    named (codes "Destination") address (name_shown _ refl, refl) (other_bytes _ _ refl) address_is,
    (
      named (codes "ID") id (name_shown _ refl, refl) (other_bytes _ _ refl) id_is,
      (
        named (codes "InResponseTo") request (name_shown _ refl, refl) (other_bytes _ _ refl) request_is,
        (
          named (codes "IssueInstant") at (name_shown _ refl, refl) (other_bytes _ _ refl) at_is,
          (
            named (codes "Version") (codes "2.0") (name_shown _ refl, refl) (other_bytes _ _ refl) (ascii_text _ refl),
            tt,
          ),
        ),
      ),
    ),
  ),
  (
    (other_bytes _ _ refl, (other_bytes _ _ refl, (other_bytes _ _ refl, (other_bytes _ _ refl, tt)))),
    (
      (other_bytes _ _ refl, (other_bytes _ _ refl, (other_bytes _ _ refl, tt))),
      ((other_bytes _ _ refl, (other_bytes _ _ refl, tt)), ((other_bytes _ _ refl, tt), (tt, tt))),
    ),
  ),
  ((name_shown _ refl, refl), tt, tt, (issuer_is, tt), status_made partial),
  tt,
)
