-- The Response to a login can be made.
use Rattle.std.proofs.Common.{◌≡◌, ℕ, List, [], ◌∷◌, codes, Option, None, Some, refl}
use Rattle.std.specs.Char.{encode_utf8}
use Rattle.std.specs.List.{AllByRecursion}
use Rattle.std.specs.Str.{chars}
use Rattle.xml_chars.proofs.Texts.{ascii_text}
use Rattle.xml_spec.specs.Characters.{IsText, IsNoColonName}
use Rattle.xml_spec.proofs.Valid.{name_shown, other_bytes}
use Rattle.owned_values.specs.declared.attributes.Attribute.{Attribute}
use Rattle.saml_names.specs.Uris.{bearer, password, success, responder, no_passive}
use Rattle.element_make.specs.Made.{Made, MadeNodes, NothingMade, MadeElement, MadeText, joined, IsMadeAttribute, AreMade, IsMade}
use Rattle.assertion_model.specs.Assertion.{IsStatable, all_holding, assertion, authentication, conditions, confirmation, joined_all, stated, statements, subject}
use Rattle.protocol_messages.specs.Making.{answered, response}
use Rattle.provider_config.specs.declared.idp_config.SignMode.{SignMode}
use Rattle.provider_config.specs.declared.idp_config.SignMode.TheVariants as modes
use Rattle.sig_reference.proofs.SignatureMade.{signed_made}
use Rattle.idp_answers.specs.Answers.{signed_assertion, signed_response}
use Rattle.idp_answers.specs.Stating.{CanBeStated, Stated, stated_login}

-- an attribute of this name
pub named : (name value : List ℕ) → IsNoColonName name → (name ≡ codes "xmlns" → ⊥) → IsText value → IsMadeAttribute (record { name = name; value = value })
named name value is apart text = record { name = is; no_declaration = apart; value = text }

-- ---- the Assertion of what is stated

values_made : (values : List (List ℕ)) → AllByRecursion IsText values → AreMade (all_holding (codes "AttributeValue") values)
unfolding chars encode_utf8
values_made [] all = tt
values_made (value ∷ values) all = ((name_shown _ refl, refl), tt, tt, (all.0, tt), values_made values all.1)

stated_made : (attributes : List Attribute) → AllByRecursion IsStatable attributes → AreMade (joined_all stated attributes)
unfolding chars encode_utf8
stated_made [] all = tt
stated_made (a ∷ attributes) all = (
  (name_shown _ refl, refl),
  (named (codes "Name") a.name (name_shown _ refl, refl) (other_bytes _ _ refl) all.0.name, tt),
  (tt, tt),
  values_made a.values all.0.values,
  stated_made attributes all.1,
)

statements_made : (attributes : List Attribute) → AllByRecursion IsStatable attributes → AreMade (statements attributes)
unfolding chars encode_utf8
statements_made [] all = tt
statements_made (a ∷ attributes) all = ((name_shown _ refl, refl), tt, tt, stated_made (a ∷ attributes) all, tt)

-- the parts of its Assertion, with the written forms of its moments
abbrev subject_of : (issuer : List ℕ) (s : Stated) (issued until ends : List ℕ) → MadeNodes
subject_of issuer s issued until ends =
    subject (stated_login issuer s) (record { issued = issued; confirm_until = until; not_before = Some issued; not_on_or_after = Some until; session_until = Some ends })

abbrev conditions_of : (issuer : List ℕ) (s : Stated) (issued until ends : List ℕ) → MadeNodes
conditions_of issuer s issued until ends =
    conditions (stated_login issuer s) (record { issued = issued; confirm_until = until; not_before = Some issued; not_on_or_after = Some until; session_until = Some ends })

abbrev authentication_of : (issuer : List ℕ) (s : Stated) (issued until ends : List ℕ) → MadeNodes
authentication_of issuer s issued until ends =
    authentication (stated_login issuer s) (record { issued = issued; confirm_until = until; not_before = Some issued; not_on_or_after = Some until; session_until = Some ends })

authentication_made : (issuer : List ℕ) (s : Stated) (issued until ends : List ℕ) → CanBeStated s → IsText issued → IsText ends
    → AreMade (authentication_of issuer s issued until ends)
unfolding chars encode_utf8
authentication_made issuer s issued until ends is at end = (
  (name_shown _ refl, refl),
  (
    named (codes "AuthnInstant") issued (name_shown _ refl, refl) (other_bytes _ _ refl) at,
    (
      named (codes "SessionIndex") s.index (name_shown _ refl, refl) (other_bytes _ _ refl) is.index,
      (named (codes "SessionNotOnOrAfter") ends (name_shown _ refl, refl) (other_bytes _ _ refl) end, tt),
    ),
  ),
  ((other_bytes _ _ refl, (other_bytes _ _ refl, tt)), ((other_bytes _ _ refl, tt), (tt, tt))),
  ((name_shown _ refl, refl), tt, tt, ((name_shown _ refl, refl), tt, tt, (ascii_text password refl, tt), tt), tt),
  tt,
)

conditions_made : (issuer : List ℕ) (s : Stated) (issued until ends : List ℕ) → CanBeStated s → IsText issued → IsText until
    → AreMade (conditions_of issuer s issued until ends)
unfolding chars encode_utf8
conditions_made issuer s issued until ends is at end = (
  (name_shown _ refl, refl),
  (
    named (codes "NotBefore") issued (name_shown _ refl, refl) (other_bytes _ _ refl) at,
    (named (codes "NotOnOrAfter") until (name_shown _ refl, refl) (other_bytes _ _ refl) end, tt),
  ),
  ((other_bytes _ _ refl, tt), (tt, tt)),
  ((name_shown _ refl, refl), tt, tt, ((name_shown _ refl, refl), tt, tt, (is.peer, tt), tt), tt),
  tt,
)

subject_made : (issuer : List ℕ) (s : Stated) (issued until ends : List ℕ) → CanBeStated s → IsText until
    → AreMade (subject_of issuer s issued until ends)
unfolding chars encode_utf8
subject_made issuer s issued until ends is end =
    let held : AreMade (confirmation (stated_login issuer s) (record { issued = issued; confirm_until = until; not_before = Some issued; not_on_or_after = Some until; session_until = Some ends })) = (
      (name_shown _ refl, refl),
      (named (codes "Method") bearer (name_shown _ refl, refl) (other_bytes _ _ refl) (ascii_text bearer refl), tt),
      (tt, tt),
      (
        (name_shown _ refl, refl),
        (
          named (codes "InResponseTo") s.request (name_shown _ refl, refl) (other_bytes _ _ refl) is.request,
          (
            named (codes "NotOnOrAfter") until (name_shown _ refl, refl) (other_bytes _ _ refl) end,
            (named (codes "Recipient") s.consumer (name_shown _ refl, refl) (other_bytes _ _ refl) is.consumer, tt),
          ),
        ),
        ((other_bytes _ _ refl, (other_bytes _ _ refl, tt)), ((other_bytes _ _ refl, tt), (tt, tt))),
        tt,
        tt,
      ),
      tt,
    ) in
    ((name_shown _ refl, refl), tt, tt, ((name_shown _ refl, refl), tt, tt, (is.user, tt), held), tt)

-- nodes behind one another
both_made : (nodes more : MadeNodes) → AreMade nodes → AreMade more → AreMade (joined nodes more)
both_made NothingMade more h k = k
both_made (MadeElement ns local attributes kids rest) more h k = (h.0, h.1, h.2, h.3, both_made rest more h.4 k)
both_made (MadeText text rest) more h k = (h.0, both_made rest more h.1 k)

pub assertion_made : (issuer : List ℕ) (s : Stated) (issued until ends : List ℕ) → IsText issuer → CanBeStated s → IsText issued → IsText until → IsText ends
    → IsMade (assertion (stated_login issuer s) (record { issued = issued; confirm_until = until; not_before = Some issued; not_on_or_after = Some until; session_until = Some ends }))
unfolding chars encode_utf8
assertion_made issuer s issued until ends name is at end last =
    let kids = both_made (conditions_of issuer s issued until ends) (joined (authentication_of issuer s issued until ends) (statements s.attributes)) (conditions_made issuer s issued until ends is at end)
    (both_made (authentication_of issuer s issued until ends) (statements s.attributes) (authentication_made issuer s issued until ends is at last) (statements_made s.attributes is.attributes)) in
    let behind = both_made (subject_of issuer s issued until ends) (joined (conditions_of issuer s issued until ends) (joined (authentication_of issuer s issued until ends) (statements s.attributes)))
    (subject_made issuer s issued until ends is end) kids in (
      (name_shown _ refl, refl),
      (
        named (codes "ID") s.assertion (name_shown _ refl, refl) (other_bytes _ _ refl) is.assertion,
        (
          named (codes "IssueInstant") issued (name_shown _ refl, refl) (other_bytes _ _ refl) at,
          (named (codes "Version") (codes "2.0") (name_shown _ refl, refl) (other_bytes _ _ refl) (ascii_text _ refl), tt),
        ),
      ),
      ((other_bytes _ _ refl, (other_bytes _ _ refl, tt)), ((other_bytes _ _ refl, tt), (tt, tt))),
      ((name_shown _ refl, refl), tt, tt, (name, tt), behind),
      tt,
    )

-- ---- the Response

-- the attributes of a Response, and what stands in it behind its Issuer
response_with : (id issuer destination request issued : List ℕ) (held : Option Made) → IsText id → IsText issuer → IsText destination → IsText request → IsText issued
    → AreMade (answered held) → IsMade (response id issuer destination request held issued)
unfolding chars encode_utf8
response_with id issuer destination request issued held named_so name to answers at made = (
  (name_shown _ refl, refl),
  (
    named (codes "Destination") destination (name_shown _ refl, refl) (other_bytes _ _ refl) to,
    (
      named (codes "ID") id (name_shown _ refl, refl) (other_bytes _ _ refl) named_so,
      (
        named (codes "InResponseTo") request (name_shown _ refl, refl) (other_bytes _ _ refl) answers,
        (
          named (codes "IssueInstant") issued (name_shown _ refl, refl) (other_bytes _ _ refl) at,
          (named (codes "Version") (codes "2.0") (name_shown _ refl, refl) (other_bytes _ _ refl) (ascii_text _ refl), tt),
        ),
      ),
    ),
  ),
  (
    (other_bytes _ _ refl, (other_bytes _ _ refl, (other_bytes _ _ refl, (other_bytes _ _ refl, tt)))),
    (
      (other_bytes _ _ refl, (other_bytes _ _ refl, (other_bytes _ _ refl, tt))),
      ((other_bytes _ _ refl, (other_bytes _ _ refl, tt)), ((other_bytes _ _ refl, tt), (tt, tt))),
    ),
  ),
  ((name_shown _ refl, refl), tt, tt, (name, tt), made),
  tt,
)

pub response_made : (id issuer destination request issued : List ℕ) (held : Made) → IsText id → IsText issuer → IsText destination → IsText request → IsText issued → IsMade held
    → IsMade (response id issuer destination request (Some held) issued)
unfolding chars encode_utf8
response_made id issuer destination request issued held named_so name to answers at made =
    response_with id issuer destination request issued (Some held) named_so name to answers at (
      (name_shown _ refl, refl),
      tt,
      tt,
      ((name_shown _ refl, refl), (named (codes "Value") success (name_shown _ refl, refl) (other_bytes _ _ refl) (ascii_text success refl), tt), (tt, tt), tt, tt),
      made,
    )

pub refusal_made : (id issuer destination request issued : List ℕ) → IsText id → IsText issuer → IsText destination → IsText request → IsText issued
    → IsMade (response id issuer destination request None issued)
unfolding chars encode_utf8
refusal_made id issuer destination request issued named_so name to answers at =
    response_with id issuer destination request issued None named_so name to answers at (
      (name_shown _ refl, refl),
      tt,
      tt,
      (
        (name_shown _ refl, refl),
        (named (codes "Value") responder (name_shown _ refl, refl) (other_bytes _ _ refl) (ascii_text responder refl), tt),
        (tt, tt),
        ((name_shown _ refl, refl), (named (codes "Value") no_passive (name_shown _ refl, refl) (other_bytes _ _ refl) (ascii_text no_passive refl), tt), (tt, tt), tt, tt),
        tt,
      ),
      tt,
    )

-- ---- signed as the mode says

pub assertion_signed : (mode : SignMode) (key : List ℕ) (made : Made) → IsMade made → IsMade (signed_assertion mode key made)
assertion_signed modes.Assertion key made is = signed_made key made is
assertion_signed modes.Response key made is = is
assertion_signed modes.Both key made is = signed_made key made is

pub response_signed : (mode : SignMode) (key : List ℕ) (made : Made) → IsMade made → IsMade (signed_response mode key made)
response_signed modes.Assertion key made is = is
response_signed modes.Response key made is = signed_made key made is
response_signed modes.Both key made is = signed_made key made is
