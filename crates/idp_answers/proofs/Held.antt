-- The Assertion of a Response that was made: where it stands, and that it is the only one.
use Rattle.std.proofs.Common.{◌≡◌, ℕ, suc, ◌+◌, ◌⊎◌, Bool, true, false, List, [], ◌∷◌, codes, Some, refl, sym, ap, ◌∙◌, subst, inl, inr, arith}
use Rattle.xml_spec.specs.Tree.{Attribute, NoNodes, with_text}
use Rattle.xml_spec.specs.Numbering.{size}
use Rattle.saml_names.specs.Names.{saml, ds}
use Rattle.tree_read.specs.Children.{children}
use Rattle.element_make.specs.declared.names.Ns.TheVariants.{Samlp, Ds}
use Rattle.element_make.specs.Made.{Made, MadeNodes, NothingMade, alone, joined, with_second, nodes_of, tree_of}
use Rattle.sig_reference.specs.Placing.{Around, Beside, filled, place_in}
use Rattle.sig_reference.specs.Signing.{signed, signature}
use Rattle.assertion_model.specs.declared.login.Login.{Login}
use Rattle.assertion_model.specs.Assertion.{assertion, IsAssertionOf}
use Rattle.protocol_messages.specs.Making.{response, assertion_made, issuer_made, succeeded}
use Rattle.provider_config.specs.declared.idp_config.SignMode.{SignMode}
use Rattle.provider_config.specs.declared.idp_config.SignMode.TheVariants as modes
use Rattle.idp_answers.specs.Answers.{IsIssued, signed_if, signs_assertion, signs_response, signed_assertion, signed_response}

-- the Response holds this element, its one Assertion
pub record Holds (sent held : Made) : Type 0 where
  pub around : Around
  pub holds : sent.kids ≡ filled around held
  pub one : children (tree_of sent) 0 (saml (codes "Assertion")) ≡ place_in sent around ∷ []

module _ (message issuer consumer request instant : List ℕ) (attributes : List Attribute) (kids : MadeNodes) where
  abbrev held : Made
  held = assertion_made attributes kids

  abbrev unsigned : Made
  unsigned = response message issuer consumer request (Some held) instant

  as_it_is : Holds unsigned held
  as_it_is = record {
    around = Beside (joined (issuer_made issuer) succeeded) NothingMade;
    holds = refl;
    one =
        let i = size (with_text issuer NoNodes) in
        let number : suc (suc (1 + i) + 1) ≡ 1 + suc (i + 2) = omega arith in
        ap (λ n. n ∷ []) number;
  }

  with_signature : (key : List ℕ) (info : Made) → Holds (record unsigned { kids = with_second unsigned.kids (alone (signature key info)) }) held
  with_signature key info = record {
    around = Beside (joined (issuer_made issuer) (joined (alone (signature key info)) succeeded)) NothingMade;
    holds = refl;
    one =
        let i = size (with_text issuer NoNodes) in
        let s = size (nodes_of (Ds ∷ Samlp ∷ []) (signature key info).kids) in
        let number : suc (suc (suc (1 + i) + s) + 1) ≡ 1 + suc (i + suc (s + 2)) = omega arith in
        ap (λ n. n ∷ []) number;
  }

  not_signed : children (tree_of unsigned) 0 (ds (codes "Signature")) ≡ []
  not_signed = refl

-- of a login
module _ (key : List ℕ) (login : Login) (made unsigned sent : Made) (is : IsAssertionOf login made) (message issuer consumer request instant : List ℕ) where
  abbrev response_with : Made → Made
  response_with held = response message issuer consumer request (Some held) instant

  abbrev own : Made
  own = assertion login is.moments

  of_login : (mode : SignMode) → unsigned ≡ response_with (signed_assertion mode key made) → sent ≡ signed_response mode key unsigned →
      Holds sent (signed_assertion mode key made)
  of_login modes.Assertion answers sends =
      subst (λ (s : Made). Holds s (signed key made)) (sym (sends ∙ answers))
      (subst (λ (a : Made). Holds (response_with (signed key a)) (signed key a)) (sym is.is)
      (as_it_is message issuer consumer request instant own.attributes (signed key own).kids))
  of_login modes.Response answers sends =
      subst (λ (s : Made). Holds s made) (sym (sends ∙ ap (signed key) answers))
      (subst (λ (a : Made). Holds (signed key (response_with a)) a) (sym is.is)
      (with_signature message issuer consumer request instant own.attributes own.kids key _))
  of_login modes.Both answers sends =
      subst (λ (s : Made). Holds s (signed key made)) (sym (sends ∙ ap (signed key) answers))
      (subst (λ (a : Made). Holds (signed key (response_with (signed key a))) (signed key a)) (sym is.is)
      (with_signature message issuer consumer request instant own.attributes (signed key own).kids key _))

  no_signature : (mode : SignMode) → signs_response mode ≡ false → unsigned ≡ response_with (signed_assertion mode key made) →
      sent ≡ signed_response mode key unsigned → children (tree_of sent) 0 (ds (codes "Signature")) ≡ []
  no_signature modes.Assertion h answers sends =
      ap (λ (s : Made). children (tree_of s) 0 (ds (codes "Signature"))) (sends ∙ answers)
      ∙ ap (λ (a : Made). children (tree_of (response_with (signed key a))) 0 (ds (codes "Signature"))) is.is
      ∙ not_signed message issuer consumer request instant own.attributes (signed key own).kids
  no_signature modes.Response h answers sends = absurd (let clash : true ≡ false = h in cc)
  no_signature modes.Both h answers sends = absurd (let clash : true ≡ false = h in cc)

module _ (mode : SignMode) (key : List ℕ) (login : Login) (message consumer : List ℕ) (now : ℕ) (sent : Made) (issued : IsIssued mode key login message consumer now sent) where
  -- the Response that is sent holds the Assertion as it was signed
  pub issued_holds : Holds sent (signed_assertion mode key issued.assertion)
  issued_holds =
      of_login key login issued.assertion issued.unsigned sent issued.of_login message login.issuer consumer login.request issued.answers.instant
      mode issued.answers.is issued.is

  pub issued_unsigned : signs_response mode ≡ false → children (tree_of sent) 0 (ds (codes "Signature")) ≡ []
  issued_unsigned h =
      no_signature key login issued.assertion issued.unsigned sent issued.of_login message login.issuer consumer login.request issued.answers.instant
      mode h issued.answers.is issued.is

pub held_signed : (mode : SignMode) (key : List ℕ) (made : Made) → signs_assertion mode ≡ true → signed_assertion mode key made ≡ signed key made
held_signed mode key made h = ap (λ b. signed_if b key made) h

pub held_unsigned : (mode : SignMode) (key : List ℕ) (made : Made) → signs_assertion mode ≡ false → signed_assertion mode key made ≡ made
held_unsigned mode key made h = ap (λ b. signed_if b key made) h

pub which : (b : Bool) → (b ≡ true) ⊎ (b ≡ false)
which true = inl refl
which false = inr refl

-- two views of one number
pub same_one : {m n : ℕ} {ns : List ℕ} → ns ≡ m ∷ [] → ns ≡ n ∷ [] → m ≡ n
same_one e f = cc
