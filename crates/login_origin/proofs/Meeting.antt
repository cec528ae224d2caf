-- A form that brings one signed element meets the premises where that is all that was signed.
use Rattle.std.proofs.Common.{◌≡◌, ℕ, List, [], ◌∷◌, codes, refl, sym, ap, ◌∙◌, subst}
use Rattle.std.specs.Prelude.{Contains, Option, Result, Ok}
use Rattle.std.specs.List.{AllByRecursion}
use Rattle.xml_spec.specs.Document.{Spells}
use Rattle.xml_spec.proofs.Documents.{one_tree}
use Rattle.saml_names.specs.Names.{saml}
use Rattle.tree_read.specs.Children.{children}
use Rattle.post_binding.specs.declared.posted.Posted.{Posted}
use Rattle.post_binding.specs.Form.{form}
use Rattle.sig_reference.specs.Form.{HasForm}
use Rattle.sig_reference.proofs.OneSignature.{one_signature}
use Rattle.sp_rules.specs.declared.config.SpConfig.{SpConfig}
use Rattle.sp_rules.specs.Covering.{signed_of}
use Rattle.sp_rules.specs.Opening.{Brought, Posts, Brings}
use Rattle.login_origin.specs.Signed.{Signed, IsSigned, info_text, signed_text}
use Rattle.login_origin.specs.Premises.{IsPosted, Unforged, NoCollision}
use Rattle.login_origin.proofs.Lists.{contained, contains_first}
use Rattle.login_origin.proofs.Signing.{posted}

one_answer : {T E : Type 0} (r : Result T E) (x y : T) → r ≡ Ok x → r ≡ Ok y → x ≡ y
one_answer r x y p q = let both : Ok x ≡ Ok y = sym p ∙ q in cc

one_message : (body message other : List ℕ) (relay third : Option (List ℕ)) → Posts body message relay → Posts body other third → message ≡ other
one_message body message other relay third p q = ap (λ (read : Posted). read.message) (one_answer (form body) _ _ p q)

module _ (config : SpConfig) (now : ℕ) (body : List ℕ) (b : Brought) (brings : Brings config now body b)
    (one : signed_of b.carried.tree b.p ≡ b.e ∷ []) where
  abbrev own : Signed
  own = posted config now body b brings

  -- the form carries one signed element
  only_posted : (s : Signed) → IsPosted body s → s ≡ own
  only_posted s here =
      let message = one_message body s.bytes b.carried.message here.relay b.carried.relay here.carries.posted brings.carries.posted in
      let tree : s.tree ≡ b.carried.tree =
      one_tree b.carried.message s.tree b.carried.tree (subst (λ m. Spells m s.tree) message here.carries.spelled.spells) brings.carries.spelled.spells
      in
      let assertions : here.p ∷ [] ≡ b.p ∷ [] =
      sym here.asserts.one ∙ sym here.carries.response.assertions ∙ ap (λ t. children t 0 (saml (codes "Assertion"))) tree
      ∙ brings.carries.response.assertions ∙ brings.asserts.one
      in
      let assertion : here.p ≡ b.p = cc in
      let listed : Contains (b.e ∷ []) s.element = subst (λ es. Contains es s.element) ((λ i. signed_of (tree i) (assertion i)) ∙ one) here.signed in
      let element : s.element ≡ b.e = contained (λ n. n ≡ b.e) (b.e ∷ []) s.element (refl, tt) listed in
      let form : HasForm b.carried.tree b.e s.parts =
      subst (λ n. HasForm b.carried.tree n s.parts) element (subst (λ t. HasForm t s.element s.parts) tree here.form)
      in
      let parts : s.parts ≡ own.parts = one_signature b.carried.tree b.e s.parts own.parts form brings.covered.first.vouches.form in
      λ i. record { bytes = message i; tree = tree i; element = element i; parts = parts i }

  own_is_signed : IsSigned own
  own_is_signed = record {
    spelled = brings.carries.spelled.spells;
    named = brings.carries.spelled.names;
    form = brings.covered.first.vouches.form;
    digest = brings.covered.first.vouches.digest.digest;
  }

  pub premises_are_met : (issued : List Signed) × AllByRecursion IsSigned issued × Unforged issued config now body × NoCollision issued body
  premises_are_met = (
    own ∷ [],
    (own_is_signed, tt),
    (λ s key here known tag. (own, contains_first own [], ap info_text (sym (only_posted s here)))),
    (λ s t here known same.
        ap signed_text (only_posted s here ∙ sym (contained (λ r. r ≡ own) (own ∷ []) t (refl, tt) known))),
  )
