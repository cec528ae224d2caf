-- What is accepted of a login that is covered.
use Rattle.std.proofs.Common.{◌≡◌, ℕ, List, [], ◌∷◌, ◌⊎◌, Option, None, Some, codes, inl, inr, sym, ◌∙◌, ap, subst}
use Rattle.std.specs.Prelude.{IfSome}
use Rattle.std.specs.List.{AllByRecursion}
use Rattle.std.specs.Option.{option_map}
use Rattle.xml_spec.specs.Tree.{Nodes}
use Rattle.xml_spec.specs.Document.{Spells}
use Rattle.saml_names.specs.Names.{saml}
use Rattle.saml_tree.specs.Documents.{DocumentView}
use Rattle.tree_read.specs.Children.{children}
use Rattle.tree_read.specs.Texts.{text_of}
use Rattle.sig_reference.specs.Vouching.{IsIn, IsVouched}
use Rattle.assertion_model.specs.declared.login.Login.{Login}
use Rattle.assertion_model.specs.Parts.{login_at}
use Rattle.assertion_model.specs.Places.{name_place, value_places, values_of, IsPlace}
use Rattle.assertion_model.specs.Places as places
use Rattle.assertion_model.proofs.ApartLemmas.{signature_inside, name_is_apart, values_are_apart, name_is_apart_from_own, values_are_apart_from_own}
use Rattle.assertion_model.proofs.PlaceLemmas.{name_place_is, value_places_are}
use Rattle.assertion_model.proofs.SaidLemmas.{name_said, values_said}
use Rattle.request_rows.specs.declared.row.AskedRow.{AskedRow}
use Rattle.request_rows.specs.declared.row.NewSession.{NewSession}
use Rattle.sp_rules.specs.declared.accepted.Accepted.{Accepted}
use Rattle.sp_rules.specs.declared.config.SpConfig.{SpConfig}
use Rattle.sp_rules.specs.declared.cover.Cover.{Cover}
use Rattle.sp_rules.specs.Keys.{Key}
use Rattle.sp_rules.specs.Shown.{session_of, IsWrittenAt, AreWrittenAt, IsAcceptedOf}
use Rattle.sp_rules.specs.Views.{IsCoverOf}
use Rattle.sp_rules.proofs.Covers.{itself, in_response, first_is}
use Rattle.sp_rules.proofs.Showing.{written_in, shown_at, all_shown_at}

-- what holds where there is a value holds of it
pub of_some : {X : Type 0} (P : X → Type 0) (o : Option X) (x : X) → IfSome o P → o ≡ Some x → P x
of_some P None x h e = absurd (cc)
of_some P (Some y) x h e = let same : y ≡ x = cc in subst P same h

-- the assertion lies in the first element that is signed
pub in_first : (tree : Nodes) (p e : ℕ) → children tree 0 (saml (codes "Assertion")) ≡ p ∷ [] → (e ≡ 0) ⊎ (e ≡ p) → IsIn tree e p
in_first tree p e one (inl h) = subst (λ n. IsIn tree n p) (sym h) (in_response tree p one)
in_first tree p e one (inr h) = subst (λ n. IsIn tree n p) (sym h) (itself tree p)

name_at : (tree : Nodes) (p name : ℕ) (login : Login) (session : NewSession) → login_at tree p ≡ Some login → name_place tree p ≡ Some name →
    session.name ≡ login.name → text_of tree name ≡ session.name
name_at tree p name login session read place same =
    let told : Some (text_of tree name) ≡ Some login.name = sym (ap (option_map (text_of tree)) place) ∙ name_said tree p login read in
    let text : text_of tree name ≡ login.name = cc in
    text ∙ sym same

-- WHERE IT STANDS

pub record Stands (document : DocumentView) (p : ℕ) (cover : Cover) (name : ℕ) (a : Accepted) : Type 0 where
  pub covered : IsWrittenAt document.text document.tree cover.first.0 a.covered
  pub signature : IsWrittenAt document.text document.tree cover.signature.0 a.signature
  pub assertion : IsWrittenAt document.text document.tree p a.assertion
  pub name_span : IsWrittenAt document.text document.tree name a.name_span
  pub value_spans : AreWrittenAt document.text document.tree (value_places document.tree p) a.value_spans

pub accepted_is : (keys : List Key) (config : SpConfig) (now : ℕ) (cover : Cover) (login : Login) (asked : AskedRow) (name : ℕ) (a : Accepted) →
    Spells cover.assertion.document.text cover.assertion.document.tree → IsVouched cover.assertion →
    children cover.assertion.document.tree 0 (saml (codes "Assertion")) ≡ cover.assertion.node ∷ [] →
    IsCoverOf keys cover.assertion.document cover.assertion.node cover →
    login_at cover.assertion.document.tree cover.assertion.node ≡ Some login → name_place cover.assertion.document.tree cover.assertion.node ≡ Some name →
    a.session ≡ session_of config now cover.key login → a.target ≡ asked.target → Stands cover.assertion.document cover.assertion.node cover name a →
    IsAcceptedOf config now cover.assertion.document.text cover.assertion.document.tree cover.assertion.node cover.first.0 cover.key login asked a
accepted_is keys config now cover login asked name a spells vouched child covers read place session target stands =
    let text = cover.assertion.document.text in
    let tree = cover.assertion.document.tree in
    let p = cover.assertion.node in
    let s = cover.signature.0 in
    let shown_name : IsPlace tree p name = of_some (IsPlace tree p) (name_place tree p) name (name_place_is tree p) place in
    let name_apart : places.AreApart tree cover.assertion.signature name =
    of_some (places.AreApart tree cover.assertion.signature) (name_place tree p) name (name_is_apart cover.assertion vouched) place in
    record {
      session = session;
      target = target;
      assertion = stands.assertion;
      covered = stands.covered;
      own = s;
      is_own = covers.own;
      signature = stands.signature;
      name = name;
      is_name = place;
      name_span = stands.name_span;
      name_text = name_at tree p name login a.session read place (ap (λ (made : NewSession). made.name) session);
      value_spans = stands.value_spans;
      value_texts = values_said tree p login read ∙ sym (ap (λ (made : NewSession). values_of made.attributes) session);
      signature_in_covered =
          written_in text tree cover.first.0 s a.covered a.signature spells (signature_inside tree cover.first.0 s covers.own) stands.covered stands.signature;
      assertion_in_covered =
          written_in text tree cover.first.0 p a.covered a.assertion spells
          (in_first tree p cover.first.0 child (first_is keys tree p cover.first.0 covers.key covers.covered)) stands.covered stands.assertion;
      name_shown =
          shown_at text tree p s name a.assertion a.signature a.name_span spells stands.assertion stands.signature stands.name_span shown_name.inside
          (subst (λ n. places.AreApart tree n name) covers.same name_apart)
          (λ own is. of_some (places.AreApart tree own) (name_place tree p) name (name_is_apart_from_own tree p own is) place);
      values_shown =
          all_shown_at text tree p s a.assertion a.signature spells stands.assertion stands.signature (value_places tree p) a.value_spans stands.value_spans
          (value_places_are tree p) (subst (λ n. AllByRecursion (places.AreApart tree n) (value_places tree p)) covers.same (values_are_apart cover.assertion vouched))
          (values_are_apart_from_own tree p);
    }
