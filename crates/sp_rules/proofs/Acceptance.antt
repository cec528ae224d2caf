-- Something is accepted of a form that opens a session: all that is shown of it stands somewhere in the message.
use Rattle.std.proofs.Common.{◌≡◌, ℕ, ◌⊎◌, List, [], ◌∷◌, Option, None, Some, codes, inl, inr, refl, sym, ◌∙◌, ap, subst}
use Rattle.std.specs.List.{AllByRecursion}
use Rattle.std.specs.Option.{option_map}
use Rattle.xml_spec.specs.Tree.{Nodes, NoNodes, Element, Text, Comment, Instruction}
use Rattle.xml_spec.specs.Numbering.{from_node}
use Rattle.xml_spec.specs.Document.{Spells}
use Rattle.range_laws.proofs.Nesting.{somewhere}
use Rattle.saml_names.specs.Names.{saml, ds}
use Rattle.saml_tree.specs.Documents.{DocumentView}
use Rattle.saml_tree.specs.Elements.{IsElement}
use Rattle.sig_reference.specs.Vouching.{IsIn, IsVouched}
use Rattle.tree_read.specs.Children.{Child, children, named}
use Rattle.tree_read.specs.Texts.{text_of}
use Rattle.assertion_model.specs.Contents.{first}
use Rattle.assertion_model.specs.Parts.{login_at, own_signature}
use Rattle.assertion_model.specs.Places.{name_place, value_places, IsPlace}
use Rattle.assertion_model.specs.declared.login.Login.{Login}
use Rattle.assertion_model.proofs.PlaceLemmas.{IsElementIn, children_in, in_both, name_element, name_place_is, of_first, value_elements}
use Rattle.assertion_model.proofs.SaidLemmas.{name_said}
use Rattle.assertion_model.proofs.ValueLemmas.{element_begins}
use Rattle.request_rows.specs.Rows.{RowsView}
use Rattle.request_rows.specs.declared.row.AskedRow.{AskedRow}
use Rattle.xml_chars.specs.declared.Span.{Span}
use Rattle.sp_rules.specs.Covering.{IsVerified}
use Rattle.sp_rules.specs.Keys.{usable}
use Rattle.sp_rules.specs.Opening.{Brought, Brings, Opens}
use Rattle.sp_rules.specs.Shown.{session_of, IsWrittenAt, AreWrittenAt, IsOpening}
use Rattle.sp_rules.specs.Views.{IsCoverOf}
use Rattle.sp_rules.specs.declared.accepted.Accepted.{Accepted}
use Rattle.sp_rules.specs.declared.config.SpConfig.{SpConfig}
use Rattle.sp_rules.specs.declared.cover.Cover.{Cover}
use Rattle.sp_rules.proofs.Accepting.{accepted_is, in_first, of_some}
use Rattle.sp_rules.proofs.Covers.{first_is, outside_signature}

-- the root of a tree that has children is an element
root_element : (tree : Nodes) (p : ℕ) → children tree 0 (saml (codes "Assertion")) ≡ p ∷ [] → IsElement tree 0
root_element NoNodes p e = absurd (cc)
root_element (Element name attributes kids rest) p e = refl
root_element (Text text rest) p e = absurd (cc)
root_element (Comment text rest) p e = absurd (cc)
root_element (Instruction target value rest) p e = absurd (cc)

module _ (text : List ℕ) (tree : Nodes) (spells : Spells text tree) where
  -- each element is written somewhere
  written : (n : ℕ) → IsElement tree n → (span : Span) × IsWrittenAt text tree n span
  written n element =
      let there = somewhere text tree spells n (element_begins (from_node tree n) element) in
      (record { start = there.0.start; end = there.0.end }, there.1)

  all_written : (numbers : List ℕ) → AllByRecursion (λ n. IsElement tree n) numbers → (found : List Span) × AreWrittenAt text tree numbers found
  all_written [] elements = ([], tt)
  all_written (n ∷ numbers) elements =
      let one = written n elements.0 in
      let others = all_written numbers elements.1 in
      (one.0 ∷ others.0, (one.1, others.1))

-- the name of a login has a place
name_there : (tree : Nodes) (p : ℕ) (login : Login) → login_at tree p ≡ Some login → (name : ℕ) × (name_place tree p ≡ Some name)
name_there tree p login read = by_place (name_place tree p) refl
  where
    by_place : (place : Option ℕ) → name_place tree p ≡ place → (name : ℕ) × (name_place tree p ≡ Some name)
    by_place None none = absurd (let told : None ≡ Some login.name = sym (ap (option_map (text_of tree)) none) ∙ name_said tree p login read in cc)
    by_place (Some name) is = (name, is)

module _ (config : SpConfig) (now : ℕ) (body : List ℕ) (b : Brought) (brings : Brings config now body b) where
  abbrev tree : Nodes
  tree = b.carried.tree

  abbrev document : DocumentView
  document = record { text = b.carried.message; tree = b.carried.tree }

  abbrev first_verified : IsVerified (usable config now) tree b.e b.key
  first_verified = brings.covered.first

  abbrev signature : ℕ
  signature = first_verified.parts.signature

  child : children tree 0 (saml (codes "Assertion")) ≡ b.p ∷ []
  child = brings.carries.response.assertions ∙ brings.asserts.one

  p_element : IsElement tree b.p
  p_element =
      let inside : AllByRecursion (IsElementIn tree 0) (b.p ∷ []) = subst (AllByRecursion (IsElementIn tree 0)) child (children_in tree 0 (saml (codes "Assertion"))) in
      let one = inside.0 in
      one.element

  own : own_signature tree b.e ≡ Some signature
  own = ap (λ (list : List Child). first (named (ds (codes "Signature")) list)) first_verified.vouches.form.children

  response_or_assertion : (b.e ≡ 0) ⊎ (b.e ≡ b.p)
  response_or_assertion = first_is (usable config now) tree b.p b.e b.key brings.covered

  e_element : IsElement tree b.e
  e_element = elim response_or_assertion [
    | inl root ↦ subst (IsElement tree) (sym root) (root_element tree b.p child)
    | inr same ↦ subst (IsElement tree) (sym same) p_element
  ]

  signature_element : IsElement tree signature
  signature_element =
      let one : IsElementIn tree b.e signature =
      of_first (IsElementIn tree b.e) (children tree b.e (ds (codes "Signature"))) signature (children_in tree b.e (ds (codes "Signature"))) own in
      one.element

  -- the Assertion does not lie in its own Signature, since its name does not
  outside_own : own_signature tree b.p ≡ Some signature → ¬ (IsIn tree signature b.p)
  outside_own is inside =
      let name = name_there tree b.p b.login brings.read in
      let place : IsPlace tree b.p name.0 = of_some (IsPlace tree b.p) (name_place tree b.p) name.0 (name_place_is tree b.p) name.1 in
      place.outside signature is (in_both tree signature b.p name.0 inside place.inside)

  outside : ¬ (IsIn tree signature b.p)
  outside inside = elim response_or_assertion [
    | inl root ↦ outside_signature tree b.p signature child (subst (λ n. own_signature tree n ≡ Some signature) root own) inside
    | inr same ↦ outside_own (subst (λ n. own_signature tree n ≡ Some signature) same own) inside
  ]

  abbrev cover : Cover
  cover = record {
    assertion = record { document = document; node = b.p; signature = signature };
    first = record { 0 = b.e };
    signature = record { 0 = signature };
    key = b.key.number;
  }

  vouched : IsVouched cover.assertion
  vouched = record {
    key = b.key.bytes;
    element = b.e;
    parts = first_verified.parts;
    vouches = inl first_verified.vouches;
    signature = refl;
    inside = in_first tree b.p b.e child response_or_assertion;
    outside = outside;
  }

  covers : IsCoverOf (usable config now) document b.p cover
  covers = record {
    key = b.key;
    covered = brings.covered;
    number = refl;
    place = refl;
    node = refl;
    own = own;
    same = refl;
    first_element = e_element;
    signature_element = signature_element;
  }

  -- what is accepted of it
  pub opening : (rows : RowsView) (horizon : ℕ) (asked : AskedRow) → Opens config rows horizon now body b asked →
      (accepted : Accepted) × IsOpening config rows horizon now body accepted
  opening rows horizon asked opens =
      let text = b.carried.message in
      let spells = brings.carries.spelled.spells in
      let name = name_there tree b.p b.login brings.read in
      let at_first = written text tree spells b.e e_element in
      let at_signature = written text tree spells signature covers.signature_element in
      let at_assertion = written text tree spells b.p p_element in
      let at_name = written text tree spells name.0 (name_element tree b.p name.0 name.1) in
      let at_values = all_written text tree spells (value_places tree b.p) (value_elements tree b.p (value_places tree b.p) refl) in
      let accepted : Accepted = record {
        session = session_of config now b.key.number b.login;
        target = asked.target;
        covered = at_first.0;
        signature = at_signature.0;
        assertion = at_assertion.0;
        name_span = at_name.0;
        value_spans = at_values.0;
      } in (
        accepted,
        record {
          brought = b;
          asked = asked;
          opens = opens;
          is =
              accepted_is (usable config now) config now cover b.login asked name.0 accepted spells vouched child covers brings.read name.1 refl refl
              (record {
                covered = at_first.1;
                signature = at_signature.1;
                assertion = at_assertion.1;
                name_span = at_name.1;
                value_spans = at_values.1;
              });
        },
      )
