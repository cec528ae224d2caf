-- The texts of an accepted session are texts of XML.
use Rattle.std.specs.Prelude.{IfSome, Option, None, Some}
use Rattle.std.proofs.Common.{◌≡◌, ◌⊎◌, ℕ, true, List, [], ◌∷◌, ◌++◌, sym, subst, refl}
use Rattle.std.specs.List.{AllByRecursion, flat_map, list_all}
use Rattle.owned_values.specs.declared.attributes.Attribute.{Attribute}
use Rattle.xml_spec.specs.Characters.{IsText}
use Rattle.xml_spec.specs.Document.{Spells}
use Rattle.xml_spec.specs.Tree.{Nodes}
use Rattle.xml_spec.proofs.Tests.{and_true}
use Rattle.canon_laws.specs.Writable.{IsWritable}
use Rattle.assertion_model.specs.declared.login.Login.{Login}
use Rattle.assertion_model.specs.Assertion.{IsStatable}
use Rattle.assertion_model.specs.LoginTexts.{HoldsTexts}
use Rattle.assertion_model.specs.Parts.{login_at}
use Rattle.ledger_rules.specs.Numbers.{is_xml_text}
use Rattle.request_rows.specs.declared.row.AskedRow.{AskedRow}
use Rattle.request_rows.specs.declared.row.NewSession.{NewSession}
use Rattle.request_rows.specs.Rows.{RowsView}
use Rattle.request_ledger.specs.Record.{of_attribute}
use Rattle.request_ledger.specs.Drafts.{AreSessionTexts}
use Rattle.request_ledger.proofs.Draftable.{text_is_allowed}
use Rattle.sp_rules.specs.declared.accepted.Accepted.{Accepted}
use Rattle.sp_rules.specs.declared.config.SpConfig.{SpConfig}
use Rattle.sp_rules.specs.Opening.{Brought, Opens}
use Rattle.sp_rules.specs.Shown.{IsOpening, session_of}
use Rattle.sp_answers.specs.Judging.{CanBeRecorded}
use Rattle.std.specs.Option.{option_to_list}

are_allowed : (texts : List (List ℕ)) → AllByRecursion IsText texts → list_all is_xml_text texts ≡ true
are_allowed [] all = refl
are_allowed (text ∷ texts) all = and_true (is_xml_text text) (list_all is_xml_text texts) (text_is_allowed text all.0) (are_allowed texts all.1)

all_both : (one other : List (List ℕ)) → AllByRecursion IsText one → AllByRecursion IsText other → AllByRecursion IsText (one ++ other)
all_both [] other a b = b
all_both (text ∷ one) other a b = (a.0, all_both one other a.1 b)

of_index : (index : Option (List ℕ)) → IfSome index IsText → AllByRecursion IsText (option_to_list index)
of_index None is = tt
of_index (Some index) is = (is, tt)

of_attributes : (attributes : List Attribute) → AllByRecursion IsStatable attributes → AllByRecursion IsText (flat_map of_attribute attributes)
of_attributes [] all = tt
of_attributes (a ∷ attributes) all = all_both (of_attribute a) (flat_map of_attribute attributes) (all.0.name, all.0.values) (of_attributes attributes all.1)

of_login : (config : SpConfig) (now number : ℕ) (login : Login) → HoldsTexts login → AreSessionTexts (session_of config now number login)
of_login config now number login texts =
    are_allowed (login.request ∷ login.issuer ∷ login.id ∷ login.name ∷ option_to_list login.index ++ flat_map of_attribute login.attributes)
    (texts.request, (texts.issuer, (texts.id, (texts.name, all_both (option_to_list login.index) (flat_map of_attribute login.attributes) (of_index login.index texts.index) (of_attributes login.attributes texts.attributes)))))

-- the texts of a session that a form opens
pub texts_opened : ((bytes : List ℕ) (tree : Nodes) → Spells bytes tree → IsWritable tree)
    → ((tree : Nodes) (e : ℕ) (login : Login) → IsWritable tree → login_at tree e ≡ Some login → HoldsTexts login)
    → (config : SpConfig) (rows : RowsView) (horizon now : ℕ) (body : List ℕ) (b : Brought) (row : AskedRow) (number : ℕ) → Opens config rows horizon now body b row
    → AreSessionTexts (session_of config now number b.login)
texts_opened writable texts config rows horizon now body b row number opens =
    of_login config now number b.login
    (texts b.carried.tree b.p b.login (writable b.carried.message b.carried.tree opens.brings.carries.spelled.spells) opens.brings.read)

pub its_texts : (config : SpConfig) (rows : RowsView) (horizon now : ℕ) (body : List ℕ) (accepted : Accepted)
    → ((bytes : List ℕ) (tree : Nodes) → Spells bytes tree → IsWritable tree)
    → ((tree : Nodes) (e : ℕ) (login : Login) → IsWritable tree → login_at tree e ≡ Some login → HoldsTexts login)
    → IsOpening config rows horizon now body accepted → AreSessionTexts accepted.session
its_texts config rows horizon now body accepted writable texts opening =
    subst AreSessionTexts (sym opening.is.session)
    (texts_opened writable texts config rows horizon now body opening.brought opening.asked opening.brought.key.number opening.opens)

-- it can be recorded
pub recordable : ((bytes : List ℕ) (tree : Nodes) → Spells bytes tree → IsWritable tree)
    → ((tree : Nodes) (e : ℕ) (login : Login) → IsWritable tree → login_at tree e ≡ Some login → HoldsTexts login)
    → (config : SpConfig) (rows : RowsView) (horizon now : ℕ) (body : List ℕ) (accepted : Accepted)
    → IsOpening config rows horizon now body accepted → (accepted.session.key ≡ 1) ⊎ (accepted.session.key ≡ 2)
    → CanBeRecorded accepted.session
recordable writable texts config rows horizon now body accepted opening key =
    let b = opening.brought in
    let held = texts b.carried.tree b.p b.login
    (writable b.carried.message b.carried.tree opening.opens.brings.carries.spelled.spells) opening.opens.brings.read in
    record {
      texts = its_texts config rows horizon now body accepted writable texts opening;
      key = key;
      name = subst (λ (s : NewSession). IsText s.name) (sym opening.is.session) held.name;
      attributes = subst (λ (s : NewSession). AllByRecursion IsStatable s.attributes) (sym opening.is.session) held.attributes;
    }
