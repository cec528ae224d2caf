-- A form opens one session alone, and one thing is accepted of it.
use Rattle.std.proofs.Common.{◌≡◌, ℕ, List, [], ◌∷◌, Option, Some, refl, sym, ◌∙◌, ap, subst}
use Rattle.xml_spec.specs.Tree.{Nodes}
use Rattle.xml_spec.specs.Numbering.{elements_before}
use Rattle.xml_spec.proofs.Documents.{one_tree, one_range}
use Rattle.xml_chars.specs.declared.Span.{Span}
use Rattle.saml_tree.specs.Documents.{IsSpelled}
use Rattle.protocol_messages.specs.Messages.{IsResponse}
use Rattle.protocol_messages.proofs.OneMessage.{one_response}
use Rattle.assertion_model.specs.Parts.{login_at, own_signature}
use Rattle.assertion_model.specs.Places.{name_place, value_places}
use Rattle.assertion_model.specs.declared.login.Login.{Login}
use Rattle.request_rows.specs.Rows.{RowsView}
use Rattle.request_rows.specs.declared.row.AskedRow.{AskedRow}
use Rattle.sp_rules.specs.Covering.{IsCovered}
use Rattle.sp_rules.specs.Keys.{usable}
use Rattle.sp_rules.specs.Opening.{Carried, Carries, Asserts, Brought, Brings, Opens}
use Rattle.sp_rules.specs.Outstanding.{asked_for}
use Rattle.sp_rules.specs.Shown.{place_of, IsWrittenAt, AreWrittenAt, IsAcceptedOf, IsOpening}
use Rattle.sp_rules.specs.declared.accepted.Accepted.{Accepted}
use Rattle.sp_rules.specs.declared.config.SpConfig.{SpConfig}
use Rattle.sp_rules.proofs.Exclusive.{some_one, posts_one, asserts_one}
use Rattle.sp_rules.proofs.Faults.{covered_one}

-- ONE LOGIN

-- a form carries one message, which spells one tree, whose root says one thing
pub carries_one : (body : List ℕ) (c d : Carried) → Carries body c → Carries body d → c ≡ d
carries_one body c d k l =
    let posted = posts_one body (c.message, c.relay) (d.message, d.relay) k.posted l.posted in
    let message : d.message ≡ c.message = sym (ap (λ (p : List ℕ × Option (List ℕ)). p.0) posted) in
    let spelled : IsSpelled c.message d.tree = subst (λ text. IsSpelled text d.tree) message l.spelled in
    let tree : c.tree ≡ d.tree = one_tree c.message c.tree d.tree k.spelled.spells spelled.spells in
    let head : c.head ≡ d.head =
    one_response c.tree 0 c.head d.head k.response (subst (λ t. IsResponse t 0 d.head) (sym tree) l.response) in
    λ i. record { message = (posted i).0; relay = (posted i).1; tree = tree i; head = head i }

-- it brings one login, of one element, which one key covers
pub brings_one : (config : SpConfig) (now : ℕ) (body : List ℕ) (b other : Brought) → Brings config now body b → Brings config now body other → b ≡ other
brings_one config now body b other k l =
    let keys = usable config now in
    let carried : b.carried ≡ other.carried = carries_one body b.carried other.carried k.carries l.carries in
    let p : b.p ≡ other.p =
    asserts_one b.carried.head b.p other.p k.asserts (subst (λ (c : Carried). Asserts c.head other.p) (sym carried) l.asserts) in
    let cover =
    covered_one keys b.carried.tree b.p (b.e, b.key) (other.e, other.key) k.covered
    (subst (λ (x : Carried × ℕ). IsCovered keys x.0.tree x.1 other.e other.key) (λ i. (sym carried i, sym p i)) l.covered) in
    let login : b.login ≡ other.login =
    some_one (login_at b.carried.tree b.p) b.login other.login k.read
    (subst (λ (x : Carried × ℕ). login_at x.0.tree x.1 ≡ Some other.login) (λ i. (sym carried i, sym p i)) l.read) in
    λ i. record { carried = carried i; p = p i; e = (cover i).0; key = (cover i).1; login = login i }

module _ (config : SpConfig) (rows : RowsView) (horizon now : ℕ) (body : List ℕ) where
  pub opens_one : (b other : Brought) (row for_other : AskedRow) → Opens config rows horizon now body b row →
      Opens config rows horizon now body other for_other → b ≡ other
  opens_one b other row for_other o q = brings_one config now body b other o.brings q.brings

  -- and so for one row
  pub opens_for_one : (b other : Brought) (row for_other : AskedRow) → Opens config rows horizon now body b row →
      Opens config rows horizon now body other for_other → row ≡ for_other
  opens_for_one b other row for_other o q =
      let login : other.login ≡ b.login = ap (λ (x : Brought). x.login) (sym (opens_one b other row for_other o q)) in
      some_one (asked_for rows horizon now b.login) row for_other o.request
      (subst (λ (l : Login). asked_for rows horizon now l ≡ Some for_other) login q.request)

-- ONE THING THAT IS ACCEPTED

-- an element is written at one place
written_once : (text : List ℕ) (tree : Nodes) (n : ℕ) (one other : Span) → IsWrittenAt text tree n one → IsWrittenAt text tree n other → one ≡ other
written_once text tree n one other w v =
    let place : place_of one ≡ place_of other = one_range text (elements_before tree n) (place_of one) (place_of other) w.range v.range in
    λ i. record { start = (place i).start; end = (place i).end }

all_written_once : (text : List ℕ) (tree : Nodes) (numbers : List ℕ) (found others : List Span) → AreWrittenAt text tree numbers found →
    AreWrittenAt text tree numbers others → found ≡ others
all_written_once text tree [] [] [] w v = refl
all_written_once text tree [] [] (other ∷ others) w v = absurd v
all_written_once text tree [] (span ∷ found) others w v = absurd w
all_written_once text tree (n ∷ numbers) [] others w v = absurd w
all_written_once text tree (n ∷ numbers) (span ∷ found) [] w v = absurd v
all_written_once text tree (n ∷ numbers) (span ∷ found) (other ∷ others) w v =
    let first = written_once text tree n span other w.0 v.0 in
    let rest = all_written_once text tree numbers found others w.1 v.1 in
    λ i. first i ∷ rest i

pub accepted_once : (config : SpConfig) (now : ℕ) (text : List ℕ) (tree : Nodes) (p e number : ℕ) (login : Login) (asked : AskedRow) (one other : Accepted) →
    IsAcceptedOf config now text tree p e number login asked one → IsAcceptedOf config now text tree p e number login asked other → one ≡ other
accepted_once config now text tree p e number login asked one other a b =
    let session : one.session ≡ other.session = a.session ∙ sym b.session in
    let target : one.target ≡ other.target = a.target ∙ sym b.target in
    let covered = written_once text tree e one.covered other.covered a.covered b.covered in
    let own : b.own ≡ a.own = some_one (own_signature tree e) b.own a.own b.is_own a.is_own in
    let signature =
    written_once text tree a.own one.signature other.signature a.signature (subst (λ n. IsWrittenAt text tree n other.signature) own b.signature) in
    let assertion = written_once text tree p one.assertion other.assertion a.assertion b.assertion in
    let name : b.name ≡ a.name = some_one (name_place tree p) b.name a.name b.is_name a.is_name in
    let name_span =
    written_once text tree a.name one.name_span other.name_span a.name_span (subst (λ n. IsWrittenAt text tree n other.name_span) name b.name_span) in
    let value_spans =
    all_written_once text tree (value_places tree p) one.value_spans other.value_spans a.value_spans b.value_spans in
    λ i. record {
      session = session i;
      target = target i;
      covered = covered i;
      signature = signature i;
      assertion = assertion i;
      name_span = name_span i;
      value_spans = value_spans i;
    }

pub opening_one : (config : SpConfig) (rows : RowsView) (horizon now : ℕ) (body : List ℕ) (one other : Accepted) → IsOpening config rows horizon now body one →
    IsOpening config rows horizon now body other → one ≡ other
opening_one config rows horizon now body one other a c =
    let b = a.brought in
    let brought : c.brought ≡ b = opens_one config rows horizon now body c.brought b c.asked a.asked c.opens a.opens in
    let asked : c.asked ≡ a.asked = opens_for_one config rows horizon now body c.brought b c.asked a.asked c.opens a.opens in
    accepted_once config now b.carried.message b.carried.tree b.p b.e b.key.number b.login a.asked one other a.is
    (subst (λ (x : Brought × AskedRow).
    IsAcceptedOf config now x.0.carried.message x.0.carried.tree x.0.p x.0.e x.0.key.number x.0.login x.1 other)
    (λ i. (brought i, asked i)) c.is)
