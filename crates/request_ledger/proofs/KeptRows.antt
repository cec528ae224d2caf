-- The visible rows of what is kept are those of all.
use Rattle.std.proofs.Common.{◌≡◌, ℕ, Bool, true, false, ◌||◌, cond, List, [], ◌∷◌, filter, bytes_eq, refl, ap, ◌∙◌}
use Rattle.std.specs.List.{list_any}
use Rattle.std.proofs.lemmas.Bool.{false≢true, or_left, false_from_ne_true}
use Rattle.ledger_records.specs.declared.sp_record.Opened.{Opened}
use Rattle.ledger_records.specs.declared.sp_record.Left.{Left}
use Rattle.ledger_records.specs.declared.sp_record.SpRecord.{SpRecord}
use Rattle.ledger_records.specs.declared.sp_record.SpRecord.TheVariants as kinds
use Rattle.request_rows.specs.declared.row.AskedRow.{AskedRow}
use Rattle.request_rows.specs.declared.row.OpenedRow.{OpenedRow}
use Rattle.request_rows.specs.declared.row.LeftRow.{LeftRow}
use Rattle.request_rows.specs.Rows.{visible}
use Rattle.request_ledger.specs.Naming.{has_visible, names}
use Rattle.record_ledger.specs.Marks.{all, kept, KeepsAll}
use Rattle.record_ledger.proofs.Words.{each_weaker, other_way}
use Rattle.record_ledger.proofs.KeptMarks.{any_same}
use Rattle.request_ledger.specs.RowsOf.{asked_rows, opened_rows, left_rows, asked_row, opened_row, left_row, closes, confirms}
use Rattle.request_ledger.proofs.KeptMarks.{Marked, NamersOf, AreClosed}

-- what closes a session names its record, and what confirms a logout
closer_names : (r : Opened) (x : SpRecord) → closes r.token x ≡ true → names x (kinds.Opened r) ≡ true
closer_names r (kinds.Left x) here = or_left (bytes_eq x.token r.token) false here
closer_names r (kinds.Ended x) here = here
closer_names r other here = absurd (false≢true here)

confirmer_names : (r : Left) (x : SpRecord) → confirms r.request x ≡ true → names x (kinds.Left r) ≡ true
confirmer_names r (kinds.Confirmed x) here = other_way x.request r.request here
confirmer_names r other here = absurd (false≢true here)

same_closed : (r : Opened) (later : List Marked) → NamersOf (true, kinds.Opened r) later → list_any (closes r.token) (kept later) ≡ list_any (closes r.token) (all later)
same_closed r later namers =
    any_same (closes r.token) later
    (each_weaker (λ (n : Marked). names n.1 (kinds.Opened r) ≡ true → n.0 ≡ true) (λ (n : Marked). closes r.token n.1 ≡ true → n.0 ≡ true)
    (λ n keeps here. keeps (closer_names r n.1 here)) later namers)

same_confirmed : (r : Left) (later : List Marked) → NamersOf (true, kinds.Left r) later → list_any (confirms r.request) (kept later) ≡ list_any (confirms r.request) (all later)
same_confirmed r later namers =
    any_same (confirms r.request) later
    (each_weaker (λ (n : Marked). names n.1 (kinds.Left r) ≡ true → n.0 ≡ true) (λ (n : Marked). confirms r.request n.1 ≡ true → n.0 ≡ true)
    (λ n keeps here. keeps (confirmer_names r n.1 here)) later namers)

module _ (now horizon : ℕ) where
  abbrev pub asked_seen : AskedRow → Bool
  asked_seen row = visible row.until now horizon

  abbrev pub opened_seen : OpenedRow → Bool
  opened_seen row = visible row.until now horizon || visible row.assertion_until now horizon

  abbrev pub left_seen : LeftRow → Bool
  left_seen row = visible row.until now horizon

  unseen : (r : SpRecord) → (has_visible now horizon r ≡ true → false ≡ true) → has_visible now horizon r ≡ false
  unseen r keeps = false_from_ne_true (has_visible now horizon r) (λ here. false≢true (keeps here))

  pub asked_alike : (marks : List Marked) → KeepsAll (has_visible now horizon) marks
      → filter asked_seen (asked_rows (kept marks)) ≡ filter asked_seen (asked_rows (all marks))
  asked_alike [] keeps = refl
  asked_alike ((true, kinds.Asked r) ∷ marks) keeps =
      ap (λ rest. cond (visible r.until now horizon) (asked_row r ∷ rest) rest) (asked_alike marks keeps.1)
  asked_alike ((false, kinds.Asked r) ∷ marks) keeps = rw (unseen (kinds.Asked r) keeps.0) (asked_alike marks keeps.1)
  asked_alike ((true, kinds.Opened r) ∷ marks) keeps = asked_alike marks keeps.1
  asked_alike ((true, kinds.Left r) ∷ marks) keeps = asked_alike marks keeps.1
  asked_alike ((true, kinds.Ended r) ∷ marks) keeps = asked_alike marks keeps.1
  asked_alike ((true, kinds.Confirmed r) ∷ marks) keeps = asked_alike marks keeps.1
  asked_alike ((false, kinds.Opened r) ∷ marks) keeps = asked_alike marks keeps.1
  asked_alike ((false, kinds.Left r) ∷ marks) keeps = asked_alike marks keeps.1
  asked_alike ((false, kinds.Ended r) ∷ marks) keeps = asked_alike marks keeps.1
  asked_alike ((false, kinds.Confirmed r) ∷ marks) keeps = asked_alike marks keeps.1

  pub opened_alike : (marks : List Marked) → KeepsAll (has_visible now horizon) marks → AreClosed marks
      → filter opened_seen (opened_rows (kept marks)) ≡ filter opened_seen (opened_rows (all marks))
  opened_alike [] keeps linked = refl
  opened_alike ((true, kinds.Opened r) ∷ marks) keeps linked =
      let seen = has_visible now horizon (kinds.Opened r) in
      let closed = list_any (closes r.token) (all marks) in
      ap (λ b. cond seen (opened_row b r ∷ filter opened_seen (opened_rows (kept marks))) (filter opened_seen (opened_rows (kept marks))))
      (same_closed r marks linked.0)
      ∙ ap (λ rest. cond seen (opened_row closed r ∷ rest) rest) (opened_alike marks keeps.1 linked.1)
  opened_alike ((false, kinds.Opened r) ∷ marks) keeps linked = rw (unseen (kinds.Opened r) keeps.0) (opened_alike marks keeps.1 linked.1)
  opened_alike ((true, kinds.Asked r) ∷ marks) keeps linked = opened_alike marks keeps.1 linked.1
  opened_alike ((true, kinds.Left r) ∷ marks) keeps linked = opened_alike marks keeps.1 linked.1
  opened_alike ((true, kinds.Ended r) ∷ marks) keeps linked = opened_alike marks keeps.1 linked.1
  opened_alike ((true, kinds.Confirmed r) ∷ marks) keeps linked = opened_alike marks keeps.1 linked.1
  opened_alike ((false, kinds.Asked r) ∷ marks) keeps linked = opened_alike marks keeps.1 linked.1
  opened_alike ((false, kinds.Left r) ∷ marks) keeps linked = opened_alike marks keeps.1 linked.1
  opened_alike ((false, kinds.Ended r) ∷ marks) keeps linked = opened_alike marks keeps.1 linked.1
  opened_alike ((false, kinds.Confirmed r) ∷ marks) keeps linked = opened_alike marks keeps.1 linked.1

  pub left_alike : (marks : List Marked) → KeepsAll (has_visible now horizon) marks → AreClosed marks
      → filter left_seen (left_rows (kept marks)) ≡ filter left_seen (left_rows (all marks))
  left_alike [] keeps linked = refl
  left_alike ((true, kinds.Left r) ∷ marks) keeps linked =
      let seen = has_visible now horizon (kinds.Left r) in
      let confirmed = list_any (confirms r.request) (all marks) in
      ap (λ b. cond seen (left_row b r ∷ filter left_seen (left_rows (kept marks))) (filter left_seen (left_rows (kept marks))))
      (same_confirmed r marks linked.0)
      ∙ ap (λ rest. cond seen (left_row confirmed r ∷ rest) rest) (left_alike marks keeps.1 linked.1)
  left_alike ((false, kinds.Left r) ∷ marks) keeps linked = rw (unseen (kinds.Left r) keeps.0) (left_alike marks keeps.1 linked.1)
  left_alike ((true, kinds.Asked r) ∷ marks) keeps linked = left_alike marks keeps.1 linked.1
  left_alike ((true, kinds.Opened r) ∷ marks) keeps linked = left_alike marks keeps.1 linked.1
  left_alike ((true, kinds.Ended r) ∷ marks) keeps linked = left_alike marks keeps.1 linked.1
  left_alike ((true, kinds.Confirmed r) ∷ marks) keeps linked = left_alike marks keeps.1 linked.1
  left_alike ((false, kinds.Asked r) ∷ marks) keeps linked = left_alike marks keeps.1 linked.1
  left_alike ((false, kinds.Opened r) ∷ marks) keeps linked = left_alike marks keeps.1 linked.1
  left_alike ((false, kinds.Ended r) ∷ marks) keeps linked = left_alike marks keeps.1 linked.1
  left_alike ((false, kinds.Confirmed r) ∷ marks) keeps linked = left_alike marks keeps.1 linked.1
