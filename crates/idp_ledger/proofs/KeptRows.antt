-- The visible rows of what is kept are those of all.
use Rattle.std.proofs.Common.{◌≡◌, ℕ, Bool, true, false, cond, List, [], ◌∷◌, ◌++◌, Option, None, Some, filter, bytes_eq, refl, ap, ◌∙◌}
use Rattle.std.specs.List.{list_any}
use Rattle.std.proofs.lemmas.Bool.{false≢true, or_left, or_parts, false_from_ne_true}
use Rattle.ledger_records.specs.declared.idp_record.Pending.{Pending}
use Rattle.ledger_records.specs.declared.idp_record.Issued.{Issued}
use Rattle.ledger_records.specs.declared.idp_record.Left.{Left}
use Rattle.ledger_records.specs.declared.idp_record.IdpRecord.{IdpRecord}
use Rattle.ledger_records.specs.declared.idp_record.IdpRecord.TheVariants as kinds
use Rattle.idp_ledger.specs.Naming.{has_visible, has_session_visible, has_cookie, issue_names, names}
use Rattle.record_ledger.specs.Marks.{all, kept, KeepsAll}
use Rattle.record_ledger.proofs.Words.{each_weaker, other_way}
use Rattle.record_ledger.proofs.KeptMarks.{any_same}
use Rattle.idp_rows.specs.declared.row.PendingRow.{PendingRow}
use Rattle.idp_rows.specs.declared.row.SessionRow.{SessionRow}
use Rattle.idp_rows.specs.declared.row.LeftRow.{LeftRow}
use Rattle.idp_rows.specs.Finding.{visible}
use Rattle.idp_rows.specs.RowsOf.{if_pending, pending_rows, session_rows, left_rows, pending_row, session_row, left_row, uses, ends, confirms}
use Rattle.idp_ledger.proofs.KeptMarks.{Marked, NamersOf, AreClosed}
use Rattle.owned_values.specs.Options.{is_there}

-- what uses a login, ends a session or confirms a logout names its record
issue_user : (r : Pending) (p : Option (List ℕ)) (cookie : List ℕ) → is_there r.pending p ≡ true → issue_names p cookie (kinds.Pending r) ≡ true
issue_user r None cookie here = absurd (false≢true here)
issue_user r (Some pending) cookie here = other_way pending r.pending here

user_names : (r : Pending) (x : IdpRecord) → uses r.pending x ≡ true → names x (kinds.Pending r) ≡ true
user_names r (kinds.Issued x) here = issue_user r x.pending x.cookie here
user_names r other here = absurd (false≢true here)

ender_names : (r : Issued) (pending : List ℕ) → r.pending ≡ Some pending → (x : IdpRecord) → ends r.cookie x ≡ true → names x (kinds.Issued r) ≡ true
ender_names r pending e (kinds.Ended x) here = ap (λ p. has_cookie x.cookies p r.cookie) e ∙ here
ender_names r pending e (kinds.Left x) here = ap (λ p. has_cookie (x.cookie ∷ []) p r.cookie) e ∙ or_left (bytes_eq x.cookie r.cookie) false here
ender_names r pending e (kinds.Round x) here = ap (λ p. has_cookie x.cookies p r.cookie) e ∙ here
ender_names r pending e other here = absurd (false≢true here)

confirmer_names : (r : Left) (x : IdpRecord) → confirms r.request x ≡ true → names x (kinds.Left r) ≡ true
confirmer_names r (kinds.Confirmed x) here = other_way x.request r.request here
confirmer_names r other here = absurd (false≢true here)

same_marked : (r : IdpRecord) (test : IdpRecord → Bool) (later : List Marked) → ((x : IdpRecord) → test x ≡ true → names x r ≡ true) → NamersOf (true, r) later
    → list_any test (kept later) ≡ list_any test (all later)
same_marked r test later lead namers =
    any_same test later
    (each_weaker (λ (n : Marked). names n.1 r ≡ true → n.0 ≡ true) (λ (n : Marked). test n.1 ≡ true → n.0 ≡ true) (λ n keeps here. keeps (lead n.1 here)) later namers)

module _ (now horizon : ℕ) where
  abbrev pub pending_seen : PendingRow → Bool
  pending_seen row = visible row.until now horizon

  abbrev pub session_seen : SessionRow → Bool
  session_seen row = visible row.until now horizon

  abbrev pub left_seen : LeftRow → Bool
  left_seen row = visible row.until now horizon

  unseen : (r : IdpRecord) → (has_visible now horizon r ≡ true → false ≡ true) → has_visible now horizon r ≡ false
  unseen r keeps = false_from_ne_true (has_visible now horizon r) (λ here. false≢true (keeps here))

  pub pendings_alike : (marks : List Marked) → KeepsAll (has_visible now horizon) marks → AreClosed marks
      → filter pending_seen (pending_rows (kept marks)) ≡ filter pending_seen (pending_rows (all marks))
  pendings_alike [] keeps linked = refl
  pendings_alike ((true, kinds.Pending r) ∷ marks) keeps linked =
      let seen = visible r.until now horizon in
      let used = list_any (uses r.pending) (all marks) in
      ap (λ b. cond seen (pending_row b r ∷ filter pending_seen (pending_rows (kept marks))) (filter pending_seen (pending_rows (kept marks))))
      (same_marked (kinds.Pending r) (uses r.pending) marks (user_names r) linked.0)
      ∙ ap (λ rest. cond seen (pending_row used r ∷ rest) rest) (pendings_alike marks keeps.1 linked.1)
  pendings_alike ((false, kinds.Pending r) ∷ marks) keeps linked = rw (unseen (kinds.Pending r) keeps.0) (pendings_alike marks keeps.1 linked.1)
  pendings_alike ((true, kinds.Issued r) ∷ marks) keeps linked = pendings_alike marks keeps.1 linked.1
  pendings_alike ((true, kinds.Ended r) ∷ marks) keeps linked = pendings_alike marks keeps.1 linked.1
  pendings_alike ((true, kinds.Left r) ∷ marks) keeps linked = pendings_alike marks keeps.1 linked.1
  pendings_alike ((true, kinds.Confirmed r) ∷ marks) keeps linked = pendings_alike marks keeps.1 linked.1
  pendings_alike ((true, kinds.Spoke r) ∷ marks) keeps linked = pendings_alike marks keeps.1 linked.1
  pendings_alike ((true, kinds.Round r) ∷ marks) keeps linked = pendings_alike marks keeps.1 linked.1
  pendings_alike ((true, kinds.Told r) ∷ marks) keeps linked = pendings_alike marks keeps.1 linked.1
  pendings_alike ((false, kinds.Issued r) ∷ marks) keeps linked = pendings_alike marks keeps.1 linked.1
  pendings_alike ((false, kinds.Ended r) ∷ marks) keeps linked = pendings_alike marks keeps.1 linked.1
  pendings_alike ((false, kinds.Left r) ∷ marks) keeps linked = pendings_alike marks keeps.1 linked.1
  pendings_alike ((false, kinds.Confirmed r) ∷ marks) keeps linked = pendings_alike marks keeps.1 linked.1
  pendings_alike ((false, kinds.Spoke r) ∷ marks) keeps linked = pendings_alike marks keeps.1 linked.1
  pendings_alike ((false, kinds.Round r) ∷ marks) keeps linked = pendings_alike marks keeps.1 linked.1
  pendings_alike ((false, kinds.Told r) ∷ marks) keeps linked = pendings_alike marks keeps.1 linked.1

  begun_alike : (r : Issued) (p : Option (List ℕ)) (marks : List Marked) → r.pending ≡ p → NamersOf (true, kinds.Issued r) marks
      → filter session_seen (session_rows (kept marks)) ≡ filter session_seen (session_rows (all marks))
      → filter session_seen (if_pending p (session_row (list_any (ends r.cookie) (kept marks)) r ∷ []) ++ session_rows (kept marks))
      ≡ filter session_seen (if_pending p (session_row (list_any (ends r.cookie) (all marks)) r ∷ []) ++ session_rows (all marks))
  begun_alike r None marks e namers rest = rest
  begun_alike r (Some pending) marks e namers rest =
      let seen = visible r.session_end now horizon in
      let ended = list_any (ends r.cookie) (all marks) in
      ap (λ b. cond seen (session_row b r ∷ filter session_seen (session_rows (kept marks))) (filter session_seen (session_rows (kept marks))))
      (same_marked (kinds.Issued r) (ends r.cookie) marks (ender_names r pending e) namers)
      ∙ ap (λ rows. cond seen (session_row ended r ∷ rows) rows) rest

  left_begun : (r : Issued) (p : Option (List ℕ)) (marks : List Marked) → has_session_visible now horizon p r.session_end ≡ false
      → filter session_seen (session_rows (kept marks)) ≡ filter session_seen (session_rows (all marks))
      → filter session_seen (session_rows (kept marks))
      ≡ filter session_seen (if_pending p (session_row (list_any (ends r.cookie) (all marks)) r ∷ []) ++ session_rows (all marks))
  left_begun r None marks none rest = rest
  left_begun r (Some pending) marks none rest = rw none rest

  pub sessions_alike : (marks : List Marked) → KeepsAll (has_visible now horizon) marks → AreClosed marks
      → filter session_seen (session_rows (kept marks)) ≡ filter session_seen (session_rows (all marks))
  sessions_alike [] keeps linked = refl
  sessions_alike ((true, kinds.Issued r) ∷ marks) keeps linked = begun_alike r r.pending marks refl linked.0 (sessions_alike marks keeps.1 linked.1)
  sessions_alike ((false, kinds.Issued r) ∷ marks) keeps linked =
      left_begun r r.pending marks (or_parts (visible r.until now horizon) (has_session_visible now horizon r.pending r.session_end) (unseen (kinds.Issued r) keeps.0)).1 (sessions_alike marks keeps.1 linked.1)
  sessions_alike ((true, kinds.Pending r) ∷ marks) keeps linked = sessions_alike marks keeps.1 linked.1
  sessions_alike ((true, kinds.Ended r) ∷ marks) keeps linked = sessions_alike marks keeps.1 linked.1
  sessions_alike ((true, kinds.Left r) ∷ marks) keeps linked = sessions_alike marks keeps.1 linked.1
  sessions_alike ((true, kinds.Confirmed r) ∷ marks) keeps linked = sessions_alike marks keeps.1 linked.1
  sessions_alike ((true, kinds.Spoke r) ∷ marks) keeps linked = sessions_alike marks keeps.1 linked.1
  sessions_alike ((true, kinds.Round r) ∷ marks) keeps linked = sessions_alike marks keeps.1 linked.1
  sessions_alike ((true, kinds.Told r) ∷ marks) keeps linked = sessions_alike marks keeps.1 linked.1
  sessions_alike ((false, kinds.Pending r) ∷ marks) keeps linked = sessions_alike marks keeps.1 linked.1
  sessions_alike ((false, kinds.Ended r) ∷ marks) keeps linked = sessions_alike marks keeps.1 linked.1
  sessions_alike ((false, kinds.Left r) ∷ marks) keeps linked = sessions_alike marks keeps.1 linked.1
  sessions_alike ((false, kinds.Confirmed r) ∷ marks) keeps linked = sessions_alike marks keeps.1 linked.1
  sessions_alike ((false, kinds.Spoke r) ∷ marks) keeps linked = sessions_alike marks keeps.1 linked.1
  sessions_alike ((false, kinds.Round r) ∷ marks) keeps linked = sessions_alike marks keeps.1 linked.1
  sessions_alike ((false, kinds.Told r) ∷ marks) keeps linked = sessions_alike marks keeps.1 linked.1

  pub lefts_alike : (marks : List Marked) → KeepsAll (has_visible now horizon) marks → AreClosed marks
      → filter left_seen (left_rows (kept marks)) ≡ filter left_seen (left_rows (all marks))
  lefts_alike [] keeps linked = refl
  lefts_alike ((true, kinds.Left r) ∷ marks) keeps linked =
      let seen = visible r.until now horizon in
      let confirmed = list_any (confirms r.request) (all marks) in
      ap (λ b. cond seen (left_row b r ∷ filter left_seen (left_rows (kept marks))) (filter left_seen (left_rows (kept marks))))
      (same_marked (kinds.Left r) (confirms r.request) marks (confirmer_names r) linked.0)
      ∙ ap (λ rest. cond seen (left_row confirmed r ∷ rest) rest) (lefts_alike marks keeps.1 linked.1)
  lefts_alike ((false, kinds.Left r) ∷ marks) keeps linked = rw (unseen (kinds.Left r) keeps.0) (lefts_alike marks keeps.1 linked.1)
  lefts_alike ((true, kinds.Pending r) ∷ marks) keeps linked = lefts_alike marks keeps.1 linked.1
  lefts_alike ((true, kinds.Issued r) ∷ marks) keeps linked = lefts_alike marks keeps.1 linked.1
  lefts_alike ((true, kinds.Ended r) ∷ marks) keeps linked = lefts_alike marks keeps.1 linked.1
  lefts_alike ((true, kinds.Confirmed r) ∷ marks) keeps linked = lefts_alike marks keeps.1 linked.1
  lefts_alike ((true, kinds.Spoke r) ∷ marks) keeps linked = lefts_alike marks keeps.1 linked.1
  lefts_alike ((true, kinds.Round r) ∷ marks) keeps linked = lefts_alike marks keeps.1 linked.1
  lefts_alike ((true, kinds.Told r) ∷ marks) keeps linked = lefts_alike marks keeps.1 linked.1
  lefts_alike ((false, kinds.Pending r) ∷ marks) keeps linked = lefts_alike marks keeps.1 linked.1
  lefts_alike ((false, kinds.Issued r) ∷ marks) keeps linked = lefts_alike marks keeps.1 linked.1
  lefts_alike ((false, kinds.Ended r) ∷ marks) keeps linked = lefts_alike marks keeps.1 linked.1
  lefts_alike ((false, kinds.Confirmed r) ∷ marks) keeps linked = lefts_alike marks keeps.1 linked.1
  lefts_alike ((false, kinds.Spoke r) ∷ marks) keeps linked = lefts_alike marks keeps.1 linked.1
  lefts_alike ((false, kinds.Round r) ∷ marks) keeps linked = lefts_alike marks keeps.1 linked.1
  lefts_alike ((false, kinds.Told r) ∷ marks) keeps linked = lefts_alike marks keeps.1 linked.1
