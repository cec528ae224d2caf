use Rattle.std.proofs.Common.{◌≡◌, ◌∙◌, ◌||◌, ◌&&◌, ◌+◌, ◌++◌, ◌∷◌, [], Bool, true, false, length, slice_get, take, refl, sym, ap}
use Rattle.std.specs.List.{list_any}
use Rattle.std.proofs.Math.Bool.{or-false}
use Rattle.std.proofs.lemmas.List.{append-nil, take_all}
use Rattle.std.proofs.lemmas.List.Folds.{list_any_more}
use Rattle.std.proofs.lemmas.Option.{slice_get_read}
use Rattle.idp_rows.specs.declared.row.SessionRow.{SessionRow}
use Rattle.idp_rows.specs.RowsOf.{IdpRows, rows_of}
use Rattle.idp_rows.specs.Finding.{is_ending, has_issued}
use Rattle.idp_ledger.specs.Ledger.{rows_in}
use Rattle.idp_ledger.proofs.RowTexts.{ending_of, ending_more}
use Rattle.idp_ledger.proofs.drafts.sessions_ending.Goals as goal
use Rattle.idp_ledger.proofs.drafts.sessions_ending.Goals.{then-is_ending+in_ok-copy+in_ok-push, else-is_ending}

pub loop-place-init : goal.loop-place-init
loop-place-init c = (c.new-cookies.ensures, refl)

pub loop-place-preserved : goal.loop-place-preserved
loop-place-preserved c =
    let self = c.args.ledger.now in
    let horizon = self.held.header.horizon in
    let peer = c.args.peer.now in
    let issues = (rows_in self).issues in
    let same : c.rows-rows.result.now.rows ≡ rows_of self.held.records = c.rows-rows.ensures in
    let rows = c.sessions-row-items.result.now in
    let place = c.loop-place.place in
    let cookies = c.loop-place.cookies in
    let partial = c.loop-place.partial in
    let row = c.row-item.result in
    let ends : SessionRow → Bool = is_ending c.args.now horizon peer c.args.name.now c.args.indexes.now issues in
    let beside : SessionRow → Bool = λ r. has_issued true issues r.cookie peer in
    let both : SessionRow → Bool = λ r. ends r && beside r in
    let at = ap (λ rs. slice_get rs place) (sym (c.sessions-row-items.ensures ∙ ap (λ (r : IdpRows). r.sessions) same)) ∙ slice_get_read rows (length rows) place row refl c.loop-place-test.true c.row-item.is in
    let is = sym (c.is_ending.ensures row at) in
    let more : (partial || both row) ≡ list_any both (take (place + 1) rows) =
    ap (λ p. p || both row) c.loop-place.invariant.1 ∙ ap (λ r. list_any both (take place rows) || both r) c.row-item.is
    ∙ sym (list_any_more both rows place row c.loop-place-test.true) in
    elim c.if-is_ending.branch [
      | then-is_ending+in_ok-copy+in_ok-push w ↦
          let issued = w.has_issued.ensures row (ap (λ (r : IdpRows). slice_get r.sessions place) same ∙ at) ∙ ap (λ (r : IdpRows). has_issued true r.issues row.cookie peer) same in (
            w.cookies-is ∙ w.in_ok-push.ensures.ok ∙ ap (λ cookie. cookies ++ cookie ∷ []) w.in_ok-copy.ensures
                ∙ ending_more c.args.now horizon peer c.args.name.now c.args.indexes.now issues rows place row true cookies
                c.loop-place-test.true c.row-item.is (is ∙ w.if-is_ending.true) c.loop-place.invariant.0,
            w.partial-is ∙ ap (λ b. partial || b) (issued ∙ ap (λ b. b && beside row) (sym (is ∙ w.if-is_ending.true))) ∙ more,
          )
      | else-is_ending w ↦ (
        w.cookies-is ∙ sym (append-nil cookies)
            ∙ ending_more c.args.now horizon peer c.args.name.now c.args.indexes.now issues rows place row false cookies
            c.loop-place-test.true c.row-item.is (is ∙ w.if-is_ending.false) c.loop-place.invariant.0,
        w.partial-is ∙ sym (or-false partial) ∙ ap (λ b. partial || (b && beside row)) (sym (is ∙ w.if-is_ending.false)) ∙ more,
      )
    ]

pub returns-clause-cookies : goal.returns-clause-cookies
returns-clause-cookies c =
    let self = c.args.ledger.now in
    c.loop-place.invariant.0
    ∙ ap (ending_of c.args.now self.held.header.horizon c.args.peer.now c.args.name.now c.args.indexes.now (rows_in self).issues)
    (take_all c.loop-place.place c.sessions-row-items.result.now c.loop-place-test.false ∙ c.sessions-row-items.ensures ∙ ap (λ (r : IdpRows). r.sessions) c.rows-rows.ensures)

pub returns-clause-partial : goal.returns-clause-partial
returns-clause-partial c =
    let self = c.args.ledger.now in
    let peer = c.args.peer.now in
    let both : SessionRow → Bool = λ row. is_ending c.args.now self.held.header.horizon peer c.args.name.now c.args.indexes.now (rows_in self).issues row && has_issued true (rows_in self).issues row.cookie peer in
    c.loop-place.invariant.1
    ∙ ap (list_any both) (take_all c.loop-place.place c.sessions-row-items.result.now c.loop-place-test.false ∙ c.sessions-row-items.ensures ∙ ap (λ (r : IdpRows). r.sessions) c.rows-rows.ensures)
