use Rattle.std.proofs.Common.{◌≡◌, ◌∙◌, ◌&&◌, Bool, true, false, not, get_or, slice_get, sym, ap}
use Rattle.std.specs.Str.{bytes_eq}
use Rattle.std.proofs.lemmas.Option.{get_or_from_slice_get}
use Rattle.gate_journal.specs.declared.header.Header.{Header}
use Rattle.idp_rows.specs.declared.row.SessionRow.{SessionRow}
use Rattle.idp_rows.specs.RowsOf.{IdpRows, rows_of}
use Rattle.idp_rows.specs.Finding.{visible, has_issued}
use Rattle.idp_ledger.specs.Ledger.{rows_in}
use Rattle.idp_ledger.proofs.drafts.is_open_to.Goals as goal

pub returns : goal.returns
returns c = λ row at.
    let self = c.args.ledger.now in
    let place = c.args.place in
    let peer = c.args.peer.now in
    let found = c.index-sessions-place.result in
    let rows : c.rows-rows.result.now.rows ≡ rows_of self.held.records = c.rows-rows.ensures in
    let here : found ≡ row = c.index-sessions-place.is ∙ ap (λ rs. get_or rs place found) (c.sessions.ensures ∙ ap (λ (r : IdpRows). r.sessions) rows) ∙ get_or_from_slice_get (rows_in self).sessions place row found at in
    let is_its : SessionRow → Header → Bool = λ r h. not r.ended && visible r.until c.args.now h.horizon && bytes_eq r.user c.args.name.now in
    let named : c.is_named.result ≡ is_its row self.held.header = c.is_named.ensures ∙ (λ k. is_its (here k) (c.header-horizon.ensures k)) in
    let issued = has_issued false (rows_in self).issues row.cookie peer in
    c.has_issued.ensures row (ap (λ (r : IdpRows). slice_get r.sessions place) rows ∙ at) ∙ ap (λ (r : IdpRows). has_issued false r.issues row.cookie peer) rows
    ∙ ap (λ b. b && true && issued) (sym c.if-not-is_named.false ∙ named)
