-- The keys by which the rows of a list are sorted.
use Rattle.std.specs.Prelude.{List, map}
use Rattle.ledger_rules.specs.Order.{KeyTexts, one_text}
use Rattle.idp_rows.specs.declared.key.IdpKey.{IdpKey}
use Rattle.idp_rows.specs.declared.key.IdpKey.TheVariants.{PendingId, SessionCookie}
use Rattle.idp_rows.specs.RowsOf.{IdpRows}

-- the keys of the rows, in their order
abbrev pub keys_of : IdpKey → IdpRows → List KeyTexts
keys_of PendingId rows = map (λ row. one_text row.pending) rows.pendings
keys_of SessionCookie rows = map (λ row. one_text row.cookie) rows.sessions
