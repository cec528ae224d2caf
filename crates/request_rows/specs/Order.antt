-- The keys by which the rows of a list are sorted.
use Rattle.std.specs.Prelude.{List, map}
use Rattle.ledger_rules.specs.Order.{KeyTexts, one_text}
use Rattle.request_rows.specs.declared.row.AskedRow.{AskedRow}
use Rattle.request_rows.specs.declared.row.OpenedRow.{OpenedRow}
use Rattle.request_rows.specs.declared.key.RowKey.{RowKey}
use Rattle.request_rows.specs.declared.key.RowKey.TheVariants.{AskedRequest, OpenedRequest, OpenedAssertion, OpenedToken}

-- the keys of the rows, in their order
abbrev pub keys_of : RowKey → List AskedRow → List OpenedRow → List KeyTexts
keys_of AskedRequest asked opened = map (λ row. one_text row.request) asked
keys_of OpenedRequest asked opened = map (λ row. one_text row.request) opened
keys_of OpenedAssertion asked opened = map (λ row. record { first = row.issuer; second = row.assertion }) opened
keys_of OpenedToken asked opened = map (λ row. one_text row.token) opened
