-- What the code writes, as the fields of a record, and how long that is.
use Rattle.std.specs.Prelude.{ℕ, ◌-◌, ◌^◌, min}
use Rattle.ledger_records.specs.declared.writing.Field.{Field as Written}
use Rattle.ledger_records.specs.declared.writing.Field.TheVariants as written
use Rattle.ledger_records.specs.Fields.{Field, NoNumber, Number, Text, Optional, Texts, Attributes, Asker, Turns, Flag, Key}

-- the field that the code names
abbrev pub field_view : Written → Field
field_view written.NoNumber = NoNumber
field_view (written.Number n) = Number n
field_view (written.Text t) = Text t.now
field_view (written.Optional t) = Optional t.now
field_view (written.Texts ts) = Texts ts.now
field_view (written.Attributes as_listed) = Attributes as_listed.now
field_view (written.Asker asker) = Asker asker.now
field_view (written.Turns turns) = Turns turns.now
field_view (written.Flag is) = Flag is
field_view (written.Key key) = Key key

-- a length, or the greatest number of eight bytes where it is longer
abbrev pub capped : ℕ → ℕ
capped n = min n (2 ^ 64 - 1)
