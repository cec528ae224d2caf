-- The field that the code names.
use Rattle.record_lines.specs.declared.field.Field.{Field as Named}
use Rattle.record_lines.specs.declared.field.Field.TheVariants as kinds
use Rattle.record_lines.specs.Lines.{Field, Moment, Number, Text, MaybeText, Secret, MaybeSecret, Secrets, Attributes, Asker, Turns}

abbrev pub field_view : Named → Field
field_view (kinds.Moment name moment) = Moment name.now moment
field_view (kinds.Number name n) = Number name.now n
field_view (kinds.Text name text) = Text name.now text.now
field_view (kinds.MaybeText name text) = MaybeText name.now text.now
field_view (kinds.Secret name text) = Secret name.now text.now
field_view (kinds.MaybeSecret name text) = MaybeSecret name.now text.now
field_view (kinds.Secrets name texts) = Secrets name.now texts.now
field_view (kinds.Attributes listed) = Attributes listed.now
field_view (kinds.Asker asker) = Asker asker.now
field_view (kinds.Turns turns) = Turns turns.now
