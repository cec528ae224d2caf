use Rattle.std.proofs.Common.{◌≡◌, [], take}
use Rattle.http_wire.specs.Vouched.{attributes_form}
use Rattle.http_wire.proofs.vouched.attributes_form.Given as goal

abbrev pub invariant-loop-attribute : goal.invariant-loop-attribute
invariant-loop-attribute l = record {
  form : l.form.form ≡ attributes_form (take l.attribute-index l.attribute-items);
  prefix : l.form.prefix ≡ [];
}
