use Rattle.std.proofs.Common.{◌≡◌, map, take}
use Rattle.form_urlencoded.specs.Form.{extend_pairs}
use Rattle.http_wire.proofs.vouched.put_values.Given as goal

abbrev pub invariant-loop-value : goal.invariant-loop-value
invariant-loop-value l = record {
  form : l.form.form ≡ extend_pairs l.initial.form.form (map (λ value. (l.attribute.name, value)) (take l.value-index l.value-items));
  prefix : l.form.prefix ≡ l.initial.form.prefix;
}
