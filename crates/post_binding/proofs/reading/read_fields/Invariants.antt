use Rattle.std.proofs.Common.{◌≡◌, ◌++◌, drop}
use Rattle.std.specs.Option.{option_map}
use Rattle.post_binding.specs.Form.{fields}
use Rattle.post_binding.proofs.reading.read_fields.Given as goal

abbrev pub invariant-loop-name : goal.invariant-loop-name
invariant-loop-name l =
    fields l.body l.names ≡ option_map (λ rest. l.found ++ rest) (fields l.body (drop l.name-index l.names))
