-- There is a piece for each secret so far.
use Rattle.std.proofs.Common.{◌≡◌, ◌++◌, ◌∷◌, take}
use Rattle.std.specs.List.{flat_map}
use Rattle.record_lines.specs.Lines.{secret_piece}
use Rattle.record_lines.proofs.field.put_secrets.Given as goal

abbrev pub invariant-loop-secret : goal.invariant-loop-secret
invariant-loop-secret l = l.line ≡ l.initial.line ++ flat_map (λ text. 32 ∷ secret_piece l.name text) (take l.secret-index l.secrets)
