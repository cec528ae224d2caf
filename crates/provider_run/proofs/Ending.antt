-- The node and its disk when serving ended are those behind the last turn.
use Rattle.std.specs.Prelude.{MatchBool, None, Result, Ok, Err}
use Rattle.std.proofs.Common.{◌≡◌, ℕ, ◌<◌, Bool, true, false, List, length, ap}
use Rattle.serve_loop.specs.declared.served.Served.{Served}
use Rattle.serve_loop.specs.declared.served.ServeFault.{ServeFault}
use Rattle.serve_loop.specs.declared.served.ServeFault.TheVariants.{LinkFault, NoMemory}
use Rattle.serve_loop.specs.Serving.{Ends}
use Rattle.serve_loop.specs.Turns.{Turn}
use Rattle.serve_loop.specs.Worlds.{World, IsNext}

alike : {N : Type 0} (one other : World N) → one ≡ other → (one.node ≡ other.node) × (one.disk ≡ other.disk)
alike {N} one other same = (ap (λ (w : World N). w.node) same, ap (λ (w : World N). w.disk) same)

stopped : {N : Type 0} (b : Bool) (more whole : Type 0) (last now : World N)
    → MatchBool b (more × IsNext None last now) (whole × (now ≡ last)) → (now.node ≡ last.node) × (now.disk ≡ last.disk)
stopped {N} true more whole last now ends =
    (ap (λ (w : World N). w.node) ends.1.same, ap (λ (w : World N). w.disk) ends.1.same)
stopped {N} false more whole last now ends = alike now last ends.1

pub at_end : {N : Type 0} (budget : ℕ) (turns : List (Turn N)) (last now : World N) (served : Result Served ServeFault)
    → Ends budget turns last served now → (now.node ≡ last.node) × (now.disk ≡ last.disk)
at_end {N} budget turns last now (Ok served) ends =
    stopped served.stopped (length turns < budget) (length turns ≡ budget) last now ends.1
at_end {N} budget turns last now (Err LinkFault) ends =
    (ap (λ (w : World N). w.node) ends.1, ap (λ (w : World N). w.disk) ends.1)
at_end {N} budget turns last now (Err NoMemory) ends = alike now last ends.1
