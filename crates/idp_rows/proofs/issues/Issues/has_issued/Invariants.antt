use Rattle.std.specs.Prelude.{IfSome}
use Rattle.std.proofs.Common.{◌≡◌, ◌<◌, ℕ, List, Some, length}
use Rattle.idp_rows.specs.Kept.{last_place}
use Rattle.idp_rows.proofs.IssueLaws.{GoesBack, after}
use Rattle.idp_rows.proofs.issues.Issues.has_issued.Given as goal

abbrev pub invariant-loop-next : goal.invariant-loop-next
invariant-loop-next l = record {
  within : IfSome l.next (λ p. p < length l.self.rows);
  back : (cookie : List ℕ) → last_place l.self.rows cookie ≡ Some l.last → GoesBack l.beside l.self.rows cookie l.peer l.next;
}

abbrev pub decreases-loop-next : goal.decreases-loop-next
decreases-loop-next l = after l.next
