-- The address of a peer.
use Rattle.std.proofs.Common.{◌≡◌, ℕ, List, sym, ◌∙◌}
use Rattle.std.specs.Prelude.{Option, Some}

pub same_address : (found : Option (List ℕ)) (one other : List ℕ) → found ≡ Some one → found ≡ Some other → one ≡ other
same_address found one other first second = let same : Some one ≡ Some other = sym first ∙ second in cc
