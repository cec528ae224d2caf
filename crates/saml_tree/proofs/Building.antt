-- What the builder's calls add.
use Rattle.std.proofs.Common.{◌≡◌, ℕ, zero, suc, ◌≤◌, List, [], ◌∷◌, length, refl, ap, arith}
use Rattle.tree_rows.specs.Rows.{Row, end_at}
use Rattle.saml_tree.specs.Links.{depths_of}
use Rattle.saml_tree.specs.Run.{State}

-- there is no such row
pub end_at_none : (place n : ℕ) (rows : List Row) → length rows ≤ n → end_at place n rows ≡ rows
end_at_none place n [] h = refl
end_at_none place zero (r ∷ rows) h = absurd (omega arith)
end_at_none place (suc n) (r ∷ rows) h = ap (λ z. r ∷ z) (end_at_none place n rows (omega arith))

pub end_at_depths : (place n : ℕ) (rows : List Row) → depths_of (end_at place n rows) ≡ depths_of rows
end_at_depths place n [] = refl
end_at_depths place zero (r ∷ rows) = refl
end_at_depths place (suc n) (r ∷ rows) = ap (λ z. r.depth ∷ z) (end_at_depths place n rows)

-- the state with these rows
abbrev pub with_rows : State → List Row → State
with_rows s rows = record s { rows = rows }
