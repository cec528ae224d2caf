-- That a line is one line, whatever a record holds.
use Rattle.std.specs.Prelude.{◌≡◌, ℕ, Bool, ◌&&◌, true, nat_le, List, ◌++◌, codes}
use Rattle.std.specs.List.{list_all}
use Rattle.record_lines.specs.Lines.{spaced}

-- a visible character of ASCII: neither a space nor a line end
abbrev pub is_visible : ℕ → Bool
is_visible b = nat_le 33 b && nat_le b 126

-- The line has pieces that are made of visible characters alone: the first, and others, each behind a space. So a space
-- stands nowhere but in front of a piece, and a line end nowhere but at its end.
pub record IsOneLine (line : List ℕ) : Type 0 where
  pub first : List ℕ
  pub others : List (List ℕ)
  pub are : line ≡ first ++ spaced others ++ codes "\n"
  pub visible : list_all is_visible first ≡ true
  pub all_visible : list_all (λ piece. list_all is_visible piece) others ≡ true
