-- No row of a config takes less than a byte of its text.
use Rattle.std.proofs.Common.{◌≡◌, ℕ, suc, ◌+◌, ◌≤◌, Bool, true, false, cond, not, List, [], ◌∷◌, Option, None, Some, Result, Ok, Err, length, length-append, IfOk, arith, sym, subst}
use Rattle.std.specs.List.{filter_map, cons_option}
use Rattle.text_lines.specs.Lines.{Said, Says, NoText, lines, said_from, said, is_text, is_passed_over, with_lines}
use Rattle.provider_config.specs.declared.line.Purpose.{Purpose}
use Rattle.provider_config.specs.declared.line.SpLine.{SpLine}
use Rattle.provider_config.specs.Config.{Config, asked, opened, doubles, config_of, sp_config}
use Rattle.provider_config.specs.Line.{spelled}
use Rattle.provider_config.specs.Shared.{with_line}
use Rattle.provider_config.proofs.Running.{made_of}
use Rattle.provider_config.proofs.Sharing.{kept, of_lines}
use Rattle.text_lines.proofs.Numbering.{few_lines}

-- no more things said than lines
said_are_few : (number : ℕ) (ls : List (List ℕ)) → length (said_from number ls) ≤ length ls
said_are_few number [] = omega arith
said_are_few number (line ∷ ls) = by_tests (not (is_text line)) (is_passed_over line) (said_are_few (suc number) ls)
  where
    by_tests : (t p : Bool) → length (said_from (suc number) ls) ≤ length ls →
        length (cond t (NoText number ∷ []) (cond p (said_from (suc number) ls) (Says number line ∷ said_from (suc number) ls))) ≤ suc (length ls)
    by_tests true p few = omega arith
    by_tests false true few = omega arith
    by_tests false false few = omega arith

filtered_are_few : {X Y : Type 0} (f : X → Option Y) (xs : List X) → length (filter_map f xs) ≤ length xs
filtered_are_few f [] = omega arith
filtered_are_few f (x ∷ xs) = which (f x) (filtered_are_few f xs)
  where
    which : (o : Option _) → length (filter_map f xs) ≤ length xs → length (cons_option o (filter_map f xs)) ≤ suc (length xs)
    which None few = omega arith
    which (Some y) few = omega arith

-- no more lines of a config than things said
lines_are_few : (purpose : Purpose) (says : List Said) → IfOk (with_lines (with_line (λ _. spelled purpose) doubles) [] says) (λ ls. length ls ≤ length says)
lines_are_few purpose says =
    of_none (with_lines (with_line (λ _. spelled purpose) doubles) [] says)
    (kept (λ _. spelled purpose) doubles (λ ls rest. length ls + length rest ≤ length says)
    (λ before line next others by new h. let more = length-append before (line ∷ []) in omega (arith, h, more)) [] says (omega arith))
  where
    of_none : (r : Result (List SpLine) ℕ) → IfOk r (λ ls. length ls + length {A = Said} [] ≤ length says) → IfOk r (λ ls. length ls ≤ length says)
    of_none (Ok ls) h = omega (arith, h)
    of_none (Err n) h = tt

-- both kinds of rows
pub rows_are_few : (purpose : Purpose) (text : List ℕ) (config : Config) → sp_config purpose text ≡ Ok config →
    (length config.asked ≤ length text) × (length config.opened ≤ length text)
rows_are_few purpose text config e =
    let (ls, h, whole) =
    of_lines config_of (λ ls. length ls ≤ length (said text)) (with_lines (with_line (λ _. spelled purpose) doubles) [] (said text)) config (lines_are_few purpose (said text)) e in
    let is = made_of ls config whole in
    let a = said_are_few 1 (lines text) in
    let b = few_lines text in (
      subst (λ rows. length rows ≤ length text) (sym is.asked) (let f = filtered_are_few asked ls in omega arith),
      subst (λ rows. length rows ≤ length text) (sym is.opened) (let f = filtered_are_few opened ls in omega arith),
    )
