-- What one line adds to what a text says.
use Rattle.std.proofs.Common.{◌≡◌, ℕ, suc, ◌+◌, Bool, true, false, cond, not, List, [], ◌∷◌, sym, ap, ◌∙◌, arith}
use Rattle.xml_spec.specs.Characters.{IsText}
use Rattle.text_lines.specs.Lines.{is_text, is_passed_over, lines, Says, NoText, said_from}
use Rattle.text_lines.proofs.Texts.{text_tested}

by_tests : (number : ℕ) (line : List ℕ) (others : List (List ℕ)) (t p : Bool) → is_text line ≡ t → is_passed_over line ≡ p →
    said_from number (line ∷ others) ≡ cond (not t) (NoText number ∷ []) (cond p (said_from (suc number) others) (Says number line ∷ said_from (suc number) others))
by_tests number line others t p text passed =
    ap (λ b. cond (not b) (NoText number ∷ []) (cond (is_passed_over line) (said_from (suc number) others) (Says number line ∷ said_from (suc number) others))) text
    ∙ ap (λ b. cond (not t) (NoText number ∷ []) (cond b (said_from (suc number) others) (Says number line ∷ said_from (suc number) others))) passed

one_more : (number : ℕ) → suc number ≡ number + 1
one_more number = omega arith

pub passed_over : (number : ℕ) (bytes line rest text : List ℕ) → lines bytes ≡ line ∷ lines rest → text ≡ line → IsText text → is_passed_over text ≡ true →
    said_from number (lines bytes) ≡ said_from (number + 1) (lines rest)
passed_over number bytes line rest text cut same is passed =
    ap (said_from number) cut ∙ by_tests number line (lines rest) true true (ap is_text (sym same) ∙ text_tested text is) (ap is_passed_over (sym same) ∙ passed)
    ∙ ap (λ n. said_from n (lines rest)) (one_more number)

pub says_it : (number : ℕ) (bytes line rest text : List ℕ) → lines bytes ≡ line ∷ lines rest → text ≡ line → IsText text → is_passed_over text ≡ false →
    said_from number (lines bytes) ≡ Says number text ∷ said_from (number + 1) (lines rest)
says_it number bytes line rest text cut same is passed =
    ap (said_from number) cut ∙ by_tests number line (lines rest) true false (ap is_text (sym same) ∙ text_tested text is) (ap is_passed_over (sym same) ∙ passed)
    ∙ ap (λ n. Says number line ∷ said_from n (lines rest)) (one_more number) ∙ ap (λ xs. Says number xs ∷ said_from (number + 1) (lines rest)) (sym same)
