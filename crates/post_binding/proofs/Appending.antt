-- One part after another.
use Rattle.std.proofs.Common.{◌≡◌, ℕ, List, ◌++◌, Result, Ok, Err, OnOk, ap, ◌∙◌, append_assoc}
use Rattle.post_binding.specs.Pages.{hidden_input}

on_ok : {T E P Q : Type 0} (r : Result T E) → (P → Q) → OnOk r P → OnOk r Q
on_ok (Ok x) f p = f p
on_ok (Err e) f p = tt

-- what is put behind a page in five steps, the last of which may fail
pub five_parts : {T E : Type 0} (r : Result T E) (page one two three four five a b c d e : List ℕ) → one ≡ page ++ a → two ≡ one ++ b
    → three ≡ two ++ c → four ≡ three ++ d → OnOk r (five ≡ four ++ e) → OnOk r (five ≡ page ++ (a ++ b ++ c ++ d ++ e))
five_parts r page one two three four five a b c d e is_one is_two is_three is_four =
    on_ok r (λ is_five.
    is_five
    ∙ ap (λ xs. xs ++ e) (is_four ∙ ap (λ xs. xs ++ d) (is_three ∙ ap (λ xs. xs ++ c) (is_two ∙ ap (λ xs. xs ++ b) is_one)))
    ∙ simp append_assoc)

-- what is put behind the head of a page in six steps
pub six_parts : (head none one two three four five six a b c d e f : List ℕ) → none ≡ head → one ≡ none ++ a → two ≡ one ++ b
    → three ≡ two ++ c → four ≡ three ++ d → five ≡ four ++ e → six ≡ five ++ f → six ≡ head ++ a ++ b ++ c ++ d ++ e ++ f
six_parts head none one two three four five six a b c d e f is_none is_one is_two is_three is_four is_five is_six =
    is_six
    ∙ ap (λ xs. xs ++ f) (is_five
    ∙ ap (λ xs. xs ++ e) (is_four
    ∙ ap (λ xs. xs ++ d) (is_three
    ∙ ap (λ xs. xs ++ c) (is_two
    ∙ ap (λ xs. xs ++ b) (is_one
    ∙ ap (λ xs. xs ++ a) is_none)))))

-- a field of this name and this value
pub same_input : (before after name name' value value' : List ℕ) → after ≡ before ++ hidden_input name value → name ≡ name' → value ≡ value'
    → after ≡ before ++ hidden_input name' value'
same_input before after name name' value value' put same_name same_value =
    put ∙ ap (λ xs. before ++ hidden_input xs value) same_name ∙ ap (λ xs. before ++ hidden_input name' xs) same_value
