-- What a compaction leaves as it was: the answers at its moment.
use Rattle.std.specs.Option.{option_and_then}
use Rattle.std.proofs.Common.{◌≡◌, inl, inr, ℕ, ◌≤◌, Option, None, Some, refl, sym, subst, arith}
use Rattle.record_ledger.specs.Rules.{RecordRules, AreRecords}
use Rattle.record_ledger.specs.Ledger.{Held}
use Rattle.record_ledger.specs.Compacting.{Compacts, IsCompacted}

-- from the moment of a compaction on all that may be asked of the rows is answered alike
abbrev pub CompactionsAnswerAlike : {R : Type 0}
    → RecordRules R → (AnswerAlike : (now : ℕ) → (one other : Held R) → Type 0) → Type 0
CompactionsAnswerAlike {R} rules AnswerAlike = (now later : ℕ) (old new : Held R) → AreRecords rules old.records
    → IsCompacted rules now old new → now ≤ later → AnswerAlike later new old

pub alike : {R : Type 0} (rules : RecordRules R) (AnswerAlike : (now : ℕ) → (one other : Held R) → Type 0)
    → ((now : ℕ) (held : Held R) → AnswerAlike now held held) → CompactionsAnswerAlike rules AnswerAlike
    → (now : ℕ) (old new : Held R) → AreRecords rules old.records → Compacts rules now old new → AnswerAlike now new old
alike {R} rules AnswerAlike itself law now old new are (inl same) =
    subst (λ (h : Held R). AnswerAlike now h old) (sym same.1) (itself now old)
alike rules AnswerAlike itself law now old new are (inr made) = law now now old new are made.1 (omega arith)

-- what follows a text, where there is one, is the same where it is so for each
pub followed_alike : {A B : Type 0} (one other : A → Option B) (o : Option A)
    → ((a : A) → one a ≡ other a) → option_and_then one o ≡ option_and_then other o
followed_alike one other None each = refl
followed_alike one other (Some a) each = each a
