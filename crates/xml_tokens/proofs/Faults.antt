-- What refuses a part refuses the whole.
use Rattle.std.proofs.Common.{Result, Ok, Err, inl, inr}
use Rattle.std.specs.Result.{IfOk, IfErr}
use Rattle.xml_tokens.specs.declared.token.TokenFault.{TokenFault}
use Rattle.xml_tokens.specs.Lexing.{IsFaultFor}

pub fault_for : (P Q : Type 0) (e : TokenFault) → (P → Q) → IsFaultFor P e → IsFaultFor Q e
fault_for P Q e i h = elim h [ inl memory ↦ inl memory | inr bad ↦ inr (bad.0, i bad.1) ]

pub fault_in : {T : Type 0} (r : Result T TokenFault) (P Q : Type 0) → (P → Q) → IfErr r (IsFaultFor P) → IfErr r (IsFaultFor Q)
fault_in (Ok x) P Q i h = tt
fault_in (Err e) P Q i h = fault_for P Q e i h

-- what is read of a part, where that is read of the whole
pub reading_in : {T E : Type 0} (r : Result T E) (P Q : T → Type 0) → ((x : T) → P x → Q x) → IfOk r P → IfOk r Q
reading_in (Ok x) P Q i h = i x h
reading_in (Err e) P Q i h = tt
