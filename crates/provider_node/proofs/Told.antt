-- What a case of a definition of answers says, for those who need only that.
use Rattle.std.specs.Prelude.{Option, None, Some}
use Rattle.std.proofs.Common.{◌≡◌, ◌⊎◌, inl, inr, ℕ, List}
use Rattle.http_wire.specs.declared.answer.Answer.{Answer}
use Rattle.http_wire.specs.declared.answer.Answer.TheVariants.{Fixed, Full}
use Rattle.http_wire.specs.Requests.{Request}
use Rattle.record_ledger.specs.Ledger.{Held}
use Rattle.provider_node.specs.Starving.{CodesAddNothing}
use Rattle.provider_node.specs.Step.{AnswersBy}

-- an answer adds nothing, or is a page
abbrev pub AddsByAPage : {R : Type 0} → Answer → Option R → Type 0
AddsByAPage answer adds = (adds ≡ None) ⊎ ((bytes : List ℕ) × (answer ≡ Full bytes))

-- a fact, and its proof
pub record Told {R : Type 0} (answer : Answer) (adds : Option R) : Type 1 where
  pub Fact : Type 0
  pub is : Fact
  pub adding : AddsByAPage answer adds

-- three of them, or four; the last says that nothing is added, or which page the answer is
module _ {R : Type 0} {answer : Answer} {adds : Option R} where
  abbrev pub none3 : {A B : Type 0} → A → B → adds ≡ None → Told answer adds
  none3 {A} {B} a b none = record { Fact = A × B × (adds ≡ None); is = (a, b, none); adding = inl none }

  abbrev pub none4 : {A B C : Type 0} → A → B → C → adds ≡ None → Told answer adds
  none4 {A} {B} {C} a b c none = record { Fact = A × B × C × (adds ≡ None); is = (a, b, c, none); adding = inl none }

  abbrev pub page3 : {A B : Type 0} {bytes : List ℕ} → A → B → answer ≡ Full bytes → Told answer adds
  page3 {A} {B} {bytes} a b page =
      record { Fact = A × B × (answer ≡ Full bytes); is = (a, b, page); adding = inr (bytes, page) }

  abbrev pub page4 : {A B C : Type 0} {bytes : List ℕ} → A → B → C → answer ≡ Full bytes → Told answer adds
  page4 {A} {B} {C} {bytes} a b c page =
      record { Fact = A × B × C × (answer ≡ Full bytes); is = (a, b, c, page); adding = inr (bytes, page) }

-- so no code stands for a record
no_code : {R : Type 0} (code : ℕ) (r : R) → AddsByAPage (Fixed code) (Some r) → ⊥
no_code code r (inl none) = cc
no_code code r (inr (bytes, page)) = cc

pub codes_add_nothing : {Setup R : Type 0} (Answers : AnswersBy Setup R)
    → ((setup : Setup) (held : Held R) (request : Request) (now : ℕ) (answer : Answer) (adds : Option R)
    → Answers setup held request now answer adds → Told answer adds) → CodesAddNothing Answers
codes_add_nothing Answers said setup held request now code r answers =
    no_code code r (said setup held request now (Fixed code) (Some r) answers).adding
