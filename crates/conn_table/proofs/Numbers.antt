-- Lists of numbers of connections.
use Rattle.std.proofs.Common.{◌≡◌, ◌≢◌, ◌⊎◌, ℕ, ◌+◌, ◌≤◌, Bool, true, false, cond, List, [], ◌∷◌, length, refl, sym, ap, ◌∙◌, inl, inr, arith}
use Rattle.std.specs.Prelude.{◌==◌, if◌then◌else◌}
use Rattle.std.proofs.lemmas.Bool.Decides.{eqb_tells}
use Rattle.conn_table.specs.Events.{contains, without}

-- ---- tests

pub told : (b : Bool) → (b ≡ true) ⊎ (b ≡ false)
told true = inl refl
told false = inr refl

pub if-true : {A : Type 0} (b : Bool) (x y : A) → b ≡ true → (if b then x else y) ≡ x
if-true b x y is = ap (λ v. cond v x y) is

pub if-false : {A : Type 0} (b : Bool) (x y : A) → b ≡ false → (if b then x else y) ≡ y
if-false b x y is = ap (λ v. cond v x y) is

pub if-same : {A : Type 0} (b : Bool) (x y : A) → x ≡ y → (if b then x else y) ≡ y
if-same true x y same = same
if-same false x y same = refl

pub not_both : (b : Bool) → b ≡ true → b ≡ false → ⊥
not_both b holds fails = let both = sym holds ∙ fails in cc

pub same_number : (a b : ℕ) → a ≡ b → (a == b) ≡ true
same_number a b same = elim (eqb_tells a b) [ inl tells ↦ tells.0 | inr tells ↦ absurd (tells.1 same) ]

pub other_number : (a b : ℕ) → a ≢ b → (a == b) ≡ false
other_number a b differs = elim (eqb_tells a b) [ inl tells ↦ absurd (differs tells.1) | inr tells ↦ tells.0 ]

-- ---- without a number

pub contains-without : (q conn : ℕ) (conns : List ℕ) → contains q (without conn conns) ≡ (if conn == q then false else contains q conns)
contains-without q conn [] = sym (if-same (conn == q) false false refl)
contains-without q conn (x ∷ conns) =
    let later = contains-without q conn conns in
    elim (eqb_tells x conn) [
      | inl here ↦ elim (eqb_tells conn q) [
        | inl same ↦ rw (here.0, later, same.0) refl
        | inr differs ↦ let no : (x == q) ≡ false = other_number x q (λ e. differs.1 (sym here.1 ∙ e)) in rw (here.0, later, differs.0, no) refl
      ]
      | inr there ↦ elim (eqb_tells conn q) [
        | inl same ↦ let no : (x == q) ≡ false = other_number x q (λ e. there.1 (e ∙ sym same.1)) in rw (there.0, later, same.0, no) refl
        | inr differs ↦ rw (there.0, later, differs.0) refl
      ]
    ]

pub without-absent : (conn : ℕ) (conns : List ℕ) → contains conn conns ≡ false → without conn conns ≡ conns
without-absent conn [] absent = refl
without-absent conn (x ∷ conns) absent =
    elim (eqb_tells x conn) [
      | inl here ↦ absurd (let held = rw here.0 at absent in cc)
      | inr there ↦ let e : contains conn conns ≡ false = (rw there.0 at absent) in rw (there.0, without-absent conn conns e) refl
    ]

pub length-without-le : (conn : ℕ) (conns : List ℕ) → length (without conn conns) ≤ length conns
length-without-le conn [] = omega arith
length-without-le conn (x ∷ conns) =
    let later = length-without-le conn conns in
    elim (eqb_tells x conn) [ inl here ↦ rw here.0 (omega arith) | inr there ↦ rw there.0 (omega arith) ]

-- each number stands once
abbrev pub Once : List ℕ → Type 0
Once [] = Unit {0}
Once (x ∷ conns) = (contains x conns ≡ false) × Once conns

pub once-without : (conn : ℕ) (conns : List ℕ) → Once conns → Once (without conn conns)
once-without conn [] once = tt
once-without conn (x ∷ conns) once =
    elim (eqb_tells x conn) [
      | inl here ↦ rw here.0 (once-without conn conns once.1)
      | inr there ↦ rw there.0 (contains-without x conn conns ∙ ap (λ v. if conn == x then false else v) once.0 ∙ if-same (conn == x) false false refl, once-without conn conns once.1)
    ]

pub length-without : (conn : ℕ) (conns : List ℕ) → Once conns → contains conn conns ≡ true → length (without conn conns) + 1 ≡ length conns
length-without conn [] once held = absurd (cc)
length-without conn (x ∷ conns) once held =
    elim (eqb_tells x conn) [
      | inl here ↦
          let absent : contains conn conns ≡ false = ap (λ n. contains n conns) (sym here.1) ∙ once.0 in
          rw (here.0, without-absent conn conns absent) (omega arith)
      | inr there ↦
          let later = length-without conn conns once.1 (rw there.0 at held) in
          rw there.0 (omega arith)
    ]
