-- Rows that are changed in place.
use Rattle.std.proofs.Common.{◌≡◌, ℕ, zero, suc, ◌<◌, true, List, [], ◌∷◌, map, length, get_or, set, sym, ap, subst, ◌∙◌, arith}
use Rattle.std.proofs.Math.Seq.{map-set_same}
use Rattle.request_rows.specs.Rows.{closed_at, confirmed_at}
use Rattle.ledger_rules.specs.Order.{KeyTexts, IsOrder}
use Rattle.request_rows.specs.declared.row.OpenedRow.{OpenedRow}
use Rattle.request_rows.specs.declared.row.LeftRow.{LeftRow}

-- an index stays in order where a row keeps its key
pub order_stays : {X : Type 0} (key_of : X → KeyTexts) (rows : List X) (places : List ℕ) (place : ℕ) (row changed : X) → IsOrder (map key_of rows) places
    → row ≡ get_or rows place row → key_of changed ≡ key_of row → IsOrder (map key_of (set rows place changed)) places
order_stays key_of rows places place row changed o read same =
    subst (λ keys. IsOrder keys places) (sym (map-set_same key_of rows place changed row (same ∙ ap key_of read))) o

pub closed_is : (rows : List OpenedRow) (place : ℕ) (row : OpenedRow) → place < length rows → row ≡ get_or rows place row
    → set rows place (record row { closed = true }) ≡ closed_at rows place
closed_is [] place row within read = absurd (omega arith)
closed_is (x ∷ xs) zero row within read = ap (λ (r : OpenedRow). record r { closed = true } ∷ xs) read
closed_is (x ∷ xs) (suc n) row within read = ap (λ rows. x ∷ rows) (closed_is xs n row (omega arith) read)

pub confirmed_is : (rows : List LeftRow) (place : ℕ) (row : LeftRow) → place < length rows → row ≡ get_or rows place row
    → set rows place (record row { confirmed = true }) ≡ confirmed_at rows place
confirmed_is [] place row within read = absurd (omega arith)
confirmed_is (x ∷ xs) zero row within read = ap (λ (r : LeftRow). record r { confirmed = true } ∷ xs) read
confirmed_is (x ∷ xs) (suc n) row within read = ap (λ rows. x ∷ rows) (confirmed_is xs n row (omega arith) read)
