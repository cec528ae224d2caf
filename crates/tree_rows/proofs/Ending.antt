-- What the end of a row changes.
use Rattle.std.proofs.Common.{◌≡◌, ℕ, zero, suc, ◌<◌, List, [], ◌∷◌, length, map, get_or, Some, sym, ◌∙◌, ap, refl}
use Rattle.std.specs.Prelude.{slice_get, slice_set}
use Rattle.std.specs.Option.{option_map}
use Rattle.std.proofs.lemmas.Option.{slice_get-get_or, slice_get-map}
use Rattle.tree_rows.specs.Rows.{Row, ended, end_at}

-- the row is there
end_at_row : (place n : ℕ) (rows : List Row) (row : Row) → slice_get rows n ≡ Some row → end_at place n rows ≡ slice_set rows n (ended place row)
end_at_row place n [] row e = refl
end_at_row place zero (r ∷ rows) row e = let same : r ≡ row = cc in ap (λ z. ended place z ∷ rows) same
end_at_row place (suc n) (r ∷ rows) row e = ap (λ z. r ∷ z) (end_at_row place n rows row e)

pub end_at_view : {X : Type 0} (view : X → Row) (place n : ℕ) (kept : List X) (row : X) → n < length kept → row ≡ get_or kept n row →
    end_at place n (map view kept) ≡ slice_set (map view kept) n (ended place (view row))
end_at_view view place n kept row h e =
    end_at_row place n (map view kept) (view row)
    (slice_get-map view kept n ∙ ap (option_map view) (slice_get-get_or kept n row h ∙ ap (λ y. Some y) (sym e)))
