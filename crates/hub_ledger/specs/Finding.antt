-- What is looked up in the rows of a hub.
use Rattle.std.specs.Prelude.{ℕ, ◌&&◌, List, Option, None, if◌then◌else◌}
use Rattle.std.specs.List.{find}
use Rattle.std.specs.Str.{bytes_eq}
use Rattle.request_rows.specs.Rows.{is_spent, visible}
use Rattle.hub_ledger.specs.declared.row.RoutedRow.{RoutedRow as Shown}
use Rattle.hub_ledger.specs.RowsOf.{HubRows, Route, routes}

abbrev pub routed_view : Shown → Route
routed_view shown = record { asked = shown.asked.now; below = shown.below.now }

-- The route of a request upwards that is visible and not spent.
abbrev pub routed_row : HubRows → (request : List ℕ) (now horizon : ℕ) → Option Route
routed_row rows request now horizon =
    if is_spent rows.opened request then None
    else find (λ route. bytes_eq route.asked.request request && visible route.asked.until now horizon) (routes rows.asked rows.below)
