-- Rows that are gathered before they are indexed.
use Rattle.std.specs.Prelude.{Bool, true, false}
use Rattle.request_rows.specs.declared.kept.Stage.{Stage}
use Rattle.request_rows.specs.declared.kept.Stage.TheVariants.{Gathered, Indexed}
use Rattle.request_rows.specs.declared.kept.GatheredRows.{GatheredRows}
use Rattle.request_rows.specs.Rows.{RowsView}
use Rattle.request_rows.specs.Indexed.{room}

-- the rows, and whether they have their indexes
pub record KeptView : Type 0 where
  pub rows : RowsView
  pub is_indexed : Bool

abbrev pub gathered_view : GatheredRows → RowsView
gathered_view g = record {
  asked = g.lists.asked.items;
  opened = g.lists.opened.items;
  left = g.left.items;
  spare = record { asked = room g.lists.asked; opened = room g.lists.opened; left = room g.left };
}

abbrev pub kept_view : Stage → KeptView
kept_view (Gathered g) = record { rows = gathered_view g; is_indexed = false }
kept_view (Indexed rows) = record { rows = rows; is_indexed = true }
