use Rattle.std.proofs.Common.{◌≡◌, drop, map, vec_len}
use Rattle.serde_json.specs.View.{items_view}
use Rattle.tree_json.specs.Listing.{line}
use Rattle.tree_json.specs.Views.{texts_view}
use Rattle.tree_json.specs.Reading.{with_front, lines_from}
use Rattle.tree_json.proofs.rows.rows_of.Given as goal

abbrev pub invariant-loop-index : goal.invariant-loop-index
invariant-loop-index l = record {
  read : with_front (map line l.rows.items) (lines_from (texts_view l.texts) l.opened l.index (items_view (drop l.index l.values))) ≡ lines_from (texts_view l.texts) 0 0 (items_view l.values);
  count : vec_len l.rows ≡ l.index;
}
