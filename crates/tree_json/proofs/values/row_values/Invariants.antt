use Rattle.std.proofs.Common.{◌≡◌, ◌++◌, map, drop}
use Rattle.serde_json.specs.View.{view as data_of}
use Rattle.tree_json.specs.Listing.{line}
use Rattle.tree_json.specs.Views.{places_view}
use Rattle.tree_json.specs.Written.{line_data, Each, IsReadAgain}
use Rattle.tree_json.proofs.values.row_values.Given as goal

abbrev pub invariant-loop-row : goal.invariant-loop-row
invariant-loop-row l = record {
  values : map data_of l.values.items ++ map (line_data (places_view l.places)) (map line (drop l.row-index l.rows)) ≡ map (line_data (places_view l.places)) (map line l.rows);
  again : Each (IsReadAgain (places_view l.places)) (map line (drop l.row-index l.rows)) → Each (IsReadAgain (places_view l.places)) (map line l.rows);
}
