use Rattle.std.proofs.Common.{◌≡◌, map, drop, []}
use Rattle.tree_json.specs.Listing.{line}
use Rattle.tree_json.specs.Views.{characters, IsSpelled}
use Rattle.tree_json.specs.Written.{texts_from, Each}
use Rattle.tree_json.proofs.places.texts_of.Given as goal

abbrev pub invariant-loop-row : goal.invariant-loop-row
invariant-loop-row l = record {
  texts : texts_from (map characters l.texts.keys) (map line (drop l.row-index l.rows)) ≡ texts_from [] (map line l.rows);
  spelled : Each IsSpelled l.texts.keys;
}
