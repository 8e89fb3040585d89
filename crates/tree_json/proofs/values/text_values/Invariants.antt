use Rattle.std.proofs.Common.{◌≡◌, ◌++◌, map, drop}
use Rattle.serde_json.specs.View.{view as data_of}
use Rattle.tree_json.specs.Views.{characters}
use Rattle.tree_json.specs.Written.{text_data}
use Rattle.tree_json.proofs.values.text_values.Given as goal

abbrev pub invariant-loop-text : goal.invariant-loop-text
invariant-loop-text l = map data_of l.values.items ++ map text_data (map characters (drop l.text-index l.texts)) ≡ map text_data (map characters l.texts)
