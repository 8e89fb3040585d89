use Rattle.std.proofs.Common.{◌≡◌, ◌++◌, drop, map}
use Rattle.std.specs.Option.{option_map}
use Rattle.serde_json.specs.View.{items_view}
use Rattle.tree_json.specs.Comments.{all_items}
use Rattle.tree_json.specs.Form.{text_in}
use Rattle.tree_json.specs.Views.{characters}
use Rattle.tree_json.proofs.comments.texts_of.Given as goal

abbrev pub invariant-loop-value : goal.invariant-loop-value
invariant-loop-value l = option_map (λ rest. map characters l.texts.items ++ rest) (all_items text_in (items_view (drop l.value-index l.values))) ≡ all_items text_in (items_view l.values)
