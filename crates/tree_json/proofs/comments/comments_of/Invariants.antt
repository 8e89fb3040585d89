use Rattle.std.proofs.Common.{◌≡◌, ◌++◌, drop}
use Rattle.std.specs.Option.{option_map}
use Rattle.serde_json.specs.View.{items_view}
use Rattle.tree_json.specs.Comments.{all_items, comment_of_data}
use Rattle.tree_json.proofs.comments.comments_of.Given as goal

abbrev pub invariant-loop-value : goal.invariant-loop-value
invariant-loop-value l = option_map (λ rest. l.comments.items ++ rest) (all_items comment_of_data (items_view (drop l.value-index l.values))) ≡ all_items comment_of_data (items_view l.values)
