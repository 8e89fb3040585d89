use Rattle.std.proofs.Common.{◌≡◌, ◌++◌, drop, map, length}
use Rattle.std.specs.Option.{option_map}
use Rattle.serde_json.specs.View.{items_view}
use Rattle.tree_json.specs.Comments.{all_items}
use Rattle.module_set.specs.SetForm.{module_in}
use Rattle.module_set.specs.Views.{module_seen}
use Rattle.module_set.proofs.form.texts_of.Given as goal

-- the texts so far, with those of the values that are left, are all
abbrev pub invariant-loop-value : goal.invariant-loop-value
invariant-loop-value l = record {
  said : option_map (λ rest. map module_seen l.texts.items ++ rest) (all_items module_in (items_view (drop l.value-index l.list))) ≡ all_items module_in (items_view l.list);
  few : length l.texts.items ≡ l.value-index;
}
