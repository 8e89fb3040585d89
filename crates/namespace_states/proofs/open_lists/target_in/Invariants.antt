use Rattle.std.proofs.Common.{◌≡◌, ◌≤◌, length, take, option_map}
use Rattle.std.specs.Str.{chars}
use Rattle.semantic_model.specs.Namespace.{target_of}
use Rattle.namespace_states.specs.OpenBlocks.{node_of, chain_of}
use Rattle.namespace_states.proofs.open_lists.target_in.Given as goal

-- no list so far has such a statement
abbrev pub invariant-loop-left : goal.invariant-loop-left
invariant-loop-left l = record {
  within : l.left ≤ length l.lists;
  rest : option_map node_of (target_of (chars l.name.text.now) (chain_of (take l.left l.lists))) ≡ option_map node_of (target_of (chars l.name.text.now) (chain_of l.lists));
}

abbrev pub decreases-loop-left : goal.decreases-loop-left
decreases-loop-left l = l.left
