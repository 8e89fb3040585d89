use Rattle.std.proofs.Common.{◌≡◌, ◌<◌, length}
use Rattle.std.specs.Prelude.{find, map}
use Rattle.semantic_syntax.specs.Reading.{chain}
use Rattle.check_model.specs.Context.{seen_row}
use Rattle.check_context.specs.Handed.{is_block_or_function}
use Rattle.check_context.proofs.context.CheckContext.is_in_static_block.Given as goal

abbrev pub invariant-loop-scope : goal.invariant-loop-scope
invariant-loop-scope l = let t = l.self.scoping.now in record {
  within : l.scope < length t.scopes;
  rest : find is_block_or_function (map (seen_row t) (chain t.scopes l.scope)) ≡ find is_block_or_function (map (seen_row t) (chain t.scopes l.self.current_scope_id));
}

abbrev pub decreases-loop-scope : goal.decreases-loop-scope
decreases-loop-scope l = length (chain l.self.scoping.now.scopes l.scope)
