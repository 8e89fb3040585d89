use Rattle.std.proofs.Common.{◌≡◌, ◌<◌, length, IfSome}
use Rattle.check_model.specs.Super.{search_from}
use Rattle.check_context.specs.Handed.{sight}
use Rattle.expression_checks.specs.Searches.{classes_kept, IsSearching}
use Rattle.expression_checks.proofs.Searched.{scopes_from}
use Rattle.expression_checks.proofs.super_search.first_verdict.Given as goal

abbrev pub invariant-loop-left : goal.invariant-loop-left
invariant-loop-left l = let s = sight l.kind.node.now l.ctx in let t = l.ctx.scoping.now in record {
  searching : IsSearching l.kind.node.now l.ctx l.state;
  scope : IfSome l.left (λ scope. scope < length t.scopes);
  rest : search_from s (classes_kept l.ctx l.state.kept) l.state.from (scopes_from t l.left) ≡ search_from s s.classes s.node.node_id s.scopes;
}

abbrev pub decreases-loop-left : goal.decreases-loop-left
decreases-loop-left l = length (scopes_from l.ctx.scoping.now l.left)
