use Rattle.std.proofs.Common.{sym, ap, ◌∙◌}
use Rattle.semantic_syntax.specs.declared.scope_flags.ScopeFlags.{ScopeFlags}
use Rattle.semantic_walk.specs.Paths.{parent_in}
use Rattle.semantic_walk.specs.Walker.{Walker}
use Rattle.semantic_walk.proofs.PlaceRows.{on_ok_same, parameter_under}
use Rattle.semantic_walk.proofs.walk.Walk.bind_parameter_of.Goals as goal

pub returns-clause-made : goal.returns-clause-made
returns-clause-made c = λ ds p e within shown some parent.
    on_ok_same c.bind_names.result c.bind_names.new.self _ _
    (parameter_under ds c.args.self.now p within c.args.parameter.node.now c.args.list.node.now c.parameter_row-row.result c.scope_flags.result.bits e shown some parent
    (ap (λ (f : ScopeFlags). f.bits) c.scope_flags.ensures)
    (c.parameter_row-row.ensures (c.is_in_simple-is_simple.ensures (parent ∙ ap (λ (w : Walker). parent_in w.path) (sym c.self.view_is)))))
    c.bind_names.ensures.made
