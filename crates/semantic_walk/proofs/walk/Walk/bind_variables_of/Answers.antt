use Rattle.std.proofs.Common.{sym, ◌∙◌}
use Rattle.semantic_walk.proofs.PlaceRows.{on_ok_same, var_under, lexical_under}
use Rattle.semantic_walk.proofs.walk.Walk.bind_variables_of.Goals as goal

pub returns-then-is_var_declaration-clause-made : goal.returns-then-is_var_declaration-clause-made
returns-then-is_var_declaration-clause-made c = λ ds p e within shown some parent.
    on_ok_same c.bind_var.result c.bind_var.new.self _ _
    (var_under ds c.args.self.now p c.args.declarator.node.now c.args.declaration.node.now c.var_row.result c.is_pure_declarator-is_pure.result e within parent c.is_pure_declarator-is_pure.ensures shown some
    (sym c.is_var_declaration.ensures ∙ c.if-is_var_declaration.true) c.var_row.ensures)
    c.bind_var.ensures.made

pub returns-else-is_var_declaration-clause-made : goal.returns-else-is_var_declaration-clause-made
returns-else-is_var_declaration-clause-made c = λ ds p e within shown some parent.
    on_ok_same c.bind_names.result c.bind_names.new.self _ _
    (lexical_under ds c.args.self.now p c.args.declarator.node.now c.args.declaration.node.now c.lexical_row.result c.is_pure_declarator-is_pure.result e within parent c.is_pure_declarator-is_pure.ensures
    (sym c.is_var_declaration.ensures ∙ c.if-is_var_declaration.false) c.lexical_row.ensures)
    c.bind_names.ensures.made
