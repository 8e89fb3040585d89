use Rattle.std.proofs.Common.{None, ap, ◌∙◌}
use Rattle.semantic_tree.specs.declared.node.Node.{Node}
use Rattle.name_lint.specs.Gathered.{Gathered, symbol_at_node, gathered_from}
use Rattle.name_lint.proofs.ProgramNames.{pass_told}
use Rattle.name_lint.proofs.tree_pass.TreePass.over.Goals as goal

pub returns : goal.returns
returns c = record {
  gathered = pass_told c.args.program.now c.args.tables.now c.requires c.gather.new.self
      (c.in_ok-gather.ensures ∙ ap (λ (n : Node). gathered_from (symbol_at_node c.args.tables.now) None n c.new-pass.result) c.root.ensures.root ∙ ap (λ (x : Gathered). gathered_from (symbol_at_node c.args.tables.now) None c.args.program.now.root x) c.new-pass.ensures);
  shaped = c.root.ensures.shaped;
}
