use Rattle.std.proofs.Common.{◌∙◌}
use Rattle.semantic.proofs.Swapping.{compares_names}
use Rattle.semantic.proofs.builder.SemanticBuilder.build_counted.Goals as goal

pub returns-clause-analysed : goal.returns-clause-analysed
returns-clause-analysed g c = record {
  program = c.put_together-semantic.ensures.program;
  analysis = rw c.put_together-semantic.ensures.scoping (rw c.settings.ensures.checks at c.in_ok-made.ensures.analysis);
  nodes = rw c.put_together-semantic.ensures.tables c.in_ok-made.ensures.nodes;
  node_list = c.put_together-semantic.ensures.nodes ∙ (rw c.settings.ensures.build_nodes at c.in_ok-made.ensures.node_list);
  classes = c.put_together-semantic.ensures.classes ∙ (rw (c.settings.ensures.class_table, c.settings.ensures.checks) at c.in_ok-made.ensures.classes);
  labels = c.put_together-semantic.ensures.labels ∙ c.in_ok-made.ensures.labels;
  comments = c.put_together-semantic.ensures.comments;
  whitespace = c.put_together-semantic.ensures.whitespace;
  names = rw (c.put_together-semantic.ensures.scoping, c.put_together-semantic.ensures.tables)
      (compares_names c.args.program.now c.in_ok-made.made.scoping c.in_ok-made.made.tables c.in_ok-made.ensures.analysis.tables c.in_ok-made.ensures.nodes);
}
