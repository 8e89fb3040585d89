use Rattle.std.proofs.Common.{[], List, ap, ◌∙◌}
use Rattle.semantic_syntax.specs.declared.source_type.SourceType.{SourceType}
use Rattle.semantic_tree.specs.declared.node.Node.{Node}
use Rattle.tangle_model.specs.Mention.{Mention}
use Rattle.tangle_model.specs.Surroundings.{around_under}
use Rattle.tangle_model.specs.declared.around.Around.{Around}
use Rattle.tangled_names.specs.Gathered.{mentions_from}
use Rattle.tangled_names.proofs.Passed.{passed}
use Rattle.tangled_names.proofs.pass.MentionPass.over.Goals as goal

pub returns : goal.returns
returns c =
    let s : SourceType = c.args.program.now.source_type in
    c.in_ok-gather.ensures
    ∙ ap (λ (a : Around). mentions_from a c.root.result.node.now c.new-pass.result) (c.outermost.ensures ∙ ap (λ (x : SourceType). around_under x []) c.source_type.ensures)
    ∙ ap (λ (n : Node). mentions_from (around_under s []) n c.new-pass.result) c.root.ensures.root
    ∙ ap (λ (ms : List Mention). mentions_from (around_under s []) c.args.program.now.root ms) c.new-pass.ensures
    ∙ passed c.args.program.now
