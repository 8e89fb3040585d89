use Rattle.std.proofs.Common.{bytes_eq, false, ◌||◌, sym, ◌∙◌}
use Rattle.std.specs.List.{list_any}
use Rattle.mangler.specs.Predicates.{predicates_from}
use Rattle.mangler.proofs.SeenSteps.{named_in_tree}
use Rattle.mangler.proofs.seen.predicate_names.Goals as goal

pub returns : goal.returns
returns c = λ q.
    c.in_ok-add_predicates.ensures q
    ∙ (λ i. list_any (bytes_eq q) (c.new-names.ensures i) || list_any (bytes_eq q) (predicates_from false ((c.node.ensures ∙ c.root.ensures.root) i)))
    ∙ sym (named_in_tree q c.args.program.now)
