use Rattle.std.proofs.Common.{not, sym, ap, ◌∙◌}
use Rattle.semantic_tree.specs.Children.{forest_of}
use Rattle.semantic_walk.proofs.DoingBits.{rest_inside, leaf_by}
use Rattle.semantic_walk.proofs.doings.Doings.any_inside.Goals as goal

-- where all stand inside, some do if there are some
pub returns-then-holds_all : goal.returns-then-holds_all
returns-then-holds_all c =
    sym (rest_inside c.args.self (forest_of c.args.rest.now) (sym c.holds_all.ensures ∙ c.if-holds_all.true) ∙ ap not (leaf_by c.args.rest.now ∙ sym c.is_empty.ensures))
