use Rattle.std.proofs.Common.{◌<◌, length, ap, subst}
use Rattle.semantic_walk.specs.Walker.{Walker}
use Rattle.semantic_walk.proofs.Folding.{folds_entering, folds_opening}
use Rattle.semantic_walk.proofs.TurnEnds.{on_ok}
use Rattle.semantic_walk.proofs.binder.AstKindBinder.bind.Goals as goal

pub returns-then-has_ids-clause-folds : goal.returns-then-has_ids-clause-folds
returns-then-has_ids-clause-folds c = λ ds p st node outside within shown folded.
    on_ok c.bind_node.result (c.bind_node.ensures.entering ds p node outside within shown) (λ made.
    folds_entering ds c.args.walk.now.made c.bind_node.new.self.made p st shown.grounded shown.chain (ap (λ (w : Walker). w.made) made) folded)

pub returns-then-has_ids-clause-folds_inside : goal.returns-then-has_ids-clause-folds_inside
returns-then-has_ids-clause-folds_inside c = λ ds p own st node inside within folded.
    on_ok c.bind_node.result (c.bind_node.ensures.opening ds p own node inside within) (λ made.
    folds_opening ds c.args.walk.now.made c.bind_node.new.self.made p own st (subst (λ n. n < length c.args.walk.now.made.tables.scopes) within.current c.has_ids.ensures.stands) (ap (λ (w : Walker). w.made) made) folded)
