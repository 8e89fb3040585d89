use Rattle.std.proofs.Common.{◌<◌, length, subst, sym}
use Rattle.std.specs.List.{AllByRecursion}
use Rattle.class_table.specs.Lists.{ClassLists}
use Rattle.class_table.specs.Outward.{classes_outward}
use Rattle.class_table.specs.View.{lists_of}
use Rattle.class_table.proofs.Parents.{stand_before}
use Rattle.expression_checks.proofs.AroundClasses.{around_each}
use Rattle.expression_checks.proofs.private_names.attest_around.Goals as goal

pub returns : goal.returns
returns c =
    let lists : ClassLists = lists_of c.classes.inside in
    let P : ClassLists → Type 0 = λ lists. AllByRecursion (λ k. k < length lists.nodes) (classes_outward lists.parents c.args.class) in
    subst P c.classes.view_is
    (around_each (length lists.nodes) lists.parents (stand_before _ lists.parents c.classes.invariant.lists.inside) c.args.class (subst (λ (lists : ClassLists). c.args.class < length lists.nodes) (sym c.classes.view_is) c.requires))
