use Rattle.std.proofs.Common.{List, ℕ, sym, ap, ◌∙◌, map, drop}
use Rattle.class_table.specs.Lists.{ClassLists}
use Rattle.class_table.proofs.Parents.{outward_steps}
use Rattle.check_model.specs.Context.{seen_class, classes_from}
use Rattle.check_context.proofs.context.CheckContext.outer_class.Goals as goal

pub returns-clause-outward : goal.returns-clause-outward
returns-clause-outward c =
    let lists : ClassLists = c.args.self.now.classes.now.classes in
    ap (classes_from lists) c.class_around.ensures.value
    ∙ sym (ap (λ (ids : List ℕ). drop 1 (map (seen_class lists) ids)) (outward_steps lists.parents c.args.class c.class_around.ensures.before))
