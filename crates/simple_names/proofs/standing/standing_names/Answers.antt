use Rattle.std.proofs.Common.{ℕ, Bool, ◌||◌, ◌∙◌}
use Rattle.semantic_tree.specs.declared.swap.Setting.TheVariants.{Elsewhere}
use Rattle.mangle_model.specs.OneNameEach.{bears_such, fixed_below}
use Rattle.simple_names.specs.Telling.{is_name_among, may_by, told_by}
use Rattle.simple_names.proofs.standing.standing_names.Goals as goal

pub returns : goal.returns
returns c = λ q.
    let bears : ℕ → Bool = bears_such (may_by c.args.known.now) (told_by c.args.known.now) in
    c.in_ok-add_names.ensures q
    ∙ (λ i. is_name_among (c.new-names.ensures i) q || is_name_among (fixed_below bears Elsewhere ((c.node-root.ensures ∙ c.root.ensures.root) i).children) q)
