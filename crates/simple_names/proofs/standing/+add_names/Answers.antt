use Rattle.std.proofs.Common.{◌≡◌, ℕ, Bool, ◌<◌, ◌||◌, length, get_or, ap, ◌∙◌, arith}
use Rattle.semantic_kinds.specs.declared.role.Role.{Role}
use Rattle.semantic_tree.specs.Children.{forest_of}
use Rattle.semantic_tree.specs.Falls.{child_is_smaller}
use Rattle.semantic_tree.specs.Forest.{count}
use Rattle.semantic_tree.specs.declared.node.Node.{Node}
use Rattle.semantic_tree.specs.declared.swap.Setting.{Setting}
use Rattle.mangle_model.specs.OneNameEach.{bears_such, fixed_below}
use Rattle.simple_names.specs.Telling.{is_name_among, may_by, told_by}
use Rattle.simple_names.proofs.StandingTurns.{standing_turn}
use Rattle.simple_names.proofs.standing.+add_names.Goals as goal

pub add_names-requires : goal.add_names-requires
add_names-requires t c =
    let items = c.as_slice-role-items.result.now in
    let i = c.loop-role.role-index in
    let child = c.loop-role-item.result in
    let within : i < length items = omega arith in
    let smaller : count (get_or items i child).1.children < count (forest_of items) = child_is_smaller items i child within in
    let size : count child.1.children ≡ count (get_or items i child).1.children = ap (λ (x : Role × Node). count x.1.children) c.loop-role-item.is in
    let all : count (forest_of items) ≡ count c.args.node.now.children = ap count c.loop-role.invariant.items in
    omega (arith, smaller, size, all)

pub loop-role-preserved : goal.loop-role-preserved
loop-role-preserved t c =
    let bears : ℕ → Bool = bears_such (may_by c.args.known.now) (told_by c.args.known.now) in
    let items = c.as_slice-role-items.result.now in
    let child = c.loop-role-item.result in
    let within : c.loop-role.role-index < length items = omega arith in
    record {
      items = c.loop-role.invariant.items;
      rest = λ q.
          standing_turn bears c.args.setting q items c.loop-role.role-index child c.loop-role.names c.add_name.new.names c.add_names.new.names _ within c.loop-role-item.is
          (c.in_ok-add_name.ensures q)
          (c.in_ok-add_names.ensures q ∙ ap (λ (s : Setting). is_name_among c.add_name.new.names q || is_name_among (fixed_below bears s child.1.children) q) c.setting_below-below.ensures)
          (c.loop-role.invariant.rest q);
    }
