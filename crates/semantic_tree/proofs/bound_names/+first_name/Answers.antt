use Rattle.std.proofs.Common.{◌<◌, ◌∷◌, [], length, if◌then◌else◌, ap, sym, ◌∙◌, arith}
use Rattle.std.proofs.Math.ListN.{drop_of_length-le}
use Rattle.semantic_tree.specs.Children.{forest_of}
use Rattle.semantic_tree.specs.BoundNames.{bound_below, rising}
use Rattle.semantic_tree.proofs.Forests.{smaller_child}
use Rattle.semantic_tree.specs.Nodes.{first_of}
use Rattle.semantic_tree.proofs.Rising.{found_in_child, child_without, child_apart}
use Rattle.semantic_tree.proofs.bound_names.+first_name.Goals as goal
use Rattle.semantic_tree.proofs.bound_names.+first_name.Goals.{then-binds_by+in-None, else-binds_by}

pub returns-in-Some : goal.returns-in-Some
returns-in-Some t c =
    let items = c.as_slice-role-items.result.now in
    let child = c.loop-role-item.result in
    let within : c.loop-role.role-index < length items = omega arith in
    sym (found_in_child c.args.from c.args.node.now.kind items c.loop-role.role-index child c.in-Some.found.node.now within c.loop-role-item.is (sym c.binds_by.ensures ∙ c.if-binds_by.true) (sym c.in-Some.ensures)) ∙ c.loop-role.invariant.rest

pub loop-role-preserved : goal.loop-role-preserved
loop-role-preserved t c =
    let items = c.as_slice-role-items.result.now in
    let child = c.loop-role-item.result in
    let within : c.loop-role.role-index < length items = omega arith in
    record {
      items = c.loop-role.invariant.items;
      rest = elim c.if-binds_by.branch [
        | then-binds_by+in-None w ↦ ap first_of (sym (child_without c.args.from c.args.node.now.kind items c.loop-role.role-index child within c.loop-role-item.is (sym c.binds_by.ensures ∙ w.if-binds_by.true) (sym w.in-None.ensures))) ∙ c.loop-role.invariant.rest
        | else-binds_by w ↦ ap first_of (sym (child_apart c.args.from c.args.node.now.kind items c.loop-role.role-index child within c.loop-role-item.is (sym c.binds_by.ensures ∙ w.if-binds_by.false))) ∙ c.loop-role.invariant.rest
      ];
    }

pub loop-role-init : goal.loop-role-init
loop-role-init t c =
    let node = c.args.node.now in
    record {
      items = c.as_slice-role-items.ensures.forest;
      rest = ap (λ below. first_of (rising c.args.from (bound_below node.kind below))) c.as_slice-role-items.ensures.forest
          ∙ ap (λ b. first_of (rising c.args.from (if b then node ∷ [] else bound_below node.kind node.children))) (sym c.if-eq.false ∙ c.eq.ensures);
    }

pub first_name-requires : goal.first_name-requires
first_name-requires t c =
    let smaller = smaller_child c.as_slice-role-items.result.now c.loop-role.role-index c.loop-role-item.result c.args.node.now.children c.loop-role-test.true c.loop-role-item.is c.loop-role.invariant.items in
    (omega (arith, c.decreases, smaller), tt)

pub returns : goal.returns
returns t c =
    sym (ap (λ xs. first_of (rising c.args.from (bound_below c.args.node.now.kind (forest_of xs)))) (drop_of_length-le c.as_slice-role-items.result.now c.loop-role-test.false))
    ∙ c.loop-role.invariant.rest
