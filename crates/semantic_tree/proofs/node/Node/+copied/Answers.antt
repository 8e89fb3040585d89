use Rattle.std.proofs.Common.{◌+◌, drop, refl, ap, sym, ◌∙◌, arith}
use Rattle.semantic_tree.specs.Forest.{join}
use Rattle.semantic_tree.specs.Children.{forest_of, single}
use Rattle.semantic_tree.proofs.Forests.{smaller_child, join_turn, join_end}
use Rattle.semantic_tree.proofs.Swapped.{same_node}
use Rattle.semantic_tree.proofs.node.Node.+copied.Goals as goal

pub loop-role-init : goal.loop-role-init
loop-role-init t c =
    let made = c.in_ok-made.ensures in
    let items = c.as_slice-role-items.result.now in
    record {
      items = c.as_slice-role-items.ensures.forest;
      kind = ap (λ n. n.kind) made;
      span = ap (λ n. n.span) made;
      text = ap (λ n. n.text) made ∙ c.as_str.ensures.chars;
      marks = ap (λ n. n.marks) made;
      id = refl;
      rest = ap (λ n. join n.children (forest_of items)) made ∙ c.as_slice-role-items.ensures.forest;
    }

pub copied-requires : goal.copied-requires
copied-requires t c =
    let smaller = smaller_child c.as_slice-role-items.result.now c.loop-role.role-index c.loop-role-item.result c.args.self.now.children c.loop-role-test.true c.loop-role-item.is c.loop-role.invariant.items in
    (omega (arith, c.decreases, smaller), tt)

pub loop-role-preserved : goal.loop-role-preserved
loop-role-preserved t c =
    let here = c.loop-role in
    let all = here.invariant in
    let items = c.as_slice-role-items.result.now in
    let child = c.loop-role-item.result in
    let pushed = c.in-Ok.ensures.ok in
    let left = forest_of (drop (here.role-index + 1) items) in
    record {
      items = all.items;
      kind = ap (λ n. n.kind) pushed ∙ all.kind;
      span = ap (λ n. n.span) pushed ∙ all.span;
      text = ap (λ n. n.text) pushed ∙ all.text;
      marks = ap (λ n. n.marks) pushed ∙ all.marks;
      id = ap (λ n. n.node_id) pushed ∙ all.id;
      rest = ap (λ n. join n.children left) pushed
          ∙ ap (λ copy. join (join here.made.children (single child.0 copy)) left) c.in_ok-copy.ensures
          ∙ join_turn here.made.children items here.role-index child c.loop-role-test.true c.loop-role-item.is
          ∙ all.rest;
    }

pub returns : goal.returns
returns t c =
    let here = c.loop-role in
    let all = here.invariant in
    same_node here.made c.args.self.now all.kind all.span all.text all.marks
    (sym (join_end here.made.children c.as_slice-role-items.result.now here.role-index c.loop-role-test.false) ∙ all.rest)
    all.id
