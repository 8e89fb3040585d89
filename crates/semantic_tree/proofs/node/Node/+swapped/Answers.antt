use Rattle.std.proofs.Common.{◌+◌, drop, refl, ap, sym, ◌∙◌, arith}
use Rattle.std.specs.Str.{chars}
use Rattle.semantic_tree.specs.Forest.{join}
use Rattle.semantic_tree.specs.Children.{forest_of}
use Rattle.semantic_tree.specs.Renamed.{swap, renamed, renamed_node}
use Rattle.semantic_tree.proofs.Forests.{smaller_child}
use Rattle.semantic_tree.proofs.Swapped.{renamed_turn, renamed_end, same_node}
use Rattle.semantic_tree.proofs.node.Node.+swapped.Goals as goal

pub loop-place-preserved : goal.loop-place-preserved
loop-place-preserved t c =
    let here = c.loop-place in
    let all = here.invariant in
    let items = c.as_slice-place-items.result.now in
    let child = c.loop-place-item.result in
    let f = swap (chars c.args.a.now) (chars c.args.b.now) in
    let pushed = c.in-Ok.ensures.ok in
    record {
      items = all.items;
      below = all.below;
      kind = ap (λ n. n.kind) pushed ∙ all.kind;
      span = ap (λ n. n.span) pushed ∙ all.span;
      text = ap (λ n. n.text) pushed ∙ all.text;
      marks = ap (λ n. n.marks) pushed ∙ all.marks;
      id = ap (λ n. n.node_id) pushed ∙ all.id;
      rest = ap (λ n. join n.children (renamed f c.below-below.result (forest_of (drop (here.place-index + 1) items)))) pushed
          ∙ renamed_turn f c.below-below.result here.made.children items here.place-index child c.in_ok-copy.copy c.loop-place-test.true c.loop-place-item.is c.in_ok-copy.ensures
          ∙ all.rest;
    }

pub returns : goal.returns
returns t c =
    let here = c.loop-place in
    let all = here.invariant in
    let items = c.as_slice-place-items.result.now in
    let f = swap (chars c.args.a.now) (chars c.args.b.now) in
    same_node here.made (renamed_node f c.args.setting c.args.role c.args.self.now) all.kind all.span all.text all.marks
    (sym (renamed_end f c.below-below.result here.made.children items here.place-index c.loop-place-test.false) ∙ all.rest ∙ ap (λ s. renamed f s c.args.self.now.children) all.below)
    all.id

pub loop-place-init : goal.loop-place-init
loop-place-init t c =
    let made = c.in_ok-made.ensures in
    let items = c.as_slice-place-items.result.now in
    let f = swap (chars c.args.a.now) (chars c.args.b.now) in
    record {
      items = c.as_slice-place-items.ensures.forest;
      below = c.below-below.ensures;
      kind = ap (λ n. n.kind) made;
      span = ap (λ n. n.span) made;
      text = ap (λ n. n.text) made ∙ c.swapped_text-text.ensures;
      marks = ap (λ n. n.marks) made;
      id = refl;
      rest = ap (λ n. join n.children (renamed f c.below-below.result (forest_of items))) made ∙ ap (renamed f c.below-below.result) c.as_slice-place-items.ensures.forest;
    }

pub swapped-requires : goal.swapped-requires
swapped-requires t c =
    let smaller = smaller_child c.as_slice-place-items.result.now c.loop-place.place-index c.loop-place-item.result c.args.self.now.children c.loop-place-test.true c.loop-place-item.is c.loop-place.invariant.items in
    (omega (arith, smaller), tt)
