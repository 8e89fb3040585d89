use Rattle.std.proofs.Common.{◌≡◌, ◌+◌, length, drop, option_map, ap, ◌∙◌, arith}
use Rattle.semantic_tree.specs.ChildIter.{shown}
use Rattle.semantic_tree.specs.Nodes.{first_of}
use Rattle.node_store.proofs.Frames.{above_shown, asked_at}
use Rattle.node_store.proofs.stack.AncestryStack.parent.Goals as goal

pub returns : goal.returns
returns c =
    let frames = c.self.inside.frames in
    let counted : c.in_ok-above.above + 2 ≡ length frames.items = omega (arith, frames.ok.0, c.len.ensures, c.in_ok-above.ensures.0, c.in_ok-above.ensures.1) in
    let found = rw c.deref.ensures.value at c.get.ensures.lookup in
    ap (option_map shown) (c.copied.ensures ∙ asked_at c.get.result frames.items c.in_ok-above.above found.2 found.1 (omega arith))
    ∙ above_shown frames.items c.in_ok-above.above counted
    ∙ ap (λ path. first_of (drop 1 path)) c.self.view_is
