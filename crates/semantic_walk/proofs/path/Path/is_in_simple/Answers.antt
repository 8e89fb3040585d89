use Rattle.std.proofs.Common.{◌-◌, List, Bool, length, slice_get, sym, ap, ◌∙◌}
use Rattle.semantic_walk.specs.Paths.{Way, ends_with_list, parent_in}
use Rattle.semantic_walk.proofs.Turning.{in_simple}
use Rattle.semantic_walk.proofs.path.Path.is_in_simple.Goals as goal

pub returns-in-Some : goal.returns-in-Some
returns-in-Some c = λ h.
    let way = c.self.view_is in
    in_simple c.self.inside.simple.items c.self.inside.stack c.args.list.node.now c.in-Some.is_simple.now c.self.invariant.simple
    (h ∙ sym (ap (λ (w : Way). parent_in w.nodes) way))
    (sym c.is_list.ensures ∙ c.if-is_list.true)
    (ap (λ (w : Way). ends_with_list w.nodes) way ∙ sym c.is_at_list.ensures ∙ c.if-not-is_at_list.true)
    (sym (ap (λ (bs : List Bool). slice_get bs (length bs - 1)) c.deref.ensures.value) ∙ sym c.in-Some.ensures.value)
