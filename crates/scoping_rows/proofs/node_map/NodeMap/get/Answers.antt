use Rattle.std.proofs.Common.{ℕ, Some, subst, sym, ap, ◌∙◌, nat_eq}
use Rattle.std.specs.Map.{lookup}
use Rattle.semantic_syntax.specs.NodeEntries.{HasNone, IsPositionOf}
use Rattle.scoping_rows.proofs.Rising.{lookup_at, lookup_behind}
use Rattle.scoping_rows.proofs.node_map.NodeMap.get.Goals as goal

pub returns-in-Some : goal.returns-in-Some
returns-in-Some g c =
    let es = c.self.inside.rising.items in
    let position = subst (λ xs. IsPositionOf xs c.args.node c.in-Some.position) c.deref.ensures.value c.in-Some.ensures in
    let found = lookup_at es c.self.invariant.0 c.self.inside.late.entries c.args.node c.in-Some.position c.index.result.now position in
    ap (λ (e : ℕ × g.row.T.Denot). Some e.1) c.index.ensures ∙ sym found ∙ ap (lookup (nat_eq c.args.node)) c.self.view_is

pub returns-in-None : goal.returns-in-None
returns-in-None g c =
    let es = c.self.inside.rising.items in
    let none = subst (λ xs. HasNone xs c.args.node) c.deref.ensures.value c.in-None.ensures in
    c.copied.ensures ∙ c.get.ensures.value ∙ sym (lookup_behind es c.self.inside.late.entries c.args.node none) ∙ ap (lookup (nat_eq c.args.node)) c.self.view_is
