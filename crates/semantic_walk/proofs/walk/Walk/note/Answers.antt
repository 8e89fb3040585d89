use Rattle.std.proofs.Common.{◌≡◌, false, sym, ap, subst, ◌∙◌}
use Rattle.table_building.specs.Growth.{Goes}
use Rattle.table_building.proofs.Growing.{goes-refl}
use Rattle.walk_notes.specs.NoteLists.{noting, is_noted}
use Rattle.walk_notes.proofs.Unnoted.{enters_nothing}
use Rattle.semantic_walk.specs.Paths.{parent_in}
use Rattle.semantic_walk.specs.Walker.{Walker, walker}
use Rattle.semantic_walk.proofs.Counting.{on_success}
use Rattle.semantic_walk.proofs.TurnEnds.{on_ok}
use Rattle.semantic_walk.proofs.walk.Walk.note.Goals as goal

pub returns-then-is_noted-clause-goes : goal.returns-then-is_noted-clause-goes
returns-then-is_noted-clause-goes c = on_success c.enter.result (subst (λ (w : Walker). Goes w.made c.self.inside.declared) c.self.view_is (goes-refl c.self.inside.declared))

pub returns-then-is_noted-clause-made : goal.returns-then-is_noted-clause-made
returns-then-is_noted-clause-made c =
    let node = c.args.kind.node.now in
    on_ok c.enter.result c.enter.ensures.ok
    (λ noted. ap (λ ns. record (walker c.self.inside) { notes = ns }) (noted ∙ ap (λ ps. noting ps node c.self.inside.notes) c.parent-parent.ensures) ∙ ap (λ (w : Walker). record w { notes = noting (parent_in c.args.self.now.path) node w.notes }) c.self.view_is)

pub returns-else-is_noted-clause-made : goal.returns-else-is_noted-clause-made
returns-else-is_noted-clause-made c =
    let w : Walker = c.args.self.now in
    let node = c.args.kind.node.now in
    let quiet : is_noted node.kind ≡ false = ap is_noted (sym c.ty.ensures) ∙ sym c.is_noted.ensures ∙ c.if-is_noted.false in
    ap (λ ns. record w { notes = ns }) (sym (enters_nothing (parent_in w.path) node w.notes quiet))
