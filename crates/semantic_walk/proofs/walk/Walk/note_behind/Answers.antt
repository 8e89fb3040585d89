use Rattle.std.proofs.Common.{◌≡◌, false, sym, ap, ◌∙◌}
use Rattle.walk_notes.specs.NoteLists.{is_noted_behind}
use Rattle.walk_notes.proofs.Unnoted.{leaves_nothing}
use Rattle.semantic_walk.specs.Walker.{Walker}
use Rattle.semantic_walk.proofs.walk.Walk.note_behind.Goals as goal

pub returns-else-is_noted_behind-clause-made : goal.returns-else-is_noted_behind-clause-made
returns-else-is_noted_behind-clause-made c =
    let w : Walker = c.args.self.now in
    let node = c.args.kind.node.now in
    let quiet : is_noted_behind node.kind ≡ false = ap is_noted_behind (sym c.requires) ∙ sym c.is_noted_behind.ensures ∙ c.if-is_noted_behind.false in
    ap (λ ns. record w { notes = ns }) (sym (leaves_nothing node w.notes quiet))
