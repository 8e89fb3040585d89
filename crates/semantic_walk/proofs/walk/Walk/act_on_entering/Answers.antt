use Rattle.std.proofs.Common.{◌≡◌, cond, refl, ap, ◌∙◌}
use Rattle.semantic_kinds.specs.declared.kind.AstType.TheVariants as kind
use Rattle.semantic_tree.specs.Views.{is}
use Rattle.semantic_walk.specs.Walker.{Walker, referring}
use Rattle.semantic_walk.proofs.RoomAt.{ids_stepped}
use Rattle.semantic_walk.proofs.EnterSteps.{enters, stands_in, notes_last}
use Rattle.semantic_walk.proofs.TurnEnds.{on_ok}
use Rattle.semantic_walk.proofs.walk.Walk.act_on_entering.Goals as goal

pub note_reference-requires : goal.note_reference-requires
note_reference-requires c = c.requires.references

pub declare-requires : goal.declare-requires
declare-requires c = λ outside.
    ids_stepped c.args.self.now c.note_reference.new.self c.note_eval.new.self c.args.kind.node.now c.in_ok-note_reference.ensures.made c.note_eval.ensures.made (c.requires.ids outside)

pub returns-clause-walks : goal.returns-clause-walks
returns-clause-walks c = λ ds w p e comes shown stepped.
    let node = c.args.kind.node.now in
    let last : c.declare.new.self ≡ stands_in ds w p comes shown =
    enters ds w p comes shown node c.note_reference.new.self c.note_eval.new.self c.declare.new.self e
    (c.in_ok-note_reference.ensures.made ∙ ap (λ (v : Walker). cond (is kind.IdentifierReference node) (referring v node) v) stepped)
    c.note_eval.ensures.made (λ within there. c.in_ok-declare.ensures.entering ds p e refl within there) in
    on_ok c.note.result c.note.ensures.made (λ made. notes_last ds w p comes shown node c.declare.new.self c.note.new.self e last made)
