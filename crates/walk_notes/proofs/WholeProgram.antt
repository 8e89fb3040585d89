-- A walk over a program from its root notes its classes and labels.
use Rattle.std.proofs.Common.{◌≡◌, [], Bool, true, false, cond, if◌then◌else◌, None, refl, sym, ap, ◌∙◌}
use Rattle.semantic_kinds.specs.Kinds.{same_kind}
use Rattle.semantic_kinds.specs.declared.kind.AstType.TheVariants as kind
use Rattle.semantic_tree.specs.Faults.{first_fault}
use Rattle.semantic_tree.specs.Tree.{Tree}
use Rattle.semantic_model.specs.Class.{classes}
use Rattle.semantic_model.specs.Label.{unused_labels}
use Rattle.semantic_model.specs.Step.{root_place}
use Rattle.class_table.specs.Lists.{no_classes}
use Rattle.class_table.specs.Noted.{begun_builder, class_left}
use Rattle.class_table.specs.Told.{lists_told}
use Rattle.class_table.specs.declared.builder.ClassTableBuilder.{ClassTableBuilder}
use Rattle.class_table.proofs.Noting.{unnoted}
use Rattle.class_table.proofs.NotingSteps.{node_steps_note, all_steps_note}
use Rattle.unused_labels.specs.LabelStack.{no_labels}
use Rattle.unused_labels.proofs.StepsWalked.{node_steps_walked, all_steps_walked}
use Rattle.walk_notes.specs.NoteLists.{nothing_noted, noted_over}

off : (b : Bool) → cond b (nothing_noted false).classes (nothing_noted false).classes ≡ (nothing_noted false).classes
off true = refl
off false = refl

pub program_classes : (on : Bool) (p : Tree) → first_fault p ≡ None → (noted_over [] p.root (nothing_noted on)).classes.classes ≡ (if on then lists_told (classes p.root) else no_classes)
program_classes true p h = ap (λ (b : ClassTableBuilder). b.classes) (sym (node_steps_note (root_place p) 0 begun_builder) ∙ all_steps_note p h)
program_classes false p h =
    ap (λ (b : ClassTableBuilder). (class_left p.root.kind b).classes) (unnoted p.root.children p.root.kind p.root.node_id (nothing_noted false).classes refl)
    ∙ ap (λ (b : ClassTableBuilder). b.classes) (off (same_kind p.root.kind kind.Class))

pub program_labels : (on : Bool) (p : Tree) → first_fault p ≡ None → (noted_over [] p.root (nothing_noted on)).labels ≡ record { around = []; unused = unused_labels p.root }
program_labels on p h = sym (node_steps_walked (root_place p) 0 no_labels) ∙ all_steps_walked p h
