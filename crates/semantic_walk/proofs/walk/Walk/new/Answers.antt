use Rattle.std.proofs.Common.{◌≡◌, ℕ, Bool, true, false, ◌&&◌, cond, List, [], None, ◌∙◌, ap, refl}
use Rattle.semantic_kinds.specs.declared.kind.AstType.TheVariants as kind
use Rattle.semantic_syntax.specs.SourceTypes.{is_typescript_definition}
use Rattle.semantic_syntax.specs.Tables.{Name}
use Rattle.semantic_tree.specs.Faults.{first_fault}
use Rattle.semantic_tree.specs.Tree.{Tree}
use Rattle.semantic_tree.proofs.ShapedLaws.{IsShaped-no_fault}
use Rattle.semantic_model.specs.Step.{root_place}
use Rattle.walk_model.specs.Opens.{open_scope}
use Rattle.walk_model.specs.WalkState.{nothing_made}
use Rattle.walk_model.specs.WrittenNames.{WrittenName, is_written, is_sloppy, names_written}
use Rattle.walk_model.proofs.turns.RootSteps.{root_scope}
use Rattle.walk_model.proofs.turns.Seats.{root_is_program}
use Rattle.walk_notes.specs.NoteLists.{nothing_noted}
use Rattle.semantic_walk.specs.Begun.{notes_classes}
use Rattle.semantic_walk.specs.Paths.{Way}
use Rattle.semantic_walk.proofs.Beginning.{begins, made_first}
use Rattle.semantic_walk.proofs.walk.Walk.new.Goals as goal

pub returns-clause-begins : goal.returns-clause-begins
returns-clause-begins c =
    let program : Tree = c.args.program.now in
    let fits : first_fault program ≡ None = IsShaped-no_fault program c.root-root.ensures.shaped in
    let is_program : program.root.kind ≡ kind.Program = root_is_program program fits in
    let made : c.in_ok-declared.declared ≡ open_scope nothing_made (root_place program) (root_scope (root_place program)) =
    made_first program is_program nothing_made c.in_ok-declared.declared c.root-root.result.node.now c.source_type-source_type.result c.root_flags.result.bits refl c.root-root.ensures.root
    c.source_type-source_type.ensures c.root_flags.ensures c.in_ok-declared.ensures in
    begins program _ c.args.settings.build_nodes (notes_classes c.args.settings) c.args.settings.checks made c.source_type-source_type.ensures (ap (λ (way : Way). way.nodes) c.new-3.ensures) c.new-4.ensures c.empty.ensures
    (c.is_typescript_definition.ensures ∙ ap is_typescript_definition c.source_type-source_type.ensures) (ap (λ (way : Way). way.entered) c.new-3.ensures) (c.new-5.ensures ∙ ap nothing_noted c.notes_classes.ensures) c.source_text.ensures.bytes refl c.new-6.ensures refl

pub returns-clause-states : goal.returns-clause-states
returns-clause-states c = c.in_ok-states.ensures.searched

-- where functions don't move, no name bars them
barred_by : (ws : List WrittenName) (sloppy : Bool) (opener : ℕ) (name : Name) → is_written (cond sloppy ws []) opener name ≡ (sloppy && is_written ws opener name)
barred_by ws true opener name = refl
barred_by ws false opener name = refl

pub returns-clause-names : goal.returns-clause-names
returns-clause-names c = λ opener name.
    let program : Tree = c.args.program.now in
    ap (λ (ws : List WrittenName). is_written ws opener name) c.new-2.ensures ∙ barred_by (names_written program) (is_sloppy program.source_type) opener name
