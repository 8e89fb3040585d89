-- A walk at the root of a program.
use Rattle.std.specs.Prelude.{◌≡◌, ℕ, List, [], Bool, ◌&&◌, ◌||◌}
use Rattle.std.specs.Str.{encode_utf8_all}
use Rattle.semantic_syntax.specs.SourceTypes.{is_typescript_definition}
use Rattle.semantic_syntax.specs.Tables.{Name}
use Rattle.semantic_tree.specs.Tree.{Tree}
use Rattle.semantic_model.specs.Namespace.{InstanceState}
use Rattle.semantic_model.specs.Place.{Place}
use Rattle.semantic_model.specs.ScopeKind.{opened_scope}
use Rattle.semantic_model.specs.Step.{root_place, steps}
use Rattle.walk_model.specs.WalkState.{nothing_made}
use Rattle.walk_model.specs.Opens.{open_scope}
use Rattle.walk_model.specs.WrittenNames.{WrittenName, is_written, is_sloppy, names_written}
use Rattle.walk_notes.specs.NoteLists.{nothing_noted}
use Rattle.semantic_walk.specs.Listed.{kept_from}
use Rattle.semantic_walk.specs.Stated.{AllStated}
use Rattle.semantic_walk.specs.Walker.{Walker}
use Rattle.semantic_walk.specs.declared.settings.Settings.{Settings}

-- the walk stands at the root, whose scope is open; it keeps nodes, notes classes and tells early errors, or doesn't
abbrev pub begun : Tree → List InstanceState → List WrittenName → (keeps notes checks : Bool) → Walker
begun program states ws keeps notes checks =
    let p : Place = root_place program in
    record {
      made = open_scope nothing_made p (opened_scope p 0);
      source_type = program.source_type;
      states = states;
      namesakes = ws;
      path = [];
      current = 0;
      cursor = 0;
      is_ambient = is_typescript_definition program.source_type;
      nodes = kept_from keeps;
      notes = nothing_noted notes;
      source = encode_utf8_all program.source;
      checks = checks;
      said = [];
      counted = 0;
    }

-- the names are those that the program writes, if functions move in it
abbrev pub AreNamesOf : Tree → List WrittenName → Type 0
AreNamesOf program ws = (opener : ℕ) (name : Name) → is_written ws opener name ≡ (is_sloppy program.source_type && is_written (names_written program) opener name)

-- classes are noted for checks, too
abbrev pub notes_classes : Settings → Bool
notes_classes settings = settings.class_table || settings.checks

-- the walk stands there, with the names of the program and the states of its namespaces
pub record IsBegun (settings : Settings) (w : Walker) (program : Tree) : Type 0 where
  pub first : w ≡ begun program w.states w.namesakes settings.build_nodes (notes_classes settings) settings.checks
  pub names : AreNamesOf program w.namesakes
  pub states : AllStated w.states (steps program)
