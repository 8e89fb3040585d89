-- What writing out a property does to early errors, by computation.
use Rattle.std.proofs.Common.{◌≡◌, [], ◌∷◌, true, codes, length, refl}
use Rattle.semantic_kinds.specs.MarkSets.{no_marks, set_of}
use Rattle.semantic_kinds.specs.declared.kind.AstType.{AstType}
use Rattle.semantic_kinds.specs.declared.kind.AstType.TheVariants as kind
use Rattle.semantic_kinds.specs.declared.mark.Mark.TheVariants as mark
use Rattle.semantic_kinds.specs.declared.marks.Marks.{Marks}
use Rattle.semantic_kinds.specs.declared.role.Role.{Role}
use Rattle.semantic_kinds.specs.declared.role.Role.TheVariants as role
use Rattle.semantic_syntax.specs.Tables.{Name}
use Rattle.semantic_syntax.specs.declared.source_type.Goal.TheVariants as goal
use Rattle.semantic_syntax.specs.declared.source_type.Lang.TheVariants as lang
use Rattle.semantic_tree.specs.Forest.{Forest, nothing, tree}
use Rattle.semantic_tree.specs.Tree.{Tree, numbered_tree}
use Rattle.check_model.specs.DiagnosticsOf.{diagnostics_of}
use Rattle.program_laws.specs.ReadMarks.{unmarked_tree}

-- a node without place in a source, and what stands behind it
abbrev node : Marks → Role → AstType → Name → Forest → Forest → Forest
node marks r k text below after = tree r k (record { start = 0; end = 0 }) text marks below 0 after

abbrev short : Marks
short = set_of (mark.Shorthand ∷ [])

-- a key, a value, and what properties stand behind theirs
abbrev property : Marks → Name → AstType → Name → Forest → Forest
property marks key value text after =
    node marks role.Properties kind.ObjectProperty (codes "init") (node no_marks role.Key kind.IdentifierName key nothing (node no_marks role.Value value text nothing nothing)) after

-- `({ a, __proto__: 1 })`, with another name for `a`
abbrev with_prototype : Name → Tree
with_prototype name = numbered_tree (record {
  source = [];
  source_type = record { goal = goal.Script; lang = lang.Js };
  comments = [];
  root = record {
    kind = kind.Program;
    span = record { start = 0; end = 0 };
    text = [];
    marks = no_marks;
    children = node no_marks role.Body kind.ExpressionStatement [] (node no_marks role.Expression kind.ObjectExpression [] (property short name kind.IdentifierReference name (property no_marks (codes "__proto__") kind.NumericLiteral (codes "1") nothing)) nothing) nothing;
    node_id = 0;
  };
})

-- each node that is in short is written out
abbrev out : Tree → Tree
out p = unmarked_tree (λ n. true) mark.Shorthand p

in_short : diagnostics_of true (with_prototype (codes "a")) ≡ []
in_short = refl

written_out : diagnostics_of true (out (with_prototype (codes "a"))) ≡ []
written_out = refl

-- in short it sets no prototype, and written out it sets it a second time
prototype_in_short : diagnostics_of true (with_prototype (codes "__proto__")) ≡ []
prototype_in_short = refl

prototype_written_out : length (diagnostics_of true (out (with_prototype (codes "__proto__")))) ≡ 1
prototype_written_out = refl
