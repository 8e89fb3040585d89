-- Programs in which two names may be swapped, as far as early errors go.
use Rattle.std.specs.Prelude.{Bool, true, not, ◌&&◌, ◌||◌, bytes_eq}
use Rattle.semantic_kinds.specs.declared.kind.AstType.TheVariants as kind
use Rattle.semantic_kinds.specs.declared.mark.Mark.TheVariants as mark
use Rattle.semantic_kinds.specs.declared.role.Role.TheVariants as role
use Rattle.semantic_syntax.specs.Tables.{Name}
use Rattle.semantic_tree.specs.Forest.{Forest, nothing, tree}
use Rattle.semantic_tree.specs.Views.{is, has, whose}
use Rattle.semantic_tree.specs.declared.node.Node.{Node}
use Rattle.check_model.specs.Expressions.{is_proto}

-- every node of the forest passes the test
abbrev pub holds_below : (Node → Bool) → Forest → Bool
holds_below test nothing = true
holds_below test (tree role kind span text marks below id after) =
    test (record { kind = kind; span = span; text = text; marks = marks; children = below; node_id = id }) && (holds_below test below && holds_below test after)

-- the node passes the test, and every node below it does
abbrev pub holds_within : (Node → Bool) → Node → Bool
holds_within test node = test node && holds_below test node.children

-- the node is no string literal that is one of the two names
abbrev pub is_other_string : Name → Name → Node → Bool
is_other_string a b node = not (is kind.StringLiteral node && (bytes_eq node.text a || bytes_eq node.text b))

-- a property in short with the key `__proto__`, which doesn't set the prototype, and would if it were written out
abbrev pub is_short_prototype : Node → Bool
is_short_prototype node = is kind.ObjectProperty node && (has mark.Shorthand node && whose role.Key is_proto node)

-- such a property doesn't pass the test
abbrev pub keeps_prototype : (Node → Bool) → Node → Bool
keeps_prototype test node = not (test node && is_short_prototype node)
