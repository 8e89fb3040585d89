-- The names by which namespaces are looked through: those that are declared, and those that are exported as in `export { a }`.
use Rattle.std.specs.Prelude.{ℕ, Bool, not, ◌&&◌, ◌||◌}
use Rattle.semantic_kinds.specs.declared.kind.AstType.TheVariants as kind
use Rattle.semantic_kinds.specs.declared.role.Role.TheVariants as role
use Rattle.semantic_syntax.specs.Tables.{Name}
use Rattle.semantic_tree.specs.Views.{is, has_text, holds, child_of}
use Rattle.semantic_tree.specs.declared.node.Node.{Node}

-- the node has neither name
abbrev pub is_neither : Name → Name → Node → Bool
is_neither a b node = not (has_text a node || has_text b node)

-- what a specifier exports by its name has the test
abbrev pub exports_only : (Node → Bool) → Node → Bool
exports_only test node = not (holds (λ local. is kind.IdentifierReference local && not (test local)) (child_of role.Local node))

-- the node is no specifier that exports one of the two names
abbrev pub exports_neither : Name → Name → Node → Bool
exports_neither a b node = exports_only (is_neither a b) node

-- what has one of the two names is chosen, as far as it is declared or exported by its name
abbrev pub names_chosen : (ℕ → Bool) → Name → Name → Node → Bool
names_chosen chosen a b node =
    (not (is kind.BindingIdentifier node) || (chosen node.node_id || is_neither a b node)) && exports_only (λ local. chosen local.node_id || is_neither a b local) node
