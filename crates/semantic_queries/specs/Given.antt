-- The names that the exporting statements of a tree give.
use Rattle.std.specs.Prelude.{ℕ, List, [], ◌++◌, Bool, true, cond, map, flat_map}
use Rattle.semantic_kinds.specs.Kinds.{same_kind}
use Rattle.semantic_kinds.specs.declared.kind.AstType.{AstType}
use Rattle.semantic_kinds.specs.declared.kind.AstType.TheVariants as kind
use Rattle.semantic_kinds.specs.declared.role.Role.TheVariants as role
use Rattle.semantic_tree.specs.Forest.{Forest, nothing, tree}
use Rattle.semantic_tree.specs.declared.node.Node.{Node}
use Rattle.semantic_model.specs.Names.{bound_names}
use Rattle.semantic_tree.specs.Views.{children_of}
use Rattle.semantic_model.specs.Exported.{is_default_declaration}
use Rattle.semantic_queries.specs.declared.node_symbols.exports.Export.{Export}
use Rattle.semantic_queries.specs.declared.node_symbols.exports.Export.TheVariants as export

-- the kind of the statement
abbrev pub exporting : Export → AstType
exporting export.Named = kind.ExportDeclaration
exporting export.Default = kind.ExportDefaultDeclaration

-- what the statement holds declares names outside of itself
abbrev pub gives : Export → Node → Bool
gives export.Named node = true
gives export.Default node = is_default_declaration node

-- the names of what statements hold
abbrev pub names_given : Export → List Node → List ℕ
names_given e declarations = flat_map (λ d. cond (gives e d) (map (λ x. x.node_id) (bound_names d)) []) declarations

-- the names that a node exports, if it is such a statement
abbrev pub names_exported_by : Export → Node → List ℕ
names_exported_by e node = cond (same_kind node.kind (exporting e)) (names_given e (children_of role.Declaration node.children)) []

-- those of all nodes of a forest, in preorder
abbrev pub given_below : Export → Forest → List ℕ
given_below e nothing = []
given_below e (tree r k span text marks below id after) =
    names_exported_by e (record { kind = k; span = span; text = text; marks = marks; children = below; node_id = id }) ++ given_below e below ++ given_below e after

-- and of a node and all below it
abbrev pub given_from : Export → Node → List ℕ
given_from e node = names_exported_by e node ++ given_below e node.children
