-- Imports that stand among the statements of a program.
use Rattle.std.specs.Prelude.{◌∷◌, [], Bool, true, not, ◌&&◌, if◌then◌else◌}
use Rattle.semantic_kinds.specs.Classes.{holds_kind}
use Rattle.semantic_kinds.specs.Kinds.{same_kind}
use Rattle.semantic_kinds.specs.declared.kind.AstType.{AstType}
use Rattle.semantic_kinds.specs.declared.kind.AstType.TheVariants as kind
use Rattle.semantic_tree.specs.Forest.{Forest, nothing, tree}

-- a node that declares what is imported
abbrev pub declares_import : AstType → Bool
declares_import k =
    holds_kind (kind.ImportSpecifier ∷ kind.ImportDefaultSpecifier ∷ kind.ImportNamespaceSpecifier ∷ kind.TSImportEqualsDeclaration ∷ []) k

-- none does in the forest
abbrev pub has_no_imports : Forest → Bool
has_no_imports nothing = true
has_no_imports (tree role kind span text marks below id after) = not (declares_import kind) && (has_no_imports below && has_no_imports after)

-- none does below these nodes
abbrev pub has_none_below : Forest → Bool
has_none_below nothing = true
has_none_below (tree role kind span text marks below id after) = has_no_imports below && has_none_below after

-- of these statements themselves, and of what import declarations among them specify, some may, and nothing below does
abbrev pub imports_at_top : Forest → Bool
imports_at_top nothing = true
imports_at_top (tree role k span text marks below id after) =
    (if same_kind k kind.ImportDeclaration then has_none_below below else has_no_imports below) && imports_at_top after
