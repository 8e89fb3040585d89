-- What a walk does at nodes of a kind, as bits: one for each question.
use Rattle.std.specs.Prelude.{ℕ, ◌+◌, List, [], ◌∷◌, Bool, true, false, ◌||◌, cond}
use Rattle.semantic_kinds.specs.Kinds.{same_kind}
use Rattle.semantic_kinds.specs.declared.kind.AstType.{AstType}
use Rattle.semantic_kinds.specs.declared.kind.AstType.TheVariants as kind
use Rattle.semantic_kinds.specs.declared.role.Role.{Role}
use Rattle.semantic_tree.specs.Forest.{Forest, nothing, tree}
use Rattle.semantic_model.specs.Inside.{Inside, all_children, inside, opens, header_roles}
use Rattle.walk_notes.specs.NoteLists.{is_noted_behind}

-- whether something may be made or noted on entering a node of the kind
abbrev pub acts_on_entering : AstType → Bool
acts_on_entering kind.IdentifierReference = true
acts_on_entering kind.PrivateIdentifier = true
acts_on_entering kind.CatchParameter = true
acts_on_entering kind.ContinueStatement = true
acts_on_entering kind.BreakStatement = true
acts_on_entering kind.LabeledStatement = true
acts_on_entering kind.VariableDeclarator = true
acts_on_entering kind.Function = true
acts_on_entering kind.FormalParameter = true
acts_on_entering kind.FormalParameterRest = true
acts_on_entering kind.BindingRestElement = true
acts_on_entering kind.Class = true
acts_on_entering kind.ClassBody = true
acts_on_entering kind.ImportSpecifier = true
acts_on_entering kind.ImportDefaultSpecifier = true
acts_on_entering kind.ImportNamespaceSpecifier = true
acts_on_entering kind.CallExpression = true
acts_on_entering kind.TSTypeParameter = true
acts_on_entering kind.TSTypeAliasDeclaration = true
acts_on_entering kind.TSInterfaceDeclaration = true
acts_on_entering kind.TSEnumDeclaration = true
acts_on_entering kind.TSEnumMember = true
acts_on_entering kind.TSNamespaceDeclaration = true
acts_on_entering kind.TSImportEqualsDeclaration = true
acts_on_entering _ = false

-- whether the cursor may turn round a child of a node of the kind, or the child stands elsewhere, though the node opens no scope
abbrev pub turns_between : AstType → Bool
turns_between kind.MethodDefinition = true
turns_between kind.PropertyDefinition = true
turns_between kind.ExportNamedDeclaration = true
turns_between kind.ExportDefaultDeclaration = true
turns_between kind.ComputedMemberExpression = true
turns_between kind.UnaryExpression = true
turns_between kind.UpdateExpression = true
turns_between kind.ConditionalExpression = true
turns_between kind.AssignmentExpression = true
turns_between kind.AssignmentTargetPropertyIdentifier = true
turns_between kind.ArrayAssignmentTarget = true
turns_between kind.TSTypeReference = true
turns_between kind.TSQualifiedName = true
turns_between kind.TSPropertySignature = true
turns_between kind.TSInterfaceHeritage = true
turns_between kind.TSClassImplements = true
turns_between kind.TSImportEqualsDeclaration = true
turns_between kind.TSExportAssignment = true
turns_between kind.FormalParameter = true
turns_between kind.FormalParameterRest = true
turns_between _ = false

-- whether something may happen round a child of a node of the kind: a scope or a header, the cursor turns, or the child stands elsewhere
abbrev pub acts_between : AstType → Bool
acts_between k = opens k || turns_between k

-- whether nothing happens at a node of the kind itself: it has no scope, nothing is made or noted on entering and leaving it, and the cursor is the same behind it
abbrev pub is_quiet : AstType → Bool
is_quiet kind.IdentifierName = true
is_quiet kind.BindingIdentifier = true
is_quiet kind.LabelIdentifier = true
is_quiet kind.StringLiteral = true
is_quiet kind.NumericLiteral = true
is_quiet kind.BooleanLiteral = true
is_quiet kind.NullLiteral = true
is_quiet kind.RegExpLiteral = true
is_quiet kind.BigIntLiteral = true
is_quiet kind.TemplateElement = true
is_quiet kind.ThisExpression = true
is_quiet kind.Super = true
is_quiet kind.Directive = true
is_quiet kind.EmptyStatement = true
is_quiet kind.DebuggerStatement = true
is_quiet _ = false

-- whether the walk may go past a leaf of the kind without visiting it: nothing happens at it, or it refers to a name and does no more
abbrev pub is_passing : AstType → Bool
is_passing k = is_quiet k || same_kind k kind.IdentifierReference

-- whether a node with these children has none
abbrev pub is_leaf : Forest → Bool
is_leaf nothing = true
is_leaf (tree r k span text marks below id after) = false

-- whether the cursor may turn round a child of a node of the kind, whatever the child's role
abbrev pub turns_cursor : AstType → Bool
turns_cursor kind.ForInStatement = true
turns_cursor kind.ForOfStatement = true
turns_cursor kind.Class = true
turns_cursor kind.MethodDefinition = true
turns_cursor kind.PropertyDefinition = true
turns_cursor kind.ExportNamedDeclaration = true
turns_cursor kind.ExportDefaultDeclaration = true
turns_cursor kind.ComputedMemberExpression = true
turns_cursor kind.UnaryExpression = true
turns_cursor kind.UpdateExpression = true
turns_cursor kind.ConditionalExpression = true
turns_cursor kind.AssignmentExpression = true
turns_cursor kind.AssignmentTargetPropertyIdentifier = true
turns_cursor kind.ArrayAssignmentTarget = true
turns_cursor kind.TSTypeReference = true
turns_cursor kind.TSQualifiedName = true
turns_cursor kind.TSPropertySignature = true
turns_cursor kind.TSMethodSignature = true
turns_cursor kind.TSInterfaceHeritage = true
turns_cursor kind.TSClassImplements = true
turns_cursor kind.TSImportEqualsDeclaration = true
turns_cursor kind.TSExportAssignment = true
turns_cursor _ = false

-- whether the cursor may move on entering a node of the kind, or on leaving it
abbrev pub moves_cursor : AstType → Bool
moves_cursor kind.IdentifierReference = true
moves_cursor kind.ComputedMemberExpression = true
moves_cursor kind.StaticMemberExpression = true
moves_cursor kind.PrivateFieldExpression = true
moves_cursor kind.TSPropertySignature = true
moves_cursor kind.TSTypeQuery = true
moves_cursor _ = false

-- whether all children stand inside a scope
abbrev pub holds_every : Inside → Bool
holds_every all_children = true
holds_every _ = false

abbrev pub are_some : List Role → Bool
are_some [] = false
are_some (r ∷ rs) = true

-- whether all children of a node of the kind stand inside its scope
abbrev pub holds_all : AstType → Bool
holds_all k = holds_every (inside k)

-- whether a node of the kind has a header
abbrev pub has_header : AstType → Bool
has_header k = are_some (header_roles k)

abbrev pub bits_of : AstType → ℕ
bits_of k =
    cond (acts_on_entering k) 1 0
    + cond (acts_between k) 2 0
    + cond (turns_cursor k) 4 0
    + cond (is_noted_behind k) 8 0
    + cond (is_passing k) 16 0
    + cond (opens k) 32 0
    + cond (has_header k) 64 0
    + cond (holds_all k) 128 0
    + cond (moves_cursor k) 256 0
