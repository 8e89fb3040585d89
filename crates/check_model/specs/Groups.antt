-- Groups of kinds, and nodes under nested ones.
use Rattle.std.specs.Prelude.{Bool, true, false}
use Rattle.semantic_kinds.specs.declared.kind.AstType.{AstType}
use Rattle.semantic_kinds.specs.declared.kind.AstType.TheVariants as kinds
use Rattle.semantic_kinds.specs.declared.role.Role.TheVariants as roles
use Rattle.semantic_tree.specs.declared.node.Node.{Node}
use Rattle.semantic_tree.specs.Unwrapped.{unwrapped}

-- a function or an arrow
abbrev pub is_function : AstType → Bool
is_function kinds.Function = true
is_function kinds.ArrowFunctionExpression = true
is_function _ = false

-- a function, an arrow or a static block: no jump leaves it
abbrev pub is_jump_boundary : AstType → Bool
is_jump_boundary kinds.Function = true
is_jump_boundary kinds.ArrowFunctionExpression = true
is_jump_boundary kinds.StaticBlock = true
is_jump_boundary _ = false

-- a namespace, an external module or `global`
abbrev pub is_module_kind : AstType → Bool
is_module_kind kinds.TSExternalModuleDeclaration = true
is_module_kind kinds.TSNamespaceDeclaration = true
is_module_kind kinds.TSGlobalDeclaration = true
is_module_kind _ = false

-- labels may be nested, as in `a: b: c;`
abbrev pub is_label : AstType → Bool
is_label kinds.LabeledStatement = true
is_label _ = false

-- namespaces may be nested, as in `namespace A.B {}`
abbrev pub is_namespace : AstType → Bool
is_namespace kinds.TSNamespaceDeclaration = true
is_namespace _ = false

-- the statement under nested labels
abbrev pub under_labels : Node → Node
under_labels = unwrapped is_label roles.Body

-- the body of the innermost of directly nested namespaces
abbrev pub under_namespaces : Node → Node
under_namespaces = unwrapped is_namespace roles.Body
