-- Groups of kinds that views test.
use Rattle.std.specs.Prelude.{Bool, true, false}
use Rattle.semantic_kinds.specs.declared.kind.AstType.{AstType}
use Rattle.semantic_kinds.specs.declared.kind.AstType.TheVariants as kinds

-- the two whiles and the three fors
abbrev pub is_loop : AstType → Bool
is_loop kinds.DoWhileStatement = true
is_loop kinds.WhileStatement = true
is_loop kinds.ForStatement = true
is_loop kinds.ForInStatement = true
is_loop kinds.ForOfStatement = true
is_loop _ = false

-- an import or an export
abbrev pub is_module_declaration : AstType → Bool
is_module_declaration kinds.ImportDeclaration = true
is_module_declaration kinds.ExportDeclaration = true
is_module_declaration kinds.ExportNamedDeclaration = true
is_module_declaration kinds.ExportFromDeclaration = true
is_module_declaration kinds.ExportDefaultDeclaration = true
is_module_declaration kinds.ExportAllDeclaration = true
is_module_declaration kinds.TSExportAssignment = true
is_module_declaration kinds.TSNamespaceExportDeclaration = true
is_module_declaration _ = false

-- a pair of parentheses
abbrev pub is_parentheses : AstType → Bool
is_parentheses kinds.ParenthesizedExpression = true
is_parentheses _ = false

-- parentheses, or what TypeScript puts round an expression
abbrev pub is_wrapper : AstType → Bool
is_wrapper kinds.ParenthesizedExpression = true
is_wrapper kinds.TSAsExpression = true
is_wrapper kinds.TSSatisfiesExpression = true
is_wrapper kinds.TSTypeAssertion = true
is_wrapper kinds.TSNonNullExpression = true
is_wrapper kinds.TSInstantiationExpression = true
is_wrapper _ = false
