-- What each kind of node is made of.
use Rattle.std.specs.Prelude.{List, [], ◌∷◌}
use Rattle.semantic_kinds.specs.declared.kind.AstType.{AstType}
use Rattle.semantic_kinds.specs.declared.kind.AstType.TheVariants as kind
use Rattle.semantic_kinds.specs.declared.role.Role.{Role}
use Rattle.semantic_kinds.specs.declared.role.Role.TheVariants as role
use Rattle.semantic_kinds.specs.declared.class.Class.{Class}
use Rattle.semantic_kinds.specs.declared.class.Class.TheVariants as class
use Rattle.semantic_kinds.specs.declared.part.Count.TheVariants as count
use Rattle.semantic_kinds.specs.declared.part.Part.{Part}

-- exactly one child
abbrev one : Role → Class → Part
one role class = record { role = role; count = count.One; class = class }

-- none or one
abbrev maybe : Role → Class → Part
maybe role class = record { role = role; count = count.AtMostOne; class = class }

-- any number
abbrev any : Role → Class → Part
any role class = record { role = role; count = count.AnyNumber; class = class }

-- one or more
abbrev some : Role → Class → Part
some role class = record { role = role; count = count.AtLeastOne; class = class }

-- TypeScript's declarations, in order
abbrev pub typescript_parts : AstType → List Part
typescript_parts kind.TSTypeAliasDeclaration = one role.Id (class.Only kind.BindingIdentifier) ∷ maybe role.TypeParameters (class.Only kind.TSTypeParameterDeclaration) ∷ one role.ValueType class.Type ∷ []
typescript_parts kind.TSInterfaceDeclaration = one role.Id (class.Only kind.BindingIdentifier) ∷ maybe role.TypeParameters (class.Only kind.TSTypeParameterDeclaration) ∷ any role.Extends (class.Only kind.TSInterfaceHeritage) ∷ one role.Body (class.Only kind.TSInterfaceBody) ∷ []
typescript_parts kind.TSInterfaceBody = any role.Body class.Signature ∷ []
typescript_parts kind.TSInterfaceHeritage = one role.Name class.TypeName ∷ maybe role.TypeArguments (class.Only kind.TSTypeParameterInstantiation) ∷ []
typescript_parts kind.TSClassImplements = one role.Name class.TypeName ∷ maybe role.TypeArguments (class.Only kind.TSTypeParameterInstantiation) ∷ []
typescript_parts kind.TSEnumDeclaration = one role.Id (class.Only kind.BindingIdentifier) ∷ one role.Body (class.Only kind.TSEnumBody) ∷ []
typescript_parts kind.TSEnumBody = any role.Members (class.Only kind.TSEnumMember) ∷ []
typescript_parts kind.TSEnumMember = one role.Id class.EnumMemberName ∷ maybe role.Initializer class.Expression ∷ []
typescript_parts kind.TSExternalModuleDeclaration = one role.Id (class.Only kind.StringLiteral) ∷ maybe role.Body (class.Only kind.TSModuleBlock) ∷ []
typescript_parts kind.TSNamespaceDeclaration = one role.Id (class.Only kind.BindingIdentifier) ∷ one role.Body class.NamespaceBody ∷ []
typescript_parts kind.TSGlobalDeclaration = one role.Body (class.Only kind.TSModuleBlock) ∷ []
typescript_parts kind.TSModuleBlock = any role.Directives (class.Only kind.Directive) ∷ any role.Body class.Statement ∷ []
typescript_parts kind.TSImportEqualsDeclaration = one role.Id (class.Only kind.BindingIdentifier) ∷ one role.Reference class.ImportEqualsTarget ∷ []
typescript_parts kind.TSExternalModuleReference = one role.Expression (class.Only kind.StringLiteral) ∷ []
typescript_parts kind.TSExportAssignment = one role.Expression class.Expression ∷ []
typescript_parts kind.TSNamespaceExportDeclaration = one role.Id (class.Only kind.IdentifierName) ∷ []
typescript_parts _ = []

-- types, in order; other kinds are under the headings that follow
abbrev pub type_parts : AstType → List Part
type_parts kind.TSAnyKeyword = []
type_parts kind.TSBigIntKeyword = []
type_parts kind.TSBooleanKeyword = []
type_parts kind.TSIntrinsicKeyword = []
type_parts kind.TSNeverKeyword = []
type_parts kind.TSNullKeyword = []
type_parts kind.TSNumberKeyword = []
type_parts kind.TSObjectKeyword = []
type_parts kind.TSStringKeyword = []
type_parts kind.TSSymbolKeyword = []
type_parts kind.TSUndefinedKeyword = []
type_parts kind.TSUnknownKeyword = []
type_parts kind.TSVoidKeyword = []
type_parts kind.TSThisType = []
type_parts kind.JSDocUnknownType = []
type_parts kind.TSArrayType = one role.Element class.Type ∷ []
type_parts kind.TSParenthesizedType = one role.Element class.Type ∷ []
type_parts kind.TSConditionalType = one role.Check class.Type ∷ one role.Extends class.Type ∷ one role.True class.Type ∷ one role.False class.Type ∷ []
type_parts kind.TSConstructorType = maybe role.TypeParameters (class.Only kind.TSTypeParameterDeclaration) ∷ maybe role.This (class.Only kind.TSThisParameter) ∷ one role.Params (class.Only kind.FormalParameters) ∷ maybe role.ReturnType (class.Only kind.TSTypeAnnotation) ∷ []
type_parts kind.TSFunctionType = maybe role.TypeParameters (class.Only kind.TSTypeParameterDeclaration) ∷ maybe role.This (class.Only kind.TSThisParameter) ∷ one role.Params (class.Only kind.FormalParameters) ∷ maybe role.ReturnType (class.Only kind.TSTypeAnnotation) ∷ []
type_parts kind.TSCallSignatureDeclaration = maybe role.TypeParameters (class.Only kind.TSTypeParameterDeclaration) ∷ maybe role.This (class.Only kind.TSThisParameter) ∷ one role.Params (class.Only kind.FormalParameters) ∷ maybe role.ReturnType (class.Only kind.TSTypeAnnotation) ∷ []
type_parts kind.TSConstructSignatureDeclaration = maybe role.TypeParameters (class.Only kind.TSTypeParameterDeclaration) ∷ maybe role.This (class.Only kind.TSThisParameter) ∷ one role.Params (class.Only kind.FormalParameters) ∷ maybe role.ReturnType (class.Only kind.TSTypeAnnotation) ∷ []
type_parts kind.TSImportType = one role.Argument (class.Only kind.StringLiteral) ∷ maybe role.Options (class.Only kind.ObjectExpression) ∷ maybe role.Qualifier class.ImportQualifier ∷ maybe role.TypeArguments (class.Only kind.TSTypeParameterInstantiation) ∷ []
type_parts kind.TSImportTypeQualifiedName = one role.Left class.ImportQualifier ∷ one role.Right (class.Only kind.IdentifierName) ∷ []
type_parts kind.TSIndexedAccessType = one role.Object class.Type ∷ one role.Index class.Type ∷ []
type_parts kind.TSInferType = one role.Parameter (class.Only kind.TSTypeParameter) ∷ []
type_parts kind.TSIntersectionType = some role.Types class.Type ∷ []
type_parts kind.TSUnionType = some role.Types class.Type ∷ []
type_parts kind.TSLiteralType = one role.Literal class.TypeLiteralValue ∷ []
type_parts kind.TSMappedType = one role.Key (class.Only kind.BindingIdentifier) ∷ one role.Constraint class.Type ∷ maybe role.NameType class.Type ∷ maybe role.ValueType class.Type ∷ []
type_parts kind.TSTemplateLiteralType = some role.Quasis (class.Only kind.TemplateElement) ∷ any role.Types class.Type ∷ []
type_parts kind.TSTupleType = any role.Elements class.TupleItem ∷ []
type_parts kind.TSNamedTupleMember = one role.Label (class.Only kind.IdentifierName) ∷ one role.Element class.Type ∷ []
type_parts kind.TSOptionalType = one role.Element class.Type ∷ []
type_parts kind.TSRestType = one role.Element class.RestItem ∷ []
type_parts kind.TSTypeLiteral = any role.Members class.Signature ∷ []
type_parts kind.TSTypeOperator = one role.Element class.Type ∷ []
type_parts kind.TSTypePredicate = one role.Name class.PredicateName ∷ maybe role.Annotation (class.Only kind.TSTypeAnnotation) ∷ []
type_parts kind.TSTypeQuery = one role.Name class.QueryName ∷ maybe role.TypeArguments (class.Only kind.TSTypeParameterInstantiation) ∷ []
type_parts kind.TSTypeReference = one role.Name class.TypeName ∷ maybe role.TypeArguments (class.Only kind.TSTypeParameterInstantiation) ∷ []
type_parts kind.JSDocNullableType = one role.Element class.Type ∷ []
type_parts kind.JSDocNonNullableType = one role.Element class.Type ∷ []
type_parts kind.TSQualifiedName = one role.Left class.TypeName ∷ one role.Right (class.Only kind.IdentifierName) ∷ []
type_parts kind.TSTypeAnnotation = one role.Element class.Type ∷ []
type_parts kind.TSTypeParameterDeclaration = some role.Params (class.Only kind.TSTypeParameter) ∷ []
type_parts kind.TSTypeParameterInstantiation = any role.Params class.Type ∷ []
type_parts kind.TSTypeParameter = one role.Name (class.Only kind.BindingIdentifier) ∷ maybe role.Constraint class.Type ∷ maybe role.Default class.Type ∷ []
type_parts kind.TSThisParameter = maybe role.Annotation (class.Only kind.TSTypeAnnotation) ∷ []
type_parts kind.TSPropertySignature = one role.Key class.Key ∷ maybe role.Annotation (class.Only kind.TSTypeAnnotation) ∷ []
type_parts kind.TSMethodSignature = one role.Key class.Key ∷ maybe role.TypeParameters (class.Only kind.TSTypeParameterDeclaration) ∷ maybe role.This (class.Only kind.TSThisParameter) ∷ one role.Params (class.Only kind.FormalParameters) ∷ maybe role.ReturnType (class.Only kind.TSTypeAnnotation) ∷ []
type_parts kind.TSIndexSignature = some role.Parameters (class.Only kind.TSIndexSignatureName) ∷ one role.Annotation (class.Only kind.TSTypeAnnotation) ∷ []
type_parts kind.TSIndexSignatureName = one role.Annotation (class.Only kind.TSTypeAnnotation) ∷ []
type_parts k = typescript_parts k

-- expressions, in order; other kinds are under the headings that follow
abbrev pub expression_parts : AstType → List Part
expression_parts kind.BooleanLiteral = []
expression_parts kind.NullLiteral = []
expression_parts kind.NumericLiteral = []
expression_parts kind.BigIntLiteral = []
expression_parts kind.RegExpLiteral = []
expression_parts kind.StringLiteral = []
expression_parts kind.TemplateLiteral = some role.Quasis (class.Only kind.TemplateElement) ∷ any role.Expressions class.Expression ∷ []
expression_parts kind.TemplateElement = []
expression_parts kind.TaggedTemplateExpression = one role.Tag class.Expression ∷ maybe role.TypeArguments (class.Only kind.TSTypeParameterInstantiation) ∷ one role.Quasi (class.Only kind.TemplateLiteral) ∷ []
expression_parts kind.ThisExpression = []
expression_parts kind.Super = []
expression_parts kind.MetaProperty = one role.Meta (class.Only kind.IdentifierName) ∷ one role.Property (class.Only kind.IdentifierName) ∷ []
expression_parts kind.ArrayExpression = any role.Elements class.ArrayItem ∷ []
expression_parts kind.Elision = []
expression_parts kind.SpreadElement = one role.Argument class.Expression ∷ []
expression_parts kind.ObjectExpression = any role.Properties class.ObjectItem ∷ []
expression_parts kind.ObjectProperty = one role.Key class.Key ∷ one role.Value class.Expression ∷ []
expression_parts kind.CallExpression = one role.Callee class.Callee ∷ maybe role.TypeArguments (class.Only kind.TSTypeParameterInstantiation) ∷ any role.Arguments class.Argument ∷ []
expression_parts kind.NewExpression = one role.Callee class.Callee ∷ maybe role.TypeArguments (class.Only kind.TSTypeParameterInstantiation) ∷ any role.Arguments class.Argument ∷ []
expression_parts kind.ImportExpression = one role.Argument class.Expression ∷ maybe role.Options class.Expression ∷ []
expression_parts kind.ComputedMemberExpression = one role.Object class.Callee ∷ one role.Expression class.Expression ∷ []
expression_parts kind.StaticMemberExpression = one role.Object class.Callee ∷ one role.Property (class.Only kind.IdentifierName) ∷ []
expression_parts kind.PrivateFieldExpression = one role.Object class.Callee ∷ one role.Field (class.Only kind.PrivateIdentifier) ∷ []
expression_parts kind.ChainExpression = one role.Expression class.ChainElement ∷ []
expression_parts kind.UnaryExpression = one role.Argument class.Expression ∷ []
expression_parts kind.UpdateExpression = one role.Argument class.SimpleTarget ∷ []
expression_parts kind.BinaryExpression = one role.Left class.Expression ∷ one role.Right class.Expression ∷ []
expression_parts kind.PrivateInExpression = one role.Left (class.Only kind.PrivateIdentifier) ∷ one role.Right class.Expression ∷ []
expression_parts kind.LogicalExpression = one role.Left class.Expression ∷ one role.Right class.Expression ∷ []
expression_parts kind.ConditionalExpression = one role.Test class.Expression ∷ one role.Consequent class.Expression ∷ one role.Alternate class.Expression ∷ []
expression_parts kind.AssignmentExpression = one role.Left class.Target ∷ one role.Right class.Expression ∷ []
expression_parts kind.SequenceExpression = some role.Expressions class.Expression ∷ []
expression_parts kind.ParenthesizedExpression = one role.Expression class.Expression ∷ []
expression_parts kind.AwaitExpression = one role.Argument class.Expression ∷ []
expression_parts kind.YieldExpression = maybe role.Argument class.Expression ∷ []
expression_parts kind.ArrowFunctionExpression = maybe role.TypeParameters (class.Only kind.TSTypeParameterDeclaration) ∷ one role.Params (class.Only kind.FormalParameters) ∷ maybe role.ReturnType (class.Only kind.TSTypeAnnotation) ∷ one role.Body class.ArrowBody ∷ []
expression_parts kind.ObjectAssignmentTarget = any role.Properties class.TargetProperty ∷ maybe role.Rest (class.Only kind.AssignmentTargetRest) ∷ []
expression_parts kind.AssignmentTargetPropertyIdentifier = one role.Binding (class.Only kind.IdentifierReference) ∷ maybe role.Init class.Expression ∷ []
expression_parts kind.AssignmentTargetPropertyProperty = one role.Key class.Key ∷ one role.Binding class.TargetOrDefault ∷ []
expression_parts kind.ArrayAssignmentTarget = any role.Elements class.TargetOrDefault ∷ maybe role.Rest (class.Only kind.AssignmentTargetRest) ∷ []
expression_parts kind.AssignmentTargetWithDefault = one role.Binding class.Target ∷ one role.Init class.Expression ∷ []
expression_parts kind.AssignmentTargetRest = one role.Binding class.Target ∷ []
expression_parts kind.TSAsExpression = one role.Expression class.Expression ∷ one role.Annotation class.Type ∷ []
expression_parts kind.TSSatisfiesExpression = one role.Expression class.Expression ∷ one role.Annotation class.Type ∷ []
expression_parts kind.TSTypeAssertion = one role.Expression class.Expression ∷ one role.Annotation class.Type ∷ []
expression_parts kind.TSNonNullExpression = one role.Expression class.Expression ∷ []
expression_parts kind.TSInstantiationExpression = one role.Expression class.Expression ∷ maybe role.TypeArguments (class.Only kind.TSTypeParameterInstantiation) ∷ []
expression_parts kind.JSXElement = one role.Opening (class.Only kind.JSXOpeningElement) ∷ any role.Children class.JsxChild ∷ maybe role.Closing (class.Only kind.JSXClosingElement) ∷ []
expression_parts kind.JSXFragment = one role.Opening (class.Only kind.JSXOpeningFragment) ∷ any role.Children class.JsxChild ∷ one role.Closing (class.Only kind.JSXClosingFragment) ∷ []
expression_parts kind.JSXOpeningElement = one role.Name class.JsxName ∷ maybe role.TypeArguments (class.Only kind.TSTypeParameterInstantiation) ∷ any role.Attributes class.JsxAttributeItem ∷ []
expression_parts kind.JSXClosingElement = one role.Name class.JsxName ∷ []
expression_parts kind.JSXOpeningFragment = []
expression_parts kind.JSXClosingFragment = []
expression_parts kind.JSXEmptyExpression = []
expression_parts kind.JSXAttribute = one role.Name class.JsxAttributeName ∷ maybe role.Value class.JsxAttributeValue ∷ []
expression_parts kind.JSXSpreadAttribute = one role.Argument class.Expression ∷ []
expression_parts kind.JSXExpressionContainer = one role.Expression class.JsxContent ∷ []
expression_parts kind.JSXSpreadChild = one role.Expression class.Expression ∷ []
expression_parts kind.JSXText = []
expression_parts kind.JSXIdentifier = []
expression_parts kind.JSXNamespacedName = one role.Namespace (class.Only kind.JSXIdentifier) ∷ one role.Name (class.Only kind.JSXIdentifier) ∷ []
expression_parts kind.JSXMemberExpression = one role.Object class.JsxObject ∷ one role.Property (class.Only kind.JSXIdentifier) ∷ []
expression_parts k = type_parts k

-- imports and exports, in order; other kinds are under the headings that follow
abbrev pub module_parts : AstType → List Part
module_parts kind.ImportDeclaration = any role.Specifiers class.ImportClause ∷ one role.Source (class.Only kind.StringLiteral) ∷ maybe role.Attributes (class.Only kind.WithClause) ∷ []
module_parts kind.ImportSpecifier = one role.Imported class.ModuleName ∷ one role.Local (class.Only kind.BindingIdentifier) ∷ []
module_parts kind.ImportDefaultSpecifier = one role.Local (class.Only kind.BindingIdentifier) ∷ []
module_parts kind.ImportNamespaceSpecifier = one role.Local (class.Only kind.BindingIdentifier) ∷ []
module_parts kind.WithClause = any role.Entries (class.Only kind.ImportAttribute) ∷ []
module_parts kind.ImportAttribute = one role.Key class.ModuleName ∷ one role.Value (class.Only kind.StringLiteral) ∷ []
module_parts kind.ExportDeclaration = one role.Declaration class.Declaration ∷ []
module_parts kind.ExportNamedDeclaration = any role.Specifiers (class.Only kind.ExportSpecifier) ∷ []
module_parts kind.ExportFromDeclaration = any role.Specifiers (class.Only kind.ExportSpecifier) ∷ one role.Source (class.Only kind.StringLiteral) ∷ maybe role.Attributes (class.Only kind.WithClause) ∷ []
module_parts kind.ExportDefaultDeclaration = one role.Declaration class.DefaultExport ∷ []
module_parts kind.ExportAllDeclaration = maybe role.Exported class.ModuleName ∷ one role.Source (class.Only kind.StringLiteral) ∷ maybe role.Attributes (class.Only kind.WithClause) ∷ []
module_parts kind.ExportSpecifier = one role.Local class.ExportLocal ∷ one role.Exported class.ModuleName ∷ []
module_parts k = expression_parts k

-- declarations and patterns, in order; other kinds are under the headings that follow
abbrev pub declaration_parts : AstType → List Part
declaration_parts kind.VariableDeclaration = some role.Declarators (class.Only kind.VariableDeclarator) ∷ []
declaration_parts kind.VariableDeclarator = one role.Id class.Pattern ∷ maybe role.Annotation (class.Only kind.TSTypeAnnotation) ∷ maybe role.Init class.Expression ∷ []
declaration_parts kind.Function = maybe role.Id (class.Only kind.BindingIdentifier) ∷ maybe role.TypeParameters (class.Only kind.TSTypeParameterDeclaration) ∷ maybe role.This (class.Only kind.TSThisParameter) ∷ one role.Params (class.Only kind.FormalParameters) ∷ maybe role.ReturnType (class.Only kind.TSTypeAnnotation) ∷ maybe role.Body (class.Only kind.FunctionBody) ∷ []
declaration_parts kind.FormalParameters = any role.Items (class.Only kind.FormalParameter) ∷ maybe role.Rest (class.Only kind.FormalParameterRest) ∷ []
declaration_parts kind.FormalParameter = any role.Decorators (class.Only kind.Decorator) ∷ one role.Pattern class.Pattern ∷ maybe role.Annotation (class.Only kind.TSTypeAnnotation) ∷ maybe role.Initializer class.Expression ∷ []
declaration_parts kind.FormalParameterRest = any role.Decorators (class.Only kind.Decorator) ∷ one role.Rest (class.Only kind.BindingRestElement) ∷ maybe role.Annotation (class.Only kind.TSTypeAnnotation) ∷ []
declaration_parts kind.BindingRestElement = one role.Argument class.Pattern ∷ []
declaration_parts kind.ObjectPattern = any role.Properties (class.Only kind.BindingProperty) ∷ maybe role.Rest (class.Only kind.BindingRestElement) ∷ []
declaration_parts kind.BindingProperty = one role.Key class.Key ∷ one role.Value class.Pattern ∷ []
declaration_parts kind.ArrayPattern = any role.Elements class.Pattern ∷ maybe role.Rest (class.Only kind.BindingRestElement) ∷ []
declaration_parts kind.AssignmentPattern = one role.Left class.Pattern ∷ one role.Right class.Expression ∷ []
declaration_parts kind.Class = any role.Decorators (class.Only kind.Decorator) ∷ maybe role.Id (class.Only kind.BindingIdentifier) ∷ maybe role.TypeParameters (class.Only kind.TSTypeParameterDeclaration) ∷ maybe role.Heritage class.Expression ∷ maybe role.TypeArguments (class.Only kind.TSTypeParameterInstantiation) ∷ any role.Implements (class.Only kind.TSClassImplements) ∷ one role.Body (class.Only kind.ClassBody) ∷ []
declaration_parts kind.ClassBody = any role.Body class.ClassElement ∷ []
declaration_parts kind.MethodDefinition = any role.Decorators (class.Only kind.Decorator) ∷ one role.Key class.Key ∷ one role.Value (class.Only kind.Function) ∷ []
declaration_parts kind.PropertyDefinition = any role.Decorators (class.Only kind.Decorator) ∷ one role.Key class.Key ∷ maybe role.Annotation (class.Only kind.TSTypeAnnotation) ∷ maybe role.Value class.Expression ∷ []
declaration_parts kind.AccessorProperty = any role.Decorators (class.Only kind.Decorator) ∷ one role.Key class.Key ∷ maybe role.Annotation (class.Only kind.TSTypeAnnotation) ∷ maybe role.Value class.Expression ∷ []
declaration_parts kind.StaticBlock = any role.Body class.Statement ∷ []
declaration_parts kind.Decorator = one role.Expression class.Expression ∷ []
declaration_parts k = module_parts k

-- names and statements, in order; other kinds are under the headings that follow
abbrev pub statement_parts : AstType → List Part
statement_parts kind.Program = maybe role.Hashbang (class.Only kind.Hashbang) ∷ any role.Directives (class.Only kind.Directive) ∷ any role.Body class.Statement ∷ []
statement_parts kind.Hashbang = []
statement_parts kind.Directive = one role.Expression (class.Only kind.StringLiteral) ∷ []
statement_parts kind.BindingIdentifier = []
statement_parts kind.IdentifierReference = []
statement_parts kind.IdentifierName = []
statement_parts kind.LabelIdentifier = []
statement_parts kind.PrivateIdentifier = []
statement_parts kind.FunctionBody = any role.Directives (class.Only kind.Directive) ∷ any role.Body class.Statement ∷ []
statement_parts kind.SwitchCase = maybe role.Test class.Expression ∷ any role.Consequent class.Statement ∷ []
statement_parts kind.CatchClause = maybe role.Param (class.Only kind.CatchParameter) ∷ one role.Body (class.Only kind.BlockStatement) ∷ []
statement_parts kind.CatchParameter = one role.Pattern class.Pattern ∷ maybe role.Annotation (class.Only kind.TSTypeAnnotation) ∷ []
statement_parts kind.BlockStatement = any role.Body class.Statement ∷ []
statement_parts kind.EmptyStatement = []
statement_parts kind.DebuggerStatement = []
statement_parts kind.ExpressionStatement = one role.Expression class.Expression ∷ []
statement_parts kind.IfStatement = one role.Test class.Expression ∷ one role.Consequent class.Statement ∷ maybe role.Alternate class.Statement ∷ []
statement_parts kind.DoWhileStatement = one role.Body class.Statement ∷ one role.Test class.Expression ∷ []
statement_parts kind.WhileStatement = one role.Test class.Expression ∷ one role.Body class.Statement ∷ []
statement_parts kind.ForStatement = maybe role.Init class.ForInit ∷ maybe role.Test class.Expression ∷ maybe role.Update class.Expression ∷ one role.Body class.Statement ∷ []
statement_parts kind.ForInStatement = one role.Left class.LoopLeft ∷ one role.Right class.Expression ∷ one role.Body class.Statement ∷ []
statement_parts kind.ForOfStatement = one role.Left class.LoopLeft ∷ one role.Right class.Expression ∷ one role.Body class.Statement ∷ []
statement_parts kind.ContinueStatement = maybe role.Label (class.Only kind.LabelIdentifier) ∷ []
statement_parts kind.BreakStatement = maybe role.Label (class.Only kind.LabelIdentifier) ∷ []
statement_parts kind.ReturnStatement = maybe role.Argument class.Expression ∷ []
statement_parts kind.WithStatement = one role.Object class.Expression ∷ one role.Body class.Statement ∷ []
statement_parts kind.SwitchStatement = one role.Discriminant class.Expression ∷ any role.Cases (class.Only kind.SwitchCase) ∷ []
statement_parts kind.LabeledStatement = one role.Label (class.Only kind.LabelIdentifier) ∷ one role.Body class.Statement ∷ []
statement_parts kind.ThrowStatement = one role.Argument class.Expression ∷ []
statement_parts kind.TryStatement = one role.Block (class.Only kind.BlockStatement) ∷ maybe role.Handler (class.Only kind.CatchClause) ∷ maybe role.Finalizer (class.Only kind.BlockStatement) ∷ []
statement_parts k = declaration_parts k

-- the parts of a node of the kind, in visiting order
abbrev pub parts : AstType → List Part
parts k = statement_parts k
