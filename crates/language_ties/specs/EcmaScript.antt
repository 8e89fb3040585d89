-- Programs of ECMAScript alone, with JSX or without.
use Rattle.std.specs.Prelude.{ℕ, List, [], ◌∷◌, Bool, true, ◌&&◌, not, codes, bytes_eq}
use Rattle.std.specs.List.{list_any}
use Rattle.semantic_kinds.specs.Classes.{holds_kind}
use Rattle.semantic_kinds.specs.MarkSets.{has_mark}
use Rattle.semantic_kinds.specs.Roles.{same_role}
use Rattle.semantic_kinds.specs.declared.kind.AstType.{AstType}
use Rattle.semantic_kinds.specs.declared.kind.AstType.TheVariants as kind
use Rattle.semantic_kinds.specs.declared.mark.Mark.TheVariants as mark
use Rattle.semantic_kinds.specs.declared.marks.Marks.{Marks}
use Rattle.semantic_kinds.specs.declared.role.Role.TheVariants as role
use Rattle.semantic_syntax.specs.SourceTypes.{is_typescript}
use Rattle.semantic_tree.specs.Forest.{Forest, nothing, tree}
use Rattle.semantic_tree.specs.Tree.{Tree}

-- the kinds of TypeScript and JSDoc, decorators, and the accessors that came with them
abbrev pub foreign_kinds : List AstType
foreign_kinds =
    kind.AccessorProperty ∷ kind.Decorator ∷ kind.TSAsExpression ∷ kind.TSSatisfiesExpression ∷ kind.TSTypeAssertion ∷ kind.TSNonNullExpression ∷ kind.TSInstantiationExpression
    ∷ kind.TSAnyKeyword ∷ kind.TSBigIntKeyword ∷ kind.TSBooleanKeyword ∷ kind.TSIntrinsicKeyword ∷ kind.TSNeverKeyword ∷ kind.TSNullKeyword ∷ kind.TSNumberKeyword ∷ kind.TSObjectKeyword
    ∷ kind.TSStringKeyword ∷ kind.TSSymbolKeyword ∷ kind.TSUndefinedKeyword ∷ kind.TSUnknownKeyword ∷ kind.TSVoidKeyword ∷ kind.TSThisType ∷ kind.JSDocUnknownType ∷ kind.TSArrayType ∷ kind.TSParenthesizedType
    ∷ kind.TSConditionalType ∷ kind.TSConstructorType ∷ kind.TSFunctionType ∷ kind.TSCallSignatureDeclaration ∷ kind.TSConstructSignatureDeclaration ∷ kind.TSImportType ∷ kind.TSImportTypeQualifiedName
    ∷ kind.TSIndexedAccessType ∷ kind.TSInferType ∷ kind.TSIntersectionType ∷ kind.TSUnionType ∷ kind.TSLiteralType ∷ kind.TSMappedType ∷ kind.TSTemplateLiteralType ∷ kind.TSTupleType
    ∷ kind.TSNamedTupleMember ∷ kind.TSOptionalType ∷ kind.TSRestType ∷ kind.TSTypeLiteral ∷ kind.TSTypeOperator ∷ kind.TSTypePredicate ∷ kind.TSTypeQuery ∷ kind.TSTypeReference ∷ kind.JSDocNullableType
    ∷ kind.JSDocNonNullableType ∷ kind.TSQualifiedName ∷ kind.TSTypeAnnotation ∷ kind.TSTypeParameterDeclaration ∷ kind.TSTypeParameterInstantiation ∷ kind.TSTypeParameter ∷ kind.TSThisParameter
    ∷ kind.TSPropertySignature ∷ kind.TSMethodSignature ∷ kind.TSIndexSignature ∷ kind.TSIndexSignatureName ∷ kind.TSTypeAliasDeclaration ∷ kind.TSInterfaceDeclaration ∷ kind.TSInterfaceBody
    ∷ kind.TSInterfaceHeritage ∷ kind.TSClassImplements ∷ kind.TSEnumDeclaration ∷ kind.TSEnumBody ∷ kind.TSEnumMember ∷ kind.TSExternalModuleDeclaration ∷ kind.TSNamespaceDeclaration ∷ kind.TSGlobalDeclaration
    ∷ kind.TSModuleBlock ∷ kind.TSImportEqualsDeclaration ∷ kind.TSExternalModuleReference ∷ kind.TSExportAssignment ∷ kind.TSNamespaceExportDeclaration ∷ []

abbrev pub is_ecmascript_kind : AstType → Bool
is_ecmascript_kind k = not (holds_kind foreign_kinds k)

-- marks and texts that TypeScript alone writes
abbrev pub has_foreign_mark : Marks → Bool
has_foreign_mark marks = list_any (has_mark marks) (mark.Declare ∷ mark.Abstract ∷ mark.TypeOnly ∷ [])

abbrev pub is_foreign_text : List ℕ → Bool
is_foreign_text text = list_any (bytes_eq text) (codes "ts-declare" ∷ codes "ts-empty-body" ∷ [])

-- each tree of the forest is of ECMAScript
abbrev pub is_ecmascript_forest : Forest → Bool
is_ecmascript_forest nothing = true
is_ecmascript_forest (tree r k span text marks below id after) =
    (is_ecmascript_kind k && not (same_role r role.Decorators)) && (not (has_foreign_mark marks) && not (is_foreign_text text))
    && (is_ecmascript_forest below && is_ecmascript_forest after)

abbrev pub is_ecmascript : Tree → Bool
is_ecmascript p = not (is_typescript p.source_type) && is_ecmascript_forest p.root.children
