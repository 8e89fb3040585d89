-- The flags of a scope, by the node that opens it.
use Rattle.std.specs.Prelude.{ℕ, suc, List, [], ◌∷◌, Bool, ◌||◌, None, cond, codes, bytes_eq, false}
use Rattle.semantic_kinds.specs.Roles.{same_role}
use Rattle.semantic_kinds.specs.declared.kind.AstType.{AstType}
use Rattle.semantic_kinds.specs.declared.kind.AstType.TheVariants as kind
use Rattle.semantic_kinds.specs.declared.role.Role.TheVariants as role
use Rattle.semantic_tree.specs.declared.node.Node.{Node}
use Rattle.semantic_syntax.specs.declared.scope_flags.TheConstants.ScopeFlags as scope
use Rattle.semantic_syntax.specs.Sets.{union}
use Rattle.semantic_tree.specs.Views.{is, has_text, child_of, holds, has_use_strict}
use Rattle.semantic_syntax.specs.SourceTypes.{is_module}
use Rattle.semantic_model.specs.Place.{Place, OpenScope, is_strict}
use Rattle.semantic_model.specs.Inside.{body_number}

abbrev pub strict_if : Bool → ℕ
strict_if b = cond b scope.StrictMode.bits 0

-- strict where the body has the directive
abbrev pub strict_by_body : Node → ℕ
strict_by_body node = strict_if (holds has_use_strict (child_of role.Body node))

abbrev pub accessor : List ℕ → ℕ
accessor text =
    cond (bytes_eq text (codes "get")) scope.GetAccessor.bits
    (cond (bytes_eq text (codes "set")) scope.SetAccessor.bits 0)

-- what a function is as the value of a method or of an object's property
abbrev pub value_of : AstType → List ℕ → Node → ℕ
value_of kind.MethodDefinition text node = cond (bytes_eq text (codes "constructor")) scope.Constructor.bits (accessor text)
value_of kind.ObjectProperty text node = cond (has_text (codes "expression") node) (accessor text) 0
value_of _ text node = 0

abbrev pub method_flags : List Node → Node → ℕ
method_flags [] node = 0
method_flags (parent ∷ path) node = value_of parent.kind parent.text node

abbrev pub flags_of_kind : AstType → Place → ℕ
flags_of_kind kind.Program p = union scope.Top.bits (strict_if (is_module p.source_type || has_use_strict p.node))
flags_of_kind kind.Class p = scope.StrictMode.bits
flags_of_kind kind.Function p =
    union scope.Function.bits (union (strict_by_body p.node) (cond (same_role p.role role.Value) (method_flags p.path p.node) 0))
flags_of_kind kind.ArrowFunctionExpression p = union scope.Function.bits (union scope.Arrow.bits (strict_by_body p.node))
flags_of_kind kind.WithStatement p = scope.With.bits
flags_of_kind kind.CatchClause p = scope.CatchClause.bits
flags_of_kind kind.StaticBlock p = scope.ClassStaticBlock.bits
flags_of_kind kind.TSNamespaceDeclaration p = union scope.TsModuleBlock.bits (strict_by_body p.node)
flags_of_kind kind.TSExternalModuleDeclaration p = union scope.TsModuleBlock.bits (strict_by_body p.node)
flags_of_kind kind.TSGlobalDeclaration p = scope.TsModuleBlock.bits
flags_of_kind kind.TSConditionalType p = scope.TsConditional.bits
flags_of_kind _ p = 0

-- the scope that the node of the place opens, where so many were opened before; it is strict where the code around it is
abbrev pub opened_scope : Place → ℕ → OpenScope
opened_scope p n = record {
  number = n;
  opener = p.node.node_id;
  flags = union (flags_of_kind p.node.kind p) (strict_if (is_strict p.chain));
  body = cond (is kind.CatchClause p.node) (body_number (suc n) p.node.children) None;
  in_header = false;
}
