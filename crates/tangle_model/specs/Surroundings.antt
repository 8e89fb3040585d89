-- What the nodes above a place, parent first, say of the names there.
use Rattle.std.specs.Prelude.{ℕ, ◌==◌, List, [], ◌∷◌, Bool, false, ◌&&◌, ◌||◌, not, Option, Some, None, cond, codes}
use Rattle.semantic_kinds.specs.Classes.{holds_kind}
use Rattle.semantic_kinds.specs.declared.kind.AstType.{AstType}
use Rattle.semantic_kinds.specs.declared.kind.AstType.TheVariants as kind
use Rattle.semantic_kinds.specs.declared.mark.Mark.TheVariants as mark
use Rattle.semantic_kinds.specs.declared.role.Role.TheVariants as role
use Rattle.semantic_syntax.specs.SourceTypes.{is_module}
use Rattle.semantic_syntax.specs.declared.source_type.SourceType.{SourceType}
use Rattle.semantic_tree.specs.Views.{is, has, has_text, has_use_strict, child_of}
use Rattle.semantic_tree.specs.declared.node.Node.{Node}
use Rattle.semantic_model.specs.Binder.{is_statement}
use Rattle.tangle_model.specs.declared.around.Around.{Around}
use Rattle.tangle_model.specs.declared.around.Declarer.{Declarer}
use Rattle.tangle_model.specs.declared.around.Declarer.TheVariants as declarer

-- what takes the variables that are declared in it (ECMA-262, 10.2.11, 15.7.12, 16.1.7): a function with its name as an expression, its parameters and its body
abbrev pub is_home : Node → Bool
is_home x = holds_kind (kind.Program ∷ kind.Function ∷ kind.ArrowFunctionExpression ∷ kind.StaticBlock ∷ kind.TSModuleBlock ∷ []) x.kind

-- the innermost of them
abbrev pub home_under : List Node → ℕ
home_under [] = 0
home_under (x ∷ path) = cond (is_home x) x.node_id (home_under path)

-- what makes the code in it strict (11.2.2): a directive, and the body of a class
abbrev pub makes_strict : Node → Bool
makes_strict x = is kind.ClassBody x || (holds_kind (kind.Program ∷ kind.FunctionBody ∷ kind.TSModuleBlock ∷ []) x.kind && has_use_strict x)

abbrev pub is_strict_under : SourceType → List Node → Bool
is_strict_under s [] = is_module s
is_strict_under s (x ∷ path) = makes_strict x || is_strict_under s path

-- a statement stands directly in a block or a case, or is the body of an `if` (14.2, 14.12, B.3.3); labels are seen through
abbrev pub in_block_under : List Node → Bool
in_block_under [] = false
in_block_under (x ∷ path) = cond (is kind.LabeledStatement x) (in_block_under path) (holds_kind (kind.BlockStatement ∷ kind.SwitchCase ∷ kind.IfStatement ∷ []) x.kind)

-- a catch clause of the same home holds the place (14.15)
abbrev pub in_catch_under : List Node → Bool
in_catch_under [] = false
in_catch_under (x ∷ path) = not (is_home x) && (is kind.CatchClause x || in_catch_under path)

-- a `with` holds the place (14.11)
abbrev pub in_with_under : List Node → Bool
in_with_under [] = false
in_with_under (x ∷ path) = is kind.WithStatement x || in_with_under path

-- what declares the binding identifiers under a node of the kind, where the nodes above it are of that declarer: patterns are seen through
abbrev pub declarer_in : AstType → Node → Declarer → Declarer
declarer_in kind.VariableDeclaration x above = cond (has_text (codes "var") x) declarer.Var declarer.Other
declarer_in kind.CatchParameter x above = declarer.CatchParameter
declarer_in kind.Function x above = cond (is_statement x) declarer.Function declarer.Other
declarer_in kind.VariableDeclarator x above = above
declarer_in kind.ObjectPattern x above = above
declarer_in kind.ArrayPattern x above = above
declarer_in kind.AssignmentPattern x above = above
declarer_in kind.BindingProperty x above = above
declarer_in kind.BindingRestElement x above = above
declarer_in _ x above = declarer.Other

abbrev pub declarer_under : List Node → Declarer
declarer_under [] = declarer.Other
declarer_under (x ∷ path) = declarer_in x.kind x (declarer_under path)

-- ---- of TypeScript

-- a block, a loop, a `switch` or a `with` of the same home holds the place
abbrev pub is_inner_block : Node → Bool
is_inner_block x = holds_kind (kind.BlockStatement ∷ kind.ForStatement ∷ kind.ForInStatement ∷ kind.ForOfStatement ∷ kind.SwitchStatement ∷ kind.WithStatement ∷ []) x.kind

abbrev pub in_inner_block_under : List Node → Bool
in_inner_block_under [] = false
in_inner_block_under (x ∷ path) = not (is_home x) && (is_inner_block x || in_inner_block_under path)

-- the part `extends` of a conditional type; the root of another node
abbrev pub id_or_root : Option Node → ℕ
id_or_root None = 0
id_or_root (Some x) = x.node_id

abbrev pub extends_part_of : Node → ℕ
extends_part_of x = cond (is kind.TSConditionalType x) (id_or_root (child_of role.Extends x)) 0

abbrev pub extends_part_under : List Node → ℕ
extends_part_under [] = 0
extends_part_under (x ∷ path) = extends_part_of x

-- the node is that part
abbrev pub is_extends_part : ℕ → Node → Bool
is_extends_part part x = x.node_id == part && not (part == 0)

-- the place is in that part of the innermost conditional type
abbrev pub in_extends_under : List Node → Bool
in_extends_under [] = false
in_extends_under (x ∷ path) = not (is kind.TSConditionalType x) && (is_extends_part (extends_part_under path) x || in_extends_under path)

-- the outermost node of a sort: the one above, or this one if it is of the sort
abbrev pub outermost : ℕ → Bool → Node → ℕ
outermost above is_one x = cond (above == 0) (cond is_one x.node_id 0) above

-- the outermost such part, and the outermost index signature
abbrev pub extends_under : List Node → ℕ
extends_under [] = 0
extends_under (x ∷ path) = outermost (extends_under path) (is_extends_part (extends_part_under path) x) x

abbrev pub index_signature_under : List Node → ℕ
index_signature_under [] = 0
index_signature_under (x ∷ path) = outermost (index_signature_under path) (is kind.TSIndexSignature x) x

abbrev pub in_type_parameters_under : List Node → Bool
in_type_parameters_under [] = false
in_type_parameters_under (x ∷ path) = is kind.TSTypeParameterDeclaration x || in_type_parameters_under path

-- a list or one of its names is exported as types
abbrev pub exports_types_in : AstType → Node → Bool → Bool
exports_types_in kind.ExportNamedDeclaration x above = has mark.TypeOnly x
exports_types_in kind.ExportSpecifier x above = has mark.TypeOnly x || above
exports_types_in _ x above = false

abbrev pub exports_types_under : List Node → Bool
exports_types_under [] = false
exports_types_under (x ∷ path) = exports_types_in x.kind x (exports_types_under path)

-- ---- all of that

abbrev pub around_under : SourceType → List Node → Around
around_under s path = record {
  home = home_under path;
  is_strict = is_strict_under s path;
  in_block = in_block_under path;
  in_catch = in_catch_under path;
  in_with = in_with_under path;
  declarer = declarer_under path;
  in_inner_block = in_inner_block_under path;
  extends_part = extends_part_under path;
  in_extends = in_extends_under path;
  extends = extends_under path;
  index_signature = index_signature_under path;
  in_type_parameters = in_type_parameters_under path;
  exports_types = exports_types_under path;
}

-- one node further in
abbrev pub around_in : Around → Node → Around
around_in a x = record {
  home = cond (is_home x) x.node_id a.home;
  is_strict = makes_strict x || a.is_strict;
  in_block = cond (is kind.LabeledStatement x) a.in_block (holds_kind (kind.BlockStatement ∷ kind.SwitchCase ∷ kind.IfStatement ∷ []) x.kind);
  in_catch = not (is_home x) && (is kind.CatchClause x || a.in_catch);
  in_with = is kind.WithStatement x || a.in_with;
  declarer = declarer_in x.kind x a.declarer;
  in_inner_block = not (is_home x) && (is_inner_block x || a.in_inner_block);
  extends_part = extends_part_of x;
  in_extends = not (is kind.TSConditionalType x) && (is_extends_part a.extends_part x || a.in_extends);
  extends = outermost a.extends (is_extends_part a.extends_part x) x;
  index_signature = outermost a.index_signature (is kind.TSIndexSignature x) x;
  in_type_parameters = is kind.TSTypeParameterDeclaration x || a.in_type_parameters;
  exports_types = exports_types_in x.kind x a.exports_types;
}
