-- The rows of a sight are tellable, whatever the kind of its node.
use Rattle.std.proofs.Common.{◌++◌, true, false}
use Rattle.semantic_kinds.specs.declared.kind.AstType.{AstType}
use Rattle.semantic_kinds.specs.declared.kind.AstType.TheVariants as kinds
use Rattle.semantic_kinds.specs.declared.role.Role.TheVariants as roles
use Rattle.check_model.specs.Bodies.{check_with_statement}
use Rattle.check_model.specs.Classes as class
use Rattle.check_model.specs.Jumps.{check_labeled_statement}
use Rattle.check_model.specs.Members as typed
use Rattle.check_model.specs.Names.{check_binding_identifier, check_identifier_reference}
use Rattle.check_model.specs.Rows.{own_identifier_rows, body_rows, labelled_body_rows, left_rows, rows_by, rows_of}
use Rattle.check_model.specs.Sight.{Sight}
use Rattle.check_model.specs.Variables.{check_for_of_statement}
use Rattle.report_bounds.proofs.ClassRows as classes
use Rattle.report_bounds.proofs.NameRows as names
use Rattle.report_bounds.proofs.Rows.{AllFine, both}
use Rattle.report_bounds.proofs.Sights.{IsFine}
use Rattle.report_bounds.proofs.TypeRows as types

by_kind : (k : AstType) (s : Sight) → IsFine s → AllFine (rows_by k s)
by_kind kinds.Program s f = classes.program s f
by_kind kinds.BindingIdentifier s f = both (own_identifier_rows s) (check_binding_identifier s) (names.own_identifier s f) (names.binding_identifier s f)
by_kind kinds.IdentifierReference s f = both (own_identifier_rows s) (check_identifier_reference s) (names.own_identifier s f) (names.identifier_reference s f)
by_kind kinds.LabelIdentifier s f = names.own_identifier s f
by_kind kinds.PrivateIdentifier s f = names.private_identifier s f
by_kind kinds.NumericLiteral s f = names.number_literal s f
by_kind kinds.StringLiteral s f = names.string_literal s f
by_kind kinds.Directive s f = names.directive s f
by_kind kinds.WithStatement s f = both (body_rows roles.Body false s) (check_with_statement s) (names.body s f roles.Body false) (names.with_word s f)
by_kind kinds.IfStatement s f = both (body_rows roles.Consequent true s) (body_rows roles.Alternate true s) (names.body s f roles.Consequent true) (names.body s f roles.Alternate true)
by_kind kinds.BreakStatement s f = names.break_statement s f
by_kind kinds.ContinueStatement s f = names.continue_statement s f
by_kind kinds.LabeledStatement s f = both (check_labeled_statement s) (labelled_body_rows s) (names.labeled_statement s f) (names.labelled_body s f)
by_kind kinds.DoWhileStatement s f = names.body s f roles.Body false
by_kind kinds.WhileStatement s f = names.body s f roles.Body false
by_kind kinds.ForStatement s f = names.body s f roles.Body false
by_kind kinds.ForInStatement s f = both (body_rows roles.Body false s) (left_rows true s) (names.body s f roles.Body false) (names.left s f true)
by_kind kinds.ForOfStatement s f =
    both (body_rows roles.Body false s ++ check_for_of_statement s) (left_rows false s) (both (body_rows roles.Body false s) (check_for_of_statement s) (names.body s f roles.Body false) (names.for_of_statement s f)) (names.left s f false)
by_kind kinds.VariableDeclaration s f = names.variable_declaration s f
by_kind kinds.VariableDeclarator s f = names.declarator_redeclaration s f
by_kind kinds.Function s f = classes.function_redeclaration s f
by_kind kinds.Class s f =
    both (class.check_class s ++ class.check_class_redeclaration s) (typed.check_class_members s) (both (class.check_class s) (class.check_class_redeclaration s) (classes.class_rows_fine s f) (classes.class_redeclaration s f)) (classes.typed_class s f)
by_kind kinds.MethodDefinition s f = classes.method_definition s f
by_kind kinds.FormalParameters s f = classes.formal_parameters s f
by_kind kinds.Super s f = classes.super_rows s f
by_kind kinds.ObjectExpression s f = classes.object_expression s f
by_kind kinds.UnaryExpression s f = classes.unary_expression s f
by_kind kinds.AwaitExpression s f = classes.await_expression s f
by_kind kinds.YieldExpression s f = classes.yield_expression s f
by_kind kinds.TSTypeAnnotation s f = types.type_annotation s f
by_kind kinds.TSTypePredicate s f = types.type_predicate s f
by_kind kinds.TSInferType s f = types.infer_type s f
by_kind kinds.TSNamespaceDeclaration s f = types.namespace_declaration s f
by_kind kinds.TSGlobalDeclaration s f = types.global_declaration s f
by_kind kinds.TSExternalModuleDeclaration s f = types.external_module_declaration s f
by_kind kinds.TSEnumDeclaration s f = types.enum_declaration s f
by_kind _ s f = tt

pub rows_fine : (s : Sight) → IsFine s → AllFine (rows_of s)
rows_fine s f = by_kind s.node.kind s f
