use Rattle.std.proofs.Common.{◌≡◌, ℕ, List, IfOk, true, codes, refl, sym, ap, subst, ◌∙◌}
use Rattle.semantic_kinds.specs.Kinds.{same_kind}
use Rattle.semantic_kinds.specs.declared.kind.AstType.TheVariants as kinds
use Rattle.semantic_kinds.proofs.Ascii.{ascii_chars}
use Rattle.semantic_diagnostics.specs.declared.diagnostic.Diagnostic.{Diagnostic}
use Rattle.semantic_diagnostics.specs.Names.{unexpected_arguments}
use Rattle.check_context.specs.Tells.{Tells}
use Rattle.check_context.proofs.Telling.{told_made}
use Rattle.check_model.specs.Names.{is_static_block}
use Rattle.statement_checks.proofs.ArgumentPlaces.{in_field, in_block}
use Rattle.statement_checks.proofs.references.tell_arguments.Goals as goal

pub returns-then-is_field_value : goal.returns-then-is_field_value
returns-then-is_field_value c =
    let place : List ℕ = codes "class field initializer" in
    subst (λ (rows : List Diagnostic). Tells c.tell.result rows c.args.out.now c.tell.new.out)
    (sym (in_field (c.args.child.node.now, c.args.parent.node.now) (unexpected_arguments place c.args.span) (unexpected_arguments (codes "static initialization block") c.args.span) (sym c.is_field_value.ensures ∙ c.if-is_field_value.true)))
    (told_made c.unexpected_arguments.result c.tell.result (unexpected_arguments place c.args.span) _ _ c.tell.ensures
    (subst (λ (text : List ℕ). IfOk c.unexpected_arguments.result (λ (made : Diagnostic). made ≡ unexpected_arguments text c.args.span)) (ascii_chars place refl) c.unexpected_arguments.ensures))

pub returns-then-eq : goal.returns-then-eq
returns-then-eq c =
    let place : List ℕ = codes "static initialization block" in
    let block : is_static_block (c.args.child.node.now, c.args.parent.node.now) ≡ true = ap (λ k. same_kind k kinds.StaticBlock) (sym c.ty.ensures) ∙ sym c.eq.ensures ∙ c.if-eq.true in
    subst (λ (rows : List Diagnostic). Tells c.tell-then-eq.result rows c.args.out.now c.tell-then-eq.new.out)
    (sym (in_block (c.args.child.node.now, c.args.parent.node.now) (unexpected_arguments (codes "class field initializer") c.args.span) (unexpected_arguments place c.args.span) (sym c.is_field_value.ensures ∙ c.if-is_field_value.false) block))
    (told_made c.unexpected_arguments-then-eq.result c.tell-then-eq.result (unexpected_arguments place c.args.span) _ _ c.tell-then-eq.ensures
    (subst (λ (text : List ℕ). IfOk c.unexpected_arguments-then-eq.result (λ (made : Diagnostic). made ≡ unexpected_arguments text c.args.span)) (ascii_chars place refl) c.unexpected_arguments-then-eq.ensures))
