use Rattle.std.proofs.Common.{◌≡◌, ◌<◌, ℕ, Bool, true, false, Some, None, IfSome, cond, length, refl, sym, ap, subst, ◌∙◌}
use Rattle.std.specs.Prelude.{unwrap_or}
use Rattle.semantic_kinds.specs.declared.kind.AstType.{AstType}
use Rattle.semantic_kinds.specs.declared.role.Role.{Role}
use Rattle.semantic_syntax.specs.Tables.{Tables}
use Rattle.semantic_syntax.specs.Reading.{scope_of}
use Rattle.semantic_model.specs.Inside.{is_inside, is_parameter_decorator}
use Rattle.semantic_walk.specs.Walker.{Walker}
use Rattle.semantic_walk.specs.Turns.{child_scope, own_or}
use Rattle.semantic_walk.specs.declared.visit.Turn.{Turn}
use Rattle.semantic_walk.proofs.walk.Walk.scope_of_child.Goals.{in_default-via-in-Some+else-is_inside, in_default-via-in_default}
use Rattle.semantic_walk.proofs.walk.Walk.scope_of_child.Goals as goal

none_own : (b : Bool) (outer : ℕ) → own_or b None outer ≡ outer
none_own true outer = refl
none_own false outer = refl

module _ (t : Tables) (turn : Turn) (k : AstType) (r : Role) where
  decorated : is_parameter_decorator k r ≡ true → unwrap_or (scope_of t turn.outer).parent turn.outer ≡ child_scope t turn k r
  decorated e = ap (λ b. cond b (unwrap_or (scope_of t turn.outer).parent turn.outer) (own_or (is_inside k r) turn.own turn.outer)) (sym e)

  plain : is_parameter_decorator k r ≡ false → own_or (is_inside k r) turn.own turn.outer ≡ child_scope t turn k r
  plain e = ap (λ b. cond b (unwrap_or (scope_of t turn.outer).parent turn.outer) (own_or (is_inside k r) turn.own turn.outer)) (sym e)

pub returns-in_default-clause-value : goal.returns-in_default-clause-value
returns-in_default-clause-value c =
    elim c.in_default.branch [
      | in_default-via-in-Some+else-is_inside w ↦ ap (λ b. own_or b c.args.turn.now.own c.args.turn.now.outer) (sym w.if-is_inside.false ∙ w.is_inside.ensures) ∙ plain c.args.self.now.made.tables c.args.turn.now c.args.turn.now.doings c.args.role (sym (c.is_parameter_decorator.ensures ∙ ap (λ k. is_parameter_decorator k c.args.role) c.kind.ensures) ∙ c.if-is_parameter_decorator.false)
      | in_default-via-in_default w ↦ sym (ap (λ o. own_or (is_inside c.args.turn.now.doings c.args.role) o c.args.turn.now.outer) w.in_default.is ∙ none_own (is_inside c.args.turn.now.doings c.args.role) c.args.turn.now.outer) ∙ plain c.args.self.now.made.tables c.args.turn.now c.args.turn.now.doings c.args.role (sym (c.is_parameter_decorator.ensures ∙ ap (λ k. is_parameter_decorator k c.args.role) c.kind.ensures) ∙ c.if-is_parameter_decorator.false)
    ]

pub returns-in-Some-clause-value : goal.returns-in-Some-clause-value
returns-in-Some-clause-value c =
    ap (λ b. own_or b (Some c.in-Some.own) c.args.turn.now.outer) (sym c.if-is_inside.true ∙ c.is_inside.ensures)
    ∙ ap (λ o. own_or (is_inside c.args.turn.now.doings c.args.role) o c.args.turn.now.outer) (sym c.in-Some.is)
    ∙ plain c.args.self.now.made.tables c.args.turn.now c.args.turn.now.doings c.args.role (sym (c.is_parameter_decorator.ensures ∙ ap (λ k. is_parameter_decorator k c.args.role) c.kind.ensures) ∙ c.if-is_parameter_decorator.false)

pub returns-then-is_parameter_decorator-clause-value : goal.returns-then-is_parameter_decorator-clause-value
returns-then-is_parameter_decorator-clause-value c =
    c.around.ensures.value
    ∙ ap (λ (w : Walker). unwrap_or (scope_of w.made.tables c.args.turn.now.outer).parent c.args.turn.now.outer) c.self.view_is
    ∙ decorated c.args.self.now.made.tables c.args.turn.now c.args.turn.now.doings c.args.role (sym (c.is_parameter_decorator.ensures ∙ ap (λ k. is_parameter_decorator k c.args.role) c.kind.ensures) ∙ c.if-is_parameter_decorator.true)

pub returns-in_default-clause-within : goal.returns-in_default-clause-within
returns-in_default-clause-within c = c.requires.outer

pub returns-in-Some-clause-within : goal.returns-in-Some-clause-within
returns-in-Some-clause-within c = subst (λ o. IfSome o (λ s. s < length c.args.self.now.made.tables.scopes)) c.in-Some.is c.requires.own

pub returns-then-is_parameter_decorator-clause-within : goal.returns-then-is_parameter_decorator-clause-within
returns-then-is_parameter_decorator-clause-within c = subst (λ (w : Walker). c.around.result < length w.made.tables.scopes) c.self.view_is c.around.ensures.within
