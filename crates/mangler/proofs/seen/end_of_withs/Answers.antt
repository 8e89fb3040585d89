use Rattle.std.proofs.Common.{◌≡◌, ◌<◌, ◌≤◌, ◌+◌, length, slice_index_or, subst, sym, ap, ◌∙◌, arith}
use Rattle.semantic_syntax.specs.Reading.{no_scope}
use Rattle.semantic_syntax.specs.Sets.{meets}
use Rattle.semantic_syntax.specs.declared.scope_flags.ScopeFlags.{ScopeFlags}
use Rattle.semantic_syntax.specs.declared.scope_flags.TheConstants.ScopeFlags as scope
use Rattle.mangler.proofs.Withs.{SoFar, opens_with, at_first, with_passes, with_found, withs_end}
use Rattle.mangler.proofs.seen.end_of_withs.Goals as goal
use Rattle.mangler.proofs.seen.end_of_withs.Goals.{then-intersects, else-intersects}

pub loop-number-init : goal.loop-number-init
loop-number-init c = at_first c.args.scoping.now.scopes

pub loop-number-preserved : goal.loop-number-preserved
loop-number-preserved c =
    let scopes = c.args.scoping.now.scopes in
    let n = c.loop-number.number in
    let within : n < length scopes = omega arith in
    let tested : opens_with (slice_index_or scopes n no_scope) ≡ c.intersects.result =
    ap (λ m. opens_with (slice_index_or scopes m no_scope)) (sym c.new.ensures) ∙ ap (λ (f : ScopeFlags). meets f.bits scope.With.bits) (sym c.scope_flags-flags.ensures) ∙ sym c.intersects.ensures in
    elim c.if-intersects.branch [
      | then-intersects w ↦ subst (SoFar scopes (n + 1)) (sym w.end-is) (with_found scopes n c.loop-number.end within (tested ∙ w.if-intersects.true) c.loop-number.invariant)
      | else-intersects w ↦ subst (SoFar scopes (n + 1)) (sym w.end-is) (with_passes scopes n c.loop-number.end within (tested ∙ w.if-intersects.false) c.loop-number.invariant)
    ]

pub returns : goal.returns
returns c =
    let ended : length c.args.scoping.now.scopes ≤ c.loop-number.number = omega arith in
    withs_end c.args.scoping.now.scopes c.loop-number.number c.loop-number.end ended c.loop-number.invariant
