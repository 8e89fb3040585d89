use Rattle.std.proofs.Common.{◌≡◌, true, false, Some, None, sym, ap, ◌∙◌}
use Rattle.check_model.specs.Context.{seen_row}
use Rattle.check_model.specs.Search.{passes}
use Rattle.check_model.specs.Sight.{SeenScope}
use Rattle.check_context.specs.Handed.{is_block_or_function}
use Rattle.check_context.proofs.Outward.{shorter, found, passed}
use Rattle.check_context.proofs.context.CheckContext.is_in_static_block.Goals as goal

pub loop-scope-smaller : goal.loop-scope-smaller
loop-scope-smaller c = shorter c.args.self.now.scoping.now c.attest.ensures.source c.loop-scope.scope c.in-Some.outer c.loop-scope.invariant.within (sym c.in-Some.ensures.value)

pub loop-scope-preserved : goal.loop-scope-preserved
loop-scope-preserved c =
    let t = c.args.self.now.scoping.now in
    let fails : is_block_or_function (seen_row t c.loop-scope.scope) ≡ false = sym c.is_block_or_function_scope.ensures ∙ c.loop-scope-test.true in
    record {
      within = c.in-Some.ensures.within;
      rest = sym (passed t c.attest.ensures.source (seen_row t) is_block_or_function c.loop-scope.scope (Some c.in-Some.outer) c.loop-scope.invariant.within (sym c.in-Some.ensures.value) fails) ∙ c.loop-scope.invariant.rest;
    }

pub returns-in-None : goal.returns-in-None
returns-in-None c =
    let t = c.args.self.now.scoping.now in
    let fails : is_block_or_function (seen_row t c.loop-scope.scope) ≡ false = sym c.is_block_or_function_scope.ensures ∙ c.loop-scope-test.true in
    ap (passes (λ (seen : SeenScope). seen.is_static_block))
    (sym (passed t c.attest.ensures.source (seen_row t) is_block_or_function c.loop-scope.scope None c.loop-scope.invariant.within (sym c.in-None.ensures.value) fails) ∙ c.loop-scope.invariant.rest)

pub returns : goal.returns
returns c =
    let t = c.args.self.now.scoping.now in
    let passes_here : is_block_or_function (seen_row t c.loop-scope.scope) ≡ true = sym c.is_block_or_function_scope.ensures ∙ c.loop-scope-test.false in
    c.is_block_scope.ensures
    ∙ ap (passes (λ (seen : SeenScope). seen.is_static_block))
    (sym (found t c.attest.ensures.source (seen_row t) is_block_or_function c.loop-scope.scope c.loop-scope.invariant.within passes_here) ∙ c.loop-scope.invariant.rest)
