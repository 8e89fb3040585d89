use Rattle.std.proofs.Common.{◌≡◌, ℕ, ◌<◌, List, ◌∷◌, Option, IfSome, length, refl, sym, ap, subst, ◌∙◌, arith}
use Rattle.semantic_syntax.specs.Tables.{Tables}
use Rattle.semantic_syntax.specs.Reading.{parent_of}
use Rattle.check_model.specs.Context.{seen_row}
use Rattle.check_model.specs.Sight.{Sight, SeenScope, SeenClass}
use Rattle.check_model.specs.Super.{kept_after, search_from}
use Rattle.check_model.specs.Surroundings.{nodes_outward}
use Rattle.check_context.specs.Handed.{sight}
use Rattle.expression_checks.specs.Searches.{classes_kept}
use Rattle.expression_checks.specs.Verdicts.{verdict_shown}
use Rattle.expression_checks.specs.Ways.{GoesAlong}
use Rattle.expression_checks.proofs.Searched.{scopes_from, stepped, found, passed}
use Rattle.expression_checks.proofs.super_search.first_verdict.Goals as goal

pub returns-in-Some-decides-clause-found : goal.returns-in-Some-decides-clause-found
returns-in-Some-decides-clause-found c =
    let s : Sight = sight c.args.kind.node.now c.args.ctx.now in
    let t : Tables = c.args.ctx.now.scoping.now in
    let scope : ℕ = c.in-Some.scope in
    let kept : List SeenClass = classes_kept c.args.ctx.now c.loop-left.state.kept in
    let within : scope < length t.scopes = subst (λ (left : Option ℕ). IfSome left (λ n. n < length t.scopes)) c.in-Some.is c.loop-left.invariant.scope in
    let scopes : scopes_from t c.loop-left.left ≡ seen_row t scope ∷ scopes_from t (parent_of t.scopes scope) = ap (scopes_from t) c.in-Some.is ∙ stepped t c.attest.ensures.source scope (parent_of t.scopes scope) within refl in
    ap (λ class. (verdict_shown c.in-Some-decides.verdict, classes_kept c.args.ctx.now class)) c.in-Some-decides.ensures.kept
    ∙ sym (found s kept c.loop-left.state.from (seen_row t scope) (scopes_from t (parent_of t.scopes scope)) (verdict_shown c.in-Some-decides.verdict) (sym c.in-Some-decides.ensures.verdict))
    ∙ sym (ap (search_from s kept c.loop-left.state.from) scopes)
    ∙ c.loop-left.invariant.rest

pub loop-left-smaller : goal.loop-left-smaller
loop-left-smaller c =
    let t : Tables = c.args.ctx.now.scoping.now in
    let scope : ℕ = c.in-Some.scope in
    let within : scope < length t.scopes = subst (λ (left : Option ℕ). IfSome left (λ n. n < length t.scopes)) c.in-Some.is c.loop-left.invariant.scope in
    let scopes : scopes_from t c.loop-left.left ≡ seen_row t scope ∷ scopes_from t c.outer_scope-left.result =
    ap (scopes_from t) c.in-Some.is ∙ stepped t c.attest.ensures.source scope c.outer_scope-left.result within (sym c.outer_scope-left.ensures.value) in
    omega (arith, ap length scopes)

pub loop-left-preserved : goal.loop-left-preserved
loop-left-preserved c =
    let s : Sight = sight c.args.kind.node.now c.args.ctx.now in
    let t : Tables = c.args.ctx.now.scoping.now in
    let scope : ℕ = c.in-Some.scope in
    let seen : SeenScope = seen_row t scope in
    let kept : List SeenClass = classes_kept c.args.ctx.now c.loop-left.state.kept in
    let within : scope < length t.scopes = subst (λ (left : Option ℕ). IfSome left (λ n. n < length t.scopes)) c.in-Some.is c.loop-left.invariant.scope in
    let scopes : scopes_from t c.loop-left.left ≡ seen ∷ scopes_from t c.outer_scope-left.result =
    ap (scopes_from t) c.in-Some.is ∙ stepped t c.attest.ensures.source scope c.outer_scope-left.result within (sym c.outer_scope-left.ensures.value) in
    let around : classes_kept c.args.ctx.now c.pass.new.self.kept ≡ kept_after kept seen = c.pass.ensures.kept ∙ ap (λ class. kept_after (classes_kept c.args.ctx.now class) seen) c.in-None.ensures.kept in
    let from : c.pass.new.self.from ≡ seen.opener = c.pass.ensures.from in record {
      searching = record { along = subst (GoesAlong (nodes_outward s)) (sym c.pass.ensures.way) c.in-None.ensures.searching.along; kept = c.pass.ensures.there };
      scope = c.outer_scope-left.ensures.within;
      rest =
          (λ i. search_from s (around i) (from i) (scopes_from t c.outer_scope-left.result))
          ∙ sym (passed s kept c.loop-left.state.from seen (scopes_from t c.outer_scope-left.result) (sym c.in-None.ensures.verdict))
          ∙ sym (ap (search_from s kept c.loop-left.state.from) scopes)
          ∙ c.loop-left.invariant.rest;
    }
