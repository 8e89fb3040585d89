use Rattle.std.proofs.Common.{◌≡◌, sym, ap, ◌∙◌, arith, rules}
use Rattle.std.specs.Map.{lookup}
use Rattle.std.specs.Str.{chars, bytes_eq}
use Rattle.namespace_states.specs.declared.open_lists.OpenList.{OpenList}
use Rattle.namespace_states.proofs.Opening.{back_found, back_missed}
use Rattle.namespace_states.proofs.open_lists.target_in.Goals as goal

pub returns-then-is_some : goal.returns-then-is_some
returns-then-is_some c =
    back_found (chars c.args.name.text.now) c.args.lists.now c.loop-left.left c.index-lists-left.result (omega (arith, c.loop-left-test.true)) c.loop-left.invariant.within c.index-lists-left.is c.requires
    c.get-found.result (c.get-found.ensures ∙ ap (λ (x : OpenList). lookup (bytes_eq (chars c.as_str.result.now)) x.names) (sym c.index-lists-left.is) ∙ ap (λ q. lookup (bytes_eq (chars q)) c.index-lists-left.result.names) c.as_str.ensures) (search rules)
    ∙ c.loop-left.invariant.rest

pub loop-left-preserved : goal.loop-left-preserved
loop-left-preserved c = record {
  within = omega (arith, c.loop-left.invariant.within);
  rest = back_missed (chars c.args.name.text.now) c.args.lists.now c.loop-left.left c.index-lists-left.result (omega (arith, c.loop-left-test.true)) c.loop-left.invariant.within c.index-lists-left.is c.requires
      c.get-found.result (c.get-found.ensures ∙ ap (λ (x : OpenList). lookup (bytes_eq (chars c.as_str.result.now)) x.names) (sym c.index-lists-left.is) ∙ ap (λ q. lookup (bytes_eq (chars q)) c.index-lists-left.result.names) c.as_str.ensures) (search rules)
      ∙ c.loop-left.invariant.rest;
}
