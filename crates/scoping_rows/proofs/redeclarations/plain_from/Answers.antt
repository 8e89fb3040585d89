use Rattle.std.proofs.Common.{sym, ◌∙◌, arith}
use Rattle.semantic_syntax.specs.Sets.{meets}
use Rattle.semantic_syntax.specs.declared.symbol_flags.TheConstants.SymbolFlags as symbol
use Rattle.scoping_rows.proofs.PlainCounts.{passes_on, stops_at, all_passed}
use Rattle.scoping_rows.proofs.redeclarations.plain_from.Goals as goal

pub returns-then-intersects : goal.returns-then-intersects
returns-then-intersects c =
    let entries = c.args.entries.now in
    stops_at (λ entry. meets entry.flags.bits symbol.AsyncOrGeneratorFunction.bits) entries c.loop-plain.plain c.loop-plain.invariant c.index-entries-plain.result
    (sym c.intersects.ensures ∙ c.if-intersects.true)

pub loop-plain-preserved : goal.loop-plain-preserved
loop-plain-preserved c =
    let entries = c.args.entries.now in
    passes_on (λ entry. meets entry.flags.bits symbol.AsyncOrGeneratorFunction.bits) entries c.loop-plain.plain c.loop-plain.invariant c.index-entries-plain.result c.loop-plain-test.true
    (sym c.intersects.ensures ∙ c.if-intersects.false)

pub returns : goal.returns
returns c = all_passed (λ entry. meets entry.flags.bits symbol.AsyncOrGeneratorFunction.bits) c.args.entries.now c.loop-plain.plain c.loop-plain.invariant (omega (arith, c.loop-plain-test.false))
