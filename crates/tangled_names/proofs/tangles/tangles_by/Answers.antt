use Rattle.std.proofs.Common.{not, filter, ap, ◌∙◌, arith}
use Rattle.std.specs.Str.{chars}
use Rattle.semantic_syntax.specs.Reading.{symbol_of}
use Rattle.semantic_syntax.specs.Tables.{Name, Tables}
use Rattle.tangle_model.specs.Tangled.{all_reasons}
use Rattle.tangle_model.specs.declared.reason.Reason.{Reason}
use Rattle.tangled_names.specs.Facts.{facts_tell}
use Rattle.tangled_names.specs.Found.{with_tangle}
use Rattle.tangled_names.proofs.Tangling.{tangle_turn}
use Rattle.tangled_names.proofs.tangles.tangles_by.Goals as goal

pub loop-number-preserved : goal.loop-number-preserved
loop-number-preserved c =
    let t : Tables = c.args.scoping.now in
    tangle_turn t c.loop-number.number (λ (x : Name). filter (λ (r : Reason). facts_tell c.args.facts.now c.args.source_type t r x) all_reasons)
    c.loop-number.before c.add_name_if.new.self (chars c.symbol_name-name.result.now) _ c.in_ok-reasons.reasons.items c.loop-number.found c.push.new.self _
    (omega (arith, c.symbols_len-count.ensures.count, c.loop-number-test.true))
    (c.symbol_name-name.ensures.characters ∙ ap (λ n. (symbol_of t n).name) c.new-symbol.ensures)
    (ap not c.has_name-is_new.ensures)
    c.in_ok-reasons.ensures c.in_ok-add_name_if.ensures
    (c.in_ok-push.ensures ∙ ap (λ n. with_tangle c.loop-number.found n c.in_ok-reasons.reasons.items) c.new-symbol.ensures)
    c.loop-number.invariant
