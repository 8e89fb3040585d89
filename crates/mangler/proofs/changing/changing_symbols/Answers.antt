use Rattle.std.proofs.Common.{◌≤◌, length, ap, ◌∙◌, arith}
use Rattle.semantic_model.specs.Analysis.{Analysis}
use Rattle.mangle_model.specs.Mangling.{may_change}
use Rattle.mangler.specs.Changing.{options_of}
use Rattle.mangler.proofs.Changes.{one_marked, all_marked}
use Rattle.mangler.proofs.changing.changing_symbols.Goals as goal

pub loop-number-init : goal.loop-number-init
loop-number-init c = record { long = ap length c.new-may.ensures.items; each = λ s h. absurd (omega arith) }

pub loop-number-preserved : goal.loop-number-preserved
loop-number-preserved c =
    one_marked (may_change (options_of c.args.options) c.args.program.now) c.loop-number.may.items c.push.new.self.items c.loop-number.number c.may_change.result c.in_ok-push.ensures.items
    (c.may_change.ensures ∙ ap (may_change (options_of c.args.options) c.args.program.now) c.new-symbol.ensures) c.loop-number.invariant

pub returns : goal.returns
returns c =
    let ended : length c.args.analysed.now.scoping.now.symbols ≤ c.loop-number.number = omega arith in
    let within : c.loop-number.number ≤ length c.args.analysed.now.scoping.now.symbols = omega arith in
    all_marked (options_of c.args.options) c.args.program.now c.args.analysed.now.scoping.now c.loop-number.may.items c.loop-number.number (ap (λ (a : Analysis). a.tables) c.requires.analysis) ended within c.loop-number.invariant
