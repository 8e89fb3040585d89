use Rattle.std.proofs.Common.{arith, rules}
use Rattle.module_entries.specs.Names.{names_of}
use Rattle.module_entries.proofs.NamesFound.{firsts_begin, firsts_more}
use Rattle.module_entries.proofs.module_names.ModuleNames.of.Goals as goal

pub loop-number-init : goal.loop-number-init
loop-number-init c = firsts_begin (names_of c.args.modules.now) c.new-numbers.result (λ text. search rules)

pub loop-number-preserved : goal.loop-number-preserved
loop-number-preserved c =
    firsts_more c.args.modules.now c.loop-number.number c.index-modules-number.result c.index-modules-number.result (omega arith) c.index-modules-number.is
    c.as_str.result.now c.as_str.ensures.chars c.as_str.ensures.bytes c.loop-number.numbers c.note.new.numbers c.in_ok-note.ensures c.loop-number.invariant
