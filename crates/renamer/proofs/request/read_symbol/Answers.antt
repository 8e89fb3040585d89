use Rattle.std.proofs.Common.{sym, ◌∙◌}
use Rattle.renamer.proofs.Numbers.{too_great}
use Rattle.renamer.proofs.request.read_symbol.Goals as goal

pub returns-in_default : goal.returns-in_default
returns-in_default c = too_great c.args.word.now c.in_default.field-0 (sym c.is_plain_number.ensures ∙ c.if-not-is_plain_number.false) c.in_default.ensures.value.0
