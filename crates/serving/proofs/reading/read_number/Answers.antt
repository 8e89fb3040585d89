use Rattle.std.proofs.Common.{sym, ◌∙◌, arith}
use Rattle.serving.proofs.Steps.{cut_number}
use Rattle.serving.proofs.reading.read_number.Goals as goal

pub returns-clause-cause : goal.returns-clause-cause
returns-clause-cause g c = cut_number _ _ c.in_ok-bytes.bytes.items c.deref.result.now c.in_ok-bytes.bytes.len c.in_ok-bytes.ensures.read c.deref.ensures.value (c.number_in.ensures.none c.in-None.is) (omega (arith, c.in_ok-bytes.bytes.ok.0)) (sym c.is_empty.ensures ∙ c.if-is_empty.false)
