use Rattle.std.proofs.Common.{slice_get, ap, ◌∙◌}
use Rattle.semantic_kinds.specs.Kinds.{all_kinds}
use Rattle.semantic_kinds.proofs.KindNames.{kind_in_place}
use Rattle.semantic_walk.proofs.DoingBits.{bits_at}
use Rattle.semantic_walk.proofs.doings.bits_of.Goals as goal

pub returns : goal.returns
returns c = bits_at c.all_bits.result.now c.index.result _ c.args.kind (ap (slice_get all_kinds) c.index.ensures ∙ kind_in_place c.args.kind) c.all_bits.ensures
