use Rattle.std.proofs.Common.{Bor, List, ℕ, slice_get, ap, ◌∙◌}
use Rattle.semantic_kinds.specs.Kinds.{all_kinds, kind_name}
use Rattle.semantic_kinds.proofs.Named.{named_at}
use Rattle.semantic_kinds.proofs.KindNames.{kind_in_place}
use Rattle.semantic_kinds.proofs.kind.AstType.name.Goals as goal

pub returns : goal.returns
returns c =
    named_at kind_name all_kinds (λ (text : Bor (List ℕ)). text.now) c.names.result.now c.index.result _ c.args.self (ap (slice_get all_kinds) c.index.ensures ∙ kind_in_place c.args.self) c.names.ensures
