use Rattle.std.proofs.Common.{Bor, List, ℕ}
use Rattle.semantic_kinds.specs.Marks.{all_marks, mark_name}
use Rattle.semantic_kinds.proofs.Named.{named_at}
use Rattle.semantic_kinds.proofs.MarkNames.{mark_in_place}
use Rattle.semantic_kinds.proofs.mark.Mark.name.Goals as goal

pub returns : goal.returns
returns c =
    named_at mark_name all_marks (λ (text : Bor (List ℕ)). text.now) c.names.result.now _ _ c.args.self (mark_in_place c.args.self) c.names.ensures
