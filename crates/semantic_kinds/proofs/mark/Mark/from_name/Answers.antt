use Rattle.std.proofs.Common.{ap, ◌∙◌}
use Rattle.std.specs.Prelude.{find}
use Rattle.std.specs.Str.{bytes_eq}
use Rattle.semantic_kinds.specs.Marks.{mark_name}
use Rattle.semantic_kinds.proofs.ByLength.{mark_found}
use Rattle.semantic_kinds.proofs.mark.Mark.from_name.Goals as goal

pub returns : goal.returns
returns c =
    c.named_among.ensures ∙ ap (find (λ one. bytes_eq (mark_name one) c.args.text.now)) c.marks_of_length.ensures ∙ mark_found c.args.text.now
