use Rattle.std.proofs.Common.{ap, ◌∙◌}
use Rattle.std.specs.Prelude.{find}
use Rattle.std.specs.Str.{bytes_eq}
use Rattle.semantic_kinds.specs.Kinds.{kind_name}
use Rattle.semantic_kinds.proofs.ByLength.{kind_found}
use Rattle.semantic_kinds.proofs.kind.AstType.from_name.Goals as goal

pub returns : goal.returns
returns c =
    c.named_among.ensures ∙ ap (find (λ one. bytes_eq (kind_name one) c.args.text.now)) c.kinds_of_length.ensures ∙ kind_found c.args.text.now
