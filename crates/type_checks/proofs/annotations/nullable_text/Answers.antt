use Rattle.std.proofs.Common.{codes, refl, ap, ◌∙◌}
use Rattle.std.specs.Str.{chars}
use Rattle.type_checks.proofs.Suggestions.{chars_before}
use Rattle.type_checks.proofs.annotations.nullable_text.Goals as goal

pub returns : goal.returns
returns c = ap chars c.in_ok-made.ensures.ok ∙ chars_before c.args.text.now (codes " | null | undefined") c.utf8.text refl
