use Rattle.std.proofs.Common.{ap, ◌∙◌}
use Rattle.std.specs.Prelude.{find}
use Rattle.std.specs.Str.{bytes_eq}
use Rattle.semantic_kinds.specs.Roles.{role_name}
use Rattle.semantic_kinds.proofs.ByLength.{role_found}
use Rattle.semantic_kinds.proofs.role.Role.from_name.Goals as goal

pub returns : goal.returns
returns c =
    c.named_among.ensures ∙ ap (find (λ one. bytes_eq (role_name one) c.args.text.now)) c.roles_of_length.ensures ∙ role_found c.args.text.now
