use Rattle.std.proofs.Common.{Bor, List, ℕ}
use Rattle.semantic_kinds.specs.Roles.{all_roles, role_name}
use Rattle.semantic_kinds.proofs.Named.{named_at}
use Rattle.semantic_kinds.proofs.RoleNames.{role_in_place}
use Rattle.semantic_kinds.proofs.role.Role.name.Goals as goal

pub returns : goal.returns
returns c =
    named_at role_name all_roles (λ (text : Bor (List ℕ)). text.now) c.names.result.now _ _ c.args.self (role_in_place c.args.self) c.names.ensures
