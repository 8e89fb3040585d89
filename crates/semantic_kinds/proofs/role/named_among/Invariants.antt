use Rattle.std.proofs.Common.{◌≡◌, drop}
use Rattle.std.specs.Prelude.{find}
use Rattle.std.specs.Str.{bytes_eq}
use Rattle.semantic_kinds.specs.Roles.{role_name}
use Rattle.semantic_kinds.proofs.role.named_among.Given as goal

-- among those that are left the first of the name is the first of all
abbrev pub invariant-loop-one : goal.invariant-loop-one
invariant-loop-one l =
    find (λ one. bytes_eq (role_name one) l.text) (drop l.one-index l.roles) ≡ find (λ one. bytes_eq (role_name one) l.text) l.roles
