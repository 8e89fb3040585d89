use Rattle.std.proofs.Common.{◌≡◌, drop}
use Rattle.std.specs.Prelude.{find}
use Rattle.std.specs.Str.{bytes_eq}
use Rattle.semantic_kinds.specs.Kinds.{kind_name}
use Rattle.semantic_kinds.proofs.kind.named_among.Given as goal

-- among those that are left the first of the name is the first of all
abbrev pub invariant-loop-one : goal.invariant-loop-one
invariant-loop-one l =
    find (λ one. bytes_eq (kind_name one) l.text) (drop l.one-index l.kinds) ≡ find (λ one. bytes_eq (kind_name one) l.text) l.kinds
