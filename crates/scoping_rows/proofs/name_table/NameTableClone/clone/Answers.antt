use Rattle.std.proofs.Common.{ap}
use Rattle.std.specs.Str.{chars}
use Rattle.std.specs.String.{string_bytes}
use Rattle.scoping_rows.proofs.Clones.{clones_shown}
use Rattle.scoping_rows.proofs.name_table.NameTableClone.clone.Goals as goal

pub returns : goal.returns
returns c = record { cases = rw (← c.self.view_is) (clones_shown _ (λ k. chars (string_bytes k)) (λ x y h. ap chars h) c.self.inside.texts.keys c.in_ok-clone.field-0.keys c.in_ok-clone.ensures.cases) }
