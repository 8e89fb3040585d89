use Rattle.std.proofs.Common.{◌≡◌, ◌-◌, suc, string_bytes, arith}
use Rattle.std.specs.Str.{chars}
use Rattle.simple_names.proofs.ShortTexts.{further_turn}
use Rattle.simple_names.proofs.short_names.push_further.Goals as goal

pub loop-rest-preserved : goal.loop-rest-preserved
loop-rest-preserved c =
    let one : c.loop-rest.rest ≡ suc (c.loop-rest.rest - 1) = omega arith in
    further_turn c.loop-rest.rest (c.loop-rest.rest - 1) (chars (string_bytes c.loop-rest.name)) (chars (string_bytes c.push_character.new.name)) _ one c.in_ok-push_character.ensures c.loop-rest.invariant
