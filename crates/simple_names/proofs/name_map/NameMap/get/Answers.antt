use Rattle.std.proofs.Common.{List, ℕ, Some, ap, ◌∙◌}
use Rattle.std.specs.Option.{option_map}
use Rattle.std.specs.Str.{chars}
use Rattle.simple_names.proofs.MapTexts.{found_new, text_of}
use Rattle.simple_names.proofs.name_map.NameMap.get.Goals as goal

pub returns-in-Some : goal.returns-in-Some
returns-in-Some c =
    rw (← c.self.view_is) (ap (λ (bytes : List ℕ). Some (chars bytes)) c.as_str.ensures.value ∙ ap (option_map text_of) c.in-Some.ensures.value ∙ found_new c.self.inside.names.entries c.args.name.now c.utf8.name)

pub returns-in-None : goal.returns-in-None
returns-in-None c = rw (← c.self.view_is) (ap (option_map text_of) c.in-None.ensures.value ∙ found_new c.self.inside.names.entries c.args.name.now c.utf8.name)
