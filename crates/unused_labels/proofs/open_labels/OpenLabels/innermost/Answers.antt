use Rattle.std.proofs.Common.{ap, ◌∙◌}
use Rattle.std.specs.Str.{chars}
use Rattle.unused_labels.specs.OpenNames.{last_place}
use Rattle.unused_labels.specs.OpenPlaces.{label_names, places_of_map}
use Rattle.unused_labels.proofs.Places.{found}
use Rattle.unused_labels.proofs.open_labels.OpenLabels.innermost.Goals as goal

pub returns : goal.returns
returns c =
    c.copied.ensures
    ∙ c.get.ensures.value
    ∙ found c.self.inside.labels.items (places_of_map c.self.inside.innermost.entries) c.as_str-name.result c.self.invariant c.spell.ensures
    ∙ ap (λ name. last_place (chars name) (label_names c.self.inside.labels.items)) c.as_str-name.ensures
    ∙ ap (last_place (chars c.args.name.text.now)) c.self.view_is
