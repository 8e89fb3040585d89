use Rattle.std.proofs.Common.{◌≡◌, [], ◌∷◌, ◌++◌, length, arith, rules}
use Rattle.unused_labels.specs.declared.open_labels.OpenLabel.{OpenLabel}
use Rattle.unused_labels.specs.OpenPlaces.{nowhere, places_of_map}
use Rattle.unused_labels.proofs.Places.{pushed}
use Rattle.unused_labels.proofs.open_labels.OpenLabels.push.Goals as goal

pub invariant_of-self-2 : goal.invariant_of-self-2
invariant_of-self-2 c =
    let was = c.self.inside.labels.items in
    let label : OpenLabel = record { name = c.as_str-name.result; outer = c.in_ok-outer.outer } in
    let now : c.push.new.self.items ≡ was ++ label ∷ [] = search rules in
    let place : c.len.result ≡ length was = search rules in
    rw now
    (pushed nowhere 0 c.len.result was (places_of_map c.self.inside.innermost.entries) (places_of_map c.insert.new.self.entries) label c.self.invariant (omega (arith, place)) c.spell.ensures c.in_ok-outer.ensures.old c.in_ok-outer.ensures.updates.0)
