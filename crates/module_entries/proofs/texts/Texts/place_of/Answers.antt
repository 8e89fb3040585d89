use Rattle.std.proofs.Common.{List, ℕ, subst, map, Some, slice_get, ◌≡◌}
use Rattle.std.specs.Str.{chars}
use Rattle.tree_json.specs.Views.{characters}
use Rattle.link_targets.specs.Denoted.{Grows}
use Rattle.module_entries.proofs.Interning.{interned_grows, interned_more, interned_number}
use Rattle.module_entries.proofs.texts.Texts.place_of.Goals as goal

pub invariant_of-self-2 : goal.invariant_of-self-2
invariant_of-self-2 c = interned_more c.self.inside.set.keys c.insert_full.new.self.keys c.args.text c.in_ok-place.ensures.keys c.self.invariant c.spell.ensures

pub returns-clause-grows : goal.returns-clause-grows
returns-clause-grows c =
    subst (λ (old : List (List ℕ)). Grows old (map characters c.insert_full.new.self.keys)) c.self.view_is
    (interned_grows c.self.inside.set.keys c.insert_full.new.self.keys c.args.text c.in_ok-place.ensures.keys c.self.invariant c.spell.ensures)

pub returns-clause-place : goal.returns-clause-place
returns-clause-place c =
    let stored = c.in_ok-place.ensures.stored in
    interned_number c.insert_full.new.self.keys c.in_ok-place.place stored.0 c.args.text stored.1 stored.2
