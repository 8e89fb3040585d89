use Rattle.std.proofs.Common.{ℕ, ◌<◌, length, sym, ap, ◌∙◌}
use Rattle.std.specs.List.{AllByRecursion}
use Rattle.std.proofs.lemmas.List.{length-map}
use Rattle.scoping_rows.specs.Kept.{without_marked, is_unmarked}
use Rattle.scoping.proofs.Keeping.{every-filter, every-map}
use Rattle.scoping_rows.proofs.Rows.{rows}
use Rattle.scoping.proofs.Shown.{sound_uses}
use Rattle.scoping.proofs.scoping.Scoping.retain_resolved_references_excluding.Goals as goal

pub invariant_of-self : goal.invariant_of-self
invariant_of-self c =
    let a = c.self.inside in
    let sound = c.self.invariant in
    let known : ℕ → Type 0 = λ r. r < length a.references.items in
    let after = c.retain_unmarked_in_each.new.lists.items in
    sound_uses a sound _
    (sym (length-map after (λ v. v.items)) ∙ ap length c.retain_unmarked_in_each.ensures ∙ length-map (rows a.uses.items) (without_marked c.args.excluded.now) ∙ length-map a.uses.items (λ v. v.items))
    (rw c.retain_unmarked_in_each.ensures (every-map (AllByRecursion known) (AllByRecursion known) (without_marked c.args.excluded.now) (λ rs h. every-filter known (is_unmarked c.args.excluded.now) rs h) (rows a.uses.items) sound.uses))
