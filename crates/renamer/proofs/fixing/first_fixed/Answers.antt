use Rattle.std.proofs.Common.{ℕ, Bool, nat_eq, ap, ◌∙◌}
use Rattle.std.specs.HashSet.{contains as has_key}
use Rattle.semantic_tree.specs.Faults.{first_where}
use Rattle.semantic_tree.specs.Place.{placed_from}
use Rattle.semantic_syntax.specs.Members.{contains}
use Rattle.semantic_model.specs.Step.{steps}
use Rattle.semantic_model.specs.Exported.{exported_names}
use Rattle.rename_model.specs.Renamed.{bears_name}
use Rattle.renamer.specs.Fixing.{fixes_at}
use Rattle.renamer.specs.Told.{told_by}
use Rattle.renamer.proofs.FixedPlaces.{fixed_by_set}
use Rattle.renamer.proofs.fixing.first_fixed.Goals as goal

pub returns : goal.returns
returns c =
    let chosen : ℕ → Bool = bears_name (told_by c.args.analysed.now) c.args.symbol in
    let set : ℕ → Bool = has_key nat_eq c.in_ok-exported.exported in
    let root = c.node-root.ensures ∙ c.root.ensures.root in
    c.first_fixing.ensures
    ∙ (λ i. first_where (fixes_at set chosen) (placed_from (c.root-2.ensures i) (root i)))
    ∙ fixed_by_set (exported_names (steps c.args.program.now)) set chosen c.args.program.now (λ id. c.in_ok-exported.ensures id ∙ ap (λ ids. contains ids id) (c.as_slice.ensures.value ∙ c.in_ok-names.ensures))
