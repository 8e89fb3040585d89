use Rattle.std.proofs.Common.{◌≡◌, ℕ, Bool, List, ◌++◌, nat_eq, ap, sym, ◌∙◌}
use Rattle.std.specs.HashSet.{contains as has_key}
use Rattle.std.specs.List.{list_any}
use Rattle.semantic_syntax.specs.Members.{contains}
use Rattle.semantic_model.specs.Exported.{exported_names}
use Rattle.semantic_model.specs.Step.{steps}
use Rattle.rename_model.specs.Renamed.{bears_name}
use Rattle.renamer.specs.Told.{told_by}
use Rattle.mangler.specs.Spots.{seen_from}
use Rattle.mangler.proofs.SeenSets.{if_ok}
use Rattle.mangler.proofs.SeenSteps.{fixed_in_tree}
use Rattle.mangler.proofs.seen.fixed_symbols.Goals as goal

pub returns : goal.returns
returns c =
    let exported : List ℕ = exported_names (steps c.args.program.now) in
    let set : ℕ → Bool = has_key nat_eq c.in_ok-exported.exported in
    let sets : set ≡ contains exported = λ i id. (c.in_ok-exported.ensures id ∙ ap (λ ids. contains ids id) (c.as_slice.ensures.value ∙ c.in_ok-names.ensures)) i in
    let root : c.node-root.result.now ≡ c.args.program.now.root = c.node-root.ensures ∙ c.root.ensures.root in
    if_ok c.symbols_of.result (λ found h s.
    h s
    ∙ ap (list_any (bears_name (told_by c.args.analysed.now) s)) (c.as_slice-2.ensures.value ∙ c.in_ok-push_seen.ensures ∙ (λ i. c.new-nodes.ensures.items i ++ seen_from (sets i) c.root-2.result (root i)))
    ∙ sym (fixed_in_tree exported (bears_name (told_by c.args.analysed.now) s) c.args.program.now c.root-2.result c.root-2.ensures)) c.symbols_of.ensures
