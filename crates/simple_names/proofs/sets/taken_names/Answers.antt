use Rattle.std.proofs.Common.{[], refl, ap, ◌∙◌, ◌||◌}
use Rattle.mangle_model.specs.GoodNames.{is_free_name}
use Rattle.mangle_names.specs.Marks.{is_number_marked}
use Rattle.simple_names.proofs.TakenSets.{all_kept}
use Rattle.simple_names.proofs.sets.taken_names.Goals as goal

pub returns : goal.returns
returns c = record {
  barred = c.in_ok-barred.ensures;
  tabled = λ q. c.in_ok-tabled.ensures q ∙ ap (λ b. is_free_name c.args.known.now.scoping.now q || b) (all_kept (is_number_marked []) (λ s. refl) q 0 c.args.known.now.scoping.now.symbols);
  standing = c.in_ok-standing.ensures;
}
