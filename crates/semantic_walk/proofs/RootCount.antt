-- What the walk over a whole program asks.
use Rattle.std.proofs.Common.{◌≡◌, ℕ, ◌+◌, ◌≤◌, List, Some, None, refl, sym, ap, ◌∙◌, arith}
use Rattle.semantic_syntax.specs.Counts.{raised}
use Rattle.semantic_kinds.specs.declared.kind.AstType.TheVariants as kind
use Rattle.semantic_tree.specs.Faults.{first_fault}
use Rattle.semantic_tree.specs.Tree.{Tree}
use Rattle.semantic_model.specs.Place.{Place}
use Rattle.semantic_model.specs.Cursor.{on_entering}
use Rattle.semantic_model.specs.Declaration.{Declaration}
use Rattle.semantic_model.specs.Event.{written_declarations}
use Rattle.semantic_model.specs.Step.{Step, entering, steps_below, root_place, steps}
use Rattle.walk_model.specs.Opens.{open_scope}
use Rattle.walk_model.specs.WalkState.{WalkState, nothing_made}
use Rattle.walk_model.specs.Walks.{after, after_all}
use Rattle.walk_model.proofs.turns.RootSteps.{root_enters, root_scope, root_made}
use Rattle.walk_model.proofs.turns.Seats.{root_is_program}
use Rattle.walk_model.specs.Probes.{probes, probes_of_steps, probes_in_end}
use Rattle.walk_model.proofs.asking.StepSums.{raised_then, raised_more}
use Rattle.walk_model.proofs.asking.TurnCosts.{root_asks}
use Rattle.semantic_walk.specs.AtPlace.{entered, probes_over}
use Rattle.semantic_walk.specs.Begun.{IsBegun}
use Rattle.semantic_walk.specs.Walker.{Walker}
use Rattle.semantic_walk.specs.declared.settings.Settings.{Settings}
use Rattle.semantic_walk.proofs.Beginning.{root_within}

-- with the root's scope nothing is declared, and entering the root does nothing
root_first : (ds : List Declaration) (p : Place) → p.node.kind ≡ kind.Program → after ds (open_scope nothing_made p (root_scope p)) (entering p) ≡ root_made ds p
root_first ds p e = root_enters ds (open_scope nothing_made p (root_scope p)) p e ∙ sym opened
  where
    opened : root_made ds p ≡ open_scope nothing_made p (root_scope p)
    opened = rw e refl

-- what the steps below the root ask
abbrev pub root_over_asks : Tree → Walker → ℕ
root_over_asks program w = probes_over (written_declarations (steps program)) w (root_place program) (Some (root_scope (root_place program))) 1

module _ (program : Tree) (fits : first_fault program ≡ None) (settings : Settings) (w : Walker) (b : IsBegun settings w program) where
  -- with what is asked in the end it is what the look-ups ask
  root_asked : (v : Walker) → v ≡ root_within program w → root_over_asks program w + probes_in_end v.made ≡ probes program
  root_asked v is =
      let ds : List Declaration = written_declarations (steps program) in
      let p : Place = root_place program in
      let below : List Step = steps_below p (Some (root_scope p)) 1 (on_entering program.root.kind 0) program.root.children in
      let first : entered ds w p ≡ root_made ds p = ap (λ (u : Walker). entered ds u p) b.first ∙ root_first ds p (root_is_program program fits) in
      let made : v.made ≡ after_all ds (root_made ds p) below = ap (λ (u : Walker). u.made) is ∙ ap (λ (m : WalkState). after_all ds m below) first in
      (λ i. probes_of_steps ds (first i) below + probes_in_end (made i)) ∙ root_asks program fits

  pub root_counts : (v : Walker) (now later last : ℕ) → v ≡ root_within program w → later ≡ raised now (root_over_asks program w) → last ≡ raised later (probes_in_end v.made) → last ≡ raised now (probes program)
  root_counts v now later last is c d =
      d ∙ ap (λ m. raised m (probes_in_end v.made)) c ∙ raised_then now (root_over_asks program w) (probes_in_end v.made) ∙ ap (raised now) (root_asked v is)

  -- if the walk gives up, or the settling in the end, no more is asked
  pub root_given_up : (now last : ℕ) → last ≤ raised now (root_over_asks program w) → last ≤ raised now (probes program)
  root_given_up now last d =
      let more : raised now (root_over_asks program w) ≤ raised now (probes program) = raised_more now (root_over_asks program w) (probes program) (omega (arith, root_asked (root_within program w) refl)) in
      omega (arith, d, more)

  pub end_given_up : (v : Walker) (now later last : ℕ) → v ≡ root_within program w → later ≡ raised now (root_over_asks program w) → last ≤ raised later (probes_in_end v.made) → last ≤ raised now (probes program)
  end_given_up v now later last is c d =
      omega (arith, d, root_counts v now later (raised later (probes_in_end v.made)) is c refl)
