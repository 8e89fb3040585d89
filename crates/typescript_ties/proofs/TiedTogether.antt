-- References of a plainly declared name are tied to the first scope outward whose declarations together fit.
use Rattle.std.proofs.Common.{◌≡◌, ℕ, ◌<◌, List, [], ◌∷◌, Option, Some, None, Bool, true, false, cond, refl, sym, ap, subst, ◌∙◌, map, filter, option_map, length, arith}
use Rattle.std.proofs.lemmas.Option.{slice_get_within}
use Rattle.semantic_syntax.specs.Lookup.{lookup}
use Rattle.semantic_syntax.specs.Tables.{Name}
use Rattle.semantic_tree.specs.Faults.{first_fault}
use Rattle.semantic_tree.specs.Tree.{Tree}
use Rattle.semantic_model.specs.Binding.{get}
use Rattle.semantic_model.specs.Event.{events}
use Rattle.semantic_model.specs.Fold.{State, start}
use Rattle.semantic_model.specs.Hoist.{run}
use Rattle.semantic_model.specs.Place.{OpenScope}
use Rattle.semantic_model.specs.Reference.{references}
use Rattle.semantic_model.specs.Step.{steps}
use Rattle.semantic_model.specs.TablesOf.{tables_of, scopes, evals, made_of}
use Rattle.semantic_model.specs.Tie.{seen_as, symbol_by}
use Rattle.semantic_model.proofs.fits.Outwards.{bound_as, flags_at, scopes_length, reference_chain}
use Rattle.semantic_model.proofs.fold.BodyChains.{AllInTable}
use Rattle.semantic_model.proofs.fold.Changes.{sound_start}
use Rattle.semantic_model.proofs.fold.Orders.{table_of, orderly_events}
use Rattle.semantic_model.proofs.form.Shape.{has_form}
use Rattle.semantic_model.proofs.lists.Members.{among_at}
use Rattle.binding_laws.specs.SeenDeclarations.{bound_by_all, bound_before_body, seen_with_flags, bound_in_end, asked_of}
use Rattle.binding_laws.proofs.TiedOutward.{ties_are_outward}
use Rattle.typescript_ties.specs.SeenTogether.{IsPlainlyDeclared, is_in_scope, bound_together, asked_together, AreTiedTogether}
use Rattle.typescript_ties.proofs.PlainFold.{PlainState, plain_in_end}

module _ (p : Tree) (h : first_fault p ≡ None) (x : Name) (plainly : IsPlainlyDeclared p x) where
  abbrev final : State
  final = run start (events (steps p))

  pub in_end : PlainState x final
  in_end = plain_in_end (table_of p) x (events (steps p)) (orderly_events p (has_form p h)) (sound_start (table_of p)) plainly

  pub end_together : (c : ℕ) → c < length (scopes (steps p)) → bound_in_end p c x ≡ bound_by_all (filter (is_in_scope c x) (made_of p))
  end_together c l = ap (option_map (seen_with_flags (tables_of p))) (bound_as p c x l) ∙ by (get final.bindings c x) ∙ in_end.counted c
    where
      by : (o : Option ℕ) → option_map (seen_with_flags (tables_of p)) o ≡ seen_as final o
      by None = refl
      by (Some s) = ap (λ flags. Some (record { symbol = s; flags = flags })) (flags_at final.symbols s)

  asked_same : (s : OpenScope) (b : Bool) → s.in_header ≡ b → s.number < length (scopes (steps p)) → cond b (bound_before_body p s.number x) (bound_in_end p s.number x) ≡ bound_together p x s
  asked_same s true e l = rw e refl
  asked_same s false e l = rw e (end_together s.number l)

  all_together : (chain : List OpenScope) → AllInTable (table_of p) chain → map (asked_of p x) chain ≡ map (asked_together p x) chain
  all_together [] t = refl
  all_together (s ∷ ss) t =
      let below : s.number < length (scopes (steps p)) = omega (arith, slice_get_within (table_of p) s.number s.body t.0.entry, scopes_length (evals (steps p)) (steps p)) in
      let first : asked_of p x s ≡ asked_together p x s = ap (λ o. record { scope = s.number; flags = s.flags; bound = o }) (asked_same s s.in_header refl below) in
      let rest : map (asked_of p x) ss ≡ map (asked_together p x) ss = all_together ss t.1 in
      (λ i. first i ∷ rest i)

  pub tied_together : AreTiedTogether p x
  tied_together n r e a b q =
      ties_are_outward p h n r e a b
      ∙ subst (λ y. symbol_by (lookup y r.way (map (asked_of p y) r.chain)) ≡ symbol_by (lookup x r.way (map (asked_together p x) r.chain))) (sym q)
      (ap (λ asks. symbol_by (lookup x r.way asks)) (all_together r.chain (reference_chain p r (has_form p h) (among_at (references (steps p)) n r a))))
