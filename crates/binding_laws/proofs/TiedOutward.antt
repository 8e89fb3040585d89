-- Each reference is tied as the declarations round it tell.
use Rattle.std.proofs.Common.{◌≡◌, ℕ, ◌<◌, List, [], ◌∷◌, Option, Some, None, Bool, true, false, cond, inl, inr, refl, sym, ap, ◌∙◌, map, option_map, length, arith}
use Rattle.std.proofs.lemmas.Option.{slice_get_within}
use Rattle.semantic_syntax.specs.Lookup.{Seen, lookup}
use Rattle.semantic_syntax.specs.Tables.{Name}
use Rattle.semantic_tree.specs.Faults.{first_fault}
use Rattle.semantic_tree.specs.Tree.{Tree}
use Rattle.semantic_model.specs.Binding.{get}
use Rattle.semantic_model.specs.Entries.{Among}
use Rattle.semantic_model.specs.Event.{Event, events}
use Rattle.semantic_model.specs.Fold.{State, start}
use Rattle.semantic_model.specs.Hoist.{run}
use Rattle.semantic_model.specs.Place.{OpenScope}
use Rattle.semantic_model.specs.Reference.{references}
use Rattle.semantic_model.specs.Step.{steps}
use Rattle.semantic_model.specs.TablesOf.{tables_of, scopes, evals}
use Rattle.semantic_model.specs.Tie.{seen_as, answer, view_by, symbol_by}
use Rattle.semantic_model.proofs.fits.Outwards.{bound_as, flags_at, scopes_length, reference_chain}
use Rattle.semantic_model.proofs.fold.BodyChains.{AllInTable}
use Rattle.semantic_model.proofs.fold.Changes.{sound_start}
use Rattle.semantic_model.proofs.fold.Orders.{table_of, orderly_events}
use Rattle.semantic_model.proofs.form.Shape.{has_form}
use Rattle.semantic_model.proofs.lists.Growth.{start_is_sound}
use Rattle.semantic_model.proofs.lists.Members.{among_at}
use Rattle.semantic_model.proofs.once.ReferencesStand.{entry_is}
use Rattle.binding_laws.specs.SeenDeclarations.{bound_by_all, bound_before_body, seen_with_flags, bound_in_end, asked_of, TiesAreOutward}
use Rattle.binding_laws.proofs.CutSteps.{WillAwait, cut_program, header_awaits}
use Rattle.binding_laws.proofs.HeaderFold.{IsCutAt, cut_at, header_start}

module _ (p : Tree) where
  abbrev es : List Event
  es = events (steps p)

  abbrev final : State
  final = run start es

  -- what a scope answers, by its state
  abbrev answered : Bool → ℕ → Name → Option Seen
  answered b c x = let st : State = view_by b final es c in seen_as st (get st.bindings c x)

  header_answer : first_fault p ≡ None → (c : ℕ) (x : Name) → WillAwait c [] (steps p) → answered true c x ≡ bound_before_body p c x
  header_answer h c x w =
      let k : IsCutAt c start es = cut_at c (table_of p) start (cut_program p c h w) (orderly_events p (has_form p h)) (sound_start (table_of p)) start_is_sound (header_start c) in
      k.header.bound x ∙ ap bound_by_all (sym (k.same x))

  end_answer : (c : ℕ) (x : Name) → c < length (scopes (steps p)) → answered false c x ≡ bound_in_end p c x
  end_answer c x l = by (get final.bindings c x) ∙ ap (option_map (seen_with_flags (tables_of p))) (sym (bound_as p c x l))
    where
      by : (o : Option ℕ) → seen_as final o ≡ option_map (seen_with_flags (tables_of p)) o
      by None = refl
      by (Some s) = ap (λ flags. Some (record { symbol = s; flags = flags })) (sym (flags_at final.symbols s))

  asked_by : (x : Name) (s : OpenScope) (b : Bool) → first_fault p ≡ None → s.number < length (scopes (steps p)) → (b ≡ true → WillAwait s.number [] (steps p)) → answered b s.number x ≡ cond b (bound_before_body p s.number x) (bound_in_end p s.number x)
  asked_by x s true h l w = header_answer h s.number x (w refl)
  asked_by x s false h l w = end_answer s.number x l

  all_asked : (x : Name) (chain : List OpenScope) → first_fault p ≡ None → AllInTable (table_of p) chain → ((s : OpenScope) → Among s chain → s.in_header ≡ true → WillAwait s.number [] (steps p)) → map (answer final es x) chain ≡ map (asked_of p x) chain
  all_asked x [] h t w = refl
  all_asked x (s ∷ ss) h t w =
      let below : s.number < length (scopes (steps p)) = omega (arith, slice_get_within (table_of p) s.number s.body t.0.entry, scopes_length (evals (steps p)) (steps p)) in
      let first : answer final es x s ≡ asked_of p x s = ap (λ o. record { scope = s.number; flags = s.flags; bound = o }) (asked_by x s s.in_header h below (w s (inl refl))) in
      let rest : map (answer final es x) ss ≡ map (asked_of p x) ss = all_asked x ss h t.1 (λ o a. w o (inr a)) in
      (λ i. first i ∷ rest i)

  pub ties_are_outward : first_fault p ≡ None → TiesAreOutward p
  ties_are_outward h n r e a b =
      let among : Among r (references (steps p)) = among_at (references (steps p)) n r a in
      sym (entry_is p n r e a b)
      ∙ ap (λ asks. symbol_by (lookup r.name r.way asks)) (all_asked r.name r.chain h (reference_chain p r (has_form p h) among) (λ s q i. header_awaits p r s h among q i))
