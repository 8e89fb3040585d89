-- Where no function moves out of a block, the declarations of the renamed program go the same ways, and share flags as those of the program do.
use Rattle.std.proofs.Common.{◌≡◌, ℕ, List, [], ◌∷◌, ◌++◌, Ok, Some, None, inl, inr, refl, sym, ap, subst, subst₂, ◌∙◌, flat_map}
use Rattle.std.specs.Prelude.{slice_get}
use Rattle.semantic_syntax.specs.Members.{contains}
use Rattle.semantic_syntax.specs.Sets.{union}
use Rattle.semantic_syntax.specs.Tables.{Symbol, Name}
use Rattle.semantic_kinds.specs.declared.mark.Mark.TheVariants as mark
use Rattle.semantic_kinds.specs.declared.marks.Marks.{Marks}
use Rattle.semantic_tree.specs.Faults.{first_fault}
use Rattle.semantic_tree.specs.Tree.{Tree, IsNumbered}
use Rattle.semantic_tree.specs.declared.node.Node.{Node}
use Rattle.semantic_model.specs.Analysis.{analysis_of}
use Rattle.semantic_model.specs.Binder.{declared_on_entering, declared_on_opening}
use Rattle.semantic_model.specs.Declaration.{How, plain, hoisted, moved, caught, Declaration, path}
use Rattle.semantic_model.specs.Entries.{Among}
use Rattle.semantic_model.specs.Event.{Event, declares, takes_over, ends_header, declared_at, placed_by, taken_over, declares_all, events_of, events, written_declarations}
use Rattle.semantic_model.specs.Exported.{exported_names}
use Rattle.semantic_model.specs.Fold.{Made, State, start}
use Rattle.semantic_model.specs.Hoist.{act, run}
use Rattle.semantic_model.specs.NamespaceStates.{state_at, namespace_states}
use Rattle.semantic_model.specs.Step.{Step, entering, opening, header_ending, closing, leaving, steps}
use Rattle.semantic_model.specs.TablesOf.{tables_of, numbers, made_of}
use Rattle.semantic_model.proofs.lists.Members.{among_left, among_right}
use Rattle.semantic_model.proofs.swapped.AlikeBinder.{renamed_declaration}
use Rattle.program_laws.specs.ReadMarks.{KeepsRead}
use Rattle.program_laws.specs.SameAnalysis.{HaveSameAnalysis}
use Rattle.program_laws.proofs.DeclarationMarks as marked
use Rattle.program_laws.proofs.StepMarks.{remarked_step, remarked_steps, steps_same}
use Rattle.program_laws.proofs.TableMarks.{same_unmarked}
use Rattle.rename_model.specs.Refusal.{first_fixed, rename}
use Rattle.rename_model.specs.Renamed.{bears_name}
use Rattle.rename_model.specs.Same.{Same}
use Rattle.rename_model.specs.WithName.{sheds}
use Rattle.rename_model.proofs.Refusals.{ends_renamed, none_means_free}
use Rattle.renaming_laws.specs.InBlocks.{ShareFlags, NoneMoves}
use Rattle.renaming_laws.proofs.KeptConflicts.{q, unmarked, shed, keeps_read, walked, same_made, twin_events}
use Rattle.renaming_laws.proofs.KeptSymbols.{head_is}
use Rattle.renaming_laws.proofs.Looks.{gets, made_by}
use Rattle.renaming_laws.proofs.SameConflicts.{symbols_in}
use Rattle.renaming_laws.proofs.SameSymbols.{same_symbols}
use Rattle.renaming_laws.proofs.Twins.{nameless, unnamed_all, TwinStep, TwinSteps, TwinEvents, declared_twins, inside_twins, taken_twins, first_states}

-- ---- declarations that differ in their names alone

abbrev Whole : Declaration → Declaration → Type 0
Whole d e = renamed_declaration nameless d ≡ renamed_declaration nameless e

abbrev WholeEvent : Event → Event → Type 0
WholeEvent (declares d) (declares e) = Whole d e
WholeEvent (takes_over c b) (takes_over c' b') = Unit {0}
WholeEvent (ends_header c) (ends_header c') = Unit {0}
WholeEvent _ _ = ⊥

abbrev WholeEvents : List Event → List Event → Type 0
WholeEvents [] [] = Unit {0}
WholeEvents (x ∷ xs) (y ∷ ys) = WholeEvent x y × WholeEvents xs ys
WholeEvents _ _ = ⊥

whole_append : (xs ys us vs : List Event) → WholeEvents xs ys → WholeEvents us vs → WholeEvents (xs ++ us) (ys ++ vs)
whole_append [] [] us vs h i = i
whole_append [] (y ∷ ys) us vs h i = absurd h
whole_append (x ∷ xs) [] us vs h i = absurd h
whole_append (x ∷ xs) (y ∷ ys) us vs h i = (h.0, whole_append xs ys us vs h.1 i)

-- what doesn't move is where it is written
stays : (how : How) (ds : List Declaration) (d : Declaration) → (how ≡ moved → ⊥) → placed_by how ds d ≡ d
stays plain ds d h = refl
stays hoisted ds d h = refl
stays caught ds d h = refl
stays moved ds d h = absurd (h refl)

abbrev NoneAmong : List Declaration → Type 0
NoneAmong ds = (d : Declaration) → Among d ds → d.how ≡ moved → ⊥

all_whole : (ds es new old : List Declaration) → unnamed_all new ≡ unnamed_all old → NoneAmong new → WholeEvents (declares_all ds new) (declares_all es old)
all_whole ds es [] [] h none = tt
all_whole ds es [] (e ∷ old) h none = absurd cc
all_whole ds es (d ∷ new) [] h none = absurd cc
all_whole ds es (d ∷ new) (e ∷ old) h none =
    let first : Whole d e = first_is d e new old h in
    let how : d.how ≡ e.how = ap (λ (x : Declaration). x.how) first in (
      subst₂ Whole (sym (stays d.how ds d (none d (inl refl)))) (sym (stays e.how es e (λ i. none d (inl refl) (how ∙ i)))) first,
      all_whole ds es new old (rest_is d e new old h) (λ x a. none x (inr a)),
    )
  where
    first_is : (d e : Declaration) (new old : List Declaration) → unnamed_all (d ∷ new) ≡ unnamed_all (e ∷ old) → Whole d e
    first_is d e new old k = cc

    rest_is : (d e : Declaration) (new old : List Declaration) → unnamed_all (d ∷ new) ≡ unnamed_all (e ∷ old) → unnamed_all new ≡ unnamed_all old
    rest_is d e new old k = cc

self_whole : (es : List Event) → WholeEvents es es
self_whole [] = tt
self_whole (declares d ∷ es) = (refl, self_whole es)
self_whole (takes_over c b ∷ es) = (tt, self_whole es)
self_whole (ends_header c ∷ es) = (tt, self_whole es)

step_whole : (ds es : List Declaration) (x y : Step) → TwinStep nameless x y → state_at x ≡ state_at y → NoneAmong (declared_at x) → WholeEvents (events_of ds x) (events_of es y)
step_whole ds es (entering x) (entering y) w e none = all_whole ds es (declared_on_entering x) (declared_on_entering y) (declared_twins nameless x y w e) none
step_whole ds es (opening x s) (opening y t) w e none =
    subst (λ o. WholeEvents (events_of ds (opening x s)) (events_of es (opening y o))) (sym w.1)
    (whole_append (taken_over x s) (taken_over y s) (declares_all ds (declared_on_opening x s)) (declares_all es (declared_on_opening y s))
    (subst (WholeEvents (taken_over x s)) (taken_twins nameless x y s w.0) (self_whole (taken_over x s)))
    (all_whole ds es (declared_on_opening x s) (declared_on_opening y s) (inside_twins nameless x y s w.0) none))
step_whole ds es (header_ending x s) (header_ending y t) w e none = (tt, tt)
step_whole ds es (closing x s) (closing y t) w e none = tt
step_whole ds es (leaving x) (leaving y) w e none = tt
step_whole ds es _ _ w e none = absurd w

steps_whole : (ds es : List Declaration) (xs ys : List Step) → TwinSteps nameless xs ys → namespace_states xs ≡ namespace_states ys → NoneAmong (written_declarations xs) → WholeEvents (flat_map (events_of ds) xs) (flat_map (events_of es) ys)
steps_whole ds es [] [] w e none = tt
steps_whole ds es [] (y ∷ ys) w e none = absurd w
steps_whole ds es (x ∷ xs) [] w e none = absurd w
steps_whole ds es (x ∷ xs) (y ∷ ys) w e none =
    let (here, later) = first_states x y xs ys w.0 e in
    whole_append (events_of ds x) (events_of es y) (flat_map (events_of ds) xs) (flat_map (events_of es) ys)
    (step_whole ds es x y w.0 here (λ d a. none d (among_left d (declared_at x) (written_declarations xs) a)))
    (steps_whole ds es xs ys w.1 later (λ d a. none d (among_right d (declared_at x) (written_declarations xs) a)))

-- ---- what is made

abbrev WholePairs : List Made → List Made → Type 0
WholePairs [] [] = Unit {0}
WholePairs (m ∷ ms) (n ∷ ns) = Whole m.declaration n.declaration × WholePairs ms ns
WholePairs _ _ = ⊥

pairs_more : (ms ns : List Made) (m n : Made) → WholePairs ms ns → Whole m.declaration n.declaration → WholePairs (ms ++ m ∷ []) (ns ++ n ∷ [])
pairs_more [] [] m n h e = (e, tt)
pairs_more [] (y ∷ ns) m n h e = absurd h
pairs_more (x ∷ ms) [] m n h e = absurd h
pairs_more (x ∷ ms) (y ∷ ns) m n h e = (h.0, pairs_more ms ns m n h.1 e)

pairs_run : (es fs : List Event) (st sw : State) → WholeEvents es fs → WholePairs st.made sw.made → WholePairs (run st es).made (run sw fs).made
pairs_run [] [] st sw t h = h
pairs_run [] (y ∷ fs) st sw t h = absurd t
pairs_run (x ∷ es) [] st sw t h = absurd t
pairs_run (declares d ∷ es) (declares e ∷ fs) st sw t h =
    pairs_run es fs (act st (declares d)) (act sw (declares e)) t.1
    (subst₂ WholePairs (sym (made_by d.how st d)) (sym (made_by e.how sw e))
    (pairs_more st.made sw.made (record { declaration = d; symbol = gets d.how st d }) (record { declaration = e; symbol = gets e.how sw e }) h t.0))
pairs_run (takes_over c b ∷ es) (takes_over c' b' ∷ fs) st sw t h = pairs_run es fs (act st (takes_over c b)) (act sw (takes_over c' b')) t.1 h
pairs_run (ends_header c ∷ es) (ends_header c' ∷ fs) st sw t h = pairs_run es fs st sw t.1 h
pairs_run (_ ∷ es) (_ ∷ fs) st sw t h = absurd t.0

-- the declaration of the program at the place of one of the renamed program
record Before (n : Made) (ms : List Made) : Type 0 where
  made : Made
  among : Among made ms
  symbol : made.symbol ≡ n.symbol
  whole : Whole made.declaration n.declaration

before : (ms ns : List Made) (n : Made) → WholePairs ms ns → symbols_in ms ≡ symbols_in ns → Among n ns → Before n ms
before [] [] n h e a = absurd a
before [] (y ∷ ns) n h e a = absurd h
before (x ∷ ms) [] n h e a = absurd a
before (x ∷ ms) (y ∷ ns) n h e (inl w) =
    let (first, rest) = head_is x.symbol y.symbol (symbols_in ms) (symbols_in ns) e in
    record { made = x; among = inl refl; symbol = first ∙ ap (λ (m : Made). m.symbol) w; whole = h.0 ∙ ap (λ (m : Made). renamed_declaration nameless m.declaration) w }
before (x ∷ ms) (y ∷ ns) n h e (inr a) =
    let (first, rest) = head_is x.symbol y.symbol (symbols_in ms) (symbols_in ns) e in
    let w : Before n ms = before ms ns n h.1 rest a in
    record { made = w.made; among = inr w.among; symbol = w.symbol; whole = w.whole }

share_on : (ms ns : List Made) → WholePairs ms ns → symbols_in ms ≡ symbols_in ns → ShareFlags ms → ShareFlags ns
share_on ms ns h e share m k c a b same hoists passes stands =
    let u : Before m ms = before ms ns m h e a in
    let v : Before k ms = before ms ns k h e b in
    let flags_m : u.made.declaration.naming.flags ≡ m.declaration.naming.flags = ap (λ (d : Declaration). d.naming.flags) u.whole in
    let flags_k : v.made.declaration.naming.flags ≡ k.declaration.naming.flags = ap (λ (d : Declaration). d.naming.flags) v.whole in
    subst₂ (λ x y. union y x ≡ y) flags_m flags_k
    (share u.made v.made c u.among v.among (u.symbol ∙ same ∙ sym v.symbol) (ap (λ (d : Declaration). d.how) u.whole ∙ hoists)
    (ap (λ (d : Declaration). contains (numbers d.route.passed) c) u.whole ∙ passes) (ap (λ (d : Declaration). contains (path d) c) v.whole ∙ stands))

-- ---- the program

module _ (f : Node → Marks) (reads : KeepsRead f) where
  declared_marked : (t : Step) → declared_at (remarked_step f t) ≡ declared_at t
  declared_marked (entering p) = marked.declared_same f reads p.node.kind p
  declared_marked (opening p s) = marked.inside_same f reads p.node.kind p s
  declared_marked (header_ending p s) = refl
  declared_marked (closing p s) = refl
  declared_marked (leaving p) = refl

  written_marked : (ss : List Step) → written_declarations (remarked_steps f ss) ≡ written_declarations ss
  written_marked [] = refl
  written_marked (t ∷ ss) = λ i. declared_marked t i ++ written_marked ss i

module _ (p : Tree) (faultless : first_fault p ≡ None) (numbered : IsNumbered p.root) (s : ℕ) (y : Symbol) (there : slice_get (tables_of p).symbols s ≡ Some y) (new : Name) where
  abbrev U : Tree
  U = unmarked p faultless numbered s y there new

  abbrev Q : Tree
  Q = q p faultless numbered s y there new

  same_written : written_declarations (steps U) ≡ written_declarations (steps p)
  same_written =
      let own : Node → Marks = shed p faultless numbered s y there new in
      ap written_declarations (steps_same own (keeps_read (sheds (bears_name (analysis_of p) s))) p) ∙ written_marked own (keeps_read (sheds (bears_name (analysis_of p) s))) (steps p)

  shared : first_fixed (exported_names (steps p)) (bears_name (analysis_of p) s) (steps p) ≡ None → Same p Q → namespace_states (steps Q) ≡ namespace_states (steps p) → NoneMoves p → ShareFlags (made_of p) → ShareFlags (made_of Q)
  shared free same states none share =
      let marks : HaveSameAnalysis U p = same_unmarked (sheds (bears_name (analysis_of p) s)) mark.Shorthand p refl in
      let whole : WholeEvents (events (steps U)) (events (steps Q)) =
      steps_whole (written_declarations (steps U)) (written_declarations (steps Q)) (steps U) (steps Q) (walked p faultless numbered s y there new free) (marks.states ∙ sym states) (subst NoneAmong (sym same_written) none) in
      let pairs : WholePairs (made_of p) (made_of Q) = subst (λ es. WholePairs (run start es).made (made_of Q)) (same_made p faultless numbered s y there new free) (pairs_run (events (steps U)) (events (steps Q)) start start whole tt) in
      let twins : TwinEvents (events (steps p)) (events (steps Q)) = twin_events p faultless numbered s y there new free states in
      share_on (made_of p) (made_of Q) pairs (same_symbols p Q faultless numbered same twins) share

  pub sharing_kept : (r : Tree) → rename p s new ≡ Ok r → namespace_states (steps r) ≡ namespace_states (steps p) → NoneMoves p → ShareFlags (made_of p) → ShareFlags (made_of r)
  sharing_kept r h e none share =
      let (bad, none_fix, same, is) = ends_renamed p s new r h in
      subst (λ t. ShareFlags (made_of t)) (sym is)
      (shared (none_means_free p s none_fix) (subst (Same p) is same) (subst (λ t. namespace_states (steps t) ≡ namespace_states (steps p)) is e) none share)
