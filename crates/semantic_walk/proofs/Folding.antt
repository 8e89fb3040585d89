-- What a node declares folds into the state that the tables show.
use Rattle.std.proofs.Common.{◌≡◌, ℕ, ◌+◌, ◌<◌, List, [], ◌∷◌, ◌++◌, None, Bool, true, false, cond, IfSome, fold, map, flat_map, length, refl, sym, subst, ◌∙◌, arith}
use Rattle.std.proofs.lemmas.List.{length-append}
use Rattle.semantic_kinds.specs.declared.kind.AstType.{AstType}
use Rattle.semantic_kinds.specs.declared.kind.AstType.TheVariants as kind
use Rattle.semantic_kinds.specs.declared.mark.Mark.TheVariants as mark
use Rattle.semantic_kinds.specs.declared.role.Role.TheVariants as role
use Rattle.semantic_syntax.specs.Tables.{Tables}
use Rattle.semantic_tree.specs.Faults.{first_fault}
use Rattle.semantic_tree.specs.Tree.{Tree}
use Rattle.semantic_tree.specs.declared.node.Node.{Node}
use Rattle.semantic_model.specs.Binder as binder
use Rattle.semantic_model.specs.Binder.{declared_on_entering, declared_on_opening, declared_inside}
use Rattle.semantic_model.specs.Declaration.{Declaration, plain, here}
use Rattle.semantic_model.specs.Event.{declares_all, events_of, written_declarations}
use Rattle.semantic_model.specs.Fold.{State, Made, start}
use Rattle.semantic_model.specs.Hoist.{run}
use Rattle.semantic_model.specs.Names.{names_at}
use Rattle.semantic_tree.specs.Views.{has}
use Rattle.semantic_model.specs.Place.{Place, OpenScope}
use Rattle.semantic_model.specs.Step.{Step, entering, opening, header_ending, closing, leaving, steps}
use Rattle.semantic_model.specs.TablesOf.{numbers}
use Rattle.walk_model.specs.Noted.{with_entry}
use Rattle.walk_model.specs.Opens.{innermost_number, open_scope}
use Rattle.walk_model.specs.Shown.{ShowsChain, IsGrounded}
use Rattle.walk_model.specs.WalkState.{WalkState, nothing_made}
use Rattle.walk_model.specs.Walks.{act_all, after, after_all}
use Rattle.walk_model.proofs.turns.ChainsShown.{acts_rows, step_rows}
use Rattle.walk_model.proofs.places.Grounds.{AllGrounded, all_grounded}
use Rattle.walk_model.proofs.places.Nested.{Descends, AreNested, open_past, seen_past, seen_after}
use Rattle.walk_model.proofs.shows.Represents.{Represents, with_noted}
use Rattle.walk_model.proofs.places.Routes.{AllGoOut}
use Rattle.walk_model.proofs.declares.Simulated.{declares_as, entering_as, steps_as, nothing_as, program_nested}
use Rattle.walk_model.proofs.sizes.Growth.{declares_add, step_adds}
use Rattle.walk_model.specs.Room.{opened_by}
use Rattle.semantic_walk.specs.Folded.{ShowsFold}

-- a node is noted with its symbol
noted_from : (es : List (ℕ × ℕ)) (ms : List Made) → fold with_noted es ms ≡ fold with_entry es (map (λ m. record { node = m.declaration.naming.identifier; number = m.symbol }) ms)
noted_from es [] = refl
noted_from es (m ∷ ms) = noted_from (with_noted es m) ms

-- the same by the model's words

represents : (w : WalkState) (st : State) → ShowsFold w st → Represents (length w.tables.scopes) w st
represents w st h = record {
  shows = record { scopes = h.scopes; bindings = h.bindings; single = h.once; symbols = h.symbols; remembered = h.remembered; conflicts = h.conflicts; uses = h.uses };
  notes = record { pure_is = h.pure_symbols; nodes_are = h.nodes ∙ sym (noted_from [] st.made) };
}

shows : (n : ℕ) (w : WalkState) (st : State) → length w.tables.scopes ≡ n → Represents n w st → ShowsFold w st
shows n w st e h = record {
  scopes = h.shows.scopes ∙ sym e;
  bindings = h.shows.bindings;
  once = h.shows.single;
  symbols = h.shows.symbols;
  uses = h.shows.uses;
  pure_symbols = h.notes.pure_is;
  nodes = h.notes.nodes_are ∙ noted_from [] st.made;
  remembered = h.shows.remembered;
  conflicts = h.shows.conflicts;
}

-- no scope opens where names are declared
same_scopes : (ds new : List Declaration) (w : WalkState) → length (act_all w (declares_all ds new)).tables.scopes ≡ length w.tables.scopes
same_scopes ds new w = omega (arith, (declares_add ds new w).of_scopes, (acts_rows w (declares_all ds new)).longer)

-- the scopes of a chain that is shown have smaller numbers, one after another
descends_from : (t : Tables) (n : ℕ) (chain : List OpenScope) → IfSome (innermost_number chain) (λ c. c < n) → ShowsChain t chain → Descends n chain
descends_from t n [] l h = tt
descends_from t n (s ∷ ss) l h = (l, descends_from t s.number ss h.0.falls h.1)

first_within : (t : Tables) (chain : List OpenScope) → ShowsChain t chain → IfSome (innermost_number chain) (λ c. c < length t.scopes)
first_within t [] h = tt
first_within t (s ∷ ss) h = h.0.within

-- what a node declares on entering
pub folds_entering : (ds : List Declaration) (w v : WalkState) (p : Place) (st : State) → IsGrounded p → ShowsChain w.tables p.chain → v ≡ act_all w (declares_all ds (declared_on_entering p)) → ShowsFold w st
    → ShowsFold v (run st (declares_all ds (declared_on_entering p)))
folds_entering ds w v p st grounded chain e h =
    let n : ℕ = length w.tables.scopes in
    subst (λ (u : WalkState). ShowsFold u (run st (declares_all ds (declared_on_entering p)))) (sym e)
    (shows n (act_all w (declares_all ds (declared_on_entering p))) (run st (declares_all ds (declared_on_entering p))) (same_scopes ds (declared_on_entering p) w)
    (entering_as n ds w st p grounded (descends_from w.tables n p.chain (first_within w.tables p.chain chain) chain) (represents w st h)))

-- a row of the own scope goes no further
own_row : (own : OpenScope) (node : Node) (flags excluded : ℕ) (is_pure : Bool) (names : List Node)
    → AllGoOut (own ∷ []) (map (binder.declaration_at node (record { flags = flags; excluded = excluded; how = plain; route = here (own ∷ []) }) is_pure) names)
own_row own node flags excluded is_pure [] = tt
own_row own node flags excluded is_pure (x ∷ xs) = (record { rest = []; is = refl; leaves = tt }, own_row own node flags excluded is_pure xs)

own_if : (own : OpenScope) (b : Bool) (new : List Declaration) → AllGoOut (own ∷ []) new → AllGoOut (own ∷ []) (cond b [] new)
own_if own true new h = tt
own_if own false new h = h

own_goes : (k : AstType) (p : Place) (own : OpenScope) → AllGoOut (own ∷ []) (declared_inside k p own)
own_goes kind.Function p own = own_if own (binder.is_statement p.node) _ (own_row own p.node (binder.function_flags p.node) (binder.function_excluded p) (has mark.Pure p.node) (binder.ids p.node))
own_goes kind.Class p own = own_if own (binder.is_statement p.node) _ (own_row own p.node (binder.class_row p (own ∷ [])).flags (binder.class_row p (own ∷ [])).excluded false (binder.ids p.node))
own_goes kind.TSMappedType p own = own_row own p.node (binder.type_parameter_row (here (own ∷ []))).flags (binder.type_parameter_row (here (own ∷ []))).excluded false (names_at role.Key p.node)
own_goes _ p own = tt

-- and what it declares in its own scope
pub folds_opening : (ds : List Declaration) (w v : WalkState) (p : Place) (own : OpenScope) (st : State) → own.number < length w.tables.scopes → v ≡ act_all w (declares_all ds (declared_on_opening p own)) → ShowsFold w st
    → ShowsFold v (run st (declares_all ds (declared_on_opening p own)))
folds_opening ds w v p own st within e h =
    let n : ℕ = length w.tables.scopes in
    subst (λ (u : WalkState). ShowsFold u (run st (declares_all ds (declared_on_opening p own)))) (sym e)
    (shows n (act_all w (declares_all ds (declared_on_opening p own))) (run st (declares_all ds (declared_on_opening p own))) (same_scopes ds (declared_on_opening p own) w)
    (declares_as n (own ∷ []) w st ds (declared_on_opening p own) (own_goes p.node.kind p own) (within, tt) (represents w st h)))

-- the steps of a walk one after another

nested_first : (stack : List ℕ) (seen : List (List ℕ)) (xs ys : List Step) → AreNested stack seen (xs ++ ys) → AreNested stack seen xs
nested_first stack seen [] ys h = tt
nested_first stack seen (x ∷ xs) ys h = (h.0, nested_first (open_past stack x) (seen_past seen x) xs ys h.1)

grounded_first : (xs ys : List Step) → AllGrounded (xs ++ ys) → AllGrounded xs
grounded_first [] ys h = tt
grounded_first (x ∷ xs) ys h = (h.0, grounded_first xs ys h.1)

-- each step opens the scopes that it should, and no more
step_scopes : (ds : List Declaration) (w : WalkState) (step : Step) → length (after ds w step).tables.scopes ≡ length w.tables.scopes + opened_by step
step_scopes ds w (entering p) = omega (arith, (step_rows ds w (entering p)).longer, (step_adds ds w (entering p)).of_scopes)
step_scopes ds w (opening p s) =
    omega (
      arith,
      (acts_rows (open_scope w p s) (events_of ds (opening p s))).longer,
      (step_adds ds w (opening p s)).of_scopes,
      length-append w.tables.scopes (record { parent = innermost_number p.chain; node = s.opener; flags = record { bits = s.flags } } ∷ []),
    )
step_scopes ds w (header_ending p s) = omega (arith, (step_rows ds w (header_ending p s)).longer, (step_adds ds w (header_ending p s)).of_scopes)
step_scopes ds w (closing p s) = omega (arith, (step_rows ds w (closing p s)).longer, (step_adds ds w (closing p s)).of_scopes)
step_scopes ds w (leaving p) = omega arith

all_scopes : (ds : List Declaration) (w : WalkState) (ss : List Step) (seen : List (List ℕ)) → length w.tables.scopes ≡ length seen → length (after_all ds w ss).tables.scopes ≡ length (seen_after seen ss)
all_scopes ds w [] seen e = e
all_scopes ds w (step ∷ ss) seen e = all_scopes ds (after ds w step) ss (seen_past seen step) (by step (step_scopes ds w step))
  where
    by : (step : Step) → length (after ds w step).tables.scopes ≡ length w.tables.scopes + opened_by step → length (after ds w step).tables.scopes ≡ length (seen_past seen step)
    by (opening p s) h = omega (arith, h, e, length-append seen (numbers p.chain ∷ []))
    by (entering p) h = omega (arith, h, e)
    by (header_ending p s) h = omega (arith, h, e)
    by (closing p s) h = omega (arith, h, e)
    by (leaving p) h = omega (arith, h, e)

-- so the tables show the fold at each place
pub walk_folds : (program : Tree) → first_fault program ≡ None → (done more : List Step) → steps program ≡ done ++ more
    → ShowsFold (after_all (written_declarations (steps program)) nothing_made done) (run start (flat_map (events_of (written_declarations (steps program))) done))
walk_folds program fits done more split =
    let ds : List Declaration = written_declarations (steps program) in
    shows (length (seen_after [] done)) (after_all ds nothing_made done) (run start (flat_map (events_of ds) done)) (all_scopes ds nothing_made done [] refl)
    (steps_as ds nothing_made start [] [] done (nested_first [] [] done more (subst (AreNested [] []) split (program_nested program))) (grounded_first done more (subst AllGrounded split (all_grounded program fits))) nothing_as)
