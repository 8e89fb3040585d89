-- A declaration that meets no other has its own symbol, bound in its home alone.
use Rattle.std.proofs.Common.{◌≡◌, ℕ, ◌<◌, List, [], ◌∷◌, ◌++◌, Option, Some, None, inl, inr, refl, sym, ap, subst, ◌∙◌, length, map, arith}
use Rattle.std.specs.Prelude.{slice_get}
use Rattle.std.proofs.lemmas.Option.{slice_get_within}
use Rattle.semantic_tree.specs.Tree.{Tree}
use Rattle.semantic_model.specs.Entries.{Among, times}
use Rattle.semantic_model.specs.Step.{steps}
use Rattle.semantic_model.specs.Declaration.{Declaration, home, Meets}
use Rattle.semantic_model.specs.Event.{Event, declares, takes_over, ends_header, events, declarations, written_declarations}
use Rattle.semantic_model.specs.Fold.{State, Made, start}
use Rattle.semantic_model.specs.Hoist.{act, run}
use Rattle.semantic_model.specs.NodeTable.{belonging, node_tables}
use Rattle.semantic_model.specs.TablesOf.{tables_of, scopes, evals}
use Rattle.semantic_model.specs.Fits.{MeetsNoOther, OwnSymbol}
use Rattle.semantic_model.proofs.steps.Compose.{run-append}
use Rattle.semantic_model.proofs.fold.Changes.{Sound, sound_start, Sits, at_target, at_body, at_block}
use Rattle.semantic_model.proofs.fold.TakeOvers.{Orderly, sound_act, sound_run}
use Rattle.semantic_model.proofs.once.TiedByName.{orderly_left, orderly_right}
use Rattle.semantic_model.proofs.alone.Alone.{Own, symbol_times}
use Rattle.semantic_model.proofs.alone.Fresh.{MeetsNone, own_declare}
use Rattle.semantic_model.proofs.alone.Homes.{AllApart, ends_at, own_run, own_among}
use Rattle.semantic_model.proofs.fold.Declared.{AllEventsIn}
use Rattle.semantic_model.proofs.alone.PlacesFollowed.{followed_program}
use Rattle.semantic_model.proofs.alone.Homecoming.{AllHomed, homed, comes_home}
use Rattle.semantic_model.proofs.fold.Orders.{HasForm, table_of, root_body, steps_in, events_in, orderly_events, sound_program}
use Rattle.semantic_model.proofs.fits.NothingInvented.{made_declared, bound_stands, belongs_made}
use Rattle.semantic_model.proofs.fits.Outwards.{bound_as, scopes_length}

-- the event of a declaration among the events
record Split (es : List Event) (before after : List Declaration) (d : Declaration) : Type 0 where
  first : List Event
  rest : List Event
  stands : es ≡ first ++ declares d ∷ rest
  earlier : declarations first ≡ before
  later : declarations rest ≡ after

split_events : (es : List Event) (before after : List Declaration) (d : Declaration) → declarations es ≡ before ++ d ∷ after → Split es before after d
split_events [] [] after d h = absurd cc
split_events [] (x ∷ xs) after d h = absurd cc
split_events (declares e ∷ es) [] after d h = let q : e ≡ d = cc in let w : declarations es ≡ after = cc in
    record { first = []; rest = es; stands = ap (λ x. declares x ∷ es) q; earlier = refl; later = w }
split_events (declares e ∷ es) (x ∷ xs) after d h = let q : e ≡ x = cc in let w : declarations es ≡ xs ++ d ∷ after = cc in
    let r : Split es xs after d = split_events es xs after d w in
    record { first = declares e ∷ r.first; rest = r.rest; stands = ap (λ fs. declares e ∷ fs) r.stands; earlier = (λ i. q i ∷ r.earlier i); later = r.later }
split_events (takes_over c b ∷ es) before after d h = let r : Split es before after d = split_events es before after d h in
    record { first = takes_over c b ∷ r.first; rest = r.rest; stands = ap (λ fs. takes_over c b ∷ fs) r.stands; earlier = r.earlier; later = r.later }
split_events (ends_header c ∷ es) before after d h = let r : Split es before after d = split_events es before after d h in
    record { first = ends_header c ∷ r.first; rest = r.rest; stands = ap (λ fs. ends_header c ∷ fs) r.stands; earlier = r.earlier; later = r.later }

all_apart : (d : Declaration) (es : List Event) → ((e : Declaration) → Among e (declarations es) → Meets d e → ⊥) → AllApart d es
all_apart d [] h = tt
all_apart d (declares e ∷ es) h = (h e (inl refl), all_apart d es (λ x a. h x (inr a)))
all_apart d (takes_over c b ∷ es) h = all_apart d es h
all_apart d (ends_header c ∷ es) h = all_apart d es h

homed_right : (es fs : List Event) → AllHomed (es ++ fs) → AllHomed fs
homed_right [] fs h = h
homed_right (declares d ∷ es) fs h = homed_right es fs h.1
homed_right (takes_over c b ∷ es) fs h = homed_right es fs h
homed_right (ends_header c ∷ es) fs h = homed_right es fs h

events_right : (table : List (Option ℕ)) (root : slice_get table 0 ≡ Some None) (es fs : List Event) → AllEventsIn table root (es ++ fs) → AllEventsIn table root fs
events_right table root [] fs h = h
events_right table root (e ∷ es) fs h = events_right table root es fs h.1

belongs_times : (s : ℕ) (ms : List Made) → times s (map (λ b. b.number) (map belonging ms)) ≡ symbol_times s ms
belongs_times s [] = refl
belongs_times s (m ∷ ms) = omega (arith, belongs_times s ms)

sits_within : (table : List (Option ℕ)) (d : Declaration) (c : ℕ) → slice_get table d.route.target.number ≡ Some d.route.target.body → Sits table d c → c < length table
sits_within table d c t (at_target e) = subst (λ n. n < length table) e (slice_get_within table d.route.target.number d.route.target.body t)
sits_within table d c t (at_body e k) = slice_get_within table c None k
sits_within table d c t (at_block e k) = slice_get_within table c None k

pub lone_declaration : (p : Tree) → HasForm p → (d : Declaration) → MeetsNoOther (declarations (events (steps p))) d → (s : ℕ) × OwnSymbol (tables_of p) (node_tables (steps p)).symbols d s
lone_declaration p f d m =
    let table : List (Option ℕ) = table_of p in
    let es : List Event = events (steps p) in
    let final : State = run start es in
    let w : Split es m.before m.after d = split_events es m.before m.after d m.stands in
    let all : List Event = w.first ++ declares d ∷ w.rest in
    let order : Orderly table start all = subst (Orderly table start) w.stands (orderly_events p f) in
    let stands_in : AllEventsIn table (root_body p f) (declares d ∷ w.rest) = events_right table (root_body p f) w.first (declares d ∷ w.rest) (subst (AllEventsIn table (root_body p f)) w.stands (events_in p f)) in
    let at_home : AllHomed (declares d ∷ w.rest) = homed_right w.first (declares d ∷ w.rest) (subst AllHomed w.stands (homed table (root_body p f) (written_declarations (steps p)) (steps p) (steps_in p f) (followed_program p f))) in
    let st : State = run start w.first in
    let sound : Sound table st = sound_run table start w.first (orderly_left table start w.first (declares d ∷ w.rest) order) (sound_start table) in
    let right : Orderly table st (declares d ∷ w.rest) = orderly_right table start w.first (declares d ∷ w.rest) order in
    let apart_before : (e : Declaration) → Among e (declarations w.first) → Meets d e → ⊥ = λ e a. m.apart e (inl (subst (Among e) w.earlier a)) in
    let meets_none : MeetsNone d st.made = λ x a. elim (made_declared x start w.first a) [ inl k ↦ absurd k | inr k ↦ apart_before x.declaration k ] in
    let s : ℕ = length st.symbols in
    let here : Own table d s d.route.target.number (act st (declares d)) = own_declare table st d right.0 sound meets_none in
    let apart_after : AllApart d w.rest = all_apart d w.rest (λ e a. m.apart e (inr (subst (Among e) w.later a))) in
    let run_own : Own table d s (ends_at d.route.target.number w.rest) (run (act st (declares d)) w.rest) = own_run table d s d.route.target.number (act st (declares d)) w.rest apart_after right.1 (sound_act table st (declares d) right.0 sound) here in
    let whole : run start es ≡ run (act st (declares d)) w.rest = ap (run start) w.stands ∙ run-append w.first (declares d ∷ w.rest) start in
    let own : Own table d s (home d) final = subst (λ x. Own table d s x final) (comes_home table (root_body p f) d w.rest stands_in.0 stands_in.1 at_home.0) (subst (λ x. Own table d s (ends_at d.route.target.number w.rest) x) (sym whole) run_own) in
    let below : home d < length (scopes (steps p)) = omega (arith, sits_within table d (home d) stands_in.0.target.entry own.sits, scopes_length (evals (steps p)) (steps p)) in (
      s,
      record {
        is = belongs_made (record { declaration = d; symbol = s }) final.made (own_among table d s (home d) final (sound_program p f) own);
        alone = belongs_times s final.made ∙ own.once;
        symbol = own.symbol;
        binds = bound_as p (home d) d.naming.name below ∙ own.binds;
        only = λ c x e. own.only (record { scope = c; name = x; symbol = s }) (bound_stands p c x s e) refl;
      },
    )
