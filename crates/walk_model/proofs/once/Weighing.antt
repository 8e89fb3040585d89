-- What a program makes weighs as much as what its steps declare, whatever weight a declaration has.
use Rattle.std.proofs.Common.{◌≡◌, ℕ, ◌+◌, ◌==◌, List, [], ◌∷◌, ◌++◌, Bool, true, false, cond, if◌then◌else◌, map, flat_map, refl, ap, arith}
use Rattle.semantic_tree.specs.Tree.{Tree}
use Rattle.semantic_model.specs.Entries.{times}
use Rattle.semantic_model.specs.Place.{Place, OpenScope, innermost, outside}
use Rattle.semantic_model.specs.Step.{Step, entering, opening, header_ending, closing, leaving, steps}
use Rattle.semantic_model.specs.Declaration.{How, plain, hoisted, moved, caught, Declaration}
use Rattle.semantic_model.specs.Binder.{declared_on_entering, declared_on_opening}
use Rattle.semantic_model.specs.Event.{Event, declares, takes_over, ends_header, declared_at, is_barred, staying_declaration, placed_by, is_catch_body, taken_over, declares_all, events_of, events, written_declarations}
use Rattle.semantic_model.specs.Fold.{State, Made, start}
use Rattle.semantic_model.specs.Hoist.{act, run}
use Rattle.semantic_model.proofs.fold.Orders.{Adds, adds}
use Rattle.walk_model.proofs.once.NameTimes.{declared_times}
use Rattle.walk_model.proofs.once.DeclaredBelow.{step_times}

-- where a declaration goes to doesn't change its identifier
placed_same : (how : How) (ds : List Declaration) (d : Declaration) → (placed_by how ds d).naming.identifier ≡ d.naming.identifier
placed_same plain ds d = refl
placed_same hoisted ds d = refl
placed_same caught ds d = refl
placed_same moved ds d = by (is_barred ds d (outside d.route.passed))
  where
    by : (b : Bool) → (if b then staying_declaration d else d).naming.identifier ≡ d.naming.identifier
    by true = refl
    by false = refl

-- a weight of identifiers
module _ (weight : ℕ → ℕ) where
  abbrev pub declared_weight : List Declaration → ℕ
  declared_weight [] = 0
  declared_weight (d ∷ ds) = weight d.naming.identifier + declared_weight ds

  abbrev pub step_weight : List Step → ℕ
  step_weight [] = 0
  step_weight (s ∷ ss) = declared_weight (declared_at s) + step_weight ss

  abbrev pub made_weight : List Made → ℕ
  made_weight [] = 0
  made_weight (m ∷ ms) = weight m.declaration.naming.identifier + made_weight ms

  abbrev event_weight : List Event → ℕ
  event_weight [] = 0
  event_weight (declares d ∷ es) = weight d.naming.identifier + event_weight es
  event_weight (takes_over c b ∷ es) = event_weight es
  event_weight (ends_header c ∷ es) = event_weight es

  events_append : (es fs : List Event) → event_weight (es ++ fs) ≡ event_weight es + event_weight fs
  events_append [] fs = omega arith
  events_append (declares d ∷ es) fs = omega (arith, events_append es fs)
  events_append (takes_over c b ∷ es) fs = events_append es fs
  events_append (ends_header c ∷ es) fs = events_append es fs

  declares_weigh : (ds new : List Declaration) → event_weight (declares_all ds new) ≡ declared_weight new
  declares_weigh ds [] = refl
  declares_weigh ds (d ∷ new) = λ i. weight (placed_same d.how ds d i) + declares_weigh ds new i

  taken_weigh : (p : Place) (s : OpenScope) → event_weight (taken_over p s) ≡ 0
  taken_weigh p s = by (is_catch_body p)
    where
      by : (b : Bool) → event_weight (cond b (takes_over (innermost p.chain).number s.number ∷ []) []) ≡ 0
      by true = refl
      by false = refl

  steps_weigh : (ds : List Declaration) (ss : List Step) → event_weight (flat_map (events_of ds) ss) ≡ step_weight ss
  steps_weigh ds [] = refl
  steps_weigh ds (entering p ∷ ss) = omega (
    arith,
    events_append (declares_all ds (declared_on_entering p)) (flat_map (events_of ds) ss),
    declares_weigh ds (declared_on_entering p),
    steps_weigh ds ss,
  )
  steps_weigh ds (opening p s ∷ ss) = omega (
    arith,
    events_append (taken_over p s ++ declares_all ds (declared_on_opening p s)) (flat_map (events_of ds) ss),
    events_append (taken_over p s) (declares_all ds (declared_on_opening p s)),
    taken_weigh p s,
    declares_weigh ds (declared_on_opening p s),
    steps_weigh ds ss,
  )
  steps_weigh ds (header_ending p s ∷ ss) = omega (arith, steps_weigh ds ss)
  steps_weigh ds (closing p s ∷ ss) = omega (arith, steps_weigh ds ss)
  steps_weigh ds (leaving p ∷ ss) = omega (arith, steps_weigh ds ss)

  made_append : (ms ns : List Made) → made_weight (ms ++ ns) ≡ made_weight ms + made_weight ns
  made_append [] ns = omega arith
  made_append (m ∷ ms) ns = omega (arith, made_append ms ns)

  run_weighs : (es : List Event) (st : State) → made_weight (run st es).made ≡ made_weight st.made + event_weight es
  run_weighs [] st = omega arith
  run_weighs (declares d ∷ es) st =
      let w : Adds st.made d (act st (declares d)).made = adds st d in
      let one : List Made = record { declaration = d; symbol = w.symbol } ∷ [] in
      omega (arith, run_weighs es (act st (declares d)), ap made_weight w.adds, made_append st.made one)
  run_weighs (takes_over c b ∷ es) st = run_weighs es (act st (takes_over c b))
  run_weighs (ends_header c ∷ es) st = run_weighs es (act st (ends_header c))

  pub made_weighs : (p : Tree) → made_weight (run start (events (steps p))).made ≡ step_weight (steps p)
  made_weighs p = omega (arith, run_weighs (events (steps p)) start, steps_weigh (written_declarations (steps p)) (steps p))

-- ---- how often an identifier stands among the declarations

-- the identifiers of the declarations that were made
abbrev pub identifiers : List Made → List ℕ
identifiers ms = map (λ m. m.declaration.naming.identifier) ms

module _ (x : ℕ) where
  abbrev value_symbol : ℕ → ℕ
  value_symbol y = cond (y == x) 1 0

  declared_are : (ds : List Declaration) → declared_weight value_symbol ds ≡ declared_times x ds
  declared_are [] = refl
  declared_are (d ∷ ds) = omega (arith, declared_are ds)

  steps_are : (ss : List Step) → step_weight value_symbol ss ≡ step_times x ss
  steps_are [] = refl
  steps_are (s ∷ ss) = omega (arith, declared_are (declared_at s), steps_are ss)

  made_are : (ms : List Made) → made_weight value_symbol ms ≡ times x (identifiers ms)
  made_are [] = refl
  made_are (m ∷ ms) = omega (arith, made_are ms)

  -- is as often as the steps declare it
  pub identifier_times : (p : Tree) → times x (identifiers (run start (events (steps p))).made) ≡ step_times x (steps p)
  identifier_times p =
      let ms : List Made = (run start (events (steps p))).made in
      omega (arith, made_are ms, made_weighs value_symbol p, steps_are (steps p))
