-- In an ECMAScript program, declarations of a name that keep clear of each other share the symbols of their homes.
use Rattle.std.proofs.Common.{◌≡◌, ℕ, zero, suc, ◌+◌, ◌==◌, ◌<◌, ◌≤◌, List, [], ◌∷◌, Option, Some, None, Bool, true, false, cond, inl, inr, refl, sym, ap, subst, ◌∙◌, length, map, arith, bytes_eq}
use Rattle.std.specs.Prelude.{slice_get, slice_index_or}
use Rattle.std.specs.List.{range_with_len}
use Rattle.std.specs.Map.{lookup}
use Rattle.std.proofs.lemmas.Option.{slice_get_within}
use Rattle.semantic_syntax.specs.Reading.{bound_in}
use Rattle.semantic_syntax.specs.Tables.{Name}
use Rattle.semantic_tree.specs.Faults.{first_fault}
use Rattle.semantic_tree.specs.Tree.{Tree}
use Rattle.semantic_model.specs.Binding.{Binding, get, bound_by}
use Rattle.semantic_model.specs.Declaration.{Declaration, home, body_or}
use Rattle.semantic_model.specs.Entries.{Among}
use Rattle.semantic_model.specs.Event.{Event, declares, takes_over, ends_header, events, declarations, written_declarations}
use Rattle.semantic_model.specs.Tie.{until_end_of}
use Rattle.semantic_model.specs.Fold.{State, Made, start}
use Rattle.semantic_model.specs.Hoist.{act, run}
use Rattle.semantic_model.specs.NodeTable.{Belongs, node_tables}
use Rattle.semantic_model.specs.Step.{steps}
use Rattle.semantic_model.specs.TablesOf.{tables_of, scopes, evals}
use Rattle.semantic_model.proofs.alone.Homecoming.{AllHomed, homed}
use Rattle.semantic_model.proofs.alone.PlacesFollowed.{followed_program}
use Rattle.semantic_model.proofs.bindings.NearestVar.{nearest, nearest_root, places_near}
use Rattle.semantic_model.proofs.bindings.VarTargets.{AllEventsLed, events_led}
use Rattle.semantic_model.proofs.fits.NothingInvented.{belongs_made, made_declared}
use Rattle.semantic_model.proofs.fits.Outwards.{bound_as, scopes_length}
use Rattle.semantic_model.proofs.fold.Changes.{sound_start}
use Rattle.semantic_model.proofs.fold.Orders.{HasForm, table_of, root_body, steps_in, events_in, orderly_events}
use Rattle.semantic_model.proofs.form.Shape.{has_form}
use Rattle.semantic_model.proofs.once.HeadersEndOnce.{less_or}
use Rattle.binding_laws.proofs.DeclaredMade.{made_stays, is_made}
use Rattle.language_ties.specs.EcmaScript.{is_ecmascript}
use Rattle.language_ties.specs.SharedSymbols.{AllKeepClear, ShareSymbols}
use Rattle.language_ties.proofs.shared.Events.{AllNumbered, numbered_events}
use Rattle.language_ties.proofs.shared.Numbers.{numbered_program}
use Rattle.language_ties.proofs.shared.PlainNodes.{ecmascript_program}
use Rattle.language_ties.proofs.shared.Runs.{SharedAtLast, shared_run, shared_until, none_pending}
use Rattle.language_ties.proofs.shared.Shared.{Shared, IsBoundNow, IsNowIn, BoundBy, shared_start}

-- ---- what is declared was made

beyond : (bs : List Binding) (i k c : ℕ) → k ≤ c → slice_index_or (map (bound_by bs) (range_with_len i k)) c [] ≡ []
beyond bs i zero c h = refl
beyond bs i (suc k) zero h = absurd (omega arith)
beyond bs i (suc k) (suc c) h = beyond bs (i + 1) k c (omega arith)

-- what is declared before the end of a header is declared
pub until_among : (e : ℕ) (es : List Event) (d : Declaration) → Among d (declarations (until_end_of e es)) → Among d (declarations es)
until_among e [] d a = a
until_among e (declares f ∷ es) d (inl q) = inl q
until_among e (declares f ∷ es) d (inr a) = inr (until_among e es d a)
until_among e (takes_over c b ∷ es) d a = until_among e es d a
until_among e (ends_header c ∷ es) d a = go (c == e) (until_among e es d) a
  where
    go : (b : Bool) → (Among d (declarations (until_end_of e es)) → Among d (declarations es)) → Among d (declarations (cond b [] (ends_header c ∷ until_end_of e es))) → Among d (declarations es)
    go true later i = absurd i
    go false later i = later i

-- what is made before the end of a header is made
pub until_stays : (y : Made) (st : State) (es : List Event) (e : ℕ) → Among y (run st (until_end_of e es)).made → Among y (run st es).made
until_stays y st [] e a = a
until_stays y st (declares d ∷ es) e a = until_stays y (act st (declares d)) es e a
until_stays y st (takes_over c b ∷ es) e a = until_stays y (act st (takes_over c b)) es e a
until_stays y st (ends_header c ∷ es) e a = go (c == e) (λ b. until_stays y st es e b) a
  where
    go : (b : Bool) → (Among y (run st (until_end_of e es)).made → Among y (run st es).made) → Among y (run st (cond b [] (ends_header c ∷ until_end_of e es))).made → Among y (run st es).made
    go true later i = made_stays y st es i
    go false later i = later i

-- ---- the whole program

module _ (p : Tree) (h : first_fault p ≡ None) (e : is_ecmascript p ≡ true) (x : Name) (clear : AllKeepClear x (declarations (events (steps p)))) where
  abbrev f : HasForm p
  f = has_form p h

  abbrev table : List (Option ℕ)
  table = table_of p

  abbrev root : slice_get table 0 ≡ Some None
  root = root_body p f

  abbrev ds : List Declaration
  ds = written_declarations (steps p)

  abbrev es : List Event
  es = events (steps p)

  abbrev final : State
  final = run start es

  numbered : AllNumbered 0 0 es
  numbered = numbered_events table ds 0 (steps p) (numbered_program p f.root) (ecmascript_program p h f.root e)

  led : AllEventsLed (nearest p) table es
  led = events_led (nearest p) table (nearest_root p f.root) root ds (steps p) (steps_in p f) (places_near p)

  at_home : AllHomed es
  at_home = homed table root ds (steps p) (steps_in p f) (followed_program p f)

  pub at_last : SharedAtLast table root (nearest p) x final
  at_last = shared_run table root (nearest p) x 0 0 start es numbered (events_in p f) led (orderly_events p f) (sound_start table) clear (λ y a. absurd a) (λ y a. absurd a) (shared_start table x)

  shared : Shared table x at_last.0 at_last.1 final
  shared = at_last.2

  -- nothing stays in the scope of a clause
  pub none_in_clause : (c b s : ℕ) → slice_get table c ≡ Some (Some b) → get final.bindings c x ≡ Some s → ⊥
  none_in_clause = none_pending table root (nearest p) x start es (events_in p f) (orderly_events p f) (sound_start table) at_home (λ c b s q g. absurd cc)

  within : (c : ℕ) (o : Option ℕ) → slice_get table c ≡ Some o → c < length (scopes (steps p))
  within c o q = omega (arith, slice_get_within table c o q, scopes_length (evals (steps p)) (steps p))

  -- a declaration is bound at its home in the end
  home_bound : (d : Declaration) (s : ℕ) → slice_get table d.route.target.number ≡ Some d.route.target.body → IsBoundNow table x final.bindings d s → bound_in (tables_of p) (home d) x ≡ Some s
  home_bound d s q (inl g) = go d.route.target.body refl
    where
      go : (o : Option ℕ) → d.route.target.body ≡ o → bound_in (tables_of p) (body_or d.route.target.number o) x ≡ Some s
      go None w = bound_as p d.route.target.number x (within d.route.target.number d.route.target.body q) ∙ g
      go (Some b) w = absurd (none_in_clause d.route.target.number b s (q ∙ ap Some w) g)
  home_bound d s q (inr g) =
      subst (λ c. bound_in (tables_of p) c x ≡ Some s) (sym (ap (body_or d.route.target.number) g.1))
      (bound_as p g.0 x (within g.0 None g.2) ∙ g.3)

  home_is : (d : Declaration) (c s : ℕ) → slice_get table d.route.target.number ≡ Some d.route.target.body → get final.bindings c x ≡ Some s → IsNowIn table x d c → home d ≡ c
  home_is d c s q g (inl w) = go d.route.target.body refl
    where
      go : (o : Option ℕ) → d.route.target.body ≡ o → body_or d.route.target.number o ≡ c
      go None i = w
      go (Some b) i = absurd (none_in_clause c b s (subst (λ k. slice_get table k ≡ Some (Some b)) w (q ∙ ap Some i)) g)
  home_is d c s q g (inr w) = ap (body_or d.route.target.number) w.0

  bound_at : (c s : ℕ) → bound_in (tables_of p) c x ≡ Some s → get final.bindings c x ≡ Some s
  bound_at c s g = elim (less_or c (length (scopes (steps p)))) [
    | inl l ↦ sym (bound_as p c x l) ∙ g
    | inr l ↦ (let q : None ≡ Some s = sym (ap (lookup (bytes_eq x)) (beyond final.bindings 0 (length (scopes (steps p))) c l)) ∙ g in absurd cc)
  ]

  pub share_symbols : ShareSymbols p x
  share_symbols = record {
    share = λ d a named visible. (let (s, b) = is_made d start es a in
        record {
          symbol = s;
          declared = belongs_made (record { declaration = d; symbol = s }) final.made b;
          bound = subst (λ y. bound_in (tables_of p) (home d) y ≡ Some s) (sym named)
              (home_bound d s (shared.entries (record { declaration = d; symbol = s }) b named) (shared.declared (record { declaration = d; symbol = s }) b named visible));
        });
    bound = λ c s g. (let w : BoundBy table x at_last.0 at_last.1 final.made c s = shared.bound c s (bound_at c s g) in
        record {
          declaration = w.made.declaration;
          among = elim (made_declared w.made start es w.among) [ inl k ↦ absurd k | inr k ↦ k ];
          named = w.named;
          stands = home_is w.made.declaration c s (shared.entries w.made w.among w.named) (bound_at c s g) w.now;
          is = subst (λ r. Among {A = Belongs} (record { node = w.made.declaration.naming.identifier; number = r }) (node_tables (steps p)).symbols) w.symbol (belongs_made w.made final.made w.among);
        });
  }

  -- and so it is where a header ends
  pub at_header : (e : ℕ) → SharedAtLast table root (nearest p) x (run start (until_end_of e es))
  at_header e = shared_until table root (nearest p) x e 0 0 start es numbered (events_in p f) led (orderly_events p f) (sound_start table) clear (λ y a. absurd a) (λ y a. absurd a) (shared_start table x)
