-- References with changed names are tied alike, and so the tables of a program with changed names are those with changed names.
use Rattle.std.proofs.Common.{◌≡◌, ℕ, suc, List, [], ◌∷◌, ◌++◌, Option, Some, None, cond, Bool, true, false, ◌&&◌, ◌||◌, ◌==◌, refl, sym, ap, ◌∙◌, map, flat_map, length, codes, bytes_eq}
use Rattle.std.specs.Prelude.{filter, fold}
use Rattle.std.specs.List.{range_with_len}
use Rattle.std.proofs.lemmas.List.{length-map}
use Rattle.semantic_syntax.specs.Tables.{Name, Scope, FreeLists}
use Rattle.semantic_tree.specs.Tree.{Tree}
use Rattle.semantic_model.specs.Place.{OpenScope}
use Rattle.semantic_model.specs.Step.{steps}
use Rattle.semantic_model.specs.Reference.{Occurrence, references}
use Rattle.semantic_model.specs.Binding.{Binding, get, bound_by}
use Rattle.semantic_model.specs.Event.{Event, declares, takes_over, ends_header, events}
use Rattle.semantic_model.specs.Fold.{Made, State, start}
use Rattle.semantic_model.specs.Hoist.{run}
use Rattle.semantic_syntax.specs.Lookup.{Seen, Asked, tied_by, lookup}
use Rattle.semantic_model.specs.FreeNames.{add_free}
use Rattle.semantic_model.specs.Tie.{is_end_of, until_end_of, view, view_by, seen_as, answer, Tie, ties, tied_symbol, moment, is_at, is_last, settled_at, in_order}
use Rattle.semantic_model.specs.TablesOf.{scopes, entry_of, is_symbol, uses_of, with_tie, any_pure, tables_from, tables_of}
use Rattle.semantic_tree.specs.Renamed.{renamed_tree}
use Rattle.semantic_model.specs.Swap.{renamed_occurrence, renamed_key, renamed_symbol, renamed_tables}
use Rattle.semantic_model.proofs.swapped.Alike.{map_append}
use Rattle.semantic_model.proofs.swapped.AlikeProgram.{Keeps, scopes_renamed, references_renamed}
use Rattle.semantic_model.proofs.swapped.AlikeEvents.{renamed_event, events_renamed}
use Rattle.semantic_model.proofs.swapped.AlikeFold.{renamed_made, renamed_bindings, renamed_state, get_same, bound_by_same, flags_same, run_same}

module _ (f : Name → Name) (keeps : Keeps f) where
  abbrev state : State → State
  state st = renamed_state f st

  abbrev happen : List Event → List Event
  happen es = map (renamed_event f) es

  abbrev tie : Tie → Tie
  tie t = record t { reference = renamed_occurrence f t.reference }

  abbrev tied : List Tie → List Tie
  tied ts = map tie ts

  -- views
  end_same : (c : ℕ) (e : Event) → is_end_of c (renamed_event f e) ≡ is_end_of c e
  end_same c (ends_header d) = refl
  end_same c (declares d) = refl
  end_same c (takes_over d b) = refl

  until_same : (c : ℕ) (es : List Event) → until_end_of c (happen es) ≡ happen (until_end_of c es)
  until_same c [] = refl
  until_same c (e ∷ es) = rw (end_same c e, until_same c es) (go (is_end_of c e))
    where
      go : (b : Bool) → cond b [] (renamed_event f e ∷ happen (until_end_of c es)) ≡ happen (cond b [] (e ∷ until_end_of c es))
      go true = refl
      go false = refl

  view_same : (b : Bool) (final : State) (es : List Event) (c : ℕ) → view_by b (state final) (happen es) c ≡ state (view_by b final es c)
  view_same true final es c = ap (run start) (until_same c es) ∙ run_same f keeps start (until_end_of c es)
  view_same false final es c = refl

  seen_same : (st : State) (o : Option ℕ) → seen_as (state st) o ≡ seen_as st o
  seen_same st None = refl
  seen_same st (Some s) = λ i. Some (record { symbol = s; flags = flags_same f keeps st s i })

  answer_same : (final : State) (es : List Event) (x : Name) (s : OpenScope) → answer (state final) (happen es) (f x) s ≡ answer final es x s
  answer_same final es x s =
      let st : State = view final es s in
      λ i. record {
        scope = s.number;
        flags = s.flags;
        bound = (ap (λ w. seen_as w (get w.bindings s.number (f x))) (view_same s.in_header final es s.number)
            ∙ ap (seen_as (state st)) (get_same f keeps st.bindings s.number x)
            ∙ seen_same st (get st.bindings s.number x)) i;
      }

  answers_same : (final : State) (es : List Event) (x : Name) (chain : List OpenScope) → map (answer (state final) (happen es) (f x)) chain ≡ map (answer final es x) chain
  answers_same final es x [] = refl
  answers_same final es x (s ∷ ss) = λ i. answer_same final es x s i ∷ answers_same final es x ss i

  arguments_same : (x : Name) → bytes_eq (f x) (codes "arguments") ≡ bytes_eq x (codes "arguments")
  arguments_same x = ap (bytes_eq (f x)) (sym keeps.arguments) ∙ keeps.equal x (codes "arguments")

  tied_same : (x : Name) (w c : ℕ) (o : Option Seen) → tied_by (f x) w c o ≡ tied_by x w c o
  tied_same x w c None = refl
  tied_same x w c (Some s) = rw (arguments_same x) refl

  lookup_same : (x : Name) (w : ℕ) (asks : List Asked) → lookup (f x) w asks ≡ lookup x w asks
  lookup_same x w [] = refl
  lookup_same x w (a ∷ more) = rw (tied_same x w a.scope a.bound, arguments_same x, lookup_same x w more) refl

  ties_same : (final : State) (es : List Event) (n : ℕ) (rs : List Occurrence) → ties (state final) (happen es) n (map (renamed_occurrence f) rs) ≡ tied (ties final es n rs)
  ties_same final es n [] = refl
  ties_same final es n (r ∷ rs) =
      λ i. record { number = n; reference = renamed_occurrence f r; lookup = (ap (lookup (f r.name) r.way) (answers_same final es r.name r.chain) ∙ lookup_same r.name r.way (map (answer final es r.name) r.chain)) i }
      ∷ ties_same final es (suc n) rs i

  -- their order
  filter_same : (test : Tie → Bool) → ((t : Tie) → test (tie t) ≡ test t) → (ts : List Tie) → filter test (tied ts) ≡ tied (filter test ts)
  filter_same test same [] = refl
  filter_same test same (t ∷ ts) = rw (same t, filter_same test same ts) (go (test t))
    where
      go : (b : Bool) → cond b (tie t ∷ tied (filter test ts)) (tied (filter test ts)) ≡ tied (cond b (t ∷ filter test ts) (filter test ts))
      go true = refl
      go false = refl

  settled_same : (ts : List Tie) (e : Event) → settled_at (tied ts) (renamed_event f e) ≡ tied (settled_at ts e)
  settled_same ts (ends_header c) = filter_same (λ t. is_at c (moment t)) (λ t. refl) ts
  settled_same ts (declares d) = refl
  settled_same ts (takes_over c b) = refl

  all_settled : (ts : List Tie) (es : List Event) → flat_map (settled_at (tied ts)) (happen es) ≡ tied (flat_map (settled_at ts) es)
  all_settled ts [] = refl
  all_settled ts (e ∷ es) = (λ i. settled_same ts e i ++ all_settled ts es i) ∙ sym (map_append tie (settled_at ts e) (flat_map (settled_at ts) es))

  order_same : (es : List Event) (ts : List Tie) → in_order (happen es) (tied ts) ≡ tied (in_order es ts)
  order_same es ts =
      (λ i. all_settled ts es i ++ filter_same (λ t. is_last (moment t)) (λ t. refl) ts i)
      ∙ sym (map_append tie (flat_map (settled_at ts) es) (filter (λ t. is_last (moment t)) ts))

  -- the parts of the tables
  entries_same : (ts : List Tie) → map entry_of (tied ts) ≡ map entry_of ts
  entries_same [] = refl
  entries_same (t ∷ ts) = λ i. entry_of t ∷ entries_same ts i

  numbers_same : (ts : List Tie) → map (λ t. t.number) (tied ts) ≡ map (λ t. t.number) ts
  numbers_same [] = refl
  numbers_same (t ∷ ts) = λ i. t.number ∷ numbers_same ts i

  uses_same : (ts : List Tie) (s : ℕ) → uses_of (tied ts) s ≡ uses_of ts s
  uses_same ts s = ap (map (λ t. t.number)) (filter_same (λ t. is_symbol s (tied_symbol t)) (λ t. refl) ts) ∙ numbers_same (filter (λ t. is_symbol s (tied_symbol t)) ts)

  all_uses_same : (ts : List Tie) (ns : List ℕ) → map (uses_of (tied ts)) ns ≡ map (uses_of ts) ns
  all_uses_same ts [] = refl
  all_uses_same ts (n ∷ ns) = λ i. uses_same ts n i ∷ all_uses_same ts ns i

  abbrev keyed : FreeLists → FreeLists
  keyed free = map (renamed_key {A = List ℕ} f) free

  add_same : (fs : FreeLists) (x : Name) (r : ℕ) → add_free (keyed fs) (f x) r ≡ keyed (add_free fs x r)
  add_same [] x r = refl
  add_same (l ∷ fs) x r = rw (keeps.equal x l.0, add_same fs x r) (go (bytes_eq x l.0))
    where
      go : (b : Bool) → cond b ((f l.0, l.1 ++ r ∷ []) ∷ keyed fs) (renamed_key {A = List ℕ} f l ∷ keyed (add_free fs x r)) ≡ keyed (cond b ((l.0, l.1 ++ r ∷ []) ∷ fs) (l ∷ add_free fs x r))
      go true = refl
      go false = refl

  with_same : (free : FreeLists) (t : Tie) → with_tie (keyed free) (tie t) ≡ keyed (with_tie free t)
  with_same free t = go (tied_symbol t)
    where
      go : (o : Option ℕ) → (elim o [ None ↦ add_free (keyed free) (f t.reference.name) t.number | Some s ↦ keyed free ]) ≡ keyed (elim o [ None ↦ add_free free t.reference.name t.number | Some s ↦ free ])
      go None = add_same free t.reference.name t.number
      go (Some s) = refl

  free_same : (free : FreeLists) (ts : List Tie) → fold with_tie (keyed free) (tied ts) ≡ keyed (fold with_tie free ts)
  free_same free [] = refl
  free_same free (t ∷ ts) = ap (λ w. fold with_tie w (tied ts)) (with_same free t) ∙ free_same (with_tie free t) ts

  pure_same : (ms : List Made) (s : ℕ) → any_pure (map (renamed_made f) ms) s ≡ any_pure ms s
  pure_same [] s = refl
  pure_same (m ∷ ms) s = ap (λ b. (m.declaration.naming.is_pure && m.symbol == s) || b) (pure_same ms s)

  all_pure_same : (ms : List Made) (ns : List ℕ) → filter (any_pure (map (renamed_made f) ms)) ns ≡ filter (any_pure ms) ns
  all_pure_same ms [] = refl
  all_pure_same ms (n ∷ ns) = λ i. cond (pure_same ms n i) (n ∷ all_pure_same ms ns i) (all_pure_same ms ns i)

  bindings_same : (bs : List Binding) (ns : List ℕ) → map (bound_by (renamed_bindings f bs)) ns ≡ map (map (renamed_key f)) (map (bound_by bs) ns)
  bindings_same bs [] = refl
  bindings_same bs (n ∷ ns) = λ i. bound_by_same f keeps bs n i ∷ bindings_same bs ns i

  tables_same : (opened : List Scope) (st : State) (ts ordered : List Tie) → tables_from opened (state st) (tied ts) (tied ordered) ≡ renamed_tables f (tables_from opened st ts ordered)
  tables_same opened st ts ordered =
      let count : length (map (renamed_symbol f) st.symbols) ≡ length st.symbols = length-map st.symbols (renamed_symbol f) in
      λ i. record {
        scopes = opened;
        bindings = bindings_same st.bindings (range_with_len 0 (length opened)) i;
        symbols = map (renamed_symbol f) st.symbols;
        references = entries_same ts i;
        uses = (ap (λ n. map (uses_of (tied ordered)) (range_with_len 0 n)) count ∙ all_uses_same ordered (range_with_len 0 (length st.symbols))) i;
        free = free_same [] ordered i;
        pure_symbols = (ap (λ n. filter (any_pure (map (renamed_made f) st.made)) (range_with_len 0 n)) count ∙ all_pure_same st.made (range_with_len 0 (length st.symbols))) i;
      }

  by_parts : (opened opened' : List Scope) (es es' : List Event) (rs rs' : List Occurrence) → opened' ≡ opened → es' ≡ happen es → rs' ≡ map (renamed_occurrence f) rs
      → tables_from opened' (run start es') (ties (run start es') es' 0 rs') (in_order es' (ties (run start es') es' 0 rs')) ≡ renamed_tables f (tables_from opened (run start es) (ties (run start es) es 0 rs) (in_order es (ties (run start es) es 0 rs)))
  by_parts opened opened' es es' rs rs' e h k =
      let st : State = run start es in
      let ts : List Tie = ties st es 0 rs in
      (λ i. tables_from (e i) (run start (h i)) (ties (run start (h i)) (h i) 0 (k i)) (in_order (h i) (ties (run start (h i)) (h i) 0 (k i))))
      ∙ ap (λ w. tables_from opened w (ties w (happen es) 0 (map (renamed_occurrence f) rs)) (in_order (happen es) (ties w (happen es) 0 (map (renamed_occurrence f) rs)))) (run_same f keeps start es)
      ∙ ap (λ w. tables_from opened (state st) w (in_order (happen es) w)) (ties_same st es 0 rs)
      ∙ ap (tables_from opened (state st) (tied ts)) (order_same es ts)
      ∙ tables_same opened st ts (in_order es ts)

  -- the tables of a program with changed names
  pub tables_renamed : (p : Tree) → tables_of (renamed_tree f p) ≡ renamed_tables f (tables_of p)
  tables_renamed p =
      by_parts (scopes (steps p)) (scopes (steps (renamed_tree f p))) (events (steps p)) (events (steps (renamed_tree f p))) (references (steps p)) (references (steps (renamed_tree f p)))
      (scopes_renamed f keeps p) (events_renamed f keeps p) (references_renamed f p)
