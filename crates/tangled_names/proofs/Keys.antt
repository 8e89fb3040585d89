-- What sets have that grow by keys, and what their loops keep.
use Rattle.std.proofs.Common.{◌≡◌, ℕ, ◌==◌, ◌+◌, ◌<◌, ◌≤◌, List, [], ◌∷◌, ◌++◌, Bool, true, false, cond, ◌&&◌, ◌||◌, map, filter, length, drop, get_or, inl, inr, refl, sym, ap, ◌∙◌}
use Rattle.std.specs.Str.{bytes_eq}
use Rattle.std.proofs.lemmas.Bool.{and_parts}
use Rattle.std.proofs.lemmas.Bool.Decides.{eqb_tells}
use Rattle.std.proofs.lemmas.List.{at_drop_more, at_drop_all}
use Rattle.std.proofs.lemmas.Slice.Eq.{bytes_eq-Decides}
use Rattle.semantic_syntax.proofs.Truth.{or_false, same_turned}
use Rattle.semantic_syntax.specs.Members.{contains}
use Rattle.semantic_syntax.specs.Reading.{no_symbol, scope_of, symbol_of}
use Rattle.semantic_syntax.specs.Tables.{Name, Symbol, Tables}
use Rattle.tangle_model.specs.Mention.{Mention}
use Rattle.tangle_model.specs.Repeated.{Key, same_key, is_mention_of, key_of, keys_of, key_stands, repeats}
use Rattle.tangle_model.specs.Tangled.{any_mention, any_symbol, is_merged_member, merged_openers, is_name_of, is_shared}
use Rattle.tangle_model.specs.declared.what.What.{What}
use Rattle.tangle_model.specs.declared.what.What.TheVariants as what
use Rattle.tangled_names.specs.Gathered.{noted_of}
use Rattle.tangled_names.specs.Stored.{with_key, with_key_if, name_key, has_name, node_key, openers_by}
use Rattle.tangled_names.specs.declared.mention.Mention as stored

-- ---- equal keys

numbers_equal : (m n : ℕ) → (m == n) ≡ true → m ≡ n
numbers_equal m n h = elim (eqb_tells m n) [ inl a ↦ a.1 | inr b ↦ absurd cc ]

keys_equal : (j k : Key) → same_key j k ≡ true → j ≡ k
keys_equal j k h =
    let parts = and_parts (bytes_eq j.name k.name) (j.home == k.home) h in
    let names : j.name ≡ k.name = (bytes_eq-Decides j.name k.name).0 parts.0 in
    let homes : j.home ≡ k.home = numbers_equal j.home k.home parts.1 in
    λ i. record { name = names i; home = homes i }

-- ---- one key more

stands_append : (j : Key) (ks : List Key) (k : Key) → key_stands j (ks ++ k ∷ []) ≡ (same_key j k || key_stands j ks)
stands_append j [] k = refl
stands_append j (l ∷ ks) k = by (same_key j l) (same_key j k) (key_stands j ks) (key_stands j (ks ++ k ∷ [])) (stands_append j ks k)
  where
    by : (a b c d : Bool) → d ≡ (b || c) → (a || d) ≡ (b || (a || c))
    by true true c d e = refl
    by true false c d e = refl
    by false b c d e = e

pub stands_more : (j k : Key) (ks : List Key) → key_stands j (with_key ks k) ≡ (same_key j k || key_stands j ks)
stands_more j k ks = by (key_stands k ks) refl
  where
    known : (b : Bool) → same_key j k ≡ b → key_stands k ks ≡ true → key_stands j ks ≡ (b || key_stands j ks)
    known true e h = ap (λ x. key_stands x ks) (keys_equal j k e) ∙ h
    known false e h = refl

    by : (b : Bool) → key_stands k ks ≡ b → key_stands j (cond b ks (ks ++ k ∷ [])) ≡ (same_key j k || key_stands j ks)
    by true h = known (same_key j k) refl h
    by false h = stands_append j ks k

pub stands_more_if : (b : Bool) (j k : Key) (ks : List Key) → key_stands j (with_key_if b ks k) ≡ ((b && same_key j k) || key_stands j ks)
stands_more_if true j k ks = stands_more j k ks
stands_more_if false j k ks = refl

and_true : (a : Bool) → (a && true) ≡ a
and_true true = refl
and_true false = refl

pub name_more_if : (b : Bool) (x name : Name) (ks : List Key) → has_name (with_key_if b ks (name_key name)) x ≡ ((b && bytes_eq x name) || has_name ks x)
name_more_if b x name ks = stands_more_if b (name_key x) (name_key name) ks ∙ ap (λ c. (b && c) || has_name ks x) (and_true (bytes_eq x name))

node_more_if : (b : Bool) (m n : ℕ) (ks : List Key) → key_stands (node_key m) (with_key_if b ks (node_key n)) ≡ ((b && m == n) || key_stands (node_key m) ks)
node_more_if b m n ks = stands_more_if b (node_key m) (node_key n) ks

-- ---- a turn of a loop that adds what passes a test

-- what was had, what is next, and what is left
regroup : (new next old left whole goal : Bool) → new ≡ (next || old) → whole ≡ (next || left) → (old || whole) ≡ goal → (new || left) ≡ goal
regroup new true true left whole goal e f h = cc
regroup new true false left whole goal e f h = cc
regroup new false old left whole goal e f h = cc

-- a key that is next, among those that were met
met_same : (S A T L goal : Bool) → T ≡ S → (A ≡ true → S ≡ true) → cond S (A || true) L ≡ goal → ((T || A) || L) ≡ goal
met_same true true true L goal e k h = h
met_same true false true L goal e k h = h
met_same true A false L goal e k h = absurd cc
met_same false A true L goal e k h = absurd cc
met_same false true false L goal e k h = absurd (let x : false ≡ true = k refl in cc)
met_same false false false L goal e k h = h

met_other : (S A T L R goal : Bool) → cond S (A || L) R ≡ goal → cond S (((T && false) || A) || L) R ≡ goal
met_other S A true L R goal h = h
met_other S A false L R goal h = h

met_key : (k here : Key) (seen again : List Key) (L R goal s : Bool) → same_key k here ≡ s → (key_stands k again ≡ true → key_stands k seen ≡ true)
    → cond (key_stands k seen) (key_stands k again || (s || L)) (cond s L R) ≡ goal → cond (s || key_stands k seen) (((key_stands here seen && s) || key_stands k again) || L) R ≡ goal
met_key k here seen again L R goal true e kept h =
    ap (λ t. (t || key_stands k again) || L) (and_true (key_stands here seen))
    ∙ met_same (key_stands k seen) (key_stands k again) (key_stands here seen) L goal (ap (λ x. key_stands x seen) (sym (keys_equal k here e))) kept h
met_key k here seen again L R goal false e kept h = met_other (key_stands k seen) (key_stands k again) (key_stands here seen) L R goal h

met_kept : (b T s A S : Bool) → (A ≡ true → S ≡ true) → (((b && T) && s) || A) ≡ true → ((b && s) || S) ≡ true
met_kept true true true A S k h = refl
met_kept true true false A S k h = k h
met_kept true false s A S k h = later s (k h)
  where
    later : (s : Bool) → S ≡ true → (s || S) ≡ true
    later true e = refl
    later false e = e
met_kept false T s A S k h = k h

module _ (ms : List stored.Mention) (i : ℕ) (d : stored.Mention) (within : i < length ms) where
  -- what is next
  abbrev m : stored.Mention
  m = get_or ms i d

  -- what is left, with what is next apart
  next_apart : {Y : Type 0} (F : List Mention → Y) → F (map noted_of (drop i ms)) ≡ F (noted_of m ∷ map noted_of (drop (i + 1) ms))
  next_apart F = at_drop_more (λ xs. F (map noted_of xs)) ms i d within

  pub keys_turn : (w : What) (k : Key) (b : Bool) (old new : List Key) (goal : Bool) → b ≡ is_mention_of w (noted_of m) → new ≡ with_key_if b old (key_of (noted_of m))
      → (key_stands k old || key_stands k (keys_of w (map noted_of (drop i ms)))) ≡ goal → (key_stands k new || key_stands k (keys_of w (map noted_of (drop (i + 1) ms)))) ≡ goal
  keys_turn w k b old new goal same made h =
      let left : List Mention = map noted_of (drop (i + 1) ms) in
      regroup (key_stands k new) (is_mention_of w (noted_of m) && same_key k (key_of (noted_of m))) (key_stands k old) (key_stands k (keys_of w left)) (key_stands k (keys_of w (map noted_of (drop i ms)))) goal
      (ap (key_stands k) made ∙ stands_more_if b k (key_of (noted_of m)) old ∙ ap (λ c. (c && same_key k (key_of (noted_of m))) || key_stands k old) same)
      (next_apart (λ xs. key_stands k (keys_of w xs)) ∙ by (is_mention_of w (noted_of m)) left)
      h
    where
      by : (b : Bool) (left : List Mention) → key_stands k (map key_of (cond b (noted_of m ∷ filter (is_mention_of w) left) (filter (is_mention_of w) left))) ≡ ((b && same_key k (key_of (noted_of m))) || key_stands k (keys_of w left))
      by true left = refl
      by false left = refl

  pub names_turn : (test : Mention → Bool) (b : Bool) (x text : Name) (old new : List Key) (goal : Bool) → b ≡ test (noted_of m) → text ≡ (noted_of m).name → new ≡ with_key_if b old (name_key text)
      → (has_name old x || any_mention test (map noted_of (drop i ms)) x) ≡ goal → (has_name new x || any_mention test (map noted_of (drop (i + 1) ms)) x) ≡ goal
  names_turn test b x text old new goal same named made h =
      let left : List Mention = map noted_of (drop (i + 1) ms) in
      regroup (has_name new x) (test (noted_of m) && bytes_eq x (noted_of m).name) (has_name old x) (any_mention test left x) (any_mention test (map noted_of (drop i ms)) x) goal
      (ap (λ ks. has_name ks x) made ∙ name_more_if b x text old ∙ ap (λ c. (c && bytes_eq x text) || has_name old x) same ∙ ap (λ y. (test (noted_of m) && bytes_eq x y) || has_name old x) named)
      (next_apart (λ xs. any_mention test xs x))
      h

  pub openers_turn : (keys : List Key) (b : Bool) (n : ℕ) (old new : List Key) (goal : Bool) → b ≡ (is_mention_of what.Block (noted_of m) && key_stands (key_of (noted_of m)) keys) → new ≡ with_key_if b old (node_key m.home)
      → (key_stands (node_key n) old || contains (openers_by keys (map noted_of (drop i ms))) n) ≡ goal → (key_stands (node_key n) new || contains (openers_by keys (map noted_of (drop (i + 1) ms))) n) ≡ goal
  openers_turn keys b n old new goal same made h =
      let left : List Mention = map noted_of (drop (i + 1) ms) in
      regroup (key_stands (node_key n) new) (b && m.home == n) (key_stands (node_key n) old) (contains (openers_by keys left) n) (contains (openers_by keys (map noted_of (drop i ms))) n) goal
      (ap (key_stands (node_key n)) made ∙ node_more_if b n m.home old ∙ ap (λ c. (b && c) || key_stands (node_key n) old) (turned n m.home))
      (next_apart (λ xs. contains (openers_by keys xs) n) ∙ ap (λ c. contains (map (λ (x : Mention). x.home) (cond c (noted_of m ∷ filter (λ x. is_mention_of what.Block x && key_stands (key_of x) keys) left) (filter (λ x. is_mention_of what.Block x && key_stands (key_of x) keys) left))) n) (sym same) ∙ by b left)
      h
    where
      turned : (a c : ℕ) → (a == c) ≡ (c == a)
      turned a c = same_turned a c

      by : (b : Bool) (left : List Mention) → contains (map (λ (x : Mention). x.home) (cond b (noted_of m ∷ filter (λ x. is_mention_of what.Block x && key_stands (key_of x) keys) left) (filter (λ x. is_mention_of what.Block x && key_stands (key_of x) keys) left))) n ≡ ((b && m.home == n) || contains (openers_by keys left) n)
      by true left = refl
      by false left = refl

  -- what was met, and met again
  pub met_turn : (w : What) (k : Key) (b : Bool) (seen seen' again again' : List Key) (goal : Bool) → b ≡ is_mention_of w (noted_of m)
      → seen' ≡ with_key_if b seen (key_of (noted_of m)) → again' ≡ with_key_if (b && key_stands (key_of (noted_of m)) seen) again (key_of (noted_of m))
      → (key_stands k again ≡ true → key_stands k seen ≡ true)
      → cond (key_stands k seen) (key_stands k again || key_stands k (keys_of w (map noted_of (drop i ms)))) (repeats k (keys_of w (map noted_of (drop i ms)))) ≡ goal
      → cond (key_stands k seen') (key_stands k again' || key_stands k (keys_of w (map noted_of (drop (i + 1) ms)))) (repeats k (keys_of w (map noted_of (drop (i + 1) ms)))) ≡ goal
  met_turn w k b seen seen' again again' goal same made made' kept h =
      let more : List Mention = map noted_of (drop (i + 1) ms) in
      let here : Key = key_of (noted_of m) in
      let rest : List Mention → Bool = λ xs. cond (key_stands k seen) (key_stands k again || key_stands k (keys_of w xs)) (repeats k (keys_of w xs)) in
      ap (λ c. cond c (key_stands k again' || key_stands k (keys_of w more)) (repeats k (keys_of w more))) (ap (key_stands k) made ∙ stands_more_if b k here seen)
      ∙ ap (λ c. cond ((b && same_key k here) || key_stands k seen) (c || key_stands k (keys_of w more)) (repeats k (keys_of w more))) (ap (key_stands k) made' ∙ stands_more_if (b && key_stands here seen) k here again)
      ∙ by b more
      (ap (λ c. cond (key_stands k seen) (key_stands k again || key_stands k (map key_of (cond c (noted_of m ∷ filter (is_mention_of w) more) (filter (is_mention_of w) more)))) (repeats k (map key_of (cond c (noted_of m ∷ filter (is_mention_of w) more) (filter (is_mention_of w) more))))) same
      ∙ sym (next_apart rest) ∙ h)
    where
      by : (b : Bool) (more : List Mention)
          → cond (key_stands k seen) (key_stands k again || key_stands k (map key_of (cond b (noted_of m ∷ filter (is_mention_of w) more) (filter (is_mention_of w) more)))) (repeats k (map key_of (cond b (noted_of m ∷ filter (is_mention_of w) more) (filter (is_mention_of w) more)))) ≡ goal
          → cond ((b && same_key k (key_of (noted_of m))) || key_stands k seen) ((((b && key_stands (key_of (noted_of m)) seen) && same_key k (key_of (noted_of m))) || key_stands k again) || key_stands k (keys_of w more)) (repeats k (keys_of w more)) ≡ goal
      by true more was = met_key k (key_of (noted_of m)) seen again (key_stands k (keys_of w more)) (repeats k (keys_of w more)) goal (same_key k (key_of (noted_of m))) refl kept was
      by false more was = was

  pub kept_turn : (k : Key) (b : Bool) (seen seen' again again' : List Key)
      → seen' ≡ with_key_if b seen (key_of (noted_of m)) → again' ≡ with_key_if (b && key_stands (key_of (noted_of m)) seen) again (key_of (noted_of m))
      → (key_stands k again ≡ true → key_stands k seen ≡ true) → key_stands k again' ≡ true → key_stands k seen' ≡ true
  kept_turn k b seen seen' again again' made made' kept h =
      ap (key_stands k) made ∙ stands_more_if b k (key_of (noted_of m)) seen
      ∙ met_kept b (key_stands (key_of (noted_of m)) seen) (same_key k (key_of (noted_of m))) (key_stands k again) (key_stands k seen) kept
      (sym (ap (key_stands k) made' ∙ stands_more_if (b && key_stands (key_of (noted_of m)) seen) k (key_of (noted_of m)) again) ∙ h)

-- ---- the ends of the loops

nothing_left : (had left goal : Bool) → left ≡ false → (had || left) ≡ goal → had ≡ goal
nothing_left had left goal e h = sym (or_false had) ∙ ap (λ b. had || b) (sym e) ∙ h

-- all was met
met_all : (S A L R goal : Bool) → L ≡ false → R ≡ false → (A ≡ true → S ≡ true) → cond S (A || L) R ≡ goal → A ≡ goal
met_all true A L R goal e f k h = nothing_left A L goal e h
met_all false true L R goal e f k h = absurd (let x : false ≡ true = k refl in cc)
met_all false false L R goal e f k h = sym f ∙ h

module _ (ms : List stored.Mention) (i : ℕ) (past : length ms ≤ i) where
  at_end : {Y : Type 0} (F : List Mention → Y) → F (map noted_of (drop i ms)) ≡ F []
  at_end F = at_drop_all (λ xs. F (map noted_of xs)) ms i past

  pub keys_end : (w : What) (k : Key) (ks : List Key) (goal : Bool) → (key_stands k ks || key_stands k (keys_of w (map noted_of (drop i ms)))) ≡ goal → key_stands k ks ≡ goal
  keys_end w k ks goal h = nothing_left (key_stands k ks) (key_stands k (keys_of w (map noted_of (drop i ms)))) goal (at_end (λ xs. key_stands k (keys_of w xs))) h

  pub names_end : (test : Mention → Bool) (x : Name) (ks : List Key) (goal : Bool) → (has_name ks x || any_mention test (map noted_of (drop i ms)) x) ≡ goal → has_name ks x ≡ goal
  names_end test x ks goal h = nothing_left (has_name ks x) (any_mention test (map noted_of (drop i ms)) x) goal (at_end (λ xs. any_mention test xs x)) h

  pub openers_end : (keys : List Key) (n : ℕ) (ks : List Key) (goal : Bool) → (key_stands (node_key n) ks || contains (openers_by keys (map noted_of (drop i ms))) n) ≡ goal → key_stands (node_key n) ks ≡ goal
  openers_end keys n ks goal h = nothing_left (key_stands (node_key n) ks) (contains (openers_by keys (map noted_of (drop i ms))) n) goal (at_end (λ xs. contains (openers_by keys xs) n)) h

  pub met_end : (w : What) (k : Key) (seen again : List Key) (goal : Bool) → (key_stands k again ≡ true → key_stands k seen ≡ true)
      → cond (key_stands k seen) (key_stands k again || key_stands k (keys_of w (map noted_of (drop i ms)))) (repeats k (keys_of w (map noted_of (drop i ms)))) ≡ goal → key_stands k again ≡ goal
  met_end w k seen again goal kept h =
      met_all (key_stands k seen) (key_stands k again) (key_stands k (keys_of w (map noted_of (drop i ms)))) (repeats k (keys_of w (map noted_of (drop i ms)))) goal
      (at_end (λ xs. key_stands k (keys_of w xs))) (at_end (λ xs. repeats k (keys_of w xs))) kept h

-- ---- loops over symbols

module _ (t : Tables) (i : ℕ) (test : Symbol → Bool) (x : Name) where
  pub symbols_turn : (b : Bool) (text : Name) (old new : List Key) (goal : Bool) → i < length t.symbols → b ≡ test (symbol_of t i) → text ≡ (symbol_of t i).name → new ≡ with_key_if b old (name_key text)
      → (has_name old x || any_symbol test (drop i t.symbols) x) ≡ goal → (has_name new x || any_symbol test (drop (i + 1) t.symbols) x) ≡ goal
  symbols_turn b text old new goal within same named made h =
      regroup (has_name new x) (test (symbol_of t i) && bytes_eq x (symbol_of t i).name) (has_name old x) (any_symbol test (drop (i + 1) t.symbols) x) (any_symbol test (drop i t.symbols) x) goal
      (ap (λ ks. has_name ks x) made ∙ name_more_if b x text old ∙ ap (λ c. (c && bytes_eq x text) || has_name old x) same ∙ ap (λ y. (test (symbol_of t i) && bytes_eq x y) || has_name old x) named)
      (at_drop_more (λ ys. any_symbol test ys x) t.symbols i no_symbol within)
      h

  pub symbols_end : (ks : List Key) (goal : Bool) → length t.symbols ≤ i → (has_name ks x || any_symbol test (drop i t.symbols) x) ≡ goal → has_name ks x ≡ goal
  symbols_end ks goal past h = nothing_left (has_name ks x) (any_symbol test (drop i t.symbols) x) goal (at_drop_all (λ ys. any_symbol test ys x) t.symbols i past) h

-- ---- a loop over symbols that meets their names

module _ (t : Tables) (i : ℕ) (x : Name) where
  -- what was met again, and what is met again among what is left
  abbrev pub shared_left : List Key → List Key → Bool
  shared_left seen again = cond (has_name seen x) (has_name again x || is_name_of (drop i t.symbols) x) (is_shared (drop i t.symbols) x)

  pub shared_kept : (text : Name) (seen seen' again again' : List Key)
      → seen' ≡ with_key_if true seen (name_key text) → again' ≡ with_key_if (has_name seen text) again (name_key text)
      → (has_name again x ≡ true → has_name seen x ≡ true) → has_name again' x ≡ true → has_name seen' x ≡ true
  shared_kept text seen seen' again again' made made' kept h =
      ap (λ ks. has_name ks x) made ∙ name_more_if true x text seen
      ∙ met_kept true (has_name seen text) (bytes_eq x text) (has_name again x) (has_name seen x) kept
      (sym (ap (λ ks. has_name ks x) made' ∙ name_more_if (has_name seen text) x text again) ∙ h)

  pub shared_end : (seen again : List Key) (goal : Bool) → length t.symbols ≤ i → (has_name again x ≡ true → has_name seen x ≡ true) → shared_left seen again ≡ goal → has_name again x ≡ goal
  shared_end seen again goal past kept h =
      met_all (has_name seen x) (has_name again x) (is_name_of (drop i t.symbols) x) (is_shared (drop i t.symbols) x) goal
      (at_drop_all (λ ys. is_name_of ys x) t.symbols i past) (at_drop_all (λ ys. is_shared ys x) t.symbols i past) kept h

module _ (t : Tables) (i : ℕ) (x : Name) where
  pub shared_turn : (text : Name) (seen seen' again again' : List Key) (goal : Bool) → i < length t.symbols → text ≡ (symbol_of t i).name
      → seen' ≡ with_key_if true seen (name_key text) → again' ≡ with_key_if (has_name seen text) again (name_key text)
      → (has_name again x ≡ true → has_name seen x ≡ true) → shared_left t i x seen again ≡ goal → shared_left t (i + 1) x seen' again' ≡ goal
  shared_turn text seen seen' again again' goal within named made made' kept h =
      let had : Bool = is_name_of (drop (i + 1) t.symbols) x in
      let twice : Bool = is_shared (drop (i + 1) t.symbols) x in
      ap (λ c. cond c (has_name again' x || had) twice) (ap (λ ks. has_name ks x) made ∙ name_more_if true x text seen)
      ∙ ap (λ c. cond (bytes_eq x text || has_name seen x) (c || had) twice) (ap (λ ks. has_name ks x) made' ∙ name_more_if (has_name seen text) x text again)
      ∙ met_key (name_key x) (name_key text) seen again had twice goal (bytes_eq x text) (and_true (bytes_eq x text)) kept
      (ap (λ y. cond (has_name seen x) (has_name again x || (bytes_eq x y || had)) (cond (bytes_eq x y) had twice)) named
      ∙ sym (at_drop_more (λ ys. cond (has_name seen x) (has_name again x || is_name_of ys x) (is_shared ys x)) t.symbols i no_symbol within)
      ∙ h)

-- ---- keys that are the same by what they are

pub among_same : (ms : List Mention) (w : What) (keys : List Key) (test : Key → Bool) (x : Name) → ((k : Key) → key_stands k keys ≡ test k)
    → any_mention (λ (m : Mention). is_mention_of w m && key_stands (key_of m) keys) ms x ≡ any_mention (λ (m : Mention). is_mention_of w m && test (key_of m)) ms x
among_same ms w keys test x h = λ i. any_mention (λ (m : Mention). is_mention_of w m && h (key_of m) i) ms x

openers_same : (ms : List Mention) (keys : List Key) → ((k : Key) → key_stands k keys ≡ repeats k (keys_of what.Block ms)) → openers_by keys ms ≡ merged_openers ms
openers_same ms keys h = λ i. map (λ (m : Mention). m.home) (filter (λ (m : Mention). is_mention_of what.Block m && h (key_of m) i) ms)

pub members_same : (ms : List Mention) (t : Tables) (openers keys : List Key) (x : Name) → ((k : Key) → key_stands k keys ≡ repeats k (keys_of what.Block ms)) → ((n : ℕ) → key_stands (node_key n) openers ≡ contains (openers_by keys ms) n)
    → any_symbol (λ (y : Symbol). key_stands (node_key (scope_of t y.scope).node) openers) t.symbols x ≡ any_symbol (is_merged_member ms t) t.symbols x
members_same ms t openers keys x h g = λ i. any_symbol (λ (y : Symbol). both (scope_of t y.scope).node i) t.symbols x
  where
    both : (n : ℕ) → key_stands (node_key n) openers ≡ contains (merged_openers ms) n
    both n = g n ∙ ap (λ xs. contains xs n) (openers_same ms keys h)
