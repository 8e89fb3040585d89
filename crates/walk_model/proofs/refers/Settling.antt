-- As references that wait are settled, their entries, uses and free lists become those of their ties.
use Rattle.std.proofs.Common.{◌≡◌, ℕ, zero, suc, ◌+◌, ◌<◌, ◌≤◌, List, [], ◌∷◌, ◌++◌, Option, Some, None, Bool, true, false, cond, refl, sym, ap, subst, ◌∙◌, length, map, bytes_eq, slice_index_or, inl, inr, arith}
use Rattle.std.specs.Prelude.{slice_set, filter}
use Rattle.std.specs.List.{range_with_len}
use Rattle.std.specs.Option.{unwrap_or}
use Rattle.std.specs.Map.{lookup}
use Rattle.std.proofs.lemmas.List.{length-append, append_assoc, append-nil}
use Rattle.std.proofs.lemmas.List.Sums.{fold-append}
use Rattle.std.proofs.lemmas.Bool.Decides.{eqb_tells}
use Rattle.indexmap.specs.IndexMap.{insert_entry}
use Rattle.semantic_syntax.specs.Usable.{settled}
use Rattle.semantic_syntax.specs.declared.references.Reference.{Reference}
use Rattle.semantic_syntax.specs.Tables.{Name, Tables, Symbol, FreeLists}
use Rattle.semantic_syntax.specs.Reading.{no_symbol, no_reference, reference_of}
use Rattle.semantic_model.specs.FreeNames.{add_free}
use Rattle.semantic_model.specs.Place.{innermost}
use Rattle.semantic_syntax.specs.Outcome.{Pending, Outcome, means, is_free, waits, staying, waiting_on, looked_up_from}
use Rattle.semantic_model.specs.Tie.{Tie, tied_symbol as symbol_tied, final_flags}
use Rattle.semantic_model.specs.TablesOf.{entry_of, is_symbol, uses_of, with_tie, free_of}
use Rattle.walk_model.specs.Settles.{tie, set_free, settle_one, settle}

-- a reference that waits
abbrev pub open_entry : Tie → Reference
open_entry t = record { node_id = t.reference.node; scope_id = (innermost t.reference.chain).number; flags = record { bits = t.reference.way }; symbol_id = None }

-- ties, the entries of their references, and what waits of them
pub data Tracks (D : Tie → Type 0) (W : Tie → Pending → Type 0) : List Tie → List Reference → List Pending → Type 0 where
  none : Tracks D W [] [] []
  is_done : {t : Tie} {ts : List Tie} {rs : List Reference} {es : List Pending} → D t → Tracks D W ts rs es → Tracks D W (t ∷ ts) (entry_of t ∷ rs) es
  is_open : {t : Tie} {e : Pending} {ts : List Tie} {rs : List Reference} {es : List Pending} → W t e → Tracks D W ts rs es → Tracks D W (t ∷ ts) (open_entry t ∷ rs) (e ∷ es)

-- the lists of references hold what is settled, in order
pub record Lists (done : List Tie) (m : ℕ) (t : Tables) : Type 0 where
  pub uses : t.uses ≡ map (uses_of done) (range_with_len 0 m)
  pub beyond : (s : ℕ) → m ≤ s → uses_of done s ≡ []
  pub free : t.free ≡ free_of done

-- what becomes of a reference that waits is right: it is settled now as its tie tells, or waits on
pub data IsRight (W : Tie → Pending → Type 0) (ys : List Symbol) (now : Tie → Bool) (t : Tie) (e : Pending) : Outcome → Type 0 where
  ties : (y : ℕ) → now t ≡ true → symbol_tied t ≡ Some y → y < length ys → final_flags t ≡ settled t.reference.way (slice_index_or ys y no_symbol).flags.bits → IsRight W ys now t e (means y)
  frees : now t ≡ true → symbol_tied t ≡ None → final_flags t ≡ t.reference.way → IsRight W ys now t e is_free
  goes_on : (s : ℕ) → now t ≡ false → W t (record e { lookup_scope = s }) → IsRight W ys now t e (waits s)

abbrev pub AreNumbered : ℕ → List Tie → Type 0
AreNumbered n [] = Unit {0}
AreNumbered n (t ∷ ts) = (t.number ≡ n) × AreNumbered (suc n) ts

get_middle : (xs : List Reference) (x : Reference) (ys : List Reference) (n : ℕ) → length xs ≡ n → slice_index_or (xs ++ x ∷ ys) n no_reference ≡ x
get_middle [] x ys zero e = refl
get_middle [] x ys (suc n) e = absurd (omega arith)
get_middle (z ∷ xs) x ys zero e = absurd (omega arith)
get_middle (z ∷ xs) x ys (suc n) e = get_middle xs x ys n (omega arith)

set_middle : (xs : List Reference) (x y : Reference) (ys : List Reference) (n : ℕ) → length xs ≡ n → slice_set (xs ++ x ∷ ys) n y ≡ xs ++ y ∷ ys
set_middle [] x y ys zero e = refl
set_middle [] x y ys (suc n) e = absurd (omega arith)
set_middle (z ∷ xs) x y ys zero e = absurd (omega arith)
set_middle (z ∷ xs) x y ys (suc n) e = ap (λ l. z ∷ l) (set_middle xs x y ys n (omega arith))

uses-push : (ts : List Tie) (t : Tie) (s : ℕ) → uses_of (ts ++ t ∷ []) s ≡ uses_of ts s ++ cond (is_symbol s (symbol_tied t)) (t.number ∷ []) []
uses-push [] t s = by (is_symbol s (symbol_tied t))
  where
    by : (b : Bool) → map (λ (u : Tie). u.number) (cond b (t ∷ []) []) ≡ cond b (t.number ∷ []) []
    by true = refl
    by false = refl
uses-push (u ∷ ts) t s = by (is_symbol s (symbol_tied u)) (uses-push ts t s)
  where
    by : (b : Bool) → uses_of (ts ++ t ∷ []) s ≡ uses_of ts s ++ cond (is_symbol s (symbol_tied t)) (t.number ∷ []) []
        → map (λ (v : Tie). v.number) (cond b (u ∷ filter (λ v. is_symbol s (symbol_tied v)) (ts ++ t ∷ [])) (filter (λ v. is_symbol s (symbol_tied v)) (ts ++ t ∷ [])))
        ≡ map (λ (v : Tie). v.number) (cond b (u ∷ filter (λ v. is_symbol s (symbol_tied v)) ts) (filter (λ v. is_symbol s (symbol_tied v)) ts)) ++ cond (is_symbol s (symbol_tied t)) (t.number ∷ []) []
    by true h = ap (λ l. u.number ∷ l) h
    by false h = h

uses_other : (ts : List Tie) (t : Tie) (y s : ℕ) → symbol_tied t ≡ Some y → (y ≡ s → ⊥) → uses_of ts s ≡ uses_of (ts ++ t ∷ []) s
uses_other ts t y s e n = sym (uses-push ts t s ∙ ap (λ o. uses_of ts s ++ cond (is_symbol s o) (t.number ∷ []) []) e ∙ (elim (eqb_tells y s) [
  | inl q ↦ absurd (n q.1)
  | inr q ↦ ap (λ b. uses_of ts s ++ cond b (t.number ∷ []) []) q.0 ∙ append-nil (uses_of ts s)
]))

uses_same : (ts : List Tie) (t : Tie) (y s : ℕ) → symbol_tied t ≡ Some y → y ≡ s → uses_of ts s ++ t.number ∷ [] ≡ uses_of (ts ++ t ∷ []) s
uses_same ts t y s e n = sym (uses-push ts t s ∙ ap (λ o. uses_of ts s ++ cond (is_symbol s o) (t.number ∷ []) []) e ∙ (elim (eqb_tells y s) [
  | inl q ↦ ap (λ b. uses_of ts s ++ cond b (t.number ∷ []) []) q.0
  | inr q ↦ absurd (q.1 n)
]))

uses_apart : (ts : List Tie) (t : Tie) (y i k : ℕ) → symbol_tied t ≡ Some y → y < i → map (uses_of ts) (range_with_len i k) ≡ map (uses_of (ts ++ t ∷ [])) (range_with_len i k)
uses_apart ts t y i zero e l = refl
uses_apart ts t y i (suc k) e l =
    let first : uses_of ts i ≡ uses_of (ts ++ t ∷ []) i = uses_other ts t y i e (λ q. absurd (omega (arith, q, l))) in
    let rest : map (uses_of ts) (range_with_len (i + 1) k) ≡ map (uses_of (ts ++ t ∷ [])) (range_with_len (i + 1) k) = uses_apart ts t y (i + 1) k e (omega arith) in
    λ m. first m ∷ rest m

-- the list of one symbol grows
uses_set : (ts : List Tie) (t : Tie) (y i j k : ℕ) → symbol_tied t ≡ Some y → i + j ≡ y → j < k
    → slice_set (map (uses_of ts) (range_with_len i k)) j (slice_index_or (map (uses_of ts) (range_with_len i k)) j [] ++ t.number ∷ []) ≡ map (uses_of (ts ++ t ∷ [])) (range_with_len i k)
uses_set ts t y i j zero e f l = absurd (omega arith)
uses_set ts t y i zero (suc k) e f l =
    let first : uses_of ts i ++ t.number ∷ [] ≡ uses_of (ts ++ t ∷ []) i = uses_same ts t y i e (omega arith) in
    let rest : map (uses_of ts) (range_with_len (i + 1) k) ≡ map (uses_of (ts ++ t ∷ [])) (range_with_len (i + 1) k) = uses_apart ts t y (i + 1) k e (omega arith) in
    λ m. first m ∷ rest m
uses_set ts t y i (suc j) (suc k) e f l =
    let first : uses_of ts i ≡ uses_of (ts ++ t ∷ []) i = uses_other ts t y i e (λ q. absurd (omega (arith, q, f))) in
    let rest : slice_set (map (uses_of ts) (range_with_len (i + 1) k)) j (slice_index_or (map (uses_of ts) (range_with_len (i + 1) k)) j [] ++ t.number ∷ []) ≡ map (uses_of (ts ++ t ∷ [])) (range_with_len (i + 1) k) =
    uses_set ts t y (i + 1) j k e (omega arith) (omega arith) in
    λ m. first m ∷ rest m

uses_free : (ts : List Tie) (t : Tie) (xs : List ℕ) → symbol_tied t ≡ None → map (uses_of ts) xs ≡ map (uses_of (ts ++ t ∷ [])) xs
uses_free ts t xs e = λ i. map (λ s. same s i) xs
  where
    same : (s : ℕ) → uses_of ts s ≡ uses_of (ts ++ t ∷ []) s
    same s = sym (uses-push ts t s ∙ ap (λ o. uses_of ts s ++ cond (is_symbol s o) (t.number ∷ []) []) e ∙ append-nil (uses_of ts s))

-- a name's list grows
insert_is_add : (fs : FreeLists) (x : Name) (r : ℕ) → insert_entry bytes_eq fs x (unwrap_or (lookup (bytes_eq x) fs) [] ++ r ∷ []) ≡ add_free fs x r
insert_is_add [] x r = refl
insert_is_add (f ∷ fs) x r = by (bytes_eq x f.0) refl (insert_is_add fs x r)
  where
    by : (b : Bool) → bytes_eq x f.0 ≡ b → insert_entry bytes_eq fs x (unwrap_or (lookup (bytes_eq x) fs) [] ++ r ∷ []) ≡ add_free fs x r
        → insert_entry bytes_eq (f ∷ fs) x (unwrap_or (cond b (Some f.1) (lookup (bytes_eq x) fs)) [] ++ r ∷ []) ≡ cond b ((f.0, f.1 ++ r ∷ []) ∷ fs) (f ∷ add_free fs x r)
    by true e h = rw e refl
    by false e h = rw e (ap (λ l. f ∷ l) h)

free_tied : (ts : List Tie) (t : Tie) (y : ℕ) → symbol_tied t ≡ Some y → free_of ts ≡ free_of (ts ++ t ∷ [])
free_tied ts t y e = sym (fold-append with_tie [] ts (t ∷ []) ∙ by (symbol_tied t) e)
  where
    by : (o : Option ℕ) → o ≡ Some y → (elim o [ None ↦ add_free (free_of ts) t.reference.name t.number | Some s ↦ free_of ts ]) ≡ free_of ts
    by None q = absurd cc
    by (Some s) q = refl

free_freed : (ts : List Tie) (t : Tie) → symbol_tied t ≡ None → add_free (free_of ts) t.reference.name t.number ≡ free_of (ts ++ t ∷ [])
free_freed ts t e = sym (fold-append with_tie [] ts (t ∷ []) ∙ by (symbol_tied t) e)
  where
    by : (o : Option ℕ) → o ≡ None → (elim o [ None ↦ add_free (free_of ts) t.reference.name t.number | Some s ↦ free_of ts ]) ≡ add_free (free_of ts) t.reference.name t.number
    by None q = refl
    by (Some s) q = absurd cc

-- after the settling
pub record Settled (D : Tie → Type 0) (W : Tie → Pending → Type 0) (before : List Reference) (done new ts : List Tie) (m : ℕ) (later : List Pending) (t : Tables) : Type 0 where
  pub entries : List Reference
  pub references : t.references ≡ before ++ entries
  pub tracks : Tracks D W ts entries later
  pub lists : Lists (done ++ new) m t

module _ (D DoneThen : Tie → Type 0) (W WaitsThen : Tie → Pending → Type 0) (ys : List Symbol) (now : Tie → Bool) (outcome : Pending → Outcome)
    (stays_done : (t : Tie) → D t → DoneThen t) (done_now : (t : Tie) → now t ≡ true → DoneThen t) (done_before : (t : Tie) → D t → now t ≡ false)
    (named : (t : Tie) (e : Pending) → W t e → (e.name ≡ t.reference.name) × (e.reference ≡ t.number))
    (right : (t : Tie) (e : Pending) → W t e → IsRight WaitsThen ys now t e (outcome e)) where
  push_references : (before : List Reference) (x : Reference) (rs : List Reference) → before ++ x ∷ rs ≡ (before ++ x ∷ []) ++ rs
  push_references before x rs = sym (append_assoc before (x ∷ []) rs)

  push_length : (before : List Reference) (x : Reference) (n : ℕ) → length before ≡ n → length (before ++ x ∷ []) ≡ suc n
  push_length before x n e = omega (arith, length-append before (x ∷ []), e)

  -- the list goes on with one tie more in front
  more_done : (before : List Reference) (done new : List Tie) (t : Tie) (ts : List Tie) (m : ℕ) (later : List Pending) (u : Tables) → DoneThen t → Settled DoneThen WaitsThen (before ++ entry_of t ∷ []) done new ts m later u → Settled DoneThen WaitsThen before done new (t ∷ ts) m later u
  more_done before done new t ts m later u d h = record {
    entries = entry_of t ∷ h.entries;
    references = h.references ∙ append_assoc before (entry_of t ∷ []) h.entries;
    tracks = is_done d h.tracks;
    lists = h.lists;
  }

  more_open : (before : List Reference) (done new : List Tie) (t : Tie) (e : Pending) (ts : List Tie) (m : ℕ) (later : List Pending) (u : Tables) → WaitsThen t e → Settled DoneThen WaitsThen (before ++ open_entry t ∷ []) done new ts m later u → Settled DoneThen WaitsThen before done new (t ∷ ts) m (e ∷ later) u
  more_open before done new t e ts m later u w h = record {
    entries = open_entry t ∷ h.entries;
    references = h.references ∙ append_assoc before (open_entry t ∷ []) h.entries;
    tracks = is_open w h.tracks;
    lists = h.lists;
  }

  -- the new tie was done first
  shift_done : (before : List Reference) (done new : List Tie) (t : Tie) (ts us : List Tie) (m : ℕ) (later : List Pending) (u : Tables) → new ≡ t ∷ us → Settled DoneThen WaitsThen before (done ++ t ∷ []) us ts m later u → Settled DoneThen WaitsThen before done new ts m later u
  shift_done before done new t ts us m later u e h = record {
    entries = h.entries;
    references = h.references;
    tracks = h.tracks;
    lists = subst (λ l. Lists l m u) (append_assoc done (t ∷ []) us ∙ ap (λ l. done ++ l) (sym e)) h.lists;
  }

  tie_entry : (t : Tie) (y : ℕ) → symbol_tied t ≡ Some y → (f : ℕ) → final_flags t ≡ f → entry_of t ≡ record { node_id = t.reference.node; scope_id = (innermost t.reference.chain).number; flags = record { bits = f }; symbol_id = Some y }
  tie_entry t y e f g = λ i. record { node_id = t.reference.node; scope_id = (innermost t.reference.chain).number; flags = record { bits = g i }; symbol_id = e i }

  free_entry : (t : Tie) → symbol_tied t ≡ None → final_flags t ≡ t.reference.way → entry_of t ≡ open_entry t
  free_entry t e g = λ i. record { node_id = t.reference.node; scope_id = (innermost t.reference.chain).number; flags = record { bits = g i }; symbol_id = e i }

  -- a reference is tied
  tie_references : (u : Tables) (before rs : List Reference) (t : Tie) (n y : ℕ) → length before ≡ n → u.references ≡ before ++ open_entry t ∷ rs → u.symbols ≡ ys → symbol_tied t ≡ Some y → final_flags t ≡ settled t.reference.way (slice_index_or ys y no_symbol).flags.bits
      → (tie u n y).references ≡ before ++ entry_of t ∷ rs
  tie_references u before rs t n y l e s q f =
      let got : reference_of u n ≡ open_entry t = ap (λ xs. slice_index_or xs n no_reference) e ∙ get_middle before (open_entry t) rs n l in
      (λ i. slice_set (e i) n (record { node_id = (got i).node_id; scope_id = (got i).scope_id; flags = record { bits = settled (got i).flags.bits (slice_index_or (s i) y no_symbol).flags.bits }; symbol_id = Some y }))
      ∙ set_middle before (open_entry t) _ rs n l
      ∙ ap (λ x. before ++ x ∷ rs) (sym (tie_entry t y q (settled t.reference.way (slice_index_or ys y no_symbol).flags.bits) f))

  tie_lists : (u : Tables) (done : List Tie) (t : Tie) (n y m : ℕ) → t.number ≡ n → y < m → symbol_tied t ≡ Some y → Lists done m u → Lists (done ++ t ∷ []) m (tie u n y)
  tie_lists u done t n y m k l q h = record {
    uses = (λ i. slice_set (h.uses i) y (slice_index_or (h.uses i) y [] ++ sym k i ∷ [])) ∙ uses_set done t y 0 y m q (omega arith) l;
    beyond = λ s i. sym (uses_other done t y s q (λ j. absurd (omega (arith, j, l, i)))) ∙ h.beyond s i;
    free = h.free ∙ free_tied done t y q;
  }

  free_lists : (u : Tables) (done : List Tie) (t : Tie) (e : Pending) (m : ℕ) → e.name ≡ t.reference.name → e.reference ≡ t.number → symbol_tied t ≡ None → Lists done m u → Lists (done ++ t ∷ []) m (set_free u e)
  free_lists u done t e m x r q h = record {
    uses = h.uses ∙ uses_free done t (range_with_len 0 m) q;
    beyond = λ s i. uses-push done t s ∙ ap (λ o. uses_of done s ++ cond (is_symbol s o) (t.number ∷ []) []) q ∙ append-nil (uses_of done s) ∙ h.beyond s i;
    free = insert_is_add u.free e.name e.reference ∙ (λ i. add_free (h.free i) (x i) (r i)) ∙ free_freed done t q;
  }

  abbrev new_of : List Tie → List Tie
  new_of ts = filter now ts

  pub settle_tracks : (ts : List Tie) (rs : List Reference) (es : List Pending) (n m : ℕ) (before : List Reference) (done : List Tie) (u : Tables) → Tracks D W ts rs es → AreNumbered n ts → length before ≡ n → m ≡ length ys → u.references ≡ before ++ rs → u.symbols ≡ ys → Lists done m u
      → Settled DoneThen WaitsThen before done (filter now ts) ts m (staying es (map outcome es)) (settle u es (map outcome es))
  settle_tracks ts rs es n m before done u none k l z e s h = record { entries = []; references = e; tracks = none; lists = subst (λ x. Lists x m u) (sym (append-nil done)) h }
  settle_tracks ts rs es n m before done u (is_done {t = t} {ts = ts2} {rs = rs2} {es = es2} d tracks) k l z e s h =
      let later : now t ≡ false = done_before t d in
      let rest : Settled DoneThen WaitsThen (before ++ entry_of t ∷ []) done (filter now ts2) ts2 m (staying es2 (map outcome es2)) (settle u es2 (map outcome es2)) =
      settle_tracks ts2 rs2 es2 (suc n) m (before ++ entry_of t ∷ []) done u tracks k.1 (push_length before (entry_of t) n l) z (e ∙ push_references before (entry_of t) rs2) s h in
      subst (λ l2. Settled DoneThen WaitsThen before done l2 (t ∷ ts2) m (staying es2 (map outcome es2)) (settle u es2 (map outcome es2))) (ap (λ b. cond b (t ∷ filter now ts2) (filter now ts2)) (sym later))
      (more_done before done (filter now ts2) t ts2 m (staying es2 (map outcome es2)) (settle u es2 (map outcome es2)) (stays_done t d) rest)
  settle_tracks ts rs es n m before done u (is_open {t = t} {e = x} {ts = ts2} {rs = rs2} {es = es2} w tracks) k l z e s h =
      by (outcome x) (right t x w)
      (λ v x2 d2 e2 s2 h2. settle_tracks ts2 rs2 es2 (suc n) m (before ++ x2 ∷ []) d2 v tracks k.1 (push_length before x2 n l) z e2 s2 h2)
    where
      Rest : Type 0
      Rest = (v : Tables) (x2 : Reference) (d2 : List Tie) → v.references ≡ (before ++ x2 ∷ []) ++ rs2 → v.symbols ≡ ys → Lists d2 m v → Settled DoneThen WaitsThen (before ++ x2 ∷ []) d2 (filter now ts2) ts2 m (staying es2 (map outcome es2)) (settle v es2 (map outcome es2))

      number : x.reference ≡ n
      number = (named t x w).1 ∙ k.0

      by : (o : Outcome) → IsRight WaitsThen ys now t x o → Rest → Settled DoneThen WaitsThen before done (filter now (t ∷ ts2)) (t ∷ ts2) m (waiting_on looked_up_from x o (staying es2 (map outcome es2))) (settle (settle_one u x o) es2 (map outcome es2))
      by o (ties y a q within f) rest =
          let v : Tables = tie u x.reference y in
          let refs : v.references ≡ (before ++ entry_of t ∷ []) ++ rs2 =
          subst (λ r. (tie u r y).references ≡ before ++ entry_of t ∷ rs2) (sym number) (tie_references u before rs2 t n y l e s q f) ∙ push_references before (entry_of t) rs2 in
          let lists : Lists (done ++ t ∷ []) m v = tie_lists u done t x.reference y m (sym (named t x w).1) (omega (arith, within, z)) q h in
          shift_done before done (filter now (t ∷ ts2)) t (t ∷ ts2) (filter now ts2) m (staying es2 (map outcome es2)) (settle v es2 (map outcome es2)) (ap (λ b. cond b (t ∷ filter now ts2) (filter now ts2)) a)
          (more_done before (done ++ t ∷ []) (filter now ts2) t ts2 m (staying es2 (map outcome es2)) (settle v es2 (map outcome es2)) (done_now t a) (rest v (entry_of t) (done ++ t ∷ []) refs s lists))
      by o (frees a q f) rest =
          let v : Tables = set_free u x in
          let refs : v.references ≡ (before ++ entry_of t ∷ []) ++ rs2 = e ∙ ap (λ r. before ++ r ∷ rs2) (sym (free_entry t q f)) ∙ push_references before (entry_of t) rs2 in
          let lists : Lists (done ++ t ∷ []) m v = free_lists u done t x m (named t x w).0 (named t x w).1 q h in
          shift_done before done (filter now (t ∷ ts2)) t (t ∷ ts2) (filter now ts2) m (staying es2 (map outcome es2)) (settle v es2 (map outcome es2)) (ap (λ b. cond b (t ∷ filter now ts2) (filter now ts2)) a)
          (more_done before (done ++ t ∷ []) (filter now ts2) t ts2 m (staying es2 (map outcome es2)) (settle v es2 (map outcome es2)) (done_now t a) (rest v (entry_of t) (done ++ t ∷ []) refs s lists))
      by o (goes_on c a w2) rest =
          subst (λ l2. Settled DoneThen WaitsThen before done l2 (t ∷ ts2) m (record x { lookup_scope = c } ∷ staying es2 (map outcome es2)) (settle u es2 (map outcome es2))) (ap (λ b. cond b (t ∷ filter now ts2) (filter now ts2)) (sym a))
          (more_open before done (filter now ts2) t (record x { lookup_scope = c }) ts2 m (staying es2 (map outcome es2)) (settle u es2 (map outcome es2)) w2
          (rest u (open_entry t) done (e ∙ push_references before (open_entry t) rs2) s h))
