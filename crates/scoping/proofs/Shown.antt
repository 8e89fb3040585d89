-- What the tables show, as their parts change.
use Rattle.std.proofs.Common.{◌≡◌, ℕ, ◌<◌, ◌≤◌, nat_eq, Bool, true, false, cond, unwrap_or, List, [], ◌∷◌, ◌++◌, None, Some, IfSome, Result, OnErr, length, get_or, map, refl, sym, ap, subst, ◌∙◌, arith, length-append}
use Rattle.std.specs.List.{AllByRecursion}
use Rattle.std.specs.Global.{Vec}
use Rattle.std.specs.Vec.{vec_len}
use Rattle.std.specs.Map.{lookup}
use Rattle.std.specs.Str.{bytes_eq}
use Rattle.smallvec.specs.SmallVec.{SmallVec}
use Rattle.std.proofs.Math.ListN.{set, get_or-append}
use Rattle.std.proofs.lemmas.List.{map-set, get_or-map, get_or_default, length-map, map-append}
use Rattle.indexmap.specs.IndexMap.{insert_entry, shift_remove_entry}
use Rattle.semantic_syntax.specs.Tables.{Name, Bindings, Tables, Symbol, Scope}
use Rattle.scoping.specs.declared.scoping.Scoping.TheInside.{Inside}
use Rattle.scoping_rows.specs.Flat.{Numbered}
use Rattle.scoping_rows.specs.Names.{name_at, named, IsUnknown, IsNumberOf, IsInterned}
use Rattle.scoping_rows.specs.Row.{Row, symbol_of_row, no_row}
use Rattle.std.proofs.Math.Seq.{map-set_same}
use Rattle.scoping.specs.declared.scoping.ScopeRow.{ScopeRow}
use Rattle.semantic_syntax.specs.Reading.{no_symbol, no_scope, IsForest}
use Rattle.scoping.proofs.Forests.{parents}
use Rattle.scoping_rows.proofs.Rows.{rows}
use Rattle.scoping.specs.View.{IsBoundWithin, IsListedWithin, IsSound, tables, scope_of_row}
use Rattle.semantic_syntax.proofs.Results.{on_err}
use Rattle.semantic_syntax.proofs.Every.{every-more, every-at, every-or, every-set, every-push}
use Rattle.scoping.proofs.Every.{every-insert, every-remove}
use Rattle.scoping.proofs.Named.{AreKnown, named-grown, lookup-unknown, lookup-named, insert-named, remove-named}

-- tables that have equal parts
pub tables_eq : (t u : Tables) → t.scopes ≡ u.scopes → t.bindings ≡ u.bindings → t.symbols ≡ u.symbols → t.references ≡ u.references → t.uses ≡ u.uses → t.free ≡ u.free → t.pure_symbols ≡ u.pure_symbols → t ≡ u
tables_eq t u scopes bindings symbols references uses free pure_symbols =
    λ j. record { scopes = scopes j; bindings = bindings j; symbols = symbols j; references = references j; uses = uses j; free = free j; pure_symbols = pure_symbols j }

-- all of the bindings within bounds
abbrev pub AreBound : ℕ → ℕ → List Numbered → Type 0
AreBound names symbols bs = AllByRecursion (AllByRecursion (IsBoundWithin names symbols)) bs

pub known_bound : (names symbols : ℕ) (b : Numbered) → AllByRecursion (IsBoundWithin names symbols) b → AreKnown names b
known_bound names symbols b h = every-more (IsBoundWithin names symbols) (λ e. e.0 < names) (λ e w. w.0) b h

pub all_known : (names symbols : ℕ) (bs : List Numbered) → AreBound names symbols bs → AllByRecursion (AreKnown names) bs
all_known names symbols bs h = every-more (AllByRecursion (IsBoundWithin names symbols)) (AreKnown names) (known_bound names symbols) bs h

pub bound_at : (names symbols : ℕ) (bs : List Numbered) (s : ℕ) → AreBound names symbols bs → AllByRecursion (IsBoundWithin names symbols) (get_or bs s [])
bound_at names symbols bs s h = every-or (AllByRecursion (IsBoundWithin names symbols)) [] bs s h tt

pub known_at : (names symbols : ℕ) (bs : List Numbered) (s : ℕ) → AreBound names symbols bs → AreKnown names (get_or bs s [])
known_at names symbols bs s h = known_bound names symbols (get_or bs s []) (bound_at names symbols bs s h)

pub bound_more : (names names' symbols symbols' : ℕ) → names ≤ names' → symbols ≤ symbols' → (bs : List Numbered) → AreBound names symbols bs → AreBound names' symbols' bs
bound_more names names' symbols symbols' l m bs h =
    every-more (AllByRecursion (IsBoundWithin names symbols)) (AllByRecursion (IsBoundWithin names' symbols'))
    (λ b w. every-more (IsBoundWithin names symbols) (IsBoundWithin names' symbols') (λ e v. (omega (arith, v.0), omega (arith, v.1))) b w) bs h

-- all of the lists within bounds
pub listed_more : (names names' references references' : ℕ) → names ≤ names' → references ≤ references' → (es : List (ℕ × List ℕ))
    → AllByRecursion (IsListedWithin names references) es → AllByRecursion (IsListedWithin names' references') es
listed_more names names' references references' l m es h =
    every-more (IsListedWithin names references) (IsListedWithin names' references')
    (λ e w. (omega (arith, w.0), every-more (λ r. r < references) (λ r. r < references') (λ r v. omega (arith, v)) e.1 w.1)) es h

pub known_listed : (names references : ℕ) (es : List (ℕ × List ℕ)) → AllByRecursion (IsListedWithin names references) es → AreKnown names es
known_listed names references es h = every-more (IsListedWithin names references) (λ e. e.0 < names) (λ e w. w.0) es h

-- what each scope binds, by name
module _ (names : List Name) (symbols : ℕ) (bs : List Numbered) (h : AreBound (length names) symbols bs) (s : ℕ) (within : s < length bs) where
  pub shown_at : get_or (map (named names) bs) s [] ≡ named names (get_or bs s [])
  shown_at = get_or-map (named names) bs s [] [] within

  pub shown_set : (b : Numbered) (f : Bindings → Bindings) → named names b ≡ f (named names (get_or bs s [])) → map (named names) (set bs s b) ≡ set (map (named names) bs) s (f (get_or (map (named names) bs) s []))
  shown_set b f is = map-set (named names) bs s b ∙ ap (set (map (named names) bs) s) (is ∙ ap f (sym shown_at))

  module _ (name : Name) where
    pub shown_lookup_unknown : IsUnknown names name → lookup (bytes_eq name) (get_or (map (named names) bs) s []) ≡ None
    shown_lookup_unknown unknown = ap (lookup (bytes_eq name)) shown_at ∙ lookup-unknown names name unknown (get_or bs s []) (known_at (length names) symbols bs s h)

    module _ (n : ℕ) (number : IsNumberOf names name n) where
      pub shown_lookup : lookup (bytes_eq name) (get_or (map (named names) bs) s []) ≡ lookup (nat_eq n) (get_or bs s [])
      shown_lookup = ap (lookup (bytes_eq name)) shown_at ∙ lookup-named names name n number (get_or bs s []) (known_at (length names) symbols bs s h)

      pub shown_insert : (y : ℕ) → map (named names) (set bs s (insert_entry nat_eq (get_or bs s []) n y)) ≡ set (map (named names) bs) s (insert_entry bytes_eq (get_or (map (named names) bs) s []) name y)
      shown_insert y = shown_set _ (λ b. insert_entry bytes_eq b name y) (insert-named names name n number y (get_or bs s []) (known_at (length names) symbols bs s h))

      pub shown_remove : map (named names) (set bs s (shift_remove_entry (nat_eq n) (get_or bs s []))) ≡ set (map (named names) bs) s (shift_remove_entry (bytes_eq name) (get_or (map (named names) bs) s []))
      shown_remove = shown_set _ (shift_remove_entry (bytes_eq name)) (remove-named names name n number (get_or bs s []) (known_at (length names) symbols bs s h))

pub bound_insert : (names symbols s n y : ℕ) (bs : List Numbered) → n < names → y < symbols → AreBound names symbols bs → AreBound names symbols (set bs s (insert_entry nat_eq (get_or bs s []) n y))
bound_insert names symbols s n y bs l m h =
    every-set (AllByRecursion (IsBoundWithin names symbols)) _ bs s h
    (every-insert (IsBoundWithin names symbols) nat_eq n y (l, m) (get_or bs s []) (λ e w. (w.0, m)) (bound_at names symbols bs s h))

pub bound_remove : (names symbols s n : ℕ) (bs : List Numbered) → AreBound names symbols bs → AreBound names symbols (set bs s (shift_remove_entry (nat_eq n) (get_or bs s [])))
bound_remove names symbols s n bs h =
    every-set (AllByRecursion (IsBoundWithin names symbols)) _ bs s h (every-remove (IsBoundWithin names symbols) (nat_eq n) (get_or bs s []) (bound_at names symbols bs s h))

-- symbols, by name
abbrev pub AreNamed : ℕ → List Row → Type 0
AreNamed names ys = AllByRecursion (λ (y : Row). y.name < names) ys

pub named_more : (names names' : ℕ) → names ≤ names' → (ys : List Row) → AreNamed names ys → AreNamed names' ys
named_more names names' l ys h = every-more (λ (y : Row). y.name < names) (λ y. y.name < names') (λ y w. omega (arith, w)) ys h

pub symbols_grown : (names added : List Name) (ys : List Row) → AreNamed (length names) ys → map (symbol_of_row (names ++ added)) ys ≡ map (symbol_of_row names) ys
symbols_grown names added [] h = refl
symbols_grown names added (y ∷ ys) h =
    let same : name_at (names ++ added) y.name ≡ name_at names y.name = get_or-append names added [] y.name h.0 in
    λ j. record { name = same j; span = y.span; flags = y.flags; scope = y.scope; node = y.node; redeclarations = y.redeclarations } ∷ symbols_grown names added ys h.1 j

pub bindings_grown : (names added : List Name) (symbols : ℕ) (bs : List Numbered) → AreBound (length names) symbols bs → map (named (names ++ added)) bs ≡ map (named names) bs
bindings_grown names added symbols [] h = refl
bindings_grown names added symbols (b ∷ bs) h = λ j. named-grown names added b (known_bound (length names) symbols b h.0) j ∷ bindings_grown names added symbols bs h.1 j

-- fields with more names show the same tables, and are sound
module _ (a : Inside) (sound : IsSound a) (names : List Name) (name : Name) (n : ℕ) (interned : IsInterned a.names names name n) where
  pub more_names : length a.names ≤ length names
  more_names = omega (arith, ap length interned.grown, length-append a.names interned.added)

  pub bindings_interned : map (named names) a.bindings ≡ map (named a.names) a.bindings
  bindings_interned = rw interned.grown (bindings_grown a.names interned.added (length a.symbols.items) a.bindings sound.bound)

  pub symbols_interned : map (symbol_of_row names) a.symbols.items ≡ map (symbol_of_row a.names) a.symbols.items
  symbols_interned = rw interned.grown (symbols_grown a.names interned.added a.symbols.items sound.named)

  pub free_interned : named names a.free ≡ named a.names a.free
  free_interned = rw interned.grown (named-grown a.names interned.added a.free (known_listed (length a.names) (length a.references.items) a.free sound.free))

  pub tables_interned : tables (record a { names = names }) ≡ tables a
  tables_interned = tables_eq _ _ refl bindings_interned symbols_interned refl refl free_interned refl

  pub err_interned : {T E : Type 0} (r : Result T E) (t : Tables) → tables a ≡ t → OnErr r (tables (record a { names = names }) ≡ t)
  err_interned r t is = on_err r (tables_interned ∙ is)

  pub sound_interned : IsSound (record a { names = names })
  sound_interned = record {
    counted = sound.counted;
    bound = bound_more _ _ _ _ more_names (omega arith) a.bindings sound.bound;
    named = named_more _ _ more_names a.symbols.items sound.named;
    used = sound.used;
    uses = sound.uses;
    free = listed_more _ _ _ _ more_names (omega arith) a.free sound.free;
    forest = sound.forest;
    symbols_fit = sound.symbols_fit;
    scopes_fit = sound.scopes_fit;
    references_fit = sound.references_fit;
  }

-- numbers within what is shown are within the fields
module _ (a : Inside) (sound : IsSound a) (s : ℕ) where
  pub row_within : s < length (tables a).scopes → s < length a.scopes.items
  row_within within = rw length-map at within

  pub scope_within : s < length (tables a).scopes → s < length a.bindings
  scope_within within = omega (arith, row_within within, sound.counted)

  pub symbol_within : s < length (tables a).symbols → s < length a.symbols.items
  symbol_within within = rw length-map at within

  pub uses_within : s < length (tables a).symbols → s < length a.uses.items
  uses_within within = omega (arith, symbol_within within, sound.used)

-- an index of what is shown is one of the fields' rows
module _ (a : Inside) (sound : IsSound a) (s i : ℕ) (at : i ≡ s) where
  pub scope_index : s < length (tables a).scopes → i < vec_len a.scopes
  scope_index within = omega (arith, at, row_within a sound s within, a.scopes.ok.0)

  pub symbol_index : s < length (tables a).symbols → i < vec_len a.symbols
  symbol_index within = omega (arith, at, symbol_within a sound s within, a.symbols.ok.0)

  pub uses_index : s < length (tables a).symbols → i < vec_len a.uses
  uses_index within = omega (arith, at, uses_within a sound s within, a.uses.ok.0)

-- a reference listed under a number
pub listed_push : (names references n r : ℕ) (es : List (ℕ × List ℕ)) → n < names → r < references → AllByRecursion (IsListedWithin names references) es
    → AllByRecursion (IsListedWithin names references) (insert_entry nat_eq es n (unwrap_or (lookup (nat_eq n) es) [] ++ r ∷ []))
listed_push names references n r es l m h =
    let list = listed_at n es h in
    let more = every-push (λ k. k < references) r (unwrap_or (lookup (nat_eq n) es) []) list m in
    every-insert (IsListedWithin names references) nat_eq n _ (l, more) es (λ e w. (w.0, more)) h
  where
    listed_at : (k : ℕ) (ds : List (ℕ × List ℕ)) → AllByRecursion (IsListedWithin names references) ds → AllByRecursion (λ q. q < references) (unwrap_or (lookup (nat_eq k) ds) [])
    listed_at k [] g = tt
    listed_at k (d ∷ ds) g = by (nat_eq k d.0) (listed_at k ds g.1)
      where
        by : (b : Bool) → AllByRecursion (λ q. q < references) (unwrap_or (lookup (nat_eq k) ds) []) → AllByRecursion (λ q. q < references) (unwrap_or (cond b (Some d.1) (lookup (nat_eq k) ds)) [])
        by true rest = g.0.1
        by false rest = rest

-- one symbol changed
module _ (names : List Name) (ys : List Row) (s i : ℕ) (was now : Row) (at : i ≡ s) (within : s < length ys) (read : was ≡ get_or ys i was) where
  pub symbol_at : get_or (map (symbol_of_row names) ys) s no_symbol ≡ symbol_of_row names was
  symbol_at = get_or-map (symbol_of_row names) ys s was no_symbol within ∙ sym (ap (symbol_of_row names) (read ∙ ap (λ k. get_or ys k was) at))

  pub symbol_changed : (f : Symbol → Symbol) → symbol_of_row names now ≡ f (symbol_of_row names was) → map (symbol_of_row names) (set ys i now) ≡ set (map (symbol_of_row names) ys) s (f (get_or (map (symbol_of_row names) ys) s no_symbol))
  symbol_changed f is =
      map-set (symbol_of_row names) ys i now
      ∙ ap (λ k. set (map (symbol_of_row names) ys) k (symbol_of_row names now)) at
      ∙ ap (set (map (symbol_of_row names) ys) s) (is ∙ ap f (sym symbol_at))

-- one symbol more
pub symbols_pushed : (names : List Name) (y : Row) (x : Symbol) → symbol_of_row names y ≡ x → (ys : List Row) → map (symbol_of_row names) (ys ++ y ∷ []) ≡ map (symbol_of_row names) ys ++ x ∷ []
symbols_pushed names y x is ys = map-append (symbol_of_row names) ys (y ∷ []) ∙ ap (λ k. map (symbol_of_row names) ys ++ k ∷ []) is

-- one scope changed
module _ (rows : List ScopeRow) (s i : ℕ) (was now : ScopeRow) (at : i ≡ s) (within : s < length rows) (read : was ≡ get_or rows i was) where
  pub scope_at : get_or (map scope_of_row rows) s no_scope ≡ scope_of_row was
  scope_at = get_or-map scope_of_row rows s was no_scope within ∙ sym (ap scope_of_row (read ∙ ap (λ k. get_or rows k was) at))

  pub scope_changed : (f : Scope → Scope) → scope_of_row now ≡ f (scope_of_row was) → map scope_of_row (set rows i now) ≡ set (map scope_of_row rows) s (f (get_or (map scope_of_row rows) s no_scope))
  scope_changed f is =
      map-set scope_of_row rows i now
      ∙ ap (λ k. set (map scope_of_row rows) k (scope_of_row now)) at
      ∙ ap (set (map scope_of_row rows) s) (is ∙ ap f (sym scope_at))

  pub parents_kept : now.parent ≡ was.parent → parents (map scope_of_row (set rows i now)) ≡ parents (map scope_of_row rows)
  parents_kept kept =
      ap parents (map-set scope_of_row rows i now)
      ∙ map-set_same (λ (x : Scope). x.parent) (map scope_of_row rows) i (scope_of_row now) no_scope
      (kept ∙ ap (λ (x : Scope). x.parent) (sym scope_at ∙ ap (λ k. get_or (map scope_of_row rows) k no_scope) (sym at)))

-- what a name finds is a symbol
pub bound_symbol : (names : List Name) (name : Name) (count symbols : ℕ) (b : Numbered) → AllByRecursion (IsBoundWithin count symbols) b → IfSome (lookup (bytes_eq name) (named names b)) (λ y. y < symbols)
bound_symbol names name count symbols [] h = tt
bound_symbol names name count symbols (e ∷ b) h = by (bytes_eq name (name_at names e.0)) (bound_symbol names name count symbols b h.1)
  where
    by : (t : Bool) → IfSome (lookup (bytes_eq name) (named names b)) (λ y. y < symbols) → IfSome (cond t (Some e.1) (lookup (bytes_eq name) (named names b))) (λ y. y < symbols)
    by true rest = h.0.1
    by false rest = rest

pub names_of_rows : (names : List Name) (ys : List Row) → map (λ (y : Symbol). y.name) (map (symbol_of_row names) ys) ≡ map (λ (y : Row). name_at names y.name) ys
names_of_rows names [] = refl
names_of_rows names (y ∷ ys) = ap (λ t. name_at names y.name ∷ t) (names_of_rows names ys)

-- fields with others in the place of some
module _ (a : Inside) (sound : IsSound a) where
  pub sound_bindings : (bs : List Numbered) → length bs ≡ length a.bindings → AreBound (length a.names) (length a.symbols.items) bs → IsSound (record a { bindings = bs })
  sound_bindings bs same h = record {
    counted = same ∙ sound.counted;
    bound = h;
    named = sound.named;
    used = sound.used;
    uses = sound.uses;
    free = sound.free;
    forest = sound.forest;
    symbols_fit = sound.symbols_fit;
    scopes_fit = sound.scopes_fit;
    references_fit = sound.references_fit;
  }

  pub sound_rows : (v : Vec Row) → length v.items ≡ length a.symbols.items → AreNamed (length a.names) v.items → IsSound (record a { symbols = v })
  sound_rows v same h = record {
    counted = sound.counted;
    bound = rw same sound.bound;
    named = h;
    used = sound.used ∙ sym same;
    uses = sound.uses;
    free = sound.free;
    forest = sound.forest;
    symbols_fit = rw same sound.symbols_fit;
    scopes_fit = sound.scopes_fit;
    references_fit = sound.references_fit;
  }

  pub sound_scopes : (v : Vec ScopeRow) → length v.items ≡ length a.scopes.items → IsForest (map scope_of_row v.items) → IsSound (record a { scopes = v })
  sound_scopes v same h = record {
    counted = sound.counted ∙ sym same;
    bound = sound.bound;
    named = sound.named;
    used = sound.used;
    uses = sound.uses;
    free = sound.free;
    forest = h;
    symbols_fit = sound.symbols_fit;
    scopes_fit = rw same sound.scopes_fit;
    references_fit = sound.references_fit;
  }

  pub sound_uses : (v : Vec (SmallVec ℕ)) → length v.items ≡ length a.uses.items → AllByRecursion (AllByRecursion (λ r. r < length a.references.items)) (rows v.items) → IsSound (record a { uses = v })
  sound_uses v same h = record {
    counted = sound.counted;
    bound = sound.bound;
    named = sound.named;
    used = same ∙ sound.used;
    uses = h;
    free = sound.free;
    forest = sound.forest;
    symbols_fit = sound.symbols_fit;
    scopes_fit = sound.scopes_fit;
    references_fit = sound.references_fit;
  }

  pub sound_free : (es : List (ℕ × List ℕ)) → AllByRecursion (IsListedWithin (length a.names) (length a.references.items)) es → IsSound (record a { free = es })
  sound_free es h = record {
    counted = sound.counted;
    bound = sound.bound;
    named = sound.named;
    used = sound.used;
    uses = sound.uses;
    free = h;
    forest = sound.forest;
    symbols_fit = sound.symbols_fit;
    scopes_fit = sound.scopes_fit;
    references_fit = sound.references_fit;
  }

-- one name more among the symbols
pub named_set : (names i : ℕ) (y : Row) (ys : List Row) → AreNamed names ys → y.name < names → AreNamed names (set ys i y)
named_set names i y ys h l = every-set (λ (x : Row). x.name < names) y ys i h l

-- a row that was read has a name
pub read_named : (names i s : ℕ) (was : Row) (ys : List Row) → AreNamed names ys → i ≡ s → s < length ys → was ≡ get_or ys i was → was.name < names
read_named names i s was ys h at within read = subst (λ (y : Row). y.name < names) (sym read) (every-at (λ (y : Row). y.name < names) was ys i h (rw at within))

-- the number of a row's name is that of its symbol's
pub shown_number : (names : List Name) (ys : List Row) (s m : ℕ) → s < length ys → IsNumberOf names (name_at names (get_or ys s no_row).name) m
    → IsNumberOf names (get_or (map (symbol_of_row names) ys) s no_symbol).name m
shown_number names ys s m within number =
    let row = get_or ys s no_row in
    subst (λ (x : Symbol). IsNumberOf names x.name m) (sym (symbol_at names ys s s row row refl within (get_or_default ys s no_row row within))) number
