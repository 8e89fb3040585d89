-- What declarations of one symbol bind together, and whether a way fits that.
use Rattle.std.proofs.Common.{◌≡◌, ℕ, ◌==◌, List, [], ◌∷◌, Some, Bool, true, false, ◌&&◌, ◌||◌, not, cond, refl, sym, ap, ◌∙◌, inl, inr, ◌⊎◌, fold}
use Rattle.std.specs.List.{list_any}
use Rattle.std.specs.Int.RustNames.{bit_and}
use Rattle.std.proofs.lemmas.Bool.{cases_Bool, eq-eqb, not-true}
use Rattle.std.proofs.lemmas.Bool.Decides.{eqb_tells}
use Rattle.std.proofs.lemmas.Nat.{and_comm, and_or_apart}
use Rattle.semantic_syntax.proofs.Truth.{and_first, and_second, or_true}
use Rattle.semantic_syntax.specs.Sets.{meets, union}
use Rattle.semantic_syntax.specs.Usable.{asks_for_namespace, is_usable}
use Rattle.semantic_syntax.specs.declared.reference_flags.TheConstants.ReferenceFlags as way
use Rattle.semantic_syntax.specs.declared.symbol_flags.TheConstants.SymbolFlags as symbol
use Rattle.semantic_model.specs.Entries.{Among}
use Rattle.semantic_model.specs.Fold.{Made}
use Rattle.binding_laws.specs.SeenDeclarations.{seen_alone, with_declaration, bound_by_all}
use Rattle.binding_laws.proofs.Growing.{meets_second}
use Rattle.binding_laws.proofs.SmallLaws.{never}
use Rattle.typescript_ties.specs.MeaningSets.{MeaningSet}
use Rattle.typescript_ties.specs.SimpleNames.{is_way_by, is_way_of}

or_false : (b : Bool) → (b || false) ≡ b
or_false true = refl
or_false false = refl

or_assoc : (a b c : Bool) → ((a || b) || c) ≡ (a || (b || c))
or_assoc true b c = refl
or_assoc false b c = refl

pub meets_union : (a b m : ℕ) → meets (union a b) m ≡ (meets a m || meets b m)
meets_union a b m = elim (cases_Bool (meets b m)) [
  | inl e ↦ meets_second a b m e ∙ sym (or_true (meets a m)) ∙ ap (λ t. meets a m || t) (sym e)
  | inr e ↦ ap (λ n. not (n == 0)) (and_or_apart m a b (zero_of (bit_and b m) e)) ∙ sym (or_false (meets a m)) ∙ ap (λ t. meets a m || t) (sym e)
]
  where
    zero_of : (n : ℕ) → not (n == 0) ≡ false → n ≡ 0
    zero_of n e = elim (eqb_tells n 0) [ inl k ↦ k.1 | inr k ↦ absurd (never (sym (ap not k.0) ∙ e)) ]

-- ---- declarations of one symbol

abbrev pub any_meets : ℕ → List Made → Bool
any_meets m ms = list_any (λ y. meets y.declaration.naming.flags m) ms

pub record AreBoundAs (ms : List Made) (y : ℕ) : Type 0 where
  pub flags : ℕ
  pub bound : bound_by_all ms ≡ Some (record { symbol = y; flags = flags })
  pub any : (m : ℕ) → meets flags m ≡ any_meets m ms

record AddUp (ms : List Made) (y f : ℕ) : Type 0 where
  flags : ℕ
  bound : fold with_declaration (Some (record { symbol = y; flags = f })) ms ≡ Some (record { symbol = y; flags = flags })
  any : (m : ℕ) → meets flags m ≡ (meets f m || any_meets m ms)

add_up : (ms : List Made) (y f : ℕ) → ((m : Made) → Among m ms → m.symbol ≡ y) → AddUp ms y f
add_up [] y f h = record { flags = f; bound = refl; any = λ m. sym (or_false (meets f m)) }
add_up (k ∷ ms) y f h =
    let g : ℕ = union f k.declaration.naming.flags in
    let rest : AddUp ms y g = add_up ms y g (λ m a. h m (inr a)) in
    let same : with_declaration (Some (record { symbol = y; flags = f })) k ≡ Some (record { symbol = y; flags = g }) = ap (λ t. Some (cond t (record { symbol = y; flags = g }) (seen_alone k))) (eq-eqb y k.symbol (sym (h k (inl refl)))) in
    record {
      flags = rest.flags;
      bound = ap (λ o. fold with_declaration o ms) same ∙ rest.bound;
      any = λ m. rest.any m ∙ ap (λ t. t || any_meets m ms) (meets_union f k.declaration.naming.flags m) ∙ or_assoc (meets f m) (meets k.declaration.naming.flags m) (any_meets m ms);
    }

pub bound_as_one : (k : Made) (ms : List Made) (y : ℕ) → ((m : Made) → Among m (k ∷ ms) → m.symbol ≡ y) → AreBoundAs (k ∷ ms) y
bound_as_one k ms y h =
    let rest : AddUp ms y k.declaration.naming.flags = add_up ms y k.declaration.naming.flags (λ m a. h m (inr a)) in
    record {
      flags = rest.flags;
      bound = ap (λ z. fold with_declaration (Some (record { symbol = z; flags = k.declaration.naming.flags })) ms) (h k (inl refl)) ∙ rest.bound;
      any = rest.any;
    }

-- ---- ways

meets_swapped : (f m : ℕ) → meets f m ≡ meets m f
meets_swapped f m = ap (λ n. not (n == 0)) (and_comm f m)

pub meets_mask : (f a b : ℕ) → meets f (union a b) ≡ (meets f a || meets f b)
meets_mask f a b = meets_swapped f (union a b) ∙ meets_union a b f ∙ (λ i. meets_swapped a f i || meets_swapped b f i)

-- whether it is what is asked for, by the flags of values, types and namespaces; by name, what is imported as a type may be a value
abbrev pub is_asked : MeaningSet → ℕ → Bool
is_asked a flags = (a.value && meets flags symbol.ByValueAsType.bits) || ((a.is_type && meets flags symbol.ByType.bits) || (a.namespace && meets flags symbol.AsNamespace.bits))

-- a namespace that is no type, or an import of types that is no value
abbrev pub MayPass : ℕ → Type 0
MayPass flags =
    (meets flags symbol.AsNamespace.bits ≡ true) × ((meets flags symbol.ByType.bits ≡ false) ⊎ (meets flags symbol.TypeImport.bits ≡ true))

-- what it finds is asked for, and what is asked for and not found may be passed
pub record WayAsks (asked : MeaningSet) (w flags : ℕ) : Type 0 where
  pub found : is_usable w flags ≡ true → is_asked asked flags ≡ true
  pub missed : is_asked asked flags ≡ true → is_usable w flags ≡ false → MayPass flags

abbrev usable_if : (a b c n v m t s : Bool) → Bool
usable_if a b c n v m t s = (((a && v) || (b && t)) || (c && (v || m))) && (not n || s)

module _ (w flags : ℕ) where
  abbrev v : Bool
  v = meets flags symbol.ByValue.bits

  abbrev m : Bool
  m = meets flags symbol.TypeImport.bits

  abbrev t : Bool
  t = meets flags symbol.ByType.bits

  abbrev s : Bool
  s = meets flags symbol.AsNamespace.bits

  abbrev a : Bool
  a = meets w way.Value.bits

  abbrev b : Bool
  b = meets w way.TypeFlag.bits

  abbrev c : Bool
  c = meets w way.ValueAsType.bits

  abbrev n : Bool
  n = asks_for_namespace w

  value_is : meets flags symbol.ByValueAsType.bits ≡ (v || m)
  value_is = meets_mask flags symbol.ByValue.bits symbol.TypeImport.bits

  within : (x y : Bool) → y ≡ (x || y) → x ≡ true → y ≡ true
  within true y e h = e
  within false y e h = absurd (never (sym h))

  -- an import of types may be a type and a namespace
  import_type : m ≡ true → t ≡ true
  import_type h = within m t (meets_mask flags symbol.TypeImport.bits symbol.ByType.bits) h

  import_namespace : m ≡ true → s ≡ true
  import_namespace h = within m s (meets_mask flags symbol.TypeImport.bits symbol.AsNamespace.bits) h

  usable_is : is_usable w flags ≡ usable_if a b c n v m t s
  usable_is = ap (λ z. (((a && v) || (b && t)) || (c && z)) && (not n || s)) value_is

  abbrev Asks : Bool → Bool → Bool → Type 0
  Asks x y z = WayAsks (record { value = x; is_type = y; namespace = z }) w flags

  asked_is : (x y z : Bool) → is_asked (record { value = x; is_type = y; namespace = z }) flags ≡ ((x && (v || m)) || ((y && t) || (z && s)))
  asked_is x y z = ap (λ u. (x && u) || ((y && t) || (z && s))) value_is

  value_found : (a c v m t s : Bool) → usable_if a false c false v m t s ≡ true → (v || m) ≡ true
  value_found a c true m t s h = refl
  value_found a c false true t s h = refl
  value_found true true false false t s h = absurd (never (sym h))
  value_found true false false false t s h = absurd (never (sym h))
  value_found false true false false t s h = absurd (never (sym h))
  value_found false false false false t s h = absurd (never (sym h))

  value_missed : (a c v m t s : Bool) → (a || c) ≡ true → (v || m) ≡ true → usable_if a false c false v m t s ≡ false → m ≡ true
  value_missed a c v true t s h e f = refl
  value_missed a c false false t s h e f = absurd (never (sym e))
  value_missed true c true false t s h e f = absurd (never f)
  value_missed false true true false t s h e f = absurd (never f)
  value_missed false false true false t s h e f = absurd (never (sym h))

  asks_value : ((a || c) && (not b && not n)) ≡ true → Asks true false false
  asks_value h =
      let g : is_usable w flags ≡ usable_if a false c false v m t s = usable_is ∙ (λ i. usable_if a (not-true b (and_first (not b) (not n) (and_second (a || c) (not b && not n) h)) i) c (not-true n (and_second (not b) (not n) (and_second (a || c) (not b && not n) h)) i) v m t s) in
      record {
        found = λ e. asked_is true false false ∙ or_false (v || m) ∙ value_found a c v m t s (sym g ∙ e);
        missed = λ e f. (let k : m ≡ true = value_missed a c v m t s (and_first (a || c) (not b && not n) h) (sym (or_false (v || m)) ∙ sym (asked_is true false false) ∙ e) (sym g ∙ f) in (import_namespace k, inr k));
      }

  as_type : (v m t s : Bool) → usable_if false true false false v m t s ≡ t
  as_type v m true s = refl
  as_type v m false s = refl

  asks_type : ((b && not a) && (not c && not n)) ≡ true → Asks false true false
  asks_type h =
      let first : (b && not a) ≡ true = and_first (b && not a) (not c && not n) h in
      let second : (not c && not n) ≡ true = and_second (b && not a) (not c && not n) h in
      let g : is_usable w flags ≡ t = usable_is ∙ (λ i. usable_if (not-true a (and_second b (not a) first) i) (and_first b (not a) first i) (not-true c (and_first (not c) (not n) second) i) (not-true n (and_second (not c) (not n) second) i) v m t s) ∙ as_type v m t s in
      record { found = λ e. ap (λ z. z || false) (sym g ∙ e); missed = λ e f. absurd (never (sym (sym (or_false t) ∙ e) ∙ sym g ∙ f)) }

  namespace_found : (a c v m t s : Bool) → usable_if a true c true v m t s ≡ true → s ≡ true
  namespace_found a c v m t true h = refl
  namespace_found a c v m t false h = absurd (never (sym (and_second (((a && v) || (true && t)) || (c && (v || m))) false h)))

  namespace_missed : (a c v m t : Bool) → usable_if a true c true v m t true ≡ false → t ≡ false
  namespace_missed a c v m false h = refl
  namespace_missed true c true m true h = absurd (never h)
  namespace_missed true c false m true h = absurd (never h)
  namespace_missed false c v m true h = absurd (never h)

  asks_namespace : (b && n) ≡ true → Asks false false true
  asks_namespace h =
      let g : is_usable w flags ≡ usable_if a true c true v m t s = usable_is ∙ (λ i. usable_if a (and_first b n h i) c (and_second b n h i) v m t s) in
      record {
        found = λ e. namespace_found a c v m t s (sym g ∙ e);
        missed = λ e f. (e, inl (namespace_missed a c v m t (sym (λ i. usable_if a true c true v m t (e i)) ∙ sym g ∙ f)));
      }

  any_found : (v m t s : Bool) (c : Bool) → usable_if true true c false v m t s ≡ true → ((v || m) || (t || s)) ≡ true
  any_found true m t s c h = refl
  any_found false true t s c h = refl
  any_found false false true s c h = refl
  any_found false false false s true h = absurd (never (sym h))
  any_found false false false s false h = absurd (never (sym h))

  any_missed : (v m t s : Bool) (c : Bool) → (m ≡ true → t ≡ true) → ((v || m) || (t || s)) ≡ true → usable_if true true c false v m t s ≡ false → (s ≡ true) × (t ≡ false)
  any_missed true m t s c k e h = absurd (never h)
  any_missed false m true s c k e h = absurd (never h)
  any_missed false true false s c k e h = absurd (never (sym (k refl)))
  any_missed false false false s c k e h = (e, refl)

  asks_any : ((a && b) && not n) ≡ true → Asks true true true
  asks_any h =
      let first : (a && b) ≡ true = and_first (a && b) (not n) h in
      let g : is_usable w flags ≡ usable_if true true c false v m t s = usable_is ∙ (λ i. usable_if (and_first a b first i) (and_second a b first i) c (not-true n (and_second (a && b) (not n) h) i) v m t s) in
      record {
        found = λ e. asked_is true true true ∙ any_found v m t s c (sym g ∙ e);
        missed = λ e f. (let k : (s ≡ true) × (t ≡ false) = any_missed v m t s c import_type (sym (asked_is true true true) ∙ e) (sym g ∙ f) in (k.0, inl k.1));
      }

  by_meanings : (x y z : Bool) → is_way_by x y z w ≡ true → Asks x y z
  by_meanings true true true h = asks_any h
  by_meanings true true false h = absurd (never (sym h))
  by_meanings true false true h = absurd (never (sym h))
  by_meanings true false false h = asks_value h
  by_meanings false true true h = absurd (never (sym h))
  by_meanings false true false h = asks_type h
  by_meanings false false true h = asks_namespace h
  by_meanings false false false h = absurd (never (sym h))

  pub way_asks : (asked : MeaningSet) → is_way_of asked w ≡ true → WayAsks asked w flags
  way_asks asked h = by_meanings asked.value asked.is_type asked.namespace h
