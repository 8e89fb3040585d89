-- The pairs of the simple mangler: old names change, new ones are unused, and no two pairs share a name.
use Rattle.std.proofs.Common.{◌≡◌, ℕ, zero, suc, ◌+◌, List, [], ◌∷◌, ◌++◌, Bool, true, false, not, ◌||◌, inl, inr, refl, sym, ap, subst, ◌∙◌, codes, bytes_eq, map, filter, zip, length, nat_lt, arith}
use Rattle.std.specs.List.{list_any, range_with_len}
use Rattle.std.proofs.lemmas.Bool.{and_parts}
use Rattle.semantic_syntax.specs.Tables.{Name, Symbol, FreeLists}
use Rattle.semantic_syntax.proofs.Truth.{and_false, or_assoc}
use Rattle.semantic_tree.specs.declared.swap.Setting.TheVariants.{Elsewhere}
use Rattle.semantic_tree.specs.Tree.{Tree}
use Rattle.semantic_model.specs.Analysis.{Analysis}
use Rattle.semantic_model.specs.Entries.{Among}
use Rattle.semantic_model.proofs.once.ListedUnder.{name_tells}
use Rattle.program_laws.proofs.DeclaredNodes.{among_map}
use Rattle.mangle_model.specs.GoodNames.{reserved_words, is_ascii_identifier, is_reserved, is_kept_name}
use Rattle.mangle_model.specs.OneNameEach.{bears_such, fixed_below, is_fixed_name, does_change, symbol_names, changing_names, taken_names, is_unused_name, short_names, unused_names, is_shorter, name_pairs}
use Rattle.mangle_model.specs.ShortNames.{short_name}
use Rattle.mangle_model.specs.Written.{size_of}
use Rattle.mangle_model.proofs.MappedNames.{Pair, Apart, zipped_apart, passing_apart, IsPlain}
use Rattle.mangle_model.proofs.NameLists.{among_passing, among_zipped, among_range, any_among, Different, passing_different, joined_different, among_joined}
use Rattle.mangle_model.proofs.ShortLaws.{one_short_name, short_name_fits}

pub turned : (b : Bool) → not b ≡ true → b ≡ false
turned false h = refl
turned true h = absurd cc

pub clash : (b : Bool) → b ≡ true → b ≡ false → ⊥
clash true h k = absurd cc
clash false h k = absurd cc

-- ---- short names differ

pub short_different : (from count : ℕ) → Different (map short_name (range_with_len from count))
short_different from zero = tt
short_different from (suc count) = (other, short_different (from + 1) count)
  where
    other : (y : Name) → Among y (map short_name (range_with_len (from + 1) count)) → short_name from ≡ y → ⊥
    other y a e =
        let (n, b, f) = among_map short_name (range_with_len (from + 1) count) y a in
        let same : from ≡ n = one_short_name from n (e ∙ sym f) in
        absurd (omega (arith, same, among_range (from + 1) count n b))

-- ---- what is in no list

pub neither : (x y : Bool) → (x || y) ≡ false → (x ≡ false) × (y ≡ false)
neither true y h = absurd cc
neither false y h = (refl, h)

any_appended : (test : Name → Bool) (xs ys : List Name) → list_any test (xs ++ ys) ≡ (list_any test xs || list_any test ys)
any_appended test [] ys = refl
any_appended test (x ∷ xs) ys = ap (λ b. test x || b) (any_appended test xs ys) ∙ sym (or_assoc (test x) (list_any test xs) (list_any test ys))

in_neither : (test : Name → Bool) (xs ys : List Name) → list_any test (xs ++ ys) ≡ false → (list_any test xs ≡ false) × (list_any test ys ≡ false)
in_neither test xs ys h = neither (list_any test xs) (list_any test ys) (sym (any_appended test xs ys) ∙ h)

pub other_way : (t u : Name) → bytes_eq t u ≡ false → bytes_eq u t ≡ false
other_way t u h = elim (name_tells u t) [ inr k ↦ k.0 | inl k ↦ elim (name_tells t u) [ inr q ↦ absurd (q.1 (sym k.1)) | inl q ↦ absurd (clash (bytes_eq t u) q.0 h) ] ]

not_free : (name : Name) (xs : FreeLists) → list_any (bytes_eq name) (map (λ f. f.0) xs) ≡ false → list_any (λ f. bytes_eq f.0 name) xs ≡ false
not_free name [] h = refl
not_free name (x ∷ xs) h =
    let (own, rest) = neither (bytes_eq name x.0) (list_any (bytes_eq name) (map (λ f. f.0) xs)) h in
    rw (other_way name x.0 own, not_free name xs rest) refl

not_kept : (may : ℕ → Bool) (name : Name) (s : ℕ) (ys : List Symbol) → list_any (bytes_eq name) (map (λ (y : Symbol). y.name) ys) ≡ false → is_kept_name may name s ys ≡ false
not_kept may name s [] h = refl
not_kept may name s (y ∷ ys) h =
    let (own, rest) = neither (bytes_eq name y.name) (list_any (bytes_eq name) (map (λ (z : Symbol). z.name) ys)) h in
    rw (other_way name y.name own, not_kept may name (suc s) ys rest, and_false (not (may s))) refl

module _ (may : ℕ → Bool) (a : Analysis) (p : Tree) where
  abbrev changing : List Name
  changing = changing_names may a p

  abbrev unused : List Name
  unused = unused_names may a p

  abbrev used_names : List Name
  used_names = symbol_names a.tables

  -- ---- old names

  pub record IsOld (name : Name) : Type 0 where
    pub symbol : Among name used_names
    pub fixed : is_fixed_name may a p name ≡ false

  old_of : (name : Name) → Among name changing → IsOld name
  old_of name b = elim (among_joined (filter (does_change may a p) used_names) [] name b) [
    | inl never ↦ absurd never
    | inr c ↦ (let (there, passes) = among_passing (does_change may a p) used_names name c in record {
      symbol = there;
      fixed = turned (is_fixed_name may a p name) (and_parts (nat_lt 1 (size_of name)) (not (is_fixed_name may a p name)) passes).1;
    })
  ]

  -- ---- new names

  pub record IsUnusedName (name : Name) : Type 0 where
    pub fits : is_ascii_identifier name ≡ true
    pub word : is_reserved name ≡ false
    pub fixed : is_fixed_name may a p name ≡ false
    pub symbol : Among name used_names → ⊥

  abbrev standing : List Name
  standing = fixed_below (bears_such may a) Elsewhere p.root.children

  abbrev free_names : List Name
  free_names = map (λ f. f.0) a.tables.free

  unused_of : (name : Name) → Among name unused → IsUnusedName name
  unused_of name b =
      let (there, passes) = among_passing (is_unused_name may a p) (short_names may a p) name b in
      let (n, c, e) = among_map short_name (range_with_len 0 (length (taken_names may a p) + length a.tables.symbols)) name there in
      let (word, rest) = in_neither (bytes_eq name) reserved_words (free_names ++ (used_names ++ standing)) (turned (list_any (bytes_eq name) (taken_names may a p)) passes) in
      let (free, more) = in_neither (bytes_eq name) free_names (used_names ++ standing) rest in
      let (symbol, fixed) = in_neither (bytes_eq name) used_names standing more in record {
        fits = subst (λ x. is_ascii_identifier x ≡ true) e (short_name_fits n);
        word = word;
        fixed = rw (not_free name a.tables.free free, not_kept may name 0 a.tables.symbols symbol, fixed) refl;
        symbol = λ d. clash (list_any (bytes_eq name) used_names) (any_among name used_names d) symbol;
      }

  -- ---- pairs

  pub old_in : (d : Pair) → Among d (name_pairs may a p) → IsOld d.0
  old_in d b = old_of d.0 (among_zipped changing unused d (among_passing is_shorter (zip changing unused) d b).0).0

  pub new_in : (d : Pair) → Among d (name_pairs may a p) → IsUnusedName d.1
  new_in d b = unused_of d.1 (among_zipped changing unused d (among_passing is_shorter (zip changing unused) d b).0).1

  pub pairs_apart : Apart (name_pairs may a p)
  pairs_apart = passing_apart is_shorter (zip changing unused) (zipped_apart changing unused
      (joined_different (filter (does_change may a p) used_names) [] tt)
      (passing_different (is_unused_name may a p) (short_names may a p) (short_different 0 (length (taken_names may a p) + length a.tables.symbols)))
      (λ x y b c e. (unused_of y c).symbol (subst (λ z. Among z used_names) e (old_of x b).symbol)))

-- ---- no word is given

not_word : (word name : Name) → is_reserved word ≡ true → is_reserved name ≡ false → bytes_eq word name ≡ false
not_word word name h k = elim (name_tells word name) [
  | inl w ↦ absurd (clash (is_reserved name) (subst (λ x. is_reserved x ≡ true) w.1 h) k)
  | inr w ↦ w.0
]

pub words_not_given : (name : Name) → is_reserved name ≡ false → IsPlain name
words_not_given name h = record { not_eval = not_word (codes "eval") name refl h; not_arguments = not_word (codes "arguments") name refl h }
