-- What the simple mangler gives to symbols, and which of them may change.
use Rattle.std.proofs.Common.{◌≡◌, ℕ, zero, suc, ◌+◌, List, [], ◌∷◌, Bool, true, false, not, ◌&&◌, ◌||◌, Option, Some, None, inl, inr, refl, sym, ap, subst, ◌∙◌, codes, bytes_eq, map, arith}
use Rattle.std.specs.Prelude.{slice_get, option_and_then}
use Rattle.std.specs.List.{list_any}
use Rattle.std.specs.Map.{lookup}
use Rattle.std.proofs.lemmas.Bool.{and_parts}
use Rattle.semantic_syntax.specs.SourceTypes.{is_typescript_definition}
use Rattle.semantic_syntax.specs.Tables.{Name, Symbol}
use Rattle.semantic_tree.specs.Tree.{Tree}
use Rattle.semantic_model.specs.Analysis.{Analysis, analysis_of}
use Rattle.semantic_model.specs.Entries.{Among}
use Rattle.semantic_model.specs.Exported.{exported_names}
use Rattle.semantic_model.specs.Step.{Step, steps}
use Rattle.semantic_model.proofs.once.ListedUnder.{name_tells}
use Rattle.program_laws.specs.SymbolNames.{IsNamed}
use Rattle.rename_model.specs.Renamed.{bears_name}
use Rattle.rename_model.proofs.NamedNodes.{some_is}
use Rattle.mangle_model.specs.Assignment.{assignment_of}
use Rattle.mangle_model.specs.GoodNames.{is_free_name, is_kept_name}
use Rattle.mangle_model.specs.MayMangle.{Options, is_open_scope, is_global, is_of_wrapper, is_kept_kind, is_predicate, is_kept_symbol, fixes_symbol, may_mangle_symbol}
use Rattle.mangle_model.specs.Mangling.{may_change}
use Rattle.mangle_model.specs.OneNameEach.{symbol_names, name_pairs, names_by_name}
use Rattle.mangle_model.proofs.EachPair.{turned, clash, neither, other_way, IsOld, IsUnusedName, old_in, new_in, words_not_given}
use Rattle.mangle_model.proofs.MappedNames.{Pair, Found, found, IsPlain, IsNotNew}

-- ---- what is listed

module _ (pairs : List Pair) where
  abbrev new_of : Name → Option Name
  new_of name = lookup (bytes_eq name) pairs

  same_entry : (s : ℕ) (ys : List Symbol) → assignment_of (names_by_name pairs ys) s ≡ option_and_then (λ (y : Symbol). new_of y.name) (slice_get ys s)
  same_entry s [] = refl
  same_entry zero (y ∷ ys) = refl
  same_entry (suc s) (y ∷ ys) = same_entry s ys

  pub listed_at : (ys : List Symbol) (s : ℕ) (y : Symbol) → slice_get ys s ≡ Some y → assignment_of (names_by_name pairs ys) s ≡ new_of y.name
  listed_at ys s y e = same_entry s ys ∙ ap (option_and_then (λ (z : Symbol). new_of z.name)) e

  -- a symbol with a new name is there
  pub record Listed (ys : List Symbol) (s : ℕ) (name : Name) : Type 0 where
    pub symbol : Symbol
    pub is_there : slice_get ys s ≡ Some symbol
    pub new : new_of symbol.name ≡ Some name

  pub listed_some : (ys : List Symbol) (s : ℕ) (name : Name) → assignment_of (names_by_name pairs ys) s ≡ Some name → Listed ys s name
  listed_some ys s name e = go (slice_get ys s) refl (sym (same_entry s ys) ∙ e)
    where
      go : (o : Option Symbol) → slice_get ys s ≡ o → option_and_then (λ (y : Symbol). new_of y.name) o ≡ Some name → Listed ys s name
      go None f h = absurd cc
      go (Some y) f h = record { symbol = y; is_there = f; new = h }

-- ---- a name that no kept symbol has

pub all_change : (may : ℕ → Bool) (name : Name) (from : ℕ) (ys : List Symbol) → is_kept_name may name from ys ≡ false → (s : ℕ) (y : Symbol) → slice_get ys s ≡ Some y → y.name ≡ name → may (from + s) ≡ true
all_change may name from [] h s y e n = absurd cc
all_change may name from (z ∷ ys) h zero y e n =
    let (own, rest) = neither (not (may from) && bytes_eq z.name name) (is_kept_name may name (suc from) ys) h in
    let same : bytes_eq z.name name ≡ true = elim (name_tells z.name name) [ inl w ↦ w.0 | inr w ↦ absurd (w.1 (ap (λ (x : Symbol). x.name) (some_is z y e) ∙ n)) ] in
    subst (λ k. may k ≡ true) (omega arith) (go (may from) (bytes_eq z.name name) same own)
  where
    go : (b c : Bool) → c ≡ true → (not b && c) ≡ false → b ≡ true
    go true c f g = refl
    go false c f g = absurd (clash c f g)
all_change may name from (z ∷ ys) h (suc s) y e n =
    subst (λ k. may k ≡ true) (omega arith)
    (all_change may name (suc from) ys (neither (not (may from) && bytes_eq z.name name) (is_kept_name may name (suc from) ys) h).1 s y e n)

-- a symbol of the name
pub record HasName (ys : List Symbol) (name : Name) : Type 0 where
  pub number : ℕ
  pub symbol : Symbol
  pub is_there : slice_get ys number ≡ Some symbol
  pub named : symbol.name ≡ name

pub symbol_of_name : (ys : List Symbol) (name : Name) → Among name (map (λ (y : Symbol). y.name) ys) → HasName ys name
symbol_of_name [] name a = absurd a
symbol_of_name (y ∷ ys) name (inl e) = record { number = zero; symbol = y; is_there = refl; named = e }
symbol_of_name (y ∷ ys) name (inr a) = let h : HasName ys name = symbol_of_name ys name a in record { number = suc h.number; symbol = h.symbol; is_there = h.is_there; named = h.named }

pub name_of_symbol : (ys : List Symbol) (s : ℕ) (y : Symbol) → slice_get ys s ≡ Some y → Among y.name (map (λ (z : Symbol). z.name) ys)
name_of_symbol [] s y e = absurd cc
name_of_symbol (z ∷ ys) zero y e = inl (ap (λ (x : Symbol). x.name) (some_is z y e))
name_of_symbol (z ∷ ys) (suc s) y e = inr (name_of_symbol ys s y e)

-- ---- what a symbol that may change is

module _ (o : Options) (p : Tree) where
  abbrev a : Analysis
  a = analysis_of p

  abbrev walk : List Step
  walk = steps p

  abbrev may : ℕ → Bool
  may = may_change o p

  abbrev symbols : List Symbol
  symbols = a.tables.symbols

  abbrev pairs : List Pair
  pairs = name_pairs may a p

  pub record Changes (s : ℕ) (y : Symbol) : Type 0 where
    pub kept : is_kept_symbol walk y ≡ false
    pub fixes : list_any (fixes_symbol (exported_names walk) (bears_name a s)) walk ≡ false

  pub changes : (s : ℕ) (y : Symbol) → slice_get symbols s ≡ Some y → may s ≡ true → Changes s y
  changes s y e h =
      let (dts, own) = and_parts (not (is_typescript_definition p.source_type)) (may_mangle_symbol o p walk a s (slice_get symbols s)) h in
      let chain : may_mangle_symbol o p walk a s (Some y) ≡ true = ap (may_mangle_symbol o p walk a s) (sym e) ∙ own in
      let (c0, r0) = and_parts (not (is_open_scope a.tables.scopes y.scope (slice_get a.tables.scopes y.scope))) _ chain in
      let (c1, r1) = and_parts (not (is_global o p.source_type y.scope)) _ r0 in
      let (c2, r2) = and_parts (not (is_of_wrapper p.source_type y)) _ r1 in
      let (c3, c4) = and_parts (not (is_kept_symbol walk y)) (not (list_any (fixes_symbol (exported_names walk) (bears_name a s)) walk)) r2 in
      record { kept = turned (is_kept_symbol walk y) c3; fixes = turned (list_any (fixes_symbol (exported_names walk) (bears_name a s)) walk) c4 }

  -- a number that may change is of a symbol
  pub record Changing (s : ℕ) : Type 0 where
    pub symbol : Symbol
    pub is_there : slice_get symbols s ≡ Some symbol
    pub changes : Changes s symbol

  pub changing : (s : ℕ) → may s ≡ true → Changing s
  changing s h = go (slice_get symbols s) refl (and_parts (not (is_typescript_definition p.source_type)) (may_mangle_symbol o p walk a s (slice_get symbols s)) h).1
    where
      go : (found : Option Symbol) → slice_get symbols s ≡ found → may_mangle_symbol o p walk a s found ≡ true → Changing s
      go None e k = absurd cc
      go (Some y) e k = record { symbol = y; is_there = e; changes = changes s y e h }

  plain_name : (s : ℕ) (y : Symbol) → Changes s y → IsPlain y.name
  plain_name s y c =
      let (k0, r0) = neither (is_kept_kind y) _ c.kept in
      let (k1, r1) = neither (bytes_eq y.name (codes "arguments")) _ r0 in
      let (k2, r2) = neither (bytes_eq y.name (codes "eval")) (bytes_eq y.name (codes "__proto__") || list_any (is_predicate y.name) walk) r1 in
      record { not_eval = other_way y.name (codes "eval") k2; not_arguments = other_way y.name (codes "arguments") k1 }

  -- symbols of an old name may change
  pub old_changes : (s : ℕ) (y : Symbol) (name : Name) → slice_get symbols s ≡ Some y → y.name ≡ name → IsOld may a p name → may s ≡ true
  old_changes s y name e n old =
      let (free, rest) = neither (is_free_name a.tables name) _ old.fixed in
      let (kept, standing) = neither (is_kept_name may name 0 symbols) _ rest in
      subst (λ k. may k ≡ true) (omega arith) (all_change may name 0 symbols kept s y e n)

  plain_old : (name : Name) → IsOld may a p name → IsPlain name
  plain_old name old =
      let h : HasName symbols name = symbol_of_name symbols name old.symbol in
      subst IsPlain h.named (plain_name h.number h.symbol (changes h.number h.symbol h.is_there (old_changes h.number h.symbol name h.is_there h.named old)))

  pub plain_pairs : (d : Pair) → Among d pairs → IsPlain d.0 × IsPlain d.1
  plain_pairs d b = (plain_old d.0 (old_in may a p d b), words_not_given d.1 (new_in may a p d b).word)

  -- ---- names that are not new

  pub symbol_not_new : (name : Name) → Among name (symbol_names a.tables) → IsNotNew pairs name
  symbol_not_new name there d b e = (new_in may a p d b).symbol (subst (λ x. Among x (symbol_names a.tables)) (sym e) there)

  -- ---- what symbols are given

  pub given_named : (s : ℕ) (name : Name) → IsNamed a.tables s name → assignment_of (names_by_name pairs symbols) s ≡ lookup (bytes_eq name) pairs
  given_named s name w = listed_at pairs symbols s w.symbol w.is_there ∙ ap (λ x. lookup (bytes_eq x) pairs) w.named

  -- a symbol with a new name may change, and has an old name
  pub record Gets (s : ℕ) (name : Name) : Type 0 where
    pub symbol : Symbol
    pub is_there : slice_get symbols s ≡ Some symbol
    pub may_be : may s ≡ true
    pub unused : IsUnusedName may a p name

  pub gets : (s : ℕ) (name : Name) → assignment_of (names_by_name pairs symbols) s ≡ Some name → Gets s name
  gets s name e =
      let l : Listed pairs symbols s name = listed_some pairs symbols s name e in
      let f : Found pairs l.symbol.name name = found pairs l.symbol.name name l.new in record {
        symbol = l.symbol;
        is_there = l.is_there;
        may_be = old_changes s l.symbol l.symbol.name l.is_there refl (subst (λ x. IsOld may a p x) f.old (old_in may a p f.pair f.among));
        unused = subst (λ x. IsUnusedName may a p x) f.new (new_in may a p f.pair f.among);
      }
