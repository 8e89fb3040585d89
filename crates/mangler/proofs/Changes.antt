-- Which symbols may change, symbol by symbol.
use Rattle.std.proofs.Common.{◌≡◌, ◌⊎◌, inl, inr, ℕ, zero, suc, ◌+◌, ◌<◌, ◌≤◌, List, [], ◌∷◌, ◌++◌, Some, None, Bool, true, false, not, ◌&&◌, ◌||◌, nat_lt, length, get_or, refl, sym, ap, ◌∙◌, arith}
use Rattle.std.specs.Prelude.{slice_get}
use Rattle.std.specs.List.{list_any}
use Rattle.std.proofs.lemmas.Bool.Decides.{Decides-ltb, nat_tests}
use Rattle.std.proofs.lemmas.Option.{slice_get-get_or}
use Rattle.semantic_syntax.specs.Reading.{no_symbol}
use Rattle.semantic_syntax.specs.SourceTypes.{is_typescript_definition}
use Rattle.semantic_syntax.specs.Tables.{Symbol, Tables}
use Rattle.semantic_tree.specs.Tree.{Tree}
use Rattle.semantic_model.specs.Analysis.{analysis_of}
use Rattle.semantic_model.specs.Exported.{exported_names}
use Rattle.semantic_model.specs.Step.{Step, steps}
use Rattle.rename_model.specs.Renamed.{bears_name}
use Rattle.mangle_model.specs.MayMangle.{Options, fixes_symbol, is_global, is_kept_symbol, is_of_wrapper, is_open_scope, may_mangle_symbol}
use Rattle.mangle_model.specs.Mangling.{may_change}
use Rattle.mangler.specs.Changing.{must_keep}
use Rattle.mangle_names.specs.Marks.{is_number_marked}

not_or : (a b : Bool) → not (a || b) ≡ (not a && not b)
not_or true b = refl
not_or false b = refl

-- a symbol that must not keep its name may change
pub not_kept : (o : Options) (p : Tree) (t : Tables) (s : ℕ) (fixed : Bool) → t ≡ (analysis_of p).tables → s < length t.symbols → fixed ≡ list_any (fixes_symbol (exported_names (steps p)) (bears_name (analysis_of p) s)) (steps p)
    → not (must_keep o p t fixed (get_or t.symbols s no_symbol)) ≡ may_change o p s
not_kept o p t s fixed same within is =
    let y : Symbol = get_or t.symbols s no_symbol in
    let walk : List Step = steps p in
    let d : Bool = is_typescript_definition p.source_type in
    let open_scope : Bool = is_open_scope t.scopes y.scope (slice_get t.scopes y.scope) in
    let global : Bool = is_global o p.source_type y.scope in
    let wrapper : Bool = is_of_wrapper p.source_type y in
    let kept : Bool = is_kept_symbol walk y in
    let there : slice_get t.symbols s ≡ Some y = slice_get-get_or t.symbols s no_symbol within in
    not_or d (open_scope || (global || (wrapper || (kept || fixed))))
    ∙ ap (λ b. not d && b) (
    not_or open_scope (global || (wrapper || (kept || fixed)))
    ∙ ap (λ b. not open_scope && b) (not_or global (wrapper || (kept || fixed))
    ∙ ap (λ b. not global && b) (not_or wrapper (kept || fixed)
    ∙ ap (λ b. not wrapper && b) (not_or kept fixed))))
    ∙ (λ i. not d && (not (is_open_scope (same i).scopes y.scope (slice_get (same i).scopes y.scope)) && (not global && (not wrapper && (not kept && not (is i))))))
    ∙ ap (λ f. not d && may_mangle_symbol o p walk (analysis_of p) s f) (sym there ∙ ap (λ (u : Tables). slice_get u.symbols s) same)

-- a number past the symbols may not
no_more : (xs : List Symbol) (s : ℕ) → length xs ≤ s → slice_get xs s ≡ None
no_more [] s h = refl
no_more (x ∷ xs) zero h = absurd (omega arith)
no_more (x ∷ xs) (suc s) h = no_more xs s (omega arith)

and_false : (b : Bool) → false ≡ (b && false)
and_false true = refl
and_false false = refl

pub past_symbols : (o : Options) (p : Tree) (s : ℕ) → length (analysis_of p).tables.symbols ≤ s → false ≡ may_change o p s
past_symbols o p s h =
    and_false (not (is_typescript_definition p.source_type))
    ∙ ap (λ f. not (is_typescript_definition p.source_type) && may_mangle_symbol o p (steps p) (analysis_of p) s f) (sym (no_more (analysis_of p).tables.symbols s h))

-- ---- marks

pub at_before : (xs : List Bool) (b : Bool) (s : ℕ) → s < length xs → is_number_marked (xs ++ b ∷ []) s ≡ is_number_marked xs s
at_before [] b s h = absurd (omega arith)
at_before (x ∷ xs) b zero h = refl
at_before (x ∷ xs) b (suc s) h = at_before xs b s (omega arith)

pub at_last : (xs : List Bool) (b : Bool) → is_number_marked (xs ++ b ∷ []) (length xs) ≡ b
at_last [] b = refl
at_last (x ∷ xs) b = at_last xs b

pub at_past : (xs : List Bool) (s : ℕ) → length xs ≤ s → is_number_marked xs s ≡ false
at_past [] s h = refl
at_past (x ∷ xs) zero h = absurd (omega arith)
at_past (x ∷ xs) (suc s) h = at_past xs s (omega arith)

before_or_at : (s n : ℕ) → s < n + 1 → (s < n) ⊎ (s ≡ n)
before_or_at s n h = go (nat_lt s n) refl
  where
    go : (b : Bool) → nat_lt s n ≡ b → (s < n) ⊎ (s ≡ n)
    go true e = inl ((Decides-ltb s n).0 e)
    go false e = let past : n ≤ s = grind (arith, nat_tests, e) in inr (omega (arith, past, h))

-- the symbols so far are marked
pub record Marked (may : ℕ → Bool) (marks : List Bool) (number : ℕ) : Type 0 where
  pub long : length marks ≡ number
  pub each : (s : ℕ) → s < number → is_number_marked marks s ≡ may s

longer : (xs : List Bool) (b : Bool) → length (xs ++ b ∷ []) ≡ length xs + 1
longer [] b = refl
longer (x ∷ xs) b = ap (λ n. suc n) (longer xs b) ∙ omega arith

pub one_marked : (may : ℕ → Bool) (marks new : List Bool) (number : ℕ) (b : Bool) → new ≡ marks ++ b ∷ [] → b ≡ may number → Marked may marks number → Marked may new (number + 1)
one_marked may marks new number b grown is far = record {
  long = ap length grown ∙ longer marks b ∙ ap (λ n. n + 1) far.long;
  each = λ s h. ap (λ xs. is_number_marked xs s) grown ∙ go s h (before_or_at s number h);
}
  where
    go : (s : ℕ) → s < number + 1 → (s < number) ⊎ (s ≡ number) → is_number_marked (marks ++ b ∷ []) s ≡ may s
    go s h (inl i) = let l : length marks ≡ number = far.long in at_before marks b s (omega (arith, l, i)) ∙ far.each s i
    go s h (inr e) = ap (is_number_marked (marks ++ b ∷ [])) (e ∙ sym far.long) ∙ at_last marks b ∙ is ∙ ap may (sym e)

-- all are
pub all_marked : (o : Options) (p : Tree) (t : Tables) (marks : List Bool) (number : ℕ) → t ≡ (analysis_of p).tables → length t.symbols ≤ number → number ≤ length t.symbols → Marked (may_change o p) marks number
    → (s : ℕ) → is_number_marked marks s ≡ may_change o p s
all_marked o p t marks number same ended within far s = go (nat_lt s number) refl
  where
    go : (b : Bool) → nat_lt s number ≡ b → is_number_marked marks s ≡ may_change o p s
    go true e = far.each s ((Decides-ltb s number).0 e)
    go false e =
        let past : number ≤ s = grind (arith, nat_tests, e) in
        let l : length marks ≡ number = far.long in
        let count : length t.symbols ≡ length (analysis_of p).tables.symbols = ap (λ (u : Tables). length u.symbols) same in
        at_past marks s (omega (arith, l, past)) ∙ past_symbols o p s (omega (arith, count, past, ended, within))
