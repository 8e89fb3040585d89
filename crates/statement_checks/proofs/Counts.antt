-- How often each symbol is bound, counted and told.
use Rattle.std.proofs.Common.{◌≡◌, ℕ, suc, ◌+◌, ◌-◌, ◌<◌, ◌≤◌, List, [], ◌∷◌, ◌++◌, Bool, true, false, cond, ◌==◌, get_or, drop, length, filter, flat_map, refl, sym, ap, ◌∙◌, add-one, arith, drop-cons}
use Rattle.std.proofs.lemmas.Bool.{eq-eqb}
use Rattle.semantic_syntax.specs.Tables.{Tables}
use Rattle.semantic_diagnostics.specs.declared.diagnostic.Diagnostic.{Diagnostic}
use Rattle.semantic_syntax.specs.Reading.{no_symbol, symbol_of}
use Rattle.check_model.specs.Exports.{bound_rows, import_rows}
use Rattle.statement_checks.specs.Bound.{times_in, AreCounting, rows_repeated}

-- ---- counting

-- a list has a number at most as often as it is long
times-le : (number : ℕ) (xs : List ℕ) → times_in xs number ≤ length xs
times-le number [] = omega arith
times-le number (x ∷ xs) = by (x == number) (times-le number xs)
  where
    by : (b : Bool) → times_in xs number ≤ length xs → length (cond b (x ∷ filter (λ other. other == number) xs) (filter (λ other. other == number) xs)) ≤ suc (length xs)
    by true rest = omega (arith, rest)
    by false rest = omega (arith, rest)

module _ (y : ℕ) (rest : List ℕ) (number : ℕ) where
  times_same : y ≡ number → times_in (y ∷ rest) number ≡ suc (times_in rest number)
  times_same is = ap (λ b. length (cond b (y ∷ filter (λ other. other == number) rest) (filter (λ other. other == number) rest))) (eq-eqb y number is)

module _ (bound rest : List ℕ) (symbols : ℕ) (counts : List ℕ) (y : ℕ) (h : AreCounting bound (y ∷ rest) symbols counts) where
  -- no count is above the number of all that are bound
  pub count_fits : y < symbols → get_or counts y 0 + 1 ≤ length bound
  count_fits within =
      let one : times_in (y ∷ rest) y ≡ suc (times_in rest y) = times_same y rest y refl in
      let before : get_or counts y 0 + times_in (y ∷ rest) y ≡ times_in bound y = h.are_times y within in
      let most : times_in bound y ≤ length bound = times-le y bound in
      omega (arith, one, before, most)

-- ---- telling

-- the rows of one turn, and those of the turns after it
pub next_turn : (times turn : ℕ) (rows : List Diagnostic) → turn < times → rows_repeated (times - turn) rows ≡ rows ++ rows_repeated (times - (turn + 1)) rows
next_turn times turn rows h = let e : times - turn ≡ suc (times - (turn + 1)) = omega (arith, h) in ap (λ n. rows_repeated n rows) e

pub first_turn : (times : ℕ) (rows : List Diagnostic) → rows_repeated (times - 0) rows ≡ rows_repeated times rows
first_turn times rows = let e : times - 0 ≡ times = omega arith in ap (λ n. rows_repeated n rows) e

pub no_turn : (times turn : ℕ) (rows : List Diagnostic) → times ≤ turn → rows_repeated (times - turn) rows ≡ []
no_turn times turn rows h = let e : times - turn ≡ 0 = omega (arith, h) in ap (λ n. rows_repeated n rows) e

-- the same rows for each of a list
for_each_repeated : (rows : List Diagnostic) (xs : List ℕ) → flat_map (λ same. rows) xs ≡ rows_repeated (length xs) rows
for_each_repeated rows [] = refl
for_each_repeated rows (x ∷ xs) = ap (λ l. rows ++ l) (for_each_repeated rows xs)

-- the rows of a symbol, as often as it is bound, and those of the symbols after it
pub next_symbol : (bound : List ℕ) (t : Tables) (number times : ℕ) → number < length t.symbols → times ≡ times_in bound number
    → bound_rows bound number (drop number t.symbols) ≡ rows_repeated times (import_rows (symbol_of t number)) ++ bound_rows bound (number + 1) (drop (number + 1) t.symbols)
next_symbol bound t number times within is =
    ap (bound_rows bound number) (drop-cons t.symbols number no_symbol within ∙ ap (λ k. symbol_of t number ∷ drop k t.symbols) (sym (add-one number)))
    ∙ ap (λ l. l ++ bound_rows bound (number + 1) (drop (number + 1) t.symbols))
    (for_each_repeated (import_rows (symbol_of t number)) (filter (λ other. other == number) bound) ∙ ap (λ n. rows_repeated n (import_rows (symbol_of t number))) (sym is))
