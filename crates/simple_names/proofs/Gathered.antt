-- The names of symbols, one by one, and all together.
use Rattle.std.proofs.Common.{◌≡◌, ℕ, ◌+◌, ◌<◌, ◌≤◌, List, [], ◌∷◌, ◌++◌, Bool, Option, length, drop, map, filter, zip, fold, get_or, bytes_eq, sym, ap, subst, ◌∙◌, append_assoc}
use Rattle.std.specs.Map.{lookup}
use Rattle.std.proofs.lemmas.List.{drop_more, drop_all, append-nil}
use Rattle.semantic_syntax.specs.Reading.{no_symbol}
use Rattle.semantic_syntax.specs.Tables.{Name, Symbol}
use Rattle.semantic_tree.specs.Tree.{Tree}
use Rattle.semantic_model.specs.Analysis.{Analysis}
use Rattle.mangle_model.specs.OneNameEach.{changing_names, is_shorter, joining, name_pairs, names_by_name, symbol_names, taken_names, unused_names}
use Rattle.mangle_model.proofs.EnoughNames.{enough}
use Rattle.simple_names.specs.NextNames.{unused_from}
use Rattle.simple_names.specs.TakenNames.{changes_by, unused_by, AreTaken}
use Rattle.simple_names.specs.declared.sets.Taken.{Taken}
use Rattle.simple_names.proofs.TakenSets.{changes_so, unused_so}

abbrev Pairs : Type 0
Pairs = List (Name × Name)

pub named_turn : (pairs : Pairs) (ys : List Symbol) (i : ℕ) (old new whole : List (Option Name)) → i < length ys → new ≡ old ++ lookup (bytes_eq (get_or ys i no_symbol).name) pairs ∷ []
    → old ++ names_by_name pairs (drop i ys) ≡ whole → new ++ names_by_name pairs (drop (i + 1) ys) ≡ whole
named_turn pairs ys i old new whole h is rest =
    ap (λ names. names ++ names_by_name pairs (drop (i + 1) ys)) is
    ∙ append_assoc old (lookup (bytes_eq (get_or ys i no_symbol).name) pairs ∷ []) (names_by_name pairs (drop (i + 1) ys))
    ∙ ap (λ zs. old ++ names_by_name pairs zs) (sym (drop_more ys i no_symbol h))
    ∙ rest

pub named_end : (pairs : Pairs) (ys : List Symbol) (i : ℕ) (names whole : List (Option Name)) → length ys ≤ i → names ++ names_by_name pairs (drop i ys) ≡ whole → names ≡ whole
named_end pairs ys i names whole h rest = sym (append-nil names) ∙ ap (λ zs. names ++ names_by_name pairs zs) (sym (drop_all i ys h)) ∙ rest

-- names are those of the model, where each name has the new one that its pairs give
pub names_are : (may : ℕ → Bool) (a : Analysis) (p : Tree) (taken : Taken) (changing : List Name) (pairs : Pairs) (names : List (Option Name)) → AreTaken may a p taken
    → changing ≡ fold joining [] (filter (changes_by taken) (symbol_names a.tables))
    → ((count : ℕ) → length changing ≤ length (unused_from (unused_by taken) 0 count) → (q : Name) → lookup (bytes_eq q) pairs ≡ lookup (bytes_eq q) (filter is_shorter (zip changing (unused_from (unused_by taken) 0 count))))
    → names ≡ names_by_name pairs a.tables.symbols → names ≡ names_by_name (name_pairs may a p) a.tables.symbols
names_are may a p taken changing pairs names h changed paired named =
    let count : ℕ = length (taken_names may a p) + length a.tables.symbols in
    let changes : changing ≡ changing_names may a p = changed ∙ ap (λ test. fold joining [] (filter test (symbol_names a.tables))) (λ i name. changes_so may a p taken h name i) in
    let unused : unused_from (unused_by taken) 0 count ≡ unused_names may a p = ap (λ test. unused_from test 0 count) (λ i name. unused_so may a p taken h name i) in
    let many : length changing ≤ length (unused_from (unused_by taken) 0 count) = subst (λ n. n ≤ length (unused_from (unused_by taken) 0 count)) (ap length (sym changes)) (subst (λ n. length (changing_names may a p) ≤ n) (ap length (sym unused)) (enough may a p)) in
    let found : (q : Name) → lookup (bytes_eq q) pairs ≡ lookup (bytes_eq q) (name_pairs may a p) =
    λ q. paired count many q ∙ (λ i. lookup (bytes_eq q) (filter is_shorter (zip (changes i) (unused i)))) in
    named ∙ (λ i. map (λ (y : Symbol). found y.name i) a.tables.symbols)
