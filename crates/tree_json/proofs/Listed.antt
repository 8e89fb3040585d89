-- Rows that list a tree, one after the other.
use Rattle.std.proofs.Common.{◌≡◌, ℕ, suc, ◌+◌, ◌<◌, ◌≤◌, true, false, nat_lt, List, [], ◌∷◌, length, get_or, drop, drop-cons, map, refl, sym, ap, ◌∙◌, subst, arith}
use Rattle.semantic_tree.specs.Limits.{depth_limit}
use Rattle.semantic_kinds.specs.declared.kind.AstType.TheVariants.{Program}
use Rattle.semantic_kinds.specs.declared.role.Role.TheVariants.{Root}
use Rattle.tree_json.specs.Lines.{Line}
use Rattle.tree_json.specs.Listing.{line, Continues, IsListing}
use Rattle.tree_json.specs.Reading.{follows, shallow_from}
use Rattle.tree_json.specs.declared.row.Row.{Row}
use Rattle.tree_json.proofs.Outcomes.{follows-true, follows-root}

-- the lines go on where so many nodes are open
abbrev pub GoesOn : ℕ → List Line → Type 0
GoesOn opened ls = (opened ≡ 0 → IsListing ls) × (0 < opened → Continues opened ls)

pub goes_end : (opened : ℕ) → 0 < opened → GoesOn opened []
goes_end opened some = (λ none. absurd (omega arith), λ _. tt)

goes_on : (opened k : ℕ) (l : Line) (ls : List Line) → follows opened l ≡ true → k ≡ l.depth + 1 → GoesOn k ls → GoesOn opened (l ∷ ls)
goes_on opened k l ls stands is more =
    let some : 0 < k = omega arith in
    let rest : Continues (l.depth + 1) ls = subst (λ n. Continues n ls) is (more.1 some) in
    let fits = follows-true opened l stands in
    let first : opened ≡ 0 → follows 0 l ≡ true = λ none. subst (λ n. follows n l ≡ true) none stands in
    let root : opened ≡ 0 → (l.depth ≤ 0) × (0 < 0 → 0 < l.depth) = λ none. follows-true 0 l (first none) in
    (λ none. (follows-root l (first none), ((root none).0, (root none).1, rest)), λ _. (fits.0, fits.1, rest))

-- what a row is where there is none
abbrev pub no_row : Row
no_row = record { depth = 0; role = Root; kind = Program; span = record { start = 0; end = 0 }; text = record { ref_ptr = (0, 0); now = [] }; marks = record { bits = 0 } }

split : (rows : List Row) (i : ℕ) → i < length rows → map line (drop i rows) ≡ line (get_or rows i no_row) ∷ map line (drop (i + 1) rows)
split rows i within =
    let next : suc i ≡ i + 1 = omega arith in
    let cells : drop i rows ≡ get_or rows i no_row ∷ drop (i + 1) rows = drop-cons rows i no_row within ∙ ap (λ k. get_or rows i no_row ∷ drop k rows) next in
    ap (map line) cells

pub goes_row : (opened : ℕ) (rows : List Row) (i : ℕ) → i < length rows → follows opened (line (get_or rows i no_row)) ≡ true → GoesOn ((get_or rows i no_row).depth + 1) (map line (drop (i + 1) rows)) → GoesOn opened (map line (drop i rows))
goes_row opened rows i within stands more =
    subst (GoesOn opened) (sym (split rows i within)) (goes_on opened ((get_or rows i no_row).depth + 1) (line (get_or rows i no_row)) (map line (drop (i + 1) rows)) stands refl more)

shallow_on : (index : ℕ) (l : Line) (ls : List Line) → nat_lt depth_limit l.depth ≡ false → shallow_from index (l ∷ ls) ≡ shallow_from (index + 1) ls
shallow_on index l ls shallow = rw shallow refl

pub shallow_row : (rows : List Row) (i : ℕ) → i < length rows → nat_lt depth_limit (get_or rows i no_row).depth ≡ false → shallow_from i (map line (drop i rows)) ≡ shallow_from (i + 1) (map line (drop (i + 1) rows))
shallow_row rows i within shallow = ap (shallow_from i) (split rows i within) ∙ shallow_on i (line (get_or rows i no_row)) (map line (drop (i + 1) rows)) shallow
