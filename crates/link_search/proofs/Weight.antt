-- What is left to do: each number that wasn't entered stands for its row, its leaving and itself.
use Rattle.std.proofs.Common.{◌≡◌, ◌<◌, ◌≤◌, ◌+◌, ℕ, zero, suc, List, [], ◌∷◌, length, set, arith, true, false}
use Rattle.reachability.specs.Rows.{row}
use Rattle.link_search.specs.declared.rings.Mark.{Mark}
use Rattle.link_search.specs.declared.rings.Task.{Task}
use Rattle.link_search.specs.Walked.{mark_of, is_new, enter_tasks}
use Rattle.link_search.specs.Keeping.{weight}

pub weight_entered : (ms : List Mark) (rows : List (List ℕ)) (a : ℕ) (m : Mark) → a < length ms → is_new (mark_of ms a) ≡ true → is_new m ≡ false → weight (set ms a m) rows + length (row rows a) + 2 ≡ weight ms rows
weight_entered [] rows a m h e f = absurd (omega (arith, h))
weight_entered (n ∷ ms) [] zero m h e f = rw (e, f) (omega arith)
weight_entered (n ∷ ms) (r ∷ rows) zero m h e f = rw (e, f) (omega arith)
weight_entered (n ∷ ms) [] (suc a) m h e f = let i : weight (set ms a m) [] + 0 + 2 ≡ weight ms [] = weight_entered ms [] a m (omega (arith, h)) e f in omega (arith, i)
weight_entered (n ∷ ms) (r ∷ rows) (suc a) m h e f = let i : weight (set ms a m) rows + length (row rows a) + 2 ≡ weight ms rows = weight_entered ms rows a m (omega (arith, h)) e f in omega (arith, i)

pub weight_left : (ms : List Mark) (rows : List (List ℕ)) (a : ℕ) (m : Mark) → is_new m ≡ false → weight (set ms a m) rows ≤ weight ms rows
weight_left [] rows a m f = omega arith
weight_left (n ∷ ms) [] zero m f = rw f (omega arith)
weight_left (n ∷ ms) (r ∷ rows) zero m f = rw f (omega arith)
weight_left (n ∷ ms) [] (suc a) m f = let i : weight (set ms a m) [] ≤ weight ms [] = weight_left ms [] a m f in omega (arith, i)
weight_left (n ∷ ms) (r ∷ rows) (suc a) m f = let i : weight (set ms a m) rows ≤ weight ms rows = weight_left ms rows a m f in omega (arith, i)

pub length_entering : (bs : List ℕ) (ts : List Task) → length (enter_tasks bs ts) ≡ length bs + length ts
length_entering [] ts = omega arith
length_entering (b ∷ bs) ts = let i : length (enter_tasks bs (Task.Enter b ∷ ts)) ≡ length bs + length (Task.Enter b ∷ ts) = length_entering bs (Task.Enter b ∷ ts) in omega (arith, i)
