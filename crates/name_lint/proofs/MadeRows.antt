-- Rows that are made of pairs of symbols.
use Rattle.std.proofs.Common.{◌≡◌, ◌<◌, ℕ, List, Vec, All, length, sym, ap, subst, ◌∙◌}
use Rattle.std.proofs.lemmas.List.{length-map}
use Rattle.std.specs.declared.alloc.Global.{Global}
use Rattle.reachability.specs.Rows.{lists, rows_from_pairs, AreWithin}
use Rattle.reachability.proofs.Within.{length_rows_of, rows_of_within}

pub made_count : (n : ℕ) (rows : List (Vec ℕ Global)) (pairs : List (ℕ × ℕ)) → lists rows ≡ rows_from_pairs n pairs → length rows ≡ n
made_count n rows pairs e = sym (length-map rows (λ (v : Vec ℕ Global). v.items)) ∙ ap length e ∙ length_rows_of n pairs

pub made_within : (n : ℕ) (rows : List (Vec ℕ Global)) (pairs : List (ℕ × ℕ)) → lists rows ≡ rows_from_pairs n pairs → All (λ pair. pair.0 < n) pairs → All (λ pair. pair.1 < n) pairs → AreWithin (length rows) (lists rows)
made_within n rows pairs e h k = subst (λ m. AreWithin m (lists rows)) (sym (made_count n rows pairs e)) (subst (AreWithin n) (sym e) (rows_of_within n n pairs h k))
