-- The rows of steps backward.
use Rattle.std.proofs.Common.{◌≡◌, ◌<◌, ◌+◌, ℕ, zero, suc, List, [], ◌∷◌, sym, subst, ◌∙◌, length, arith, All}
use Rattle.reachability.specs.Rows.{Among, row, rows_from_pairs, AreWithin}
use Rattle.reachability.proofs.Pairs.{rows_have, rows_have_only}
use Rattle.reachability.proofs.Within.{all_from}
use Rattle.link_search.specs.Reached.{backward_from, Spread, known_of, raised_all}
use Rattle.link_search.specs.declared.terminals.Terminals.{Terminals}
use Rattle.link_search.proofs.Spreads.{Pair, Forward, steps_backward, backward_steps, backward_within, Knows, work, turn}

row_inside : (rs : List (List ℕ)) (a b : ℕ) → Among b (row rs a) → a < length rs
row_inside [] a b i = absurd i
row_inside (r ∷ rs) zero b i = omega arith
row_inside (r ∷ rs) (suc a) b i = let h : a < length rs = row_inside rs a b i in omega (arith, h)

module _ (rows : List (List ℕ)) (w : AreWithin (length rows) rows) where
  abbrev pub back : List (List ℕ)
  back = rows_from_pairs (length rows) (backward_from 0 rows)

  pub to_back : (b x : ℕ) → Among b (row rows x) → Among x (row back b)
  to_back b x i = rows_have (length rows) (backward_from 0 rows) b x (backward_within (length rows) 0 rows w) (subst (λ k. Pair b k (backward_from 0 rows)) (omega arith) (steps_backward 0 rows x b i))

  forward : (b x : ℕ) → Among x (row back b) → Forward 0 rows b x
  forward b x i = backward_steps 0 rows b x (rows_have_only (length rows) (backward_from 0 rows) b x (backward_within (length rows) 0 rows w) i)

  pub from_back : (b x : ℕ) → Among x (row back b) → Among b (row rows x)
  from_back b x i = let f : Forward 0 rows b x = forward b x i in let e : x ≡ 0 + f.from = f.is in let g : f.from ≡ x = omega (arith, e) in subst (λ y. Among b (row rows y)) g f.step

  pub back_within : (b : ℕ) → All (λ x. x < length rows) (row back b)
  back_within b = all_from (λ x. x < length rows) (row back b) (λ x i. row_inside rows x b (from_back b x i))

  -- a turn, as the loop makes it
  pub turned : (ends : List (ℕ × ℕ)) (b : ℕ) (s t : Spread) (r : List ℕ) (v : Terminals) → Knows rows ends (length rows) (record { values = s.values; news = b ∷ s.news }) → r ≡ row back b → v ≡ known_of s.values b → t ≡ raised_all s r v → Knows rows ends (length rows) t × (work t < work (record { values = s.values; news = b ∷ s.news }))
  turned ends b s t r v k e f g =
      subst (λ u. Knows rows ends (length rows) u × (work u < work (record { values = s.values; news = b ∷ s.news }))) (sym (g ∙ (λ i. raised_all s (e i) (f i))))
      (turn rows ends (length rows) b s.values s.news (row back b) k (back_within b) (λ x i. to_back b x i) (λ x i. from_back b x i))
