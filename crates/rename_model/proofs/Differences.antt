-- The test at each node is the relation, and the search finds the least node at which it fails.
use Rattle.std.proofs.Common.{◌≡◌, ◌<◌, ◌≤◌, ◌+◌, ℕ, zero, suc, Bool, true, false, ◌&&◌, Option, Some, None, cond, refl, sym, ap, subst, ◌∙◌, inl, inr, ◌⊎◌, arith, eq-eqb}
use Rattle.std.proofs.lemmas.Bool.{and_parts, eqb-true, cases_eq}
use Rattle.semantic_tree.specs.Children.{node_count}
use Rattle.semantic_tree.specs.Tree.{Tree}
use Rattle.semantic_model.specs.Analysis.{Analysis, symbol_at, tied_at, analysis_of}
use Rattle.rename_model.specs.Same.{same_option, is_same_at, SameAt, Same, DiffersFirstAt, first_difference}

same_is : (x y : Option ℕ) → same_option x y ≡ true → x ≡ y
same_is None None e = refl
same_is None (Some y) e = absurd cc
same_is (Some x) None e = absurd cc
same_is (Some x) (Some y) e = ap Some (eqb-true x y e)

is_same : (x : Option ℕ) → same_option x x ≡ true
is_same None = refl
is_same (Some x) = eq-eqb x x refl

same_at : (a b : Analysis) (n : ℕ) → is_same_at a b n ≡ true → SameAt a b n
same_at a b n e =
    let w : (same_option (symbol_at a n) (symbol_at b n) ≡ true) × (same_option (tied_at a n) (tied_at b n) ≡ true) = and_parts (same_option (symbol_at a n) (symbol_at b n)) (same_option (tied_at a n) (tied_at b n)) e in
    record { symbol = same_is (symbol_at a n) (symbol_at b n) w.0; tied = same_is (tied_at a n) (tied_at b n) w.1 }

at_same : (a b : Analysis) (n : ℕ) → SameAt a b n → is_same_at a b n ≡ true
at_same a b n s =
    ap (λ x. same_option x (symbol_at b n) && same_option (tied_at a n) (tied_at b n)) s.symbol
    ∙ ap (λ x. x && same_option (tied_at a n) (tied_at b n)) (is_same (symbol_at b n))
    ∙ ap (λ x. same_option x (tied_at b n)) s.tied ∙ is_same (tied_at b n)

module _ (a b : Analysis) where
  all_same : (from count : ℕ) → first_difference a b from count ≡ None → (n : ℕ) → from ≤ n → n < from + count → SameAt a b n
  all_same from zero e n h l = absurd (omega (arith, h, l))
  all_same from (suc count) e n h l = go (is_same_at a b from) refl e (λ f i j. all_same (from + 1) count f n i j) (cases_eq n from)
    where
      go : (x : Bool) → is_same_at a b from ≡ x → cond x (first_difference a b (from + 1) count) (Some from) ≡ None → (first_difference a b (from + 1) count ≡ None → from + 1 ≤ n → n < from + 1 + count → SameAt a b n) → (n ≡ from) ⊎ (n ≡ from → ⊥) → SameAt a b n
      go true t e more (inl same) = subst (SameAt a b) (sym same) (same_at a b from t)
      go true t e more (inr other) = more e (omega (arith, h, other)) (omega (arith, l))
      go false t e more c = absurd cc

  pub record First (from count node : ℕ) : Type 0 where
    pub inside : node < from + count
    pub after : from ≤ node
    pub before : (earlier : ℕ) → from ≤ earlier → earlier < node → SameAt a b earlier
    pub there : SameAt a b node → ⊥

  finds_first : (from count node : ℕ) → first_difference a b from count ≡ Some node → First from count node
  finds_first from zero node e = absurd cc
  finds_first from (suc count) node e = go (is_same_at a b from) refl e (λ f. finds_first (from + 1) count node f)
    where
      earlier_too : is_same_at a b from ≡ true → First (from + 1) count node → (earlier : ℕ) → (earlier ≡ from) ⊎ (earlier ≡ from → ⊥) → from ≤ earlier → earlier < node → SameAt a b earlier
      earlier_too t f earlier (inl same) h l = subst (SameAt a b) (sym same) (same_at a b from t)
      earlier_too t f earlier (inr other) h l = f.before earlier (omega (arith, h, other)) l

      here : is_same_at a b from ≡ false → SameAt a b from → ⊥
      here t s = differ (sym (at_same a b from s) ∙ t)
        where
          differ : true ≡ false → ⊥
          differ f = absurd cc

      at_from : is_same_at a b from ≡ false → from ≡ node → First from (suc count) node
      at_from t same = subst (First from (suc count)) same (record {
        inside = omega arith;
        after = omega arith;
        before = λ earlier h l. absurd (omega (arith, h, l));
        there = here t;
      })

      go : (x : Bool) → is_same_at a b from ≡ x → cond x (first_difference a b (from + 1) count) (Some from) ≡ Some node → (first_difference a b (from + 1) count ≡ Some node → First (from + 1) count node) → First from (suc count) node
      go true t e more = let f : First (from + 1) count node = more e in record {
        inside = (let i : node < from + 1 + count = f.inside in omega (arith, i));
        after = (let i : from + 1 ≤ node = f.after in omega (arith, i));
        before = λ earlier h l. earlier_too t f earlier (cases_eq earlier from) h l;
        there = f.there;
      }
      go false t e more = at_from t (some_is from node e)
        where
          some_is : (x y : ℕ) → Some x ≡ Some y → x ≡ y
          some_is x y e = cc

  none_found : (from count : ℕ) → ((n : ℕ) → from ≤ n → n < from + count → SameAt a b n) → first_difference a b from count ≡ None
  none_found from zero h = refl
  none_found from (suc count) h =
      ap (λ x. cond x (first_difference a b (from + 1) count) (Some from)) (at_same a b from (h from (omega arith) (omega arith)))
      ∙ none_found (from + 1) count (λ n i j. h n (omega (arith, i)) (omega (arith, j)))

pub exact_none : (p q : Tree) → first_difference (analysis_of p) (analysis_of q) 0 (node_count p.root) ≡ None → Same p q
exact_none p q e n h = all_same (analysis_of p) (analysis_of q) 0 (node_count p.root) e n (omega arith) (omega (arith, h))

pub exact_some : (p q : Tree) (node : ℕ) → first_difference (analysis_of p) (analysis_of q) 0 (node_count p.root) ≡ Some node → DiffersFirstAt p q node
exact_some p q node e =
    let f : First (analysis_of p) (analysis_of q) 0 (node_count p.root) node = finds_first (analysis_of p) (analysis_of q) 0 (node_count p.root) node e in
    record { inside = (let i : node < 0 + node_count p.root = f.inside in omega (arith, i)); before = λ earlier l. f.before earlier (omega arith) l; there = f.there }

pub complete : (p q : Tree) → Same p q → first_difference (analysis_of p) (analysis_of q) 0 (node_count p.root) ≡ None
complete p q s = none_found (analysis_of p) (analysis_of q) 0 (node_count p.root) (λ n i j. s n (omega (arith, j)))
