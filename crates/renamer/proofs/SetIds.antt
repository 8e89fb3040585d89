-- Ids that are put into a set one after the other.
use Rattle.std.proofs.Common.{◌≡◌, ◌||◌, ◌+◌, ◌<◌, ◌≤◌, ℕ, List, Bool, true, false, cond, nat_eq, length, drop, get_or, refl, ap, sym, ◌∙◌}
use Rattle.std.proofs.Math.ListN.{drop_of_length-le}
use Rattle.semantic_syntax.specs.Members.{contains}
use Rattle.semantic_syntax.proofs.Truth.{or_true, or_false, drop_here}

-- with one id more in the set, and one less that is left
pub one_more : (ids : List ℕ) (i id q : ℕ) (before now : Bool) → i < length ids → id ≡ get_or ids i id → now ≡ cond (nat_eq id q) true before
    → (before || contains (drop i ids) q) ≡ contains ids q → (now || contains (drop (i + 1) ids) q) ≡ contains ids q
one_more ids i id q before now h e grown all =
    ap (λ b. b || contains (drop (i + 1) ids) q) grown
    ∙ go (nat_eq id q)
    ∙ sym (ap (λ xs. before || contains xs q) (drop_here ids i id h e))
    ∙ all
  where
    go : (b : Bool) → (cond b true before || contains (drop (i + 1) ids) q) ≡ (before || (b || contains (drop (i + 1) ids) q))
    go true = sym (or_true before)
    go false = refl

pub none_left : (ids : List ℕ) (i q : ℕ) (now : Bool) → length ids ≤ i → (now || contains (drop i ids) q) ≡ contains ids q → now ≡ contains ids q
none_left ids i q now h all = sym (or_false now) ∙ sym (ap (λ xs. now || contains xs q) (drop_of_length-le ids h)) ∙ all
