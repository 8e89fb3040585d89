-- How many scopes a look-up asks, along a chain in parts.
use Rattle.std.proofs.Common.{◌≡◌, ℕ, suc, ◌+◌, ◌≤◌, List, [], ◌∷◌, ◌++◌, Option, Some, None, Bool, true, false, cond, refl, ap, length, arith}
use Rattle.semantic_syntax.specs.Tables.{Name}
use Rattle.semantic_syntax.specs.Lookup.{Seen, Asked, Lookup, tied, barred, fits, ends_after, tied_by, or_lookup, lookup, count_or, probes_in}
use Rattle.walk_model.proofs.refers.Lookups.{answered_in, AreAlike}

-- past the scope that answers none is asked
first_step : (a c s f : ℕ) (t b : Bool) (more : Lookup) (n m : ℕ) → (answered_in more ≡ Some c → m ≡ n)
    → answered_in (or_lookup (cond t (Some (tied a s f)) None) (cond b (barred a) more)) ≡ Some c
    → count_or (cond t (Some (tied a s f)) None) (cond b 0 m) ≡ count_or (cond t (Some (tied a s f)) None) (cond b 0 n)
first_step a c s f true b more n m rest q = refl
first_step a c s f false true more n m rest q = refl
first_step a c s f false false more n m rest q = ap suc (rest q)

first_bare : (a c : ℕ) (b : Bool) (more : Lookup) (n m : ℕ) → (answered_in more ≡ Some c → m ≡ n) → answered_in (cond b (barred a) more) ≡ Some c → suc (cond b 0 m) ≡ suc (cond b 0 n)
first_bare a c true more n m rest q = refl
first_bare a c false more n m rest q = ap suc (rest q)

pub probes_first : (x : Name) (w : ℕ) (ls bs : List Asked) (c : ℕ) → answered_in (lookup x w ls) ≡ Some c → probes_in x w (ls ++ bs) ≡ probes_in x w ls
probes_first x w [] bs c h = absurd cc
probes_first x w (a ∷ ls) bs c h = by (probes_first x w ls bs c) a.bound h
  where
    by : (answered_in (lookup x w ls) ≡ Some c → probes_in x w (ls ++ bs) ≡ probes_in x w ls) → (o : Option Seen)
        → answered_in (or_lookup (tied_by x w a.scope o) (cond (ends_after x w a.flags) (barred a.scope) (lookup x w ls))) ≡ Some c
        → count_or (tied_by x w a.scope o) (cond (ends_after x w a.flags) 0 (probes_in x w (ls ++ bs))) ≡ count_or (tied_by x w a.scope o) (cond (ends_after x w a.flags) 0 (probes_in x w ls))
    by rest None q = first_bare a.scope c (ends_after x w a.flags) (lookup x w ls) (probes_in x w ls) (probes_in x w (ls ++ bs)) rest q
    by rest (Some s) q = first_step a.scope c s.symbol s.flags (fits x w s.flags) (ends_after x w a.flags) (lookup x w ls) (probes_in x w ls) (probes_in x w (ls ++ bs)) rest q

-- past scopes that don't answer the others are asked
through_step : (a s f : ℕ) (t b : Bool) (more : Lookup) (n m k : ℕ) → (answered_in more ≡ None → m ≡ n + k)
    → answered_in (or_lookup (cond t (Some (tied a s f)) None) (cond b (barred a) more)) ≡ None
    → count_or (cond t (Some (tied a s f)) None) (cond b 0 m) ≡ count_or (cond t (Some (tied a s f)) None) (cond b 0 n) + k
through_step a s f true b more n m k rest q = absurd cc
through_step a s f false true more n m k rest q = absurd cc
through_step a s f false false more n m k rest q = omega (arith, rest q)

through_bare : (a : ℕ) (b : Bool) (more : Lookup) (n m k : ℕ) → (answered_in more ≡ None → m ≡ n + k) → answered_in (cond b (barred a) more) ≡ None → suc (cond b 0 m) ≡ suc (cond b 0 n) + k
through_bare a true more n m k rest q = absurd cc
through_bare a false more n m k rest q = omega (arith, rest q)

pub probes_through : (x : Name) (w : ℕ) (ls bs : List Asked) → answered_in (lookup x w ls) ≡ None → probes_in x w (ls ++ bs) ≡ probes_in x w ls + probes_in x w bs
probes_through x w [] bs h = omega arith
probes_through x w (a ∷ ls) bs h = by (probes_through x w ls bs) a.bound h
  where
    by : (answered_in (lookup x w ls) ≡ None → probes_in x w (ls ++ bs) ≡ probes_in x w ls + probes_in x w bs) → (o : Option Seen)
        → answered_in (or_lookup (tied_by x w a.scope o) (cond (ends_after x w a.flags) (barred a.scope) (lookup x w ls))) ≡ None
        → count_or (tied_by x w a.scope o) (cond (ends_after x w a.flags) 0 (probes_in x w (ls ++ bs))) ≡ count_or (tied_by x w a.scope o) (cond (ends_after x w a.flags) 0 (probes_in x w ls)) + probes_in x w bs
    by rest None q = through_bare a.scope (ends_after x w a.flags) (lookup x w ls) (probes_in x w ls) (probes_in x w (ls ++ bs)) (probes_in x w bs) rest q
    by rest (Some s) q = through_step a.scope s.symbol s.flags (fits x w s.flags) (ends_after x w a.flags) (lookup x w ls) (probes_in x w ls) (probes_in x w (ls ++ bs)) (probes_in x w bs) rest q

-- scopes that give the same are asked alike
pub probes_alike : (x : Name) (w : ℕ) (ls bs : List Asked) → AreAlike x w ls bs → probes_in x w ls ≡ probes_in x w bs
probes_alike x w [] [] h = refl
probes_alike x w [] (b ∷ bs) h = absurd h
probes_alike x w (a ∷ ls) [] h = absurd h
probes_alike x w (a ∷ ls) (b ∷ bs) h = λ i. count_or (tied_by x w (h.0.scope i) (h.0.bound i)) (cond (h.0.ends i) 0 (probes_alike x w ls bs h.1 i))

-- each scope is asked once at most
pub probes_at_most : (x : Name) (w : ℕ) (ls : List Asked) → probes_in x w ls ≤ length ls
probes_at_most x w [] = omega arith
probes_at_most x w (a ∷ ls) = by (tied_by x w a.scope a.bound) (ends_after x w a.flags) (probes_at_most x w ls)
  where
    by : (o : Option Lookup) (b : Bool) → probes_in x w ls ≤ length ls → count_or o (cond b 0 (probes_in x w ls)) ≤ suc (length ls)
    by (Some l) b h = omega arith
    by None true h = omega arith
    by None false h = omega (arith, h)
