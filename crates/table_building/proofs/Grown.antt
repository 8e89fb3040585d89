-- What is made stays sound as its tables grow.
use Rattle.std.proofs.Common.{◌≡◌, ℕ, ◌≤◌, List, [], ◌∷◌, ◌++◌, length, map, arith}
use Rattle.std.proofs.Math.ListN.{set}
use Rattle.std.proofs.lemmas.List.{length-append, length-set}
use Rattle.resolver.specs.Terms.{pending_of}
use Rattle.table_building.specs.Growth.{Grows}
use Rattle.table_building.specs.Made.{IsSound}
use Rattle.table_building.specs.declared.declared.Declared.TheInside.{Inside}
use Rattle.table_building.proofs.Growing.{symbols_more, waiting_grows}

-- a count that stays, a list with one more, and one with another at a place
pub at_least : (n : ℕ) → n ≤ n
at_least n = omega arith

pub one_more : {X : Type 0} (xs : List X) (x : X) → length xs ≤ length (xs ++ x ∷ [])
one_more xs x = omega (arith, length-append xs (x ∷ []))

pub as_many : {X : Type 0} (xs : List X) (i : ℕ) (x : X) → length xs ≤ length (set xs i x)
as_many xs i x = omega (arith, length-set xs i x)

-- where the tables grow, and what is remembered and waits stays
pub sound_grown : (d e : Inside) → IsSound d → Grows d.scoping e.scoping → e.hoisting_variables ≡ d.hoisting_variables → map pending_of e.pending ≡ map pending_of d.pending → IsSound e
sound_grown d e sound grows remembered waiting = record {
  remembered = rw remembered (symbols_more _ _ d.hoisting_variables grows.symbols sound.remembered);
  waiting = rw waiting (waiting_grows d.scoping e.scoping (map pending_of d.pending) grows sound.waiting);
}
