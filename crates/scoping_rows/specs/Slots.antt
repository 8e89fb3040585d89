-- The slots of a scope as they are stored: a number and a symbol each, where one number is that of an empty slot.
use Rattle.std.specs.Prelude.{◌≡◌, ◌<◌, ◌≤◌, ◌+◌, ◌==◌, ℕ, zero, suc, List, [], ◌∷◌, ◌++◌, length, map, slice_index_or, Option, None, Some, cond}
use Rattle.scoping_rows.specs.Flat.{near, filled}

-- the number of an empty slot, the largest of 32 bits
abbrev pub no_number : ℕ
no_number = 4294967295

-- what the stored slot binds
abbrev pub stored_slot : ℕ × ℕ → Option (ℕ × ℕ)
stored_slot p = cond (p.0 == no_number) None (Some p)

-- the first k numbers, each with its symbol
abbrev pub paired : ℕ → List ℕ → List ℕ → List (ℕ × ℕ)
paired zero ns ys = []
paired (suc k) [] ys = []
paired (suc k) (n ∷ ns) [] = []
paired (suc k) (n ∷ ns) (y ∷ ys) = (n, y) ∷ paired k ns ys

-- the first of eight numbers, each of 32 bits, with the first of eight symbols
abbrev pub ArePaired : ℕ → List ℕ → List ℕ → Type 0
ArePaired k ns ys = (k ≤ near) × (length ns ≡ near) × (length ys ≡ near) × ((i : ℕ) → slice_index_or ns i 0 ≤ no_number)

-- slots that stand one behind the other, those in the scope and the far ones: there are far ones only where the others are full,
-- and `empty` of all are empty
pub record AreStored (here behind : List (ℕ × ℕ)) (empty : ℕ) : Type 0 where
  pub few : length here ≤ near
  pub full : length here < near → behind ≡ []
  pub counted : empty + length (filled (map stored_slot (here ++ behind))) ≡ length (map stored_slot (here ++ behind))
