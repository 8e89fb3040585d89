-- What belongs to each node, in the order in which it was noted.
use Rattle.std.specs.Prelude.{◌≡◌, ◌≢◌, ℕ, ◌<◌, List, length, slice_index_or}
use Rattle.std.specs.Map.{keys_of}

pub record NodeEntries : Type 0 where
  pub scopes : List (ℕ × ℕ)
  pub symbols : List (ℕ × ℕ)
  pub references : List (ℕ × ℕ)

module _ {X : Type 0} where
  -- the node of the entry at the place
  abbrev pub node_at : List (ℕ × X) → ℕ → ℕ
  node_at es i = slice_index_or (keys_of es) i 0

  -- the nodes of the entries rise
  abbrev pub AreRising : List (ℕ × X) → Type 0
  AreRising es = (i j : ℕ) → i < j → j < length es → node_at es i < node_at es j

  -- all entries are of nodes before this one
  abbrev pub AreBefore : List (ℕ × X) → ℕ → Type 0
  AreBefore es node = (i : ℕ) → i < length es → node_at es i < node

  -- no entry is the node's
  abbrev pub HasNone : List (ℕ × X) → ℕ → Type 0
  HasNone es node = (i : ℕ) → i < length es → node_at es i ≢ node

  -- the entry at the place is the node's
  pub record IsPositionOf (es : List (ℕ × X)) (node i : ℕ) : Type 0 where
    pub in_range : i < length es
    pub is_node : node_at es i ≡ node
