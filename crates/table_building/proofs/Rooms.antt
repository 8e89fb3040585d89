-- There are ids for the names that are left.
use Rattle.std.proofs.Common.{◌≡◌, ℕ, ◌+◌, ◌<◌, ◌≤◌, true, false, List, [], ◌∷◌, Bool, cond, length, map, flat_map, ap, ◌∙◌, arith}
use Rattle.std.proofs.lemmas.List.{length-append, length-map}
use Rattle.std.proofs.lemmas.List.Elements.{All-weaker}
use Rattle.semantic_kinds.specs.declared.kind.AstType.TheVariants as kind
use Rattle.semantic_tree.specs.declared.node.Node.{Node}
use Rattle.semantic_tree.specs.Views.{is}
use Rattle.semantic_model.specs.Naming.{Naming}
use Rattle.semantic_model.specs.Names.{bound_below, bound_names}
use Rattle.walk_model.specs.WalkState.{WalkState}
use Rattle.walk_model.specs.Declares.{declare, declare_anew}
use Rattle.walk_model.proofs.sizes.Growth.{declare_adds, anew_adds}
use Rattle.table_building.specs.Each.{declare_each, declare_pattern}
use Rattle.table_building.specs.Named.{caught_naming, pattern_naming}
use Rattle.table_building.specs.Routes.{IsRoute}
use Rattle.table_building.specs.declared.route.Route.{Route}

-- each name makes a symbol at most

pub each_adds : (ds : List Naming) (w : WalkState) (s : ℕ) → length (declare_each w s ds).tables.symbols ≤ length w.tables.symbols + length ds
each_adds [] w s = omega arith
each_adds (d ∷ ds) w s = omega (arith, (declare_adds w s d).of_symbols, each_adds ds (declare w s d) s)

pub named_adds : (f : Node → Naming) (names : List Node) (w : WalkState) (s : ℕ) → length (declare_each w s (map f names)).tables.symbols ≤ length w.tables.symbols + length names
named_adds f names w s = omega (arith, each_adds (map f names) w s, length-map names f)

pub pattern_adds : (w : WalkState) (s : ℕ) (parameter pattern : Node) → length (declare_pattern w s parameter pattern).tables.symbols ≤ length w.tables.symbols + length (bound_names pattern)
pattern_adds w s parameter pattern = by (is kind.BindingIdentifier pattern)
  where
    below : List Node
    below = bound_below pattern.kind pattern.children

    by : (b : Bool)
        → length (cond b (declare_anew w s (caught_naming parameter pattern)) (declare_each w s (map (pattern_naming parameter) (cond b (pattern ∷ []) below)))).tables.symbols
        ≤ length w.tables.symbols + length (cond b (pattern ∷ []) below)
    by true = (anew_adds w s (caught_naming parameter pattern)).of_symbols
    by false = named_adds (pattern_naming parameter) below w s

-- a route stays one as scopes come up
pub route_goes : {m n : ℕ} (route : Route) → m ≤ n → IsRoute m route → IsRoute n route
route_goes {m = m} {n = n} route l h = record {
  passed = All-weaker (λ s. s < m) (λ s. s < n) (λ s k. omega (arith, k, l)) route.passed.items h.passed;
  target = omega (arith, l, h.target);
}

-- a list of which each part has names: its first part, and the rest
module _ (names : Node → List Node) (part : Node) (before after : List Node) (is_first : before ≡ part ∷ after) where
  parted : length (flat_map names before) ≡ length (names part) + length (flat_map names after)
  parted = ap (λ (xs : List Node). length (flat_map names xs)) is_first ∙ length-append (names part) (flat_map names after)

  pub part_room : (m n : ℕ) → m + length (flat_map names before) ≤ n → m + length (names part) ≤ n
  part_room m n h = omega (arith, h, parted)

  pub parts_room : (m k n : ℕ) → m + length (flat_map names before) ≤ n → k ≤ m + length (names part) → k + length (flat_map names after) ≤ n
  parts_room m k n h l = omega (arith, h, l, parted)
