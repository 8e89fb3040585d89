-- The nodes of a tree that may declare a symbol: how often the one with an id is among them.
use Rattle.std.proofs.Common.{◌≡◌, ℕ, ◌+◌, ◌≤◌, ◌==◌, List, [], ◌∷◌, ◌++◌, Bool, true, false, ◌&&◌, cond, if◌then◌else◌, flat_map, length, refl, arith, length-append, inl, inr}
use Rattle.std.proofs.lemmas.Bool.{cases_Bool}
use Rattle.semantic_kinds.specs.Kinds.{same_kind}
use Rattle.semantic_kinds.specs.Roles.{same_role}
use Rattle.semantic_kinds.specs.declared.kind.AstType.{AstType}
use Rattle.semantic_kinds.specs.declared.kind.AstType.TheVariants as kind
use Rattle.semantic_kinds.specs.declared.role.Role.{Role}
use Rattle.semantic_tree.specs.Forest.{Forest, nothing, tree}
use Rattle.semantic_tree.specs.declared.node.Node.{Node}
use Rattle.semantic_model.specs.Entries.{times}
use Rattle.semantic_tree.specs.Views.{is_role_of, children_of}
use Rattle.semantic_model.specs.Names.{binding_roles, bound_below, bound_names, names_at}
use Rattle.walk_model.proofs.once.NameTimes.{name_times, names_append}
use Rattle.semantic_tree.specs.KindCounts.{how_many}
use Rattle.walk_model.specs.Counted.{declares_symbol}

-- the ids of the nodes that may declare a symbol
abbrev pub symbol_ids : Forest → List ℕ
symbol_ids nothing = []
symbol_ids (tree r k span text marks below id after) = cond (declares_symbol k) (id ∷ []) [] ++ (symbol_ids below ++ symbol_ids after)

pub ids_counted : (f : Forest) → length (symbol_ids f) ≡ how_many declares_symbol f
ids_counted nothing = refl
ids_counted (tree r k span text marks below id after) =
    omega (
      arith,
      length-append (cond (declares_symbol k) (id ∷ []) []) (symbol_ids below ++ symbol_ids after),
      length-append (symbol_ids below) (symbol_ids after),
      one (declares_symbol k),
      ids_counted below,
      ids_counted after,
    )
  where
    one : (b : Bool) → length (cond b (id ∷ []) []) ≡ cond b 1 0
    one true = refl
    one false = refl

module _ (x : ℕ) where
  -- among the nodes of a forest that may declare a symbol
  abbrev pub symbol_times : Forest → ℕ
  symbol_times nothing = 0
  symbol_times (tree r k span text marks below id after) = cond (declares_symbol k && id == x) 1 0 + symbol_times below + symbol_times after

  -- among a node and those below it
  abbrev pub node_symbols : Node → ℕ
  node_symbols node = cond (declares_symbol node.kind && node.node_id == x) 1 0 + symbol_times node.children

  times_append : (xs ys : List ℕ) → times x (xs ++ ys) ≡ times x xs + times x ys
  times_append [] ys = omega arith
  times_append (y ∷ xs) ys = omega (arith, times_append xs ys)

  pub ids_times : (f : Forest) → times x (symbol_ids f) ≡ symbol_times f
  ids_times nothing = refl
  ids_times (tree r k span text marks below id after) =
      omega (
        arith,
        times_append (cond (declares_symbol k) (id ∷ []) []) (symbol_ids below ++ symbol_ids after),
        times_append (symbol_ids below) (symbol_ids after),
        one (declares_symbol k),
        ids_times below,
        ids_times after,
      )
    where
      one : (b : Bool) → times x (cond b (id ∷ []) []) ≡ cond (b && id == x) 1 0
      one true = omega arith
      one false = refl

  -- a binding identifier is such a node
  own_symbol : (node : Node) → same_kind node.kind kind.BindingIdentifier ≡ true → cond (node.node_id == x) 1 0 ≤ cond (declares_symbol node.kind && node.node_id == x) 1 0
  own_symbol node e = rw e (omega arith)

  -- the names that a node binds are such nodes
  pub below_symbols : (k : AstType) (f : Forest) → name_times x (bound_below k f) ≤ symbol_times f
  below_symbols k nothing = omega arith
  below_symbols k (tree r inner span text marks below id after) =
      let node : Node = record { kind = inner; span = span; text = text; marks = marks; children = below; node_id = id } in
      omega (
        arith,
        names_append x (cond (is_role_of r (binding_roles k)) (cond (same_kind inner kind.BindingIdentifier) (node ∷ []) (bound_below inner below)) []) (bound_below k after),
        by node (is_role_of r (binding_roles k)) (below_symbols inner below),
        below_symbols k after,
      )
    where
      by : (node : Node) (b : Bool) → name_times x (bound_below inner below) ≤ symbol_times below
          → name_times x (cond b (cond (same_kind node.kind kind.BindingIdentifier) (node ∷ []) (bound_below inner below)) []) ≤ cond (declares_symbol node.kind && node.node_id == x) 1 0 + symbol_times below
      by node false h = omega arith
      by node true h = elim (cases_Bool (same_kind node.kind kind.BindingIdentifier)) [
        | inl e ↦ (let own = own_symbol node e in rw e (omega (arith, rw e at own)))
        | inr e ↦ rw e (omega (arith, h))
      ]

  pub names_symbols : (node : Node) → name_times x (bound_names node) ≤ node_symbols node
  names_symbols node = elim (cases_Bool (same_kind node.kind kind.BindingIdentifier)) [
    | inl e ↦ (let own = own_symbol node e in rw e (omega (arith, rw e at own)))
    | inr e ↦ rw e (omega (arith, below_symbols node.kind node.children))
  ]

  -- so are those under a role
  pub role_symbols : (r : Role) (f : Forest) → name_times x (flat_map bound_names (children_of r f)) ≤ symbol_times f
  role_symbols r nothing = omega arith
  role_symbols r (tree q k span text marks below id after) =
      let node : Node = record { kind = k; span = span; text = text; marks = marks; children = below; node_id = id } in
      by node (same_role q r) (names_symbols node) (role_symbols r after)
    where
      by : (node : Node) (b : Bool) → name_times x (bound_names node) ≤ node_symbols node → name_times x (flat_map bound_names (children_of r after)) ≤ symbol_times after
          → name_times x (flat_map bound_names (if b then node ∷ children_of r after else children_of r after)) ≤ node_symbols node + symbol_times after
      by node true own h = omega (arith, own, h, names_append x (bound_names node) (flat_map bound_names (children_of r after)))
      by node false own h = omega (arith, h)

  pub at_symbols : (r : Role) (node : Node) → name_times x (names_at r node) ≤ symbol_times node.children
  at_symbols r node = role_symbols r node.children
