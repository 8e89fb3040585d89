-- The nodes that a walk has entered are those of the steps that it has done.
use Rattle.std.proofs.Common.{◌≡◌, ℕ, ◌+◌, List, [], ◌∷◌, ◌++◌, Bool, true, false, ◌&&◌, not, cond, Option, Some, None, IfSome, option_map, map, length, append_assoc, append-nil, length-append, slice_index, refl, sym, ap, subst, ◌∙◌, arith}
use Rattle.std.proofs.lemmas.List.{map-append, length-map, get_or_push, get_or_append_left}
use Rattle.semantic_kinds.specs.declared.role.Role.{Role}
use Rattle.semantic_tree.specs.Forest.{Forest, nothing, tree, count, numbered}
use Rattle.semantic_tree.specs.Children.{forest_of}
use Rattle.semantic_tree.specs.declared.node.Node.{Node}
use Rattle.semantic_tree.proofs.Forests.{below_same}
use Rattle.semantic_model.specs.Place.{Place, OpenScope, scope_of_place}
use Rattle.semantic_model.specs.Inside.{opens, is_inside, any_inside, header_roles, is_in_header, scopes_in}
use Rattle.semantic_tree.specs.Views.{has_role}
use Rattle.semantic_model.specs.ScopeKind.{opened_scope}
use Rattle.semantic_model.specs.Cursor.{on_entering}
use Rattle.semantic_model.specs.Step.{Step, entering, opening, header_ending, closing, leaving, steps_below, opening_at, ending_after, opening_last, scope_at, next_at, child_place, cursor_past}
use Rattle.node_store.specs.Entered.{Entered, no_flags}
use Rattle.node_store.specs.Entered as store
use Rattle.node_store.specs.NodeList.{NodeList, SeenNode}
use Rattle.semantic_model.specs.NodeTable.{NodeEntry, nodes as entered_nodes}
use Rattle.promise.specs.Kept.{seen_of, listed}
use Rattle.semantic_walk.specs.Listed.{all_listed, entered_at, IsBelow, IsNext, IsAmong}

-- steps one after another enter their nodes one after another
pub nodes-append : (xs ys : List Step) → entered_nodes (xs ++ ys) ≡ entered_nodes xs ++ entered_nodes ys
nodes-append [] ys = refl
nodes-append (entering p ∷ xs) ys = ap (λ (ns : List NodeEntry). entered_nodes (entering p ∷ []) ++ ns) (nodes-append xs ys)
nodes-append (opening p s ∷ xs) ys = nodes-append xs ys
nodes-append (header_ending p s ∷ xs) ys = nodes-append xs ys
nodes-append (closing p s ∷ xs) ys = nodes-append xs ys
nodes-append (leaving p ∷ xs) ys = nodes-append xs ys

-- where no node is entered
opens_without : (p : Place) (r : Role) (own : Option OpenScope) (n : ℕ) → entered_nodes (opening_at p r own n) ≡ []
opens_without p r (Some s) n = refl
opens_without p r None n = by (is_inside p.node.kind r)
  where
    by : (b : Bool) → entered_nodes (cond b (opening p (opened_scope p n) ∷ []) []) ≡ []
    by true = refl
    by false = refl

ends_without : (p : Place) (r : Role) (own : Option OpenScope) (after : Forest) → entered_nodes (ending_after p r own after) ≡ []
ends_without p r None after = refl
ends_without p r (Some s) after =
    by (is_in_header p.node.kind r && not (has_role (header_roles p.node.kind) after)) (is_inside p.node.kind r && not (any_inside p.node.kind after))
  where
    by : (b c : Bool) → entered_nodes (cond b (header_ending p s ∷ []) [] ++ cond c (closing p s ∷ []) []) ≡ []
    by true true = refl
    by true false = refl
    by false true = refl
    by false false = refl

pub last_without : (p : Place) (own : Option OpenScope) (n : ℕ) → entered_nodes (opening_last p own n) ≡ []
last_without p (Some s) n = refl
last_without p None n = by (opens p.node.kind)
  where
    by : (b : Bool) → entered_nodes (cond b (opening p (opened_scope p n) ∷ closing p (opened_scope p n) ∷ []) []) ≡ []
    by true = refl
    by false = refl

-- the steps of a node without its own enter what those below it do
pub nodes_within : (p child : Place) (xs : List Step) → entered_nodes (entering child ∷ (xs ++ leaving p ∷ [])) ≡ entered_nodes (entering child ∷ xs)
nodes_within p child xs = ap (λ (ns : List NodeEntry). entered_nodes (entering child ∷ []) ++ ns) (nodes-append xs (leaving p ∷ []) ∙ append-nil (entered_nodes xs))

nodes_turn : (before steps behind later : List Step) → entered_nodes before ≡ [] → entered_nodes behind ≡ []
    → entered_nodes (before ++ steps ++ behind ++ later) ≡ entered_nodes steps ++ entered_nodes later
nodes_turn before steps behind later b e =
    nodes-append (before ++ steps ++ behind) later
    ∙ ap (λ (ps : List NodeEntry). ps ++ entered_nodes later)
    (nodes-append (before ++ steps) behind
    ∙ (λ i. nodes-append before steps i ++ e i)
    ∙ append-nil (entered_nodes before ++ entered_nodes steps)
    ∙ ap (λ (ps : List NodeEntry). ps ++ entered_nodes steps) b)

module _ (p : Place) (own : Option OpenScope) (n cursor : ℕ) (child : Role × Node) (after : Forest) where
  abbrev first_place : Place
  first_place = child_place p (scope_at p child.0 own n) cursor child.0 child.1

  -- the steps below the first child of a place, and those of what comes after it
  abbrev pub first_steps : List Step
  first_steps = steps_below first_place None (next_at p child.0 own n) (on_entering child.1.kind first_place.cursor) child.1.children

  abbrev pub later_steps : List Step
  later_steps = steps_below p (scope_at p child.0 own n) (next_at p child.0 own n + cond (opens child.1.kind) 1 0 + scopes_in child.1.children) (cursor_past p child.0 cursor first_place) after

  abbrev first_tree : Forest
  first_tree = tree child.0 child.1.kind child.1.span child.1.text child.1.marks child.1.children child.1.node_id after

  -- the nodes of children are entered in order
  pub nodes_below : entered_nodes (steps_below p own n cursor first_tree) ≡ entered_nodes (entering first_place ∷ first_steps) ++ entered_nodes later_steps
  nodes_below =
      nodes_turn (opening_at p child.0 own n) (entering first_place ∷ (first_steps ++ leaving first_place ∷ [])) (ending_after p child.0 (scope_at p child.0 own n) after) later_steps
      (opens_without p child.0 own n) (ends_without p child.0 (scope_at p child.0 own n) after)
      ∙ ap (λ (ps : List NodeEntry). ps ++ entered_nodes later_steps) (nodes_within first_place first_place first_steps)

-- a node is entered once
pub count_nodes : (p : Place) (own : Option OpenScope) (n cursor : ℕ) (f : Forest) → length (entered_nodes (steps_below p own n cursor f)) ≡ count f
count_nodes p own n cursor nothing = ap (λ (ps : List NodeEntry). length ps) (last_without p own n)
count_nodes p own n cursor (tree r kind span text marks below id after) =
    let node : Node = record { kind = kind; span = span; text = text; marks = marks; children = below; node_id = id } in
    let place : Place = child_place p (scope_at p r own n) cursor r node in
    let inner : List Step = first_steps p own n cursor (r, node) after in
    let later : List Step = later_steps p own n cursor (r, node) after in
    let within : length (entered_nodes inner) ≡ count below = count_nodes place None (next_at p r own n) (on_entering kind place.cursor) below in
    let rest : length (entered_nodes later) ≡ count after = count_nodes p (scope_at p r own n) (next_at p r own n + cond (opens kind) 1 0 + scopes_in below) (cursor_past p r cursor place) after in
    ap (λ (ps : List NodeEntry). length ps) (nodes_below p own n cursor (r, node) after)
    ∙ length-append (entered_nodes (entering place ∷ inner)) (entered_nodes later)
    ∙ omega (arith, within, rest)

mapped_on : {A B : Type 0} (f : A → B) (l : List B) (xs ys : List A) → (l ++ map f xs) ++ map f ys ≡ l ++ map f (xs ++ ys)
mapped_on f l xs ys = append_assoc l (map f xs) (map f ys) ∙ ap (λ zs. l ++ zs) (sym (map-append f xs ys))

same_list : (l m : NodeList) → l.nodes ≡ m.nodes → l.parents ≡ m.parents → l.flags ≡ m.flags → l ≡ m
same_list l m nodes parents flags = λ i. record { nodes = nodes i; parents = parents i; flags = flags i }

-- to list nodes and then more is to list them all
pub listed_on : (l : NodeList) (xs ys : List NodeEntry) → listed (listed l xs) ys ≡ listed l (xs ++ ys)
listed_on l xs ys =
    same_list (listed (listed l xs) ys) (listed l (xs ++ ys))
    (mapped_on seen_of l.nodes xs ys) (mapped_on (λ (n : NodeEntry). n.parent) l.parents xs ys) (mapped_on (λ (n : NodeEntry). no_flags) l.flags xs ys)

listed_none : (l : NodeList) → listed l [] ≡ l
listed_none l = same_list (listed l []) l (append-nil l.nodes) (append-nil l.parents) (append-nil l.flags)

-- as many more are listed
listed_count : (l : NodeList) (ps : List NodeEntry) → length (listed l ps).nodes ≡ length l.nodes + length ps
listed_count l ps = length-append l.nodes (map seen_of ps) ∙ ap (λ m. length l.nodes + m) (length-map ps seen_of)

listed_parents : (l : NodeList) (ps : List NodeEntry) → length l.parents ≡ length l.nodes → length (listed l ps).parents ≡ length (listed l ps).nodes
listed_parents l ps h =
    let parents : length (l.parents ++ map (λ (n : NodeEntry). n.parent) ps) ≡ length l.parents + length ps = length-append l.parents (map (λ (n : NodeEntry). n.parent) ps) ∙ ap (λ m. length l.parents + m) (length-map ps (λ (n : NodeEntry). n.parent)) in
    omega (arith, h, parents, listed_count l ps)

-- to enter the node that comes next is to list it
entered_lists : (p : Place) (e : Entered) → IsNext p e → (entered_at p e).list ≡ listed e.list (entered_nodes (entering p ∷ []))
entered_lists p e h =
    (λ i. record {
      nodes = e.list.nodes ++ (record { node = p.node; id = h.next i; scope = scope_of_place p }) ∷ [];
      parents = e.list.parents ++ e.current ∷ [];
      flags = e.list.flags ++ no_flags ∷ [];
    })
    ∙ ap (listed e.list) (sym h.above)

-- and then its children come next
pub entered_among : (p : Place) (e : Entered) → IsNext p e → IsAmong p p.node.children (entered_at p e)
entered_among p e h =
    let one : SeenNode = record { node = p.node; id = length e.list.nodes; scope = scope_of_place p } in
    let grown : length (e.list.nodes ++ one ∷ []) ≡ p.node.node_id + 1 = length-append e.list.nodes (one ∷ []) ∙ omega (arith, h.next) in
    let parents : length (e.list.parents ++ e.current ∷ []) ≡ p.node.node_id + 1 = length-append e.list.parents (e.current ∷ []) ∙ omega (arith, h.next, h.parents) in
    record {
      order = ap (λ m. numbered m p.node.children) grown ∙ ap (λ (x : Node). x.children) h.order;
      inside = omega (arith, grown);
      current = h.next;
      parent = subst (IsBelow p) (sym (get_or_push e.list.parents e.current 0 p.node.node_id (h.parents ∙ h.next))) h.above;
      parents = parents ∙ sym grown;
    }

module _ (p : Place) (own : Option OpenScope) (n cursor : ℕ) (child : Role × Node) (rest : List (Role × Node)) where
  abbrev place : Place
  place = child_place p (scope_at p child.0 own n) cursor child.0 child.1

  abbrev inner : List Step
  inner = first_steps p own n cursor child (forest_of rest)

  -- among the children of a node the first comes next
  child_next : (e : Entered) → IsAmong p (forest_of (child ∷ rest)) e → IsNext place e
  child_next e h =
      let parts = below_same h.order in
      record {
        next = parts.1;
        above = ap (λ (id : ℕ). (record { node = child.1; scope = scope_of_place place; parent = id }) ∷ []) (sym h.current);
        order = ap (λ (b : Forest). record child.1 { children = b }) (ap (λ m. numbered (m + 1) child.1.children) (sym parts.1) ∙ parts.0);
        parents = h.parents;
      }

  -- and behind it those after it
  rest_among : (e : Entered) → IsAmong p (forest_of (child ∷ rest)) e → IsAmong p (forest_of rest) (all_listed (entering place ∷ inner) e)
  rest_among e h =
      let parts = below_same h.order in
      let more : List NodeEntry = entered_nodes (entering place ∷ inner) in
      let below : length (entered_nodes inner) ≡ count child.1.children = count_nodes place None (next_at p child.0 own n) (on_entering child.1.kind place.cursor) child.1.children in
      let grown : length (listed e.list more).nodes ≡ length e.list.nodes + 1 + count child.1.children = listed_count e.list more ∙ omega (arith, below) in
      record {
        order = ap (λ m. numbered m (forest_of rest)) grown ∙ parts.2;
        inside = omega (arith, grown, h.inside);
        current = h.current;
        parent = subst (IsBelow p) (sym (get_or_append_left e.list.parents (map (λ (n : NodeEntry). n.parent) more) 0 p.node.node_id (omega (arith, h.inside, h.parents)))) h.parent;
        parents = listed_parents e.list more h.parents;
      }

  lists_rest : (e : Entered) → all_listed (later_steps p own n cursor child (forest_of rest)) (all_listed (entering place ∷ inner) e) ≡ all_listed (steps_below p own n cursor (forest_of (child ∷ rest))) e
  lists_rest e =
      ap (λ (l : NodeList). record e { list = l })
      (listed_on e.list (entered_nodes (entering place ∷ inner)) (entered_nodes (later_steps p own n cursor child (forest_of rest)))
      ∙ ap (listed e.list) (sym (nodes_below p own n cursor child (forest_of rest))))

  -- the same of nodes that may be kept
  pub child_kept : (o : Option Entered) → IfSome o (IsAmong p (forest_of (child ∷ rest))) → IfSome o (IsNext place)
  child_kept None h = tt
  child_kept (Some e) h = child_next e h

  pub rest_kept : (o : Option Entered) → IfSome o (IsAmong p (forest_of (child ∷ rest))) → IfSome (option_map (all_listed (entering place ∷ inner)) o) (IsAmong p (forest_of rest))
  rest_kept None h = tt
  rest_kept (Some e) h = rest_among e h

  pub rest_lists : (o : Option Entered) → option_map (all_listed (later_steps p own n cursor child (forest_of rest))) (option_map (all_listed (entering place ∷ inner)) o)
      ≡ option_map (all_listed (steps_below p own n cursor (forest_of (child ∷ rest)))) o
  rest_lists None = refl
  rest_lists (Some e) = ap (λ (x : Entered). Some x) (lists_rest e)

pub first_kept : (p : Place) (o : Option Entered) → IfSome o (IsNext p) → IfSome (option_map (entered_at p) o) (IsAmong p p.node.children)
first_kept p None h = tt
first_kept p (Some e) h = entered_among p e h

-- a node has one parent
same_parent : (p : Place) (m n : ℕ) → IsBelow p m → IsBelow p n → m ≡ n
same_parent p m n a b = ap parent_first (sym a ∙ b)
  where
    parent_first : List NodeEntry → ℕ
    parent_first [] = 0
    parent_first (n ∷ ns) = n.parent

-- once all below it is walked, no child of the node is left
below_among : (p : Place) (f : Forest) (steps : List Step) (e : Entered) → IsAmong p f e → IsAmong p nothing (all_listed steps e)
below_among p f steps e h =
    let more : List NodeEntry = entered_nodes steps in
    let grown : length (listed e.list more).nodes ≡ length e.list.nodes + length more = listed_count e.list more in
    record {
      order = refl;
      inside = omega (arith, grown, h.inside);
      current = h.current;
      parent = subst (IsBelow p) (sym (get_or_append_left e.list.parents (map (λ (n : NodeEntry). n.parent) more) 0 p.node.node_id (omega (arith, h.inside, h.parents)))) h.parent;
      parents = listed_parents e.list more h.parents;
    }

-- and once the node is left, the walk is at its parent again
left_one : (p : Place) (steps : List Step) (e : Entered) → IsNext p e → store.leaving (all_listed steps (entered_at p e)) ≡ all_listed (entering p ∷ steps) e
left_one p steps e next =
    let d : Entered = all_listed steps (entered_at p e) in
    let among : IsAmong p nothing d = below_among p p.node.children steps (entered_at p e) (entered_among p e next) in
    λ i. record {
      list = (ap (λ (l : NodeList). listed l (entered_nodes steps)) (entered_lists p e next) ∙ listed_on e.list (entered_nodes (entering p ∷ [])) (entered_nodes steps)) i;
      current = (ap (slice_index d.list.parents) among.current ∙ same_parent p (slice_index d.list.parents p.node.node_id) e.current among.parent next.above) i;
    }

pub left_kept : (p : Place) (steps : List Step) (o : Option Entered) → IfSome o (IsNext p)
    → option_map store.leaving (option_map (all_listed steps) (option_map (entered_at p) o)) ≡ option_map (all_listed (entering p ∷ steps)) o
left_kept p steps None next = refl
left_kept p steps (Some e) next = ap (λ (x : Entered). Some x) (left_one p steps e next)

-- steps that enter no node keep the list
pub still_kept : (steps : List Step) → entered_nodes steps ≡ [] → (o : Option Entered) → option_map (all_listed steps) o ≡ o
still_kept steps without None = refl
still_kept steps without (Some e) = ap (λ (l : NodeList). Some (record e { list = l })) (ap (listed e.list) without ∙ listed_none e.list)
