-- In the list of a program's nodes the parents lead from each node outward along its path.
use Rattle.std.proofs.Common.{◌≡◌, ℕ, zero, suc, ◌+◌, ◌-◌, ◌<◌, ◌≤◌, List, [], ◌∷◌, ◌++◌, Option, Some, None, Bool, true, false, ◌&&◌, not, cond, inl, inr, option_map, map, length, drop, slice_get, slice_index, append-nil, refl, sym, ap, subst, ◌∙◌, arith}
use Rattle.std.specs.List.{cons_option}
use Rattle.std.proofs.lemmas.Option.{slice_get-map, get_or_from_slice_get}
use Rattle.semantic_kinds.specs.declared.role.Role.{Role}
use Rattle.semantic_tree.specs.Forest.{Forest, nothing, tree, count, numbered}
use Rattle.semantic_tree.specs.Tree.{Tree, IsNumbered}
use Rattle.semantic_tree.specs.declared.node.Node.{Node}
use Rattle.semantic_tree.proofs.Forests.{below_same}
use Rattle.semantic_model.specs.Cursor.{on_entering}
use Rattle.semantic_model.specs.Entries.{Among}
use Rattle.semantic_model.specs.Inside.{opens, is_inside, any_inside, header_roles, is_in_header}
use Rattle.semantic_model.specs.NodeTable.{NodeEntry, nodes as entered_nodes}
use Rattle.semantic_tree.specs.Views.{has_role}
use Rattle.semantic_model.specs.Place.{Place, OpenScope, scope_of_place}
use Rattle.semantic_model.specs.ScopeKind.{opened_scope}
use Rattle.semantic_model.specs.Step.{Step, entering, opening, header_ending, closing, leaving, steps_below, opening_at, ending_after, opening_last, scope_at, next_at, child_place, root_place, steps}
use Rattle.semantic_model.proofs.lists.Members.{among_left, among_right, among_cases}
use Rattle.node_store.specs.NodeList.{NodeList, SeenNode, node_at}
use Rattle.node_store.specs.Outward.{outward_within, above, numbered_of, kinds_of}
use Rattle.node_store.specs.PathIn.{path_in}
use Rattle.promise.specs.Kept.{seen_of, node_list}
use Rattle.semantic_walk.proofs.Listing.{nodes-append, nodes_below, count_nodes, last_without, first_steps, later_steps}

-- the id of the parent; the root is its own
abbrev above_id : Node → List Node → ℕ
above_id node [] = node.node_id
above_id node (parent ∷ path) = parent.node_id

abbrev entry : Place → NodeEntry
entry p = record { node = p.node; scope = scope_of_place p; parent = above_id p.node p.path }

entered_first : (p : Place) (more : List Step) → entered_nodes (entering p ∷ more) ≡ entry p ∷ entered_nodes more
entered_first p more = by p.path
  where
    by : (path : List Node) → entered_nodes (entering (record p { path = path }) ∷ more) ≡ entry (record p { path = path }) ∷ entered_nodes more
    by [] = refl
    by (x ∷ path) = refl

-- entries whose nodes have these ids, one after another
abbrev AreNumbered : ℕ → List NodeEntry → Type 0
AreNumbered m [] = Unit {0}
AreNumbered m (e ∷ es) = (e.node.node_id ≡ m) × AreNumbered (suc m) es

numbered-append : (m : ℕ) (xs ys : List NodeEntry) → AreNumbered m xs → AreNumbered (m + length xs) ys → AreNumbered m (xs ++ ys)
numbered-append m [] ys h k = subst (λ n. AreNumbered n ys) (omega arith) k
numbered-append m (x ∷ xs) ys h k = (h.0, numbered-append (suc m) xs ys h.1 (subst (λ n. AreNumbered n ys) (omega arith) k))

-- the nodes below a place are entered in the order of their ids
below_numbered : (p : Place) (own : Option OpenScope) (n cursor : ℕ) (f : Forest) (m : ℕ) → numbered m f ≡ f → AreNumbered m (entered_nodes (steps_below p own n cursor f))
below_numbered p own n cursor nothing m e = subst (AreNumbered m) (sym (last_without p own n)) tt
below_numbered p own n cursor (tree r k span text marks below id after) m e =
    let node : Node = record { kind = k; span = span; text = text; marks = marks; children = below; node_id = id } in
    let place : Place = child_place p (scope_at p r own n) cursor r node in
    let parts = below_same e in
    let inner : List Step = first_steps p own n cursor (r, node) after in
    let later : List Step = later_steps p own n cursor (r, node) after in
    let first : AreNumbered m (entered_nodes (entering place ∷ inner)) =
    subst (AreNumbered m) (sym (entered_first place inner)) (sym parts.1, below_numbered place None (next_at p r own n) (on_entering k place.cursor) below (suc m) (subst (λ i. numbered i below ≡ below) (omega arith) parts.0)) in
    let many : length (entered_nodes (entering place ∷ inner)) ≡ 1 + count below =
    ap (λ (es : List NodeEntry). length es) (entered_first place inner) ∙ omega (arith, count_nodes place None (next_at p r own n) (on_entering k place.cursor) below) in
    let rest : AreNumbered (m + length (entered_nodes (entering place ∷ inner))) (entered_nodes later) =
    below_numbered p (scope_at p r own n) _ _ after (m + length (entered_nodes (entering place ∷ inner))) (subst (λ i. numbered i after ≡ after) (omega (arith, many)) parts.2) in
    subst (AreNumbered m) (sym (nodes_below p own n cursor (r, node) after)) (numbered-append m (entered_nodes (entering place ∷ inner)) (entered_nodes later) first rest)

-- each stands at its id
record StandsIn (es : List NodeEntry) (m : ℕ) (q : Place) : Type 0 where
  from : m ≤ q.node.node_id
  there : slice_get es (q.node.node_id - m) ≡ Some (entry q)

further : (es : List NodeEntry) (e : NodeEntry) (m : ℕ) (q : Place) → StandsIn es (suc m) q → StandsIn (e ∷ es) m q
further es e m q h =
    let next : suc (q.node.node_id - suc m) ≡ q.node.node_id - m = omega (arith, h.from) in
    record { from = omega (arith, h.from); there = subst (λ i. slice_get (e ∷ es) i ≡ Some (entry q)) next h.there }

stands_at : (ss : List Step) (m : ℕ) → AreNumbered m (entered_nodes ss) → (q : Place) → Among (entering q) ss → StandsIn (entered_nodes ss) m q
stands_at [] m h q among = absurd among
stands_at (entering p ∷ ss) m h q among =
    let all : AreNumbered m (entry p ∷ entered_nodes ss) = subst (AreNumbered m) (entered_first p ss) h in
    subst (λ (es : List NodeEntry). StandsIn es m q) (sym (entered_first p ss)) (elim among [
      | inl e ↦
          (let same : p ≡ q = cc in
          let here : p.node.node_id - m ≡ 0 = omega (arith, all.0) in
          subst (StandsIn (entry p ∷ entered_nodes ss) m) same
          (record { from = omega (arith, all.0); there = ap (slice_get (entry p ∷ entered_nodes ss)) here }))
      | inr later ↦ further (entered_nodes ss) (entry p) m q (stands_at ss (suc m) all.1 q later)
    ])
stands_at (opening p s ∷ ss) m h q (inl e) = absurd cc
stands_at (opening p s ∷ ss) m h q (inr later) = stands_at ss m h q later
stands_at (header_ending p s ∷ ss) m h q (inl e) = absurd cc
stands_at (header_ending p s ∷ ss) m h q (inr later) = stands_at ss m h q later
stands_at (closing p s ∷ ss) m h q (inl e) = absurd cc
stands_at (closing p s ∷ ss) m h q (inr later) = stands_at ss m h q later
stands_at (leaving p ∷ ss) m h q (inl e) = absurd cc
stands_at (leaving p ∷ ss) m h q (inr later) = stands_at ss m h q later

-- the list has the node at its id, with its parent
record IsListed (l : NodeList) (q : Place) : Type 0 where
  node : node_at l q.node.node_id ≡ Some q.node
  parent : slice_index l.parents q.node.node_id ≡ above_id q.node q.path

abbrev AreListed : NodeList → List Step → Type 0
AreListed l ss = (q : Place) → Among (entering q) ss → IsListed l q

-- a node, and those above it: each is in the list, with the next one as its parent, which has a smaller id
abbrev Climbs : NodeList → Node → List Node → Type 0
Climbs l x [] = (node_at l x.node_id ≡ Some x) × (x.node_id ≡ 0)
Climbs l x (y ∷ path) = (node_at l x.node_id ≡ Some x) × (slice_index l.parents x.node_id ≡ y.node_id) × (y.node_id < x.node_id) × Climbs l y path

-- neither opens nor ends anything that is entered
none_opening : (p q : Place) (r : Role) (own : Option OpenScope) (n : ℕ) → Among (entering q) (opening_at p r own n) → ⊥
none_opening p q r (Some s) n h = h
none_opening p q r None n h = by (is_inside p.node.kind r) h
  where
    by : (b : Bool) → Among (entering q) (cond b (opening p (opened_scope p n) ∷ []) []) → ⊥
    by true (inl e) = cc
    by true (inr h) = h
    by false h = h

none_ending : (p q : Place) (r : Role) (own : Option OpenScope) (after : Forest) → Among (entering q) (ending_after p r own after) → ⊥
none_ending p q r None after h = h
none_ending p q r (Some s) after h = by (is_in_header p.node.kind r && not (has_role (header_roles p.node.kind) after)) (is_inside p.node.kind r && not (any_inside p.node.kind after)) h
  where
    by : (a b : Bool) → Among (entering q) (cond a (header_ending p s ∷ []) [] ++ cond b (closing p s ∷ []) []) → ⊥
    by true true (inl e) = cc
    by true true (inr (inl e)) = cc
    by true true (inr (inr h)) = h
    by true false (inl e) = cc
    by true false (inr h) = h
    by false true (inl e) = cc
    by false true (inr h) = h
    by false false h = h

none_last : (p q : Place) (own : Option OpenScope) (n : ℕ) → Among (entering q) (opening_last p own n) → ⊥
none_last p q (Some s) n h = h
none_last p q None n h = by (opens p.node.kind) h
  where
    by : (b : Bool) → Among (entering q) (cond b (opening p (opened_scope p n) ∷ closing p (opened_scope p n) ∷ []) []) → ⊥
    by true (inl e) = cc
    by true (inr (inl e)) = cc
    by true (inr (inr h)) = h
    by false h = h

-- so each node below a place climbs along its path
below_climbs : (l : NodeList) (p : Place) (own : Option OpenScope) (n cursor : ℕ) (f : Forest) (m : ℕ) → numbered m f ≡ f → p.node.node_id < m → Climbs l p.node p.path → AreListed l (steps_below p own n cursor f)
    → (q : Place) → Among (entering q) (steps_below p own n cursor f) → Climbs l q.node q.path
below_climbs l p own n cursor nothing m e less up all q among = absurd (none_last p q own n among)
below_climbs l p own n cursor (tree r k span text marks below id after) m e less up all q among =
    let node : Node = record { kind = k; span = span; text = text; marks = marks; children = below; node_id = id } in
    let place : Place = child_place p (scope_at p r own n) cursor r node in
    let parts = below_same e in
    let xs : List Step = opening_at p r own n in
    let inner : List Step = first_steps p own n cursor (r, node) after in
    let zs : List Step = entering place ∷ (inner ++ leaving place ∷ []) in
    let es : List Step = ending_after p r (scope_at p r own n) after in
    let later : List Step = later_steps p own n cursor (r, node) after in
    let mine : AreListed l zs = λ o a. all o (among_left (entering o) (xs ++ zs ++ es) later (among_left (entering o) (xs ++ zs) es (among_right (entering o) xs zs a))) in
    let here : IsListed l place = mine place (inl refl) in
    let child : Climbs l node (p.node ∷ p.path) = (here.node, here.parent, omega (arith, less, parts.1), up) in
    let among_inner : Among (entering q) (inner ++ leaving place ∷ []) → Climbs l q.node q.path = λ a. elim (among_cases (entering q) inner (leaving place ∷ []) a) [
      | inl b ↦ below_climbs l place None (next_at p r own n) (on_entering k place.cursor) below (suc m) (subst (λ i. numbered i below ≡ below) (omega arith) parts.0) (omega (arith, parts.1)) child (λ o c. mine o (inr (among_left (entering o) inner (leaving place ∷ []) c))) q b
      | inr b ↦ absurd (no_leaving place q b)
    ] in
    elim (among_cases (entering q) (xs ++ zs ++ es) later among) [
      | inl a ↦ elim (among_cases (entering q) (xs ++ zs) es a) [
        | inl b ↦ elim (among_cases (entering q) xs zs b) [
          | inl c ↦ absurd (none_opening p q r own n c)
          | inr c ↦ elim c [
            | inl same ↦ (let is : place ≡ q = cc in subst (λ (o : Place). Climbs l o.node o.path) is child)
            | inr d ↦ among_inner d
          ]
        ]
        | inr b ↦ absurd (none_ending p q r (scope_at p r own n) after b)
      ]
      | inr a ↦ below_climbs l p (scope_at p r own n) _ _ after (m + 1 + count below) parts.2 (omega (arith, less)) up (λ o c. all o (among_right (entering o) (xs ++ zs ++ es) later c)) q a
    ]
  where
    no_leaving : (o q : Place) → Among (entering q) (leaving o ∷ []) → ⊥
    no_leaving o q (inl e) = cc
    no_leaving o q (inr h) = h

-- the way outward by the parents

climbs_ids : (l : NodeList) (x : Node) (path : List Node) (fuel : ℕ) → Climbs l x path → x.node_id < fuel → outward_within fuel l.parents x.node_id ≡ map (λ (n : Node). n.node_id) (x ∷ path)
climbs_ids l x path zero h less = absurd (omega arith)
climbs_ids l x [] (suc fuel) h less = ap (outward_within (suc fuel) l.parents) h.1 ∙ ap (λ i. i ∷ []) (sym h.1)
climbs_ids l x (y ∷ path) (suc fuel) h less = by x.node_id refl (climbs_ids l y path fuel h.3 (omega (arith, h.2, less)))
  where
    by : (i : ℕ) → x.node_id ≡ i → outward_within fuel l.parents y.node_id ≡ map (λ (n : Node). n.node_id) (y ∷ path) → outward_within (suc fuel) l.parents i ≡ i ∷ map (λ (n : Node). n.node_id) (y ∷ path)
    by zero e above = absurd (omega (arith, e, h.2))
    by (suc i) e above = ap (λ j. suc i ∷ outward_within fuel l.parents j) (ap (slice_index l.parents) (sym e) ∙ h.1) ∙ ap (λ js. suc i ∷ js) above

-- and the nodes there

first_node : (l : NodeList) (x : Node) (ids : List ℕ) → node_at l x.node_id ≡ Some x → kinds_of (numbered_of l.nodes (x.node_id ∷ ids)) ≡ x ∷ kinds_of (numbered_of l.nodes ids)
first_node l x ids e = by (slice_get l.nodes x.node_id) e
  where
    by : (o : Option SeenNode) → option_map (λ (s : SeenNode). s.node) o ≡ Some x → kinds_of (cons_option (option_map (λ (s : SeenNode). (x.node_id, s)) o) (numbered_of l.nodes ids)) ≡ x ∷ kinds_of (numbered_of l.nodes ids)
    by None q = absurd cc
    by (Some s) q = let same : s.node ≡ x = cc in ap (λ (n : Node). n ∷ kinds_of (numbered_of l.nodes ids)) same

climbs_nodes : (l : NodeList) (x : Node) (path : List Node) → Climbs l x path → kinds_of (numbered_of l.nodes (map (λ (n : Node). n.node_id) (x ∷ path))) ≡ x ∷ path
climbs_nodes l x [] h = first_node l x [] h.0
climbs_nodes l x (y ∷ path) h = first_node l x (map (λ (n : Node). n.node_id) (y ∷ path)) h.0 ∙ ap (λ (ns : List Node). x ∷ ns) (climbs_nodes l y path h.3)

module _ (program : Tree) (e : IsNumbered program.root) where
  abbrev all : List NodeEntry
  all = entered_nodes (steps program)

  abbrev below_root : List Step
  below_root = steps_below (root_place program) None 0 (on_entering program.root.kind 0) program.root.children

  order : numbered 1 program.root.children ≡ program.root.children
  order = ap (λ (x : Node). x.children) e

  first : program.root.node_id ≡ 0
  first = sym (ap (λ (x : Node). x.node_id) e)

  all_numbered : AreNumbered 0 all
  all_numbered =
      subst (AreNumbered 0) (sym (entered_first (root_place program) (below_root ++ leaving (root_place program) ∷ [])))
      (first, subst (AreNumbered 1) (sym (nodes-append below_root (leaving (root_place program) ∷ []) ∙ append-nil (entered_nodes below_root))) (below_numbered (root_place program) None 0 (on_entering program.root.kind 0) program.root.children 1 order))

  all_listed : AreListed (node_list program) (steps program)
  all_listed q among =
      let there : slice_get all q.node.node_id ≡ Some (entry q) = subst (λ i. slice_get all i ≡ Some (entry q)) (omega arith) (stands_at (steps program) 0 all_numbered q among).there in
      record {
        node = ap (option_map (λ (s : SeenNode). s.node)) (slice_get-map seen_of all q.node.node_id ∙ ap (option_map seen_of) there);
        parent = get_or_from_slice_get (map (λ (x : NodeEntry). x.parent) all) q.node.node_id (above_id q.node q.path) 0 (slice_get-map (λ (x : NodeEntry). x.parent) all q.node.node_id ∙ ap (option_map (λ (x : NodeEntry). x.parent)) there);
      }

  root_climbs : Climbs (node_list program) program.root []
  root_climbs = ((all_listed (root_place program) (inl refl)).node, first)

  climbs : (q : Place) → Among (entering q) (steps program) → Climbs (node_list program) q.node q.path
  climbs q (inl same) = let is : root_place program ≡ q = cc in subst (λ (o : Place). Climbs (node_list program) o.node o.path) is root_climbs
  climbs q (inr among) = elim (among_cases (entering q) below_root (leaving (root_place program) ∷ []) among) [
    | inl a ↦ below_climbs (node_list program) (root_place program) None 0 (on_entering program.root.kind 0) program.root.children 1 order (omega (arith, first)) root_climbs
        (λ o b. all_listed o (inr (among_left (entering o) below_root (leaving (root_place program) ∷ []) b))) q a
    | inr a ↦ absurd (last a)
  ]
    where
      last : Among (entering q) (leaving (root_place program) ∷ []) → ⊥
      last (inl e) = cc
      last (inr h) = h

  -- the ids above a node are those of its path
  pub ids_above : (q : Place) → Among (entering q) (steps program) → above (node_list program).parents q.node.node_id ≡ map (λ (n : Node). n.node_id) q.path
  ids_above q among = ap (drop 1) (climbs_ids (node_list program) q.node q.path (suc q.node.node_id) (climbs q among) (omega arith))

  -- and what it and these show is the node with its path
  pub nodes_above : (q : Place) → Among (entering q) (steps program) → path_in (node_list program) q.node.node_id ≡ q.node ∷ q.path
  nodes_above q among =
      ap (λ ids. kinds_of (numbered_of (node_list program).nodes ids)) (climbs_ids (node_list program) q.node q.path (suc q.node.node_id) (climbs q among) (omega arith))
      ∙ climbs_nodes (node_list program) q.node q.path (climbs q among)

  -- the parent in the list is the first of the path
  pub parent_above : (q : Place) → Among (entering q) (steps program) → (parent : Node) (path : List Node) → q.path ≡ parent ∷ path → slice_index (node_list program).parents q.node.node_id ≡ parent.node_id
  parent_above q among parent path is = (all_listed q among).parent ∙ ap (above_id q.node) is
