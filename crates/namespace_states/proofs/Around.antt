-- The places of a program as statements, and how many nodes are around them.
use Rattle.std.proofs.Common.{◌≡◌, suc, List, [], ◌∷◌, ◌++◌, Bool, true, false, cond, inl, map, filter, reverse, refl, ap, sym, subst, ◌∙◌, add-one}
use Rattle.std.proofs.lemmas.List.{reverse-append, reverse-reverse}
use Rattle.semantic_tree.specs.Forest.{count}
use Rattle.semantic_tree.specs.Children.{node_count}
use Rattle.semantic_tree.specs.Tree.{Tree}
use Rattle.semantic_tree.specs.declared.node.Node.{Node}
use Rattle.semantic_model.specs.Entries.{Among}
use Rattle.semantic_model.specs.Place.{Place}
use Rattle.semantic_model.specs.Step.{entering, steps}
use Rattle.semantic_model.specs.Namespace.{Item, is_list, statements, nodes_around}
use Rattle.namespace_states.specs.Reaches.{statement_at}
use Rattle.namespace_states.specs.Statements.{lists_inside, items_from}
use Rattle.namespace_states.specs.Descents.{StandsBelow}
use Rattle.namespace_states.proofs.Closed.{closed}
use Rattle.namespace_states.proofs.Entered.{entered-placed}

-- the lists around what stands below these nodes, of which the first is the outermost
abbrev lists_along : List (List Node) → List Node → List (List Node)
lists_along lists [] = lists
lists_along lists (x ∷ above) = lists_along (lists_inside x lists) above

along-last : (lists : List (List Node)) (above : List Node) (x : Node) → lists_along lists (above ++ x ∷ []) ≡ lists_inside x (lists_along lists above)
along-last lists [] x = refl
along-last lists (y ∷ above) x = along-last (lists_inside y lists) above x

along-path : (path : List Node) → lists_along [] (reverse path) ≡ map statements (filter is_list path)
along-path [] = refl
along-path (x ∷ path) =
    ap (λ (ys : List Node). lists_along [] ys) (reverse-append (x ∷ []) path) ∙ along-last [] (reverse path) x ∙ ap (λ (ls : List (List Node)). lists_inside x ls) (along-path path) ∙ go (is_list x)
  where
    go : (b : Bool) → cond b (statements x ∷ map statements (filter is_list path)) (map statements (filter is_list path)) ≡ map statements (cond b (x ∷ filter is_list path) (filter is_list path))
    go true = refl
    go false = refl

-- what stands below a node of the program is a node of it
stands-in : (program : Node) (root : Node) (lists : List (List Node)) (above : List Node) (node : Node) → Among (record { node = root; lists = lists }) (items_from program) → StandsBelow root above node
    → Among (record { node = node; lists = lists_along lists above }) (items_from program)
stands-in program root lists [] node a s = subst (λ (x : Node). Among (record { node = x; lists = lists }) (items_from program)) (sym s) a
stands-in program root lists (x ∷ above) node a s =
    let (child, (b, more)) = s.1 in
    let first : Item = record { node = root; lists = lists } in
    let found = stands-in program child (lists_inside root lists) above node ((closed program first a).below child b) more in
    subst (λ (y : Node). Among (record { node = node; lists = lists_along (lists_inside y lists) above }) (items_from program)) (sym s.0) found

pub place-in : (program : Tree) (p : Place) → Among (entering p) (steps program) → Among (statement_at p) (items_from program.root)
place-in program p a =
    subst (λ (ls : List (List Node)). Among (record { node = p.node; lists = ls }) (items_from program.root)) (along-path p.path)
    (stands-in program.root program.root [] (reverse p.path) p.node (inl refl) (entered-placed program p a))

around-last : (node : Node) (xs : List Node) (x : Node) → nodes_around node (xs ++ x ∷ []) ≡ suc (count x.children)
around-last node [] x = refl
around-last node (y ∷ xs) x = around-last y xs x

-- how many nodes there are from the root down
pub around-root : (root : Node) (above : List Node) (node : Node) → StandsBelow root above node → nodes_around node (reverse above) ≡ node_count root
around-root root [] node s = ap (λ (y : Node). suc (count y.children)) s ∙ sym (add-one (count root.children))
around-root root (x ∷ above) node s =
    ap (λ (ys : List Node). nodes_around node ys) (reverse-append (x ∷ []) above) ∙ around-last node (reverse above) x ∙ ap (λ (y : Node). suc (count y.children)) s.0 ∙ sym (add-one (count root.children))

pub around-place : (program : Tree) (p : Place) → Among (entering p) (steps program) → nodes_around p.node p.path ≡ node_count program.root
around-place program p a =
    ap (λ (ys : List Node). nodes_around p.node ys) (sym (reverse-reverse p.path)) ∙ around-root program.root (reverse p.path) p.node (entered-placed program p a)
