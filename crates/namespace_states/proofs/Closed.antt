-- What the nodes of a program lead to are nodes of the program, in the statement lists around them.
use Rattle.std.proofs.Common.{◌≡◌, List, [], ◌∷◌, Bool, true, false, cond, Option, None, Some, ◌⊎◌, inl, inr, map, refl, ap, sym, subst, ◌∙◌}
use Rattle.semantic_kinds.specs.declared.kind.AstType.{AstType}
use Rattle.semantic_kinds.specs.declared.kind.AstType.TheVariants as kind
use Rattle.semantic_kinds.specs.declared.role.Role.{Role}
use Rattle.semantic_kinds.specs.declared.role.Role.TheVariants as role
use Rattle.semantic_kinds.specs.Roles.{same_role}
use Rattle.semantic_syntax.specs.Tables.{Name}
use Rattle.semantic_tree.specs.Forest.{Forest, nothing, tree}
use Rattle.semantic_tree.specs.Nodes.{trees, nodes_in, first_of}
use Rattle.semantic_tree.specs.declared.node.Node.{Node}
use Rattle.semantic_kinds.specs.Classes.{holds_kind}
use Rattle.semantic_model.specs.Entries.{Among}
use Rattle.semantic_tree.specs.Views.{is, child_of, children_of}
use Rattle.semantic_model.specs.Namespace.{instantiated, non_instantiated, Item, StatementReach, counts_as, leads_to, is_namespace_or_module, is_import_equals, is_list, statements, body_items, declaration_in, exported, declares, first_declaring, target_of, item_reached, local_reached, specifier_reached, specifiers_reached, declaration_reached, reached_from, reach}
use Rattle.namespace_states.specs.Statements.{lists_inside, items_below, items_from}
use Rattle.namespace_states.specs.Descents.{heads}
use Rattle.namespace_states.proofs.Lists.{among-append, among-left, among-right, among-mapped, among-flattened}

-- each statement of these lists is among them, in the list where it stands and those around
abbrev pub HasLists : List Item → List (List Node) → Type 0
HasLists all [] = Unit {0}
HasLists all (xs ∷ lists) = ((x : Node) → Among x xs → Among (record { node = x; lists = xs ∷ lists }) all) × HasLists all lists

-- so is each of the lists around an item, and each child of its node
pub record IsClosed (all : List Item) (i : Item) : Type 0 where
  pub lists : HasLists all i.lists
  pub below : (c : Node) → Among c (heads i.node.children) → Among (record { node = c; lists = lists_inside i.node i.lists }) all

in-role : (r : Role) (x : Node) (cs : List (Role × Node)) → Among x (nodes_in r cs) → Among x (map (λ child. child.1) cs)
in-role r x [] a = a
in-role r x (c ∷ cs) a = go (same_role c.0 r) a (λ b. in-role r x cs b)
  where
    go : (b : Bool) → Among x (cond b (c.1 ∷ nodes_in r cs) (nodes_in r cs)) → (Among x (nodes_in r cs) → Among x (map (λ child. child.1) cs)) → (c.1 ≡ x) ⊎ Among x (map (λ child. child.1) cs)
    go true (inl e) k = inl e
    go true (inr b) k = inr (k b)
    go false b k = inr (k b)

pub in-children : (r : Role) (x : Node) (f : Forest) → Among x (children_of r f) → Among x (heads f)
in-children r x f a = in-role r x (trees f) a

first-in : (x : Node) (xs : List Node) → first_of xs ≡ Some x → Among x xs
first-in x [] e = absurd cc
first-in x (y ∷ xs) e = inl cc

pub child-in : (r : Role) (x node : Node) → child_of r node ≡ Some x → Among x (heads node.children)
child-in r x node e = in-children r x node.children (first-in x (children_of r node.children) e)

-- the trees of a forest are among its nodes
heads-in : (lists : List (List Node)) (f : Forest) (c : Node) → Among c (heads f) → Among (record { node = c; lists = lists }) (items_below lists f)
heads-in lists nothing c a = a
heads-in lists (tree role kind span text marks below id after) c (inl e) = inl (ap (λ (x : Node). record { node = x; lists = lists }) e)
heads-in lists (tree role kind span text marks below id after) c (inr a) =
    let node : Node = record { kind = kind; span = span; text = text; marks = marks; children = below; node_id = id } in
    among-right (record { node = c; lists = lists }) (record { node = node; lists = lists } ∷ items_below (lists_inside node lists) below) (items_below lists after) (heads-in lists after c a)

-- what is below a node has its lists where the node's children have their items
inside-has : (all : List Item) (node : Node) (lists : List (List Node)) → HasLists all lists → ((c : Node) → Among c (heads node.children) → Among (record { node = c; lists = lists_inside node lists }) all) → HasLists all (lists_inside node lists)
inside-has all node lists h below = go (is_list node) below
  where
    go : (b : Bool) → ((c : Node) → Among c (heads node.children) → Among (record { node = c; lists = cond b (statements node ∷ lists) lists }) all) → HasLists all (cond b (statements node ∷ lists) lists)
    go true k = (λ x a. k x (in-children role.Body x node.children a), h)
    go false k = h

closed_below : (all : List Item) (lists : List (List Node)) (f : Forest) → HasLists all lists → ((c : Item) → Among c (items_below lists f) → Among c all) → (i : Item) → Among i (items_below lists f) → IsClosed all i
closed_below all lists nothing h k i a = absurd a
closed_below all lists (tree role kind span text marks below id after) h k i a =
    let node : Node = record { kind = kind; span = span; text = text; marks = marks; children = below; node_id = id } in
    let first : Item = record { node = node; lists = lists } in
    let inside : List (List Node) = lists_inside node lists in
    let children : (c : Node) → Among c (heads below) → Among (record { node = c; lists = inside }) all =
    λ c b. k (record { node = c; lists = inside }) (among-left (record { node = c; lists = inside }) (first ∷ items_below inside below) (items_below lists after) (inr (heads-in inside below c b))) in
    elim (among-append i (first ∷ items_below inside below) (items_below lists after) a) [
      | inl b ↦ elim b [
        | inl e ↦ subst (λ (x : Item). IsClosed all x) e (record { lists = h; below = children })
        | inr c ↦ closed_below all inside below (inside-has all node lists h children) (λ d b. k d (among-left d (first ∷ items_below inside below) (items_below lists after) (inr b))) i c
      ]
      | inr b ↦ closed_below all lists after h (λ d b. k d (among-right d (first ∷ items_below inside below) (items_below lists after) b)) i b
    ]

pub closed : (root : Node) (i : Item) → Among i (items_from root) → IsClosed (items_from root) i
closed root i a =
    let inside : List (List Node) = lists_inside root [] in
    let children : (c : Node) → Among c (heads root.children) → Among (record { node = c; lists = inside }) (items_from root) = λ c b. inr (heads-in inside root.children c b) in
    elim a [
      | inl e ↦ subst (λ (x : Item). IsClosed (items_from root) x) e (record { lists = tt; below = children })
      | inr b ↦ closed_below (items_from root) inside root.children (inside-has (items_from root) root [] tt children) (λ c d. inr d) i b
    ]

first-declared-in : (name : Name) (x : Node) (xs : List Node) → first_declaring name xs ≡ Some x → Among x xs
first-declared-in name x [] e = absurd cc
first-declared-in name x (y ∷ xs) e = go (declares name y) e (λ k. first-declared-in name x xs k)
  where
    go : (b : Bool) → cond b (Some y) (first_declaring name xs) ≡ Some x → (first_declaring name xs ≡ Some x → Among x xs) → (y ≡ x) ⊎ Among x xs
    go true e k = inl cc
    go false e k = inr (k e)

-- the target of a name is among them
pub target-in : (all : List Item) (name : Name) (lists : List (List Node)) (t : Item) → HasLists all lists → target_of name lists ≡ Some t → Among t all
target-in all name [] t h e = absurd cc
target-in all name (xs ∷ lists) t h e = go (first_declaring name xs) refl e (λ k. target-in all name lists t h.1 k)
  where
    go : (o : Option Node) → first_declaring name xs ≡ o → elim o [ None ↦ target_of name lists | Some x ↦ Some (record { node = x; lists = xs ∷ lists }) ] ≡ Some t → (target_of name lists ≡ Some t → Among t all) → Among t all
    go None q e k = k e
    go (Some x) q e k =
        let same : ◌≡◌ {A = Item} (record { node = x; lists = xs ∷ lists }) t = cc in
        subst (λ (i : Item). Among i all) same (h.0 x (first-declared-in name x xs q))

-- what the target of a name leads to
item-in : (all : List Item) (o : Option Item) (j : Item) → ((t : Item) → o ≡ Some t → Among t all) → Among j (item_reached o).items → Among j all
item-in all None j k a = absurd a
item-in all (Some t) j k a = go (is_import_equals (exported t.node)) a
  where
    go : (b : Bool) → Among j (cond b (counts_as instantiated) (leads_to (t ∷ []))).items → Among j all
    go true a = absurd a
    go false (inl e) = subst (λ (i : Item). Among i all) e (k t refl)
    go false (inr a) = absurd a

specifier-in : (all : List Item) (lists : List (List Node)) (s : Node) (j : Item) → HasLists all lists → Among j (specifier_reached lists s).items → Among j all
specifier-in all lists s j h a = go (child_of role.Local s) a
  where
    here : (local : Node) (b : Bool) → Among j (cond b (item_reached (target_of local.text lists)) (counts_as instantiated)).items → Among j all
    here local true a = item-in all (target_of local.text lists) j (λ t e. target-in all local.text lists t h e) a
    here local false a = absurd a

    go : (o : Option Node) → Among j (local_reached lists o).items → Among j all
    go None a = absurd a
    go (Some local) a = here local (is kind.IdentifierReference local) a

specifiers-in : (all : List Item) (lists : List (List Node)) (ss : List Node) (j : Item) → HasLists all lists → Among j (specifiers_reached (map (specifier_reached lists) ss)).items → Among j all
specifiers-in all lists ss j h a =
    let (r, (b, c)) = among-flattened (λ (r : StatementReach). r.items) j (map (specifier_reached lists) ss) a in
    let (s, (d, e)) = among-mapped (specifier_reached lists) r ss b in
    specifier-in all lists s j h (subst (λ (r : StatementReach). Among j r.items) (sym e) c)

-- the items of a body
body-in : (all : List Item) (i : Item) (o : Option Node) (j : Item) → ((k : Item) → Among k all → IsClosed all k) → ((body : Node) → o ≡ Some body → Among (record { node = body; lists = i.lists }) all)
    → Among j (body_items o i.lists).items → Among j all
body-in all i None j closed k a = absurd a
body-in all i (Some body) j closed k a = go (is_list body) refl a
  where
    itself : Item
    itself = record { node = body; lists = i.lists }

    go : (b : Bool) → is_list body ≡ b → Among j (leads_to (cond b (map (λ x. record { node = x; lists = statements body ∷ i.lists }) (statements body)) (itself ∷ []))).items → Among j all
    go true q a =
        let (x, (b, e)) = among-mapped (λ (x : Node). record { node = x; lists = statements body ∷ i.lists }) j (statements body) a in
        let found : Among (record { node = x; lists = lists_inside body i.lists }) all = (closed itself (k body refl)).below x (in-children role.Body x body.children b) in
        let listed : lists_inside body i.lists ≡ statements body ∷ i.lists = ap (λ c. cond c (statements body ∷ i.lists) i.lists) q in
        subst (λ (y : Item). Among y all) (ap (λ (ls : List (List Node)). record { node = x; lists = ls }) listed ∙ e) found
    go false q (inl e) = subst (λ (y : Item). Among y all) e (k body refl)
    go false q (inr a) = absurd a

-- what an exported declaration leads to
declaration-in : (all : List Item) (lists : List (List Node)) (d : Node) (j : Item) → Among (record { node = d; lists = lists }) all → Among j (declaration_reached lists d).items → Among j all
declaration-in all lists d j h a = go (is_namespace_or_module d) a
  where
    none : (b : Bool) → Among j (cond b (counts_as non_instantiated) (counts_as instantiated)).items → Among j all
    none true a = absurd a
    none false a = absurd a

    go : (b : Bool) → Among j (cond b (leads_to (record { node = d; lists = lists } ∷ [])) (cond (holds_kind (kind.TSTypeAliasDeclaration ∷ kind.TSInterfaceDeclaration ∷ []) d.kind) (counts_as non_instantiated) (counts_as instantiated))).items → Among j all
    go true (inl e) = subst (λ (y : Item). Among y all) e h
    go true (inr a) = absurd a
    go false a = none (holds_kind (kind.TSTypeAliasDeclaration ∷ kind.TSInterfaceDeclaration ∷ []) d.kind) a

module _ (all : List Item) (closed : (k : Item) → Among k all → IsClosed all k) (i j : Item) (at : Among i all) where
  -- below a node that is no list, in the same lists
  child-here : (k : AstType) (r : Role) (x : Node) → i.node.kind ≡ k → is_list (record i.node { kind = k }) ≡ false → child_of r i.node ≡ Some x → Among (record { node = x; lists = i.lists }) all
  child-here k r x e open_node q =
      let found : Among (record { node = x; lists = lists_inside i.node i.lists }) all = (closed i at).below x (child-in r x i.node q) in
      let same : is_list i.node ≡ false = ap (λ (j : AstType). is_list (record i.node { kind = j })) e ∙ open_node in
      subst (λ (ls : List (List Node)). Among (record { node = x; lists = ls }) all) (ap (λ b. cond b (statements i.node ∷ i.lists) i.lists) same) found

  exported-here : (o : Option Node) → ((x : Node) → o ≡ Some x → Among (record { node = x; lists = i.lists }) all) → Among (record { node = declaration_in i.node o; lists = i.lists }) all
  exported-here None k = at
  exported-here (Some x) k = k x refl

  by-kind : (k : AstType) → i.node.kind ≡ k → Among j (reached_from k i).items → Among j all
  by-kind kind.TSNamespaceDeclaration e a = body-in all i (child_of role.Body i.node) j closed (λ x q. child-here kind.TSNamespaceDeclaration role.Body x e refl q) a
  by-kind kind.TSExternalModuleDeclaration e a = body-in all i (child_of role.Body i.node) j closed (λ x q. child-here kind.TSExternalModuleDeclaration role.Body x e refl q) a
  by-kind kind.ExportDeclaration e a =
      let same : exported i.node ≡ declaration_in i.node (child_of role.Declaration i.node) = ap (λ (k : AstType). cond (holds_kind (kind.ExportDeclaration ∷ kind.ExportDefaultDeclaration ∷ []) k) (declaration_in i.node (child_of role.Declaration i.node)) i.node) e in
      declaration-in all i.lists (declaration_in i.node (child_of role.Declaration i.node)) j
      (exported-here (child_of role.Declaration i.node) (λ x q. child-here kind.ExportDeclaration role.Declaration x e refl q))
      (subst (λ (d : Node). Among j (declaration_reached i.lists d).items) same a)
  by-kind kind.ExportNamedDeclaration e a = specifiers-in all i.lists (children_of role.Specifiers i.node.children) j (closed i at).lists a
  by-kind kind.TSInterfaceDeclaration e a = absurd a
  by-kind kind.TSTypeAliasDeclaration e a = absurd a
  by-kind kind.TSImportEqualsDeclaration e a = absurd a
  by-kind kind.TSEnumDeclaration e a = absurd a
  by-kind kind.ExportDefaultDeclaration e a = absurd a
  by-kind _ e a = absurd a

  pub leads-within : Among j (reach i).items → Among j all
  leads-within a = by-kind i.node.kind refl a
