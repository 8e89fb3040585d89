-- A namespace with other marks has the same state, if those that are read are kept.
use Rattle.std.proofs.Common.{◌≡◌, ℕ, zero, suc, ◌==◌, List, [], ◌∷◌, ◌++◌, Option, Some, None, cond, Bool, true, false, ◌||◌, refl, sym, ap, ◌∙◌, map, flat_map, option_map}
use Rattle.std.specs.Prelude.{filter}
use Rattle.std.specs.List.{list_any}
use Rattle.semantic_kinds.specs.Classes.{holds_kind}
use Rattle.semantic_kinds.specs.declared.kind.AstType.{AstType}
use Rattle.semantic_kinds.specs.declared.kind.AstType.TheVariants as kind
use Rattle.semantic_kinds.specs.declared.mark.Mark.TheVariants as mark
use Rattle.semantic_kinds.specs.declared.marks.Marks.{Marks}
use Rattle.semantic_kinds.specs.declared.role.Role.TheVariants as role
use Rattle.semantic_syntax.specs.Tables.{Name}
use Rattle.semantic_tree.specs.declared.node.Node.{Node}
use Rattle.semantic_model.specs.Names.{bound_names}
use Rattle.semantic_model.specs.Namespace.{non_instantiated, const_enum_only, instantiated, Item, StatementReach, counts_as, leads_to, is_namespace_or_module, is_import_equals, is_list, statements, body_items, declaration_in, exported, declares, first_declaring, target_of, item_reached, local_reached, specifier_reached, specifiers_reached, declaration_reached, reached_from, is_among, new_items, reach, reached_within, greatest, instance_state, nodes_around}
use Rattle.semantic_tree.specs.Views.{is, has_text, children_of, child_of}
use Rattle.program_laws.specs.ReadMarks.{KeepsRead}
use Rattle.program_laws.proofs.Children.{children_same, child_same, any_same, count_same}
use Rattle.program_laws.proofs.NameMarks.{bound_same}
use Rattle.semantic_model.proofs.swapped.Alike.{map_append}
use Rattle.program_laws.specs.Remarked.{remarked_node}

module _ (f : Node → Marks) where
  abbrev remarked_lists : List (List Node) → List (List Node)
  remarked_lists ls = map (map (remarked_node f)) ls

  abbrev remarked_item : Item → Item
  remarked_item i = record { node = remarked_node f i.node; lists = remarked_lists i.lists }

  abbrev remarked_items : List Item → List Item
  remarked_items is = map remarked_item is

  abbrev remarked_reached : StatementReach → StatementReach
  remarked_reached r = record { states = r.states; items = remarked_items r.items }

  items_same : (ls : List (List Node)) (xs : List Node) → map (λ n. record { node = n; lists = remarked_lists ls }) (map (remarked_node f) xs) ≡ remarked_items (map (λ n. record { node = n; lists = ls }) xs)
  items_same ls [] = refl
  items_same ls (x ∷ xs) = ap (λ is. record { node = remarked_node f x; lists = remarked_lists ls } ∷ is) (items_same ls xs)

  body_same : (o : Option Node) (ls : List (List Node)) → body_items (option_map (remarked_node f) o) (remarked_lists ls) ≡ remarked_reached (body_items o ls)
  body_same None ls = refl
  body_same (Some x) ls =
      ap (λ ss. leads_to (cond (is_list x) (map (λ n. record { node = n; lists = ss ∷ remarked_lists ls }) ss) (record { node = remarked_node f x; lists = remarked_lists ls } ∷ []))) (children_same f role.Body x.children)
      ∙ go (is_list x)
    where
      go : (b : Bool) → leads_to (cond b (map (λ n. record { node = n; lists = map (remarked_node f) (statements x) ∷ remarked_lists ls }) (map (remarked_node f) (statements x))) (record { node = remarked_node f x; lists = remarked_lists ls } ∷ [])) ≡ remarked_reached (leads_to (cond b (map (λ n. record { node = n; lists = statements x ∷ ls }) (statements x)) (record { node = x; lists = ls } ∷ [])))
      go true = ap leads_to (items_same (statements x ∷ ls) (statements x))
      go false = refl

  inner_same : (x : Node) (o : Option Node) → declaration_in (remarked_node f x) (option_map (remarked_node f) o) ≡ remarked_node f (declaration_in x o)
  inner_same x None = refl
  inner_same x (Some d) = refl

  exported_same : (x : Node) → exported (remarked_node f x) ≡ remarked_node f (exported x)
  exported_same x = go (holds_kind (kind.ExportDeclaration ∷ kind.ExportDefaultDeclaration ∷ []) x.kind)
    where
      go : (b : Bool) → cond b (declaration_in (remarked_node f x) (child_of role.Declaration (remarked_node f x))) (remarked_node f x) ≡ remarked_node f (cond b (declaration_in x (child_of role.Declaration x)) x)
      go true = ap (declaration_in (remarked_node f x)) (child_same f role.Declaration x) ∙ inner_same x (child_of role.Declaration x)
      go false = refl

  declares_same : (name : Name) (x : Node) → declares name (remarked_node f x) ≡ declares name x
  declares_same name x =
      ap (λ y. list_any (has_text name) (bound_names y)) (exported_same x)
      ∙ ap (list_any (has_text name)) (bound_same f (exported x))
      ∙ any_same f (has_text name) (λ n. refl) (bound_names (exported x))

  first_same : (name : Name) (xs : List Node) → first_declaring name (map (remarked_node f) xs) ≡ option_map (remarked_node f) (first_declaring name xs)
  first_same name [] = refl
  first_same name (x ∷ xs) = ap (λ b. cond b (Some (remarked_node f x)) (first_declaring name (map (remarked_node f) xs))) (declares_same name x) ∙ go (declares name x) (first_same name xs)
    where
      go : (b : Bool) → first_declaring name (map (remarked_node f) xs) ≡ option_map (remarked_node f) (first_declaring name xs) → cond b (Some (remarked_node f x)) (first_declaring name (map (remarked_node f) xs)) ≡ option_map (remarked_node f) (cond b (Some x) (first_declaring name xs))
      go true h = refl
      go false h = h

  found_in : List Node → List (List Node) → Option Item → Option Node → Option Item
  found_in xs ls later o = elim o [ None ↦ later | Some x ↦ Some (record { node = x; lists = xs ∷ ls }) ]

  target_same : (name : Name) (ls : List (List Node)) → target_of name (remarked_lists ls) ≡ option_map remarked_item (target_of name ls)
  unfolding found_in
  target_same name [] = refl
  target_same name (xs ∷ ls) =
      (λ i. found_in (map (remarked_node f) xs) (remarked_lists ls) (target_same name ls i) (first_same name xs i)) ∙ go (first_declaring name xs)
    where
      go : (o : Option Node) → found_in (map (remarked_node f) xs) (remarked_lists ls) (option_map remarked_item (target_of name ls)) (option_map (remarked_node f) o) ≡ option_map remarked_item (found_in xs ls (target_of name ls) o)
      go None = refl
      go (Some x) = refl

  item_same : (o : Option Item) → item_reached (option_map remarked_item o) ≡ remarked_reached (item_reached o)
  item_same None = refl
  item_same (Some x) = ap (λ n. cond (is_import_equals n) (counts_as instantiated) (leads_to (remarked_item x ∷ []))) (exported_same x.node) ∙ go (is_import_equals (exported x.node))
    where
      go : (b : Bool) → cond b (counts_as instantiated) (leads_to (remarked_item x ∷ [])) ≡ remarked_reached (cond b (counts_as instantiated) (leads_to (x ∷ [])))
      go true = refl
      go false = refl

  local_same : (ls : List (List Node)) (o : Option Node) → local_reached (remarked_lists ls) (option_map (remarked_node f) o) ≡ remarked_reached (local_reached ls o)
  local_same ls None = refl
  local_same ls (Some x) = go (is kind.IdentifierReference x)
    where
      go : (b : Bool) → cond b (item_reached (target_of x.text (remarked_lists ls))) (counts_as instantiated) ≡ remarked_reached (cond b (item_reached (target_of x.text ls)) (counts_as instantiated))
      go true = ap item_reached (target_same x.text ls) ∙ item_same (target_of x.text ls)
      go false = refl

  specifier_same : (ls : List (List Node)) (x : Node) → specifier_reached (remarked_lists ls) (remarked_node f x) ≡ remarked_reached (specifier_reached ls x)
  specifier_same ls x = ap (local_reached (remarked_lists ls)) (child_same f role.Local x) ∙ local_same ls (child_of role.Local x)

  specifiers_same : (ls : List (List Node)) (xs : List Node) → specifiers_reached (map (specifier_reached (remarked_lists ls)) (map (remarked_node f) xs)) ≡ remarked_reached (specifiers_reached (map (specifier_reached ls) xs))
  specifiers_same ls [] = refl
  specifiers_same ls (x ∷ xs) =
      let rest : StatementReach = specifiers_reached (map (specifier_reached ls) xs) in
      (λ i. record { states = (specifier_same ls x i).states ++ (specifiers_same ls xs i).states; items = (specifier_same ls x i).items ++ (specifiers_same ls xs i).items })
      ∙ ap (λ is. record { states = (specifier_reached ls x).states ++ rest.states; items = is }) (sym (map_append remarked_item (specifier_reached ls x).items rest.items))

  declaration_same : (ls : List (List Node)) (x : Node) → declaration_reached (remarked_lists ls) (remarked_node f x) ≡ remarked_reached (declaration_reached ls x)
  declaration_same ls x = go (is_namespace_or_module x) (holds_kind (kind.TSTypeAliasDeclaration ∷ kind.TSInterfaceDeclaration ∷ []) x.kind)
    where
      go : (a b : Bool) → cond a (leads_to (record { node = remarked_node f x; lists = remarked_lists ls } ∷ [])) (cond b (counts_as non_instantiated) (counts_as instantiated)) ≡ remarked_reached (cond a (leads_to (record { node = x; lists = ls } ∷ [])) (cond b (counts_as non_instantiated) (counts_as instantiated)))
      go true b = refl
      go false true = refl
      go false false = refl

  module _ (keeps : KeepsRead f) where
    from_same : (k : AstType) (i : Item) → reached_from k (remarked_item i) ≡ remarked_reached (reached_from k i)
    from_same kind.TSInterfaceDeclaration i = refl
    from_same kind.TSTypeAliasDeclaration i = refl
    from_same kind.TSImportEqualsDeclaration i = refl
    from_same kind.TSEnumDeclaration i = ap (λ b. counts_as (cond b const_enum_only instantiated)) (keeps i.node mark.Const refl)
    from_same kind.TSNamespaceDeclaration i = ap (λ o. body_items o (remarked_lists i.lists)) (child_same f role.Body i.node) ∙ body_same (child_of role.Body i.node) i.lists
    from_same kind.TSExternalModuleDeclaration i = ap (λ o. body_items o (remarked_lists i.lists)) (child_same f role.Body i.node) ∙ body_same (child_of role.Body i.node) i.lists
    from_same kind.ExportDeclaration i = ap (declaration_reached (remarked_lists i.lists)) (exported_same i.node) ∙ declaration_same i.lists (exported i.node)
    from_same kind.ExportDefaultDeclaration i = ap (λ n. counts_as (cond (is kind.TSInterfaceDeclaration n) non_instantiated instantiated)) (exported_same i.node)
    from_same kind.ExportNamedDeclaration i =
        ap (λ ns. specifiers_reached (map (specifier_reached (remarked_lists i.lists)) ns)) (children_same f role.Specifiers i.node.children)
        ∙ specifiers_same i.lists (children_of role.Specifiers i.node.children)
    from_same _ i = refl

    reach_same : (i : Item) → reach (remarked_item i) ≡ remarked_reached (reach i)
    reach_same i = from_same i.node.kind i

    among_same : (i : Item) (js : List Item) → is_among (remarked_item i) (remarked_items js) ≡ is_among i js
    among_same i [] = refl
    among_same i (j ∷ js) = ap (λ b. i.node.node_id == j.node.node_id || b) (among_same i js)

    new_same : (old is : List Item) → new_items (remarked_items old) (remarked_items is) ≡ remarked_items (new_items old is)
    new_same old [] = refl
    new_same old (i ∷ more) =
        ap (λ b. cond b (new_items (remarked_items old) (remarked_items more)) (remarked_item i ∷ new_items (remarked_items (i ∷ old)) (remarked_items more))) (among_same i old)
        ∙ go (is_among i old) (new_same old more) (new_same (i ∷ old) more)
      where
        go : (b : Bool) → new_items (remarked_items old) (remarked_items more) ≡ remarked_items (new_items old more) → new_items (remarked_items (i ∷ old)) (remarked_items more) ≡ remarked_items (new_items (i ∷ old) more) → cond b (new_items (remarked_items old) (remarked_items more)) (remarked_item i ∷ new_items (remarked_items (i ∷ old)) (remarked_items more)) ≡ remarked_items (cond b (new_items old more) (i ∷ new_items (i ∷ old) more))
        go true h k = h
        go false h k = ap (λ js. remarked_item i ∷ js) k

    led_same : (is : List Item) → flat_map (λ j. (reach j).items) (remarked_items is) ≡ remarked_items (flat_map (λ j. (reach j).items) is)
    led_same [] = refl
    led_same (i ∷ more) = (λ t. (reach_same i t).items ++ led_same more t) ∙ sym (map_append remarked_item (reach i).items (flat_map (λ j. (reach j).items) more))

    within_same : (rounds : ℕ) (old is : List Item) → reached_within rounds (remarked_items old) (remarked_items is) ≡ remarked_items (reached_within rounds old is)
    within_same zero old [] = refl
    within_same (suc rounds) old [] = refl
    within_same zero old (i ∷ more) = sym (map_append remarked_item old (i ∷ more))
    within_same (suc rounds) old (i ∷ more) =
        let all : remarked_items old ++ remarked_items (i ∷ more) ≡ remarked_items (old ++ i ∷ more) = sym (map_append remarked_item old (i ∷ more)) in
        let next : List Item = flat_map (λ j. (reach j).items) (i ∷ more) in
        (λ t. reached_within rounds (all t) (new_items (all t) (led_same (i ∷ more) t)))
        ∙ ap (reached_within rounds (remarked_items (old ++ i ∷ more))) (new_same (old ++ i ∷ more) next)
        ∙ within_same rounds (old ++ i ∷ more) (new_items (old ++ i ∷ more) next)

    states_same : (is : List Item) → flat_map (λ i. (reach i).states) (remarked_items is) ≡ flat_map (λ i. (reach i).states) is
    states_same [] = refl
    states_same (i ∷ more) = λ t. (reach_same i t).states ++ states_same more t

    lists_same : (path : List Node) → map statements (filter is_list (map (remarked_node f) path)) ≡ remarked_lists (map statements (filter is_list path))
    lists_same [] = refl
    lists_same (x ∷ xs) = go (is_list x) (lists_same xs)
      where
        go : (b : Bool) → map statements (filter is_list (map (remarked_node f) xs)) ≡ remarked_lists (map statements (filter is_list xs)) → map statements (cond b (remarked_node f x ∷ filter is_list (map (remarked_node f) xs)) (filter is_list (map (remarked_node f) xs))) ≡ remarked_lists (map statements (cond b (x ∷ filter is_list xs) (filter is_list xs)))
        go true h = λ i. children_same f role.Body x.children i ∷ h i
        go false h = h

    around_same : (node : Node) (path : List Node) → nodes_around (remarked_node f node) (map (remarked_node f) path) ≡ nodes_around node path
    around_same node [] = ap suc (count_same f node.children)
    around_same node (x ∷ xs) = around_same x xs

    -- a namespace below nodes with other marks
    pub state_same : (node : Node) (path : List Node) → instance_state (remarked_node f node) (map (remarked_node f) path) (nodes_around (remarked_node f node) (map (remarked_node f) path)) ≡ instance_state node path (nodes_around node path)
    state_same node path =
        let bound : ℕ = nodes_around node path in
        let first : Item = record { node = node; lists = map statements (filter is_list path) } in
        ap (instance_state (remarked_node f node) (map (remarked_node f) path)) (around_same node path)
        ∙ ap (λ ls. greatest (flat_map (λ i. (reach i).states) (reached_within bound [] (record { node = remarked_node f node; lists = ls } ∷ [])))) (lists_same path)
        ∙ ap (λ is. greatest (flat_map (λ i. (reach i).states) is)) (within_same bound [] (first ∷ []))
        ∙ ap greatest (states_same (reached_within bound [] (first ∷ [])))
