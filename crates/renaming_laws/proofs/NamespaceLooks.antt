-- Namespaces with other names have one state, where the names by which they are looked through stay as alike as they were.
use Rattle.std.proofs.Common.{◌≡◌, ℕ, zero, suc, ◌+◌, ◌==◌, List, [], ◌∷◌, ◌++◌, Option, Some, None, cond, Bool, true, false, ◌&&◌, ◌||◌, not, refl, sym, ap, subst, ◌∙◌, map, flat_map, bytes_eq}
use Rattle.std.specs.Prelude.{filter}
use Rattle.std.specs.List.{list_any, list_all}
use Rattle.std.proofs.lemmas.Bool.{and_from}
use Rattle.semantic_syntax.proofs.Truth.{and_first, and_second}
use Rattle.semantic_syntax.specs.Tables.{Name}
use Rattle.semantic_tree.specs.Forest.{Forest, nothing, tree, count}
use Rattle.semantic_tree.specs.Nodes.{first_of}
use Rattle.semantic_tree.specs.declared.node.Node.{Node}
use Rattle.semantic_kinds.specs.Classes.{holds_kind}
use Rattle.semantic_kinds.specs.Roles.{same_role}
use Rattle.semantic_kinds.specs.declared.kind.AstType.{AstType}
use Rattle.semantic_kinds.specs.declared.kind.AstType.TheVariants as kind
use Rattle.semantic_kinds.specs.declared.mark.Mark.TheVariants as mark
use Rattle.semantic_kinds.specs.declared.role.Role.{Role}
use Rattle.semantic_kinds.specs.declared.role.Role.TheVariants as role
use Rattle.semantic_tree.specs.Views.{is, has, has_text, holds, is_role_of, children_of, child_of}
use Rattle.semantic_model.specs.Names.{binding_roles, bound_below, bound_names}
use Rattle.semantic_model.specs.Namespace.{InstanceState, non_instantiated, const_enum_only, instantiated, Item, StatementReach, counts_as, leads_to, is_namespace_or_module, is_import_equals, is_list, statements, body_items, declaration_in, exported, declares, first_declaring, target_of, item_reached, local_reached, specifier_reached, specifiers_reached, declaration_reached, reached_from, is_among, new_items, reach, reached_within, greatest, instance_state, nodes_around}
use Rattle.semantic_model.proofs.form.Clauses.{kind_is}
use Rattle.semantic_model.proofs.swapped.Alike.{Alike, no_trees, trees_alike, is_name}
use Rattle.semantic_model.proofs.swapped.AlikeCursor.{with_text, SameNode}
use Rattle.semantic_model.proofs.swapped.AlikeScopes.{AlikePath}
use Rattle.semantic_model.proofs.swapped.AlikeNames.{Changed, bound_changed, children_same}
use Rattle.swapped_checks.specs.SwappedPrograms.{holds_below, holds_within}

-- a name that is looked up and one that is declared are the same exactly where they were
pub record Reads (f : Name → Name) (looked declared : Name → Bool) : Type 0 where
  pub same : (x name : Name) → declared x ≡ true → looked name ≡ true → bytes_eq (f x) (f name) ≡ bytes_eq x name

-- ---- what a test tells of all nodes below

children_pass : (test : Node → Bool) (r : Role) (g : Forest) → holds_below test g ≡ true → list_all (holds_within test) (children_of r g) ≡ true
children_pass test r nothing h = refl
children_pass test r (tree q k span text marks below id after) h =
    let rest : (holds_below test below && holds_below test after) ≡ true = and_second (test old) (holds_below test below && holds_below test after) h in
    go (same_role q r) (and_from (test old) (holds_below test below) (and_first (test old) (holds_below test below && holds_below test after) h) (and_first (holds_below test below) (holds_below test after) rest))
    (children_pass test r after (and_second (holds_below test below) (holds_below test after) rest))
  where
    old : Node
    old = record { kind = k; span = span; text = text; marks = marks; children = below; node_id = id }

    go : (b : Bool) → holds_within test old ≡ true → list_all (holds_within test) (children_of r after) ≡ true → list_all (holds_within test) (cond b (old ∷ children_of r after) (children_of r after)) ≡ true
    go true i j = and_from (holds_within test old) (list_all (holds_within test) (children_of r after)) i j
    go false i j = j

all_append : (test : Node → Bool) (xs ys : List Node) → list_all test xs ≡ true → list_all test ys ≡ true → list_all test (xs ++ ys) ≡ true
all_append test [] ys h i = i
all_append test (x ∷ xs) ys h i = and_from (test x) (list_all test (xs ++ ys)) (and_first (test x) (list_all test xs) h) (all_append test xs ys (and_second (test x) (list_all test xs) h) i)

module _ (looked declared : Name → Bool) where
  abbrev is_declared : Node → Bool
  is_declared x = declared x.text

  -- a reference that is exported by its name, which isn't one to look up
  abbrev is_unlooked : Node → Bool
  is_unlooked x = is kind.IdentifierReference x && not (looked x.text)

  -- a binding identifier has a name to declare, and what is exported by its name has one to look up
  abbrev pub reads_node : Node → Bool
  reads_node x = (not (is kind.BindingIdentifier x) || declared x.text) && not (holds is_unlooked (child_of role.Local x))

  or_so : (a b : Bool) → (not a || b) ≡ true → a ≡ true → b ≡ true
  or_so true b h e = h
  or_so false b h e = absurd cc

  not_so : (b : Bool) → not b ≡ true → b ≡ false
  not_so true h = absurd cc
  not_so false h = refl

  unlooked_none : (x : Node) → reads_node x ≡ true → holds is_unlooked (child_of role.Local x) ≡ false
  unlooked_none x h = not_so (holds is_unlooked (child_of role.Local x)) (and_second (not (is kind.BindingIdentifier x) || declared x.text) (not (holds is_unlooked (child_of role.Local x))) h)

  name_declared : (x : Node) → reads_node x ≡ true → is kind.BindingIdentifier x ≡ true → is_declared x ≡ true
  name_declared x h e = or_so (is kind.BindingIdentifier x) (declared x.text) (and_first (not (is kind.BindingIdentifier x) || declared x.text) (not (holds is_unlooked (child_of role.Local x))) h) e

  below_pass : (parent : AstType) (g : Forest) → holds_below reads_node g ≡ true → list_all is_declared (bound_below parent g) ≡ true
  below_pass parent nothing h = refl
  below_pass parent (tree r k span text marks below id after) h =
      let rest : (holds_below reads_node below && holds_below reads_node after) ≡ true = and_second (reads_node old) (holds_below reads_node below && holds_below reads_node after) h in
      all_append is_declared (cond (is_role_of r (binding_roles parent)) (cond (is kind.BindingIdentifier old) (old ∷ []) (bound_below k below)) []) (bound_below parent after)
      (go (is_role_of r (binding_roles parent)) (is kind.BindingIdentifier old) (name_declared old (and_first (reads_node old) (holds_below reads_node below && holds_below reads_node after) h)) (below_pass k below (and_first (holds_below reads_node below) (holds_below reads_node after) rest)))
      (below_pass parent after (and_second (holds_below reads_node below) (holds_below reads_node after) rest))
    where
      old : Node
      old = record { kind = k; span = span; text = text; marks = marks; children = below; node_id = id }

      go : (a b : Bool) → (b ≡ true → is_declared old ≡ true) → list_all is_declared (bound_below k below) ≡ true → list_all is_declared (cond a (cond b (old ∷ []) (bound_below k below)) []) ≡ true
      go true true i j = and_from (is_declared old) true (i refl) refl
      go true false i j = j
      go false b i j = refl

  bound_pass : (x : Node) → holds_within reads_node x ≡ true → list_all is_declared (bound_names x) ≡ true
  bound_pass x h = go (is kind.BindingIdentifier x) (name_declared x (and_first (reads_node x) (holds_below reads_node x.children) h))
    where
      go : (b : Bool) → (b ≡ true → is_declared x ≡ true) → list_all is_declared (cond b (x ∷ []) (bound_below x.kind x.children)) ≡ true
      go true i = and_from (is_declared x) true (i refl) refl
      go false i = below_pass x.kind x.children (and_second (reads_node x) (holds_below reads_node x.children) h)

-- ---- one state

module _ (f : Name → Name) (looked declared : Name → Bool) (reads : Reads f looked declared) where
  abbrev test : Node → Bool
  test = reads_node looked declared

  -- a node with other names, which passes the test, and so does what is below it
  abbrev AlikeNode : Node → Node → Type 0
  AlikeNode x y = ((u : Name) × (g : Forest) × (y ≡ with_text x u g) × SameNode f x u g) × (holds_within test x ≡ true)

  abbrev AlikeNodes : List Node → List Node → Type 0
  AlikeNodes [] [] = Unit {0}
  AlikeNodes [] (y ∷ ys) = ⊥
  AlikeNodes (x ∷ xs) [] = ⊥
  AlikeNodes (x ∷ xs) (y ∷ ys) = AlikeNode x y × AlikeNodes xs ys

  both : (xs ys : List Node) → AlikePath f xs ys → list_all (holds_within test) xs ≡ true → AlikeNodes xs ys
  both [] [] h i = tt
  both [] (y ∷ ys) h i = absurd h
  both (x ∷ xs) [] h i = absurd h
  both (x ∷ xs) (y ∷ ys) h i = ((h.0, and_first (holds_within test x) (list_all (holds_within test) xs) i), both xs ys h.1 (and_second (holds_within test x) (list_all (holds_within test) xs) i))

  abbrev AlikeOption : Option Node → Option Node → Type 0
  AlikeOption None None = Unit {0}
  AlikeOption (Some x) (Some y) = AlikeNode x y
  AlikeOption None (Some y) = ⊥
  AlikeOption (Some x) None = ⊥

  abbrev AlikeLists : List (List Node) → List (List Node) → Type 0
  AlikeLists [] [] = Unit {0}
  AlikeLists (x ∷ xs) (y ∷ ys) = AlikeNodes x y × AlikeLists xs ys
  AlikeLists [] (y ∷ ys) = ⊥
  AlikeLists (x ∷ xs) [] = ⊥

  record AlikeItem (i j : Item) : Type 0 where
    node : AlikeNode i.node j.node
    lists : AlikeLists i.lists j.lists

  abbrev AlikeItems : List Item → List Item → Type 0
  AlikeItems [] [] = Unit {0}
  AlikeItems (x ∷ xs) (y ∷ ys) = AlikeItem x y × AlikeItems xs ys
  AlikeItems [] (y ∷ ys) = ⊥
  AlikeItems (x ∷ xs) [] = ⊥

  record SameReached (a b : StatementReach) : Type 0 where
    states : b.states ≡ a.states
    items : AlikeItems a.items b.items

  items_append : (xs ys us vs : List Item) → AlikeItems xs ys → AlikeItems us vs → AlikeItems (xs ++ us) (ys ++ vs)
  items_append [] [] us vs h i = i
  items_append [] (y ∷ ys) us vs h i = absurd h
  items_append (x ∷ xs) [] us vs h i = absurd h
  items_append (x ∷ xs) (y ∷ ys) us vs h i = (h.0, items_append xs ys us vs h.1 i)

  first_alike : (xs ys : List Node) → AlikeNodes xs ys → AlikeOption (first_of xs) (first_of ys)
  first_alike [] [] h = tt
  first_alike [] (y ∷ ys) h = absurd h
  first_alike (x ∷ xs) [] h = absurd h
  first_alike (x ∷ xs) (y ∷ ys) h = h.0

  children_alike : (r : Role) (x y : Node) → AlikeNode x y → AlikeNodes (children_of r x.children) (children_of r y.children)
  children_alike r x y h = let (u, g, e, s) = h.0 in
      subst (λ z. AlikeNodes (children_of r x.children) (children_of r z.children)) (sym e)
      (both (children_of r x.children) (children_of r g) (children_same f r x.children g s.children) (children_pass test r x.children (and_second (test x) (holds_below test x.children) h.1)))

  child_alike : (r : Role) (x y : Node) → AlikeNode x y → AlikeOption (child_of r x) (child_of r y)
  child_alike r x y h = first_alike (children_of r x.children) (children_of r y.children) (children_alike r x y h)

  kind_same : (x y : Node) → AlikeNode x y → y.kind ≡ x.kind
  kind_same x y h = ap (λ z. z.kind) h.0.2

  plain_counts : (s : InstanceState) → SameReached (counts_as s) (counts_as s)
  plain_counts s = record { states = refl; items = tt }

  one_item : (x y : Node) (ls ms : List (List Node)) → AlikeNode x y → AlikeLists ls ms → SameReached (leads_to (record { node = x; lists = ls } ∷ [])) (leads_to (record { node = y; lists = ms } ∷ []))
  one_item x y ls ms h i = record { states = refl; items = (record { node = h; lists = i }, tt) }

  items_of : (xs ys : List Node) (ls ms : List (List Node)) → AlikeNodes xs ys → AlikeLists ls ms → AlikeItems (map (λ x. record { node = x; lists = ls }) xs) (map (λ x. record { node = x; lists = ms }) ys)
  items_of [] [] ls ms h i = tt
  items_of [] (y ∷ ys) ls ms h i = absurd h
  items_of (x ∷ xs) [] ls ms h i = absurd h
  items_of (x ∷ xs) (y ∷ ys) ls ms h i = (record { node = h.0; lists = i }, items_of xs ys ls ms h.1 i)

  body_same : (o w : Option Node) (ls ms : List (List Node)) → AlikeOption o w → AlikeLists ls ms → SameReached (body_items o ls) (body_items w ms)
  body_same None None ls ms h i = plain_counts instantiated
  body_same None (Some y) ls ms h i = absurd h
  body_same (Some x) None ls ms h i = absurd h
  body_same (Some x) (Some y) ls ms h i = record { states = refl; items = rw (ap (λ q. holds_kind (kind.TSModuleBlock ∷ kind.BlockStatement ∷ kind.Program ∷ []) q) (kind_same x y h)) (go (is_list x)) }
    where
      xs : AlikeNodes (statements x) (statements y)
      xs = children_alike role.Body x y h

      go : (b : Bool) → AlikeItems (cond b (map (λ n. record { node = n; lists = statements x ∷ ls }) (statements x)) (record { node = x; lists = ls } ∷ [])) (cond b (map (λ n. record { node = n; lists = statements y ∷ ms }) (statements y)) (record { node = y; lists = ms } ∷ []))
      go true = items_of (statements x) (statements y) (statements x ∷ ls) (statements y ∷ ms) xs (xs, i)
      go false = (record { node = h; lists = i }, tt)

  inner_alike : (x y : Node) (o w : Option Node) → AlikeNode x y → AlikeOption o w → AlikeNode (declaration_in x o) (declaration_in y w)
  inner_alike x y None None h i = h
  inner_alike x y (Some d) (Some e) h i = i
  inner_alike x y None (Some e) h i = absurd i
  inner_alike x y (Some d) None h i = absurd i

  exported_alike : (x y : Node) → AlikeNode x y → AlikeNode (exported x) (exported y)
  exported_alike x y h = rw (ap (λ q. holds_kind (kind.ExportDeclaration ∷ kind.ExportDefaultDeclaration ∷ []) q) (kind_same x y h)) (go (holds_kind (kind.ExportDeclaration ∷ kind.ExportDefaultDeclaration ∷ []) x.kind))
    where
      go : (b : Bool) → AlikeNode (cond b (declaration_in x (child_of role.Declaration x)) x) (cond b (declaration_in y (child_of role.Declaration y)) y)
      go true = inner_alike x y (child_of role.Declaration x) (child_of role.Declaration y) h (child_alike role.Declaration x y h)
      go false = h

  any_reads : (name : Name) → looked name ≡ true → (xs ys : List Node) → Changed f xs ys → list_all (is_declared looked declared) xs ≡ true → list_any (has_text (f name)) ys ≡ list_any (has_text name) xs
  any_reads name l [] [] h d = refl
  any_reads name l [] (y ∷ ys) h d = absurd h
  any_reads name l (x ∷ xs) [] h d = absurd h
  any_reads name l (x ∷ xs) (y ∷ ys) h d = λ i.
      (ap (has_text (f name)) h.0.1 ∙ reads.same x.text name (and_first (is_declared looked declared x) (list_all (is_declared looked declared) xs) d) l) i
      || any_reads name l xs ys h.1 (and_second (is_declared looked declared x) (list_all (is_declared looked declared) xs) d) i

  declares_same : (name : Name) → looked name ≡ true → (x y : Node) → AlikeNode x y → declares (f name) y ≡ declares name x
  declares_same name l x y h =
      let alike : AlikeNode (exported x) (exported y) = exported_alike x y h in
      let (u, g, e, s) = alike.0 in
      ap (λ z. list_any (has_text (f name)) (bound_names z)) e
      ∙ any_reads name l (bound_names (exported x)) (bound_names (with_text (exported x) u g)) (bound_changed f (exported x) u g s) (bound_pass looked declared (exported x) alike.1)

  first_same : (name : Name) → looked name ≡ true → (xs ys : List Node) → AlikeNodes xs ys → AlikeOption (first_declaring name xs) (first_declaring (f name) ys)
  first_same name l [] [] h = tt
  first_same name l [] (y ∷ ys) h = absurd h
  first_same name l (x ∷ xs) [] h = absurd h
  first_same name l (x ∷ xs) (y ∷ ys) h = rw (declares_same name l x y h.0) (go (declares name x) (first_same name l xs ys h.1))
    where
      go : (b : Bool) → AlikeOption (first_declaring name xs) (first_declaring (f name) ys) → AlikeOption (cond b (Some x) (first_declaring name xs)) (cond b (Some y) (first_declaring (f name) ys))
      go true i = h.0
      go false i = i

  abbrev AlikeTarget : Option Item → Option Item → Type 0
  AlikeTarget None None = Unit {0}
  AlikeTarget (Some x) (Some y) = AlikeItem x y
  AlikeTarget None (Some y) = ⊥
  AlikeTarget (Some x) None = ⊥

  target_same : (name : Name) → looked name ≡ true → (ls ms : List (List Node)) → AlikeLists ls ms → AlikeTarget (target_of name ls) (target_of (f name) ms)
  target_same name l [] [] h = tt
  target_same name l [] (y ∷ ys) h = absurd h
  target_same name l (x ∷ xs) [] h = absurd h
  target_same name l (x ∷ xs) (y ∷ ys) h = go (first_declaring name x) (first_declaring (f name) y) (first_same name l x y h.0) (target_same name l xs ys h.1)
    where
      go : (o w : Option Node) → AlikeOption o w → AlikeTarget (target_of name xs) (target_of (f name) ys) → AlikeTarget (elim o [ None ↦ target_of name xs | Some n ↦ Some (record { node = n; lists = x ∷ xs }) ]) (elim w [ None ↦ target_of (f name) ys | Some n ↦ Some (record { node = n; lists = y ∷ ys }) ])
      go None None i j = j
      go (Some a) (Some b) i j = record { node = i; lists = h }
      go None (Some b) i j = absurd i
      go (Some a) None i j = absurd i

  import_same : (x y : Node) → AlikeNode x y → is_import_equals (exported y) ≡ is_import_equals (exported x)
  import_same x y h = ap is_import_equals (exported_alike x y h).0.2

  item_same : (o w : Option Item) → AlikeTarget o w → SameReached (item_reached o) (item_reached w)
  item_same None None h = plain_counts instantiated
  item_same None (Some y) h = absurd h
  item_same (Some x) None h = absurd h
  item_same (Some x) (Some y) h = rw (import_same x.node y.node h.node) (go (is_import_equals (exported x.node)))
    where
      go : (b : Bool) → SameReached (cond b (counts_as instantiated) (leads_to (x ∷ []))) (cond b (counts_as instantiated) (leads_to (y ∷ [])))
      go true = plain_counts instantiated
      go false = record { states = refl; items = (h, tt) }

  local_same : (ls ms : List (List Node)) (o w : Option Node) → holds (is_unlooked looked declared) o ≡ false → AlikeLists ls ms → AlikeOption o w → SameReached (local_reached ls o) (local_reached ms w)
  local_same ls ms None None l h i = plain_counts instantiated
  local_same ls ms None (Some y) l h i = absurd i
  local_same ls ms (Some x) None l h i = absurd i
  local_same ls ms (Some x) (Some y) l h i = let (u, g, e, s) = i.0 in
      subst (λ z. SameReached (local_reached ls (Some x)) (local_reached ms (Some z))) (sym e) (go u g s (is kind.IdentifierReference x) (looked x.text) refl refl l)
    where
      go : (u : Name) (g : Forest) → SameNode f x u g → (b c : Bool) → is kind.IdentifierReference x ≡ b → looked x.text ≡ c → (b && not c) ≡ false → SameReached (cond b (item_reached (target_of x.text ls)) (counts_as instantiated)) (cond b (item_reached (target_of u ms)) (counts_as instantiated))
      go u g s true true e j q =
          subst (λ t. SameReached (item_reached (target_of x.text ls)) (item_reached (target_of t ms))) (sym (s.text.named (subst (λ j. is_name j ≡ true) (sym (kind_is x.kind kind.IdentifierReference e)) refl)))
          (item_same (target_of x.text ls) (target_of (f x.text) ms) (target_same x.text j ls ms h))
      go u g s true false e j q = absurd cc
      go u g s false c e j q = plain_counts instantiated

  specifier_same : (ls ms : List (List Node)) (x y : Node) → AlikeLists ls ms → AlikeNode x y → SameReached (specifier_reached ls x) (specifier_reached ms y)
  specifier_same ls ms x y h i = local_same ls ms (child_of role.Local x) (child_of role.Local y) (unlooked_none looked declared x (and_first (test x) (holds_below test x.children) i.1)) h (child_alike role.Local x y i)

  specifiers_same : (ls ms : List (List Node)) (xs ys : List Node) → AlikeLists ls ms → AlikeNodes xs ys → SameReached (specifiers_reached (map (specifier_reached ls) xs)) (specifiers_reached (map (specifier_reached ms) ys))
  specifiers_same ls ms [] [] h i = record { states = refl; items = tt }
  specifiers_same ls ms [] (y ∷ ys) h i = absurd i
  specifiers_same ls ms (x ∷ xs) [] h i = absurd i
  specifiers_same ls ms (x ∷ xs) (y ∷ ys) h i =
      let one : SameReached (specifier_reached ls x) (specifier_reached ms y) = specifier_same ls ms x y h i.0 in
      let rest : SameReached (specifiers_reached (map (specifier_reached ls) xs)) (specifiers_reached (map (specifier_reached ms) ys)) = specifiers_same ls ms xs ys h i.1 in
      record {
        states = λ j. one.states j ++ rest.states j;
        items = items_append (specifier_reached ls x).items (specifier_reached ms y).items (specifiers_reached (map (specifier_reached ls) xs)).items (specifiers_reached (map (specifier_reached ms) ys)).items one.items rest.items;
      }

  -- an exported declaration, by its kind
  declaration_by : (ls ms : List (List Node)) (x y : Node) → AlikeLists ls ms → AlikeNode x y → (a b : Bool) → SameReached (cond a (leads_to (record { node = x; lists = ls } ∷ [])) (cond b (counts_as non_instantiated) (counts_as instantiated))) (cond a (leads_to (record { node = y; lists = ms } ∷ [])) (cond b (counts_as non_instantiated) (counts_as instantiated)))
  declaration_by ls ms x y h i true b = one_item x y ls ms i h
  declaration_by ls ms x y h i false true = plain_counts non_instantiated
  declaration_by ls ms x y h i false false = plain_counts instantiated

  declaration_same : (ls ms : List (List Node)) (x y : Node) → AlikeLists ls ms → AlikeNode x y → SameReached (declaration_reached ls x) (declaration_reached ms y)
  declaration_same ls ms x y h i =
      subst (λ q. SameReached (declaration_reached ls x) (cond (holds_kind (kind.TSNamespaceDeclaration ∷ kind.TSExternalModuleDeclaration ∷ []) q) (leads_to (record { node = y; lists = ms } ∷ [])) (cond (holds_kind (kind.TSTypeAliasDeclaration ∷ kind.TSInterfaceDeclaration ∷ []) q) (counts_as non_instantiated) (counts_as instantiated)))) (sym (kind_same x y i))
      (declaration_by ls ms x y h i (is_namespace_or_module x) (holds_kind (kind.TSTypeAliasDeclaration ∷ kind.TSInterfaceDeclaration ∷ []) x.kind))

  from_same : (w : AstType) (i j : Item) → AlikeItem i j → SameReached (reached_from w i) (reached_from w j)
  from_same kind.TSInterfaceDeclaration i j h = plain_counts non_instantiated
  from_same kind.TSTypeAliasDeclaration i j h = plain_counts non_instantiated
  from_same kind.TSImportEqualsDeclaration i j h = plain_counts non_instantiated
  from_same kind.TSEnumDeclaration i j h = record { states = ap (λ n. cond (has mark.Const n) const_enum_only instantiated ∷ []) h.node.0.2; items = tt }
  from_same kind.TSNamespaceDeclaration i j h = body_same (child_of role.Body i.node) (child_of role.Body j.node) i.lists j.lists (child_alike role.Body i.node j.node h.node) h.lists
  from_same kind.TSExternalModuleDeclaration i j h = body_same (child_of role.Body i.node) (child_of role.Body j.node) i.lists j.lists (child_alike role.Body i.node j.node h.node) h.lists
  from_same kind.ExportDeclaration i j h = declaration_same i.lists j.lists (exported i.node) (exported j.node) h.lists (exported_alike i.node j.node h.node)
  from_same kind.ExportDefaultDeclaration i j h = record { states = ap (λ n. cond (is kind.TSInterfaceDeclaration n) non_instantiated instantiated ∷ []) (exported_alike i.node j.node h.node).0.2; items = tt }
  from_same kind.ExportNamedDeclaration i j h = specifiers_same i.lists j.lists (children_of role.Specifiers i.node.children) (children_of role.Specifiers j.node.children) h.lists (children_alike role.Specifiers i.node j.node h.node)
  from_same _ i j h = plain_counts instantiated

  reach_same : (i j : Item) → AlikeItem i j → SameReached (reach i) (reach j)
  reach_same i j h = subst (λ w. SameReached (reach i) (reached_from w j)) (sym (kind_same i.node j.node h.node)) (from_same i.node.kind i j h)

  id_same : (i j : Item) → AlikeItem i j → j.node.node_id ≡ i.node.node_id
  id_same i j h = ap (λ n. n.node_id) h.node.0.2

  among_same : (i j : Item) (xs ys : List Item) → AlikeItem i j → AlikeItems xs ys → is_among j ys ≡ is_among i xs
  among_same i j [] [] h a = refl
  among_same i j [] (y ∷ ys) h a = absurd a
  among_same i j (x ∷ xs) [] h a = absurd a
  among_same i j (x ∷ xs) (y ∷ ys) h a = λ t. id_same i j h t == id_same x y a.0 t || among_same i j xs ys h a.1 t

  new_same : (old old' xs ys : List Item) → AlikeItems old old' → AlikeItems xs ys → AlikeItems (new_items old xs) (new_items old' ys)
  new_same old old' [] [] h a = tt
  new_same old old' [] (y ∷ ys) h a = absurd a
  new_same old old' (x ∷ xs) [] h a = absurd a
  new_same old old' (x ∷ xs) (y ∷ ys) h a = rw (among_same x y old old' a.0 h) (go (is_among x old) (new_same old old' xs ys h a.1) (new_same (x ∷ old) (y ∷ old') xs ys (a.0, h) a.1))
    where
      go : (b : Bool) → AlikeItems (new_items old xs) (new_items old' ys) → AlikeItems (new_items (x ∷ old) xs) (new_items (y ∷ old') ys) → AlikeItems (cond b (new_items old xs) (x ∷ new_items (x ∷ old) xs)) (cond b (new_items old' ys) (y ∷ new_items (y ∷ old') ys))
      go true p q = p
      go false p q = (a.0, q)

  reached_items : (xs ys : List Item) → AlikeItems xs ys → AlikeItems (flat_map (λ i. (reach i).items) xs) (flat_map (λ i. (reach i).items) ys)
  reached_items [] [] h = tt
  reached_items [] (y ∷ ys) h = absurd h
  reached_items (x ∷ xs) [] h = absurd h
  reached_items (x ∷ xs) (y ∷ ys) h = items_append (reach x).items (reach y).items (flat_map (λ i. (reach i).items) xs) (flat_map (λ i. (reach i).items) ys) (reach_same x y h.0).items (reached_items xs ys h.1)

  within_same : (rounds : ℕ) (old old' xs ys : List Item) → AlikeItems old old' → AlikeItems xs ys → AlikeItems (reached_within rounds old xs) (reached_within rounds old' ys)
  within_same zero old old' [] [] h a = h
  within_same (suc rounds) old old' [] [] h a = h
  within_same rounds old old' [] (y ∷ ys) h a = absurd a
  within_same rounds old old' (x ∷ xs) [] h a = absurd a
  within_same zero old old' (x ∷ xs) (y ∷ ys) h a = items_append old old' (x ∷ xs) (y ∷ ys) h a
  within_same (suc rounds) old old' (x ∷ xs) (y ∷ ys) h a =
      let all : AlikeItems (old ++ x ∷ xs) (old' ++ y ∷ ys) = items_append old old' (x ∷ xs) (y ∷ ys) h a in
      within_same rounds (old ++ x ∷ xs) (old' ++ y ∷ ys) (new_items (old ++ x ∷ xs) (flat_map (λ j. (reach j).items) (x ∷ xs))) (new_items (old' ++ y ∷ ys) (flat_map (λ j. (reach j).items) (y ∷ ys))) all
      (new_same (old ++ x ∷ xs) (old' ++ y ∷ ys) (flat_map (λ j. (reach j).items) (x ∷ xs)) (flat_map (λ j. (reach j).items) (y ∷ ys)) all (reached_items (x ∷ xs) (y ∷ ys) a))

  states_same : (xs ys : List Item) → AlikeItems xs ys → flat_map (λ i. (reach i).states) ys ≡ flat_map (λ i. (reach i).states) xs
  states_same [] [] h = refl
  states_same [] (y ∷ ys) h = absurd h
  states_same (x ∷ xs) [] h = absurd h
  states_same (x ∷ xs) (y ∷ ys) h = λ i. (reach_same x y h.0).states i ++ states_same xs ys h.1 i

  lists_same : (path path' : List Node) → AlikeNodes path path' → AlikeLists (map statements (filter is_list path)) (map statements (filter is_list path'))
  lists_same [] [] h = tt
  lists_same [] (y ∷ ys) h = absurd h
  lists_same (x ∷ xs) [] h = absurd h
  lists_same (x ∷ xs) (y ∷ ys) h = rw (ap is_list h.0.0.2) (go (is_list x) (lists_same xs ys h.1))
    where
      go : (b : Bool) → AlikeLists (map statements (filter is_list xs)) (map statements (filter is_list ys)) → AlikeLists (map statements (cond b (x ∷ filter is_list xs) (filter is_list xs))) (map statements (cond b (y ∷ filter is_list ys) (filter is_list ys)))
      go true i = (children_alike role.Body x y h.0, i)
      go false i = i

  count_same : (a b : Forest) → Alike f a b → count b ≡ count a
  count_same nothing nothing no_trees = refl
  count_same _ _ (trees_alike r w span t v marks below below' id after after' text members b a) = λ i. count_same below below' b i + count_same after after' a i + 1

  around_same : (node : Node) (u : Name) (g : Forest) (path path' : List Node) → SameNode f node u g → AlikePath f path path' → nodes_around (with_text node u g) path' ≡ nodes_around node path
  around_same node u g [] [] s h = ap suc (count_same node.children g s.children)
  around_same node u g [] (y ∷ ys) s h = absurd h
  around_same node u g (x ∷ xs) [] s h = absurd h
  around_same node u g (x ∷ xs) (y ∷ ys) s h = let (v, w, e, t) = h.0 in ap (λ z. nodes_around z ys) e ∙ around_same x v w xs ys t h.1

  -- a namespace with other names, below nodes with other names
  pub state_same : (node : Node) (u : Name) (g : Forest) (path path' : List Node) → SameNode f node u g → AlikePath f path path' → holds_within test node ≡ true → list_all (holds_within test) path ≡ true → instance_state (with_text node u g) path' (nodes_around (with_text node u g) path') ≡ instance_state node path (nodes_around node path)
  state_same node u g path path' s h n l =
      ap (instance_state (with_text node u g) path') (around_same node u g path path' s h)
      ∙ ap greatest (states_same
      (reached_within (nodes_around node path) [] (record { node = node; lists = map statements (filter is_list path) } ∷ []))
      (reached_within (nodes_around node path) [] (record { node = with_text node u g; lists = map statements (filter is_list path') } ∷ []))
      (within_same (nodes_around node path) [] [] (record { node = node; lists = map statements (filter is_list path) } ∷ []) (record { node = with_text node u g; lists = map statements (filter is_list path') } ∷ []) tt (record { node = ((u, g, refl, s), n); lists = lists_same path path' (both path path' h l) }, tt)))
