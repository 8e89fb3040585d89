-- A program with other names is walked through the same places, whose nodes and paths are renamed.
use Rattle.std.proofs.Common.{◌≡◌, ℕ, ◌+◌, List, [], ◌∷◌, ◌++◌, Option, Some, None, cond, Bool, true, false, not, ◌&&◌, sym, ap, subst, ◌∙◌}
use Rattle.semantic_syntax.proofs.Truth.{and_first, and_second}
use Rattle.std.proofs.lemmas.Bool.{and_from}
use Rattle.semantic_kinds.specs.declared.role.Role.{Role}
use Rattle.semantic_kinds.specs.declared.role.Role.TheVariants as role
use Rattle.semantic_tree.specs.Forest.{Forest, nothing, tree}
use Rattle.semantic_tree.specs.Renamed.{setting_below}
use Rattle.semantic_tree.specs.Tree.{Tree}
use Rattle.semantic_tree.specs.Views.{has_role}
use Rattle.semantic_tree.specs.declared.node.Node.{Node}
use Rattle.semantic_tree.specs.declared.swap.Setting.{Setting}
use Rattle.semantic_tree.specs.declared.swap.Setting.TheVariants.{Elsewhere}
use Rattle.semantic_model.specs.Cursor.{on_entering}
use Rattle.semantic_model.specs.Inside.{opens, is_inside, any_inside, header_roles, is_in_header, scopes_in}
use Rattle.semantic_model.specs.Place.{Place, OpenScope}
use Rattle.semantic_model.specs.ScopeKind.{opened_scope}
use Rattle.semantic_model.specs.Step.{Step, entering, opening, header_ending, closing, leaving, steps_below, opening_at, ending_after, opening_last, scope_at, next_at, child_place, cursor_past, steps, root_place}
use Rattle.semantic_model.proofs.swapped.Alike.{alike_renamed}
use Rattle.semantic_model.proofs.swapped.AlikeScopes.{roles_same, insides_same}
use Rattle.program_laws.specs.Remarked.{remarked}
use Rattle.program_laws.proofs.Children as unmarked
use Rattle.swapped_checks.specs.SwappedPrograms.{holds_below, holds_within}
use Rattle.swapped_checks.proofs.Changed.{Change, changed, changed_node, IsChanged, changed_at, changed_tree}
use Rattle.swapped_checks.proofs.Pairwise.{Each}
use Rattle.swapped_checks.proofs.RenamedNodes.{same_kinds}

module _ (f : Change) (test : Node → Bool) where
  -- a renamed node that passes the test, and so does what is below it
  abbrev pub Within : Node → Node → Type 0
  Within a b = IsChanged f a b × (holds_within test a ≡ true)

  abbrev pub Spot : Place → Place → Type 0
  Spot p q = Within p.node q.node × Each Within p.path q.path

  abbrev pub SpotStep : Step → Step → Type 0
  SpotStep (entering p) (entering q) = Spot p q
  SpotStep (opening p s) (opening q t) = Unit {0}
  SpotStep (header_ending p s) (header_ending q t) = Unit {0}
  SpotStep (closing p s) (closing q t) = Unit {0}
  SpotStep (leaving p) (leaving q) = Spot p q
  SpotStep _ _ = ⊥

  abbrev pub Spots : List Step → List Step → Type 0
  Spots [] [] = Unit {0}
  Spots (x ∷ xs) (y ∷ ys) = SpotStep x y × Spots xs ys
  Spots _ _ = ⊥

  spots_append : (xs ys us vs : List Step) → Spots xs ys → Spots us vs → Spots (xs ++ us) (ys ++ vs)
  spots_append [] [] us vs h i = i
  spots_append [] (y ∷ ys) us vs h i = absurd h
  spots_append (x ∷ xs) [] us vs h i = absurd h
  spots_append (x ∷ xs) (y ∷ ys) us vs h i = (h.0, spots_append xs ys us vs h.1 i)

  -- both are open, or neither is
  abbrev Level : Option OpenScope → Option OpenScope → Type 0
  Level None None = Unit {0}
  Level None (Some s) = ⊥
  Level (Some s) None = ⊥
  Level (Some s) (Some t) = Unit {0}

  opening_spots : (p q : Place) (r : Role) (own new : Option OpenScope) (n m : ℕ) → q.node.kind ≡ p.node.kind → Level own new → Spots (opening_at p r own n) (opening_at q r new m)
  opening_spots p q r None (Some s) n m e l = absurd l
  opening_spots p q r (Some s) None n m e l = absurd l
  opening_spots p q r (Some s) (Some t) n m e l = tt
  opening_spots p q r None None n m e l = subst (λ k. Spots (cond (is_inside p.node.kind r) (opening p (opened_scope p n) ∷ []) []) (cond (is_inside k r) (opening q (opened_scope q m) ∷ []) [])) (sym e) (go (is_inside p.node.kind r))
    where
      go : (b : Bool) → Spots (cond b (opening p (opened_scope p n) ∷ []) []) (cond b (opening q (opened_scope q m) ∷ []) [])
      go true = (tt, tt)
      go false = tt

  scope_level : (p q : Place) (r : Role) (own new : Option OpenScope) (n m : ℕ) → q.node.kind ≡ p.node.kind → Level own new → Level (scope_at p r own n) (scope_at q r new m)
  scope_level p q r None (Some s) n m e l = absurd l
  scope_level p q r (Some s) None n m e l = absurd l
  scope_level p q r (Some s) (Some t) n m e l = tt
  scope_level p q r None None n m e l = subst (λ k. Level (cond (is_inside p.node.kind r) (Some (opened_scope p n)) None) (cond (is_inside k r) (Some (opened_scope q m)) None)) (sym e) (go (is_inside p.node.kind r))
    where
      go : (b : Bool) → Level (cond b (Some (opened_scope p n)) None) (cond b (Some (opened_scope q m)) None)
      go true = tt
      go false = tt

  last_spots : (p q : Place) (own new : Option OpenScope) (n m : ℕ) → q.node.kind ≡ p.node.kind → Level own new → Spots (opening_last p own n) (opening_last q new m)
  last_spots p q None (Some s) n m e l = absurd l
  last_spots p q (Some s) None n m e l = absurd l
  last_spots p q (Some s) (Some t) n m e l = tt
  last_spots p q None None n m e l = subst (λ k. Spots (cond (opens p.node.kind) (opening p (opened_scope p n) ∷ closing p (opened_scope p n) ∷ []) []) (cond (opens k) (opening q (opened_scope q m) ∷ closing q (opened_scope q m) ∷ []) [])) (sym e) (go (opens p.node.kind))
    where
      go : (b : Bool) → Spots (cond b (opening p (opened_scope p n) ∷ closing p (opened_scope p n) ∷ []) []) (cond b (opening q (opened_scope q m) ∷ closing q (opened_scope q m) ∷ []) [])
      go true = (tt, (tt, tt))
      go false = tt

  ends_by : (p q : Place) (s t : OpenScope) (a b : Bool) → Spots (cond a (header_ending p s ∷ []) [] ++ cond b (closing p s ∷ []) []) (cond a (header_ending q t ∷ []) [] ++ cond b (closing q t ∷ []) [])
  ends_by p q s t true true = (tt, (tt, tt))
  ends_by p q s t true false = (tt, tt)
  ends_by p q s t false true = (tt, tt)
  ends_by p q s t false false = tt

  ending_spots : (p q : Place) (r : Role) (own new : Option OpenScope) (st : Setting) (after : Forest) → q.node.kind ≡ p.node.kind → Level own new → Spots (ending_after p r own after) (ending_after q r new (changed f st after))
  ending_spots p q r None None st after e l = tt
  ending_spots p q r None (Some s) st after e l = absurd l
  ending_spots p q r (Some s) None st after e l = absurd l
  ending_spots p q r (Some s) (Some t) st after e l =
      subst (λ c. Spots (ending_after p r (Some s) after) (cond c (header_ending q t ∷ []) [] ++ cond (is_inside q.node.kind r && not (any_inside q.node.kind (changed f st after))) (closing q t ∷ []) [])) (sym heads)
      (subst (λ c. Spots (ending_after p r (Some s) after) (cond (is_in_header p.node.kind r && not (has_role (header_roles p.node.kind) after)) (header_ending q t ∷ []) [] ++ cond c (closing q t ∷ []) [])) (sym insides)
      (ends_by p q s t (is_in_header p.node.kind r && not (has_role (header_roles p.node.kind) after)) (is_inside p.node.kind r && not (any_inside p.node.kind after))))
    where
      heads : (is_in_header q.node.kind r && not (has_role (header_roles q.node.kind) (changed f st after))) ≡ (is_in_header p.node.kind r && not (has_role (header_roles p.node.kind) after))
      heads = ap (λ k. is_in_header k r && not (has_role (header_roles k) (changed f st after))) e ∙ ap (λ c. is_in_header p.node.kind r && not c) (roles_same f.names (header_roles p.node.kind) (remarked f.marks after) (changed f st after) (alike_renamed f.names st (remarked f.marks after)) ∙ unmarked.roles_same f.marks (header_roles p.node.kind) after)

      insides : (is_inside q.node.kind r && not (any_inside q.node.kind (changed f st after))) ≡ (is_inside p.node.kind r && not (any_inside p.node.kind after))
      insides = ap (λ k. is_inside k r && not (any_inside k (changed f st after))) e ∙ ap (λ c. is_inside p.node.kind r && not c) (insides_same f.names p.node.kind (remarked f.marks after) (changed f st after) (alike_renamed f.names st (remarked f.marks after)) ∙ unmarked.insides_same f.marks p.node.kind after)

  steps_spots : (p q : Place) → Spot p q → (own new : Option OpenScope) → Level own new → (n m c d : ℕ) (st : Setting) (g : Forest) → holds_below test g ≡ true → Spots (steps_below p own n c g) (steps_below q new m d (changed f st g))
  steps_spots p q w own new l n m c d st nothing h = last_spots p q own new n m (same_kinds f p.node q.node w.0.0) l
  steps_spots p q w own new l n m c d st (tree r k span text marks below id after) h =
      let node : Node = record { kind = k; span = span; text = text; marks = marks; children = below; node_id = id } in
      let node' : Node = changed_node f st r node in
      let kinds : q.node.kind ≡ p.node.kind = same_kinds f p.node q.node w.0.0 in
      let own' : Option OpenScope = scope_at p r own n in
      let new' : Option OpenScope = scope_at q r new m in
      let level : Level own' new' = scope_level p q r own new n m kinds l in
      let child : Place = child_place p own' c r node in
      let child' : Place = child_place q new' d r node' in
      let here : test node ≡ true = and_first (test node) (holds_below test below && holds_below test after) h in
      let rest : (holds_below test below && holds_below test after) ≡ true = and_second (test node) (holds_below test below && holds_below test after) h in
      let inner : holds_below test below ≡ true = and_first (holds_below test below) (holds_below test after) rest in
      let outer : holds_below test after ≡ true = and_second (holds_below test below) (holds_below test after) rest in
      let spot : Spot child child' = ((changed_at st r node, and_from (test node) (holds_below test below) here inner), (w.0, w.1)) in
      let a : List Step = opening_at p r own n in
      let a' : List Step = opening_at q r new m in
      let b : List Step = steps_below child None (next_at p r own n) (on_entering k child.cursor) below in
      let b' : List Step = steps_below child' None (next_at q r new m) (on_entering k child'.cursor) node'.children in
      let e : List Step = ending_after p r own' after in
      let e' : List Step = ending_after q r new' (changed f st after) in
      let o : List Step = steps_below p own' (next_at p r own n + cond (opens k) 1 0 + scopes_in below) (cursor_past p r c child) after in
      let o' : List Step = steps_below q new' (next_at q r new m + cond (opens k) 1 0 + scopes_in node'.children) (cursor_past q r d child') (changed f st after) in
      spots_append (a ++ (entering child ∷ (b ++ leaving child ∷ [])) ++ e) (a' ++ (entering child' ∷ (b' ++ leaving child' ∷ [])) ++ e') o o'
      (spots_append (a ++ (entering child ∷ (b ++ leaving child ∷ []))) (a' ++ (entering child' ∷ (b' ++ leaving child' ∷ []))) e e'
      (spots_append a a' (entering child ∷ (b ++ leaving child ∷ [])) (entering child' ∷ (b' ++ leaving child' ∷ [])) (opening_spots p q r own new n m kinds l)
      (spot, spots_append b b' (leaving child ∷ []) (leaving child' ∷ []) (steps_spots child child' spot None None tt (next_at p r own n) (next_at q r new m) (on_entering k child.cursor) (on_entering k child'.cursor) (setting_below st r k) below inner) (spot, tt)))
      (ending_spots p q r own' new' st after kinds level))
      (steps_spots p q w own' new' level (next_at p r own n + cond (opens k) 1 0 + scopes_in below) (next_at q r new m + cond (opens k) 1 0 + scopes_in node'.children) (cursor_past p r c child) (cursor_past q r d child') st after outer)

  pub program_spots : (p : Tree) → holds_within test p.root ≡ true → Spots (steps p) (steps (changed_tree f p))
  program_spots p h =
      let root : Place = root_place p in
      let root' : Place = root_place (changed_tree f p) in
      let spot : Spot root root' = ((changed_at Elsewhere role.Root p.root, h), tt) in
      let n : ℕ = on_entering p.root.kind 0 in
      (spot, spots_append (steps_below root None 0 n p.root.children) (steps_below root' None 0 n root'.node.children) (leaving root ∷ []) (leaving root' ∷ []) (steps_spots root root' spot None None tt 0 0 n n (setting_below Elsewhere role.Root p.root.kind) p.root.children (and_second (test p.root) (holds_below test p.root.children) h)) (spot, tt))
