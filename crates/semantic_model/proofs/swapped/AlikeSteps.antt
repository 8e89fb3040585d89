-- Trees that differ in names alone are walked in the same steps.
use Rattle.std.proofs.Common.{◌≡◌, ℕ, ◌+◌, List, [], ◌∷◌, ◌++◌, Option, Some, None, cond, Bool, true, false, not, ◌&&◌, refl, sym, ap, subst, ◌∙◌}
use Rattle.semantic_syntax.specs.Tables.{Name}
use Rattle.std.specs.Prelude.{filter_map}
use Rattle.std.specs.List.{cons_option}
use Rattle.semantic_tree.specs.Forest.{Forest, nothing}
use Rattle.semantic_tree.specs.declared.node.Node.{Node}
use Rattle.semantic_kinds.specs.declared.role.Role.{Role}
use Rattle.semantic_tree.specs.Views.{has_role}
use Rattle.semantic_model.specs.Place.{Place, OpenScope}
use Rattle.semantic_model.specs.Inside.{opens, is_inside, any_inside, header_roles, is_in_header}
use Rattle.semantic_model.specs.ScopeKind.{opened_scope}
use Rattle.semantic_model.specs.Ambient.{ambient_inside}
use Rattle.semantic_model.specs.Cursor.{on_entering, on_leaving, cursor_behind}
use Rattle.semantic_model.specs.Step.{Step, entering, opening, header_ending, closing, leaving, steps_below, opening_at, ending_after, opening_last, scope_at, next_at, child_place, cursor_past}
use Rattle.semantic_model.proofs.steps.Turn.{Turn, turn_at}
use Rattle.semantic_model.proofs.swapped.Alike.{Alike, no_trees, trees_alike, MembersFor}
use Rattle.semantic_model.proofs.swapped.AlikeCursor.{with_text, SameNode, before_same, after_same}
use Rattle.semantic_model.proofs.swapped.AlikeScopes.{re, roles_same, insides_same, scopes_same, AlikePath, opened_same}

module _ (f : Name → Name) where
  -- a place that differs in names alone
  pub record SamePlace (p q : Place) : Type 0 where
    pub u : Name
    pub g : Forest
    pub path : List Node
    pub is : q ≡ re p u g path
    pub node : SameNode f p.node u g
    pub above : AlikePath f p.path path
    pub members : MembersFor f p.node.kind p.node.children g

  abbrev pub AlikeStep : Step → Step → Type 0
  AlikeStep (entering p) (entering q) = SamePlace p q
  AlikeStep (opening p s) (opening q t) = SamePlace p q × (t ≡ s)
  AlikeStep (header_ending p s) (header_ending q t) = SamePlace p q × (t ≡ s)
  AlikeStep (closing p s) (closing q t) = SamePlace p q × (t ≡ s)
  AlikeStep (leaving p) (leaving q) = SamePlace p q
  AlikeStep _ _ = ⊥

  abbrev pub AlikeSteps : List Step → List Step → Type 0
  AlikeSteps [] [] = Unit {0}
  AlikeSteps (x ∷ xs) (y ∷ ys) = AlikeStep x y × AlikeSteps xs ys
  AlikeSteps _ _ = ⊥

  alike_append : (xs ys us vs : List Step) → AlikeSteps xs ys → AlikeSteps us vs → AlikeSteps (xs ++ us) (ys ++ vs)
  alike_append [] [] us vs h i = i
  alike_append [] (y ∷ ys) us vs h i = absurd h
  alike_append (x ∷ xs) [] us vs h i = absurd h
  alike_append (x ∷ xs) (y ∷ ys) us vs h i = (h.0, alike_append xs ys us vs h.1 i)

  -- what is read of alike steps is the same where it is of each step
  pub read_same : {A : Type 0} (read : Step → Option A) → ((x y : Step) → AlikeStep x y → read y ≡ read x) → (xs ys : List Step) → AlikeSteps xs ys → filter_map read ys ≡ filter_map read xs
  read_same read one [] [] h = refl
  read_same read one [] (y ∷ ys) h = absurd h
  read_same read one (x ∷ xs) [] h = absurd h
  read_same read one (x ∷ xs) (y ∷ ys) h = λ i. cons_option (one x y h.0 i) (read_same read one xs ys h.1 i)

  -- what is known of a place
  pub record Facts (p : Place) (u : Name) (g : Forest) (path : List Node) : Type 0 where
    pub node : SameNode f p.node u g
    pub above : AlikePath f p.path path
    pub members : MembersFor f p.node.kind p.node.children g

  pub same_place : (p : Place) (u : Name) (g : Forest) (path : List Node) → Facts p u g path → SamePlace p (re p u g path)
  same_place p u g path w = record { u = u; g = g; path = path; is = refl; node = w.node; above = w.above; members = w.members }

  scope_same : (p : Place) (u : Name) (g : Forest) (path : List Node) (r : Role) (own : Option OpenScope) (n : ℕ) → Facts p u g path → scope_at (re p u g path) r own n ≡ scope_at p r own n
  scope_same p u g path r (Some s) n w = refl
  scope_same p u g path r None n w = ap (λ s. cond (is_inside p.node.kind r) (Some s) None) (opened_same f p u g path n w.node w.above)

  next_same : (p : Place) (u : Name) (g : Forest) (path : List Node) (r : Role) (own : Option OpenScope) (n : ℕ) → next_at (re p u g path) r own n ≡ next_at p r own n
  next_same p u g path r (Some s) n = refl
  next_same p u g path r None n = refl

  opening_same : (p : Place) (u : Name) (g : Forest) (path : List Node) (r : Role) (own : Option OpenScope) (n : ℕ) → Facts p u g path → AlikeSteps (opening_at p r own n) (opening_at (re p u g path) r own n)
  opening_same p u g path r (Some s) n w = tt
  opening_same p u g path r None n w = go (is_inside p.node.kind r)
    where
      go : (b : Bool) → AlikeSteps (cond b (opening p (opened_scope p n) ∷ []) []) (cond b (opening (re p u g path) (opened_scope (re p u g path) n) ∷ []) [])
      go true = ((same_place p u g path w, opened_same f p u g path n w.node w.above), tt)
      go false = tt

  last_same : (p : Place) (u : Name) (g : Forest) (path : List Node) (own : Option OpenScope) (n : ℕ) → Facts p u g path → AlikeSteps (opening_last p own n) (opening_last (re p u g path) own n)
  last_same p u g path (Some s) n w = tt
  last_same p u g path None n w = go (opens p.node.kind)
    where
      go : (b : Bool) → AlikeSteps (cond b (opening p (opened_scope p n) ∷ closing p (opened_scope p n) ∷ []) []) (cond b (opening (re p u g path) (opened_scope (re p u g path) n) ∷ closing (re p u g path) (opened_scope (re p u g path) n) ∷ []) [])
      go true = ((same_place p u g path w, opened_same f p u g path n w.node w.above), ((same_place p u g path w, opened_same f p u g path n w.node w.above), tt))
      go false = tt

  ending_same : (p : Place) (u : Name) (g : Forest) (path : List Node) (r : Role) (own : Option OpenScope) (after after' : Forest) → Facts p u g path → Alike f after after' → AlikeSteps (ending_after p r own after) (ending_after (re p u g path) r own after')
  ending_same p u g path r None after after' w a = tt
  ending_same p u g path r (Some s) after after' w a =
      rw (roles_same f (header_roles p.node.kind) after after' a, insides_same f p.node.kind after after' a)
      (go (is_in_header p.node.kind r && not (has_role (header_roles p.node.kind) after)) (is_inside p.node.kind r && not (any_inside p.node.kind after)))
    where
      go : (x y : Bool) → AlikeSteps (cond x (header_ending p s ∷ []) [] ++ cond y (closing p s ∷ []) []) (cond x (header_ending (re p u g path) s ∷ []) [] ++ cond y (closing (re p u g path) s ∷ []) [])
      go true true = ((same_place p u g path w, refl), ((same_place p u g path w, refl), tt))
      go true false = ((same_place p u g path w, refl), tt)
      go false true = ((same_place p u g path w, refl), tt)
      go false false = tt

  -- the steps of the children that are left
  pub steps_same : (p : Place) (u : Name) (g : Forest) (path : List Node) (own : Option OpenScope) (n cursor : ℕ) (a b : Forest) → Facts p u g path → Alike f a b → AlikeSteps (steps_below p own n cursor a) (steps_below (re p u g path) own n cursor b)
  steps_same p u g path own n cursor nothing nothing w no_trees = last_same p u g path own n w
  steps_same p u g path own n cursor _ _ w (trees_alike r k span t v marks below below' id after after' text members b a) =
      let p' : Place = re p u g path in
      let node : Node = record { kind = k; span = span; text = t; marks = marks; children = below; node_id = id } in
      let turn : Turn = turn_at p own n cursor r node after in
      let node' : Node = with_text node v below' in
      let turn' : Turn = turn_at p' own n cursor r node' after' in
      let new : Place = re turn.child v below' (p'.node ∷ path) in
      let same : SameNode f node v below' = record { text = text; children = b } in
      let e_scope : turn'.scope ≡ turn.scope = scope_same p u g path r own n w in
      let e_next : turn'.next ≡ turn.next = next_same p u g path r own n in
      let e_cursor : (child_place p' turn.scope cursor r node').cursor ≡ turn.child.cursor = before_same f p.node u g (ambient_inside p.node p.is_ambient) r node v below' cursor w.node same in
      let e_child : turn'.child ≡ new = ap (λ s. child_place p' s cursor r node') e_scope ∙ ap (λ c. record new { cursor = c }) e_cursor in
      let facts : Facts turn.child v below' (p'.node ∷ path) = record { node = same; above = ((u, g, refl, w.node), w.above); members = members } in
      let place : SamePlace turn.child turn'.child = record { u = v; g = below'; path = p'.node ∷ path; is = e_child; node = same; above = ((u, g, refl, w.node), w.above); members = members } in
      let below_ok : AlikeSteps turn.below (steps_below new None turn.next turn.inner below') = steps_same turn.child v below' (p'.node ∷ path) None turn.next turn.inner below below' facts b in
      let ys_ok : AlikeSteps turn.below turn'.below = subst (λ q. AlikeSteps turn.below (steps_below q None turn'.next (on_entering k q.cursor) below')) (sym e_child) (subst (λ q. AlikeSteps turn.below (steps_below new None q turn.inner below')) (sym e_next) below_ok) in
      let zs_ok : AlikeSteps (turn.below ++ leaving turn.child ∷ []) (turn'.below ++ leaving turn'.child ∷ []) = alike_append turn.below turn'.below (leaving turn.child ∷ []) (leaving turn'.child ∷ []) ys_ok (place, tt) in
      let es_ok : AlikeSteps turn.behind turn'.behind = subst (λ q. AlikeSteps turn.behind (ending_after p' r q after')) (sym e_scope) (ending_same p u g path r turn.scope after after' w a) in
      let e_past : turn'.past ≡ turn.past = ap (cursor_past p' r cursor) e_child ∙ ap (λ c. cursor_behind p.node.kind r cursor (on_leaving k c)) (after_same f node v below' turn.child.is_ambient turn.inner below below' same b) in
      let e_m : turn'.rest ≡ turn.rest = (λ i. e_next i + cond (opens k) 1 0 + scopes_same f below below' b i) in
      let ws_ok : AlikeSteps turn.others turn'.others =
      subst (λ q. AlikeSteps turn.others (steps_below p' q turn'.rest turn'.past after')) (sym e_scope)
      (subst (λ q. AlikeSteps turn.others (steps_below p' turn.scope q turn'.past after')) (sym e_m)
      (subst (λ q. AlikeSteps turn.others (steps_below p' turn.scope turn.rest q after')) (sym e_past) (steps_same p u g path turn.scope turn.rest turn.past after after' w a))) in
      alike_append (turn.before ++ turn.whole ++ turn.behind) (turn'.before ++ turn'.whole ++ turn'.behind) turn.others turn'.others
      (alike_append (turn.before ++ turn.whole) (turn'.before ++ turn'.whole) turn.behind turn'.behind
      (alike_append turn.before turn'.before turn.whole turn'.whole (opening_same p u g path r own n w) (place, zs_ok))
      es_ok)
      ws_ok
