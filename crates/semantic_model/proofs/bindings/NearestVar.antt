-- The nearest var scope of each scope of a program, by the scope's number.
use Rattle.std.proofs.Common.{◌≡◌, ℕ, suc, ◌+◌, List, [], ◌∷◌, ◌++◌, Option, Some, None, Bool, true, false, cond, refl, sym, ap, subst, ◌∙◌, arith, zero-add}
use Rattle.std.specs.Prelude.{slice_get}
use Rattle.semantic_tree.specs.Forest.{Forest, nothing, tree}
use Rattle.semantic_tree.specs.Tree.{Tree}
use Rattle.semantic_tree.specs.declared.node.Node.{Node}
use Rattle.semantic_kinds.specs.declared.kind.AstType.TheVariants as kind
use Rattle.semantic_kinds.specs.declared.role.Role.{Role}
use Rattle.semantic_model.specs.Place.{Place, OpenScope, outside}
use Rattle.semantic_model.specs.Inside.{opens, is_inside, is_in_header, is_parameter_decorator, scopes_in}
use Rattle.semantic_model.specs.ScopeKind.{opened_scope}
use Rattle.semantic_model.specs.Cursor.{on_entering}
use Rattle.semantic_model.specs.Declaration.{passed_before, first_with, route_from, outward_to}
use Rattle.semantic_model.specs.Binder.{is_var}
use Rattle.semantic_model.specs.Step.{Step, entering, opening, header_ending, closing, leaving, steps_below, steps_of, steps, root_place, opening_at, ending_after, scope_at, next_at, child_place, child_scopes, cursor_past}
use Rattle.semantic_model.proofs.steps.Turn.{Turn, turn_at}
use Rattle.semantic_model.proofs.steps.TurnCases.{opening_case, ending_case, last_case}
use Rattle.semantic_model.proofs.steps.EachStep.{EachStep, each_of_node, each_of_turn}
use Rattle.semantic_model.proofs.steps.OpenedFrom.{OpenedFrom, OpenedRound, opened_left, opened_round}

-- the nearest var scope from the innermost outward, or the innermost itself where there is none
abbrev pub var_scope : List OpenScope → ℕ
var_scope chain = (outward_to is_var chain).target.number

-- the nearest var scopes of those that the steps open
abbrev pub var_scopes : List Step → List ℕ
var_scopes [] = []
var_scopes (opening p s ∷ more) = var_scope (s ∷ p.chain) ∷ var_scopes more
var_scopes (entering p ∷ more) = var_scopes more
var_scopes (header_ending p s ∷ more) = var_scopes more
var_scopes (closing p s ∷ more) = var_scopes more
var_scopes (leaving p ∷ more) = var_scopes more

abbrev number_or_zero : Option ℕ → ℕ
number_or_zero None = 0
number_or_zero (Some n) = n

-- the nearest var scope of scope c
abbrev pub nearest : Tree → ℕ → ℕ
nearest p c = number_or_zero (slice_get (var_scopes (steps p)) c)

module _ (v : ℕ → ℕ) where
  -- v gives the nearest var scope of each scope of the chain
  abbrev pub AllNear : List OpenScope → Type 0
  AllNear [] = Unit {0}
  AllNear (s ∷ ss) = (v s.number ≡ var_scope (s ∷ ss)) × AllNear ss

  -- and of a scope that opens with number n
  abbrev IsNear : ℕ → Place → OpenScope → Type 0
  IsNear n p s = v n ≡ var_scope (s ∷ p.chain)

  -- so it is at each place that is entered
  abbrev pub IsPlaceNear : Step → Type 0
  IsPlaceNear (entering p) = AllNear p.chain
  IsPlaceNear (opening p s) = Unit {0}
  IsPlaceNear (header_ending p s) = Unit {0}
  IsPlaceNear (closing p s) = Unit {0}
  IsPlaceNear (leaving p) = Unit {0}

  abbrev pub AllPlacesNear : List Step → Type 0
  AllPlacesNear = EachStep IsPlaceNear

  -- the own scope of a place, once it is open
  abbrev OwnNear : Place → Option OpenScope → Type 0
  OwnNear p None = Unit {0}
  OwnNear p (Some s) = v s.number ≡ var_scope (s ∷ p.chain)

  own_near : (p : Place) (r : Role) (own : Option OpenScope) (n : ℕ) → OwnNear p own → OpenedFrom IsNear n (opening_at p r own n) → OwnNear p (scope_at p r own n)
  own_near p r (Some s) n h b = h
  own_near p r None n h b = go (is_inside p.node.kind r) b
    where
      go : (t : Bool) → OpenedFrom IsNear n (cond t (opening p (opened_scope p n) ∷ []) []) → OwnNear p (cond t (Some (opened_scope p n)) None)
      go true q = q.0
      go false q = tt

  -- a header changes no number
  header_number : (s : OpenScope) (b : Bool) (ss : List OpenScope) → var_scope (record s { in_header = b } ∷ ss) ≡ var_scope (s ∷ ss)
  header_number s b ss = go (is_var s) (first_with is_var ss)
    where
      t : OpenScope
      t = record s { in_header = b }

      go : (x : Bool) (o : Option OpenScope) → (route_from (t ∷ ss) (cond x [] (t ∷ passed_before is_var ss)) (cond x (Some t) o)).target.number ≡ (route_from (s ∷ ss) (cond x [] (s ∷ passed_before is_var ss)) (cond x (Some s) o)).target.number
      go true o = refl
      go false None = refl
      go false (Some r) = refl

  outside_near : (ss : List OpenScope) → AllNear ss → AllNear (outside ss)
  outside_near [] h = tt
  outside_near (s ∷ ss) h = h.1

  within_near : (p : Place) (r : Role) (own : Option OpenScope) → AllNear p.chain → OwnNear p own → AllNear (child_scopes p r own)
  within_near p r None a o = a
  within_near p r (Some s) a o = go (is_inside p.node.kind r)
    where
      go : (t : Bool) → AllNear (cond t (record s { in_header = is_in_header p.node.kind r } ∷ p.chain) p.chain)
      go true = (o ∙ sym (header_number s (is_in_header p.node.kind r) p.chain), a)
      go false = a

  child_near : (p : Place) (own : Option OpenScope) (cursor : ℕ) (r : Role) (node : Node) → AllNear p.chain → OwnNear p own → AllNear (child_place p own cursor r node).chain
  child_near p own cursor r node a o = go (is_parameter_decorator p.node.kind r)
    where
      go : (t : Bool) → AllNear (cond t (outside p.chain) (child_scopes p r own))
      go true = outside_near p.chain a
      go false = within_near p r own a o

  near_steps : (p : Place) (own : Option OpenScope) (n cursor : ℕ) (f : Forest) → AllNear p.chain → OwnNear p own → OpenedFrom IsNear n (steps_below p own n cursor f) → AllPlacesNear (steps_below p own n cursor f)
  near_steps p own n cursor nothing a o b = last_case AllPlacesNear p own n tt (tt, (tt, tt))
  near_steps p own n cursor (tree r k span text marks below id after) a o b =
      let node : Node = record { kind = k; span = span; text = text; marks = marks; children = below; node_id = id } in
      let turn : Turn = turn_at p own n cursor r node after in
      let near : OpenedRound IsNear n turn = opened_round IsNear p own n cursor r node after b in
      let o_scope : OwnNear p turn.scope = own_near p r own n o near.before in
      let chain_near : AllNear turn.child.chain = child_near p turn.scope cursor r node a o_scope in
      each_of_turn IsPlaceNear turn (record {
        before = opening_case AllPlacesNear p r own n tt (tt, tt);
        whole = each_of_node IsPlaceNear turn.child turn.below chain_near (near_steps turn.child None turn.next turn.inner below chain_near tt near.below) tt;
        behind = ending_case AllPlacesNear p r turn.scope after tt (λ s. (tt, tt)) (λ s. (tt, tt)) (λ s. (tt, (tt, tt)));
        others = near_steps p turn.scope turn.rest turn.past after a o_scope near.others;
      })

near_at : (table : List ℕ) (n : ℕ) (ss : List Step) → ((i : ℕ) → slice_get table (n + i) ≡ slice_get (var_scopes ss) i) → OpenedFrom (IsNear (λ c. number_or_zero (slice_get table c))) n ss
near_at table n [] h = tt
near_at table n (opening p s ∷ more) h =
    (ap number_or_zero (subst (λ m. slice_get table m ≡ Some (var_scope (s ∷ p.chain))) (omega arith) (h 0)), near_at table (suc n) more (λ i. subst (λ m. slice_get table m ≡ slice_get (var_scopes more) i) (omega arith) (h (suc i))))
near_at table n (entering p ∷ more) h = near_at table n more h
near_at table n (header_ending p s ∷ more) h = near_at table n more h
near_at table n (closing p s ∷ more) h = near_at table n more h
near_at table n (leaving p ∷ more) h = near_at table n more h

-- the nearest var scopes of a program
pub places_near : (p : Tree) → AllPlacesNear (nearest p) (steps p)
places_near p =
    let root : Place = root_place p in
    let n : ℕ = on_entering p.root.kind 0 in
    let all : OpenedFrom (IsNear (nearest p)) 0 (steps p) = near_at (var_scopes (steps p)) 0 (steps p) (λ i. ap (slice_get (var_scopes (steps p))) (zero-add i)) in
    let below : List Step = steps_below root None 0 n p.root.children in
    each_of_node (IsPlaceNear (nearest p)) root below tt (near_steps (nearest p) root None 0 n p.root.children tt tt (opened_left (IsNear (nearest p)) 0 below (leaving root ∷ []) all)) tt

alone : (s : OpenScope) → var_scope (s ∷ []) ≡ s.number
alone s = go (is_var s)
  where
    go : (x : Bool) → (route_from (s ∷ []) (cond x [] (s ∷ [])) (cond x (Some s) None)).target.number ≡ s.number
    go true = refl
    go false = refl

root_scope : (p : Place) (cursor : ℕ) (f : Forest) (more : List Step) → p.chain ≡ [] → p.node.kind ≡ kind.Program → slice_get (var_scopes (steps_below p None 0 cursor f ++ more)) 0 ≡ Some 0
root_scope p cursor nothing more c e = go (opens p.node.kind) (subst (λ k. opens k ≡ true) (sym e) refl)
  where
    s : OpenScope
    s = opened_scope p 0

    go : (b : Bool) → b ≡ true → slice_get (var_scopes (cond b (opening p s ∷ closing p s ∷ []) [] ++ more)) 0 ≡ Some 0
    go true h = ap Some (ap (λ ss. var_scope (s ∷ ss)) c ∙ alone s)
    go false h = absurd cc
root_scope p cursor (tree r k span text marks below id after) more c e = go (is_inside p.node.kind r) (subst (λ j. is_inside j r ≡ true) (sym e) refl)
  where
    s : OpenScope
    s = opened_scope p 0

    scope : Option OpenScope
    scope = scope_at p r None 0

    child : Place
    child = child_place p scope cursor r (record { kind = k; span = span; text = text; marks = marks; children = below; node_id = id })

    next : ℕ
    next = next_at p r None 0

    go : (b : Bool) → b ≡ true → slice_get (var_scopes (cond b (opening p s ∷ []) [] ++ steps_of child next ++ ending_after p r scope after ++ steps_below p scope (next + cond (opens k) 1 0 + scopes_in below) (cursor_past p r cursor child) after ++ more)) 0 ≡ Some 0
    go true h = ap Some (ap (λ ss. var_scope (s ∷ ss)) c ∙ alone s)
    go false h = absurd cc

-- the root's scope has number 0
pub nearest_root : (p : Tree) → p.root.kind ≡ kind.Program → nearest p 0 ≡ 0
nearest_root p e = ap number_or_zero (root_scope (root_place p) (on_entering p.root.kind 0) p.root.children (leaving (root_place p) ∷ []) refl e)
