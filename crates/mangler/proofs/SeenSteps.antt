-- What the steps of a program tell of names, told by the nodes of its tree.
use Rattle.std.proofs.Common.{◌≡◌, ℕ, List, [], ◌∷◌, ◌++◌, Option, Some, None, Bool, true, false, ◌&&◌, ◌||◌, cond, bytes_eq, refl, sym, ap, ◌∙◌}
use Rattle.std.specs.List.{list_any}
use Rattle.std.proofs.lemmas.Bool.Decides.{same_from_decides}
use Rattle.std.proofs.lemmas.Slice.Eq.{bytes_eq-Decides}
use Rattle.semantic_kinds.specs.Classes.{holds_kind}
use Rattle.semantic_kinds.specs.Roles.{same_role}
use Rattle.semantic_tree.specs.Rules.{is_that_kind}
use Rattle.semantic_kinds.specs.declared.kind.AstType.{AstType}
use Rattle.semantic_kinds.specs.declared.kind.AstType.TheVariants as kind
use Rattle.semantic_kinds.specs.declared.role.Role.TheVariants as role
use Rattle.semantic_syntax.specs.Members.{contains}
use Rattle.semantic_syntax.specs.Tables.{Name}
use Rattle.semantic_tree.specs.Forest.{Forest, nothing, tree}
use Rattle.semantic_tree.specs.Tree.{Tree}
use Rattle.semantic_tree.specs.Views.{is}
use Rattle.semantic_tree.specs.declared.node.Node.{Node}
use Rattle.semantic_model.specs.Cursor.{on_entering}
use Rattle.semantic_model.specs.Place.{Place, OpenScope, parent_holds}
use Rattle.semantic_model.specs.Step.{Step, entering, steps_below, steps, root_place}
use Rattle.semantic_model.proofs.steps.Turn.{Turn, turn_at}
use Rattle.mangle_model.specs.MayMangle.{is_predicate, fixes_symbol, is_property_parameter, is_parameter_property}
use Rattle.mangler.specs.Predicates.{predicate_at, predicates_below, predicates_from}
use Rattle.mangler.specs.Spots.{child_spot, names_property, is_jsx_element, names_element_or_property, seen_at, seen_below, seen_from}
use Rattle.mangler.specs.declared.spot.Spot.{Spot}
use Rattle.mangler.proofs.AnyOf.{any_append, any_turn, any_root, none_open, none_last, none_ended}

bytes_flip : (a b : List ℕ) → bytes_eq a b ≡ bytes_eq b a
bytes_flip a b =
    same_from_decides {P = b ≡ a} (bytes_eq a b) (bytes_eq b a) ((λ e. sym ((bytes_eq-Decides a b).0 e)), (λ e. (bytes_eq-Decides a b).1 (sym e))) (bytes_eq-Decides b a)

-- ---- type predicates

module _ (q : Name) where
  abbrev named : Step → Bool
  named = is_predicate q

  abbrev any : List Step → Bool
  any ss = list_any named ss

  abbrev among : List Name → Bool
  among names = list_any (bytes_eq q) names

  own_name : (a b : Bool) (text : Name) → (a && (bytes_eq text q && b)) ≡ among (cond (b && a) (text ∷ []) [])
  own_name true true text = flipped (bytes_eq text q) (bytes_eq q text) (bytes_flip text q)
    where
      flipped : (x y : Bool) → x ≡ y → (x && true) ≡ (y || false)
      flipped true y e = ap (λ b. b || false) e
      flipped false y e = ap (λ b. b || false) e
  own_name true false text = dropped (bytes_eq text q)
    where
      dropped : (x : Bool) → (x && false) ≡ false
      dropped true = refl
      dropped false = refl
  own_name false true text = refl
  own_name false false text = refl

  named_below : (p : Place) (own : Option OpenScope) (n cursor : ℕ) (f : Forest) → any (steps_below p own n cursor f) ≡ among (predicates_below (is kind.TSTypePredicate p.node) f)
  named_below p own n cursor nothing = none_last named (λ p s. refl) (λ p s. refl) (λ p s. refl) (λ p. refl) p own n
  named_below p own n cursor (tree r k span text marks below id after) =
      let node : Node = record { kind = k; span = span; text = text; marks = marks; children = below; node_id = id } in
      let parts : Turn = turn_at p own n cursor r node after in
      let inside : Bool = is kind.TSTypePredicate p.node in
      any_turn named (λ p s. refl) (λ p s. refl) (λ p s. refl) (λ p. refl) parts.before parts.below parts.behind parts.others parts.child
      (none_open named (λ p s. refl) (λ p s. refl) (λ p s. refl) (λ p. refl) p r own n) (none_ended named (λ p s. refl) (λ p s. refl) (λ p s. refl) (λ p. refl) p r parts.scope after)
      ∙ (λ i. (own_name (is kind.IdentifierName node) inside text i || named_below parts.child None parts.next parts.inner below i) || named_below p parts.scope parts.rest parts.past after i)
      ∙ sym (any_append (bytes_eq q) (predicate_at inside node ++ predicates_below (is kind.TSTypePredicate node) below) (predicates_below inside after)
      ∙ ap (λ b. b || among (predicates_below inside after)) (any_append (bytes_eq q) (predicate_at inside node) (predicates_below (is kind.TSTypePredicate node) below)))

  pub named_in_tree : (p : Tree) → list_any (is_predicate q) (steps p) ≡ list_any (bytes_eq q) (predicates_from false p.root)
  named_in_tree p =
      let below : List Step = steps_below (root_place p) None 0 (on_entering p.root.kind 0) p.root.children in
      any_root named (λ p s. refl) (λ p s. refl) (λ p s. refl) (λ p. refl) (root_place p) below
      ∙ (λ i. own_name (is kind.IdentifierName p.root) false p.root.text i || named_below (root_place p) None 0 (on_entering p.root.kind 0) p.root.children i)
      ∙ sym (any_append (bytes_eq q) (predicate_at false p.root) (predicates_below (is kind.TSTypePredicate p.root) p.root.children))

-- ---- nodes whose names others see

abbrev parent_kind : List Node → Option AstType
parent_kind [] = None
parent_kind (x ∷ xs) = Some x.kind

-- where the node stands
abbrev spot_of : Place → Spot
spot_of p = record { role = p.role; parent = parent_kind p.path; in_property = parent_holds is_property_parameter p.path; names_property = is_parameter_property p.path }

target : (path : List Node) → parent_holds (is kind.AssignmentTargetPropertyIdentifier) path ≡ is_that_kind (parent_kind path) kind.AssignmentTargetPropertyIdentifier
target [] = refl
target (x ∷ xs) = refl

element : (path : List Node) → parent_holds (λ x. holds_kind (kind.JSXOpeningElement ∷ kind.JSXClosingElement ∷ []) x.kind) path ≡ is_jsx_element (parent_kind path)
element [] = refl
element (x ∷ xs) = refl

module _ (exported : List ℕ) (chosen : ℕ → Bool) where
  abbrev fixes : Step → Bool
  fixes = fixes_symbol exported chosen

  abbrev any_fixes : List Step → Bool
  any_fixes ss = list_any fixes ss

  abbrev any_chosen : List ℕ → Bool
  any_chosen ids = list_any chosen ids

  own_id : (c t : Bool) → (c && t) ≡ cond t (c || false) false
  own_id true true = refl
  own_id true false = refl
  own_id false true = refl
  own_id false false = refl

  into_list : (t : Bool) (id : ℕ) → cond t (chosen id || false) false ≡ any_chosen (cond t (id ∷ []) [])
  into_list true id = refl
  into_list false id = refl

  here : (p : Place) → fixes (entering p) ≡ any_chosen (seen_at (contains exported) (spot_of p) p.node)
  here p =
      let id : ℕ = p.node.node_id in
      let seen : Bool = names_property (spot_of p) p.node.kind || (contains exported id || names_element_or_property (spot_of p)) in
      (λ i. chosen id && ((is kind.TSEnumMember p.node || (same_role p.role role.Binding && target p.path i)) || (contains exported id || ((same_role p.role role.Name && element p.path i) || is_parameter_property p.path))))
      ∙ own_id (chosen id) seen
      ∙ into_list seen id

  fixed_below : (p : Place) (own : Option OpenScope) (n cursor : ℕ) (f : Forest) → any_fixes (steps_below p own n cursor f) ≡ any_chosen (seen_below (contains exported) (spot_of p) p.node f)
  fixed_below p own n cursor nothing = none_last fixes (λ p s. refl) (λ p s. refl) (λ p s. refl) (λ p. refl) p own n
  fixed_below p own n cursor (tree r k span text marks below id after) =
      let node : Node = record { kind = k; span = span; text = text; marks = marks; children = below; node_id = id } in
      let parts : Turn = turn_at p own n cursor r node after in
      let there : Spot = child_spot (spot_of p) p.node r in
      any_turn fixes (λ p s. refl) (λ p s. refl) (λ p s. refl) (λ p. refl) parts.before parts.below parts.behind parts.others parts.child
      (none_open fixes (λ p s. refl) (λ p s. refl) (λ p s. refl) (λ p. refl) p r own n) (none_ended fixes (λ p s. refl) (λ p s. refl) (λ p s. refl) (λ p. refl) p r parts.scope after)
      ∙ (λ i. (here parts.child i || fixed_below parts.child None parts.next parts.inner below i) || fixed_below p parts.scope parts.rest parts.past after i)
      ∙ sym (any_append chosen (seen_at (contains exported) there node ++ seen_below (contains exported) there node below) (seen_below (contains exported) (spot_of p) p.node after)
      ∙ ap (λ b. b || any_chosen (seen_below (contains exported) (spot_of p) p.node after)) (any_append chosen (seen_at (contains exported) there node) (seen_below (contains exported) there node below)))

  pub fixed_in_tree : (p : Tree) (spot : Spot) → spot ≡ record { role = role.Root; parent = None; in_property = false; names_property = false }
      → list_any (fixes_symbol exported chosen) (steps p) ≡ list_any chosen (seen_from (contains exported) spot p.root)
  fixed_in_tree p spot root =
      let below : List Step = steps_below (root_place p) None 0 (on_entering p.root.kind 0) p.root.children in
      any_root fixes (λ p s. refl) (λ p s. refl) (λ p s. refl) (λ p. refl) (root_place p) below
      ∙ (λ i. here (root_place p) i || fixed_below (root_place p) None 0 (on_entering p.root.kind 0) p.root.children i)
      ∙ sym (any_append chosen (seen_at (contains exported) (spot_of (root_place p)) p.root) (seen_below (contains exported) (spot_of (root_place p)) p.root p.root.children))
      ∙ ap (λ (s : Spot). any_chosen (seen_from (contains exported) s p.root)) (sym root)
