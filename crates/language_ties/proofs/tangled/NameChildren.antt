-- The own names of functions, classes and imports are entered as children, and a declarator stands in a declaration.
use Rattle.std.proofs.Common.{◌≡◌, ℕ, List, [], ◌∷◌, ◌++◌, Option, None, Bool, true, false, ◌&&◌, ◌||◌, not, if◌then◌else◌, inl, inr, refl, sym, subst, ◌∙◌}
use Rattle.std.specs.List.{list_all}
use Rattle.std.proofs.lemmas.Bool.{and_from}
use Rattle.semantic_syntax.proofs.Truth.{and_first, and_second}
use Rattle.semantic_kinds.specs.Classes.{is_of, holds_kind}
use Rattle.semantic_kinds.specs.Kinds.{same_kind}
use Rattle.semantic_kinds.specs.Parts.{parts}
use Rattle.semantic_kinds.specs.Roles.{same_role}
use Rattle.semantic_kinds.specs.declared.kind.AstType.{AstType}
use Rattle.semantic_kinds.specs.declared.kind.AstType.TheVariants as kind
use Rattle.semantic_kinds.specs.declared.part.Part.{Part}
use Rattle.semantic_kinds.specs.declared.role.Role.{Role}
use Rattle.semantic_kinds.specs.declared.role.Role.TheVariants as role
use Rattle.semantic_tree.specs.Faults.{first_fault}
use Rattle.semantic_tree.specs.Forest.{Forest, nothing, tree}
use Rattle.semantic_tree.specs.Nodes.{trees, nodes_in}
use Rattle.semantic_tree.specs.Tree.{Tree}
use Rattle.semantic_tree.specs.declared.node.Node.{Node}
use Rattle.semantic_model.specs.Cursor.{on_entering}
use Rattle.semantic_model.specs.EachStep.{EachStep}
use Rattle.semantic_model.specs.Entries.{Among}
use Rattle.semantic_model.specs.Place.{Place, OpenScope}
use Rattle.semantic_model.specs.Step.{Step, entering, opening, header_ending, closing, leaving, steps_below, steps, root_place}
use Rattle.semantic_model.proofs.form.Clauses.{role_is, kind_is}
use Rattle.semantic_model.proofs.form.PartsHold.{passed_hold}
use Rattle.semantic_model.proofs.form.Shape.{has_form}
use Rattle.semantic_model.proofs.lists.Members.{among_left, among_right}
use Rattle.semantic_model.proofs.steps.EachStep.{each_of_node, each_of_turn}
use Rattle.semantic_model.proofs.steps.Turn.{Turn, turn_at}
use Rattle.semantic_model.proofs.steps.TurnCases.{opening_case, ending_case, last_case}
use Rattle.walk_model.proofs.places.Shapes.{holds_below, tree_holds, is_only, only_holds}
use Rattle.binding_laws.proofs.ListLaws.{each_at}
use Rattle.binding_laws.proofs.SmallLaws.{never}
use Rattle.language_ties.proofs.tangled.NamePlaces.{IsAmidSteps, AmidAt, amid_program}

-- ---- the shape

abbrev is_identifier : AstType → Bool
is_identifier k = same_kind k kind.BindingIdentifier

-- where a node has its own name
abbrev pub has_name_in : AstType → Role → Bool
has_name_in k r =
    (holds_kind (kind.Function ∷ kind.Class ∷ []) k && same_role r role.Id)
    || (holds_kind (kind.ImportSpecifier ∷ kind.ImportDefaultSpecifier ∷ kind.ImportNamespaceSpecifier ∷ []) k && same_role r role.Local)

-- an identifier is there, and declarators stand in declarations
abbrev pub is_named_child : AstType → Role → AstType → List ℕ → Bool
is_named_child k r k2 text = (not (has_name_in k r) || same_kind k2 kind.BindingIdentifier) && (not (same_kind k2 kind.VariableDeclarator) || same_kind k kind.VariableDeclaration)

named_part : AstType → List ℕ → Part → Bool
named_part k text part = (not (has_name_in k part.role) || is_only is_identifier part.class) && (not (is_of part.class kind.VariableDeclarator text) || same_kind k kind.VariableDeclaration)

all_named : (k : AstType) (text : List ℕ) → list_all (named_part k text) (parts k) ≡ true
unfolding named_part
all_named kind.Program text = refl
all_named _ text = refl

part_named : (k : AstType) (part : Part) (k2 : AstType) (text : List ℕ) → named_part k text part ≡ true → is_of part.class k2 text ≡ true → is_named_child k part.role k2 text ≡ true
unfolding named_part
part_named k part k2 text h i =
    and_from (not (has_name_in k part.role) || same_kind k2 kind.BindingIdentifier) (not (same_kind k2 kind.VariableDeclarator) || same_kind k kind.VariableDeclaration)
    (names (has_name_in k part.role) (is_only is_identifier part.class) refl (and_first (not (has_name_in k part.role) || is_only is_identifier part.class) _ h))
    (declarators (same_kind k2 kind.VariableDeclarator) refl (and_second (not (has_name_in k part.role) || is_only is_identifier part.class) _ h))
  where
    names : (a b : Bool) → is_only is_identifier part.class ≡ b → (not a || b) ≡ true → (not a || same_kind k2 kind.BindingIdentifier) ≡ true
    names false b w v = refl
    names true true w v = only_holds is_identifier part.class k2 text w i
    names true false w v = absurd (never (sym v))

    declarators : (t : Bool) → same_kind k2 kind.VariableDeclarator ≡ t → (not (is_of part.class kind.VariableDeclarator text) || same_kind k kind.VariableDeclaration) ≡ true → (not t || same_kind k kind.VariableDeclaration) ≡ true
    declarators false w v = refl
    declarators true w v = subst (λ b. (not b || same_kind k kind.VariableDeclaration) ≡ true) (subst (λ j. is_of part.class j text ≡ true) (kind_is k2 kind.VariableDeclarator w) i) v

tree_named : (p : Tree) → first_fault p ≡ None → holds_below is_named_child p.root.kind p.root.children ≡ true
tree_named p h = tree_holds is_named_child (λ k. passed_hold is_named_child (named_part k) k (part_named k) (parts k) (all_named k)) p h

-- ---- places

module _ (all : List Step) where
  -- a child in a role, where it is entered
  pub record IsRoleChild (q : Place) (r : Role) (m : Node) : Type 0 where
    pub place : Place
    pub entered : Among (entering place) all
    pub is_it : place.node ≡ m
    pub above : place.path ≡ q.node ∷ q.path
    pub fits : is_named_child q.node.kind r m.kind [] ≡ true

  in_role : (q : Place) (own : Option OpenScope) (n cursor : ℕ) (f : Forest) → ((st : Step) → Among st (steps_below q own n cursor f) → Among st all) → holds_below is_named_child q.node.kind f ≡ true → (r : Role) (m : Node) → Among m (nodes_in r (trees f)) → IsRoleChild q r m
  in_role q own n cursor nothing g h r m a = absurd a
  in_role q own n cursor (tree r k2 span text marks below id after) g h r0 m a =
      let node : Node = record { kind = k2; span = span; text = text; marks = marks; children = below; node_id = id } in
      let turn : Turn = turn_at q own n cursor r node after in
      let in_whole : (st : Step) → Among st turn.whole → Among st all = λ st b.
      g st (among_left st (turn.before ++ turn.whole ++ turn.behind) turn.others (among_left st (turn.before ++ turn.whole) turn.behind (among_right st turn.before turn.whole b))) in
      let in_others : (st : Step) → Among st turn.others → Among st all = λ st b. g st (among_right st (turn.before ++ turn.whole ++ turn.behind) turn.others b) in
      let first : is_named_child q.node.kind r k2 text ≡ true = and_first (is_named_child q.node.kind r k2 text) (holds_below is_named_child k2 below && holds_below is_named_child q.node.kind after) h in
      let more : (holds_below is_named_child k2 below && holds_below is_named_child q.node.kind after) ≡ true = and_second (is_named_child q.node.kind r k2 text) (holds_below is_named_child k2 below && holds_below is_named_child q.node.kind after) h in
      by q r0 m node r turn.child (in_whole (entering turn.child) (inl refl)) refl refl first (same_role r r0) refl a
      (λ b. in_role q turn.scope turn.rest turn.past after in_others (and_second (holds_below is_named_child k2 below) (holds_below is_named_child q.node.kind after) more) r0 m b)
    where
      by : (q : Place) (r0 : Role) (m node : Node) (r : Role) (z : Place) → Among (entering z) all → z.node ≡ node → z.path ≡ q.node ∷ q.path → is_named_child q.node.kind r node.kind [] ≡ true → (t : Bool) → same_role r r0 ≡ t → Among m (if t then node ∷ nodes_in r0 (trees after) else nodes_in r0 (trees after)) → (Among m (nodes_in r0 (trees after)) → IsRoleChild q r0 m) → IsRoleChild q r0 m
      by q r0 m node r z entered is above fits true w (inl i) later = record { place = z; entered = entered; is_it = is ∙ i; above = above; fits = subst (λ n. is_named_child q.node.kind r0 n.kind [] ≡ true) i (subst (λ s. is_named_child q.node.kind s node.kind [] ≡ true) (role_is r r0 w) fits) }
      by q r0 m node r z entered is above fits true w (inr i) later = later i
      by q r0 m node r z entered is above fits false w i later = later i

  -- below each place, and above each declarator
  pub record IsNamedPlace (q : Place) : Type 0 where
    pub below : holds_below is_named_child q.node.kind q.node.children ≡ true
    pub above : q.node.kind ≡ kind.VariableDeclarator → (y : Node) × (path : List Node) × (q.path ≡ y ∷ path) × (y.kind ≡ kind.VariableDeclaration)

  abbrev pub NamedAt : Step → Type 0
  NamedAt (entering q) = IsNamedPlace q
  NamedAt (opening q o) = Unit {0}
  NamedAt (header_ending q o) = Unit {0}
  NamedAt (closing q o) = Unit {0}
  NamedAt (leaving q) = Unit {0}

  named_steps : (q : Place) (own : Option OpenScope) (n cursor : ℕ) (f : Forest) → holds_below is_named_child q.node.kind f ≡ true → EachStep NamedAt (steps_below q own n cursor f)
  named_steps q own n cursor nothing h = last_case (EachStep NamedAt) q own n tt (tt, (tt, tt))
  named_steps q own n cursor (tree r k2 span text marks below id after) h =
      let node : Node = record { kind = k2; span = span; text = text; marks = marks; children = below; node_id = id } in
      let turn : Turn = turn_at q own n cursor r node after in
      let more : (holds_below is_named_child k2 below && holds_below is_named_child q.node.kind after) ≡ true = and_second (is_named_child q.node.kind r k2 text) (holds_below is_named_child k2 below && holds_below is_named_child q.node.kind after) h in
      let inner : holds_below is_named_child k2 below ≡ true = and_first (holds_below is_named_child k2 below) (holds_below is_named_child q.node.kind after) more in
      let first : is_named_child q.node.kind r k2 text ≡ true = and_first (is_named_child q.node.kind r k2 text) (holds_below is_named_child k2 below && holds_below is_named_child q.node.kind after) h in
      let child : IsNamedPlace turn.child = record {
        below = inner;
        above = λ w. (q.node, q.path, refl, kind_is q.node.kind kind.VariableDeclaration (in_declaration q.node.kind k2 w (and_second (not (has_name_in q.node.kind r) || same_kind k2 kind.BindingIdentifier) (not (same_kind k2 kind.VariableDeclarator) || same_kind q.node.kind kind.VariableDeclaration) first)));
      } in
      each_of_turn NamedAt turn (record {
        before = opening_case (EachStep NamedAt) q r own n tt (tt, tt);
        whole = each_of_node NamedAt turn.child turn.below child (named_steps turn.child None turn.next turn.inner below inner) tt;
        behind = ending_case (EachStep NamedAt) q r turn.scope after tt (λ s. (tt, tt)) (λ s. (tt, tt)) (λ s. (tt, (tt, tt)));
        others = named_steps q turn.scope turn.rest turn.past after (and_second (holds_below is_named_child k2 below) (holds_below is_named_child q.node.kind after) more);
      })
    where
      in_declaration : (k k2 : AstType) → k2 ≡ kind.VariableDeclarator → (not (same_kind k2 kind.VariableDeclarator) || same_kind k kind.VariableDeclaration) ≡ true → same_kind k kind.VariableDeclaration ≡ true
      in_declaration k k2 w h = subst (λ j. (not (same_kind j kind.VariableDeclarator) || same_kind k kind.VariableDeclaration) ≡ true) w h

pub named_program : (p : Tree) → first_fault p ≡ None → EachStep (NamedAt (steps p)) (steps p)
named_program p h =
    let root : Place = root_place p in
    let n : ℕ = on_entering p.root.kind 0 in
    let one : IsNamedPlace (steps p) root = record { below = tree_named p h; above = λ w. absurd (no_root (sym (has_form p h).root ∙ w)) } in
    each_of_node (NamedAt (steps p)) root (steps_below root None 0 n p.root.children) one (named_steps (steps p) root None 0 n p.root.children (tree_named p h)) tt
  where
    no_root : kind.Program ≡ kind.VariableDeclarator → ⊥
    no_root i = absurd cc

-- the name in a role, where it is entered
pub name_child : (p : Tree) → first_fault p ≡ None → (q : Place) → Among (entering q) (steps p) → (r : Role) (m : Node) → Among m (nodes_in r (trees q.node.children)) → IsRoleChild (steps p) q r m
name_child p h q a r m i =
    let amid : IsAmidSteps (steps p) q = each_at (AmidAt (steps p)) (steps p) (entering q) (amid_program p) a in
    let named : IsNamedPlace (steps p) q = each_at (NamedAt (steps p)) (steps p) (entering q) (named_program p h) a in
    in_role (steps p) q None amid.below.number (on_entering q.node.kind q.cursor) q.node.children amid.below.includes named.below r m i
