-- The identifiers that a declarator or a parameter binds are entered, and only patterns stand between.
use Rattle.std.proofs.Common.{◌≡◌, ℕ, List, [], ◌∷◌, ◌++◌, Option, None, Bool, true, false, ◌&&◌, ◌||◌, not, cond, inl, inr, ◌⊎◌, refl, sym, ap, subst, ◌∙◌}
use Rattle.std.specs.List.{list_all}
use Rattle.semantic_syntax.proofs.Truth.{and_first, and_second}
use Rattle.semantic_kinds.specs.Classes.{is_pattern, is_of, holds_kind}
use Rattle.semantic_kinds.specs.Kinds.{same_kind}
use Rattle.semantic_kinds.specs.Parts.{parts}
use Rattle.semantic_kinds.specs.declared.class.Class.{Class}
use Rattle.semantic_kinds.specs.declared.class.Class.TheVariants as class
use Rattle.semantic_kinds.specs.declared.kind.AstType.{AstType}
use Rattle.semantic_kinds.specs.declared.kind.AstType.TheVariants as kind
use Rattle.semantic_kinds.specs.declared.part.Part.{Part}
use Rattle.semantic_kinds.specs.declared.role.Role.{Role}
use Rattle.semantic_tree.specs.Faults.{first_fault}
use Rattle.semantic_tree.specs.Forest.{Forest, nothing, tree}
use Rattle.semantic_tree.specs.Tree.{Tree}
use Rattle.semantic_tree.specs.Views.{is, is_role_of}
use Rattle.semantic_tree.specs.declared.node.Node.{Node}
use Rattle.semantic_model.specs.Cursor.{on_entering}
use Rattle.semantic_model.specs.EachStep.{EachStep}
use Rattle.semantic_model.specs.Entries.{Among}
use Rattle.semantic_model.specs.Names.{binding_roles, bound_below}
use Rattle.semantic_model.specs.Place.{Place, OpenScope}
use Rattle.semantic_model.specs.Step.{Step, entering, opening, header_ending, closing, leaving, steps_below, steps, root_place}
use Rattle.semantic_model.proofs.form.Clauses.{kind_is}
use Rattle.semantic_model.proofs.form.PartsHold.{passed_hold}
use Rattle.semantic_model.proofs.lists.Members.{among_left, among_right, among_cases}
use Rattle.semantic_model.proofs.steps.EachStep.{each_of_node, each_of_turn}
use Rattle.semantic_model.proofs.steps.Turn.{Turn, turn_at}
use Rattle.semantic_model.proofs.steps.TurnCases.{opening_case, ending_case, last_case}
use Rattle.walk_model.proofs.places.Shapes.{holds_below, tree_holds, only_is}
use Rattle.binding_laws.proofs.SmallLaws.{never}

-- ---- the shape

-- what stands in a pattern round its names
abbrev pub is_inner_pattern : AstType → Bool
is_inner_pattern k = holds_kind (kind.ObjectPattern ∷ kind.ArrayPattern ∷ kind.AssignmentPattern ∷ kind.BindingProperty ∷ kind.BindingRestElement ∷ []) k

abbrev pub holds_names : AstType → Bool
holds_names k = holds_kind (kind.VariableDeclarator ∷ kind.CatchParameter ∷ kind.FormalParameter ∷ kind.FormalParameterRest ∷ kind.ObjectPattern ∷ kind.ArrayPattern ∷ kind.AssignmentPattern ∷ kind.BindingProperty ∷ kind.BindingRestElement ∷ []) k

inner_holds : (k : AstType) → is_inner_pattern k ≡ true → holds_names k ≡ true
inner_holds kind.ObjectPattern h = refl
inner_holds kind.ArrayPattern h = refl
inner_holds kind.AssignmentPattern h = refl
inner_holds kind.BindingProperty h = refl
inner_holds kind.BindingRestElement h = refl
inner_holds _ h = absurd (never (sym h))

-- where names are bound, a name or a pattern stands
abbrev pub names_stand : AstType → Role → AstType → List ℕ → Bool
names_stand k r k2 text = not (holds_names k && is_role_of r (binding_roles k)) || (same_kind k2 kind.BindingIdentifier || is_inner_pattern k2)

gives_names : Class → Bool
gives_names class.Pattern = true
gives_names (class.Only k) = is_inner_pattern k
gives_names _ = false

names_part : AstType → List ℕ → Part → Bool
names_part k text part = not (holds_names k && is_role_of part.role (binding_roles k)) || gives_names part.class

all_names : (k : AstType) (text : List ℕ) → list_all (names_part k text) (parts k) ≡ true
unfolding names_part gives_names
all_names kind.Program text = refl
all_names _ text = refl

pattern_gives : (k : AstType) → is_pattern k ≡ true → (same_kind k kind.BindingIdentifier || is_inner_pattern k) ≡ true
pattern_gives kind.BindingIdentifier h = refl
pattern_gives kind.ObjectPattern h = refl
pattern_gives kind.ArrayPattern h = refl
pattern_gives kind.AssignmentPattern h = refl
pattern_gives _ h = absurd (never (sym h))

or_second : (a b : Bool) → b ≡ true → (a || b) ≡ true
or_second true b h = refl
or_second false b h = h

class_gives : (c : Class) (k2 : AstType) (text : List ℕ) → gives_names c ≡ true → is_of c k2 text ≡ true → (same_kind k2 kind.BindingIdentifier || is_inner_pattern k2) ≡ true
unfolding gives_names
class_gives class.Pattern k2 text h i = pattern_gives k2 i
class_gives (class.Only k) k2 text h i = or_second (same_kind k2 kind.BindingIdentifier) (is_inner_pattern k2) (subst (λ j. is_inner_pattern j ≡ true) (sym (kind_is k2 k (sym (only_is k k2 text) ∙ i))) h)
class_gives _ k2 text h i = absurd (never (sym h))

part_names : (k : AstType) (part : Part) (k2 : AstType) (text : List ℕ) → names_part k text part ≡ true → is_of part.class k2 text ≡ true → names_stand k part.role k2 text ≡ true
unfolding names_part
part_names k part k2 text h i = go (holds_names k && is_role_of part.role (binding_roles k)) (gives_names part.class) refl h
  where
    go : (a b : Bool) → gives_names part.class ≡ b → (not a || b) ≡ true → (not a || (same_kind k2 kind.BindingIdentifier || is_inner_pattern k2)) ≡ true
    go false b w v = refl
    go true true w v = class_gives part.class k2 text w i
    go true false w v = absurd (never (sym v))

pub tree_names : (p : Tree) → first_fault p ≡ None → holds_below names_stand p.root.kind p.root.children ≡ true
tree_names p h = tree_holds names_stand (λ k. passed_hold names_stand (names_part k) k (part_names k) (parts k) (all_names k)) p h

-- ---- between

-- the nodes above lead through patterns to those
abbrev pub Reaches : List Node → List Node → Type 0
Reaches [] goal = [] ≡ goal
Reaches (x ∷ path) goal = (x ∷ path ≡ goal) ⊎ ((is_inner_pattern x.kind ≡ true) × Reaches path goal)

reaches_itself : (path goal : List Node) → path ≡ goal → Reaches path goal
reaches_itself [] goal h = h
reaches_itself (x ∷ path) goal h = inl h

head_is : (x y : Node) (xs ys : List Node) → x ∷ xs ≡ y ∷ ys → x ≡ y
head_is x y xs ys h = cc

rest_is : (x y : Node) (xs ys : List Node) → x ∷ xs ≡ y ∷ ys → xs ≡ ys
rest_is x y xs ys h = cc

not_empty : (y : Node) (ys : List Node) → [] ≡ y ∷ ys → ⊥
not_empty y ys h = absurd cc

reaches_past : (path : List Node) (y : Node) (goal : List Node) → is_inner_pattern y.kind ≡ true → Reaches path (y ∷ goal) → Reaches path goal
reaches_past [] y goal k h = absurd (not_empty y goal h)
reaches_past (x ∷ path) y goal k (inl h) = inr (subst (λ z. is_inner_pattern z.kind ≡ true) (sym (head_is x y path goal h)) k, reaches_itself path goal (rest_is x y path goal h))
reaches_past (x ∷ path) y goal k (inr h) = inr (h.0, reaches_past path y goal k h.1)

module _ (all : List Step) where
  -- an identifier where it is entered
  pub record IsNamePlace (path : List Node) (i : Node) : Type 0 where
    pub place : Place
    pub entered : Among (entering place) all
    pub is_it : place.node ≡ i
    pub identifier : place.node.kind ≡ kind.BindingIdentifier
    pub reaches : Reaches place.path path

  past : (y : Node) (path : List Node) (i : Node) → is_inner_pattern y.kind ≡ true → IsNamePlace (y ∷ path) i → IsNamePlace path i
  past y path i k h = record { place = h.place; entered = h.entered; is_it = h.is_it; identifier = h.identifier; reaches = reaches_past h.place.path y path k h.reaches }

  pub names_below : (q : Place) (own : Option OpenScope) (n cursor : ℕ) (f : Forest) → ((st : Step) → Among st (steps_below q own n cursor f) → Among st all) → holds_names q.node.kind ≡ true → holds_below names_stand q.node.kind f ≡ true → (i : Node) → Among i (bound_below q.node.kind f) → IsNamePlace (q.node ∷ q.path) i
  names_below q own n cursor nothing g k h i a = absurd a
  names_below q own n cursor (tree r k2 span text marks below id after) g k h i a =
      let node : Node = record { kind = k2; span = span; text = text; marks = marks; children = below; node_id = id } in
      let turn : Turn = turn_at q own n cursor r node after in
      let in_whole : (st : Step) → Among st turn.whole → Among st all = λ st b.
      g st (among_left st (turn.before ++ turn.whole ++ turn.behind) turn.others (among_left st (turn.before ++ turn.whole) turn.behind (among_right st turn.before turn.whole b))) in
      let in_below : (st : Step) → Among st turn.below → Among st all = λ st b. in_whole st (inr (among_left st turn.below (leaving turn.child ∷ []) b)) in
      let in_others : (st : Step) → Among st turn.others → Among st all = λ st b. g st (among_right st (turn.before ++ turn.whole ++ turn.behind) turn.others b) in
      let more : (holds_below names_stand k2 below && holds_below names_stand q.node.kind after) ≡ true = and_second (names_stand q.node.kind r k2 text) (holds_below names_stand k2 below && holds_below names_stand q.node.kind after) h in
      let inside : is_inner_pattern k2 ≡ true → Among i (bound_below k2 below) → IsNamePlace (node ∷ q.node ∷ q.path) i = λ w b.
      names_below turn.child None turn.next turn.inner below in_below (inner_holds k2 w) (and_first (holds_below names_stand k2 below) (holds_below names_stand q.node.kind after) more) i b in
      let one : node ≡ i → same_kind k2 kind.BindingIdentifier ≡ true → IsNamePlace (q.node ∷ q.path) i = λ w b.
      record { place = turn.child; entered = in_whole (entering turn.child) (inl refl); is_it = w; identifier = kind_is k2 kind.BindingIdentifier b; reaches = inl refl } in
      elim (among_cases i (cond (is_role_of r (binding_roles q.node.kind)) (cond (is kind.BindingIdentifier node) (node ∷ []) (bound_below k2 below)) []) (bound_below q.node.kind after) a) [
        | inl b ↦ here q r node k (and_first (names_stand q.node.kind r k2 text) (holds_below names_stand k2 below && holds_below names_stand q.node.kind after) h) i inside one (is_role_of r (binding_roles q.node.kind)) refl b
        | inr b ↦ names_below q turn.scope turn.rest turn.past after in_others k (and_second (holds_below names_stand k2 below) (holds_below names_stand q.node.kind after) more) i b
      ]
    where
      here : (q : Place) (r : Role) (node : Node) → holds_names q.node.kind ≡ true → names_stand q.node.kind r node.kind text ≡ true → (i : Node) → (is_inner_pattern node.kind ≡ true → Among i (bound_below node.kind node.children) → IsNamePlace (node ∷ q.node ∷ q.path) i)
          → (node ≡ i → same_kind node.kind kind.BindingIdentifier ≡ true → IsNamePlace (q.node ∷ q.path) i) → (t : Bool) → is_role_of r (binding_roles q.node.kind) ≡ t → Among i (cond t (cond (same_kind node.kind kind.BindingIdentifier) (node ∷ []) (bound_below node.kind node.children)) []) → IsNamePlace (q.node ∷ q.path) i
      here q r node k h i inside one false w b = absurd b
      here q r node k h i inside one true w b = go (same_kind node.kind kind.BindingIdentifier) refl b
        where
          shape : (same_kind node.kind kind.BindingIdentifier || is_inner_pattern node.kind) ≡ true
          shape = subst (λ u. (not u || (same_kind node.kind kind.BindingIdentifier || is_inner_pattern node.kind)) ≡ true) (ap (λ u. u && is_role_of r (binding_roles q.node.kind)) k ∙ w) h

          go : (t : Bool) → same_kind node.kind kind.BindingIdentifier ≡ t → Among i (cond t (node ∷ []) (bound_below node.kind node.children)) → IsNamePlace (q.node ∷ q.path) i
          go true v (inl e) = one e v
          go true v (inr e) = absurd e
          go false v e = past node (q.node ∷ q.path) i (subst (λ u. (u || is_inner_pattern node.kind) ≡ true) v shape) (inside (subst (λ u. (u || is_inner_pattern node.kind) ≡ true) v shape) e)

  -- ---- the steps below a place, and the places above it

  pub record HasStepsBelow (q : Place) : Type 0 where
    pub number : ℕ
    pub includes : (st : Step) → Among st (steps_below q None number (on_entering q.node.kind q.cursor) q.node.children) → Among st all

  -- a node above with the nodes above it is entered
  pub record IsEnteredAs (x : Node) (path : List Node) : Type 0 where
    pub place : Place
    pub entered : Among (entering place) all
    pub node : place.node ≡ x
    pub above : place.path ≡ path

  abbrev pub AllEnteredAs : List Node → Type 0
  AllEnteredAs [] = Unit {0}
  AllEnteredAs (x ∷ path) = IsEnteredAs x path × AllEnteredAs path

  pub record IsAmidSteps (q : Place) : Type 0 where
    pub entered : Among (entering q) all
    pub below : HasStepsBelow q
    pub above : AllEnteredAs q.path

  abbrev pub AmidAt : Step → Type 0
  AmidAt (entering q) = IsAmidSteps q
  AmidAt (opening q o) = Unit {0}
  AmidAt (header_ending q o) = Unit {0}
  AmidAt (closing q o) = Unit {0}
  AmidAt (leaving q) = Unit {0}

  amid_steps : (q : Place) (own : Option OpenScope) (n cursor : ℕ) (f : Forest) → ((st : Step) → Among st (steps_below q own n cursor f) → Among st all) → IsAmidSteps q → EachStep AmidAt (steps_below q own n cursor f)
  amid_steps q own n cursor nothing g k = last_case (EachStep AmidAt) q own n tt (tt, (tt, tt))
  amid_steps q own n cursor (tree r k2 span text marks below id after) g k =
      let node : Node = record { kind = k2; span = span; text = text; marks = marks; children = below; node_id = id } in
      let turn : Turn = turn_at q own n cursor r node after in
      let in_whole : (st : Step) → Among st turn.whole → Among st all = λ st b.
      g st (among_left st (turn.before ++ turn.whole ++ turn.behind) turn.others (among_left st (turn.before ++ turn.whole) turn.behind (among_right st turn.before turn.whole b))) in
      let in_below : (st : Step) → Among st turn.below → Among st all = λ st b. in_whole st (inr (among_left st turn.below (leaving turn.child ∷ []) b)) in
      let child : IsAmidSteps turn.child = record {
        entered = in_whole (entering turn.child) (inl refl);
        below = record { number = turn.next; includes = in_below };
        above = (record { place = q; entered = k.entered; node = refl; above = refl }, k.above);
      } in
      each_of_turn AmidAt turn (record {
        before = opening_case (EachStep AmidAt) q r own n tt (tt, tt);
        whole = each_of_node AmidAt turn.child turn.below child (amid_steps turn.child None turn.next turn.inner below in_below child) tt;
        behind = ending_case (EachStep AmidAt) q r turn.scope after tt (λ s. (tt, tt)) (λ s. (tt, tt)) (λ s. (tt, (tt, tt)));
        others = amid_steps q turn.scope turn.rest turn.past after (λ st b. g st (among_right st (turn.before ++ turn.whole ++ turn.behind) turn.others b)) k;
      })

pub amid_program : (p : Tree) → EachStep (AmidAt (steps p)) (steps p)
amid_program p =
    let root : Place = root_place p in
    let n : ℕ = on_entering p.root.kind 0 in
    let below : List Step = steps_below root None 0 n p.root.children in
    let inside : (st : Step) → Among st below → Among st (steps p) = λ st a. inr (among_left st below (leaving root ∷ []) a) in
    let one : IsAmidSteps (steps p) root = record { entered = inl refl; below = record { number = 0; includes = inside }; above = tt } in
    each_of_node (AmidAt (steps p)) root below one (amid_steps (steps p) root None 0 n p.root.children inside one) tt

-- the shape of what is below each place
abbrev pub NamesStandAt : Step → Type 0
NamesStandAt (entering q) = holds_below names_stand q.node.kind q.node.children ≡ true
NamesStandAt (opening q o) = Unit {0}
NamesStandAt (header_ending q o) = Unit {0}
NamesStandAt (closing q o) = Unit {0}
NamesStandAt (leaving q) = Unit {0}

stand_steps : (q : Place) (own : Option OpenScope) (n cursor : ℕ) (f : Forest) → holds_below names_stand q.node.kind f ≡ true → EachStep NamesStandAt (steps_below q own n cursor f)
stand_steps q own n cursor nothing h = last_case (EachStep NamesStandAt) q own n tt (tt, (tt, tt))
stand_steps q own n cursor (tree r k2 span text marks below id after) h =
    let node : Node = record { kind = k2; span = span; text = text; marks = marks; children = below; node_id = id } in
    let turn : Turn = turn_at q own n cursor r node after in
    let more : (holds_below names_stand k2 below && holds_below names_stand q.node.kind after) ≡ true = and_second (names_stand q.node.kind r k2 text) (holds_below names_stand k2 below && holds_below names_stand q.node.kind after) h in
    let inner : holds_below names_stand k2 below ≡ true = and_first (holds_below names_stand k2 below) (holds_below names_stand q.node.kind after) more in
    each_of_turn NamesStandAt turn (record {
      before = opening_case (EachStep NamesStandAt) q r own n tt (tt, tt);
      whole = each_of_node NamesStandAt turn.child turn.below inner (stand_steps turn.child None turn.next turn.inner below inner) tt;
      behind = ending_case (EachStep NamesStandAt) q r turn.scope after tt (λ s. (tt, tt)) (λ s. (tt, tt)) (λ s. (tt, (tt, tt)));
      others = stand_steps q turn.scope turn.rest turn.past after (and_second (holds_below names_stand k2 below) (holds_below names_stand q.node.kind after) more);
    })

pub stand_program : (p : Tree) → first_fault p ≡ None → EachStep NamesStandAt (steps p)
stand_program p h =
    let root : Place = root_place p in
    let n : ℕ = on_entering p.root.kind 0 in
    each_of_node NamesStandAt root (steps_below root None 0 n p.root.children) (tree_names p h) (stand_steps root None 0 n p.root.children (tree_names p h)) tt
