-- The body of an enum stands in an enum, as its one body, and the parameter of an index signature in one.
use Rattle.std.proofs.Common.{◌≡◌, ℕ, List, [], ◌∷◌, ◌++◌, Option, Some, None, Bool, true, false, ◌&&◌, ◌||◌, not, if◌then◌else◌, length, refl, sym, ap, subst, ◌∙◌, inl, inr, arith}
use Rattle.std.specs.List.{list_all}
use denote.Enum.Bare.{true_same}
use Rattle.std.proofs.lemmas.Bool.{eqb-true, and_from}
use Rattle.std.proofs.lemmas.List.{append-nil}
use Rattle.semantic_syntax.proofs.Truth.{and_first, and_second}
use Rattle.semantic_kinds.specs.Classes.{is_of}
use Rattle.semantic_kinds.specs.Kinds.{same_kind}
use Rattle.semantic_kinds.specs.Parts.{parts}
use Rattle.semantic_kinds.specs.Roles.{same_role}
use Rattle.semantic_kinds.specs.contracts.role.Role.{the_type as the_roles}
use Rattle.semantic_kinds.specs.declared.class.Class.TheVariants as class
use Rattle.semantic_kinds.specs.declared.part.Count.TheVariants as count
use Rattle.semantic_kinds.specs.declared.part.Part.{Part}
use Rattle.semantic_kinds.specs.declared.kind.AstType.{AstType}
use Rattle.semantic_kinds.specs.declared.kind.AstType.TheVariants as kind
use Rattle.semantic_kinds.specs.declared.role.Role.{Role}
use Rattle.semantic_kinds.specs.declared.role.Role.TheVariants as role
use Rattle.semantic_tree.specs.Faults.{first_fault}
use Rattle.semantic_tree.specs.Fit.{AreInRole, allows, all_of, fit, Fit}
use Rattle.semantic_tree.specs.Forest.{Forest, nothing, tree}
use Rattle.semantic_tree.specs.Nodes.{trees, nodes_in, first_of}
use Rattle.semantic_tree.specs.Place as formed
use Rattle.semantic_tree.specs.Rules.{is_well_formed}
use Rattle.semantic_tree.specs.Tree.{Tree}
use Rattle.semantic_tree.specs.Views.{child_of}
use Rattle.semantic_tree.specs.declared.node.Node.{Node}
use Rattle.semantic_tree.specs.declared.place.Place as formed_place
use Rattle.semantic_tree.proofs.FitLaws.{fit-Fit}
use Rattle.semantic_model.specs.Cursor.{on_entering}
use Rattle.semantic_model.specs.EachStep.{EachStep}
use Rattle.semantic_model.specs.Entries.{Among}
use Rattle.semantic_model.specs.Place.{Place, OpenScope}
use Rattle.semantic_model.specs.Step.{Step, entering, opening, header_ending, closing, leaving, steps, steps_below, root_place}
use Rattle.semantic_model.proofs.form.Clauses.{kind_is, role_is}
use Rattle.semantic_model.proofs.form.PartsHold.{passed_hold}
use Rattle.semantic_model.proofs.form.Shape.{NoneMisshapen, first_formed, rest_formed, table_kept, fit_kept, none_misshapen}
use Rattle.semantic_model.proofs.steps.EachStep.{EachOfTurn, each_left, each_of_node, each_of_turn, turn_of_each}
use Rattle.semantic_model.proofs.steps.Turn.{Turn, turn_at}
use Rattle.semantic_model.proofs.steps.TurnCases.{opening_case, ending_case, last_case}
use Rattle.walk_model.proofs.places.Shapes.{holds_below, tree_holds}
use Rattle.binding_laws.proofs.ListLaws.{each_at}
use Rattle.binding_laws.proofs.SmallLaws.{never}
use Rattle.typescript_ties.proofs.UndeclaredFree.{OfEntered, IsEnteredIn, all_entered}

-- ---- the shape

abbrev is_enum_child : AstType → Role → AstType → List ℕ → Bool
is_enum_child k r k2 text =
    (not (same_kind k2 kind.TSEnumBody) || (same_kind k kind.TSEnumDeclaration && same_role r role.Body))
    && (not (same_kind k2 kind.TSIndexSignatureName) || same_kind k kind.TSIndexSignature)

enum_part : AstType → List ℕ → Part → Bool
enum_part k text part =
    (not (is_of part.class kind.TSEnumBody text) || (same_kind k kind.TSEnumDeclaration && same_role part.role role.Body))
    && (not (is_of part.class kind.TSIndexSignatureName text) || same_kind k kind.TSIndexSignature)

all_enums : (k : AstType) (text : List ℕ) → list_all (enum_part k text) (parts k) ≡ true
unfolding enum_part
all_enums kind.Program text = refl
all_enums _ text = refl

part_enums : (k : AstType) (part : Part) (k2 : AstType) (text : List ℕ) → enum_part k text part ≡ true → is_of part.class k2 text ≡ true → is_enum_child k part.role k2 text ≡ true
unfolding enum_part
part_enums k part k2 text h i =
    and_from (not (same_kind k2 kind.TSEnumBody) || in_enum) (not (same_kind k2 kind.TSIndexSignatureName) || in_signature)
    (of_kind kind.TSEnumBody in_enum (same_kind k2 kind.TSEnumBody) refl (and_first (not (is_of part.class kind.TSEnumBody text) || in_enum) (not (is_of part.class kind.TSIndexSignatureName text) || in_signature) h))
    (of_kind kind.TSIndexSignatureName in_signature (same_kind k2 kind.TSIndexSignatureName) refl (and_second (not (is_of part.class kind.TSEnumBody text) || in_enum) (not (is_of part.class kind.TSIndexSignatureName text) || in_signature) h))
  where
    in_enum : Bool
    in_enum = same_kind k kind.TSEnumDeclaration && same_role part.role role.Body

    in_signature : Bool
    in_signature = same_kind k kind.TSIndexSignature

    of_kind : (j : AstType) (c t : Bool) → same_kind k2 j ≡ t → (not (is_of part.class j text) || c) ≡ true → (not t || c) ≡ true
    of_kind j c false w v = refl
    of_kind j c true w v = subst (λ b. (not b || c) ≡ true) (subst (λ z. is_of part.class z text ≡ true) (kind_is k2 j w) i) v

tree_enums : (p : Tree) → first_fault p ≡ None → holds_below is_enum_child p.root.kind p.root.children ≡ true
tree_enums p h = tree_holds is_enum_child (λ k. passed_hold is_enum_child (enum_part k) k (part_enums k) (parts k) (all_enums k)) p h

-- of two parts with one child each, the second is the first in its role
second_of_two : (p q : Part) (cs : List (Role × Node)) (x : Node) → p.count ≡ count.One → q.count ≡ count.One → same_role p.role q.role ≡ false → fit (p ∷ q ∷ []) cs ≡ true → Among x (nodes_in q.role cs) → first_of (nodes_in q.role cs) ≡ Some x
second_of_two p q cs x once twice apart h a = by (fit-Fit (p ∷ q ∷ []) cs h)
  where
    found : (own more : List (Role × Node)) → length own ≡ 1 → length more ≡ 1 → AreInRole p.role own → Among x (nodes_in q.role (own ++ more)) → first_of (nodes_in q.role (own ++ more)) ≡ Some x
    found [] more l m i b = absurd (omega (arith, l))
    found (c ∷ d ∷ own) more l m i b = absurd (omega (arith, l))
    found (c ∷ []) [] l m i b = absurd (omega (arith, m))
    found (c ∷ []) (d ∷ e ∷ more) l m i b = absurd (omega (arith, m))
    found (c ∷ []) (d ∷ []) l m i b = go (same_role c.0 q.role) (same_role d.0 q.role) other b
      where
        other : same_role c.0 q.role ≡ false
        other = subst (λ r. same_role r q.role ≡ false) (sym (role_is c.0 p.role (and_first (same_role c.0 p.role) true i))) apart

        go : (t u : Bool) → t ≡ false → Among x (if t then c.1 ∷ (if u then d.1 ∷ [] else []) else (if u then d.1 ∷ [] else [])) → first_of (if t then c.1 ∷ (if u then d.1 ∷ [] else []) else (if u then d.1 ∷ [] else [])) ≡ Some x
        go true u f j = absurd (never f)
        go false true f (inl j) = ap Some j
        go false true f (inr j) = absurd j
        go false false f j = absurd j

    by : Fit (p ∷ q ∷ []) cs → first_of (nodes_in q.role cs) ≡ Some x
    by (own, rest, is, in_role, run, (more, end, is_more, in_second, fits, last)) =
        let whole : cs ≡ own ++ more = is ∙ ap (λ l. own ++ l) (is_more ∙ ap (λ l. more ++ l) last ∙ append-nil more) in
        let one : length own ≡ 1 = eqb-true (length own) 1 (subst (λ many. allows many (length own) ≡ true) once (and_first (allows p.count (length own)) (all_of p.class own) run)) in
        let other : length more ≡ 1 = eqb-true (length more) 1 (subst (λ many. allows many (length more) ≡ true) twice (and_first (allows q.count (length more)) (all_of q.class more) fits)) in
        subst (λ l. first_of (nodes_in q.role l) ≡ Some x) (sym whole) (found own more one other in_role (subst (λ l. Among x (nodes_in q.role l)) whole a))

-- ---- places

module _ (p : Tree) where
  abbrev Fits : Node → Type 0
  Fits x = fit (parts x.kind) (trees x.children) ≡ true

  -- the node above a place was entered, and has the place's node in its role
  record HasParent (q : Place) (y : Node) (path : List Node) : Type 0 where
    place : Place
    entered : Among (entering place) (steps p)
    node : place.node ≡ y
    above : place.path ≡ path
    fits : Fits y
    child : Among q.node (nodes_in q.role (trees y.children))
    shape : is_enum_child y.kind q.role q.node.kind [] ≡ true

  abbrev ParentAt : Step → Type 0
  ParentAt (entering q) = (y : Node) (path : List Node) → q.path ≡ y ∷ path → HasParent q y path
  ParentAt (opening q o) = Unit {0}
  ParentAt (header_ending q o) = Unit {0}
  ParentAt (closing q o) = Unit {0}
  ParentAt (leaving q) = Unit {0}

  in_role : (r : Role) (x : Node) (cs : List (Role × Node)) → Among (r, x) cs → Among x (nodes_in r cs)
  in_role r x [] a = absurd a
  in_role r x (c ∷ cs) a = go (same_role c.0 r) refl a (in_role r x cs)
    where
      go : (b : Bool) → same_role c.0 r ≡ b → Among (r, x) (c ∷ cs) → (Among (r, x) cs → Among x (nodes_in r cs)) → Among x (if b then c.1 ∷ nodes_in r cs else nodes_in r cs)
      go true w (inl e) later = inl (ap (λ d. d.1) e)
      go true w (inr i) later = inr (later i)
      go false w (inl e) later = absurd (never (sym (true_same the_roles r r refl) ∙ sym (ap (λ d. same_role d.0 r) e) ∙ w))
      go false w (inr i) later = later i

  parents_below : (q : Place) (own : Option OpenScope) (n cursor : ℕ) (f : Forest) (at : formed_place.Place) → Among (entering q) (steps p) → Fits q.node → ((c : Role × Node) → Among c (trees f) → Among c (trees q.node.children)) → holds_below is_enum_child q.node.kind f ≡ true → NoneMisshapen (formed.placed_below at q.node.kind f)
      → EachStep (OfEntered (IsEnteredIn (steps p))) (steps_below q own n cursor f) → EachStep ParentAt (steps_below q own n cursor f)
  parents_below q own n cursor nothing at a k i e w es = last_case (EachStep ParentAt) q own n tt (tt, (tt, tt))
  parents_below q own n cursor (tree r k2 span text marks below id after) at a k i e w es =
      let node : Node = record { kind = k2; span = span; text = text; marks = marks; children = below; node_id = id } in
      let turn : Turn = turn_at q own n cursor r node after in
      let entered : EachOfTurn (OfEntered (IsEnteredIn (steps p))) turn = turn_of_each (OfEntered (IsEnteredIn (steps p))) turn es in
      let here : formed_place.Place = formed.child_place at q.node.kind r in
      let f : (is_well_formed here node ≡ true) × NoneMisshapen (formed.placed_below here k2 below ++ formed.placed_below at q.node.kind after) = first_formed (here, node) (formed.placed_below here k2 below ++ formed.placed_below at q.node.kind after) w in
      let parts_formed : NoneMisshapen (formed.placed_below here k2 below) × NoneMisshapen (formed.placed_below at q.node.kind after) = rest_formed (formed.placed_below here k2 below) (formed.placed_below at q.node.kind after) f.1 in
      let forests : (holds_below is_enum_child k2 below && holds_below is_enum_child q.node.kind after) ≡ true = and_second (is_enum_child q.node.kind r k2 text) (holds_below is_enum_child k2 below && holds_below is_enum_child q.node.kind after) e in
      let child : (y : Node) (path : List Node) → q.node ∷ q.path ≡ y ∷ path → HasParent turn.child y path = λ y path s.
      record {
        place = q;
        entered = a;
        node = heads q.node y q.path path s;
        above = tails q.node y q.path path s;
        fits = subst Fits (heads q.node y q.path path s) k;
        child = subst (λ z. Among node (nodes_in r (trees z.children))) (heads q.node y q.path path s) (in_role r node (trees q.node.children) (i (r, node) (inl refl)));
        shape = subst (λ z. is_enum_child z.kind r k2 [] ≡ true) (heads q.node y q.path path s) (and_first (is_enum_child q.node.kind r k2 text) (holds_below is_enum_child k2 below && holds_below is_enum_child q.node.kind after) e);
      } in
      each_of_turn ParentAt turn (record {
        before = opening_case (EachStep ParentAt) q r own n tt (tt, tt);
        whole = each_of_node ParentAt turn.child turn.below child
            (parents_below turn.child None turn.next turn.inner below here entered.whole.0 (fit_kept node (table_kept here node f.0)) (λ c z. z) (and_first (holds_below is_enum_child k2 below) (holds_below is_enum_child q.node.kind after) forests) parts_formed.0
            (each_left (OfEntered (IsEnteredIn (steps p))) turn.below (leaving turn.child ∷ []) entered.whole.1)) tt;
        behind = ending_case (EachStep ParentAt) q r turn.scope after tt (λ o. (tt, tt)) (λ o. (tt, tt)) (λ o. (tt, (tt, tt)));
        others = parents_below q turn.scope turn.rest turn.past after at a k (λ c z. i c (inr z)) (and_second (holds_below is_enum_child k2 below) (holds_below is_enum_child q.node.kind after) forests) parts_formed.1 entered.others;
      })
    where
      heads : (x y : Node) (xs ys : List Node) → x ∷ xs ≡ y ∷ ys → x ≡ y
      heads x y xs ys e = cc

      tails : (x y : Node) (xs ys : List Node) → x ∷ xs ≡ y ∷ ys → xs ≡ ys
      tails x y xs ys e = cc

  parents_program : first_fault p ≡ None → EachStep ParentAt (steps p)
  parents_program h =
      let root : Place = root_place p in
      let n : ℕ = on_entering p.root.kind 0 in
      let below : List Step = steps_below root None 0 n p.root.children in
      let es : EachStep (OfEntered (IsEnteredIn (steps p))) (steps p) = all_entered (steps p) (steps p) (λ st a. a) in
      let f : (is_well_formed formed.root_place p.root ≡ true) × NoneMisshapen (formed.placed_below formed.root_place p.root.kind p.root.children) = first_formed (formed.root_place, p.root) (formed.placed_below formed.root_place p.root.kind p.root.children) (none_misshapen p h) in
      each_of_node ParentAt root below (λ y path e. absurd (no_parent y path e))
      (parents_below root None 0 n p.root.children formed.root_place es.0 (fit_kept p.root (table_kept formed.root_place p.root f.0)) (λ c z. z) (tree_enums p h) f.1 (each_left (OfEntered (IsEnteredIn (steps p))) below (leaving root ∷ []) es.1)) tt
    where
      no_parent : (y : Node) (path : List Node) → [] ≡ y ∷ path → ⊥
      no_parent y path e = absurd cc

  -- the enum of a body
  pub record IsEnumOf (q : Place) (y : Node) : Type 0 where
    pub place : Place
    pub entered : Among (entering place) (steps p)
    pub node : place.node ≡ y
    pub kind : y.kind ≡ kind.TSEnumDeclaration
    pub body : child_of role.Body y ≡ Some q.node

  pub enum_of : first_fault p ≡ None → (q : Place) → Among (entering q) (steps p) → q.node.kind ≡ kind.TSEnumBody → (y : Node) (path : List Node) → q.path ≡ y ∷ path → IsEnumOf q y
  enum_of h q a k y path e =
      let parent : HasParent q y path = each_at ParentAt (steps p) (entering q) (parents_program h) a y path e in
      let both : (same_kind y.kind kind.TSEnumDeclaration && same_role q.role role.Body) ≡ true = subst (λ j. (not (same_kind j kind.TSEnumBody) || (same_kind y.kind kind.TSEnumDeclaration && same_role q.role role.Body)) ≡ true) k
      (and_first (not (same_kind q.node.kind kind.TSEnumBody) || (same_kind y.kind kind.TSEnumDeclaration && same_role q.role role.Body)) (not (same_kind q.node.kind kind.TSIndexSignatureName) || same_kind y.kind kind.TSIndexSignature) parent.shape) in
      let is_enum : y.kind ≡ kind.TSEnumDeclaration = kind_is y.kind kind.TSEnumDeclaration (and_first (same_kind y.kind kind.TSEnumDeclaration) (same_role q.role role.Body) both) in
      let in_body : Among q.node (nodes_in role.Body (trees y.children)) = subst (λ r. Among q.node (nodes_in r (trees y.children))) (role_is q.role role.Body (and_second (same_kind y.kind kind.TSEnumDeclaration) (same_role q.role role.Body) both)) parent.child in
      record {
        place = parent.place;
        entered = parent.entered;
        node = parent.node;
        kind = is_enum;
        body = second_of_two (record { role = role.Id; count = count.One; class = class.Only kind.BindingIdentifier }) (record { role = role.Body; count = count.One; class = class.Only kind.TSEnumBody }) (trees y.children) q.node refl refl refl
            (subst (λ j. fit (parts j) (trees y.children) ≡ true) is_enum parent.fits) in_body;
      }

  -- the signature of an index parameter
  pub index_parent : first_fault p ≡ None → (q : Place) → Among (entering q) (steps p) → q.node.kind ≡ kind.TSIndexSignatureName → (y : Node) (path : List Node) → q.path ≡ y ∷ path → y.kind ≡ kind.TSIndexSignature
  index_parent h q a k y path e =
      let parent : HasParent q y path = each_at ParentAt (steps p) (entering q) (parents_program h) a y path e in
      kind_is y.kind kind.TSIndexSignature (subst (λ j. (not (same_kind j kind.TSIndexSignatureName) || same_kind y.kind kind.TSIndexSignature) ≡ true) k
      (and_second (not (same_kind q.node.kind kind.TSEnumBody) || (same_kind y.kind kind.TSEnumDeclaration && same_role q.role role.Body)) (not (same_kind q.node.kind kind.TSIndexSignatureName) || same_kind y.kind kind.TSIndexSignature) parent.shape))

  -- the node above a place was entered
  pub record IsAbove (y : Node) (path : List Node) : Type 0 where
    pub place : Place
    pub entered : Among (entering place) (steps p)
    pub node : place.node ≡ y
    pub above : place.path ≡ path

  pub above_of : first_fault p ≡ None → (q : Place) → Among (entering q) (steps p) → (y : Node) (path : List Node) → q.path ≡ y ∷ path → IsAbove y path
  above_of h q a y path e =
      let parent : HasParent q y path = each_at ParentAt (steps p) (entering q) (parents_program h) a y path e in
      record { place = parent.place; entered = parent.entered; node = parent.node; above = parent.above }
