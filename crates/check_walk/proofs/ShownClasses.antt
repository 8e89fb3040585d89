-- The classes that a walk shows, as nodes are entered and walked.
use Rattle.std.proofs.Common.{◌≡◌, ℕ, ◌+◌, ◌<◌, List, [], ◌∷◌, ◌++◌, Bool, true, false, ◌&&◌, not, cond, Option, None, Some, refl, sym, ap, subst, ◌∙◌, map, length, arith, inl, inr, get_or}
use Rattle.std.specs.List.{AllByRecursion}
use Rattle.std.specs.Option.{option_map_or}
use Rattle.std.proofs.lemmas.Bool.{cases_Bool, and_from}
use Rattle.std.proofs.lemmas.List.{append-nil, get_or-set_same, get_or_append_left, length-append}
use Rattle.std.proofs.Math.ListN.{set, length-set}
use Rattle.semantic_syntax.proofs.Truth.{and_first, and_second}
use Rattle.semantic_kinds.specs.Kinds.{same_kind}
use Rattle.semantic_kinds.specs.Roles.{same_role}
use Rattle.semantic_kinds.specs.declared.kind.AstType.{AstType}
use Rattle.semantic_kinds.specs.declared.kind.AstType.TheVariants as kind
use Rattle.semantic_kinds.specs.declared.role.Role.{Role}
use Rattle.semantic_kinds.specs.declared.role.Role.TheVariants as role
use Rattle.semantic_tree.specs.Forest.{Forest, nothing, tree}
use Rattle.semantic_tree.specs.declared.node.Node.{Node}
use Rattle.semantic_tree.specs.Views.{is, children_of}
use Rattle.semantic_model.specs.Place.{Place}
use Rattle.semantic_model.specs.Element.{Element, elements_of}
use Rattle.semantic_model.specs.Class.{Class, PrivateUse, uses_under, uses_below, classes_below}
use Rattle.semantic_model.proofs.form.Clauses.{kind_is}
use Rattle.class_table.specs.Lists.{ClassLists, IsInside, uses_in, with_class, with_use}
use Rattle.class_table.specs.Building.{with_body, with_use_under, use_in}
use Rattle.class_table.specs.Bodies.{is_nothing, ends_with_body, has_no_body, end_rightly}
use Rattle.class_table.specs.Noted.{noting_in, class_entered, class_left, noted_below, begun_builder}
use Rattle.class_table.specs.NotedSteps.{entered_under}
use Rattle.class_table.specs.Told.{lists_with, FitCurrent, current_elements}
use Rattle.class_table.specs.declared.builder.ClassTableBuilder.{ClassTableBuilder}
use Rattle.class_table.proofs.Parents.{stand_before}
use Rattle.class_table.proofs.Fitting.{fits_told, fits_class}
use Rattle.class_table.proofs.Noting.{fits_none}
use Rattle.class_table.proofs.Staying.{notes_other}
use Rattle.class_table.proofs.Telling.{declared_elements, declared_length}
use Rattle.check_model.specs.Context.{uses_from}
use Rattle.check_model.specs.Sight.{SeenClass}
use Rattle.check_model.specs.SightOf.{class_of, classes_around, classes_at, bodies_of, uses_at}
use Rattle.check_walk.specs.Shaped.{have_own_role, has_own_role, is_class_shape, are_class_shapes}
use Rattle.check_walk.specs.Showing.{ShowsClasses, IsInClasses, ShowsAround, ShowsBetween}
use Rattle.check_walk.proofs.ClassForm.{shapes_end}
use Rattle.check_walk.proofs.ClassSteps.{body_entered}
use Rattle.check_walk.proofs.KeptClasses.{StandInside, stand_inside, told_inside, class_inside, classes_kept}

-- ---- a walk that is in some classes

-- it begins in none
pub begins : IsInClasses begun_builder []
begins = record { enabled = refl; fits = fits_none; inside = tt; classes = refl }

as_noting : (b : ClassTableBuilder) → b.enabled ≡ true → b ≡ noting_in b.current_class_id b.classes
as_noting b h = λ i. record b { enabled = h i }

-- more is told of the current class, and of classes inside it
told_in : (lists : ClassLists) (current : Option ℕ) (around : List SeenClass) (us : List PrivateUse) (cs : List Class) → IsInClasses (noting_in current lists) around → StandInside (length lists.nodes) cs
    → IsInClasses (noting_in current (lists_with lists current us cs)) around
told_in lists current around us cs h k = record {
  enabled = refl;
  fits = fits_told lists current us cs h.fits;
  inside = told_inside lists current us cs h.inside k;
  classes = classes_kept lists current us cs h.inside h.fits.with_elements h.fits.there ∙ h.classes;
}

use_told : (lists : ClassLists) (current : Option ℕ) (around : List SeenClass) (c : ℕ) (used : PrivateUse) → IsInClasses (noting_in current lists) around → IsInClasses (noting_in current (with_use lists c used)) around
use_told lists current around c used h = record {
  enabled = refl;
  fits = record { there = h.fits.there; with_elements = h.fits.with_elements; with_uses = length-set lists.uses c (uses_in lists c ++ used ∷ []) ∙ h.fits.with_uses; inside = h.fits.inside };
  inside = h.inside;
  classes = h.classes;
}

-- a private identifier may be a use
offered_in : (is_name : Bool) (b : ClassTableBuilder) (around : List SeenClass) (here : Node) (parent : AstType) → IsInClasses b around → IsInClasses (cond is_name (with_use_under b here here.node_id parent) b) around
offered_in false b around here parent h = h
offered_in true b around here parent h = by (b.enabled && uses_under parent) b.current_class_id (subst (λ x. IsInClasses x around) (as_noting b h.enabled) h)
  where
    by : (under : Bool) (current : Option ℕ) → IsInClasses (noting_in current b.classes) around
        → IsInClasses (record b { current_class_id = current; classes = cond under (option_map_or (λ c. with_use b.classes c (use_in b.classes c here here.node_id)) current b.classes) b.classes }) around
    by false current k = subst (λ on. IsInClasses (record { enabled = on; current_class_id = current; classes = b.classes }) around) (sym h.enabled) k
    by true None k = subst (λ on. IsInClasses (record { enabled = on; current_class_id = None; classes = b.classes }) around) (sym h.enabled) k
    by true (Some c) k =
        subst (λ on. IsInClasses (record { enabled = on; current_class_id = Some c; classes = with_use b.classes c (use_in b.classes c here here.node_id) }) around) (sym h.enabled)
        (use_told b.classes (Some c) around c (use_in b.classes c here here.node_id) k)

-- a class body is entered
declared_in : (lists : ClassLists) (current : Option ℕ) (around : List SeenClass) (node : ℕ) (es : List Element) → IsInClasses (noting_in current lists) around
    → IsInClasses (noting_in (Some (length lists.nodes)) (with_class lists current node es)) (record { node = node; elements = es } ∷ around)
declared_in lists current around node es h =
    let n : ℕ = length lists.nodes in
    let more : AllByRecursion (IsInside (n + 1)) (with_class lists current node es).parents = class_inside lists.parents n current h.inside h.fits.there in
    let inside : AllByRecursion (IsInside (length (with_class lists current node es).nodes)) (with_class lists current node es).parents =
    subst (λ m. AllByRecursion (IsInside m) (with_class lists current node es).parents) (sym (declared_length lists current node es)) more in record {
      enabled = refl;
      fits = fits_class lists current node es h.fits;
      inside = inside;
      classes = body_entered lists current node es h.inside h.fits.with_elements (stand_before (n + 1) (with_class lists current node es).parents more) h.fits.there ∙ ap (λ l. record { node = node; elements = es } ∷ l) h.classes;
    }

body_in : (is_body : Bool) (b : ClassTableBuilder) (around : List SeenClass) (parent here : Node) → IsInClasses b around
    → IsInClasses (cond is_body (with_body b here parent.node_id) b) (cond is_body (class_of parent here ∷ []) [] ++ around)
body_in false b around parent here h = h
body_in true b around parent here h =
    let declared : IsInClasses (noting_in (Some (length b.classes.nodes)) (with_class b.classes b.current_class_id parent.node_id (elements_of here.children))) (class_of parent here ∷ around) =
    declared_in b.classes b.current_class_id around parent.node_id (elements_of here.children) (subst (λ x. IsInClasses x around) (as_noting b h.enabled) h) in
    subst (λ on. IsInClasses (cond on (record { enabled = on; current_class_id = Some (length b.classes.nodes); classes = with_class b.classes b.current_class_id parent.node_id (elements_of here.children) }) b) (class_of parent here ∷ around)) (sym h.enabled) declared

-- the classes around the children of a node
around_own : (node parent : Node) (above : List Node) → classes_around (node ∷ parent ∷ above) ≡ cond (is kind.ClassBody node) (class_of parent node ∷ []) [] ++ classes_around (parent ∷ above)
around_own node parent above = elim (cases_Bool (is kind.ClassBody node)) [ inl q ↦ rw q refl | inr q ↦ rw q refl ]

-- a node is entered
pub entered_in : (b : ClassTableBuilder) (path : List Node) (node : Node) → IsInClasses b (classes_around path) → IsInClasses (entered_under path node b) (classes_around (node ∷ path))
entered_in b [] node h = h
entered_in b (parent ∷ above) node h =
    subst (λ l. IsInClasses (class_entered parent.kind parent.node_id node b) l) (sym (around_own node parent above))
    (body_in (is kind.ClassBody node) _ (classes_around (parent ∷ above)) parent node (offered_in (is kind.PrivateIdentifier node) b (classes_around (parent ∷ above)) node parent.kind h))

-- nodes are walked that are no class bodies
pub walked_in : (f : Forest) (parent : AstType) (node : ℕ) (b : ClassTableBuilder) (around : List SeenClass) → has_no_body f ≡ true → are_class_shapes f ≡ true → IsInClasses b around → IsInClasses (noted_below parent node f b) around
walked_in f parent node b around none shapes h =
    let lists : ClassLists = b.classes in
    let current : Option ℕ = b.current_class_id in
    let us : List PrivateUse = uses_below (current_elements lists current) parent f in
    let cs : List Class = classes_below (length lists.nodes) current node f in
    let noted : noted_below parent node f b ≡ noting_in current (lists_with lists current us cs) =
    ap (noted_below parent node f) (as_noting b h.enabled) ∙ notes_other f (shapes_end f shapes) none parent node current lists h.fits in
    subst (λ x. IsInClasses x around) (sym noted) (told_in lists current around us cs (subst (λ x. IsInClasses x around) (as_noting b h.enabled) h) (stand_inside f (length lists.nodes) current node h.fits.there))

-- ---- on leaving a place

-- what is around the children is what is around the node, if that is no class body
around_other : (node : Node) (path : List Node) → is kind.ClassBody node ≡ false → classes_around (node ∷ path) ≡ classes_around path
around_other node [] h = refl
around_other node (parent ∷ above) h = around_own node parent above ∙ ap (λ b. cond b (class_of parent node ∷ []) [] ++ classes_around (parent ∷ above)) h

at_other : (node : Node) (path : List Node) → is kind.Class node ≡ false → classes_at node path ≡ classes_around path
at_other node path h = rw h refl

at_class : (node : Node) (path : List Node) → is kind.Class node ≡ true → classes_at node path ≡ map (class_of node) (bodies_of node) ++ classes_around path
at_class node path h = rw h refl

uses_class : (node body : Node) → is kind.Class node ≡ true → bodies_of node ≡ body ∷ [] → uses_at node ≡ uses_below (elements_of body.children) kind.ClassBody body.children
uses_class node body h k = rw h (rw k (append-nil (uses_below (elements_of body.children) kind.ClassBody body.children)))

no_class_body : (k : AstType) → same_kind k kind.Class ≡ true → same_kind k kind.ClassBody ≡ false
no_class_body k h = rw (kind_is k kind.Class h) refl

-- a node that is no class
left_other : (b : ClassTableBuilder) (p : Place) → is kind.Class p.node ≡ false → IsInClasses b (classes_around (p.node ∷ p.path)) → ShowsClasses b.classes b.current_class_id p
left_other b p h k = record {
  classes = λ other. k.classes ∙ around_other p.node p.path other ∙ sym (at_other p.node p.path h);
  uses = λ e. let q : false ≡ true = sym h ∙ e in absurd cc;
}

-- no child is left
ends_empty : (k : AstType) → is_class_shape k nothing ≡ true → same_kind k kind.Class ≡ false
ends_empty k h = elim (cases_Bool (same_kind k kind.Class)) [
  | inl q ↦ (let w : end_rightly k nothing ≡ true = and_first (end_rightly k nothing) _ h in let e : false ≡ true = rw q at w in absurd cc)
  | inr q ↦ q
]

last_read : {A : Type 0} (xs : List A) (y d : A) → get_or (xs ++ y ∷ []) (length xs) d ≡ y
last_read [] y d = refl
last_read (x ∷ xs) y d = last_read xs y d

-- the uses of a class that was just declared
own_uses : (lists : ClassLists) (current : Option ℕ) (node : ℕ) (es : List Element) (us : List PrivateUse) (cs : List Class) → FitCurrent lists current
    → uses_from (lists_with (with_class lists current node es) (Some (length lists.nodes)) us cs) (Some (length lists.nodes)) ≡ us
own_uses lists current node es us cs fits =
    let n : ℕ = length lists.nodes in
    let uses : List (List PrivateUse) = lists.uses ++ [] ∷ [] in
    let read : get_or uses n [] ≡ [] = ap (λ m. get_or uses m []) (sym fits.with_uses) ∙ last_read lists.uses [] [] in
    let there : n < length uses = omega (arith, length-append lists.uses ([] ∷ []), fits.with_uses) in
    let put : List (List PrivateUse) = set uses n (get_or uses n [] ++ us) in
    get_or_append_left put (map (λ c. c.uses) cs) [] n (omega (arith, length-set uses n (get_or uses n [] ++ us)))
    ∙ get_or-set_same uses n (get_or uses n [] ++ us) [] there
    ∙ ap (λ l. l ++ us) read

-- ---- between the children of a place

-- in the classes around the children of a place, with those that are left
between : (b : ClassTableBuilder) (p : Place) (f : Forest) → IsInClasses b (classes_around (p.node ∷ p.path)) → is_class_shape p.node.kind f ≡ true → are_class_shapes f ≡ true → (is kind.Class p.node ≡ true → bodies_of p.node ≡ children_of role.Body f)
    → ShowsBetween b p f
between b p nothing h shape below bodies = left_other b p (ends_empty p.node.kind shape) h
between b p (tree r k span text marks under id after) h shape below bodies = record { around = h; shape = shape; below = below; bodies = bodies }

-- the place is come to
pub comes : (b : ClassTableBuilder) (p : Place) → is_class_shape p.node.kind p.node.children ≡ true → are_class_shapes p.node.children ≡ true → IsInClasses b (classes_around p.path) → ShowsBetween (entered_under p.path p.node b) p p.node.children
comes b p shape below h = between (entered_under p.path p.node b) p p.node.children (entered_in b p.path p.node h) shape below (λ e. refl)

later_ends : (is_class is_body : Bool) (after : Forest) → is_body ≡ false → cond is_class (cond is_body (is_nothing after) (ends_with_body after)) (not is_body && has_no_body after) ≡ true → cond is_class (ends_with_body after) (has_no_body after) ≡ true
later_ends true is_body after e h = rw e at h
later_ends false is_body after e h = and_second (not is_body) (has_no_body after) h

no_role : (r : Role) (is_class is_body : Bool) → is_class ≡ true → is_body ≡ false → cond is_class (cond (same_role r role.Body) is_body (not is_body)) true ≡ true → same_role r role.Body ≡ false
no_role r is_class is_body c b h = by (same_role r role.Body) (rw (c, b) at h)
  where
    by : (own : Bool) → cond own false true ≡ true → own ≡ false
    by true k = absurd cc
    by false k = refl

own_role : (r : Role) (is_class is_body : Bool) → is_class ≡ true → is_body ≡ true → cond is_class (cond (same_role r role.Body) is_body (not is_body)) true ≡ true → same_role r role.Body ≡ true
own_role r is_class is_body c b h = by (same_role r role.Body) (rw (c, b) at h)
  where
    by : (own : Bool) → cond own true false ≡ true → own ≡ true
    by true k = refl
    by false k = absurd cc

-- a child is walked that is no class body
turns_other : (b : ClassTableBuilder) (p : Place) (r : Role) (here : Node) (after : Forest) → same_kind here.kind kind.ClassBody ≡ false → ShowsAround b p (tree r here.kind here.span here.text here.marks here.children here.node_id after)
    → ShowsBetween (class_left here.kind (noted_below here.kind here.node_id here.children (class_entered p.node.kind p.node.node_id here b))) p after
turns_other b p r here after other h =
    let k : AstType = here.kind in
    let F : Forest = tree r here.kind here.span here.text here.marks here.children here.node_id after in
    let alone : Forest = tree r here.kind here.span here.text here.marks here.children here.node_id nothing in
    let around : List SeenClass = classes_around (p.node ∷ p.path) in
    let rest : (are_class_shapes here.children && are_class_shapes after) ≡ true = and_second (is_class_shape k here.children) _ h.below in
    let ends : end_rightly p.node.kind after ≡ true =
    later_ends (is kind.Class p.node) (same_kind k kind.ClassBody) after other (and_first (end_rightly p.node.kind F) (have_own_role p.node.kind F) h.shape) in
    let roles : have_own_role p.node.kind F ≡ true = and_second (end_rightly p.node.kind F) (have_own_role p.node.kind F) h.shape in
    let shape : is_class_shape p.node.kind after ≡ true =
    and_from (end_rightly p.node.kind after) (have_own_role p.node.kind after) ends (and_second (has_own_role p.node.kind r k) (have_own_role p.node.kind after) roles) in
    let none : has_no_body alone ≡ true = rw other refl in
    let formed : are_class_shapes alone ≡ true =
    and_from (is_class_shape k here.children) (are_class_shapes here.children && true) (and_first (is_class_shape k here.children) _ h.below)
    (and_from (are_class_shapes here.children) true (and_first (are_class_shapes here.children) _ rest) refl) in
    let bodies : is kind.Class p.node ≡ true → bodies_of p.node ≡ children_of role.Body after =
    λ e.
    h.bodies e
    ∙ ap (λ c. cond c (here ∷ children_of role.Body after) (children_of role.Body after))
    (no_role r (is kind.Class p.node) (same_kind k kind.ClassBody) e other (and_first (has_own_role p.node.kind r k) (have_own_role p.node.kind after) roles)) in
    between (class_left here.kind (noted_below here.kind here.node_id here.children (class_entered p.node.kind p.node.node_id here b))) p after
    (walked_in alone p.node.kind p.node.node_id b around none formed h.around) shape (and_second (are_class_shapes here.children) (are_class_shapes after) rest) bodies

-- a class body is entered in a walk that notes classes
enters_body : (lists : ClassLists) (current : Option ℕ) (parent : AstType) (node : ℕ) (here : Node) → here.kind ≡ kind.ClassBody
    → class_entered parent node here (noting_in current lists) ≡ noting_in (Some (length lists.nodes)) (with_class lists current node (elements_of here.children))
enters_body lists current parent node here is =
    let b : ClassTableBuilder = noting_in current lists in
    ap (λ k. let used : ClassTableBuilder = cond (same_kind k kind.PrivateIdentifier) (with_use_under b here here.node_id parent) b in cond (same_kind k kind.ClassBody) (with_body used here node) used) is

-- the class body is walked, behind all other children of its class
turns_body : (b : ClassTableBuilder) (p : Place) (r : Role) (here : Node) → is kind.Class p.node ≡ true → here.kind ≡ kind.ClassBody → bodies_of p.node ≡ here ∷ [] → is_class_shape here.kind here.children ≡ true → are_class_shapes here.children ≡ true
    → IsInClasses b (classes_around (p.node ∷ p.path))
    → ShowsBetween (class_left here.kind (noted_below here.kind here.node_id here.children (class_entered p.node.kind p.node.node_id here b))) p nothing
turns_body b p r here e is body shape below h =
    let lists : ClassLists = b.classes in
    let current : Option ℕ = b.current_class_id in
    let n : ℕ = length lists.nodes in
    let pid : ℕ = p.node.node_id in
    let f : Forest = here.children in
    let es : List Element = elements_of f in
    let around : List SeenClass = classes_around (p.node ∷ p.path) in
    let first : ClassLists = with_class lists current pid es in
    let begun_here : IsInClasses (noting_in current lists) around = subst (λ x. IsInClasses x around) (as_noting b h.enabled) h in
    let own : IsInClasses (noting_in (Some n) first) (class_of p.node here ∷ around) = declared_in lists current around pid es begun_here in
    let us : List PrivateUse = uses_below (current_elements first (Some n)) here.kind f in
    let cs : List Class = classes_below (length first.nodes) (Some n) here.node_id f in
    let none : has_no_body f ≡ true = subst (λ k. end_rightly k f ≡ true) is (and_first (end_rightly here.kind f) (have_own_role here.kind f) shape) in
    let into : class_entered p.node.kind pid here b ≡ noting_in (Some n) first =
    ap (class_entered p.node.kind pid here) (as_noting b h.enabled) ∙ enters_body lists current p.node.kind pid here is in
    let walked : class_left here.kind (noted_below here.kind here.node_id f (class_entered p.node.kind pid here b)) ≡ noting_in (Some n) (lists_with first (Some n) us cs) =
    ap (λ x. class_left here.kind (noted_below here.kind here.node_id f x)) into
    ∙ ap (class_left here.kind) (notes_other f (shapes_end f below) none here.kind here.node_id (Some n) first own.fits)
    ∙ ap (λ k. class_left k (noting_in (Some n) (lists_with first (Some n) us cs))) is in
    let others : around ≡ classes_around p.path = around_other p.node p.path (no_class_body p.node.kind e) in
    let uses : us ≡ uses_below es kind.ClassBody f = ap (λ l. uses_below l here.kind f) (declared_elements lists current pid es h.fits) ∙ ap (λ k. uses_below es k f) is in
    subst (λ (x : ClassTableBuilder). ShowsClasses x.classes x.current_class_id p) (sym walked) (record {
      classes =
          λ other.
          classes_kept first (Some n) us cs own.inside own.fits.with_elements own.fits.there
          ∙ own.classes
          ∙ ap (λ l. class_of p.node here ∷ l) others
          ∙ sym (at_class p.node p.path e ∙ ap (λ l. map (class_of p.node) l ++ classes_around p.path) body);
      uses = λ q. own_uses lists current pid es us cs h.fits ∙ uses ∙ sym (uses_class p.node here e body);
    })

-- the class of a body
class_around : (is_class : Bool) (after : Forest) → cond is_class (is_nothing after) false ≡ true → (is_class ≡ true) × (is_nothing after ≡ true)
class_around true after h = (refl, h)
class_around false after h = absurd cc

-- a child is walked, and others are left
pub turns : (b : ClassTableBuilder) (p : Place) (r : Role) (here : Node) (after : Forest) → ShowsAround b p (tree r here.kind here.span here.text here.marks here.children here.node_id after)
    → ShowsBetween (class_left here.kind (noted_below here.kind here.node_id here.children (class_entered p.node.kind p.node.node_id here b))) p after
turns b p r here after h = elim (cases_Bool (same_kind here.kind kind.ClassBody)) [
  | inl q ↦ with_body_last after h q
  | inr q ↦ turns_other b p r here after q h
]
  where
    with_body_last : (f : Forest) → ShowsAround b p (tree r here.kind here.span here.text here.marks here.children here.node_id f) → same_kind here.kind kind.ClassBody ≡ true
        → ShowsBetween (class_left here.kind (noted_below here.kind here.node_id here.children (class_entered p.node.kind p.node.node_id here b))) p f
    with_body_last nothing k q =
        let F : Forest = tree r here.kind here.span here.text here.marks here.children here.node_id nothing in
        let ends : end_rightly p.node.kind F ≡ true = and_first (end_rightly p.node.kind F) (have_own_role p.node.kind F) k.shape in
        let roles : have_own_role p.node.kind F ≡ true = and_second (end_rightly p.node.kind F) (have_own_role p.node.kind F) k.shape in
        let c = class_around (is kind.Class p.node) nothing (rw q at ends) in
        let own : same_role r role.Body ≡ true = own_role r (is kind.Class p.node) (same_kind here.kind kind.ClassBody) c.0 q (and_first (has_own_role p.node.kind r here.kind) true roles) in
        turns_body b p r here c.0 (kind_is here.kind kind.ClassBody q) (k.bodies c.0 ∙ ap (λ t. cond t (here ∷ []) []) own) (and_first (is_class_shape here.kind here.children) _ k.below)
        (and_first (are_class_shapes here.children) true (and_second (is_class_shape here.kind here.children) _ k.below)) k.around
    with_body_last (tree r2 k2 span text marks below id more) k q =
        let F : Forest = tree r here.kind here.span here.text here.marks here.children here.node_id (tree r2 k2 span text marks below id more) in
        let ends : end_rightly p.node.kind F ≡ true = and_first (end_rightly p.node.kind F) (have_own_role p.node.kind F) k.shape in
        let c = class_around (is kind.Class p.node) (tree r2 k2 span text marks below id more) (rw q at ends) in
        let w : false ≡ true = c.1 in absurd cc

-- what is known of the child that is come to
pub child_comes : (b : ClassTableBuilder) (p : Place) (r : Role) (here : Node) (after : Forest) → ShowsAround b p (tree r here.kind here.span here.text here.marks here.children here.node_id after)
    → (is_class_shape here.kind here.children ≡ true) × (are_class_shapes here.children ≡ true)
child_comes b p r here after h =
    (and_first (is_class_shape here.kind here.children) _ h.below, and_first (are_class_shapes here.children) (are_class_shapes after) (and_second (is_class_shape here.kind here.children) _ h.below))
