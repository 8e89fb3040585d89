-- A walk notes the classes of a program.
use Rattle.std.proofs.Common.{◌≡◌, ℕ, ◌+◌, ◌≤◌, List, [], ◌∷◌, ◌++◌, Bool, true, false, ◌&&◌, cond, Option, None, Some, length, refl, sym, ap, ◌∙◌, arith, append_assoc, length-append, add-zero}
use Rattle.std.specs.Option.{option_map_or}
use Rattle.semantic_kinds.specs.Kinds.{same_kind}
use Rattle.semantic_kinds.specs.declared.kind.AstType.{AstType}
use Rattle.semantic_kinds.specs.declared.kind.AstType.TheVariants as kind
use Rattle.semantic_kinds.specs.declared.role.Role.{Role}
use Rattle.semantic_tree.specs.Forest.{Forest, nothing, tree, count}
use Rattle.semantic_tree.specs.declared.node.Node.{Node}
use Rattle.semantic_model.specs.Element.{Element, elements_of, element_ids}
use Rattle.semantic_model.specs.Class.{Class, PrivateUse, uses_under, uses_below, body_count, classes_below, classes}
use Rattle.semantic_model.proofs.form.Clauses.{kind_is}
use Rattle.class_table.specs.Lists.{ClassLists, no_classes, with_class, with_use}
use Rattle.class_table.specs.Building.{with_body, with_use_under, use_in, popped}
use Rattle.class_table.specs.Outward.{parent_class}
use Rattle.class_table.specs.Noted.{noting_in, class_entered, class_left, noted_below}
use Rattle.class_table.specs.Told.{lists_with, FitCurrent, current_elements}
use Rattle.class_table.specs.declared.builder.ClassTableBuilder.{ClassTableBuilder}
use Rattle.class_table.proofs.Telling.{told_twice, told_nothing, told_unused, told_use, told_alike, told_class, declared_elements, declared_length}
use Rattle.class_table.proofs.Fitting.{fits_told, fits_class, elements_kept, length_told, around}

abbrev use_of : List Element → Node → PrivateUse
use_of elements here = record { id = here.node_id; name = here.text; span = here.span; element_ids = element_ids elements here.text true }

-- a private identifier is offered as a use
offered : (is_name : Bool) (parent : AstType) (here : Node) (current : Option ℕ) (lists : ClassLists)
    → cond is_name (with_use_under (noting_in current lists) here here.node_id parent) (noting_in current lists)
    ≡ noting_in current (lists_with lists current (cond (is_name && uses_under parent) (use_of (current_elements lists current) here ∷ []) []) [])
offered false parent here current lists = ap (noting_in current) (sym (told_nothing lists current))
offered true parent here current lists = by (uses_under parent) current
  where
    by : (under : Bool) (c : Option ℕ) → noting_in c (cond under (option_map_or (λ n. with_use lists n (use_in lists n here here.node_id)) c lists) lists)
        ≡ noting_in c (lists_with lists c (cond under (use_of (current_elements lists c) here ∷ []) []) [])
    by false c = ap (noting_in c) (sym (told_nothing lists c))
    by true None = ap (noting_in None) (sym (told_unused lists (use_of [] here ∷ [])))
    by true (Some c) = ap (noting_in (Some c)) (sym (told_use lists c (use_of (current_elements lists (Some c)) here)))

-- a class is left behind its body
abbrev pub left_body : AstType → ClassTableBuilder → ClassTableBuilder
left_body k b = cond (same_kind k kind.ClassBody) (popped b) b

-- the walk that leaves each class behind its body
abbrev pub noted_bodies : AstType → ℕ → Forest → ClassTableBuilder → ClassTableBuilder
noted_bodies parent node nothing b = b
noted_bodies parent node (tree r k span text marks below id after) b =
    let here : Node = record { kind = k; span = span; text = text; marks = marks; children = below; node_id = id } in
    noted_bodies parent node after (left_body k (noted_bodies k id below (class_entered parent node here b)))

-- a walk below a parent notes what the model says
abbrev pub Notes : Forest → Type 0
Notes f =
    (parent : AstType) (node : ℕ) (current : Option ℕ) (lists : ClassLists) → FitCurrent lists current
    → noted_bodies parent node f (noting_in current lists) ≡ noting_in current (lists_with lists current (uses_below (current_elements lists current) parent f) (classes_below (length lists.nodes) current node f))

-- the class of a body
abbrev class_with : ℕ → Option ℕ → Forest → Class
class_with node current below = record { node = node; parent = current; elements = elements_of below; uses = uses_below (elements_of below) kind.ClassBody below }

-- the own use of a node
abbrev uses_own : List Element → AstType → Node → List PrivateUse
uses_own elements parent here = cond (same_kind here.kind kind.PrivateIdentifier && uses_under parent) (use_of elements here ∷ []) []

-- the uses below a node, for the class around it
abbrev uses_through : Bool → List Element → AstType → Forest → List PrivateUse
uses_through is_body elements k below = cond is_body [] (uses_below elements k below)

-- the classes from a node down
abbrev classes_through : Bool → ℕ → Option ℕ → ℕ → ℕ → Forest → List Class
classes_through is_body n current node id below = cond is_body (class_with node current below ∷ []) [] ++ classes_below (n + cond is_body 1 0) (cond is_body (Some n) current) id below

-- the lists once a node and what is below it are walked
abbrev pub told_tree : ClassLists → Option ℕ → AstType → ℕ → Node → ClassLists
told_tree lists current parent node here =
    let is_body : Bool = same_kind here.kind kind.ClassBody in
    let elements : List Element = current_elements lists current in
    lists_with lists current (uses_own elements parent here ++ uses_through is_body elements here.kind here.children) (classes_through is_body (length lists.nodes) current node here.node_id here.children)

-- below a node, once its own use is noted
through : (k : AstType) (below : Forest) (ih : Notes below) (here : Node) (node id : ℕ) (current : Option ℕ) (lists : ClassLists) → here.children ≡ below → FitCurrent lists current → (is_body : Bool) → (is_body ≡ true → k ≡ kind.ClassBody)
    → noted_bodies k id below (cond is_body (with_body (noting_in current lists) here node) (noting_in current lists))
    ≡ noting_in (cond is_body (Some (length lists.nodes)) current) (lists_with lists current (uses_through is_body (current_elements lists current) k below) (classes_through is_body (length lists.nodes) current node id below))
through k below ih here node id current lists same fits false is =
    ih k id current lists fits
    ∙ ap (λ n. noting_in current (lists_with lists current (uses_below (current_elements lists current) k below) (classes_below n current id below))) (sym (add-zero (length lists.nodes)))
through k below ih here node id current lists same fits true is =
    let n = length lists.nodes in
    let es = elements_of below in
    let cs = classes_below (n + 1) (Some n) id below in
    let us = uses_below es kind.ClassBody below in
    let declared = with_class lists current node es in
    let inside = ih k id (Some n) declared (fits_class lists current node es fits) in
    let uses : uses_below (current_elements declared (Some n)) k below ≡ us =
    ap (λ l. uses_below l k below) (declared_elements lists current node es fits) ∙ ap (λ p. uses_below es p below) (is refl) in
    let more : classes_below (length declared.nodes) (Some n) id below ≡ cs = ap (λ m. classes_below m (Some n) id below) (declared_length lists current node es) in
    ap (λ f. noted_bodies k id below (noting_in (Some n) (with_class lists current node (elements_of f)))) same
    ∙ inside
    ∙ ap (noting_in (Some n)) (told_alike declared (Some n) _ _ _ _ uses more ∙ told_class lists current node es us cs fits)

one : (is_body : Bool) (c : Class) → length (cond is_body (c ∷ []) []) ≡ cond is_body 1 0
one true c = refl
one false c = refl

-- one class for each body
counted : (f : Forest) (n : ℕ) (current : Option ℕ) (node : ℕ) → length (classes_below n current node f) ≡ body_count f
counted nothing n current node = refl
counted (tree r k span text marks below id after) n current node =
    let b = same_kind k kind.ClassBody in
    let first = cond b (class_with node current below ∷ []) [] in
    let inner = classes_below (n + cond b 1 0) (cond b (Some n) current) id below in
    let later = classes_below (n + cond b 1 0 + body_count below) current node after in
    let whole = length-append first (inner ++ later) in
    let rest = length-append inner later in
    let head = one b (class_with node current below) in
    let a = counted below (n + cond b 1 0) (cond b (Some n) current) id in
    let c = counted after (n + cond b 1 0 + body_count below) current node in
    omega arith

-- a node and what is below it, before the node is left
pub tree_open : (parent : AstType) (node : ℕ) (current : Option ℕ) (lists : ClassLists) (here : Node) → Notes here.children → FitCurrent lists current
    → noted_bodies here.kind here.node_id here.children (class_entered parent node here (noting_in current lists))
    ≡ noting_in (cond (same_kind here.kind kind.ClassBody) (Some (length lists.nodes)) current) (told_tree lists current parent node here)
tree_open parent node current lists here ih fits =
    let k = here.kind in
    let below = here.children in
    let id = here.node_id in
    let b = same_kind k kind.ClassBody in
    let E = current_elements lists current in
    let us0 = uses_own E parent here in
    let lists0 = lists_with lists current us0 [] in
    let fits0 = fits_told lists current us0 [] fits in
    let kept : current_elements lists0 current ≡ E = elements_kept lists current us0 [] fits in
    let place : length lists0.nodes ≡ length lists.nodes = length_told lists current us0 [] ∙ add-zero (length lists.nodes) in
    ap (λ x. noted_bodies k id below (cond b (with_body x here node) x)) (offered (same_kind k kind.PrivateIdentifier) parent here current lists)
    ∙ through k below ih here node id current lists0 refl fits0 b (λ e. kind_is k kind.ClassBody e)
    ∙ ap (λ m. noting_in (cond b (Some m) current) (lists_with lists0 current (uses_through b (current_elements lists0 current) k below) (classes_through b m current node id below))) place
    ∙ ap (λ l. noting_in (cond b (Some (length lists.nodes)) current) (lists_with lists0 current (uses_through b l k below) (classes_through b (length lists.nodes) current node id below))) kept
    ∙ ap (noting_in (cond b (Some (length lists.nodes)) current)) (told_twice lists current us0 (uses_through b E k below) [] (classes_through b (length lists.nodes) current node id below) fits)

-- the class around is current again behind the body
pub left_again : (parent : AstType) (node : ℕ) (current : Option ℕ) (lists : ClassLists) (here : Node) → FitCurrent lists current
    → left_body here.kind (noting_in (cond (same_kind here.kind kind.ClassBody) (Some (length lists.nodes)) current) (told_tree lists current parent node here)) ≡ noting_in current (told_tree lists current parent node here)
left_again parent node current lists here fits = by (same_kind here.kind kind.ClassBody)
  where
    n : ℕ
    n = length lists.nodes

    us : Bool → List PrivateUse
    us b = uses_own (current_elements lists current) parent here ++ uses_through b (current_elements lists current) here.kind here.children

    by : (b : Bool) → (let whole : ClassTableBuilder = noting_in (cond b (Some n) current) (lists_with lists current (us b) (classes_through b n current node here.node_id here.children)) in cond b (popped whole) whole)
        ≡ noting_in current (lists_with lists current (us b) (classes_through b n current node here.node_id here.children))
    by false = refl
    by true =
        ap (λ c. noting_in c (lists_with lists current (us true) (classes_through true n current node here.node_id here.children)))
        (around n lists.parents current (classes_below (n + 1) (Some n) here.node_id here.children) fits.inside)

-- how many classes there are then
pub tree_length : (parent : AstType) (node : ℕ) (current : Option ℕ) (lists : ClassLists) (here : Node) → length (told_tree lists current parent node here).nodes ≡ length lists.nodes + cond (same_kind here.kind kind.ClassBody) 1 0 + body_count here.children
tree_length parent node current lists here =
    let b = same_kind here.kind kind.ClassBody in
    let n = length lists.nodes in
    let first = cond b (class_with node current here.children ∷ []) [] in
    let inner = classes_below (n + cond b 1 0) (cond b (Some n) current) here.node_id here.children in
    let us = uses_own (current_elements lists current) parent here ++ uses_through b (current_elements lists current) here.kind here.children in
    let place = length_told lists current us (classes_through b n current node here.node_id here.children) in
    let whole = length-append first inner in
    let head = one b (class_with node current here.children) in
    let below = counted here.children (n + cond b 1 0) (cond b (Some n) current) here.node_id in
    omega arith

-- what comes after a tree goes on from there
pub tree_joined : (parent : AstType) (node : ℕ) (current : Option ℕ) (lists : ClassLists) (r : Role) (here : Node) (after : Forest) → FitCurrent lists current
    → (let lists1 : ClassLists = told_tree lists current parent node here in lists_with lists1 current (uses_below (current_elements lists1 current) parent after) (classes_below (length lists1.nodes) current node after))
    ≡ lists_with lists current (uses_below (current_elements lists current) parent (tree r here.kind here.span here.text here.marks here.children here.node_id after))
    (classes_below (length lists.nodes) current node (tree r here.kind here.span here.text here.marks here.children here.node_id after))
tree_joined parent node current lists r here after fits =
    let k = here.kind in
    let b = same_kind k kind.ClassBody in
    let n = length lists.nodes in
    let E = current_elements lists current in
    let us0 = uses_own E parent here in
    let us1 = uses_through b E k here.children in
    let cs0 = cond b (class_with node current here.children ∷ []) [] in
    let cs1 = classes_below (n + cond b 1 0) (cond b (Some n) current) here.node_id here.children in
    let us2 = uses_below E parent after in
    let cs2 = classes_below (n + cond b 1 0 + body_count here.children) current node after in
    let lists1 = told_tree lists current parent node here in
    let kept : current_elements lists1 current ≡ E = elements_kept lists current (us0 ++ us1) (cs0 ++ cs1) fits in
    told_alike lists1 current _ _ _ _ (ap (λ l. uses_below l parent after) kept) (ap (λ m. classes_below m current node after) (tree_length parent node current lists here))
    ∙ told_twice lists current (us0 ++ us1) us2 (cs0 ++ cs1) cs2 fits
    ∙ told_alike lists current _ _ _ _ (append_assoc us0 us1 us2) (append_assoc cs0 cs1 cs2)

pub fits_tree : (parent : AstType) (node : ℕ) (current : Option ℕ) (lists : ClassLists) (here : Node) → FitCurrent lists current → FitCurrent (told_tree lists current parent node here) current
fits_tree parent node current lists here fits =
    let b = same_kind here.kind kind.ClassBody in
    let E = current_elements lists current in
    fits_told lists current (uses_own E parent here ++ uses_through b E here.kind here.children) (classes_through b (length lists.nodes) current node here.node_id here.children) fits

pub notes : (f : Forest) → Notes f
notes nothing parent node current lists fits = ap (noting_in current) (sym (told_nothing lists current))
notes (tree r k span text marks below id after) parent node current lists fits =
    let here : Node = record { kind = k; span = span; text = text; marks = marks; children = below; node_id = id } in
    ap (λ x. noted_bodies parent node after (left_body k x)) (tree_open parent node current lists here (notes below) fits)
    ∙ ap (noted_bodies parent node after) (left_again parent node current lists here fits)
    ∙ notes after parent node current (told_tree lists current parent node here) (fits_tree parent node current lists here fits)
    ∙ ap (noting_in current) (tree_joined parent node current lists r here after fits)

pub fits_none : FitCurrent no_classes None
fits_none = record { there = tt; with_elements = refl; with_uses = refl; inside = tt }

-- where classes aren't noted each step leaves the builder alone
offered_off : (b : ClassTableBuilder) (parent : AstType) (here : Node) (is_name : Bool) → b.enabled ≡ false → cond is_name (with_use_under b here here.node_id parent) b ≡ b
offered_off b parent here false off = refl
offered_off b parent here true off = ap (λ on. record b { classes = cond (on && uses_under parent) (option_map_or (λ c. with_use b.classes c (use_in b.classes c here here.node_id)) b.current_class_id b.classes) b.classes }) off

declared_off : (b : ClassTableBuilder) (here : Node) (node : ℕ) (is_body : Bool) → b.enabled ≡ false → cond is_body (with_body b here node) b ≡ b
declared_off b here node false off = refl
declared_off b here node true off = ap (λ on. cond on (record b { current_class_id = Some (length b.classes.nodes); classes = with_class b.classes b.current_class_id node (elements_of here.children) }) b) off

left_off : (b : ClassTableBuilder) (is_class : Bool) → b.enabled ≡ false → cond is_class (popped b) b ≡ b
left_off b false off = refl
left_off b true off = ap (λ on. cond on (record b { current_class_id = option_map_or (parent_class b.classes.parents) b.current_class_id None }) b) off

-- a walk that notes no classes leaves the builder alone
pub unnoted : (f : Forest) (parent : AstType) (node : ℕ) (b : ClassTableBuilder) → b.enabled ≡ false → noted_below parent node f b ≡ b
unnoted nothing parent node b off = refl
unnoted (tree r k span text marks below id after) parent node b off =
    let here : Node = record { kind = k; span = span; text = text; marks = marks; children = below; node_id = id } in
    let is_body = same_kind k kind.ClassBody in
    let into : class_entered parent node here b ≡ b =
    ap (λ x. cond is_body (with_body x here node) x) (offered_off b parent here (same_kind k kind.PrivateIdentifier) off) ∙ declared_off b here node is_body off in
    ap (λ x. noted_below parent node after (class_left k (noted_below k id below x))) into
    ∙ ap (λ x. noted_below parent node after (class_left k x)) (unnoted below k id b off)
    ∙ ap (noted_below parent node after) (left_off b (same_kind k kind.Class) off)
    ∙ unnoted after parent node b off

bodies_fit : (f : Forest) → body_count f ≤ count f
bodies_fit nothing = omega arith
bodies_fit (tree r k span text marks below id after) = by (same_kind k kind.ClassBody) (bodies_fit below) (bodies_fit after)
  where
    by : (b : Bool) → body_count below ≤ count below → body_count after ≤ count after → cond b 1 0 + body_count below + body_count after ≤ count below + count after + 1
    by true h g = omega arith
    by false h g = omega arith

pub classes_fit : (root : Node) → length (classes root) ≤ count root.children
classes_fit root = let made = counted root.children 0 None root.node_id in let few = bodies_fit root.children in omega arith
