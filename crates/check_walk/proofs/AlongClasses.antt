-- Along the steps of a walk each node is left with the classes that its checks look at.
use Rattle.std.proofs.Common.{◌≡◌, ℕ, List, [], ◌∷◌, ◌++◌, Bool, true, false, ◌&&◌, not, cond, Option, None, Some, refl, sym, ap, subst, ◌∙◌}
use Rattle.semantic_kinds.specs.declared.role.Role.{Role}
use Rattle.semantic_kinds.specs.declared.kind.AstType.TheVariants as kind
use Rattle.semantic_kinds.specs.Kinds.{same_kind}
use Rattle.semantic_tree.specs.Forest.{Forest, nothing, tree}
use Rattle.semantic_tree.specs.Tree.{Tree}
use Rattle.semantic_tree.specs.Faults.{first_fault}
use Rattle.semantic_tree.specs.declared.node.Node.{Node}
use Rattle.semantic_tree.specs.Views.{has_role}
use Rattle.semantic_model.specs.Inside.{opens, is_inside, any_inside, header_roles, is_in_header}
use Rattle.semantic_model.specs.Place.{Place, OpenScope}
use Rattle.semantic_model.specs.Cursor.{on_entering}
use Rattle.semantic_model.specs.ScopeKind.{opened_scope}
use Rattle.semantic_model.specs.Step.{Step, entering, opening, leaving, header_ending, closing, opening_at, ending_after, opening_last, steps_below, root_place, steps}
use Rattle.semantic_model.proofs.steps.Turn.{Turn, turn_at}
use Rattle.class_table.specs.Noted.{class_left, noted_below, class_entered, begun_builder}
use Rattle.class_table.specs.NotedSteps.{noting_step, noting_all}
use Rattle.class_table.specs.declared.builder.ClassTableBuilder.{ClassTableBuilder}
use Rattle.class_table.proofs.BodiesStand.{bodies_stand}
use Rattle.class_table.proofs.NotingSteps.{all_append, steps_note, noted_classes}
use Rattle.check_model.specs.SightOf.{elements_at, elements_if}
use Rattle.check_walk.specs.Showing.{ShowsClasses, ShowsBetween}
use Rattle.check_walk.specs.Telling.{steps_within}
use Rattle.check_walk.proofs.ClassForm.{classes_formed}
use Rattle.check_walk.proofs.ShownClasses.{begins, comes, turns, child_comes}

-- a step that leaves a node finds the classes that its checks look at
abbrev LeavesRightly : ClassTableBuilder → Step → Type 0
LeavesRightly b (leaving p) = ShowsClasses b.classes b.current_class_id p
LeavesRightly b (entering p) = Unit {0}
LeavesRightly b (opening p s) = Unit {0}
LeavesRightly b (header_ending p s) = Unit {0}
LeavesRightly b (closing p s) = Unit {0}

abbrev AllRightly : ClassTableBuilder → List Step → Type 0
AllRightly b [] = Unit {0}
AllRightly b (step ∷ more) = LeavesRightly b step × AllRightly (noting_step b step) more

rightly-append : (b : ClassTableBuilder) (xs ys : List Step) → AllRightly b xs → AllRightly (noting_all b xs) ys → AllRightly b (xs ++ ys)
rightly-append b [] ys h k = k
rightly-append b (x ∷ xs) ys h k = (h.0, rightly-append (noting_step b x) xs ys h.1 k)

-- steps that leave no node and note nothing
abbrev AreQuiet : List Step → Type 0
AreQuiet ss = (b : ClassTableBuilder) → AllRightly b ss × (noting_all b ss ≡ b)

opens_quietly : (p : Place) (r : Role) (own : Option OpenScope) (n : ℕ) → AreQuiet (opening_at p r own n)
opens_quietly p r (Some s) n b = (tt, refl)
opens_quietly p r None n b = by (is_inside p.node.kind r)
  where
    by : (c : Bool) → AllRightly b (cond c (opening p (opened_scope p n) ∷ []) []) × (noting_all b (cond c (opening p (opened_scope p n) ∷ []) []) ≡ b)
    by true = ((tt, tt), refl)
    by false = (tt, refl)

ends_quietly : (p : Place) (r : Role) (own : Option OpenScope) (after : Forest) → AreQuiet (ending_after p r own after)
ends_quietly p r None after b = (tt, refl)
ends_quietly p r (Some s) after b =
    by (is_in_header p.node.kind r && not (has_role (header_roles p.node.kind) after)) (is_inside p.node.kind r && not (any_inside p.node.kind after))
  where
    by : (c d : Bool) → AllRightly b (cond c (header_ending p s ∷ []) [] ++ cond d (closing p s ∷ []) []) × (noting_all b (cond c (header_ending p s ∷ []) [] ++ cond d (closing p s ∷ []) []) ≡ b)
    by true true = ((tt, (tt, tt)), refl)
    by true false = ((tt, tt), refl)
    by false true = ((tt, tt), refl)
    by false false = (tt, refl)

last_quietly : (p : Place) (own : Option OpenScope) (n : ℕ) → AreQuiet (opening_last p own n)
last_quietly p (Some s) n b = (tt, refl)
last_quietly p None n b = by (opens p.node.kind)
  where
    by : (c : Bool)
        → AllRightly b (cond c (opening p (opened_scope p n) ∷ closing p (opened_scope p n) ∷ []) []) × (noting_all b (cond c (opening p (opened_scope p n) ∷ closing p (opened_scope p n) ∷ []) []) ≡ b)
    by true = ((tt, (tt, tt)), refl)
    by false = (tt, refl)

-- a child, and then the others
turn : (b : ClassTableBuilder) (before mine behind later : List Step) → AreQuiet before → AreQuiet behind
    → noting_all b (before ++ mine ++ behind ++ later) ≡ noting_all (noting_all b mine) later
turn b before mine behind later quiet still =
    all_append b (before ++ mine ++ behind) later
    ∙ ap (λ x. noting_all x later) (all_append b (before ++ mine) behind ∙ (still (noting_all b (before ++ mine))).1 ∙ all_append b before mine ∙ ap (λ x. noting_all x mine) (quiet b).1)

turn_rightly : (b : ClassTableBuilder) (before mine behind later : List Step) → AreQuiet before → AreQuiet behind → AllRightly b mine → AllRightly (noting_all b mine) later → AllRightly b (before ++ mine ++ behind ++ later)
turn_rightly b before mine behind later quiet still h k =
    let one : noting_all b (before ++ mine) ≡ noting_all b mine = all_append b before mine ∙ ap (λ x. noting_all x mine) (quiet b).1 in
    let two : noting_all b (before ++ mine ++ behind) ≡ noting_all b mine = all_append b (before ++ mine) behind ∙ (still (noting_all b (before ++ mine))).1 ∙ one in
    rightly-append b (before ++ mine ++ behind) later
    (rightly-append b (before ++ mine) behind (rightly-append b before mine (quiet b).0 (subst (λ x. AllRightly x mine) (sym (quiet b).1) h)) (still (noting_all b (before ++ mine))).0)
    (subst (λ x. AllRightly x later) (sym two) k)

-- the steps below a place
steps_shown : (f : Forest) (p : Place) (own : Option OpenScope) (n cursor : ℕ) (b : ClassTableBuilder) → ShowsBetween b p f
    → AllRightly b (steps_below p own n cursor f) × ShowsBetween (noting_all b (steps_below p own n cursor f)) p nothing
steps_shown nothing p own n cursor b h =
    let quiet = last_quietly p own n b in
    (quiet.0, subst (λ (x : ClassTableBuilder). ShowsClasses x.classes x.current_class_id p) (sym quiet.1) h)
steps_shown (tree r k span text marks below id after) p own n cursor b h =
    let here : Node = record { kind = k; span = span; text = text; marks = marks; children = below; node_id = id } in
    let parts : Turn = turn_at p own n cursor r here after in
    let into : ClassTableBuilder = class_entered p.node.kind p.node.node_id here b in
    let x : ClassTableBuilder = noting_all into parts.below in
    let shape = child_comes b p r here after h in
    let under = steps_shown below parts.child None parts.next parts.inner into (comes b parts.child shape.0 shape.1 h.around) in
    let walked : noting_all b parts.whole ≡ class_left k x = all_append into parts.below (leaving parts.child ∷ []) in
    let noted : class_left k (noted_below k id below into) ≡ noting_all b parts.whole = ap (class_left k) (sym (steps_note below parts.child None parts.next parts.inner into)) ∙ sym walked in
    let rest = steps_shown after p parts.scope parts.rest parts.past (noting_all b parts.whole) (subst (λ y. ShowsBetween y p after) noted (turns b p r here after h)) in
    let own_steps : AllRightly b parts.whole = (tt, rightly-append into parts.below (leaving parts.child ∷ []) under.0 (under.1, tt)) in (
      turn_rightly b parts.before parts.whole parts.behind parts.others (opens_quietly p r own n) (ends_quietly p r parts.scope after) own_steps rest.0,
      subst (λ (y : ClassTableBuilder). ShowsClasses y.classes y.current_class_id p) (sym (turn b parts.before parts.whole parts.behind parts.others (opens_quietly p r own n) (ends_quietly p r parts.scope after))) rest.1,
    )

-- the steps of a program
program_shown : (p : Tree) → first_fault p ≡ None → AllRightly begun_builder (steps p)
program_shown p h =
    let formed = classes_formed p h in
    let root : Place = root_place p in
    let below : List Step = steps_below root None 0 (on_entering p.root.kind 0) p.root.children in
    let under = steps_shown p.root.children root None 0 (on_entering p.root.kind 0) begun_builder (comes begun_builder root formed.0 formed.1 begins) in
    (tt, rightly-append begun_builder below (leaving root ∷ []) under.0 (under.1, tt))

at_leaving : (b : ClassTableBuilder) (xs ys : List Step) (q : Place) → AllRightly b (xs ++ leaving q ∷ ys) → ShowsClasses (noting_all b xs).classes (noting_all b xs).current_class_id q
at_leaving b [] ys q h = h.0
at_leaving b (x ∷ xs) ys q h = at_leaving (noting_step b x) xs ys q h.1

pub leaves_rightly : (p : Tree) → first_fault p ≡ None → (xs ys : List Step) (q : Place) → steps p ≡ xs ++ leaving q ∷ ys → ShowsClasses (noting_all begun_builder xs).classes (noting_all begun_builder xs).current_class_id q
leaves_rightly p h xs ys q e = at_leaving begun_builder xs ys q (subst (AllRightly begun_builder) e (program_shown p h))

-- the elements of all classes, when the root is left
pub elements_shown : (p : Tree) → first_fault p ≡ None → (noting_all begun_builder (steps_within p)).classes.elements ≡ elements_at p.root
elements_shown p h =
    ap (λ (b : ClassTableBuilder). b.classes.elements) (steps_note p.root.children (root_place p) None 0 (on_entering p.root.kind 0) begun_builder ∙ noted_classes p h)
    ∙ ap (λ k. elements_if (same_kind k kind.Program) p.root) (sym (bodies_stand p h).0)
