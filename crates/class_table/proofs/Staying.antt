-- A class stays current until its node is left: by the shape nothing comes between that and the end of its body.
use Rattle.std.proofs.Common.{◌≡◌, ℕ, ◌+◌, Bool, true, false, ◌&&◌, not, cond, Option, Some, length, refl, sym, ap, ◌∙◌, arith, inl, inr}
use Rattle.std.proofs.lemmas.Bool.{cases_Bool}
use Rattle.semantic_syntax.proofs.Truth.{and_first, and_second}
use Rattle.semantic_kinds.specs.Kinds.{same_kind}
use Rattle.semantic_kinds.specs.declared.kind.AstType.{AstType}
use Rattle.semantic_kinds.specs.declared.kind.AstType.TheVariants as kind
use Rattle.semantic_tree.specs.Forest.{Forest, nothing, tree}
use Rattle.semantic_tree.specs.declared.node.Node.{Node}
use Rattle.semantic_model.specs.Class.{uses_below, body_count, classes_below}
use Rattle.semantic_model.proofs.form.Clauses.{kind_is}
use Rattle.class_table.specs.Lists.{ClassLists}
use Rattle.class_table.specs.Building.{popped}
use Rattle.class_table.specs.Noted.{noting_in, class_entered, class_left, noted_below}
use Rattle.class_table.specs.Bodies.{is_nothing, ends_with_body, has_no_body, end_rightly, all_end_rightly, current_behind}
use Rattle.class_table.specs.Told.{lists_with, FitCurrent, current_elements}
use Rattle.class_table.specs.declared.builder.ClassTableBuilder.{ClassTableBuilder}
use Rattle.class_table.proofs.Telling.{told_nothing}
use Rattle.class_table.proofs.Noting.{left_body, noted_bodies, told_tree, tree_open, tree_length, tree_joined, fits_tree, notes}

-- behind a class both walks are the same; among its children the one has to be popped yet
abbrev pub Agrees : Forest → Type 0
Agrees f =
    (parent : AstType) (node : ℕ) (b : ClassTableBuilder)
    → (has_no_body f ≡ true → noted_below parent node f b ≡ noted_bodies parent node f b) × (ends_with_body f ≡ true → popped (noted_below parent node f b) ≡ noted_bodies parent node f b)

-- below a node: once the node is left, if it is no body
tree_left : (k : AstType) (id : ℕ) (below : Forest) (b : ClassTableBuilder) → Agrees below → end_rightly k below ≡ true → class_left k (noted_below k id below b) ≡ noted_bodies k id below b
tree_left k id below b ih h = by (same_kind k kind.Class) h
  where
    by : (c : Bool) → cond c (ends_with_body below) (has_no_body below) ≡ true → cond c (popped (noted_below k id below b)) (noted_below k id below b) ≡ noted_bodies k id below b
    by true e = (ih k id b).1 e
    by false e = (ih k id b).0 e

-- a body is no class
body_open : (k : AstType) (b : ClassTableBuilder) → same_kind k kind.ClassBody ≡ true → class_left k b ≡ b
body_open k b e = ap (λ q. class_left q b) (kind_is k kind.ClassBody e)

none_after : (f : Forest) (parent : AstType) (node : ℕ) (b : ClassTableBuilder) → is_nothing f ≡ true → (noted_below parent node f b ≡ b) × (noted_bodies parent node f b ≡ b)
none_after nothing parent node b h = (refl, refl)
none_after (tree r k span text marks below id after) parent node b h = absurd cc

no_body : (b more : Bool) → (not b && more) ≡ true → b ≡ false
no_body false more h = refl
no_body true more h = absurd cc

pub agrees : (f : Forest) → all_end_rightly f ≡ true → Agrees f
agrees nothing h parent node b = (λ e. refl, λ e. absurd cc)
agrees (tree r k span text marks below id after) h parent node b =
    let here : Node = record { kind = k; span = span; text = text; marks = marks; children = below; node_id = id } in
    let into : ClassTableBuilder = class_entered parent node here b in
    let X : ClassTableBuilder = noted_below k id below into in
    let Y : ClassTableBuilder = noted_bodies k id below into in
    let own : end_rightly k below ≡ true = and_first (end_rightly k below) _ h in
    let rest : (all_end_rightly below && all_end_rightly after) ≡ true = and_second (end_rightly k below) _ h in
    let step : class_left k X ≡ Y = tree_left k id below into (agrees below (and_first (all_end_rightly below) _ rest)) own in
    let later = agrees after (and_second (all_end_rightly below) _ rest) parent node (class_left k X) in
    let same : (c : Bool) → same_kind k kind.ClassBody ≡ c → left_body k Y ≡ cond c (popped Y) Y = λ c q. ap (λ c. cond c (popped Y) Y) q in (
      λ e.
          later.0 (and_second (not (same_kind k kind.ClassBody)) _ e)
          ∙ ap (noted_bodies parent node after) (step ∙ sym (same false (no_body (same_kind k kind.ClassBody) (has_no_body after) e))),
      λ e. elim (cases_Bool (same_kind k kind.ClassBody)) [
        | inl q ↦
            (let alone : is_nothing after ≡ true = rw q at e in
            ap popped ((none_after after parent node (class_left k X) alone).0 ∙ step)
            ∙ sym (same true q)
            ∙ sym (none_after after parent node (left_body k Y) alone).1)
        | inr q ↦
            (let ends : ends_with_body after ≡ true = rw q at e in
            later.1 ends ∙ ap (noted_bodies parent node after) (step ∙ sym (same false q)))
      ],
    )

-- nothing is told more
none_told : (f : Forest) (parent : AstType) (node : ℕ) (current : Option ℕ) (lists : ClassLists) → is_nothing f ≡ true
    → lists_with lists current (uses_below (current_elements lists current) parent f) (classes_below (length lists.nodes) current node f) ≡ lists
none_told nothing parent node current lists h = told_nothing lists current
none_told (tree r k span text marks below id after) parent node current lists h = absurd cc

-- a walk below a parent, up to the end of its children
abbrev pub NotesOpen : AstType → ℕ → Option ℕ → ClassLists → Forest → Type 0
NotesOpen parent node current lists f =
    noted_below parent node f (noting_in current lists)
    ≡ noting_in (current_behind (length lists.nodes) current f) (lists_with lists current (uses_below (current_elements lists current) parent f) (classes_below (length lists.nodes) current node f))

-- the children of a class
pub notes_class : (f : Forest) → all_end_rightly f ≡ true → ends_with_body f ≡ true → (parent : AstType) (node : ℕ) (current : Option ℕ) (lists : ClassLists) → FitCurrent lists current → NotesOpen parent node current lists f
notes_class nothing h e parent node current lists fits = absurd cc
notes_class (tree r k span text marks below id after) h e parent node current lists fits =
    let here : Node = record { kind = k; span = span; text = text; marks = marks; children = below; node_id = id } in
    let into : ClassTableBuilder = class_entered parent node here (noting_in current lists) in
    let n = length lists.nodes in
    let b = same_kind k kind.ClassBody in
    let lists1 = told_tree lists current parent node here in
    let own : end_rightly k below ≡ true = and_first (end_rightly k below) _ h in
    let rest : (all_end_rightly below && all_end_rightly after) ≡ true = and_second (end_rightly k below) _ h in
    let walked : class_left k (noted_below k id below into) ≡ noting_in (cond b (Some n) current) lists1 =
    tree_left k id below into (agrees below (and_first (all_end_rightly below) _ rest)) own ∙ tree_open parent node current lists here (notes below) fits in
    let joined = tree_joined parent node current lists r here after fits in
    let place = tree_length parent node current lists here in
    elim (cases_Bool b) [
      | inl q ↦
          (let alone : is_nothing after ≡ true = rw q at e in
          (none_after after parent node (class_left k (noted_below k id below into)) alone).0
          ∙ walked
          ∙ ap (λ c. noting_in (cond c (Some n) current) lists1) q
          ∙ ap (noting_in (Some n)) (sym (none_told after parent node current lists1 alone) ∙ joined)
          ∙ ap (λ c. noting_in (cond c (Some n) (current_behind (n + body_count below) current after)) (lists_with lists current (uses_below (current_elements lists current) parent (tree r k span text marks below id after)) (classes_below n current node (tree r k span text marks below id after)))) (sym q))
      | inr q ↦
          (let ends : ends_with_body after ≡ true = rw q at e in
          let numbered : length lists1.nodes ≡ n + body_count below = place ∙ ap (λ c. n + cond c 1 0 + body_count below) q ∙ omega arith in
          ap (noted_below parent node after) (walked ∙ ap (λ c. noting_in (cond c (Some n) current) lists1) q)
          ∙ notes_class after (and_second (all_end_rightly below) _ rest) ends parent node current lists1 (fits_tree parent node current lists here fits)
          ∙ ap (noting_in (current_behind (length lists1.nodes) current after)) joined
          ∙ ap (λ m. noting_in (current_behind m current after) (lists_with lists current (uses_below (current_elements lists current) parent (tree r k span text marks below id after)) (classes_below n current node (tree r k span text marks below id after)))) numbered
          ∙ ap (λ c. noting_in (cond c (Some n) (current_behind (n + body_count below) current after)) (lists_with lists current (uses_below (current_elements lists current) parent (tree r k span text marks below id after)) (classes_below n current node (tree r k span text marks below id after)))) (sym q))
    ]

none_current : (f : Forest) (n : ℕ) (current : Option ℕ) → has_no_body f ≡ true → current_behind n current f ≡ current
none_current nothing n current h = refl
none_current (tree r k span text marks below id after) n current h =
    ap (λ c. cond c (Some n) (current_behind (n + body_count below) current after)) (no_body (same_kind k kind.ClassBody) (has_no_body after) h)
    ∙ none_current after (n + body_count below) current (and_second (not (same_kind k kind.ClassBody)) _ h)

-- the children of another node
pub notes_other : (f : Forest) → all_end_rightly f ≡ true → has_no_body f ≡ true → (parent : AstType) (node : ℕ) (current : Option ℕ) (lists : ClassLists) → FitCurrent lists current
    → noted_below parent node f (noting_in current lists) ≡ noting_in current (lists_with lists current (uses_below (current_elements lists current) parent f) (classes_below (length lists.nodes) current node f))
notes_other f h e parent node current lists fits = (agrees f h parent node (noting_in current lists)).0 e ∙ notes f parent node current lists fits

-- the children of a node of the kind
pub notes_open : (f : Forest) (k : AstType) → all_end_rightly f ≡ true → end_rightly k f ≡ true → (node : ℕ) (current : Option ℕ) (lists : ClassLists) → FitCurrent lists current → NotesOpen k node current lists f
notes_open f k h e node current lists fits = by (same_kind k kind.Class) e
  where
    by : (c : Bool) → cond c (ends_with_body f) (has_no_body f) ≡ true → NotesOpen k node current lists f
    by true d = notes_class f h d k node current lists fits
    by false d =
        notes_other f h d k node current lists fits
        ∙ ap (λ c. noting_in c (lists_with lists current (uses_below (current_elements lists current) k f) (classes_below (length lists.nodes) current node f))) (sym (none_current f (length lists.nodes) current d))
