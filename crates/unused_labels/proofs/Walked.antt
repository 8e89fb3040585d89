-- A walk finds the labels that no jump names.
use Rattle.std.proofs.Common.{◌≡◌, ℕ, List, [], ◌∷◌, ◌++◌, Bool, true, false, ◌&&◌, ◌||◌, not, cond, Option, Some, None, is_some, refl, sym, ap, ◌∙◌, append_assoc}
use Rattle.std.specs.Prelude.{bytes_eq}
use Rattle.std.proofs.lemmas.List.{append-nil}
use Rattle.semantic_syntax.specs.Tables.{Name}
use Rattle.semantic_syntax.proofs.Truth.{and_false}
use Rattle.semantic_kinds.specs.declared.kind.AstType.{AstType}
use Rattle.semantic_kinds.specs.declared.kind.AstType.TheVariants as kind
use Rattle.semantic_tree.specs.Forest.{Forest, nothing, tree}
use Rattle.semantic_tree.specs.declared.node.Node.{Node}
use Rattle.semantic_tree.specs.Views.{has_text, holds}
use Rattle.semantic_model.specs.Label.{label_of, is_jump, is_labelled, is_named_in, is_used, unused_in, unused_labels}
use Rattle.unused_labels.specs.LabelStack.{Labelled, LabelLists, no_labels, label_entered, label_left}
use Rattle.unused_labels.specs.Labelling.{label_met, node_entered, walked_below, used_where, used_by}
use Rattle.unused_labels.proofs.Innermost.{lists}
use Rattle.unused_labels.proofs.Used.{marked, used_nowhere, used_alike, used_twice, used_inside, used_by_jump, left_last}

-- a walk over a forest uses the labels that its jumps name, and adds the statements that it leaves without a use
abbrev pub Finds : Forest → Type 0
Finds f = (w : LabelLists) → walked_below f w ≡ lists (used_by f w.around) (w.unused ++ unused_in f)

jumps_apart : (k : AstType) → is_jump k ≡ true → is_labelled k ≡ false
jumps_apart kind.BreakStatement h = refl
jumps_apart kind.ContinueStatement h = refl
jumps_apart _ h = absurd cc

-- whether a jump of a node names the label
abbrev named_at : Bool → Bool → Option Node → Forest → Name → Bool
named_at jump labelled o below label = (jump && holds (has_text label) o) || (not (labelled && holds (has_text label) o) && is_named_in label below)

abbrev own_unused : Bool → Option Node → ℕ → Forest → List ℕ
own_unused labelled o id below = cond (labelled && not (is_used o below)) (id ∷ []) []

without : (jump labelled n : Bool) → n ≡ ((jump && false) || (not (labelled && false) && n))
without true true n = refl
without true false n = refl
without false true n = refl
without false false n = refl

flipped : (used : Bool) (id : ℕ) → cond used [] (id ∷ []) ≡ cond (not used) (id ∷ []) []
flipped true id = refl
flipped false id = refl

-- a node and what is below it
node_walked : (below : Forest) → Finds below → (jump labelled : Bool) → (jump ≡ true → labelled ≡ false) → (o : Option Node) (id : ℕ) (w : LabelLists)
    → (let inner : LabelLists = walked_below below (label_met jump labelled o id w) in cond (labelled && is_some o) (label_left inner) inner)
    ≡ lists (used_where (named_at jump labelled o below) w.around) (w.unused ++ (unused_in below ++ own_unused labelled o id below))
node_walked below ih jump labelled apart None id w =
    ap (λ c. cond c (label_left (walked_below below w)) (walked_below below w)) (and_false labelled)
    ∙ ih w
    ∙ ap (λ xs. lists xs (w.unused ++ unused_in below)) (used_alike (λ label. is_named_in label below) (named_at jump labelled None below) w.around (λ label. without jump labelled (is_named_in label below)))
    ∙ ap (λ us. lists (used_where (named_at jump labelled None below) w.around) (w.unused ++ us)) (sym (append-nil (unused_in below)) ∙ ap (λ c. unused_in below ++ cond c (id ∷ []) []) (sym (and_false labelled)))
node_walked below ih true true apart (Some label) id w = let q : true ≡ false = apart refl in absurd cc
node_walked below ih true false apart (Some label) id w =
    ih (record w { around = _ })
    ∙ ap (λ xs. lists (used_by below xs) (w.unused ++ unused_in below)) (used_by_jump label.text w.around)
    ∙ ap (λ xs. lists xs (w.unused ++ unused_in below)) (used_twice (λ name. bytes_eq label.text name) (λ name. is_named_in name below) w.around)
    ∙ ap (λ us. lists (used_where (named_at true false (Some label) below) w.around) (w.unused ++ us)) (sym (append-nil (unused_in below)))
node_walked below ih false true apart (Some label) id w =
    let inner : Labelled = record { name = label.text; used = false; node = id } in
    let used : Bool = is_named_in label.text below in
    ap label_left (ih (label_entered w label.text id) ∙ ap (λ xs. lists xs (w.unused ++ unused_in below)) (used_inside (λ name. is_named_in name below) w.around inner))
    ∙ left_last (used_where (named_at false true (Some label) below) w.around) (marked inner used) (w.unused ++ unused_in below)
    ∙ ap (lists (used_where (named_at false true (Some label) below) w.around))
    (append_assoc w.unused (unused_in below) (cond used [] (id ∷ [])) ∙ ap (λ us. w.unused ++ (unused_in below ++ us)) (flipped used id))
node_walked below ih false false apart (Some label) id w =
    ih w ∙ ap (λ us. lists (used_by below w.around) (w.unused ++ us)) (sym (append-nil (unused_in below)))

pub finds : (f : Forest) → Finds f
finds nothing w = λ i. lists (sym (used_nowhere w.around) i) (sym (append-nil w.unused) i)
finds (tree r k span text marks below id after) w =
    let here : Node = record { kind = k; span = span; text = text; marks = marks; children = below; node_id = id } in
    let test : Name → Bool = named_at (is_jump k) (is_labelled k) (label_of below) below in
    let own : List ℕ = own_unused (is_labelled k) (label_of below) id below in
    let first : LabelLists = lists (used_where test w.around) (w.unused ++ (unused_in below ++ own)) in
    ap (walked_below after) (node_walked below (finds below) (is_jump k) (is_labelled k) (jumps_apart k) (label_of below) id w)
    ∙ finds after first
    ∙ (λ i. lists (used_twice test (λ label. is_named_in label after) w.around i)
    ((append_assoc w.unused (unused_in below ++ own) (unused_in after) ∙ ap (λ us. w.unused ++ us) (append_assoc (unused_in below) own (unused_in after))) i))

-- the walk over a program
pub finds_all : (root : Node) → walked_below root.children no_labels ≡ lists [] (unused_labels root)
finds_all root = finds root.children no_labels

-- another node than a jump or a labelled statement changes nothing
pub others_met : (here : Node) (w : LabelLists) → (is_jump here.kind || is_labelled here.kind) ≡ false → node_entered here w ≡ w
others_met here w h = by (is_jump here.kind) (is_labelled here.kind) (label_of here.children) h
  where
    by : (jump labelled : Bool) (o : Option Node) → (jump || labelled) ≡ false → label_met jump labelled o here.node_id w ≡ w
    by false false None h = refl
    by false false (Some label) h = refl
    by true labelled o h = absurd cc
    by false true o h = absurd cc

pub ruleset met = (others_met)
