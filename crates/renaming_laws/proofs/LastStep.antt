-- The program itself is left in the last step.
use Rattle.std.proofs.Common.{◌≡◌, ℕ, List, [], ◌∷◌, ◌++◌, Option, None, true, false, ◌&&◌, not, sym, subst, ◌∙◌}
use Rattle.std.proofs.lemmas.Bool.{not-true}
use Rattle.semantic_syntax.proofs.Truth.{and_first, and_second}
use Rattle.semantic_kinds.specs.Kinds.{same_kind}
use Rattle.semantic_kinds.specs.declared.kind.AstType.TheVariants as kind
use Rattle.semantic_tree.specs.Faults.{first_fault}
use Rattle.semantic_tree.specs.Forest.{Forest, nothing, tree}
use Rattle.semantic_tree.specs.Tree.{Tree}
use Rattle.semantic_tree.specs.Views.{is}
use Rattle.semantic_tree.specs.declared.node.Node.{Node}
use Rattle.semantic_model.specs.Cursor.{on_entering}
use Rattle.semantic_model.specs.Place.{Place, OpenScope}
use Rattle.semantic_model.specs.Step.{Step, entering, opening, header_ending, closing, leaving, steps_below, steps, root_place}
use Rattle.semantic_model.proofs.steps.EachStep.{EachStep, each_of_node, each_of_turn}
use Rattle.semantic_model.proofs.steps.Turn.{Turn, turn_at}
use Rattle.semantic_model.proofs.steps.TurnCases.{opening_case, ending_case, last_case}
use Rattle.walk_model.specs.Seated.{none_is_program}
use Rattle.walk_model.proofs.turns.Seats.{root_seated}

-- a step leaves no program
abbrev LeavesOther : Step → Type 0
LeavesOther (leaving p) = is kind.Program p.node ≡ false
LeavesOther (entering p) = Unit {0}
LeavesOther (opening p s) = Unit {0}
LeavesOther (header_ending p s) = Unit {0}
LeavesOther (closing p s) = Unit {0}

others_below : (p : Place) (own : Option OpenScope) (n cursor : ℕ) (f : Forest) → none_is_program f ≡ true → EachStep LeavesOther (steps_below p own n cursor f)
others_below p own n cursor nothing h = last_case (EachStep LeavesOther) p own n tt (tt, (tt, tt))
others_below p own n cursor (tree r k span text marks below id after) h =
    let node : Node = record { kind = k; span = span; text = text; marks = marks; children = below; node_id = id } in
    let turn : Turn = turn_at p own n cursor r node after in
    let both : (none_is_program below && none_is_program after) ≡ true = and_second (not (same_kind k kind.Program)) (none_is_program below && none_is_program after) h in
    each_of_turn LeavesOther turn (record {
      before = opening_case (EachStep LeavesOther) p r own n tt (tt, tt);
      whole = each_of_node LeavesOther turn.child turn.below tt (others_below turn.child None turn.next turn.inner below (and_first (none_is_program below) (none_is_program after) both)) (not-true (same_kind k kind.Program) (and_first (not (same_kind k kind.Program)) (none_is_program below && none_is_program after) h));
      behind = ending_case (EachStep LeavesOther) p r turn.scope after tt (λ s. (tt, tt)) (λ s. (tt, tt)) (λ s. (tt, (tt, tt)));
      others = others_below p turn.scope turn.rest turn.past after (and_second (none_is_program below) (none_is_program after) both);
    })

left_last : (xs before rest : List Step) (u r : Place) → EachStep LeavesOther xs → before ++ leaving u ∷ rest ≡ xs ++ leaving r ∷ [] → is kind.Program u.node ≡ true → (rest ≡ []) × (u ≡ r)
left_last [] [] rest u r h e k = (cc, cc)
left_last [] (b ∷ bs) rest u r h e k = absurd (too_long bs (tail_is b (leaving r) (bs ++ leaving u ∷ rest) [] e))
  where
    tail_is : (x y : Step) (xs ys : List Step) → ◌≡◌ {A = List Step} (x ∷ xs) (y ∷ ys) → xs ≡ ys
    tail_is x y xs ys q = cc

    too_long : (bs : List Step) → bs ++ leaving u ∷ rest ≡ [] → ⊥
    too_long [] q = absurd cc
    too_long (b ∷ bs) q = absurd cc
left_last (x ∷ xs) [] rest u r h e k = absurd (never x h.0 (head_is (leaving u) x rest (xs ++ leaving r ∷ []) e))
  where
    head_is : (x y : Step) (xs ys : List Step) → ◌≡◌ {A = List Step} (x ∷ xs) (y ∷ ys) → x ≡ y
    head_is x y xs ys q = cc

    no : true ≡ false → ⊥
    no q = absurd cc

    never : (x : Step) → LeavesOther x → leaving u ≡ x → ⊥
    never x w q = no (sym k ∙ subst LeavesOther (sym q) w)
left_last (x ∷ xs) (b ∷ bs) rest u r h e k = left_last xs bs rest u r h.1 (tail_is b x (bs ++ leaving u ∷ rest) (xs ++ leaving r ∷ []) e) k
  where
    tail_is : (x y : Step) (xs ys : List Step) → ◌≡◌ {A = List Step} (x ∷ xs) (y ∷ ys) → xs ≡ ys
    tail_is x y xs ys q = cc

pub program_is_last : (q : Tree) → first_fault q ≡ None → (before rest : List Step) (u : Place) → before ++ leaving u ∷ rest ≡ steps q → is kind.Program u.node ≡ true → (rest ≡ []) × (u ≡ root_place q)
program_is_last q faultless before rest u e k =
    let root : Place = root_place q in
    left_last (entering root ∷ steps_below root None 0 (on_entering q.root.kind 0) q.root.children) before rest u root
    (tt, others_below root None 0 (on_entering q.root.kind 0) q.root.children (root_seated q faultless).free) e k
