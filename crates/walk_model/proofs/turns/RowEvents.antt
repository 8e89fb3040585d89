-- What the declarations of one row do, name by name.
use Rattle.std.proofs.Common.{◌≡◌, ℕ, List, [], ◌∷◌, ◌++◌, Option, Some, None, Bool, true, false, cond, refl, ap, ◌∙◌, map}
use Rattle.std.specs.Prelude.{fold, if◌then◌else◌}
use Rattle.semantic_tree.specs.declared.node.Node.{Node}
use Rattle.semantic_model.specs.Naming.{Naming}
use Rattle.semantic_model.specs.Place.{OpenScope, innermost, outside}
use Rattle.semantic_model.specs.Declaration.{plain, hoisted, moved, caught, Declaration, passed_before, first_with, route_from, outward_past, stands_in}
use Rattle.semantic_model.specs.Event.{Event, declares, placed, placed_by, staying_declaration, is_barred, declares_all}
use Rattle.semantic_model.specs.Binder.{BinderRow, declaration_at}
use Rattle.semantic_model.specs.TablesOf.{numbers}
use Rattle.walk_model.specs.WalkState.{WalkState}
use Rattle.walk_model.specs.Declares as writes
use Rattle.walk_model.specs.Hoists as reaches
use Rattle.walk_model.specs.Walks.{declare_by, act, act_all}

-- events, and then others
pub acts-append : (w : WalkState) (es fs : List Event) → act_all w (es ++ fs) ≡ act_all (act_all w es) fs
acts-append w [] fs = refl
acts-append w (e ∷ es) fs = acts-append (act w e) es fs

-- a block function is declared where it stands, and moves on to its target unless a namesake bars the way
pub acts_move : (ds : List Declaration) (w : WalkState) (d : Declaration) → d.how ≡ moved
    → act w (declares (placed ds d))
    ≡ cond (is_barred ds d (outside d.route.passed)) (writes.declare w (stands_in d) d.naming) (reaches.declare_and_move w (stands_in d) d.route.target.number d.naming)
acts_move ds w d e = ap (λ h. act w (declares (placed_by h ds d))) e ∙ by (is_barred ds d (outside d.route.passed))
  where
    by : (b : Bool) → act w (declares (if b then staying_declaration d else d)) ≡ cond b (writes.declare w (stands_in d) d.naming) (reaches.declare_and_move w (stands_in d) d.route.target.number d.naming)
    by true = refl
    by false = ap (λ h. declare_by h w d) e

module _ (ds : List Declaration) (node : Node) (row : BinderRow) (is_pure : Bool) where
  abbrev pub named : Node → Naming
  named name = (declaration_at node row is_pure name).naming

  abbrev pub row_events : List Node → List Event
  row_events names = declares_all ds (map (declaration_at node row is_pure) names)

  -- each is declared in the row's target
  pub acts_plain : (w : WalkState) (names : List Node) → row.how ≡ plain → act_all w (row_events names) ≡ fold (λ v d. writes.declare v row.route.target.number d) w (map named names)
  acts_plain w [] e = refl
  acts_plain w (name ∷ names) e =
      ap (λ v. act_all v (row_events names)) (here_plain w name) ∙ acts_plain (writes.declare w row.route.target.number (named name)) names e
    where
      here_plain : (v : WalkState) (x : Node) → act v (declares (placed ds (declaration_at node row is_pure x))) ≡ writes.declare v row.route.target.number (named x)
      here_plain v x = rw e refl

  -- each is declared as a `var` on the row's route
  pub acts_hoisted : (w : WalkState) (names : List Node) → row.how ≡ hoisted → act_all w (row_events names) ≡ fold (λ v d. reaches.hoist v (numbers row.route.passed) row.route.target.number d) w (map named names)
  acts_hoisted w [] e = refl
  acts_hoisted w (name ∷ names) e =
      ap (λ v. act_all v (row_events names)) (here_hoisted w name) ∙ acts_hoisted (reaches.hoist w (numbers row.route.passed) row.route.target.number (named name)) names e
    where
      here_hoisted : (v : WalkState) (x : Node) → act v (declares (placed ds (declaration_at node row is_pure x))) ≡ reaches.hoist v (numbers row.route.passed) row.route.target.number (named x)
      here_hoisted v x = rw e refl

  -- each is declared anew in the row's target
  pub acts_caught : (w : WalkState) (names : List Node) → row.how ≡ caught → act_all w (row_events names) ≡ fold (λ v d. writes.declare_anew v row.route.target.number d) w (map named names)
  acts_caught w [] e = refl
  acts_caught w (name ∷ names) e =
      ap (λ v. act_all v (row_events names)) (here_caught w name) ∙ acts_caught (writes.declare_anew w row.route.target.number (named name)) names e
    where
      here_caught : (v : WalkState) (x : Node) → act v (declares (placed ds (declaration_at node row is_pure x))) ≡ writes.declare_anew v row.route.target.number (named x)
      here_caught v x = rw e refl

  abbrev pub standing_of_row : ℕ
  standing_of_row = (innermost (row.route.passed ++ row.route.target ∷ [])).number

  -- it is declared where it stands, and moves on to the row's target unless a namesake bars the way
  abbrev pub move_one : WalkState → Node → WalkState
  move_one w x =
      cond (is_barred ds (declaration_at node row is_pure x) (outside row.route.passed))
      (writes.declare w standing_of_row (named x))
      (reaches.declare_and_move w standing_of_row row.route.target.number (named x))

  pub acts_moved : (w : WalkState) (names : List Node) → row.how ≡ moved → act_all w (row_events names) ≡ fold move_one w names
  acts_moved w [] e = refl
  acts_moved w (name ∷ names) e = ap (λ v. act_all v (row_events names)) (here_moved w name) ∙ acts_moved (move_one w name) names e
    where
      here_moved : (v : WalkState) (x : Node) → act v (declares (placed ds (declaration_at node row is_pure x))) ≡ move_one v x
      here_moved v x = acts_move ds v (declaration_at node row is_pure x) e

-- what moves from a place stands in its innermost scope
pub past_stands : (test : OpenScope → Bool) (s : OpenScope) (ss : List OpenScope) → innermost ((outward_past test (s ∷ ss)).passed ++ (outward_past test (s ∷ ss)).target ∷ []) ≡ s
past_stands test s ss = by (first_with test ss)
  where
    by : (o : Option OpenScope) → innermost ((route_from (s ∷ ss) (s ∷ passed_before test ss) o).passed ++ (route_from (s ∷ ss) (s ∷ passed_before test ss) o).target ∷ []) ≡ s
    by None = refl
    by (Some t) = refl
