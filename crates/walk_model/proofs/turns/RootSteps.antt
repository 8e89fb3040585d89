-- The walk over a program begins with the root's scope, and goes on with what stands in it.
use Rattle.std.proofs.Common.{◌≡◌, ℕ, List, [], ◌∷◌, Some, None, Bool, true, false, cond, refl, sym, ap, subst, ◌∙◌, arith}
use Rattle.semantic_kinds.specs.declared.kind.AstType.TheVariants as kind
use Rattle.semantic_syntax.specs.declared.scope_flags.TheConstants.ScopeFlags as flag
use Rattle.semantic_syntax.specs.Sets.{meets}
use Rattle.semantic_tree.specs.Forest.{Forest, nothing, tree}
use Rattle.semantic_tree.specs.Tree.{Tree}
use Rattle.semantic_syntax.specs.Reading.{scope_of}
use Rattle.semantic_model.specs.Place.{Place, OpenScope}
use Rattle.semantic_model.specs.ScopeKind.{opened_scope}
use Rattle.semantic_model.specs.Cursor.{on_entering}
use Rattle.semantic_model.specs.Declaration.{Declaration}
use Rattle.semantic_model.specs.Event.{written_declarations}
use Rattle.semantic_model.specs.Step.{entering, opening, steps_below, root_place, steps}
use Rattle.walk_model.specs.WalkState.{WalkState, nothing_made}
use Rattle.walk_model.specs.Settles.{settle_rest}
use Rattle.walk_model.specs.Opens.{innermost_number, close_scope}
use Rattle.walk_model.specs.Walks.{after, after_all, walked}
use Rattle.walk_model.proofs.turns.ChainsShown.{ShowsChain, opening_chain, after_count}
use Rattle.walk_model.proofs.turns.ChildTurns.{WalkStandsAt, node_turn}
use Rattle.walk_model.proofs.turns.HeaderStarts.{GoesOn, opening_goes}
use Rattle.walk_model.proofs.turns.KeptHeaderStarts.{HoldsAt, nothing_sound}

-- a program's own node declares nothing, and is no reference and no call
pub root_enters : (ds : List Declaration) (w : WalkState) (p : Place) → p.node.kind ≡ kind.Program → after ds w (entering p) ≡ w
root_enters ds w p e = rw e refl

-- the root's scope
abbrev pub root_scope : Place → OpenScope
root_scope p = opened_scope p 0

-- what is made once it is open
abbrev pub root_made : List Declaration → Place → WalkState
root_made ds p = after ds nothing_made (opening p (root_scope p))

-- a scope without a parent closes without more
lone_closes : (w : WalkState) (s : ℕ) → (scope_of w.tables s).parent ≡ None → close_scope w s ≡ w
lone_closes w s e = rw e (by (meets (scope_of w.tables s).flags.bits flag.DirectEval.bits))
  where
    by : (b : Bool) → cond b w w ≡ w
    by true = refl
    by false = refl

-- all below the root is as if its scope had been open before
pub root_below : (ds : List Declaration) (p : Place) (cursor : ℕ) (f : Forest) → p.node.kind ≡ kind.Program → p.chain ≡ []
    → after_all ds nothing_made (steps_below p None 0 cursor f) ≡ after_all ds (root_made ds p) (steps_below p (Some (root_scope p)) 1 cursor f)
root_below ds p cursor nothing e c =
    let shown : ShowsChain (root_made ds p).tables (root_scope p ∷ p.chain) = opening_chain ds nothing_made p (root_scope p) refl (subst (ShowsChain nothing_made.tables) (sym c) tt) in
    let lone : (scope_of (root_made ds p).tables 0).parent ≡ None = shown.0.parent ∙ ap innermost_number c in
    last ∙ lone_closes (root_made ds p) 0 lone
  where
    last : after_all ds nothing_made (steps_below p None 0 cursor nothing) ≡ close_scope (root_made ds p) 0
    last = rw e refl
root_below ds p cursor (tree r k span text marks below id after) e c = rw e refl

-- the walk over the steps of a program
pub root_steps : (ds : List Declaration) (program : Tree) → program.root.kind ≡ kind.Program
    → after_all ds nothing_made (steps program) ≡ after_all ds (root_made ds (root_place program)) (steps_below (root_place program) (Some (root_scope (root_place program))) 1 (on_entering program.root.kind 0) program.root.children)
root_steps ds program e =
    node_turn ds nothing_made (root_place program) 0
    ∙ ap (λ w. after_all ds w (steps_below (root_place program) None 0 (on_entering program.root.kind 0) program.root.children)) (root_enters ds nothing_made (root_place program) e)
    ∙ root_below ds (root_place program) (on_entering program.root.kind 0) program.root.children e refl

-- where the walk stands then
pub root_stands : (ds : List Declaration) (program : Tree) → WalkStandsAt (root_made ds (root_place program)) (root_place program) (Some (root_scope (root_place program))) 1
root_stands ds program =
    let p : Place = root_place program in
    record { count = omega (arith, after_count ds nothing_made (opening p (root_scope p) ∷ [])); chain = tt; shown = opening_chain ds nothing_made p (root_scope p) refl tt }

pub root_holds : (ds : List Declaration) (program : Tree) → HoldsAt (root_made ds (root_place program)) (Some (root_scope (root_place program))) 0
root_holds ds program =
    let p : Place = root_place program in
    let g : GoesOn 0 nothing_made (root_made ds p) = opening_goes ds 0 nothing_made p (root_scope p) tt (omega arith) nothing_sound in
    record { sound = g.sound; header = record { enough = omega arith; below = tt } }

-- the whole walk
pub root_walked : (program : Tree) → program.root.kind ≡ kind.Program
    → walked program
    ≡ settle_rest (after_all (written_declarations (steps program)) (root_made (written_declarations (steps program)) (root_place program)) (steps_below (root_place program) (Some (root_scope (root_place program))) 1 (on_entering program.root.kind 0) program.root.children))
root_walked program e = ap settle_rest (root_steps (written_declarations (steps program)) program e)
