-- Below the root each node stands in some scope, and none is a program.
use Rattle.std.specs.Prelude.{◌≡◌, ℕ, List, Option, None, Bool, true, ◌&&◌, not}
use Rattle.semantic_kinds.specs.Kinds.{same_kind}
use Rattle.semantic_kinds.specs.declared.kind.AstType.TheVariants as kind
use Rattle.semantic_tree.specs.Forest.{Forest, nothing, tree}
use Rattle.semantic_model.specs.Place.{Place, OpenScope}
use Rattle.semantic_model.specs.Cursor.{on_entering}
use Rattle.semantic_model.specs.Step.{Step, entering, opening, header_ending, closing, leaving, steps_below}
use Rattle.semantic_model.specs.EachStep.{EachStep}
use Rattle.walk_model.specs.Shown.{HasVar, IsGrounded}

abbrev pub IsStepGrounded : Step → Type 0
IsStepGrounded (entering p) = IsGrounded p
IsStepGrounded (opening p s) = IsGrounded p
IsStepGrounded (header_ending p s) = Unit {0}
IsStepGrounded (closing p s) = Unit {0}
IsStepGrounded (leaving p) = Unit {0}

-- each place of the steps stands in a function's scope, or the like, or is the root
abbrev pub AllGrounded : List Step → Type 0
AllGrounded = EachStep IsStepGrounded

-- no node of the trees is a program
abbrev pub none_is_program : Forest → Bool
none_is_program nothing = true
none_is_program (tree r k span text marks below id after) = not (same_kind k kind.Program) && (none_is_program below && none_is_program after)

-- what is left of a place: its steps are grounded, and no program is among its nodes
pub record IsSeated (p : Place) (own : Option OpenScope) (n cursor : ℕ) (f : Forest) : Type 0 where
  pub grounded : AllGrounded (steps_below p own n cursor f)
  pub free : none_is_program f ≡ true

-- a node below the root: it stands in some scope, is no program, and what is below it is seated too
pub record IsSeat (p : Place) (n : ℕ) : Type 0 where
  pub var : HasVar p.chain
  pub other : p.node.kind ≡ kind.Program → ⊥
  pub below : IsSeated p None n (on_entering p.node.kind p.cursor) p.node.children
