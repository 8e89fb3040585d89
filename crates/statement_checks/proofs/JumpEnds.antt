-- What follows where a jump's search ends, and where it doesn't.
use Rattle.std.proofs.Common.{◌≡◌, List, Bool, true, false, ◌||◌, if◌then◌else◌, refl}
use Rattle.semantic_tree.specs.declared.node.Node.{Node}
use Rattle.semantic_tree.specs.Views.{is}
use Rattle.semantic_kinds.specs.declared.kind.AstType.TheVariants as kinds
use Rattle.semantic_diagnostics.specs.declared.diagnostic.Diagnostic.{Diagnostic}
use Rattle.check_model.specs.Jumps.{stops_jumps, ends_jump_search, met_rows}

ended_by : (boundary program : Bool) (one two left right : List Diagnostic) → (boundary || program) ≡ true → (if boundary then one else (if program then two else left)) ≡ (if boundary then one else (if program then two else right))
ended_by true program one two left right h = refl
ended_by false true one two left right h = refl
ended_by false false one two left right h = absurd cc

left_by : (boundary program : Bool) (one two rows : List Diagnostic) → (boundary || program) ≡ false → (if boundary then one else (if program then two else rows)) ≡ rows
left_by true program one two rows h = absurd cc
left_by false true one two rows h = absurd cc
left_by false false one two rows h = refl

-- at an end the target's rows don't matter
pub at_end : (rows other : Node → List Diagnostic) (label met : Node) → ends_jump_search met ≡ true → met_rows rows label met ≡ met_rows other label met
at_end rows other label met h = ended_by (stops_jumps met) (is kinds.Program met) _ _ (rows met) (other met) h

-- what is no end is the target
pub at_target : (rows : Node → List Diagnostic) (label met : Node) → ends_jump_search met ≡ false → met_rows rows label met ≡ rows met
at_target rows label met h = left_by (stops_jumps met) (is kinds.Program met) _ _ (rows met) h
