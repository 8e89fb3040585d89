-- A walker that goes over a program from its root, whose scope is open, tells the diagnostics of the program.
use Rattle.std.proofs.Common.{◌≡◌, ℕ, List, [], ◌∷◌, ◌++◌, Some, None, Bool, refl, sym, ap, ◌∙◌, map, length, arith}
use Rattle.std.specs.Prelude.{drop}
use Rattle.std.specs.Str.{encode_utf8_all}
use Rattle.std.proofs.lemmas.List.{append-nil}
use Rattle.semantic_tree.specs.Forest.{Forest, nothing, tree}
use Rattle.semantic_tree.specs.Tree.{Tree, IsNumbered}
use Rattle.semantic_tree.specs.Faults.{first_fault}
use Rattle.semantic_kinds.specs.declared.kind.AstType.TheVariants as kind
use Rattle.semantic_diagnostics.specs.declared.diagnostic.Diagnostic.{Diagnostic}
use Rattle.semantic_model.specs.Place.{Place}
use Rattle.semantic_model.specs.Cursor.{on_entering}
use Rattle.semantic_model.specs.Declaration.{Declaration}
use Rattle.semantic_model.specs.Event.{written_declarations}
use Rattle.semantic_model.specs.Fold.{Conflict}
use Rattle.semantic_model.specs.Step.{Step, entering, opening, closing, leaving, steps_below, root_place, steps}
use Rattle.walk_model.specs.WalkState.{WalkState, nothing_made}
use Rattle.walk_model.specs.Opens.{open_scope}
use Rattle.walk_model.specs.Walks.{after, after_all, walked}
use Rattle.walk_model.proofs.turns.RootSteps.{root_enters, root_scope, root_made, root_walked}
use Rattle.walk_model.proofs.turns.Seats.{root_is_program}
use Rattle.check_model.specs.DiagnosticsOf.{conflict_diagnostic, diagnostics_of}
use Rattle.check_walk.specs.Telling.{noted_since, told_over, rows_in, steps_within}
use Rattle.check_walk.specs.SoFar.{Telling, so_far, CountedAreTold}
use Rattle.check_walk.specs.TellingAlong.{telling_first, telling_within, telling_whole}
use Rattle.check_walk.proofs.Along.{past_tells, along_makes, along_counts, along_tells}
use Rattle.check_walk.proofs.Noting.{prepares, quiet_rows, drop_all}
use Rattle.check_walk.proofs.Tells.{tells}

-- a program's scope binds nothing when it opens
opens_plainly : (ds : List Declaration) (p : Place) → p.node.kind ≡ kind.Program → root_made ds p ≡ open_scope nothing_made p (root_scope p)
opens_plainly ds p e = rw e refl

-- entering the root tells nothing
entering_told : (checks : Bool) (source : List ℕ) (ds : List Declaration) (p : Place) (ss : List Step) → p.node.kind ≡ kind.Program
    → told_over checks source ds nothing_made (entering p ∷ ss) ≡ told_over checks source ds nothing_made ss
entering_told checks source ds p ss e =
    ap (λ (w : WalkState). map conflict_diagnostic (noted_since nothing_made w) ++ rows_in checks source w (entering p) ++ told_over checks source ds w ss) (root_enters ds nothing_made p e)
    ∙ ap (λ (rows : List Diagnostic). rows ++ told_over checks source ds nothing_made ss) (quiet_rows checks source nothing_made (entering p) tt)

-- opening its scope neither
opening_told : (checks : Bool) (source : List ℕ) (ds : List Declaration) (p : Place) (ss : List Step) → p.node.kind ≡ kind.Program
    → told_over checks source ds nothing_made (opening p (root_scope p) ∷ ss) ≡ told_over checks source ds (root_made ds p) ss
opening_told checks source ds p ss e =
    ap (λ (w : WalkState). map conflict_diagnostic (noted_since nothing_made w) ++ rows_in checks source (root_made ds p) (opening p (root_scope p)) ++ told_over checks source ds (root_made ds p) ss) (opens_plainly ds p e)
    ∙ ap (λ (rows : List Diagnostic). rows ++ told_over checks source ds (root_made ds p) ss) (quiet_rows checks source (root_made ds p) (opening p (root_scope p)) tt)

-- nor closing it
closing_told : (checks : Bool) (source : List ℕ) (ds : List Declaration) (p : Place) (w : WalkState) → told_over checks source ds w (closing p (root_scope p) ∷ []) ≡ []
closing_told checks source ds p w =
    let now : WalkState = after ds w (closing p (root_scope p)) in
    ap (λ (cs : List Conflict). map conflict_diagnostic (drop (length w.conflicts) cs) ++ rows_in checks source now (closing p (root_scope p)) ++ []) (prepares w (closing p (root_scope p)))
    ∙ ap (λ (cs : List Conflict). map conflict_diagnostic cs ++ rows_in checks source now (closing p (root_scope p)) ++ []) (drop_all w.conflicts)
    ∙ ap (λ (rows : List Diagnostic). rows ++ []) (quiet_rows checks source now (closing p (root_scope p)) tt)

-- what is told below the root is as if its scope had been open before
below_told : (checks : Bool) (source : List ℕ) (ds : List Declaration) (p : Place) (cursor : ℕ) (f : Forest) → p.node.kind ≡ kind.Program
    → told_over checks source ds nothing_made (steps_below p None 0 cursor f) ≡ told_over checks source ds (root_made ds p) (steps_below p (Some (root_scope p)) 1 cursor f)
below_told checks source ds p cursor nothing e =
    ap (told_over checks source ds nothing_made) opens_last ∙ opening_told checks source ds p (closing p (root_scope p) ∷ []) e ∙ closing_told checks source ds p (root_made ds p)
  where
    opens_last : steps_below p None 0 cursor nothing ≡ opening p (root_scope p) ∷ closing p (root_scope p) ∷ []
    opens_last = rw e refl
below_told checks source ds p cursor (tree r k span text marks below id after) e =
    ap (told_over checks source ds nothing_made) opens_first ∙ opening_told checks source ds p (steps_below p (Some (root_scope p)) 1 cursor (tree r k span text marks below id after)) e
  where
    opens_first : steps_below p None 0 cursor (tree r k span text marks below id after) ≡ opening p (root_scope p) ∷ steps_below p (Some (root_scope p)) 1 cursor (tree r k span text marks below id after)
    opens_first = rw e refl

pub whole_told : (checks : Bool) (p : Tree) → first_fault p ≡ None → IsNumbered p.root → so_far (telling_whole checks p (walked p)) ≡ diagnostics_of checks p
whole_told checks p h e =
    let source : List ℕ = encode_utf8_all p.source in
    let ds : List Declaration = written_declarations (steps p) in
    let root : Place = root_place p in
    let is : p.root.kind ≡ kind.Program = root_is_program p h in
    let below : List Step = steps_below root (Some (root_scope root)) 1 (on_entering p.root.kind 0) p.root.children in
    let opened : WalkState = open_scope nothing_made root (root_scope root) in
    let first : Telling = record (telling_first p) { made = after ds opened (entering root) } in
    let within : Telling = telling_within checks p in
    let settled : Telling = record within { made = walked p } in
    let enters : first.made ≡ root_made ds root = root_enters ds opened root is ∙ sym (opens_plainly ds root is) in
    let nothing_yet : so_far first ≡ [] = ap (λ (w : WalkState). map conflict_diagnostic w.conflicts) (root_enters ds opened root is) in
    let made : within.made ≡ after_all ds (root_made ds root) below = along_makes checks source ds first below ∙ ap (λ (w : WalkState). after_all ds w below) enters in
    let conflicts : (walked p).conflicts ≡ within.made.conflicts = ap (λ (w : WalkState). w.conflicts) (root_walked p is) ∙ ap (λ (w : WalkState). w.conflicts) (sym made) in
    let counted : CountedAreTold within = along_counts checks source ds first below (omega arith) in
    let counts : CountedAreTold settled = omega (arith, counted, ap length conflicts) in
    let same : so_far settled ≡ so_far within = ap (λ (cs : List Conflict). within.said ++ map conflict_diagnostic (drop within.counted cs)) conflicts in
    let so_much : so_far within ≡ told_over checks source ds nothing_made (steps_within p) =
    along_tells checks source ds first below (omega arith)
    ∙ ap (λ (l : List Diagnostic). l ++ told_over checks source ds first.made below) nothing_yet
    ∙ ap (λ (w : WalkState). told_over checks source ds w below) enters
    ∙ sym (below_told checks source ds root (on_entering p.root.kind 0) p.root.children is)
    ∙ sym (entering_told checks source ds root (steps_below root None 0 (on_entering p.root.kind 0) p.root.children) is) in
    let last : told_over checks source ds (walked p) (leaving root ∷ []) ≡ rows_in checks source (walked p) (leaving root) =
    ap (λ (cs : List Conflict). map conflict_diagnostic cs ++ rows_in checks source (walked p) (leaving root) ++ []) (drop_all (walked p).conflicts) ∙ append-nil (rows_in checks source (walked p) (leaving root)) in
    past_tells checks source ds settled (leaving root) counts
    ∙ (λ i. (same ∙ so_much) i ++ last i)
    ∙ tells checks p h e
