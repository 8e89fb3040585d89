-- What each step of the walk does, and the whole walk.
use Rattle.std.specs.Prelude.{List, [], ◌∷◌}
use Rattle.semantic_syntax.specs.Writing.{bindings_taken_over}
use Rattle.semantic_tree.specs.Tree.{Tree}
use Rattle.semantic_model.specs.Declaration.{How, plain, hoisted, moved, caught, Declaration, stands_in}
use Rattle.semantic_model.specs.Step.{Step, entering, opening, header_ending, closing, leaving, steps}
use Rattle.semantic_model.specs.Event.{Event, declares, takes_over, ends_header, events_of, written_declarations}
use Rattle.semantic_model.specs.TablesOf.{numbers}
use Rattle.walk_model.specs.WalkState.{WalkState, nothing_made}
use Rattle.walk_model.specs.Declares.{declare, declare_anew}
use Rattle.walk_model.specs.Hoists.{hoist, declare_and_move}
use Rattle.walk_model.specs.Settles.{end_header, settle_rest}
use Rattle.walk_model.specs.Opens.{note_eval, note_reference, open_scope, close_scope}

abbrev pub declare_by : How → WalkState → Declaration → WalkState
declare_by plain w d = declare w d.route.target.number d.naming
declare_by hoisted w d = hoist w (numbers d.route.passed) d.route.target.number d.naming
declare_by moved w d = declare_and_move w (stands_in d) d.route.target.number d.naming
declare_by caught w d = declare_anew w d.route.target.number d.naming

-- what one event does
abbrev pub act : WalkState → Event → WalkState
act w (declares d) = declare_by d.how w d
act w (takes_over c b) = record w { tables = bindings_taken_over w.tables c b }
act w (ends_header c) = end_header w c

abbrev pub act_all : WalkState → List Event → WalkState
act_all w [] = w
act_all w (e ∷ es) = act_all (act w e) es

-- what comes before the events of a step
abbrev pub prepare : WalkState → Step → WalkState
prepare w (entering p) = note_eval (note_reference w p) p
prepare w (opening p s) = open_scope w p s
prepare w (header_ending p s) = w
prepare w (closing p s) = close_scope w s.number
prepare w (leaving p) = w

-- what one step does, among the written declarations of the program
abbrev pub after : List Declaration → WalkState → Step → WalkState
after ds w step = act_all (prepare w step) (events_of ds step)

-- what steps do in order
abbrev pub after_all : List Declaration → WalkState → List Step → WalkState
after_all ds w [] = w
after_all ds w (step ∷ more) = after_all ds (after ds w step) more

-- the walk over a program: its steps, and then what waits is settled
abbrev pub walked : Tree → WalkState
walked program = settle_rest (after_all (written_declarations (steps program)) nothing_made (steps program))
