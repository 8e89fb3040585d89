use Rattle.std.proofs.Common.{◌≡◌, ◌≤◌, ℕ, Option, Some, None, true, length, ap, sym, subst, refl, List, ◌∙◌, arith}
use Rattle.semantic_syntax.specs.Counts.{raised}
use Rattle.semantic_syntax.specs.Tables.{Tables}
use Rattle.semantic_syntax.proofs.Results.{on_err}
use Rattle.semantic_tree.specs.Faults.{first_fault}
use Rattle.semantic_tree.specs.Shaped.{IsShaped}
use Rattle.semantic_tree.specs.Tree.{Tree, IsNumbered}
use Rattle.semantic_tree.proofs.ShapedLaws.{IsShaped-no_fault}
use Rattle.semantic_model.specs.Declaration.{Declaration}
use Rattle.semantic_model.specs.Event.{written_declarations}
use Rattle.semantic_model.specs.Moment.{UsesAreTies, StandsInOneList, BindingsAreSymbols, ListsBeginWithOwn}
use Rattle.semantic_model.specs.Place.{Place, OpenScope}
use Rattle.semantic_model.specs.Step.{root_place, steps}
use Rattle.semantic_tree.specs.declared.node.Node.{Node}
use Rattle.check_model.specs.DiagnosticsOf.{diagnostics_of}
use Rattle.check_walk.specs.SoFar.{so_far}
use Rattle.semantic_model.specs.TablesOf.{tables_of}
use Rattle.semantic_model.proofs.fits.Afterwards.{uses_are_ties, one_list, lists_begin}
use Rattle.semantic_model.proofs.bindings.Owned.{bindings_owned}
use Rattle.semantic_model.proofs.form.Shape.{has_form}
use Rattle.semantic_model.proofs.fits.TablesFit.{tables_fit}
use Rattle.semantic_diagnostics.specs.declared.diagnostic.Diagnostic.{Diagnostic}
use Rattle.walk_model.specs.Walks.{walked}
use Rattle.walk_model.proofs.turns.RootSteps.{root_scope}
use Rattle.promise.specs.Analysis.{FitsProgram, IsAnalysis}
use Rattle.semantic_walk.specs.Begun.{IsBegun}
use Rattle.semantic_walk.specs.AtPlace.{IsComing, IsEntered, left_at}
use Rattle.semantic_walk.specs.Leaving.{IsFit}
use Rattle.semantic_walk.specs.Walker.{Walker, telling_of}
use Rattle.semantic_walk.specs.declared.settings.Settings.{Settings}
use Rattle.semantic_walk.proofs.Beginning.{walk_comes, walk_ends, walk_leaves, walk_lists, walk_classes, walk_labels, root_within, root_over, root_tables, root_nodes}
use Rattle.semantic_walk.proofs.Root.{fit_last, shows_last, tells_all}
use Rattle.semantic_walk.proofs.RoomAt.{may_enter}
use Rattle.semantic_walk.proofs.TurnEnds.{on_ok}
use Rattle.semantic_walk.proofs.Counting.{on_success}
use Rattle.semantic_walk.proofs.RootCount.{root_over_asks, root_counts, root_given_up, end_given_up}
use Rattle.semantic_walk.proofs.analysis.run.Given as given
use Rattle.semantic_walk.proofs.analysis.run.Goals.{In_ok-enter}
use Rattle.semantic_walk.proofs.analysis.run.Goals as goal

through : (a b d : ℕ) → a ≤ b → b ≤ d → a ≤ d
through a b d h k = omega arith

-- what the steps of a program may name, and the scope of its root
abbrev names_of : Tree → List Declaration
names_of program = written_declarations (steps program)

abbrev root_own : Tree → Option OpenScope
root_own program = Some (root_scope (root_place program))

-- the walk begins at the root of a program without a fault
record Start (settings : Settings) (w : Walker) (program : Tree) : Type 0 where
  fits : first_fault program ≡ None
  begins : IsBegun settings w program
  coming : IsComing (names_of program) w (root_place program) (root_own program) 1

-- so it does once it has room, which makes no more
starts : (settings : Settings) (w v : Walker) (program : Tree) → IsShaped program → IsNumbered program.root → IsBegun settings w program → v ≡ w → Start settings v program
starts settings w v program shaped numbered h room =
    let begins : IsBegun settings v program = subst (λ (u : Walker). IsBegun settings u program) (sym room) h in
    record { fits = IsShaped-no_fault program shaped; begins = begins; coming = walk_comes program shaped numbered settings v begins }

-- there are ids for what the root declares
pub enter-requires-clause-ids : goal.enter-requires-clause-ids
enter-requires-clause-ids g c =
    let program : Tree = c.args.program.now in
    let start = starts c.args.settings c.args.walk.now c.reserve.new.self program c.root-root.ensures.shaped c.root-root.ensures.numbered c.requires c.reserve.ensures in
    may_enter (names_of program) c.reserve.new.self (root_place program) (root_own program) 1 c.root-root.result.node.now (sym c.root-root.ensures.root) start.coming

pub enter-requires-clause-kind : goal.enter-requires-clause-kind
enter-requires-clause-kind g c = c.of-doings.ensures ∙ c.ty.ensures

-- the root is a node of the program
module _ (g : given.Over) (c : In_ok-enter g) where
  begun_at : Start c.args.settings c.reserve.new.self c.args.program.now
  begun_at = starts c.args.settings c.args.walk.now c.reserve.new.self c.args.program.now c.root-root.ensures.shaped c.root-root.ensures.numbered c.requires c.reserve.ensures

  -- which the walk has entered
  entered_root : IsEntered (names_of c.args.program.now) c.reserve.new.self c.enter.new.self (root_place c.args.program.now) (root_own c.args.program.now) 1
  entered_root = record {
    coming = begun_at.coming;
    entered = c.in_ok-enter.ensures.walks (names_of c.args.program.now) (root_place c.args.program.now) (sym c.root-root.ensures.root) begun_at.coming.comes begun_at.coming.shown;
  }

pub walk_below-requires-clause-inside : goal.walk_below-requires-clause-inside
walk_below-requires-clause-inside g c =
    let program : Tree = c.args.program.now in
    record {
      ds = names_of program;
      first = c.reserve.new.self;
      place = root_place program;
      own = root_own program;
      next = 1;
      node_is = sym c.root-root.ensures.root;
      role_is = refl;
      inside = entered_root g (goal.at.walk_below-requires-clause-inside g c).In_ok-enter;
    }

pub walk_below-requires-clause-kind : goal.walk_below-requires-clause-kind
walk_below-requires-clause-kind g c = c.of-doings.ensures ∙ c.ty.ensures

pub leave-requires-clause-kind : goal.leave-requires-clause-kind
leave-requires-clause-kind g c = c.of-doings.ensures ∙ c.ty.ensures

-- and may be checked in the end
pub leave-requires-clause-fit : goal.leave-requires-clause-fit
leave-requires-clause-fit g c =
    let program : Tree = c.args.program.now in
    let at = (goal.at.leave-requires-clause-fit g c).In_ok-enter in
    let start = begun_at g at in
    subst (λ (x : Node). c.end.new.self.checks ≡ true → IsFit c.end.new.self x) (sym c.root-root.ensures.root)
    (fit_last program start.fits c.root-root.ensures.numbered c.args.settings c.reserve.new.self c.walk_below.new.self c.end.new.self start.begins
    (c.in_ok-walk_below.ensures.walks (names_of program) c.reserve.new.self (root_place program) (root_own program) 1 (sym c.root-root.ensures.root) refl (entered_root g at)) c.in_ok-end.ensures.made
    (c.in_ok-walk_below.ensures.leaves (names_of program) c.reserve.new.self (root_place program) (root_own program) 1 (sym c.root-root.ensures.root) refl (entered_root g at)))

module _ (g : given.Over) (c : goal.After-tell_rest g) where
  abbrev program : Tree
  program = c.args.program.now

  abbrev place : Place
  place = root_place program

  start : Start c.args.settings c.reserve.new.self program
  start = starts c.args.settings c.args.walk.now c.reserve.new.self program c.root-root.ensures.shaped c.root-root.ensures.numbered c.requires c.reserve.ensures

  entered : IsEntered (names_of program) c.reserve.new.self c.enter.new.self place (root_own program) 1
  entered = record { coming = start.coming; entered = c.in_ok-enter.ensures.walks (names_of program) place (sym c.root-root.ensures.root) start.coming.comes start.coming.shown }

  -- the walk goes over the whole program
  within : c.walk_below.new.self ≡ root_within program c.reserve.new.self
  within = c.in_ok-walk_below.ensures.walks (names_of program) c.reserve.new.self place (root_own program) 1 (sym c.root-root.ensures.root) refl entered

  -- and asks what its steps do
  asked : c.walk_below.new.steps ≡ raised c.args.steps.now (root_over_asks program c.reserve.new.self)
  asked = c.in_ok-walk_below.ensures.cost (names_of program) c.reserve.new.self place (root_own program) 1 (sym c.root-root.ensures.root) refl entered

  -- what it has made is what its definition says
  whole : c.end.new.self.made ≡ walked program
  whole = walk_ends program start.fits c.args.settings c.reserve.new.self c.walk_below.new.self c.end.new.self start.begins within c.in_ok-end.ensures.made

  left : c.leave.new.self ≡ left_at c.end.new.self place
  left = c.in_ok-leave.ensures.made place (sym c.root-root.ensures.root)
      (shows_last program start.fits c.root-root.ensures.numbered c.args.settings c.reserve.new.self c.walk_below.new.self c.end.new.self start.begins within c.in_ok-end.ensures.made
      (c.in_ok-walk_below.ensures.leaves (names_of program) c.reserve.new.self place (root_own program) 1 (sym c.root-root.ensures.root) refl entered))

  -- so is what it tells
  said : so_far (telling_of c.leave.new.self) ≡ diagnostics_of c.args.settings.checks program
  said = tells_all program start.fits c.root-root.ensures.numbered c.args.settings c.reserve.new.self c.walk_below.new.self c.end.new.self start.begins within c.in_ok-end.ensures.made c.leave.new.self left

  abbrev Told : Type 0
  Told = c.tell_rest.new.self ≡ record c.leave.new.self { said = so_far (telling_of c.leave.new.self); counted = length c.leave.new.self.made.conflicts }

  made_is : Told → c.tell_rest.new.self.made ≡ walked program
  made_is told = ap (λ (w : Walker). w.made) told ∙ ap (λ (w : Walker). w.made) left ∙ whole

  over : (c.leave.new.self.nodes ≡ (root_over program c.reserve.new.self).nodes) × (c.leave.new.self.notes ≡ (root_over program c.reserve.new.self).notes)
  over = walk_leaves program c.reserve.new.self c.walk_below.new.self c.end.new.self c.leave.new.self start.coming within c.in_ok-end.ensures.made left

  notes_are : Told → c.tell_rest.new.self.notes ≡ (root_over program c.reserve.new.self).notes
  notes_are told = ap (λ (w : Walker). w.notes) told ∙ over.1

  -- the program's tables are as the laws say, so these are
  analysed : (t : Tables) → t ≡ tables_of program → (diagnostics : List Diagnostic) → diagnostics ≡ diagnostics_of c.args.settings.checks program → IsAnalysis c.args.settings.checks program t diagnostics
  analysed t e diagnostics d = record {
    tables = e;
    fits = subst (FitsProgram program) (sym e) (tables_fit program start.fits);
    uses = subst UsesAreTies (sym e) (uses_are_ties program (tables_fit program start.fits).references_stand_once);
    lists = subst StandsInOneList (sym e) (one_list program (tables_fit program start.fits).references_stand_once);
    bindings = subst BindingsAreSymbols (sym e) (bindings_owned program (has_form program start.fits));
    redeclarations = subst ListsBeginWithOwn (sym e) (lists_begin program);
    told_of = d;
  }

pub returns-clause-analysis : goal.returns-clause-analysis
returns-clause-analysis g c = on_ok c.tell_rest.result c.tell_rest.ensures (λ told.
    analysed g c c.tell_rest.new.self.made.tables (root_tables c.args.program.now (start g c).fits c.tell_rest.new.self.made (made_is g c told))
    c.tell_rest.new.self.said (ap (λ (w : Walker). w.said) told ∙ said g c))

pub returns-clause-nodes : goal.returns-clause-nodes
returns-clause-nodes g c = on_ok c.tell_rest.result c.tell_rest.ensures (λ told. root_nodes c.args.program.now (start g c).fits c.root-root.ensures.numbered c.tell_rest.new.self.made (made_is g c told))

pub returns-clause-node_list : goal.returns-clause-node_list
returns-clause-node_list g c = on_ok c.tell_rest.result c.tell_rest.ensures (λ told.
    walk_lists c.args.program.now (start g c).fits c.args.settings c.reserve.new.self c.tell_rest.new.self (start g c).begins (ap (λ (w : Walker). w.nodes) told ∙ (over g c).0))

pub returns-clause-classes : goal.returns-clause-classes
returns-clause-classes g c = on_ok c.tell_rest.result c.tell_rest.ensures (λ told. walk_classes c.args.program.now (start g c).fits c.args.settings c.reserve.new.self c.tell_rest.new.self (start g c).begins (notes_are g c told))

pub returns-clause-labels : goal.returns-clause-labels
returns-clause-labels g c = on_ok c.tell_rest.result c.tell_rest.ensures (λ told. walk_labels c.args.program.now (start g c).fits c.args.settings c.reserve.new.self c.tell_rest.new.self (start g c).begins (notes_are g c told))

pub returns-clause-cost : goal.returns-clause-cost
returns-clause-cost g c = on_success c.tell_rest.result
    (root_counts c.args.program.now (start g c).fits c.args.settings c.reserve.new.self (start g c).begins c.walk_below.new.self c.args.steps.now c.walk_below.new.steps c.end.new.steps (within g c) (asked g c) c.in_ok-end.ensures.cost)

pub returns-clause-given_up : goal.returns-clause-given_up
returns-clause-given_up g c = on_err c.tell_rest.result
    (end_given_up c.args.program.now (start g c).fits c.args.settings c.reserve.new.self (start g c).begins c.walk_below.new.self c.args.steps.now c.walk_below.new.steps c.end.new.steps (within g c) (asked g c) (omega (arith, c.in_ok-end.ensures.cost)))

pub returns-in_err-leave-clause-given_up : goal.returns-in_err-leave-clause-given_up
returns-in_err-leave-clause-given_up g c =
    let program : Tree = c.args.program.now in
    let at = (goal.at.returns-in_err-leave-clause-given_up g c).In_ok-enter in
    let start = begun_at g at in
    on_err c.from_residual-in_err-leave.result
    (end_given_up program start.fits c.args.settings c.reserve.new.self start.begins c.walk_below.new.self c.args.steps.now c.walk_below.new.steps c.end.new.steps
    (c.in_ok-walk_below.ensures.walks (names_of program) c.reserve.new.self (root_place program) (root_own program) 1 (sym c.root-root.ensures.root) refl (entered_root g at))
    (c.in_ok-walk_below.ensures.cost (names_of program) c.reserve.new.self (root_place program) (root_own program) 1 (sym c.root-root.ensures.root) refl (entered_root g at)) (omega (arith, c.in_ok-end.ensures.cost)))

pub returns-in_err-end-clause-given_up : goal.returns-in_err-end-clause-given_up
returns-in_err-end-clause-given_up g c =
    let program : Tree = c.args.program.now in
    let at = (goal.at.returns-in_err-end-clause-given_up g c).In_ok-enter in
    let start = begun_at g at in
    on_err c.from_residual-in_err-end.result
    (end_given_up program start.fits c.args.settings c.reserve.new.self start.begins c.walk_below.new.self c.args.steps.now c.walk_below.new.steps c.end.new.steps
    (c.in_ok-walk_below.ensures.walks (names_of program) c.reserve.new.self (root_place program) (root_own program) 1 (sym c.root-root.ensures.root) refl (entered_root g at))
    (c.in_ok-walk_below.ensures.cost (names_of program) c.reserve.new.self (root_place program) (root_own program) 1 (sym c.root-root.ensures.root) refl (entered_root g at)) c.in_err-end.ensures.given_up)

pub returns-in_err-walk_below-clause-given_up : goal.returns-in_err-walk_below-clause-given_up
returns-in_err-walk_below-clause-given_up g c =
    let program : Tree = c.args.program.now in
    let at = (goal.at.returns-in_err-walk_below-clause-given_up g c).In_ok-enter in
    let start = begun_at g at in
    on_err c.from_residual-in_err-walk_below.result
    (root_given_up program start.fits c.args.settings c.reserve.new.self start.begins c.args.steps.now c.walk_below.new.steps
    (c.in_err-walk_below.ensures.given_up (names_of program) c.reserve.new.self (root_place program) (root_own program) 1 (sym c.root-root.ensures.root) refl (entered_root g at)))

pub returns-clause-risen : goal.returns-clause-risen
returns-clause-risen g c = through _ _ _ c.in_ok-walk_below.ensures.risen c.in_ok-end.ensures.risen

pub returns-in_err-leave-clause-risen : goal.returns-in_err-leave-clause-risen
returns-in_err-leave-clause-risen g c = through _ _ _ c.in_ok-walk_below.ensures.risen c.in_ok-end.ensures.risen

pub returns-in_err-end-clause-risen : goal.returns-in_err-end-clause-risen
returns-in_err-end-clause-risen g c = through _ _ _ c.in_ok-walk_below.ensures.risen c.end.ensures.risen

pub returns-in_err-walk_below-clause-risen : goal.returns-in_err-walk_below-clause-risen
returns-in_err-walk_below-clause-risen g c = c.walk_below.ensures.risen

-- to enter the root asks nothing
pub returns-in_err-enter-clause-given_up : goal.returns-in_err-enter-clause-given_up
returns-in_err-enter-clause-given_up g c = on_err c.from_residual-in_err-enter.result (omega arith)
