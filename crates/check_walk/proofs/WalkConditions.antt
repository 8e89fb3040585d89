-- What a check asks of a walk holds on leaving each place: no node has two references, and the scopes are shown.
use Rattle.std.proofs.Common.{◌≡◌, ℕ, List, [], ◌∷◌, Option, Some, None, Bool, true, false, cond, refl, sym, subst, ◌∙◌, nat_eq, length}
use Rattle.std.specs.List.{IsDistinct}
use Rattle.std.specs.Map.{keys_of}
use Rattle.std.specs.Option.{option_map_or}
use Rattle.semantic_kinds.specs.declared.kind.AstType.TheVariants as kind
use Rattle.semantic_syntax.specs.Sets.{meets}
use Rattle.semantic_syntax.specs.Tables.{Tables}
use Rattle.semantic_syntax.specs.declared.scope_flags.TheConstants.ScopeFlags as scope
use Rattle.semantic_tree.specs.Tree.{Tree}
use Rattle.semantic_tree.specs.Faults.{first_fault}
use Rattle.semantic_syntax.specs.Reading.{scope_of}
use Rattle.semantic_model.specs.Cursor.{on_entering}
use Rattle.semantic_model.specs.Declaration.{Declaration}
use Rattle.semantic_model.specs.Event.{Event, declares, takes_over, ends_header, events_of, written_declarations}
use Rattle.semantic_tree.specs.Views.{is}
use Rattle.semantic_model.specs.Place.{Place, OpenScope, innermost, scope_of_place}
use Rattle.semantic_model.specs.Step.{Step, entering, opening, header_ending, closing, leaving, steps_below, root_place, steps}
use Rattle.semantic_model.specs.TablesOf.{is_direct_eval}
use Rattle.walk_model.specs.WalkState.{WalkState}
use Rattle.walk_model.specs.Shown.{ShowsChain, HasVar}
use Rattle.walk_model.specs.Settles.{settle_rest}
use Rattle.walk_model.specs.Opens.{note_reference, add_eval, refer}
use Rattle.walk_model.specs.Walks.{act, act_all, prepare, after, after_all, walked}
use Rattle.walk_model.proofs.turns.ChainsShown.{KeepsRows, steps_rows, settle_rest_rows, then_rows, chain_kept}
use Rattle.walk_model.proofs.turns.RootSteps.{root_scope, root_made, root_stands, root_walked}
use Rattle.walk_model.proofs.turns.Seats.{root_is_program}
use Rattle.walk_model.proofs.opens.LeftByDeclaring.{act_untouched}
use Rattle.check_model.specs.SightOf.{or_own, scopes_it_stands_in}
use Rattle.check_walk.specs.Apart.{HasApart}
use Rattle.check_walk.proofs.ReferencesApart.{one_more}

-- the node of a reference is noted where it is entered, and nowhere else
act_same : (w : WalkState) (e : Event) → (act w e).nodes.references ≡ w.nodes.references
act_same w (declares d) = let u = act_untouched w (declares d) tt in u.node_references
act_same w (takes_over c b) = refl
act_same w (ends_header c) = refl

acts_same : (es : List Event) (w : WalkState) → (act_all w es).nodes.references ≡ w.nodes.references
acts_same [] w = refl
acts_same (e ∷ es) w = acts_same es (act w e) ∙ act_same w e

evals_same : (b : Bool) (o : Option ℕ) (v : WalkState) → (cond b (option_map_or (add_eval v) o v) v).nodes.references ≡ v.nodes.references
evals_same true None v = refl
evals_same true (Some n) v = refl
evals_same false o v = refl

prepared_apart : (w : WalkState) (step : Step) → HasApart w → HasApart (prepare w step)
prepared_apart w (entering p) h = subst (λ es. IsDistinct nat_eq (keys_of es)) (sym (evals (is_direct_eval p.node) (note_reference w p))) (refers (is kind.IdentifierReference p.node))
  where
    evals : (b : Bool) (v : WalkState) → (cond b (add_eval v (scope_of_place p)) v).nodes.references ≡ v.nodes.references
    evals true v = refl
    evals false v = refl

    refers : (b : Bool) → HasApart (cond b (refer w p) w)
    refers true = one_more p.node.node_id (length w.tables.references) w.nodes.references h
    refers false = h
prepared_apart w (opening p s) h = h
prepared_apart w (header_ending p s) h = h
prepared_apart w (closing p s) h = subst (λ es. IsDistinct nat_eq (keys_of es)) (sym (evals_same (meets (scope_of w.tables s.number).flags.bits scope.DirectEval.bits) (scope_of w.tables s.number).parent w)) h
prepared_apart w (leaving p) h = h

pub step_apart : (ds : List Declaration) (w : WalkState) (step : Step) → HasApart w → HasApart (after ds w step)
step_apart ds w step h = subst (λ es. IsDistinct nat_eq (keys_of es)) (sym (acts_same (events_of ds step) (prepare w step))) (prepared_apart w step h)

pub steps_apart : (ds : List Declaration) (w : WalkState) (ss : List Step) → HasApart w → HasApart (after_all ds w ss)
steps_apart ds w [] h = h
steps_apart ds w (s ∷ ss) h = steps_apart ds (after ds w s) ss (step_apart ds w s h)

pub settled_apart : (w : WalkState) → HasApart w → HasApart (settle_rest w)
settled_apart w h = h

-- a place below the root stands in the scopes of its chain
pub stands_inside : (t : Tables) (p : Place) → HasVar p.chain → ShowsChain t p.chain → ShowsChain t (scopes_it_stands_in p) × ((innermost (scopes_it_stands_in p)).number ≡ scope_of_place p)
stands_inside t p v h = by p.chain v h
  where
    by : (ss : List OpenScope) → HasVar ss → ShowsChain t ss → ShowsChain t (or_own p ss) × ((innermost (or_own p ss)).number ≡ (innermost ss).number)
    by [] v h = absurd (v refl)
    by (s ∷ ss) v h = (h, refl)

-- the root stands in its own
pub root_stands_inside : (p : Tree) → first_fault p ≡ None → ShowsChain (walked p).tables (scopes_it_stands_in (root_place p))
root_stands_inside p h =
    let ds : List Declaration = written_declarations (steps p) in
    let root : Place = root_place p in
    let below : List Step = steps_below root (Some (root_scope root)) 1 (on_entering p.root.kind 0) p.root.children in
    let made : WalkState = after_all ds (root_made ds root) below in
    let first = root_stands ds p in
    let rows : KeepsRows (root_made ds root).tables (settle_rest made).tables = then_rows (root_made ds root).tables made.tables (settle_rest made).tables (steps_rows ds (root_made ds root) below) (settle_rest_rows made) in
    subst (λ (w : WalkState). ShowsChain w.tables (root_scope root ∷ [])) (sym (root_walked p (root_is_program p h)))
    (chain_kept (root_made ds root).tables (settle_rest made).tables (root_scope root ∷ []) rows first.shown)
