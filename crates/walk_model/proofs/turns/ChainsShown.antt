-- The rows of the tables show the scopes of a chain, whatever steps are done.
use Rattle.std.proofs.Common.{◌≡◌, ℕ, ◌+◌, ◌<◌, ◌≤◌, List, [], ◌∷◌, ◌++◌, Option, Some, None, IfSome, Bool, true, false, cond, not, inl, inr, refl, sym, ap, subst, ◌∙◌, length, map, slice_index_or, arith}
use Rattle.std.specs.Prelude.{◌==◌, slice_set}
use Rattle.std.specs.Option.{option_map_or}
use Rattle.std.proofs.lemmas.Nat.{and_or_apart}
use Rattle.std.proofs.lemmas.List.{length-append, length-set, get_or-set_same, get_or-set_other, get_or_append_left, get_or-append-add}
use Rattle.std.proofs.lemmas.Bool.Decides.{eqb_tells}
use Rattle.semantic_kinds.specs.declared.kind.AstType.TheVariants as kind
use Rattle.semantic_kinds.specs.declared.role.Role.{Role}
use Rattle.semantic_tree.specs.declared.node.Node.{Node}
use Rattle.semantic_syntax.specs.declared.scope_flags.TheConstants.ScopeFlags as flag
use Rattle.semantic_syntax.specs.Sets.{meets}
use Rattle.semantic_syntax.specs.Tables.{Scope, Tables}
use Rattle.semantic_syntax.specs.Reading.{scope_of, no_scope}
use Rattle.semantic_tree.specs.Views.{is}
use Rattle.semantic_model.specs.Place.{Place, OpenScope, scope_of_place, outside}
use Rattle.semantic_model.specs.Inside.{is_inside, is_in_header, is_parameter_decorator}
use Rattle.semantic_model.specs.Declaration.{Declaration}
use Rattle.semantic_model.specs.Step.{Step, entering, opening, header_ending, closing, leaving, child_place, child_scopes}
use Rattle.semantic_model.specs.Event.{Event, declares, takes_over, ends_header, events_of}
use Rattle.semantic_syntax.specs.Outcome.{Pending, Outcome}
use Rattle.semantic_model.specs.TablesOf.{is_direct_eval}
use Rattle.semantic_model.proofs.steps.Opened.{openings}
use Rattle.walk_model.specs.WalkState.{WalkState}
use Rattle.walk_model.specs.Settles.{settle, settle_by, end_header, settle_rest}
use Rattle.walk_model.specs.Opens.{innermost_number, with_eval, add_eval, note_eval, refer, note_reference, open_scope, close_scope}
use Rattle.walk_model.specs.Walks.{act, act_all, prepare, after, after_all}
use Rattle.walk_model.proofs.shows.ShownTakeOvers.{Kept, settle_keeps}
use Rattle.walk_model.proofs.places.Nested.{Descends}
use Rattle.walk_model.proofs.opens.LeftByDeclaring.{Untouched, act_untouched}
pub use Rattle.walk_model.specs.Shown.{IsOther, ShowsScope, ShowsChain, ShowsOwn}

-- the rows stay, but for `DirectEval`; more may come
pub record KeepsRows (t u : Tables) : Type 0 where
  pub longer : length t.scopes ≤ length u.scopes
  pub parent : (i : ℕ) → i < length t.scopes → (scope_of u i).parent ≡ (scope_of t i).parent
  pub node : (i : ℕ) → i < length t.scopes → (scope_of u i).node ≡ (scope_of t i).node
  pub flags : (i : ℕ) → i < length t.scopes → (bits : ℕ) → IsOther bits → meets (scope_of u i).flags.bits bits ≡ meets (scope_of t i).flags.bits bits

pub same_rows : (t u : Tables) → u.scopes ≡ t.scopes → KeepsRows t u
same_rows t u e = record {
  longer = omega (arith, ap length e);
  parent = λ i l. ap (λ es. (slice_index_or es i no_scope).parent) e;
  node = λ i l. ap (λ es. (slice_index_or es i no_scope).node) e;
  flags = λ i l bits o. ap (λ es. meets (slice_index_or es i no_scope).flags.bits bits) e;
}

pub then_rows : (t u v : Tables) → KeepsRows t u → KeepsRows u v → KeepsRows t v
then_rows t u v h k = record {
  longer = omega (arith, h.longer, k.longer);
  parent = λ i l. k.parent i (omega (arith, l, h.longer)) ∙ h.parent i l;
  node = λ i l. k.node i (omega (arith, l, h.longer)) ∙ h.node i l;
  flags = λ i l bits o. k.flags i (omega (arith, l, h.longer)) bits o ∙ h.flags i l bits o;
}

-- `DirectEval` is no other flag
apart_meets : (flags bits : ℕ) → IsOther bits → meets (with_eval (record { parent = None; node = 0; flags = record { bits = flags } })).flags.bits bits ≡ meets flags bits
apart_meets flags bits o = ap (λ n. not (n == 0)) (and_or_apart bits flags flag.DirectEval.bits o)

pub eval_rows : (w : WalkState) (s : ℕ) → KeepsRows w.tables (add_eval w s).tables
eval_rows w s = record {
  longer = omega (arith, length-set w.tables.scopes s new);
  parent = λ i l. elim (eqb_tells i s) [ inl k ↦ ap (λ x. x.parent) (here i l k.1) ∙ ap (λ n. (scope_of w.tables n).parent) (sym k.1) | inr k ↦ ap (λ x. x.parent) (there i k.1) ];
  node = λ i l. elim (eqb_tells i s) [ inl k ↦ ap (λ x. x.node) (here i l k.1) ∙ ap (λ n. (scope_of w.tables n).node) (sym k.1) | inr k ↦ ap (λ x. x.node) (there i k.1) ];
  flags = λ i l bits o. elim (eqb_tells i s) [
    | inl k ↦ ap (λ x. meets x.flags.bits bits) (here i l k.1) ∙ apart_meets (scope_of w.tables s).flags.bits bits o ∙ ap (λ n. meets (scope_of w.tables n).flags.bits bits) (sym k.1)
    | inr k ↦ ap (λ x. meets x.flags.bits bits) (there i k.1)
  ];
}
  where
    new : Scope
    new = with_eval (scope_of w.tables s)

    here : (i : ℕ) → i < length w.tables.scopes → i ≡ s → scope_of (add_eval w s).tables i ≡ new
    here i l e = ap (λ n. slice_index_or (slice_set w.tables.scopes s new) n no_scope) e ∙ get_or-set_same w.tables.scopes s new no_scope (omega (arith, l, e))

    there : (i : ℕ) → (i ≡ s → ⊥) → scope_of (add_eval w s).tables i ≡ scope_of w.tables i
    there i f = get_or-set_other w.tables.scopes s i new no_scope f

pub note_eval_rows : (w : WalkState) (p : Place) → KeepsRows w.tables (note_eval w p).tables
note_eval_rows w p = by (is_direct_eval p.node)
  where
    by : (b : Bool) → KeepsRows w.tables (cond b (add_eval w (scope_of_place p)) w).tables
    by true = eval_rows w (scope_of_place p)
    by false = same_rows w.tables w.tables refl

pub note_reference_rows : (w : WalkState) (p : Place) → KeepsRows w.tables (note_reference w p).tables
note_reference_rows w p = by (is kind.IdentifierReference p.node)
  where
    by : (b : Bool) → KeepsRows w.tables (cond b (refer w p) w).tables
    by true = same_rows w.tables (refer w p).tables refl
    by false = same_rows w.tables w.tables refl

pub close_rows : (w : WalkState) (s : ℕ) → KeepsRows w.tables (close_scope w s).tables
close_rows w s = by (meets (scope_of w.tables s).flags.bits flag.DirectEval.bits) (scope_of w.tables s).parent
  where
    by : (b : Bool) (o : Option ℕ) → KeepsRows w.tables (cond b (option_map_or (add_eval w) o w) w).tables
    by true None = same_rows w.tables w.tables refl
    by true (Some q) = eval_rows w q
    by false o = same_rows w.tables w.tables refl

pub open_rows : (w : WalkState) (p : Place) (s : OpenScope) → KeepsRows w.tables (open_scope w p s).tables
open_rows w p s = record {
  longer = omega (arith, length-append w.tables.scopes (new ∷ []));
  parent = λ i l. ap (λ x. x.parent) (there i l);
  node = λ i l. ap (λ x. x.node) (there i l);
  flags = λ i l bits o. ap (λ x. meets x.flags.bits bits) (there i l);
}
  where
    new : Scope
    new = record { parent = innermost_number p.chain; node = s.opener; flags = record { bits = s.flags } }

    there : (i : ℕ) → i < length w.tables.scopes → scope_of (open_scope w p s).tables i ≡ scope_of w.tables i
    there i l = get_or_append_left w.tables.scopes (new ∷ []) no_scope i l

pub settle_scopes : (w : WalkState) (outcome : Pending → Outcome) → (settle_by w outcome).tables.scopes ≡ w.tables.scopes
settle_scopes w outcome = let k : Kept w.tables (settle w.tables w.waiting (map outcome w.waiting)) = settle_keeps w.tables w.waiting (map outcome w.waiting) in k.scopes

-- no event opens a scope or changes one
pub act_scopes : (w : WalkState) (e : Event) → (act w e).tables.scopes ≡ w.tables.scopes
act_scopes w (declares d) = let u : Untouched w (act w (declares d)) = act_untouched w (declares d) tt in u.scopes
act_scopes w (takes_over c b) = refl
act_scopes w (ends_header c) = settle_scopes w _

pub acts_scopes : (w : WalkState) (es : List Event) → (act_all w es).tables.scopes ≡ w.tables.scopes
acts_scopes w [] = refl
acts_scopes w (e ∷ es) = acts_scopes (act w e) es ∙ act_scopes w e

pub act_rows : (w : WalkState) (e : Event) → KeepsRows w.tables (act w e).tables
act_rows w e = same_rows w.tables (act w e).tables (act_scopes w e)

pub acts_rows : (w : WalkState) (es : List Event) → KeepsRows w.tables (act_all w es).tables
acts_rows w es = same_rows w.tables (act_all w es).tables (acts_scopes w es)

pub end_header_rows : (w : WalkState) (c : ℕ) → KeepsRows w.tables (end_header w c).tables
end_header_rows w c = same_rows w.tables (end_header w c).tables (settle_scopes w _)

pub settle_rest_rows : (w : WalkState) → KeepsRows w.tables (settle_rest w).tables
settle_rest_rows w = same_rows w.tables (settle_rest w).tables (settle_scopes w _)

pub prepare_rows : (w : WalkState) (step : Step) → KeepsRows w.tables (prepare w step).tables
prepare_rows w (entering p) = then_rows w.tables (note_reference w p).tables (prepare w (entering p)).tables (note_reference_rows w p) (note_eval_rows (note_reference w p) p)
prepare_rows w (opening p s) = open_rows w p s
prepare_rows w (header_ending p s) = same_rows w.tables w.tables refl
prepare_rows w (closing p s) = close_rows w s.number
prepare_rows w (leaving p) = same_rows w.tables w.tables refl

pub step_rows : (ds : List Declaration) (w : WalkState) (step : Step) → KeepsRows w.tables (after ds w step).tables
step_rows ds w step = then_rows w.tables (prepare w step).tables (after ds w step).tables (prepare_rows w step) (acts_rows (prepare w step) (events_of ds step))

pub steps_rows : (ds : List Declaration) (w : WalkState) (ss : List Step) → KeepsRows w.tables (after_all ds w ss).tables
steps_rows ds w [] = same_rows w.tables w.tables refl
steps_rows ds w (step ∷ more) = then_rows w.tables (after ds w step).tables (after_all ds w (step ∷ more)).tables (step_rows ds w step) (steps_rows ds (after ds w step) more)

-- where rows are kept, chains are shown on
pub chain_kept : (t u : Tables) (chain : List OpenScope) → KeepsRows t u → ShowsChain t chain → ShowsChain u chain
chain_kept t u [] k h = tt
chain_kept t u (s ∷ ss) k h = (
  record {
    within = omega (arith, h.0.within, k.longer);
    parent = k.parent s.number h.0.within ∙ h.0.parent;
    node = k.node s.number h.0.within ∙ h.0.node;
    flags = λ bits o. k.flags s.number h.0.within bits o ∙ h.0.flags bits o;
    falls = h.0.falls;
  },
  chain_kept t u ss k h.1,
)

pub chain_after : (ds : List Declaration) (w : WalkState) (step : Step) (chain : List OpenScope) → ShowsChain w.tables chain → ShowsChain (after ds w step).tables chain
chain_after ds w step chain h = chain_kept w.tables (after ds w step).tables chain (step_rows ds w step) h

pub chain_after_all : (ds : List Declaration) (w : WalkState) (ss : List Step) (chain : List OpenScope) → ShowsChain w.tables chain → ShowsChain (after_all ds w ss).tables chain
chain_after_all ds w ss chain h = chain_kept w.tables (after_all ds w ss).tables chain (steps_rows ds w ss) h

pub head_within : (t : Tables) (chain : List OpenScope) → ShowsChain t chain → IfSome (innermost_number chain) (λ p. p < length t.scopes)
head_within t [] h = tt
head_within t (s ∷ ss) h = h.0.within

-- the scope that opens at a place is shown, too
pub opened_chain : (w : WalkState) (p : Place) (s : OpenScope) → s.number ≡ length w.tables.scopes → ShowsChain w.tables p.chain → ShowsChain (open_scope w p s).tables (s ∷ p.chain)
opened_chain w p s e h = (
  record {
    within = omega (arith, e, length-append w.tables.scopes (new ∷ []));
    parent = ap (λ x. x.parent) here;
    node = ap (λ x. x.node) here;
    flags = λ bits o. ap (λ x. meets x.flags.bits bits) here;
    falls = subst (λ n. IfSome (innermost_number p.chain) (λ q. q < n)) (sym e) (head_within w.tables p.chain h);
  },
  chain_kept w.tables (open_scope w p s).tables p.chain (open_rows w p s) h,
)
  where
    new : Scope
    new = record { parent = innermost_number p.chain; node = s.opener; flags = record { bits = s.flags } }

    there : (n : ℕ) → n ≡ length w.tables.scopes + 0 → slice_index_or (w.tables.scopes ++ new ∷ []) n no_scope ≡ new
    there n q = ap (λ m. slice_index_or (w.tables.scopes ++ new ∷ []) m no_scope) q ∙ get_or-append-add w.tables.scopes (new ∷ []) 0 no_scope

    here : scope_of (open_scope w p s).tables s.number ≡ new
    here = there s.number (omega (arith, e))

-- in its header, and behind it
pub in_header_chain : (t : Tables) (s : OpenScope) (b : Bool) (ss : List OpenScope) → ShowsChain t (s ∷ ss) → ShowsChain t (record s { in_header = b } ∷ ss)
in_header_chain t s b ss h = (record { within = h.0.within; parent = h.0.parent; node = h.0.node; flags = h.0.flags; falls = h.0.falls }, h.1)

-- a scope opens as a step
pub opening_chain : (ds : List Declaration) (w : WalkState) (p : Place) (s : OpenScope) → s.number ≡ length w.tables.scopes → ShowsChain w.tables p.chain → ShowsChain (after ds w (opening p s)).tables (s ∷ p.chain)
opening_chain ds w p s e h = chain_kept (open_scope w p s).tables (after ds w (opening p s)).tables (s ∷ p.chain) (acts_rows (open_scope w p s) (events_of ds (opening p s))) (opened_chain w p s e h)

pub outside_shown : (t : Tables) (chain : List OpenScope) → ShowsChain t chain → ShowsChain t (outside chain)
outside_shown t [] h = tt
outside_shown t (s ∷ ss) h = h.1

pub own_kept : (t u : Tables) (p : Place) (own : Option OpenScope) → KeepsRows t u → ShowsOwn t p own → ShowsOwn u p own
own_kept t u p None k h = tt
own_kept t u p (Some s) k h = chain_kept t u (s ∷ p.chain) k h

-- a child stands in scopes that are shown
pub child_shown : (t : Tables) (p : Place) (own : Option OpenScope) (cursor : ℕ) (r : Role) (node : Node) → ShowsChain t p.chain → ShowsOwn t p own → ShowsChain t (child_place p own cursor r node).chain
child_shown t p own cursor r node h o = go (is_parameter_decorator p.node.kind r)
  where
    within : (c : Option OpenScope) → ShowsOwn t p c → ShowsChain t (child_scopes p r c)
    within None k = h
    within (Some s) k = by (is_inside p.node.kind r)
      where
        by : (b : Bool) → ShowsChain t (cond b (record s { in_header = is_in_header p.node.kind r } ∷ p.chain) p.chain)
        by true = in_header_chain t s (is_in_header p.node.kind r) p.chain k
        by false = h

    go : (b : Bool) → ShowsChain t (cond b (outside p.chain) (child_scopes p r own))
    go true = outside_shown t p.chain h
    go false = within own o

-- numbers fall from inner to outer
pub shown_descends : (t : Tables) (n : ℕ) (chain : List OpenScope) → IfSome (innermost_number chain) (λ p. p < n) → ShowsChain t chain → Descends n chain
shown_descends t n [] l h = tt
shown_descends t n (s ∷ ss) l h = (l, shown_descends t s.number ss h.0.falls h.1)

pub chain_descends : (t : Tables) (chain : List OpenScope) → ShowsChain t chain → Descends (length t.scopes) chain
chain_descends t chain h = shown_descends t (length t.scopes) chain (head_within t chain h) h

-- how many scopes there are after a step
pub after_count : (ds : List Declaration) (w : WalkState) (ss : List Step) → length (after_all ds w ss).tables.scopes ≡ length w.tables.scopes + openings ss
after_count ds w [] = omega arith
after_count ds w (step ∷ more) = by step (after_count ds (after ds w step) more)
  where
    eval_count : (v : WalkState) (s : ℕ) → length (add_eval v s).tables.scopes ≡ length v.tables.scopes
    eval_count v s = length-set v.tables.scopes s (with_eval (scope_of v.tables s))

    refer_count : (b : Bool) (p : Place) → length (cond b (refer w p) w).tables.scopes ≡ length w.tables.scopes
    refer_count true p = refl
    refer_count false p = refl

    note_count : (b : Bool) (v : WalkState) (p : Place) → length (cond b (add_eval v (scope_of_place p)) v).tables.scopes ≡ length v.tables.scopes
    note_count true v p = eval_count v (scope_of_place p)
    note_count false v p = refl

    close_count : (b : Bool) (o : Option ℕ) → length (cond b (option_map_or (add_eval w) o w) w).tables.scopes ≡ length w.tables.scopes
    close_count true None = refl
    close_count true (Some q) = eval_count w q
    close_count false o = refl

    by : (s : Step) → length (after_all ds (after ds w s) more).tables.scopes ≡ length (after ds w s).tables.scopes + openings more → length (after_all ds (after ds w s) more).tables.scopes ≡ length w.tables.scopes + openings (s ∷ more)
    by (entering p) h = omega (
      arith,
      h,
      ap length (acts_scopes (prepare w (entering p)) (events_of ds (entering p))),
      note_count (is_direct_eval p.node) (note_reference w p) p,
      refer_count (is kind.IdentifierReference p.node) p,
    )
    by (opening p s) h = omega (arith, h, ap length (acts_scopes (prepare w (opening p s)) (events_of ds (opening p s))), length-append w.tables.scopes (record { parent = innermost_number p.chain; node = s.opener; flags = record { bits = s.flags } } ∷ []))
    by (header_ending p s) h = omega (arith, h, ap length (acts_scopes w (events_of ds (header_ending p s))))
    by (closing p s) h = omega (arith, h, close_count (meets (scope_of w.tables s.number).flags.bits flag.DirectEval.bits) (scope_of w.tables s.number).parent)
    by (leaving p) h = h
