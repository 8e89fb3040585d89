-- Nodes that are passed over, and children between which nothing happens.
use Rattle.std.proofs.Common.{◌≡◌, ◌≤◌, ℕ, List, [], ◌∷◌, ◌++◌, Bool, true, false, ◌&&◌, ◌||◌, not, cond, Option, Some, None, is_some, option_map, refl, sym, ap, ◌∙◌}
use Rattle.semantic_kinds.specs.Kinds.{same_kind}
use Rattle.semantic_kinds.specs.declared.kind.AstType.{AstType}
use Rattle.semantic_kinds.specs.declared.kind.AstType.TheVariants as kind
use Rattle.semantic_kinds.specs.declared.mark.Mark.TheVariants as mark
use Rattle.semantic_kinds.specs.declared.role.Role.{Role}
use Rattle.semantic_syntax.specs.Counts.{raised}
use Rattle.semantic_syntax.proofs.Truth.{or_false}
use Rattle.semantic_tree.specs.Children.{forest_of}
use Rattle.semantic_tree.specs.Forest.{Forest, nothing, tree}
use Rattle.semantic_tree.specs.Views.{is, has}
use Rattle.semantic_tree.specs.declared.node.Node.{Node}
use Rattle.semantic_model.specs.Binder.{declared_by}
use Rattle.semantic_model.specs.Cursor.{cursor_before, on_entering, on_leaving, cursor_after, way_or_read}
use Rattle.semantic_model.specs.Declaration.{Declaration}
use Rattle.semantic_model.specs.Place.{Place, OpenScope, scope_of_place}
use Rattle.semantic_model.specs.Step.{Step, entering, leaving, steps_below, opening_at, opening_last, ending_after, scope_at, next_at}
use Rattle.semantic_model.proofs.form.Clauses.{kind_is}
use Rattle.walk_model.specs.Opens.{add_eval, refer_to}
use Rattle.walk_model.specs.WalkState.{WalkState}
use Rattle.walk_model.specs.Walks.{after_all}
use Rattle.walk_model.specs.Waits.{start_at}
use Rattle.walk_notes.specs.NoteLists.{is_noted, is_noted_behind, noting, noted_inside, leaving as leaving_notes}
use Rattle.walk_notes.proofs.Unnoted.{enters_nothing, leaves_nothing}
use Rattle.node_store.specs.Entered.{Entered}
use Rattle.check_walk.specs.SoFar.{Telling}
use Rattle.check_walk.specs.TellingAlong.{telling_along, telling_past}
use Rattle.walk_model.specs.Probes.{probes_of_steps}
use Rattle.walk_model.proofs.asking.StepSums.{raised_none}
use Rattle.semantic_walk.specs.AtPlace.{IsTurnAt, IsComing, entered, told_within, walked_within, walked_over, probes_over}
use Rattle.semantic_walk.specs.Binds.{acting}
use Rattle.semantic_walk.specs.Doings.{acts_between, is_quiet, is_passing, is_leaf}
use Rattle.semantic_walk.specs.Leaving.{IsLeaving}
use Rattle.semantic_walk.specs.Listed.{all_listed}
use Rattle.semantic_walk.specs.Turns.{is_passed, past_leaf}
use Rattle.semantic_walk.specs.Walker.{Walker, noting_node, referring, telling_of}
use Rattle.semantic_walk.specs.declared.visit.Turn.{Turn}
use Rattle.semantic_walk.proofs.Counting.{left_past, rests_child}
use Rattle.semantic_walk.proofs.EnterSteps.{no_eval, stands_in, enters, enters_quietly}
use Rattle.semantic_walk.proofs.EvenNodes.{quiet_entering, quiet_between, quiet_behind, quiet_cursor, passing_between, none_last, none_ends, comes_even, ends_even}
use Rattle.semantic_walk.proofs.Leaves.{leaves}
use Rattle.semantic_walk.proofs.Visiting.{Rests, rests_past, walked, place_of, at_child, comes_to_child}

pub no_children : (f : Forest) → is_leaf f ≡ true → f ≡ nothing
no_children nothing h = refl
no_children (tree r k span text marks below id after) h = absurd cc

-- a leaf where nothing acts between children
module _ (ds : List Declaration) (w : Walker) (p : Place) (n : ℕ) (leaf : p.node.children ≡ nothing) (even : acts_between p.node.kind ≡ false) where
  none_below : steps_below p None n (on_entering p.node.kind p.cursor) p.node.children ≡ []
  none_below = ap (λ (f : Forest). steps_below p None n (on_entering p.node.kind p.cursor) f) leaf ∙ none_last p even None n

  -- it asks nothing
  asks_none : probes_over ds w p None n ≡ 0
  asks_none = ap (λ (xs : List Step). probes_of_steps ds (entered ds w p) xs) none_below

  -- where no early error is told, no node is kept and nothing is noted of it, a walk over it makes what is made on entering it, and turns the cursor
  walks_by : (made : WalkState) (cursor : ℕ) → w.checks ≡ false → w.nodes ≡ None → entered ds w p ≡ made → on_leaving p.node.kind (on_entering p.node.kind p.cursor) ≡ cursor
      → noting p.path p.node w.notes ≡ w.notes → is_noted_behind p.node.kind ≡ false → walked_over ds w p None n ≡ record w { made = made; cursor = cursor }
  walks_by made cursor off none makes turns notes behind =
      let steps : List Step = steps_below p None n (on_entering p.node.kind p.cursor) p.node.children in
      let told : ◌≡◌ {A = Telling} (telling_past w.checks w.source ds (told_within ds w p None n) (leaving p)) (telling_past false w.source ds (record (telling_of w) { made = entered ds w p }) (leaving p)) =
      λ i. telling_past (off i) w.source ds (telling_along (off i) w.source ds (record (telling_of w) { made = entered ds w p }) (none_below i)) (leaving p) in
      let kept : option_map (all_listed (entering p ∷ steps)) w.nodes ≡ w.nodes = ap (option_map (all_listed (entering p ∷ steps))) none ∙ sym none in
      let all_made : after_all ds (entered ds w p) steps ≡ made = ap (λ (xs : List Step). after_all ds (entered ds w p) xs) none_below ∙ makes in
      let last : on_leaving p.node.kind (cursor_after p.node p.is_ambient (on_entering p.node.kind p.cursor) p.node.children) ≡ cursor =
      ap (λ (f : Forest). on_leaving p.node.kind (cursor_after p.node p.is_ambient (on_entering p.node.kind p.cursor) f)) leaf ∙ turns in
      let noted : leaving_notes p.node (noted_inside p.node p.node.children (noting p.path p.node w.notes)) ≡ w.notes =
      ap (λ (f : Forest). leaving_notes p.node (noted_inside p.node f (noting p.path p.node w.notes))) leaf ∙ leaves_nothing p.node (noting p.path p.node w.notes) behind ∙ notes in
      λ i. record w {
        made = all_made i;
        cursor = last i;
        nodes = kept i;
        notes = noted i;
        said = (told i).said;
        counted = (told i).counted;
      }

-- a leaf that is passed over
module _ (ds : List Declaration) (w : Walker) (p : Place) (n : ℕ) (coming : IsComing ds w p None n) (leaf : p.node.children ≡ nothing) (off : w.checks ≡ false) (none : w.nodes ≡ None) where
  abbrev stepped : Walker
  stepped = record (noting_node w p.node) { path = w.path ++ p.node ∷ []; cursor = on_entering p.node.kind w.cursor }

  -- a walk over a quiet one changes nothing
  walks_nowhere : is_quiet p.node.kind ≡ true → walked_over ds w p None n ≡ w
  walks_nowhere quiet =
      let only_steps : stepped ≡ record (stands_in ds w p coming.comes coming.shown) { notes = noting p.path p.node w.notes } =
      enters_quietly ds w p coming.comes coming.shown p.node stepped refl (quiet_entering p.node.kind quiet) refl in
      walks_by ds w p n leaf (quiet_between p.node.kind quiet) w.made w.cursor off none
      (sym (ap (λ (v : Walker). v.made) only_steps))
      (quiet_cursor p.node.kind quiet p.cursor ∙ sym coming.comes.cursor)
      (sym (ap (λ (v : Walker). v.notes) only_steps))
      (quiet_behind p.node.kind quiet)

  -- what is made on entering a reference
  refers_alone : p.node.kind ≡ kind.IdentifierReference → entered ds w p ≡ (referring w p.node).made
  refers_alone one =
      let noted : Walker = referring stepped p.node in
      let there : noted ≡ stands_in ds w p coming.comes coming.shown =
      enters ds w p coming.comes coming.shown p.node noted noted noted refl
      (sym (ap (λ (k : AstType). cond (same_kind k kind.IdentifierReference) noted stepped) one))
      (sym (ap (λ b. cond b (record noted { made = add_eval noted.made noted.current }) noted) (no_eval p.node (ap (λ (k : AstType). same_kind k kind.CallExpression) one))))
      (λ within shown. sym (ap (λ (k : AstType). acting ds noted (declared_by k p)) one)) in
      sym (ap (λ (v : Walker). v.made) there)
      ∙ ap (λ (k : AstType). refer_to w.made p.node.node_id p.node.text w.current (way_or_read (on_entering k w.cursor))) one

  -- a walk over it but notes it, and uses the cursor up
  walks_past_reference : p.node.kind ≡ kind.IdentifierReference → walked_over ds w p None n ≡ record (referring w p.node) { cursor = 0 }
  walks_past_reference one =
      walks_by ds w p n leaf (ap acts_between one) (referring w p.node).made 0 off none (refers_alone one)
      (ap (λ (k : AstType). on_leaving k (on_entering k p.cursor)) one)
      (enters_nothing p.path p.node w.notes (ap is_noted one))
      (ap is_noted_behind one)

  -- so the walk is but past it
  walks_past : is_passing p.node.kind ≡ true → walked_over ds w p None n ≡ past_leaf w p.node
  walks_past passing = by (is kind.IdentifierReference p.node) refl
    where
      by : (b : Bool) → is kind.IdentifierReference p.node ≡ b → walked_over ds w p None n ≡ cond b (record (referring w p.node) { cursor = 0 }) w
      by true e = walks_past_reference (kind_is p.node.kind kind.IdentifierReference e)
      by false e = walks_nowhere (sym (or_false (is_quiet p.node.kind)) ∙ ap (λ b. is_quiet p.node.kind || b) (sym e) ∙ passing)

-- what is known of a node that is passed over
record Passed (w : Walker) (node : Node) : Type 0 where
  off : w.checks ≡ false
  passing : is_passing node.kind ≡ true
  leaf : node.children ≡ nothing
  unkept : w.nodes ≡ None

what_passes : (w : Walker) (node : Node) → is_passed w node ≡ true → Passed w node
what_passes w node h = by (is_passing node.kind) (is_leaf node.children) w.checks w.nodes refl refl refl refl h
  where
    by : (a b c : Bool) (o : Option Entered) → is_passing node.kind ≡ a → is_leaf node.children ≡ b → w.checks ≡ c → w.nodes ≡ o → (a && b && not c && not (is_some o)) ≡ true → Passed w node
    by true true false None e f g k h = record { off = g; passing = e; leaf = no_children node.children f; unkept = k }
    by true true false (Some x) e f g k h = absurd cc
    by true true true o e f g k h = absurd cc
    by true false c o e f g k h = absurd cc
    by false b c o e f g k h = absurd cc

module _ (ds : List Declaration) (w : Walker) (p : Place) (n : ℕ) (coming : IsComing ds w p None n) (passed : is_passed w p.node ≡ true) where
  known : Passed w p.node
  known = what_passes w p.node passed

  -- a walk that is past it has gone over it
  pub over_passed : walked_over ds w p None n ≡ past_leaf w p.node
  over_passed = walks_past ds w p n coming known.leaf known.off known.unkept known.passing

  -- and there is nothing to ask
  pub asks_passed : (before : ℕ) → before ≡ raised before (probes_over ds w p None n)
  asks_passed before = sym (raised_none before) ∙ ap (raised before) (sym (asks_none ds w p n known.leaf (passing_between p.node.kind known.passing)))

-- where nothing happens between children: a walk that turns its cursor to that of the next child and goes over it stands before the rest
module _ (ds : List Declaration) (first : Walker) (p : Place) (own : Option OpenScope) (n : ℕ) (child : Role × Node) (rest : List (Role × Node)) (w v : Walker) (turn : Turn) (before now : ℕ)
    (even : acts_between p.node.kind ≡ false) (unmarked : has mark.Declare p.node ≡ false)
    (h : Rests ds first p own n before now w turn (forest_of (child ∷ rest)))
    (turned : v ≡ record w { cursor = cursor_before p.node w.is_ambient child.0 child.1 w.cursor }) where
  abbrev pub even_place : Place
  even_place = place_of p h.scope h.next h.cursor child

  abbrev pub even_next : ℕ
  even_next = next_at p child.0 h.scope h.next

  stands_even : (v ≡ at_child w (after_all ds w.made (opening_at p child.0 h.scope h.next)) even_place)
      × IsTurnAt turn p (scope_at p child.0 h.scope h.next) (start_at p child.0 h.scope h.start w.made)
  stands_even = comes_even p even child.0 unmarked child.1 h.next h.cursor ds w v turn h.scope h.start (forest_of (child ∷ rest)) h.between turned

  pub coming_even : IsComing ds v even_place None even_next
  coming_even = comes_to_child ds p h.scope h.next h.cursor h.start child rest w v turn h.between h.kept h.ready h.limit stands_even.0

  -- what the child has asked on an error is no more than all ask
  pub child_asks_even : (last : ℕ) → last ≤ raised now (probes_over ds v even_place None even_next) → last ≤ raised before (probes_over ds first p own n)
  child_asks_even last few = rests_child ds first p own n before now w turn child rest h v stands_even.0 last few

  pub rests_even : (past : Walker) (later : ℕ) → past ≡ walked_over ds v even_place None even_next → later ≡ raised now (probes_over ds v even_place None even_next)
      → Rests ds first p own n before later past turn (forest_of rest)
  rests_even past later over asked =
      let scope : Option OpenScope = scope_at p child.0 h.scope h.next in
      let here : past.current ≡ scope_of_place p = ap (λ (u : Walker). u.current) over ∙ ap (λ (u : Walker). u.current) turned ∙ h.between.within.current in
      let around : past.is_ambient ≡ p.is_ambient = ap (λ (u : Walker). u.is_ambient) over ∙ ap (λ (u : Walker). u.is_ambient) turned ∙ h.between.is_ambient in
      let ended = ends_even ds past p scope w.cursor child.0 (forest_of rest) even here around in
      let end_asks : later ≡ raised later (probes_of_steps ds past.made (ending_after p child.0 scope (forest_of rest))) =
      sym (raised_none later) ∙ ap (λ (xs : List Step). raised later (probes_of_steps ds past.made xs)) (sym (none_ends p even child.0 scope (forest_of rest))) in
      let asks = left_past ds p h.scope h.next h.cursor h.start child rest w v past stands_even.0 over past now later later ended asked end_asks in
      rests_past ds first p own n child rest w v past past turn turn before now later h stands_even.0 stands_even.1 over ended asks

-- behind the last child nothing happens
module _ (ds : List Declaration) (first : Walker) (p : Place) (own : Option OpenScope) (n : ℕ) (w : Walker) (turn : Turn) (before now : ℕ)
    (even : acts_between p.node.kind ≡ false) (coming : IsComing ds first p own n) (h : Rests ds first p own n before now w turn nothing) where
  none_last_opens : w ≡ record w { made = after_all ds w.made (opening_last p h.scope h.next) }
  none_last_opens = λ i. record w { made = after_all ds w.made (sym (none_last p even h.scope h.next) i) }

  pub walked_even : w ≡ walked_within ds first p own n
  walked_even = walked ds first p own n w w turn before now coming h none_last_opens

  pub leaves_even : IsLeaving w p
  leaves_even = leaves ds first p own n w w turn before now coming h none_last_opens
