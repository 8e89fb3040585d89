-- Each step keeps what is tracked of references.
use Rattle.std.proofs.Common.{◌≡◌, ℕ, suc, ◌+◌, ◌<◌, List, [], ◌∷◌, ◌++◌, Some, Bool, true, false, cond, inl, inr, refl, sym, ap, subst, ◌∙◌, map, flat_map, length, arith}
use Rattle.std.specs.Prelude.{filter}
use Rattle.std.proofs.lemmas.Option.{slice_get_within}
use Rattle.std.proofs.lemmas.List.{length-append, append-nil, map-append}
use Rattle.semantic_kinds.specs.declared.kind.AstType.TheVariants as kind
use Rattle.semantic_syntax.specs.Tables.{Scope}
use Rattle.semantic_syntax.specs.Told.{source_of}
use Rattle.semantic_syntax.specs.Reading.{way_of}
use Rattle.semantic_tree.specs.Forest.{Forest, nothing, tree}
use Rattle.semantic_tree.specs.Views.{is, has_role}
use Rattle.semantic_model.specs.Inside.{header_roles}
use Rattle.walk_model.proofs.headers.TouchedScopes.{AllTouch}
use Rattle.semantic_model.specs.Place.{Place, OpenScope, scope_of_place}
use Rattle.semantic_model.specs.Reference.{Occurrence, references}
use Rattle.semantic_model.specs.Declaration.{Declaration}
use Rattle.semantic_model.specs.Step.{Step, entering, opening, header_ending, closing, leaving}
use Rattle.semantic_model.specs.Event.{Event, ends_header, events_of}
use Rattle.semantic_model.specs.Fold.{State, start}
use Rattle.semantic_model.specs.Hoist.{run}
use Rattle.semantic_model.specs.Tie.{Tie, ties, until_end_of, moment, is_at, settled_at}
use Rattle.semantic_syntax.specs.Outcome.{Pending, header_outcome, staying}
use Rattle.semantic_model.specs.TablesOf.{is_direct_eval, numbers}
use Rattle.semantic_model.proofs.lists.Growth.{run_grows}
use Rattle.semantic_model.proofs.steps.Compose.{run-append, flat-append}
use Rattle.walk_model.specs.WalkState.{WalkState}
use Rattle.walk_model.specs.Opens.{note_reference, refer, close_scope}
use Rattle.walk_model.specs.Settles.{settle}
use Rattle.walk_model.specs.Walks as walk
use Rattle.walk_model.proofs.shows.Represents.{Represents}
use Rattle.walk_model.proofs.declares.Simulated.{step_as}
use Rattle.walk_model.proofs.places.Nested.{IsNestedStep, AreNested, open_past, seen_past, get_end}
use Rattle.walk_model.proofs.places.Routes.{HasVar}
use Rattle.walk_model.proofs.places.Grounds.{IsGrounded, AllGrounded}
use Rattle.walk_model.proofs.opens.LeftByDeclaring.{Untouched, AllDeclare, acts_untouched}
use Rattle.walk_model.proofs.opens.OpenedScopes.{AreFrames, bare_entry, bare_past, calls_past, scopes_step, entering_declares, opening_declares}
use Rattle.walk_model.proofs.headers.Headed.{AllLess, less_more, not_among, awaiting_past, flags_past, has_header, IsHeadedStep, AreHeaded, first_most}
use Rattle.walk_model.proofs.refers.Settling.{Tracks, Lists, Settled, settle_tracks}
use Rattle.walk_model.proofs.headers.Frozen.{Frozen, frozen, between, between_low, between_high, sides_step, within_step, later_touch}
use Rattle.walk_model.proofs.refers.HeaderEnds.{At, Waits}
use Rattle.walk_model.proofs.refers.EndOutcomes.{right_end}
use Rattle.walk_model.proofs.refers.TrackedReferences.{ties-append, numbered, tracks_map, with_ways, IsDone, done_opening, done_ending, done_not, at_is, waits_opening, OldFirst, AllEnds, ends-append, ends_more, ends_opening, ends_ending, until_is, none_later}
use Rattle.walk_model.proofs.refers.Referred.{IsInner, AllInner, inner_more, Inv, referred_past, same_settled, none_end, grow_lists, SameReferences, same_eval, same_closing, Refs, refs_same, refs_noted}

module _ (ds : List Declaration) (all : List Tie) (final : State) (es : List Event) where
  -- the invariant after a step
  abbrev pub After : List ℕ → List (List ℕ) → List (List ℕ) → List Scope → List ℕ → List ℕ → List Occurrence → List Event → WalkState → State → Step → Type 0
  After stack seen calls bare awaiting fs rs done w st step =
      Inv all final es (open_past stack step) (seen_past seen step) (calls_past calls step) (bare_past bare step) (awaiting_past awaiting step) (flags_past fs step) (referred_past rs step) (done ++ events_of ds step) (walk.after ds w step) (run st (events_of ds step))

  noted_uses : (w : WalkState) (p : Place) → ((note_reference w p).tables.uses ≡ w.tables.uses) × ((note_reference w p).tables.free ≡ w.tables.free)
  noted_uses w p = by (is kind.IdentifierReference p.node)
    where
      by : (b : Bool) → ((cond b (refer w p) w).tables.uses ≡ w.tables.uses) × ((cond b (refer w p) w).tables.free ≡ w.tables.free)
      by true = (refl, refl)
      by false = (refl, refl)

  -- lists after events that end no header
  lists_after : (done evs : List Event) (w v u : WalkState) (st : State) (n : ℕ) → AllDeclare evs → v.tables.uses ≡ w.tables.uses → v.tables.free ≡ w.tables.free → Untouched v u → length w.tables.uses ≡ length st.symbols → length u.tables.uses ≡ n
      → Lists (flat_map (settled_at all) done) (length st.symbols) w.tables → Lists (flat_map (settled_at all) (done ++ evs)) n u.tables
  lists_after done evs w v u st n d e f h k l i =
      subst (λ x. Lists x n u.tables) (same_settled all done evs d)
      (grow_lists (flat_map (settled_at all) done) (length st.symbols) n v.tables u.tables h.added (ap length e ∙ k) l h.uses h.are_empty h.free
      (record { uses = e ∙ i.uses; beyond = i.beyond; free = f ∙ i.free }))

  inv_entering : (stack : List ℕ) (seen calls : List (List ℕ)) (bare : List Scope) (awaiting fs : List ℕ) (rs : List Occurrence) (done : List Event) (w : WalkState) (st : State) (p : Place) → length fs ≡ length seen → IsNestedStep stack seen (entering p) → IsGrounded p → IsHeadedStep awaiting fs (entering p)
      → Inv all final es stack seen calls bare awaiting fs rs done w st → After stack seen calls bare awaiting fs rs done w st (entering p)
  inv_entering stack seen calls bare awaiting fs rs done w st p e k g h i =
      let evs : List Event = events_of ds (entering p) in
      let v1 : WalkState = note_reference w p in
      let v : WalkState = walk.prepare w (entering p) in
      let u : WalkState = walk.after ds w (entering p) in
      let U : Untouched v u = acts_untouched v evs (entering_declares ds p) in
      let E : SameReferences v1 v = same_eval (is_direct_eval p.node) v1 (scope_of_place p) in
      let R : Represents (length seen) u (run st evs) = step_as ds w st stack seen (entering p) k g i.represents in
      let r1 : Refs final es awaiting seen fs (referred_past rs (entering p)) v1 = refs_noted final es awaiting stack seen fs rs w p g k h (record { tracks = i.tracks; nodes = i.nodes }) in
      let r2 : Refs final es awaiting seen fs (referred_past rs (entering p)) v = refs_same final es awaiting seen fs (referred_past rs (entering p)) v1 v E.references E.waiting E.nodes r1 in
      let r3 : Refs final es awaiting seen fs (referred_past rs (entering p)) u = refs_same final es awaiting seen fs (referred_past rs (entering p)) v u U.references U.waiting U.node_references r2 in
      record {
        represents = R;
        scopes = scopes_step ds w stack seen calls bare (entering p) k g i.scopes;
        flags = i.flags;
        sound = (run_grows st evs i.sound).sound;
        within = within_step ds st stack seen (entering p) k g i.within;
        sided = sides_step ds st stack seen awaiting fs (entering p) e k g h i.sound i.within i.sided;
        order = i.order;
        old = i.old;
        less = i.less;
        inner = i.inner;
        ends = ends-append awaiting (length seen) done evs i.ends (none_end awaiting (length seen) evs (entering_declares ds p));
        tracks = r3.tracks;
        lists = lists_after done evs w v u st (length (run st evs).symbols) (entering_declares ds p) (E.uses ∙ (noted_uses w p).0) (E.free ∙ (noted_uses w p).1) U i.represents.shows.uses R.shows.uses i.lists;
        nodes = r3.nodes;
      }

  stack_less : (seen : List (List ℕ)) (stack : List ℕ) → AreFrames seen stack → AllLess stack (length seen)
  stack_less seen [] h = tt
  stack_less seen (c ∷ cs) h = (slice_get_within seen c h.0.around h.0.is, stack_less seen cs h.1)

  root_no_header : (p : Place) → p.node.kind ≡ kind.Program → has_header p ≡ false
  root_no_header p e = ap (λ k. has_role (header_roles k) p.node.children) e ∙ none_of p.node.children
    where
      none_of : (f : Forest) → has_role [] f ≡ false
      none_of nothing = refl
      none_of (tree r k span text marks below id after) = none_of after

  new_inner : (seen : List (List ℕ)) (p : Place) (n : ℕ) → length seen ≡ n → IsGrounded p → has_header p ≡ true → IsInner (seen ++ numbers p.chain ∷ []) n
  new_inner seen p n e (inr q) h = let w : true ≡ false = sym h ∙ root_no_header p q in absurd cc
  new_inner seen p n e (inl v) h = by p.chain refl v
    where
      by : (chain : List OpenScope) → p.chain ≡ chain → HasVar chain → IsInner (seen ++ numbers p.chain ∷ []) n
      by [] q v2 = absurd (v2 refl)
      by (s ∷ ss) q v2 = record { first = s.number; others = numbers ss; is = get_end seen (numbers p.chain) n e ∙ ap (λ c. Some (numbers c)) q }

  inv_opening : (stack : List ℕ) (seen calls : List (List ℕ)) (bare : List Scope) (awaiting fs : List ℕ) (rs : List Occurrence) (done : List Event) (w : WalkState) (st : State) (p : Place) (s : OpenScope) → length fs ≡ length seen → IsNestedStep stack seen (opening p s) → IsGrounded p → IsHeadedStep awaiting fs (opening p s)
      → Inv all final es stack seen calls bare awaiting fs rs done w st → After stack seen calls bare awaiting fs rs done w st (opening p s)
  inv_opening stack seen calls bare awaiting fs rs done w st p s e k g h i =
      let evs : List Event = events_of ds (opening p s) in
      let v : WalkState = walk.prepare w (opening p s) in
      let u : WalkState = walk.after ds w (opening p s) in
      let later : List (List ℕ) = seen ++ numbers p.chain ∷ [] in
      let number : s.number ≡ length seen = ap (λ o. o.number) k.1 in
      let longer : length later ≡ suc (length seen) = omega (arith, length-append seen (numbers p.chain ∷ [])) in
      let U : Untouched v u = acts_untouched v evs (opening_declares ds p s) in
      let R : Represents (length later) u (run st evs) = step_as ds w st stack seen (opening p s) k g i.represents in
      let moved : Tracks (IsDone (awaiting_past awaiting (opening p s)) (length later)) (Waits (awaiting_past awaiting (opening p s)) later (flags_past fs (opening p s)) final es) (ties final es 0 rs) w.tables.references w.waiting =
      tracks_map (IsDone awaiting (length seen)) (IsDone (awaiting_past awaiting (opening p s)) (length later)) (Waits awaiting seen fs final es) (Waits (awaiting_past awaiting (opening p s)) later (flags_past fs (opening p s)) final es) (ties final es 0 rs) w.tables.references w.waiting
      (λ t d. done_opening (has_header p) awaiting (length seen) (length later) s.number t (omega arith) (omega arith) d)
      (λ t x y. waits_opening awaiting seen fs final es p s t x number y) i.tracks in
      let r : Refs final es (awaiting_past awaiting (opening p s)) later (flags_past fs (opening p s)) rs u =
      refs_same final es (awaiting_past awaiting (opening p s)) later (flags_past fs (opening p s)) rs v u U.references U.waiting U.node_references (record { tracks = moved; nodes = i.nodes }) in
      let ends2 : AllEnds awaiting (length later) done = ends_more awaiting (length seen) (length later) done (omega arith) i.ends in
      record {
        represents = R;
        scopes = scopes_step ds w stack seen calls bare (opening p s) k g i.scopes;
        flags = map-append (λ (x : Scope). x.flags.bits) bare (bare_entry p s ∷ []) ∙ ap (λ l. l ++ s.flags ∷ []) i.flags;
        sound = (run_grows st evs i.sound).sound;
        within = within_step ds st stack seen (opening p s) k g i.within;
        sided = sides_step ds st stack seen awaiting fs (opening p s) e k g h i.sound i.within i.sided;
        order = (subst (AllLess stack) (sym number) (stack_less seen stack i.scopes.frames), i.order);
        old = old_after (has_header p) (subst (AllLess awaiting) (sym number) i.less) i.old;
        less = less_after (has_header p) (length later) (omega arith) (less_more awaiting (length seen) (length later) (omega arith) i.less);
        inner = inner_after (has_header p) refl (sym number) (inner_more seen later awaiting (record { added = numbers p.chain ∷ []; is = refl }) i.inner);
        ends = ends-append (awaiting_past awaiting (opening p s)) (length later) done evs (ends_after (has_header p) number longer i.ends ends2) (none_end (awaiting_past awaiting (opening p s)) (length later) evs (opening_declares ds p s));
        tracks = r.tracks;
        lists = lists_after done evs w v u st (length (run st evs).symbols) (opening_declares ds p s) refl refl U i.represents.shows.uses R.shows.uses i.lists;
        nodes = r.nodes;
      }
    where
      old_after : (b : Bool) → AllLess awaiting s.number → OldFirst awaiting → OldFirst (cond b (s.number ∷ awaiting) awaiting)
      old_after true l o = (l, o)
      old_after false l o = o

      less_after : (b : Bool) (n : ℕ) → s.number < n → AllLess awaiting n → AllLess (cond b (s.number ∷ awaiting) awaiting) n
      less_after true n l o = (l, o)
      less_after false n l o = o

      inner_after : (b : Bool) → has_header p ≡ b → length seen ≡ s.number → AllInner (seen ++ numbers p.chain ∷ []) awaiting → AllInner (seen ++ numbers p.chain ∷ []) (cond b (s.number ∷ awaiting) awaiting)
      inner_after true q n o = (new_inner seen p s.number n g q, o)
      inner_after false q n o = o

      ends_after : (b : Bool) → s.number ≡ length seen → length (seen ++ numbers p.chain ∷ []) ≡ suc (length seen) → AllEnds awaiting (length seen) done → AllEnds awaiting (length (seen ++ numbers p.chain ∷ [])) done → AllEnds (cond b (s.number ∷ awaiting) awaiting) (length (seen ++ numbers p.chain ∷ [])) done
      ends_after true n l o o2 = ends_more (s.number ∷ awaiting) (length seen) (length (seen ++ numbers p.chain ∷ [])) done (omega arith) (ends_opening awaiting (length seen) s.number done (omega arith) o)
      ends_after false n l o o2 = o2

  filter-append : (f : Tie → Bool) (xs ys : List Tie) → filter f (xs ++ ys) ≡ filter f xs ++ filter f ys
  filter-append f [] ys = refl
  filter-append f (x ∷ xs) ys = by (f x) (filter-append f xs ys)
    where
      by : (b : Bool) → filter f (xs ++ ys) ≡ filter f xs ++ filter f ys → cond b (x ∷ filter f (xs ++ ys)) (filter f (xs ++ ys)) ≡ cond b (x ∷ filter f xs) (filter f xs) ++ filter f ys
      by true h = ap (λ l. x ∷ l) h
      by false h = h

  -- the end of a header settles what its ties tell
  inv_ending : (around aw : List ℕ) (seen calls : List (List ℕ)) (bare : List Scope) (fs : List ℕ) (rs : List Occurrence) (done : List Event) (w : WalkState) (st : State) (p : Place) (s : OpenScope) (ss : List Step)
      → all ≡ ties final es 0 (rs ++ references ss) → es ≡ done ++ ends_header s.number ∷ flat_map (events_of ds) ss → st ≡ run start done → final ≡ run start es
      → length fs ≡ length seen → AreNested (s.number ∷ around) seen ss → AllGrounded ss → AreHeaded aw fs ss
      → Inv all final es (s.number ∷ around) seen calls bare (s.number ∷ aw) fs rs done w st → After (s.number ∷ around) seen calls bare (s.number ∷ aw) fs rs done w st (header_ending p s)
  inv_ending around aw seen calls bare fs rs done w st p s ss all_is es_is st_is final_is e nested grounded headed i =
      let c : ℕ = s.number in
      let n : ℕ = length seen in
      let evs : List Event = flat_map (events_of ds) ss in
      let now : Tie → Bool = λ t. is_at c (moment t) in
      let here : List Tie = ties final es 0 rs in
      let final_run : final ≡ run st evs =
      final_is ∙ ap (run start) es_is ∙ run-append done (ends_header c ∷ evs) start ∙ ap (λ x. run x evs) (sym st_is) in
      let touch : AllTouch (between c n) false evs =
      later_touch (between c n) ds (c ∷ around) seen ss nested grounded (λ x h. between_low c n x (first_most c around x i.order.0 h)) (λ x l. between_high c n x l) in
      let still : Frozen c n st final = subst (Frozen c n st) (sym final_run) (frozen c n st evs i.sided.0 i.within i.sound touch) in
      let view_is : run start (until_end_of c es) ≡ st = ap (λ l. run start (until_end_of c l)) es_is ∙ ap (run start) (until_is aw n c done evs i.ends) ∙ sym st_is in
      let at_w : At w st (c ∷ around) seen calls bare fs = record { shows = i.represents.shows; scopes = i.scopes; flags = i.flags; sound = i.sound } in
      let WithWay : Tie → Pending → Type 0 = λ t x. Waits (c ∷ aw) seen fs final es t x × (way_of w.tables t.number ≡ t.reference.way) in
      let ways : Tracks (IsDone (c ∷ aw) n) WithWay here w.tables.references w.waiting = with_ways (IsDone (c ∷ aw) n) (Waits (c ∷ aw) seen fs final es) w.tables.references here w.tables.references w.waiting 0 [] i.tracks (numbered final es 0 rs) refl refl in
      let done2 : Settled (IsDone aw n) (Waits aw seen fs final es) [] (flat_map (settled_at all) done) (filter now here) here (length st.symbols) (staying w.waiting (map (header_outcome (source_of w.tables) c) w.waiting)) (settle w.tables w.waiting (map (header_outcome (source_of w.tables) c) w.waiting)) =
      settle_tracks (IsDone (c ∷ aw) n) (IsDone aw n) WithWay (Waits aw seen fs final es) st.symbols now (header_outcome (source_of w.tables) c)
      (λ t d. done_ending c aw n t d)
      (λ t q. record { header = c; is = at_is c (moment t) q; ended = not_among aw c c (omega arith) i.old.0; older = i.less.0 })
      (λ t d. done_not c aw n t d)
      (λ t x y. (y.0.name, y.0.number))
      (λ t x y. right_end w st final es (c ∷ around) seen calls bare fs at_w c aw i.inner.0.first i.inner.0.others still view_is i.old.0 i.inner.0.is t x y.0 (ap (way_of w.tables) y.0.number ∙ y.1))
      here w.tables.references w.waiting 0 (length st.symbols) [] (flat_map (settled_at all) done) w.tables ways (numbered final es 0 rs) refl refl refl i.represents.shows.symbols i.lists in
      let now_all : filter now all ≡ filter now here =
      ap (filter now) (all_is ∙ ties-append final es 0 rs (references ss)) ∙ filter-append now here (ties final es (0 + length rs) (references ss))
      ∙ ap (λ l. filter now here ++ l) (none_later final es c (0 + length rs) (c ∷ around) seen aw fs ss nested headed i.less.0 (not_among aw c c (omega arith) i.old.0)) ∙ append-nil (filter now here) in
      let order_is : flat_map (settled_at all) done ++ filter now here ≡ flat_map (settled_at all) (done ++ ends_header c ∷ []) =
      sym (flat-append (settled_at all) done (ends_header c ∷ []) ∙ ap (λ l. flat_map (settled_at all) done ++ l) (append-nil (filter now all) ∙ now_all)) in
      record {
        represents = step_as ds w st (c ∷ around) seen (header_ending p s) (record { around = around; is = refl }) tt i.represents;
        scopes = scopes_step ds w (c ∷ around) seen calls bare (header_ending p s) (record { around = around; is = refl }) tt i.scopes;
        flags = i.flags;
        sound = i.sound;
        within = i.within;
        sided = i.sided.1;
        order = i.order;
        old = i.old.1;
        less = i.less.1;
        inner = i.inner.1;
        ends = ends-append aw n done (ends_header c ∷ []) (ends_ending aw n c done i.ends) (i.less.0, not_among aw c c (omega arith) i.old.0, tt);
        tracks = subst (λ l. Tracks (IsDone aw n) (Waits aw seen fs final es) here l (staying w.waiting (map (header_outcome (source_of w.tables) c) w.waiting))) (sym done2.references) done2.tracks;
        lists = subst (λ l. Lists l (length st.symbols) (settle w.tables w.waiting (map (header_outcome (source_of w.tables) c) w.waiting))) order_is done2.lists;
        nodes = i.nodes;
      }

  inv_closing : (around : List ℕ) (seen calls : List (List ℕ)) (bare : List Scope) (awaiting fs : List ℕ) (rs : List Occurrence) (done : List Event) (w : WalkState) (st : State) (p : Place) (s : OpenScope)
      → Inv all final es (s.number ∷ around) seen calls bare awaiting fs rs done w st → After (s.number ∷ around) seen calls bare awaiting fs rs done w st (closing p s)
  inv_closing around seen calls bare awaiting fs rs done w st p s i =
      let E : SameReferences w (close_scope w s.number) = same_closing w s.number in
      let r : Refs final es awaiting seen fs rs (close_scope w s.number) = refs_same final es awaiting seen fs rs w (close_scope w s.number) E.references E.waiting E.nodes (record { tracks = i.tracks; nodes = i.nodes }) in
      let nil : done ≡ done ++ [] = sym (append-nil done) in
      record {
        represents = step_as ds w st (s.number ∷ around) seen (closing p s) (record { around = around; is = refl }) tt i.represents;
        scopes = scopes_step ds w (s.number ∷ around) seen calls bare (closing p s) (record { around = around; is = refl }) tt i.scopes;
        flags = i.flags;
        sound = i.sound;
        within = i.within;
        sided = i.sided;
        order = i.order.1;
        old = i.old;
        less = i.less;
        inner = i.inner;
        ends = subst (AllEnds awaiting (length seen)) nil i.ends;
        tracks = r.tracks;
        lists = subst (λ l. Lists (flat_map (settled_at all) l) (length st.symbols) (close_scope w s.number).tables) nil (record { uses = E.uses ∙ i.lists.uses; beyond = i.lists.beyond; free = E.free ∙ i.lists.free });
        nodes = r.nodes;
      }

  inv_leaving : (stack : List ℕ) (seen calls : List (List ℕ)) (bare : List Scope) (awaiting fs : List ℕ) (rs : List Occurrence) (done : List Event) (w : WalkState) (st : State) (p : Place)
      → Inv all final es stack seen calls bare awaiting fs rs done w st → After stack seen calls bare awaiting fs rs done w st (leaving p)
  inv_leaving stack seen calls bare awaiting fs rs done w st p i = subst (λ l. Inv all final es stack seen calls bare awaiting fs rs l w st) (sym (append-nil done)) i

  pub inv_step : (stack : List ℕ) (seen calls : List (List ℕ)) (bare : List Scope) (awaiting fs : List ℕ) (rs : List Occurrence) (done : List Event) (w : WalkState) (st : State) (step : Step) (ss : List Step)
      → all ≡ ties final es 0 (rs ++ references (step ∷ ss)) → es ≡ done ++ (events_of ds step ++ flat_map (events_of ds) ss) → st ≡ run start done → final ≡ run start es → length fs ≡ length seen
      → AreNested stack seen (step ∷ ss) → AllGrounded (step ∷ ss) → AreHeaded awaiting fs (step ∷ ss)
      → Inv all final es stack seen calls bare awaiting fs rs done w st → After stack seen calls bare awaiting fs rs done w st step
  inv_step stack seen calls bare awaiting fs rs done w st (entering p) ss a b c d e k g h i = inv_entering stack seen calls bare awaiting fs rs done w st p e k.0 g.0 h.0 i
  inv_step stack seen calls bare awaiting fs rs done w st (opening p s) ss a b c d e k g h i = inv_opening stack seen calls bare awaiting fs rs done w st p s e k.0 g.0 h.0 i
  inv_step stack seen calls bare awaiting fs rs done w st (header_ending p s) ss a b c d e k g h i =
      let nested : AreNested (s.number ∷ k.0.around) seen ss = subst (λ l. AreNested (open_past l (header_ending p s)) seen ss) k.0.is k.1 in
      let headed : AreHeaded h.0.around fs ss = subst (λ l. AreHeaded (awaiting_past l (header_ending p s)) fs ss) h.0.is h.1 in
      let j : Inv all final es (s.number ∷ k.0.around) seen calls bare (s.number ∷ h.0.around) fs rs done w st = subst (λ l. Inv all final es (s.number ∷ k.0.around) seen calls bare l fs rs done w st) h.0.is (subst (λ l. Inv all final es l seen calls bare awaiting fs rs done w st) k.0.is i) in
      let q : After (s.number ∷ k.0.around) seen calls bare (s.number ∷ h.0.around) fs rs done w st (header_ending p s) = inv_ending k.0.around h.0.around seen calls bare fs rs done w st p s ss a b c d e nested g.1 headed j in
      subst (λ l. After l seen calls bare awaiting fs rs done w st (header_ending p s)) (sym k.0.is) (subst (λ l. After (s.number ∷ k.0.around) seen calls bare l fs rs done w st (header_ending p s)) (sym h.0.is) q)
  inv_step stack seen calls bare awaiting fs rs done w st (closing p s) ss a b c d e k g h i =
      subst (λ l. After l seen calls bare awaiting fs rs done w st (closing p s)) (sym k.0.is)
      (inv_closing k.0.around seen calls bare awaiting fs rs done w st p s (subst (λ l. Inv all final es l seen calls bare awaiting fs rs done w st) k.0.is i))
  inv_step stack seen calls bare awaiting fs rs done w st (leaving p) ss a b c d e k g h i = inv_leaving stack seen calls bare awaiting fs rs done w st p i
