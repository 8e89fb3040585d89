-- Step by step, the walk's scopes are those of the definitions, with the flag of `eval` as far as calls have reached.
use Rattle.std.proofs.Common.{◌≡◌, ℕ, zero, suc, ◌+◌, ◌<◌, ◌≤◌, ◌==◌, List, [], ◌∷◌, ◌++◌, Some, Bool, true, false, cond, ◌&&◌, ◌||◌, inl, inr, refl, sym, ap, subst, ◌∙◌, length, map, slice_index_or, arith}
use Rattle.std.specs.Prelude.{slice_get, slice_set}
use Rattle.std.specs.Option.{option_map_or}
use Rattle.std.proofs.lemmas.Option.{slice_get_within}
use Rattle.std.proofs.lemmas.List.{map-append}
use Rattle.std.proofs.lemmas.List.Sums.{fold-append}
use Rattle.std.proofs.lemmas.Bool.Decides.{eqb_tells}
use Rattle.semantic_kinds.specs.declared.kind.AstType.TheVariants as kind
use Rattle.semantic_syntax.specs.declared.scope_flags.TheConstants.ScopeFlags as scope
use Rattle.semantic_syntax.specs.Sets.{meets}
use Rattle.semantic_syntax.specs.Tables.{Scope}
use Rattle.semantic_syntax.specs.Reading.{scope_of, no_scope}
use Rattle.semantic_syntax.specs.Told.{source_of}
use Rattle.semantic_tree.specs.Views.{is}
use Rattle.semantic_model.specs.Place.{Place, OpenScope, scope_of_place, innermost}
use Rattle.semantic_model.specs.Declaration.{Declaration}
use Rattle.semantic_syntax.specs.Members.{contains}
use Rattle.semantic_model.specs.Step.{Step, entering, opening, header_ending, closing, leaving}
use Rattle.semantic_model.specs.Binder.{declared_on_entering, declared_on_opening}
use Rattle.semantic_model.specs.Event.{Event, takes_over, declares_all, taken_over, is_catch_body, events_of}
use Rattle.semantic_model.specs.TablesOf.{is_direct_eval, numbers}
use Rattle.semantic_model.specs.NodeTable.{Belongs, numbered_from}
use Rattle.semantic_syntax.specs.Outcome.{Pending, Outcome, header_outcome}
use Rattle.walk_model.specs.WalkState.{WalkState}
use Rattle.walk_model.specs.Opens.{innermost_number, with_eval, add_eval, note_eval, note_reference, refer, open_scope, close_scope}
use Rattle.walk_model.specs.Settles.{settle, settle_by}
use Rattle.walk_model.specs.Noted.{with_entry, entries_of}
use Rattle.walk_model.specs.Walks as walk
use Rattle.walk_model.proofs.shows.ShownTakeOvers.{Kept, settle_keeps}
use Rattle.walk_model.proofs.places.Nested.{IsChain, AreOpen, IsNestedStep, AreNested, open_past, open_after, seen_past, seen_after, Extends, get_end, get_more}
use Rattle.walk_model.proofs.places.Routes.{HasVar}
use Rattle.walk_model.proofs.places.Grounds.{IsGrounded, IsStepGrounded, AllGrounded}
use Rattle.walk_model.proofs.opens.LeftByDeclaring.{Untouched, AllDeclare, acts_untouched}
use Rattle.walk_model.proofs.opens.EvalFlags.{IsClean, opened_clean, with_flag, flagged, unflagged, flagged_same, flagged_set, flagged_parent, AllClean, flagged_meets, flagged-push}
use Rattle.walk_model.proofs.opens.EvalReach.{reached, reaches_open, AllLinked, linked_numbers, all_linked_longer, linked-push, reached-push, reached_new, reached_none, head_of, is_first, IsHeadOpen, reached_closed}

-- a scope as it opens
abbrev pub bare_entry : Place → OpenScope → Scope
bare_entry p s = record { parent = innermost_number p.chain; node = s.opener; flags = record { bits = s.flags } }

abbrev pub bare_past : List Scope → Step → List Scope
bare_past bare (opening p s) = bare ++ bare_entry p s ∷ []
bare_past bare (entering p) = bare
bare_past bare (header_ending p s) = bare
bare_past bare (closing p s) = bare
bare_past bare (leaving p) = bare

abbrev pub bare_after : List Scope → List Step → List Scope
bare_after bare [] = bare
bare_after bare (s ∷ more) = bare_after (bare_past bare s) more

abbrev pub calls_past : List (List ℕ) → Step → List (List ℕ)
calls_past calls (entering p) = cond (is_direct_eval p.node) (calls ++ numbers p.chain ∷ []) calls
calls_past calls (opening p s) = calls
calls_past calls (header_ending p s) = calls
calls_past calls (closing p s) = calls
calls_past calls (leaving p) = calls

abbrev pub calls_after : List (List ℕ) → List Step → List (List ℕ)
calls_after calls [] = calls
calls_after calls (s ∷ more) = calls_after (calls_past calls s) more

-- an open scope: those around it are seen, and the next of them is open further out
pub record Frame (seen : List (List ℕ)) (s : ℕ) (stack : List ℕ) : Type 0 where
  pub around : List ℕ
  pub is : slice_get seen s ≡ Some around
  pub next : IsHeadOpen stack around
  pub apart : contains stack s ≡ false

abbrev pub AreFrames : List (List ℕ) → List ℕ → Type 0
AreFrames seen [] = Unit {0}
AreFrames seen (s ∷ stack) = Frame seen s stack × AreFrames seen stack

frames_longer : (seen later : List (List ℕ)) (stack : List ℕ) → Extends seen later → AreFrames seen stack → AreFrames later stack
frames_longer seen later [] e h = tt
frames_longer seen later (s ∷ stack) e h =
    (record { around = h.0.around; is = get_more seen later s h.0.around e h.0.is; next = h.0.next; apart = h.0.apart }, frames_longer seen later stack e h.1)

frames_apart : (seen : List (List ℕ)) (stack : List ℕ) (n : ℕ) → length seen ≤ n → AreFrames seen stack → contains stack n ≡ false
frames_apart seen [] n l h = refl
frames_apart seen (s ∷ stack) n l h =
    let less : s < length seen = slice_get_within seen s h.0.around h.0.is in
    let other : (s == n) ≡ false = elim (eqb_tells s n) [ inl q ↦ absurd (omega (arith, q.1, less, l)) | inr q ↦ q.0 ] in
    ap (λ b. b || contains stack n) other ∙ frames_apart seen stack n l h.1

pub record ShowsScopes (stack : List ℕ) (seen calls : List (List ℕ)) (bare : List Scope) (w : WalkState) : Type 0 where
  pub scopes : w.tables.scopes ≡ flagged (reached stack calls) 0 bare
  pub parents : map (λ e. e.parent) bare ≡ map head_of seen
  pub clean : AllClean bare
  pub linked : AllLinked seen calls
  pub frames : AreFrames seen stack
  pub nodes : w.nodes.scopes ≡ entries_of (numbered_from 0 (map (λ e. e.node) bare))

-- nothing of it changes
same_scopes : (stack : List ℕ) (seen calls : List (List ℕ)) (bare : List Scope) (w v : WalkState) → v.tables.scopes ≡ w.tables.scopes → v.nodes.scopes ≡ w.nodes.scopes → ShowsScopes stack seen calls bare w → ShowsScopes stack seen calls bare v
same_scopes stack seen calls bare w v e f h = record { scopes = e ∙ h.scopes; parents = h.parents; clean = h.clean; linked = h.linked; frames = h.frames; nodes = f ∙ h.nodes }

pub parent_seen : (bare : List Scope) (seen : List (List ℕ)) (i : ℕ) (around : List ℕ) → map (λ e. e.parent) bare ≡ map head_of seen → slice_get seen i ≡ Some around → (slice_index_or bare i no_scope).parent ≡ head_of around
parent_seen bare [] i around e h = absurd cc
parent_seen [] (x ∷ seen) i around e h = absurd cc
parent_seen (b ∷ bare) (x ∷ seen) zero around e h =
    let q : b.parent ≡ head_of x = cc in
    let r : x ≡ around = cc in
    q ∙ ap head_of r
parent_seen (b ∷ bare) (x ∷ seen) (suc i) around e h = let q : map (λ (f : Scope). f.parent) bare ≡ map head_of seen = cc in parent_seen bare seen i around q h

pub as_many : (bare : List Scope) (seen : List (List ℕ)) → map (λ e. e.parent) bare ≡ map head_of seen → length bare ≡ length seen
as_many [] [] e = refl
as_many [] (x ∷ seen) e = absurd cc
as_many (b ∷ bare) [] e = absurd cc
as_many (b ∷ bare) (x ∷ seen) e = let q : map (λ (f : Scope). f.parent) bare ≡ map head_of seen = cc in omega (arith, as_many bare seen q)

note_call : (stack : List ℕ) (seen calls : List (List ℕ)) (bare : List Scope) (v : WalkState) (s : OpenScope) (ss : List OpenScope) → IsChain stack seen (s ∷ ss) → ShowsScopes stack seen calls bare v
    → ShowsScopes stack seen (calls ++ numbers (s ∷ ss) ∷ []) bare (add_eval v s.number)
note_call stack seen calls bare v s ss k h = record {
  scopes = ap (λ es. slice_set es s.number (with_eval (slice_index_or es s.number no_scope))) h.scopes
      ∙ flagged_set (reached stack calls) 0 s.number s.number bare (omega arith)
      ∙ flagged_same (λ c. reached stack calls c || s.number == c) (reached stack (calls ++ numbers (s ∷ ss) ∷ [])) 0 bare
      (λ c l. sym (reached-push stack calls (numbers (s ∷ ss)) c ∙ ap (λ b. reached stack calls c || b) (reaches_open stack s.number (numbers ss) c k.are_open.0)));
  parents = h.parents;
  clean = h.clean;
  linked = linked-push seen calls (numbers (s ∷ ss)) h.linked (linked_numbers seen (s ∷ ss) k.are_linked);
  frames = h.frames;
  nodes = h.nodes;
}

no_call_at_root : (p : Place) → p.node.kind ≡ kind.Program → is_direct_eval p.node ≡ false
no_call_at_root p e = rw e refl

noted : (stack : List ℕ) (seen calls : List (List ℕ)) (bare : List Scope) (v : WalkState) (p : Place) → IsGrounded p → IsChain stack seen p.chain → ShowsScopes stack seen calls bare v
    → ShowsScopes stack seen (calls_past calls (entering p)) bare (note_eval v p)
noted stack seen calls bare v p g k h = go (is_direct_eval p.node) refl g
  where
    solid : (chain : List OpenScope) → p.chain ≡ chain → HasVar chain → IsChain stack seen chain → ShowsScopes stack seen (calls ++ numbers chain ∷ []) bare (add_eval v (scope_of_place p))
    solid [] e f i = absurd (f refl)
    solid (s ∷ ss) e f i = rw e (note_call stack seen calls bare v s ss i h)

    go : (b : Bool) → is_direct_eval p.node ≡ b → IsGrounded p → ShowsScopes stack seen (cond b (calls ++ numbers p.chain ∷ []) calls) bare (cond b (add_eval v (scope_of_place p)) v)
    go true e (inl f) = solid p.chain refl f k
    go true e (inr f) = let q : false ≡ true = sym (no_call_at_root p f) ∙ e in absurd cc
    go false e f = h

entered : (stack : List ℕ) (seen calls : List (List ℕ)) (bare : List Scope) (w : WalkState) (p : Place) → IsGrounded p → IsChain stack seen p.chain → ShowsScopes stack seen calls bare w
    → ShowsScopes stack seen (calls_past calls (entering p)) bare (note_eval (note_reference w p) p)
entered stack seen calls bare w p g k h = noted stack seen calls bare (note_reference w p) p g k (go (is kind.IdentifierReference p.node))
  where
    go : (b : Bool) → ShowsScopes stack seen calls bare (cond b (refer w p) w)
    go true = same_scopes stack seen calls bare w (refer w p) refl refl h
    go false = h

head_number : (chain : List OpenScope) → innermost_number chain ≡ head_of (numbers chain)
head_number [] = refl
head_number (s ∷ ss) = refl

head_open : (stack : List ℕ) (chain : List OpenScope) → AreOpen stack chain → IsHeadOpen stack (numbers chain)
head_open stack [] h = tt
head_open stack (s ∷ ss) h = h.0

clean-push : (es : List Scope) (e : Scope) → AllClean es → IsClean e.flags.bits → AllClean (es ++ e ∷ [])
clean-push [] e h k = (k, tt)
clean-push (x ∷ es) e h k = (h.0, clean-push es e h.1 k)

pub numbered-push : (i : ℕ) (xs : List ℕ) (x : ℕ) → numbered_from i (xs ++ x ∷ []) ≡ numbered_from i xs ++ record { node = x; number = i + length xs } ∷ []
numbered-push i [] x = ap (λ n. record { node = x; number = n } ∷ []) (omega arith)
numbered-push i (y ∷ xs) x =
    let n : suc i + length xs ≡ i + length (y ∷ xs) = omega arith in
    ap (λ bs. record { node = y; number = i } ∷ bs) (numbered-push (suc i) xs x ∙ ap (λ m. numbered_from (suc i) xs ++ record { node = x; number = m } ∷ []) n)

pub entries-push : (bs : List Belongs) (b : Belongs) → entries_of (bs ++ b ∷ []) ≡ with_entry (entries_of bs) b
entries-push bs b = fold-append with_entry [] bs (b ∷ [])

length_nodes : (es : List Scope) → length (map (λ e. e.node) es) ≡ length es
length_nodes [] = refl
length_nodes (e ∷ es) = omega (arith, length_nodes es)

opened : (stack : List ℕ) (seen calls : List (List ℕ)) (bare : List Scope) (w : WalkState) (p : Place) (s : OpenScope) → s.number ≡ length seen → IsClean s.flags → IsChain stack seen p.chain → ShowsScopes stack seen calls bare w
    → ShowsScopes (s.number ∷ stack) (seen ++ numbers p.chain ∷ []) calls (bare ++ bare_entry p s ∷ []) (open_scope w p s)
opened stack seen calls bare w p s e f k h =
    let new : List (List ℕ) = seen ++ numbers p.chain ∷ [] in
    let count : length bare ≡ length seen = as_many bare seen h.parents in
    let longer : Extends seen new = record { added = numbers p.chain ∷ []; is = refl } in
    let beyond : length seen ≤ s.number = omega arith in
    let none : reached (s.number ∷ stack) calls (0 + length bare) ≡ false =
    subst (λ n. reached (s.number ∷ stack) calls n ≡ false) (omega arith) (reached_none (s.number ∷ stack) seen s.number calls beyond h.linked) in
    let nodes : List ℕ = map (λ e. e.node) bare in
    let node_number : 0 + length nodes ≡ s.number = omega (arith, length_nodes bare) in
    record {
      scopes = ap (λ es. es ++ bare_entry p s ∷ []) (h.scopes ∙ flagged_same (reached stack calls) (reached (s.number ∷ stack) calls) 0 bare (λ c l. sym (reached_new stack seen s.number calls c beyond h.linked)))
          ∙ ap (λ x. flagged (reached (s.number ∷ stack) calls) 0 bare ++ x ∷ []) (sym (ap (λ b. with_flag b (bare_entry p s)) none ∙ unflagged (bare_entry p s)))
          ∙ sym (flagged-push (reached (s.number ∷ stack) calls) 0 bare (bare_entry p s));
      parents = map-append (λ x. x.parent) bare (bare_entry p s ∷ []) ∙ (λ i. h.parents i ++ head_number p.chain i ∷ []) ∙ sym (map-append head_of seen (numbers p.chain ∷ []));
      clean = clean-push bare (bare_entry p s) h.clean f;
      linked = all_linked_longer seen new calls longer h.linked;
      frames = (record { around = numbers p.chain; is = get_end seen (numbers p.chain) s.number (sym e); next = head_open stack p.chain k.are_open; apart = frames_apart seen stack s.number beyond h.frames }, frames_longer seen new stack longer h.frames);
      nodes = ap (λ es. with_entry es (record { node = s.opener; number = s.number })) h.nodes
          ∙ sym (entries-push (numbered_from 0 nodes) (record { node = s.opener; number = s.number }))
          ∙ ap (λ n. entries_of (numbered_from 0 nodes ++ record { node = s.opener; number = n } ∷ [])) (sym node_number)
          ∙ ap entries_of (sym (numbered-push 0 nodes s.opener))
          ∙ ap (λ xs. entries_of (numbered_from 0 xs)) (sym (map-append (λ x. x.node) bare (bare_entry p s ∷ [])));
    }

closed : (stack : List ℕ) (seen calls : List (List ℕ)) (bare : List Scope) (w : WalkState) (s : ℕ) → ShowsScopes (s ∷ stack) seen calls bare w → ShowsScopes stack seen calls bare (close_scope w s)
closed stack seen calls bare w s h =
    rw (flag_is, parent_is) (by (reached (s ∷ stack) calls s) refl frame.around frame.is frame.next)
  where
    frame : Frame seen s stack
    frame = h.frames.0

    within : s < length bare
    within = omega (arith, slice_get_within seen s frame.around frame.is, as_many bare seen h.parents)

    flag_is : meets (scope_of w.tables s).flags.bits scope.DirectEval.bits ≡ reached (s ∷ stack) calls s
    flag_is = ap (λ es. meets (slice_index_or es s no_scope).flags.bits scope.DirectEval.bits) h.scopes ∙ flagged_meets (reached (s ∷ stack) calls) 0 bare s s (omega arith) within h.clean

    parent_is : (scope_of w.tables s).parent ≡ head_of frame.around
    parent_is = ap (λ es. (slice_index_or es s no_scope).parent) h.scopes ∙ flagged_parent (reached (s ∷ stack) calls) 0 bare s ∙ parent_seen bare seen s frame.around h.parents frame.is

    done : (v : WalkState) → v.tables.scopes ≡ flagged (reached stack calls) 0 bare → v.nodes.scopes ≡ w.nodes.scopes → ShowsScopes stack seen calls bare v
    done v e f = record { scopes = e; parents = h.parents; clean = h.clean; linked = h.linked; frames = h.frames.1; nodes = f ∙ h.nodes }

    or_false : (a b : Bool) → a ≡ (a || (b && false))
    or_false true b = refl
    or_false false true = refl
    or_false false false = refl

    or_and : (a b x : Bool) → b ≡ true → (a || x) ≡ (a || (b && x))
    or_and a b x e = rw e refl

    or_off : (a b x : Bool) → b ≡ false → a ≡ (a || (b && x))
    or_off true b x e = refl
    or_off false b x e = rw e refl

    by : (b : Bool) → reached (s ∷ stack) calls s ≡ b → (around : List ℕ) → slice_get seen s ≡ Some around → IsHeadOpen stack around
        → ShowsScopes stack seen calls bare (cond b (option_map_or (add_eval w) (head_of around) w) w)
    by true e [] q o =
        done w (h.scopes ∙ flagged_same (reached (s ∷ stack) calls) (reached stack calls) 0 bare (λ c l. or_false (reached (s ∷ stack) calls c) (reached (s ∷ stack) calls s) ∙ sym (reached_closed stack seen s [] calls c frame.apart q o h.linked))) refl
    by true e (d ∷ ds) q o =
        done (add_eval w d) (ap (λ es. slice_set es d (with_eval (slice_index_or es d no_scope))) h.scopes
        ∙ flagged_set (reached (s ∷ stack) calls) 0 d d bare (omega arith)
        ∙ flagged_same (λ c. reached (s ∷ stack) calls c || d == c) (reached stack calls) 0 bare (λ c l. or_and (reached (s ∷ stack) calls c) (reached (s ∷ stack) calls s) (d == c) e ∙ sym (reached_closed stack seen s (d ∷ ds) calls c frame.apart q o h.linked))) refl
    by false e around q o =
        done w (h.scopes ∙ flagged_same (reached (s ∷ stack) calls) (reached stack calls) 0 bare (λ c l. or_off (reached (s ∷ stack) calls c) (reached (s ∷ stack) calls s) (is_first around c) e ∙ sym (reached_closed stack seen s around calls c frame.apart q o h.linked))) refl

all_declare : (ds new : List Declaration) → AllDeclare (declares_all ds new)
all_declare ds [] = tt
all_declare ds (d ∷ new) = (tt, all_declare ds new)

declare-append : (es fs : List Event) → AllDeclare es → AllDeclare fs → AllDeclare (es ++ fs)
declare-append [] fs h k = k
declare-append (e ∷ es) fs h k = (h.0, declare-append es fs h.1 k)

taken_declares : (p : Place) (s : OpenScope) → AllDeclare (taken_over p s)
taken_declares p s = go (is_catch_body p)
  where
    go : (b : Bool) → AllDeclare (cond b (takes_over (innermost p.chain).number s.number ∷ []) [])
    go true = (tt, tt)
    go false = tt

-- the events of a step that ends no header
pub entering_declares : (ds : List Declaration) (p : Place) → AllDeclare (events_of ds (entering p))
entering_declares ds p = all_declare ds (declared_on_entering p)

pub opening_declares : (ds : List Declaration) (p : Place) (s : OpenScope) → AllDeclare (events_of ds (opening p s))
opening_declares ds p s = declare-append (taken_over p s) (declares_all ds (declared_on_opening p s)) (taken_declares p s) (all_declare ds (declared_on_opening p s))

pub settled_scopes : (stack : List ℕ) (seen calls : List (List ℕ)) (bare : List Scope) (w : WalkState) (outcome : Pending → Outcome) → ShowsScopes stack seen calls bare w → ShowsScopes stack seen calls bare (settle_by w outcome)
settled_scopes stack seen calls bare w outcome h =
    let k : Kept w.tables (settle w.tables w.waiting (map outcome w.waiting)) = settle_keeps w.tables w.waiting (map outcome w.waiting) in
    same_scopes stack seen calls bare w (settle_by w outcome) k.scopes refl h

pub scopes_step : (ds : List Declaration) (w : WalkState) (stack : List ℕ) (seen calls : List (List ℕ)) (bare : List Scope) (step : Step) → IsNestedStep stack seen step → IsStepGrounded step → ShowsScopes stack seen calls bare w
    → ShowsScopes (open_past stack step) (seen_past seen step) (calls_past calls step) (bare_past bare step) (walk.after ds w step)
scopes_step ds w stack seen calls bare (entering p) k g h =
    let v : WalkState = walk.prepare w (entering p) in
    let u : Untouched v (walk.after ds w (entering p)) = acts_untouched v (events_of ds (entering p)) (entering_declares ds p) in
    same_scopes stack seen (calls_past calls (entering p)) bare v (walk.after ds w (entering p)) u.scopes u.node_scopes (entered stack seen calls bare w p g k h)
scopes_step ds w stack seen calls bare (opening p s) k g h =
    let v : WalkState = walk.prepare w (opening p s) in
    let u : Untouched v (walk.after ds w (opening p s)) = acts_untouched v (events_of ds (opening p s)) (opening_declares ds p s) in
    same_scopes (s.number ∷ stack) (seen ++ numbers p.chain ∷ []) calls (bare ++ bare_entry p s ∷ []) v (walk.after ds w (opening p s)) u.scopes u.node_scopes
    (opened stack seen calls bare w p s (ap (λ o. o.number) k.1) (subst (λ (o : OpenScope). IsClean o.flags) (sym k.1) (opened_clean p (length seen))) k.0 h)
scopes_step ds w stack seen calls bare (header_ending p s) k g h = settled_scopes stack seen calls bare w (header_outcome (source_of w.tables) s.number) h
scopes_step ds w stack seen calls bare (closing p s) k g h =
    subst (λ l. ShowsScopes (open_past l (closing p s)) seen calls bare (close_scope w s.number)) (sym k.is)
    (closed k.around seen calls bare w s.number (subst (λ l. ShowsScopes l seen calls bare w) k.is h))
scopes_step ds w stack seen calls bare (leaving p) k g h = h

pub scopes_steps : (ds : List Declaration) (w : WalkState) (stack : List ℕ) (seen calls : List (List ℕ)) (bare : List Scope) (ss : List Step) → AreNested stack seen ss → AllGrounded ss → ShowsScopes stack seen calls bare w
    → ShowsScopes (open_after stack ss) (seen_after seen ss) (calls_after calls ss) (bare_after bare ss) (walk.after_all ds w ss)
scopes_steps ds w stack seen calls bare [] k g h = h
scopes_steps ds w stack seen calls bare (s ∷ more) k g h =
    scopes_steps ds (walk.after ds w s) (open_past stack s) (seen_past seen s) (calls_past calls s) (bare_past bare s) more k.1 g.1 (scopes_step ds w stack seen calls bare s k.0 g.0 h)
