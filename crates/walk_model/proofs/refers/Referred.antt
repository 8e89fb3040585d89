-- Step by step, the walk's references are those of the ties, as far as headers have ended.
use Rattle.std.proofs.Common.{◌≡◌, ℕ, zero, suc, ◌+◌, ◌≤◌, List, [], ◌∷◌, ◌++◌, Option, Some, None, Bool, true, false, cond, inl, inr, refl, sym, ap, subst, ◌∙◌, map, flat_map, length, arith}
use Rattle.std.specs.Prelude.{slice_get}
use Rattle.std.specs.List.{range_with_len, cons_option}
use Rattle.std.specs.Option.{option_map_or}
use Rattle.std.proofs.lemmas.List.{length-append, append_assoc, append-nil, map-append}
use Rattle.semantic_kinds.specs.declared.kind.AstType.TheVariants as kind
use Rattle.semantic_syntax.specs.Sets.{meets}
use Rattle.semantic_syntax.specs.declared.scope_flags.TheConstants.ScopeFlags as scope
use Rattle.semantic_syntax.specs.Tables.{Scope, Tables}
use Rattle.semantic_syntax.specs.Reading.{scope_of}
use Rattle.semantic_tree.specs.Views.{is}
use Rattle.semantic_model.specs.Place.{Place, OpenScope, scope_of_place}
use Rattle.semantic_model.specs.Reference.{Occurrence, reference_at, references}
use Rattle.semantic_model.specs.Step.{Step, entering, opening, header_ending, closing, leaving}
use Rattle.semantic_model.specs.Event.{Event, declares, takes_over, ends_header}
use Rattle.semantic_model.specs.Fold.{State}
use Rattle.semantic_model.specs.Tie.{Tie, ties, settled_at}
use Rattle.semantic_model.specs.TablesOf.{uses_of}
use Rattle.semantic_model.specs.NodeTable.{numbered_from}
use Rattle.semantic_model.proofs.lists.Bounds.{IsSound}
use Rattle.semantic_model.proofs.steps.Compose.{flat-append}
use Rattle.walk_model.specs.WalkState.{WalkState}
use Rattle.walk_model.specs.Opens.{add_eval, note_reference, refer, close_scope}
use Rattle.walk_model.specs.Noted.{entries_of, with_entry}
use Rattle.walk_model.proofs.shows.Represents.{Represents}
use Rattle.walk_model.proofs.places.Nested as link
use Rattle.walk_model.proofs.places.Nested.{IsChain, IsInnermost, Descends, Extends, get_more, IsNestedStep, AreNested, open_past, open_after, seen_past, seen_after}
use Rattle.walk_model.proofs.places.Routes.{HasVar}
use Rattle.walk_model.proofs.places.Grounds.{IsGrounded}
use Rattle.walk_model.proofs.opens.LeftByDeclaring.{AllDeclare}
use Rattle.walk_model.proofs.opens.OpenedScopes.{ShowsScopes, entries-push, numbered-push}
use Rattle.walk_model.proofs.headers.Headed.{AllMatch, AreFlagged, AllLess, IsHeadedPlace, reference_matches}
use Rattle.walk_model.proofs.refers.Settling.{Tracks, Lists}
use Rattle.walk_model.proofs.headers.Frozen.{AllSidedAt, IsWithin}
use Rattle.walk_model.proofs.refers.HeaderEnds.{Waits}
use Rattle.walk_model.proofs.refers.TrackedReferences.{tie_of, ties-append, tracks-push, tracks_length, ties_length, IsDone, OldFirst, AllEnds}

-- a scope that isn't the root's
pub record IsInner (seen : List (List ℕ)) (c : ℕ) : Type 0 where
  pub first : ℕ
  pub others : List ℕ
  pub is : slice_get seen c ≡ Some (first ∷ others)

abbrev pub AllInner : List (List ℕ) → List ℕ → Type 0
AllInner seen [] = Unit {0}
AllInner seen (c ∷ cs) = IsInner seen c × AllInner seen cs

pub inner_more : (seen later : List (List ℕ)) (cs : List ℕ) → Extends seen later → AllInner seen cs → AllInner later cs
inner_more seen later [] e h = tt
inner_more seen later (c ∷ cs) e h = (record { first = h.0.first; others = h.0.others; is = get_more seen later c (h.0.first ∷ h.0.others) e h.0.is }, inner_more seen later cs e h.1)

-- what holds before each step
pub record Inv (all : List Tie) (final : State) (es : List Event) (stack : List ℕ) (seen calls : List (List ℕ)) (bare : List Scope) (awaiting fs : List ℕ) (rs : List Occurrence) (done : List Event) (w : WalkState) (st : State) : Type 0 where
  pub represents : Represents (length seen) w st
  pub scopes : ShowsScopes stack seen calls bare w
  pub flags : map (λ e. e.flags.bits) bare ≡ fs
  pub sound : IsSound st
  pub within : IsWithin (length seen) st
  pub sided : AllSidedAt awaiting st
  pub order : OldFirst stack
  pub old : OldFirst awaiting
  pub less : AllLess awaiting (length seen)
  pub inner : AllInner seen awaiting
  pub ends : AllEnds awaiting (length seen) done
  pub tracks : Tracks (IsDone awaiting (length seen)) (Waits awaiting seen fs final es) (ties final es 0 rs) w.tables.references w.waiting
  pub lists : Lists (flat_map (settled_at all) done) (length st.symbols) w.tables
  pub nodes : w.nodes.references ≡ entries_of (numbered_from 0 (map (λ r. r.node) rs))

abbrev pub referred_past : List Occurrence → Step → List Occurrence
referred_past rs (entering p) = cond (is kind.IdentifierReference p.node) (rs ++ reference_at p ∷ []) rs
referred_past rs (opening p s) = rs
referred_past rs (header_ending p s) = rs
referred_past rs (closing p s) = rs
referred_past rs (leaving p) = rs

abbrev pub referred_after : List Occurrence → List Step → List Occurrence
referred_after rs [] = rs
referred_after rs (s ∷ more) = referred_after (referred_past rs s) more

pub referred_next : (rs : List Occurrence) (step : Step) (ss : List Step) → rs ++ references (step ∷ ss) ≡ referred_past rs step ++ references ss
referred_next rs (entering p) ss = by (is kind.IdentifierReference p.node)
  where
    by : (b : Bool) → rs ++ cons_option (cond b (Some (reference_at p)) None) (references ss) ≡ cond b (rs ++ reference_at p ∷ []) rs ++ references ss
    by true = sym (append_assoc rs (reference_at p ∷ []) (references ss))
    by false = refl
referred_next rs (opening p s) ss = refl
referred_next rs (header_ending p s) ss = refl
referred_next rs (closing p s) ss = refl
referred_next rs (leaving p) ss = refl

-- events that end no header settle nothing
pub none_settled : (all : List Tie) (evs : List Event) → AllDeclare evs → flat_map (settled_at all) evs ≡ []
none_settled all [] h = refl
none_settled all (declares d ∷ evs) h = none_settled all evs h.1
none_settled all (takes_over c b ∷ evs) h = none_settled all evs h.1
none_settled all (ends_header c ∷ evs) h = absurd h.0

pub same_settled : (all : List Tie) (done evs : List Event) → AllDeclare evs → flat_map (settled_at all) done ≡ flat_map (settled_at all) (done ++ evs)
same_settled all done evs h = sym (flat-append (settled_at all) done evs ∙ ap (λ l. flat_map (settled_at all) done ++ l) (none_settled all evs h) ∙ append-nil (flat_map (settled_at all) done))

pub none_end : (awaiting : List ℕ) (n : ℕ) (evs : List Event) → AllDeclare evs → AllEnds awaiting n evs
none_end awaiting n [] h = tt
none_end awaiting n (declares d ∷ evs) h = none_end awaiting n evs h.1
none_end awaiting n (takes_over c b ∷ evs) h = none_end awaiting n evs h.1
none_end awaiting n (ends_header c ∷ evs) h = absurd h.0

-- use lists of new symbols are empty
empty_lists : (done : List Tie) (i m : ℕ) (added : List (List ℕ)) → m ≡ length added → added ≡ map (λ l. []) added → ((s : ℕ) → i ≤ s → uses_of done s ≡ []) → added ≡ map (uses_of done) (range_with_len i m)
empty_lists done i zero [] e f h = refl
empty_lists done i zero (x ∷ added) e f h = absurd (omega arith)
empty_lists done i (suc m) [] e f h = absurd (omega arith)
empty_lists done i (suc m) (x ∷ added) e f h =
    let first : x ≡ [] = cc in
    let rest : added ≡ map (λ l. []) added = cc in
    let here : x ≡ uses_of done i = first ∙ sym (h i (omega arith)) in
    let others : added ≡ map (uses_of done) (range_with_len (i + 1) m) = empty_lists done (i + 1) m added (omega arith) rest (λ s l. h s (omega arith)) in
    λ j. here j ∷ others j

more_lists : (done : List Tie) (i k m : ℕ) (added : List (List ℕ)) → m ≡ k + length added → added ≡ map (λ l. []) added → ((s : ℕ) → i + k ≤ s → uses_of done s ≡ []) → map (uses_of done) (range_with_len i k) ++ added ≡ map (uses_of done) (range_with_len i m)
more_lists done i zero m added e f h = empty_lists done i m added (omega arith) f (λ s l. h s (omega arith))
more_lists done i (suc k) zero added e f h = absurd (omega arith)
more_lists done i (suc k) (suc m) added e f h = ap (λ l. uses_of done i ∷ l) (more_lists done (i + 1) k m added (omega arith) f (λ s l. h s (omega arith)))

pub grow_lists : (done : List Tie) (k m : ℕ) (t u : Tables) (added : List (List ℕ)) → length t.uses ≡ k → length u.uses ≡ m → u.uses ≡ t.uses ++ added → added ≡ map (λ l. []) added → u.free ≡ t.free → Lists done k t → Lists done m u
grow_lists done k m t u added e f g a q h =
    let more : m ≡ k + length added = omega (arith, ap length g, length-append t.uses added, e, f) in
    record {
      uses = g ∙ ap (λ l. l ++ added) h.uses ∙ more_lists done 0 k m added more a (λ s l. h.beyond s (omega arith));
      beyond = λ s l. h.beyond s (omega arith);
      free = q ∙ h.free;
    }

-- the state of the walk before a step's events, by its references alone
pub record SameReferences (v u : WalkState) : Type 0 where
  pub references : u.tables.references ≡ v.tables.references
  pub waiting : u.waiting ≡ v.waiting
  pub uses : u.tables.uses ≡ v.tables.uses
  pub free : u.tables.free ≡ v.tables.free
  pub nodes : u.nodes.references ≡ v.nodes.references

pub same_eval : (b : Bool) (v : WalkState) (c : ℕ) → SameReferences v (cond b (add_eval v c) v)
same_eval true v c = record { references = refl; waiting = refl; uses = refl; free = refl; nodes = refl }
same_eval false v c = record { references = refl; waiting = refl; uses = refl; free = refl; nodes = refl }

pub same_closing : (w : WalkState) (c : ℕ) → SameReferences w (close_scope w c)
same_closing w c = by (meets (scope_of w.tables c).flags.bits scope.DirectEval.bits) (scope_of w.tables c).parent
  where
    by : (b : Bool) (o : Option ℕ) → SameReferences w (cond b (option_map_or (add_eval w) o w) w)
    by true None = record { references = refl; waiting = refl; uses = refl; free = refl; nodes = refl }
    by true (Some q) = record { references = refl; waiting = refl; uses = refl; free = refl; nodes = refl }
    by false o = record { references = refl; waiting = refl; uses = refl; free = refl; nodes = refl }

-- what is tracked of references
pub record Refs (final : State) (es : List Event) (awaiting : List ℕ) (seen : List (List ℕ)) (fs : List ℕ) (rs : List Occurrence) (w : WalkState) : Type 0 where
  pub tracks : Tracks (IsDone awaiting (length seen)) (Waits awaiting seen fs final es) (ties final es 0 rs) w.tables.references w.waiting
  pub nodes : w.nodes.references ≡ entries_of (numbered_from 0 (map (λ r. r.node) rs))

pub refs_same : (final : State) (es : List Event) (awaiting : List ℕ) (seen : List (List ℕ)) (fs : List ℕ) (rs : List Occurrence) (v u : WalkState) → u.tables.references ≡ v.tables.references → u.waiting ≡ v.waiting → u.nodes.references ≡ v.nodes.references → Refs final es awaiting seen fs rs v → Refs final es awaiting seen fs rs u
refs_same final es awaiting seen fs rs v u a b c h = record {
  tracks = subst (λ l. Tracks (IsDone awaiting (length seen)) (Waits awaiting seen fs final es) (ties final es 0 rs) l u.waiting) (sym a)
      (subst (λ l. Tracks (IsDone awaiting (length seen)) (Waits awaiting seen fs final es) (ties final es 0 rs) v.tables.references l) (sym b) h.tracks);
  nodes = c ∙ h.nodes;
}

length_nodes : (rs : List Occurrence) → length (map (λ r. r.node) rs) ≡ length rs
length_nodes [] = refl
length_nodes (r ∷ rs) = omega (arith, length_nodes rs)

-- a reference that is noted waits where it stands
pub refs_noted : (final : State) (es : List Event) (awaiting : List ℕ) (stack : List ℕ) (seen : List (List ℕ)) (fs : List ℕ) (rs : List Occurrence) (w : WalkState) (p : Place) → IsGrounded p → IsChain stack seen p.chain → IsHeadedPlace awaiting fs p → Refs final es awaiting seen fs rs w
    → Refs final es awaiting seen fs (referred_past rs (entering p)) (note_reference w p)
refs_noted final es awaiting stack seen fs rs w p g k h r = by (is kind.IdentifierReference p.node) refl g
  where
    n : ℕ
    n = length w.tables.references

    count : n ≡ length rs
    count = tracks_length (IsDone awaiting (length seen)) (Waits awaiting seen fs final es) (ties final es 0 rs) w.tables.references w.waiting r.tracks ∙ ties_length final es 0 rs

    waits_new : (chain : List OpenScope) → p.chain ≡ chain → HasVar chain → AllMatch awaiting p.chain → Waits awaiting seen fs final es (tie_of final es (0 + length rs) (reference_at p)) (record { name = p.node.text; reference = n; lookup_scope = scope_of_place p })
    waits_new [] e v m = absurd (v refl)
    waits_new (s ∷ ss) e v m = record {
      asked = [];
      next = s;
      rest = ss;
      chain_is = e;
      through = refl;
      is_tie = refl;
      name = refl;
      number = count ∙ omega arith;
      scope = rw e refl;
      matches = subst (AllMatch awaiting) e m;
      linked = subst (link.AreLinked seen) e k.are_linked;
      flagged = subst (AreFlagged fs) e h.flagged;
      descends = k.descends;
    }

    by : (b : Bool) → is kind.IdentifierReference p.node ≡ b → IsGrounded p → Refs final es awaiting seen fs (cond b (rs ++ reference_at p ∷ []) rs) (cond b (refer w p) w)
    by true e (inl v) = record {
      tracks = subst (λ ts. Tracks (IsDone awaiting (length seen)) (Waits awaiting seen fs final es) ts (refer w p).tables.references (refer w p).waiting) (sym (ties-append final es 0 rs (reference_at p ∷ [])))
          (tracks-push (IsDone awaiting (length seen)) (Waits awaiting seen fs final es) (ties final es 0 rs) w.tables.references w.waiting (tie_of final es (0 + length rs) (reference_at p)) (record { name = p.node.text; reference = n; lookup_scope = scope_of_place p }) r.tracks (waits_new p.chain refl v (reference_matches awaiting fs p h e)));
      nodes = ap (λ l. with_entry l (record { node = p.node.node_id; number = n })) r.nodes
          ∙ sym (entries-push (numbered_from 0 (map (λ q. q.node) rs)) (record { node = p.node.node_id; number = n }))
          ∙ ap (λ m. entries_of (numbered_from 0 (map (λ q. q.node) rs) ++ record { node = p.node.node_id; number = m } ∷ [])) number
          ∙ ap entries_of (sym (numbered-push 0 (map (λ q. q.node) rs) p.node.node_id))
          ∙ ap (λ l. entries_of (numbered_from 0 l)) (sym (map-append (λ q. q.node) rs (reference_at p ∷ [])));
    }
      where
        number : n ≡ 0 + length (map (λ (q : Occurrence). q.node) rs)
        number = omega (arith, count, length_nodes rs)
    by true e (inr q) = let z : false ≡ true = rw q at e in absurd cc
    by false e v = r
