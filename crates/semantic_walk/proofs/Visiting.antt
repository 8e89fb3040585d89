-- A walk over the children of a place, one child at a time.
use Rattle.std.proofs.Common.{◌≡◌, ℕ, ◌+◌, ◌-◌, ◌≤◌, List, [], ◌∷◌, ◌++◌, Option, Some, None, Bool, true, false, cond, inl, inr, IfSome, option_map, length, take, reverse, length-append, refl, sym, ap, subst, ◌∙◌, arith}
use Rattle.std.proofs.lemmas.List.{reverse-append, take_at}
use Rattle.std.specs.Option.{unwrap_or}
use Rattle.semantic_kinds.specs.Kinds.{same_kind}
use Rattle.semantic_kinds.specs.declared.kind.AstType.{AstType}
use Rattle.semantic_kinds.specs.declared.kind.AstType.TheVariants as kind
use Rattle.semantic_kinds.specs.declared.role.Role.{Role}
use Rattle.semantic_syntax.specs.Reading.{scope_of}
use Rattle.semantic_syntax.specs.Tables.{Tables}
use Rattle.semantic_tree.specs.Forest.{Forest, nothing}
use Rattle.semantic_tree.specs.Limits.{source_limit}
use Rattle.semantic_tree.specs.Children.{forest_of}
use Rattle.semantic_tree.specs.declared.node.Node.{Node}
use Rattle.semantic_model.specs.Namespace.{InstanceState}
use Rattle.semantic_model.specs.Place.{Place, OpenScope, scope_of_place}
use Rattle.semantic_model.specs.Inside.{opens, is_inside, is_parameter_decorator, scopes_in}
use Rattle.semantic_model.specs.Ambient.{ambient_inside, ambient_round}
use Rattle.semantic_model.specs.Cursor.{cursor_before, cursor_behind, cursor_after, on_entering}
use Rattle.semantic_model.specs.Declaration.{Declaration}
use Rattle.semantic_model.specs.Step.{Step, entering, leaving, steps_below, steps_of, opening_at, ending_after, opening_last, scope_at, next_at, child_place, cursor_past}
use Rattle.semantic_model.proofs.form.Clauses.{kind_is}
use Rattle.semantic_model.proofs.lists.Members.{among_left, among_right}
use Rattle.walk_model.specs.WalkState.{WalkState}
use Rattle.walk_model.specs.Walks.{after, after_all}
use Rattle.walk_model.specs.WrittenNames.{WrittenName}
use Rattle.walk_model.specs.Waits.{HoldsAt, start_at}
use Rattle.walk_model.specs.NamedScopes.{IsStepNamed, AllNamed}
use Rattle.walk_model.specs.Recursion.{IsReady, IsBetween}
use Rattle.walk_model.proofs.turns.ChildTurns.{node_turn}
use Rattle.walk_model.proofs.turns.TurnParts.{within_at}
use Rattle.walk_model.proofs.turns.WalkTurns as turns
use Rattle.walk_model.specs.Room.{HasRoom}
use Rattle.walk_model.proofs.sizes.Rooms.{room_after}
use Rattle.node_store.specs.Entered.{Entered}
use Rattle.semantic_walk.specs.Listed.{IsAmong, all_listed}
use Rattle.walk_notes.specs.NoteLists.{NoteLists, noting, noted_inside, noted_over}
use Rattle.semantic_walk.specs.Stated.{IsStated, AllStated}
use Rattle.semantic_walk.specs.Walker.{Walker, telling_of}
use Rattle.semantic_walk.specs.Turns.{child_scope, own_or}
use Rattle.semantic_walk.specs.AtPlace.{probes_over, ComesTo, IsWithin, IsTurnAt, IsBetweenAt, IsOpenAtRoot, IsComing, entered, kept_at, told_within, walked_into, walked_within, left_at, walked_over}
use Rattle.walk_model.specs.Probes.{probes_of_steps}
use Rattle.semantic_syntax.specs.Counts.{raised}
use Rattle.semantic_walk.specs.declared.visit.Turn.{Turn}
use Rattle.check_walk.specs.Ready.{IsReadyBetween}
use Rattle.check_walk.specs.SoFar.{Telling}
use Rattle.check_walk.specs.TellingAlong.{telling_along, making, telling_over}
use Rattle.check_walk.proofs.Along.{last_untold}
use Rattle.semantic_walk.proofs.Told.{left_told, over_told, told_past}
use Rattle.semantic_walk.proofs.RoomAt.{child_room, rest_room}
use Rattle.semantic_walk.proofs.Readying.{ready_first, ready_at_child, ready_past}
use Rattle.semantic_walk.proofs.Listing.{last_without, child_kept, rest_kept, rest_lists, first_kept, left_kept, still_kept}

-- a walk is what it has made and where it stands
same_walker : (w v : Walker) → w.made ≡ v.made → w.source_type ≡ v.source_type → w.states ≡ v.states → w.namesakes ≡ v.namesakes → w.path ≡ v.path → w.current ≡ v.current → w.cursor ≡ v.cursor → w.is_ambient ≡ v.is_ambient → w.nodes ≡ v.nodes → w.notes ≡ v.notes
    → w.source ≡ v.source → w.checks ≡ v.checks → w.said ≡ v.said → w.counted ≡ v.counted → w ≡ v
same_walker w v made source_type states namesakes path current cursor is_ambient nodes notes source checks said counted = λ i. record {
  made = made i;
  source_type = source_type i;
  states = states i;
  namesakes = namesakes i;
  path = path i;
  current = current i;
  cursor = cursor i;
  is_ambient = is_ambient i;
  nodes = nodes i;
  notes = notes i;
  source = source i;
  checks = checks i;
  said = said i;
  counted = counted i;
}

named_left : (ds : List Declaration) (ws : List WrittenName) (xs ys : List Step) → AllNamed ds ws (xs ++ ys) → AllNamed ds ws xs
named_left ds ws [] ys h = tt
named_left ds ws (x ∷ xs) ys h = (h.0, named_left ds ws xs ys h.1)

named_right : (ds : List Declaration) (ws : List WrittenName) (xs ys : List Step) → AllNamed ds ws (xs ++ ys) → AllNamed ds ws ys
named_right ds ws [] ys h = h
named_right ds ws (x ∷ xs) ys h = named_right ds ws xs ys h.1

pub stated_left : (states : List InstanceState) (xs ys : List Step) → AllStated states (xs ++ ys) → AllStated states xs
stated_left states xs ys h = λ p among. h p (among_left (entering p) xs ys among)

stated_right : (states : List InstanceState) (xs ys : List Step) → AllStated states (xs ++ ys) → AllStated states ys
stated_right states xs ys h = λ p among. h p (among_right (entering p) xs ys among)

-- the path of a walk within a node is that to the node, and the node
path_with : (xs : List Node) (x : Node) → reverse (x ∷ xs) ≡ reverse xs ++ x ∷ []
path_with xs x = reverse-append (x ∷ []) xs

path_without : (xs : List Node) (x : Node) → take (length (xs ++ x ∷ []) - 1) (xs ++ x ∷ []) ≡ xs
path_without xs x = take_at xs (x ∷ []) (length (xs ++ x ∷ []) - 1) (omega (arith, length-append xs (x ∷ [])))

-- the walk at a child, before which so much is made
abbrev pub at_child : Walker → WalkState → Place → Walker
at_child w made child = record w { made = made; current = scope_of_place child; cursor = child.cursor; is_ambient = child.is_ambient }

-- what stands before the first child of a node of the kind
abbrev pub turn_at : Walker → AstType → Turn
turn_at w k = record { outer = w.current; is_ambient = w.is_ambient; own = cond (same_kind k kind.Program) (Some w.current) None; header_start = length w.made.waiting; doings = k }

-- the walk behind a child
abbrev pub behind_child : Walker → WalkState → Place → ℕ → Walker
behind_child w made p cursor = record w { made = made; current = scope_of_place p; cursor = cursor; is_ambient = p.is_ambient }

module _ (ds : List Declaration) (first : Walker) (p : Place) (own : Option OpenScope) (n : ℕ) where
  -- all that is made over the node, and the cursor behind its children
  abbrev pub all_made : WalkState
  all_made = after_all ds (entered ds first p) (steps_below p own n (on_entering p.node.kind p.cursor) p.node.children)

  abbrev pub cursor_last : ℕ
  cursor_last = cursor_after p.node p.is_ambient (on_entering p.node.kind p.cursor) p.node.children

  -- all nodes of the node, once they are entered
  abbrev pub all_kept : Option Entered
  all_kept = option_map (all_listed (steps_below p own n (on_entering p.node.kind p.cursor) p.node.children)) (kept_at first p)

  -- all that is noted below the node
  abbrev pub all_noted : NoteLists
  all_noted = noted_inside p.node p.node.children (noting p.path p.node first.notes)

  -- the walk stands between two children of the place, and goes over those that are left to where it is walked over
  pub record Rests (before now : ℕ) (w : Walker) (turn : Turn) (f : Forest) : Type 0 where
    pub scope : Option OpenScope
    pub next : ℕ
    pub cursor : ℕ
    pub start : ℕ
    pub between : IsBetweenAt ds w turn p scope next cursor start f
    pub made : after_all ds w.made (steps_below p scope next cursor f) ≡ all_made
    pub moves : cursor_after p.node p.is_ambient cursor f ≡ cursor_last
    pub states : w.states ≡ first.states
    pub namesakes : w.namesakes ≡ first.namesakes
    pub kept : IfSome w.nodes (IsAmong p f)
    pub lists : option_map (all_listed (steps_below p scope next cursor f)) w.nodes ≡ all_kept
    pub notes : noted_inside p.node f w.notes ≡ all_noted
    pub source : w.source ≡ first.source
    pub checks : w.checks ≡ first.checks
    pub told : telling_along w.checks w.source ds (telling_of w) (steps_below p scope next cursor f) ≡ told_within ds first p own n
    pub ready : w.checks ≡ true → IsReadyBetween w.source w.made w.notes.classes p f
    pub limit : length w.source ≤ source_limit
    -- the counter is still to rise by what they ask
    pub asks : raised now (probes_of_steps ds w.made (steps_below p scope next cursor f)) ≡ raised before (probes_over ds first p own n)

  own_first : (turn : Turn) (current : ℕ) → turn.own ≡ cond (same_kind p.node.kind kind.Program) (Some current) None → current ≡ scope_of_place p → IsOpenAtRoot p own → turn.own ≡ option_map (λ s. s.number) own
  own_first turn current e at_p h = e ∙ by own h
    where
      by : (o : Option OpenScope) → IsOpenAtRoot p o → cond (same_kind p.node.kind kind.Program) (Some current) None ≡ option_map (λ s. s.number) o
      by None other = go (same_kind p.node.kind kind.Program) refl
        where
          go : (b : Bool) → same_kind p.node.kind kind.Program ≡ b → cond b (Some current) None ≡ None
          go true is = absurd (other (kind_is p.node.kind kind.Program is))
          go false is = refl
      by (Some s) root = rw (root.0) (ap Some (at_p ∙ sym root.1))

  -- it does so once the node is entered
  pub rests_first : (w : Walker) (turn : Turn) (k : AstType) (f : Forest) (before : ℕ) → IsComing ds first p own n → k ≡ p.node.kind → f ≡ p.node.children
      → w ≡ walked_into ds first p
      → turn ≡ turn_at w k
      → Rests before before w turn f
  rests_first w turn k f before h kind_same is e t =
      let comes : ComesTo first p = h.comes in
      let current : w.current ≡ scope_of_place p = ap (λ (v : Walker). v.current) e ∙ comes.current in
      let ambient : w.is_ambient ≡ p.is_ambient = ap (λ (v : Walker). v.is_ambient) e ∙ comes.is_ambient in
      let made : w.made ≡ entered ds first p = ap (λ (v : Walker). v.made) e in
      let nodes : w.nodes ≡ kept_at first p = ap (λ (v : Walker). v.nodes) e in
      let source : w.source ≡ first.source = ap (λ (v : Walker). v.source) e in
      let checks : w.checks ≡ first.checks = ap (λ (v : Walker). v.checks) e in
      let cursor : ℕ = on_entering p.node.kind p.cursor in
      record {
        scope = own;
        next = n;
        cursor = cursor;
        start = length (entered ds first p).waiting;
        between = record {
          within = record {
            source_type = ap (λ (v : Walker). v.source_type) e ∙ comes.source_type;
            path = ap (λ (v : Walker). v.path) e ∙ ap (λ (xs : List Node). xs ++ p.node ∷ []) comes.path ∙ sym (path_with p.path p.node);
            current = current;
          };
          flags = ap (λ (v : Walker). v.cursor) e;
          is_ambient = ambient;
          stands = record {
            outer = ap (λ (u : Turn). u.outer) t ∙ current;
            is_ambient = ap (λ (u : Turn). u.is_ambient) t ∙ ambient;
            own_scope = own_first turn w.current (ap (λ (u : Turn). u.own) t ∙ ap (λ (k : AstType). cond (same_kind k kind.Program) (Some w.current) None) kind_same) current h.root;
            header = ap (λ (u : Turn). u.header_start) t ∙ ap (λ (v : WalkState). length v.waiting) made;
            doings = ap (λ (u : Turn). u.doings) t ∙ kind_same;
          };
          between = subst (λ (v : WalkState). IsBetween v p own n cursor (length (entered ds first p).waiting) f) (sym made)
              (subst (λ (g : Forest). IsBetween (entered ds first p) p own n cursor (length (entered ds first p).waiting) g) (sym is) h.between);
          named = subst (λ (ws : List WrittenName). AllNamed ds ws (steps_below p own n cursor f)) (sym (ap (λ (v : Walker). v.namesakes) e))
              (subst (λ (g : Forest). AllNamed ds first.namesakes (steps_below p own n cursor g)) (sym is) h.named);
          stated = subst (λ (states : List InstanceState). AllStated states (steps_below p own n cursor f)) (sym (ap (λ (v : Walker). v.states) e))
              (subst (λ (g : Forest). AllStated first.states (steps_below p own n cursor g)) (sym is) h.stated);
          room = subst (λ (v : WalkState). HasRoom v.tables (steps_below p own n cursor f)) (sym made)
              (subst (λ (g : Forest). HasRoom (entered ds first p).tables (steps_below p own n cursor g)) (sym is)
              (room_after ds first.made (entering p) (steps_below p own n cursor p.node.children) h.room));
        };
        made = λ i. after_all ds (made i) (steps_below p own n cursor (is i));
        moves = ap (λ (g : Forest). cursor_after p.node p.is_ambient cursor g) is;
        states = ap (λ (v : Walker). v.states) e;
        namesakes = ap (λ (v : Walker). v.namesakes) e;
        kept = subst (λ (o : Option Entered). IfSome o (IsAmong p f)) (sym nodes)
            (subst (λ (g : Forest). IfSome (kept_at first p) (IsAmong p g)) (sym is) (first_kept p first.nodes h.kept));
        lists = λ i. option_map (all_listed (steps_below p own n cursor (is i))) (nodes i);
        notes = λ i. noted_inside p.node (is i) (ap (λ (v : Walker). v.notes) e i);
        source = source;
        checks = checks;
        told = λ i. telling_along (checks i) (source i) ds (ap telling_of e i) (steps_below p own n cursor (is i));
        ready = λ on.
            subst (λ (xs : List ℕ). IsReadyBetween xs w.made w.notes.classes p f) (sym source)
            (subst (λ (g : Forest). IsReadyBetween first.source w.made w.notes.classes p g) (sym is)
            (ready_first ds first.source first.made w.made first.notes w.notes p (h.ready (sym checks ∙ on)) made (ap (λ (v : Walker). v.notes) e)));
        limit = subst (λ (xs : List ℕ). length xs ≤ source_limit) (sym source) h.limit;
        asks = λ i. raised before (probes_of_steps ds (made i) (steps_below p own n cursor (is i)));
      }

  -- behind all children the scope may still open
  pub walked : (w last : Walker) (turn : Turn) (before now : ℕ) → IsComing ds first p own n → (h : Rests before now w turn nothing)
      → last ≡ record w { made = after_all ds w.made (opening_last p h.scope h.next) }
      → last ≡ walked_within ds first p own n
  walked w last turn before now c h e =
      let comes : ComesTo first p = c.comes in
      let within : IsWithin w p p.chain = h.between.within in
      let told : making ds (telling_of w) (opening_last p h.scope h.next) ≡ told_within ds first p own n = sym (last_untold p h.scope h.next w.checks w.source ds (telling_of w)) ∙ h.told in
      e
      ∙ same_walker (record w { made = after_all ds w.made (opening_last p h.scope h.next) }) (walked_within ds first p own n)
      h.made
      (within.source_type ∙ sym comes.source_type)
      h.states
      h.namesakes
      (within.path ∙ path_with p.path p.node ∙ ap (λ (xs : List Node). xs ++ p.node ∷ []) (sym comes.path))
      (within.current ∙ sym comes.current)
      (h.between.flags ∙ h.moves)
      (h.between.is_ambient ∙ sym comes.is_ambient)
      (sym (still_kept (opening_last p h.scope h.next) (last_without p h.scope h.next) w.nodes) ∙ h.lists)
      h.notes
      h.source
      h.checks
      (ap (λ (t : Telling). t.said) told)
      (ap (λ (t : Telling). t.counted) told)

  -- and once the node is left, the walk stands where it stood before
  pub left_is : IsComing ds first p own n → left_at (walked_within ds first p own n) p ≡ walked_over ds first p own n
  left_is c =
      let steps : List Step = steps_below p own n (on_entering p.node.kind p.cursor) p.node.children in
      let told = left_told first.checks first.source ds (record (telling_of first) { made = entered ds first p }) p steps in
      same_walker (left_at (walked_within ds first p own n) p) (walked_over ds first p own n)
      refl refl refl refl (path_without first.path p.node) refl refl refl (left_kept p steps first.nodes c.kept) refl refl refl
      (ap (λ (t : Telling). t.said) told) (ap (λ (t : Telling). t.counted) told)

-- a child where it begins, and how many scopes there are behind it
abbrev pub place_of : Place → Option OpenScope → (n cursor : ℕ) → Role × Node → Place
place_of p own n cursor child = child_place p (scope_at p child.0 own n) cursor child.0 child.1

abbrev pub next_past : Place → Option OpenScope → (n : ℕ) → Role × Node → ℕ
next_past p own n child = next_at p child.0 own n + cond (opens child.1.kind) 1 0 + scopes_in child.1.children

module _ (ds : List Declaration) (p : Place) (own : Option OpenScope) (n cursor start : ℕ) (child : Role × Node) (rest : List (Role × Node)) where
  abbrev scope_here : Option OpenScope
  scope_here = scope_at p child.0 own n

  abbrev next_here : ℕ
  next_here = next_at p child.0 own n

  abbrev place_here : Place
  place_here = place_of p own n cursor child

  -- what is made before the child, and where the header starts
  abbrev opened_here : Walker → WalkState
  opened_here w = after_all ds w.made (opening_at p child.0 own n)

  abbrev start_here : Walker → ℕ
  start_here w = start_at p child.0 own start w.made

  -- what is known of the names of the first child and of the rest
  pub record FirstNamed (ws : List WrittenName) : Type 0 where
    pub here : IsStepNamed ds ws (entering place_here)
    pub below : AllNamed ds ws (steps_below place_here None next_here (on_entering child.1.kind place_here.cursor) child.1.children)
    pub later : AllNamed ds ws (steps_below p scope_here (next_past p own n child) (cursor_past p child.0 cursor place_here) (forest_of rest))

  pub first_named : (ws : List WrittenName) → AllNamed ds ws (steps_below p own n cursor (forest_of (child ∷ rest))) → FirstNamed ws
  first_named ws h =
      let xs : List Step = opening_at p child.0 own n in
      let ys : List Step = steps_below place_here None next_here (on_entering child.1.kind place_here.cursor) child.1.children in
      let zs : List Step = entering place_here ∷ (ys ++ leaving place_here ∷ []) in
      let es : List Step = ending_after p child.0 scope_here (forest_of rest) in
      let more : List Step = steps_below p scope_here (next_past p own n child) (cursor_past p child.0 cursor place_here) (forest_of rest) in
      let mine : AllNamed ds ws zs = named_right ds ws xs zs (named_left ds ws (xs ++ zs) es (named_left ds ws (xs ++ zs ++ es) more h)) in
      record { here = mine.0; below = named_left ds ws ys (leaving place_here ∷ []) mine.1; later = named_right ds ws (xs ++ zs ++ es) more h }

  -- what is known of the states of namespaces there
  pub record FirstStated (states : List InstanceState) : Type 0 where
    pub here : IsStated states place_here
    pub below : AllStated states (steps_below place_here None next_here (on_entering child.1.kind place_here.cursor) child.1.children)
    pub later : AllStated states (steps_below p scope_here (next_past p own n child) (cursor_past p child.0 cursor place_here) (forest_of rest))

  pub first_stated : (states : List InstanceState) → AllStated states (steps_below p own n cursor (forest_of (child ∷ rest))) → FirstStated states
  first_stated states h =
      let xs : List Step = opening_at p child.0 own n in
      let ys : List Step = steps_below place_here None next_here (on_entering child.1.kind place_here.cursor) child.1.children in
      let zs : List Step = entering place_here ∷ (ys ++ leaving place_here ∷ []) in
      let es : List Step = ending_after p child.0 scope_here (forest_of rest) in
      let more : List Step = steps_below p scope_here (next_past p own n child) (cursor_past p child.0 cursor place_here) (forest_of rest) in
      let mine : AllStated states zs = stated_right states xs zs (stated_left states (xs ++ zs) es (stated_left states (xs ++ zs ++ es) more h)) in
      record {
        here = mine place_here (inl refl);
        below = stated_left states ys (leaving place_here ∷ []) (λ q among. mine q (inr among));
        later = stated_right states (xs ++ zs ++ es) more h;
      }

  -- where the child stands, by the turn
  scope_of_child : (made : WalkState) (turn : Turn) → IsTurnAt turn p scope_here (start_at p child.0 own start made) → (t : Tables)
      → child_scope t turn p.node.kind child.0 ≡ cond (is_parameter_decorator p.node.kind child.0) (unwrap_or (scope_of t (scope_of_place p)).parent (scope_of_place p)) (within_at p child.0 scope_here)
  scope_of_child made turn h t =
      (λ i. child_scope t (record turn { outer = h.outer i; own = h.own_scope i }) p.node.kind child.0) ∙ by scope_here
    where
      by : (o : Option OpenScope) → child_scope t (record turn { outer = scope_of_place p; own = option_map (λ s. s.number) o }) p.node.kind child.0
          ≡ cond (is_parameter_decorator p.node.kind child.0) (unwrap_or (scope_of t (scope_of_place p)).parent (scope_of_place p)) (within_at p child.0 o)
      by o = ap (λ m. cond (is_parameter_decorator p.node.kind child.0) (unwrap_or (scope_of t (scope_of_place p)).parent (scope_of_place p)) m) (inner o (is_inside p.node.kind child.0) refl)
        where
          inner : (o : Option OpenScope) (b : Bool) → is_inside p.node.kind child.0 ≡ b → own_or (is_inside p.node.kind child.0) (option_map (λ s. s.number) o) (scope_of_place p) ≡ within_at p child.0 o
          inner None true e = rw e refl
          inner None false e = rw e refl
          inner (Some s) true e = rw e refl
          inner (Some s) false e = rw e refl

  -- the scope may open, and then the walk comes to the child
  pub stands_at_child : (parent : Node) (w opened stood : Walker) (before turn : Turn) → p.node ≡ parent → IsBetweenAt ds w before p own n cursor start (forest_of (child ∷ rest))
      → record opened { current = w.current } ≡ record w { made = opened_here w }
      → IsTurnAt turn p scope_here (start_here w)
      → stood ≡ record opened {
        current = child_scope opened.made.tables turn parent.kind child.0;
        cursor = cursor_before parent (ambient_inside parent turn.is_ambient) child.0 child.1 opened.cursor;
        is_ambient = ambient_round parent turn.is_ambient child.0;
      }
      → stood ≡ at_child w (opened_here w) place_here
  stands_at_child parent w opened stood before turn is h o t s =
      let made : opened.made ≡ opened_here w = ap (λ (v : Walker). v.made) o in
      s
      ∙ ap (λ (x : Node). record opened {
        current = child_scope opened.made.tables turn x.kind child.0;
        cursor = cursor_before x (ambient_inside x turn.is_ambient) child.0 child.1 opened.cursor;
        is_ambient = ambient_round x turn.is_ambient child.0;
      }) (sym is)
      ∙ same_walker (record opened {
        current = child_scope opened.made.tables turn p.node.kind child.0;
        cursor = cursor_before p.node (ambient_inside p.node turn.is_ambient) child.0 child.1 opened.cursor;
        is_ambient = ambient_round p.node turn.is_ambient child.0;
      }) (at_child w (opened_here w) place_here)
      made
      (ap (λ (v : Walker). v.source_type) o)
      (ap (λ (v : Walker). v.states) o)
      (ap (λ (v : Walker). v.namesakes) o)
      (ap (λ (v : Walker). v.path) o)
      (scope_of_child w.made turn t opened.made.tables
      ∙ ap (λ (v : WalkState). cond (is_parameter_decorator p.node.kind child.0) (unwrap_or (scope_of v.tables (scope_of_place p)).parent (scope_of_place p)) (within_at p child.0 scope_here)) made
      ∙ sym (turns.child_stands_at ds w.made p own n cursor start child rest h.between))
      (λ i. cursor_before p.node (ambient_inside p.node (t.is_ambient i)) child.0 child.1 ((ap (λ (v : Walker). v.cursor) o ∙ h.flags) i))
      (ap (λ (b : Bool). ambient_round p.node b child.0) t.is_ambient)
      (ap (λ (v : Walker). v.nodes) o)
      (ap (λ (v : Walker). v.notes) o)
      (ap (λ (v : Walker). v.source) o)
      (ap (λ (v : Walker). v.checks) o)
      (ap (λ (v : Walker). v.said) o)
      (ap (λ (v : Walker). v.counted) o)

  -- so it comes to the child with all that the recursion knows
  pub comes_to_child : (w v : Walker) (turn : Turn) → IsBetweenAt ds w turn p own n cursor start (forest_of (child ∷ rest))
      → IfSome w.nodes (IsAmong p (forest_of (child ∷ rest)))
      → (w.checks ≡ true → IsReadyBetween w.source w.made w.notes.classes p (forest_of (child ∷ rest)))
      → length w.source ≤ source_limit
      → v ≡ at_child w (opened_here w) place_here → IsComing ds v place_here None next_here
  comes_to_child w v turn h among ready_here limit e =
      let opened : WalkState = opened_here w in
      let within : IsWithin w p p.chain = h.within in
      let ready : IsReady opened place_here next_here = turns.child_ready ds w.made p own n cursor start child rest h.between in
      let names : FirstNamed w.namesakes = first_named w.namesakes h.named in
      let known : FirstStated w.states = first_stated w.states h.stated in
      let below : IsBetween (after ds opened (entering place_here)) place_here None next_here (on_entering child.1.kind place_here.cursor) 0 child.1.children =
      turns.ready_entered ds opened place_here next_here 0 (omega arith) ready in
      let coming : IsComing ds (at_child w opened place_here) place_here None next_here =
      record {
        comes = record { source_type = within.source_type; path = within.path; current = refl; cursor = refl; is_ambient = refl };
        shown = record { chain = ready.stands.chain; grounded = inl ready.seat.var; named = names.here; stated = known.here };
        root = ready.seat.other;
        between = record { some = below.some; stands = below.stands; holds = record { sound = below.holds.sound; header = omega arith }; seated = below.seated; inside = below.inside };
        named = names.below;
        stated = known.below;
        room = child_room ds p own n cursor child rest w.made h.room;
        kept = child_kept p own n cursor child rest w.nodes among;
        ready = λ on. ready_at_child ds w.source w.made w.made w.notes w.notes p child rest (ready_here on) (opening_at p child.0 own n) place_here refl refl;
        limit = limit;
      } in
      subst (λ (u : Walker). IsComing ds u place_here None next_here) (sym e) coming

  -- what is made behind the child's steps
  pub made_past : (w v past : Walker) → v ≡ at_child w (opened_here w) place_here → past ≡ walked_over ds v place_here None next_here
      → past.made ≡ after_all ds (opened_here w) (steps_of place_here next_here)
  made_past w v past e h =
      ap (λ (u : Walker). u.made) h
      ∙ ap (λ (u : Walker). after_all ds (entered ds u place_here) (steps_below place_here None next_here (on_entering child.1.kind place_here.cursor) child.1.children)) e
      ∙ sym (node_turn ds (opened_here w) place_here next_here)

  pub made_behind : (w v past ended : Walker) → v ≡ at_child w (opened_here w) place_here → past ≡ walked_over ds v place_here None next_here
      → ended ≡ behind_child past (after_all ds past.made (ending_after p child.0 scope_here (forest_of rest))) p (cursor_behind p.node.kind child.0 w.cursor past.cursor)
      → ended.made ≡ after_all ds (after_all ds (opened_here w) (steps_of place_here next_here)) (ending_after p child.0 scope_here (forest_of rest))
  made_behind w v past ended e k b =
      ap (λ (u : Walker). u.made) b ∙ ap (λ (u : WalkState). after_all ds u (ending_after p child.0 scope_here (forest_of rest))) (made_past w v past e k)

  -- the header is kept behind the child
  pub holds_past : (w v past : Walker) (turn : Turn) → IsBetweenAt ds w turn p own n cursor start (forest_of (child ∷ rest))
      → v ≡ at_child w (opened_here w) place_here → past ≡ walked_over ds v place_here None next_here
      → HoldsAt past.made scope_here (start_here w)
  holds_past w v past turn h e k =
      subst (λ (u : WalkState). HoldsAt u scope_here (start_here w)) (sym (made_past w v past e k))
      (turns.past_holds ds w.made p own n cursor start child rest h.between)

  -- behind the child the walk stands between two children again
  pub between_past : (w v past ended : Walker) (before turn : Turn) → IsBetweenAt ds w before p own n cursor start (forest_of (child ∷ rest))
      → v ≡ at_child w (opened_here w) place_here
      → IsTurnAt turn p scope_here (start_here w)
      → past ≡ walked_over ds v place_here None next_here
      → ended ≡ behind_child past (after_all ds past.made (ending_after p child.0 scope_here (forest_of rest))) p (cursor_behind p.node.kind child.0 w.cursor past.cursor)
      → IsBetweenAt ds ended turn p scope_here (next_past p own n child) (cursor_past p child.0 cursor place_here) (start_here w) (forest_of rest)
  between_past w v past ended before turn h e t k b =
      let within : IsWithin w p p.chain = h.within in
      let names : FirstNamed w.namesakes = first_named w.namesakes h.named in
      let known : FirstStated w.states = first_stated w.states h.stated in
      let through : past ≡ walked_over ds (at_child w (opened_here w) place_here) place_here None next_here =
      k ∙ ap (λ (u : Walker). walked_over ds u place_here None next_here) e in
      record {
        within = record {
          source_type = ap (λ (u : Walker). u.source_type) b ∙ ap (λ (u : Walker). u.source_type) through ∙ within.source_type;
          path = ap (λ (u : Walker). u.path) b ∙ ap (λ (u : Walker). u.path) through ∙ within.path;
          current = ap (λ (u : Walker). u.current) b;
        };
        flags = ap (λ (u : Walker). u.cursor) b ∙ (λ i. cursor_behind p.node.kind child.0 (h.flags i) (through i).cursor);
        is_ambient = ap (λ (u : Walker). u.is_ambient) b;
        stands = t;
        between = subst (λ (u : WalkState). IsBetween u p scope_here (next_past p own n child) (cursor_past p child.0 cursor place_here) (start_here w) (forest_of rest))
            (sym (made_behind w v past ended e k b)) (turns.next_between ds w.made p own n cursor start child rest h.between);
        named = subst (λ (ws : List WrittenName). AllNamed ds ws (steps_below p scope_here (next_past p own n child) (cursor_past p child.0 cursor place_here) (forest_of rest)))
            (sym (ap (λ (u : Walker). u.namesakes) b ∙ ap (λ (u : Walker). u.namesakes) through)) names.later;
        stated = subst (λ (states : List InstanceState). AllStated states (steps_below p scope_here (next_past p own n child) (cursor_past p child.0 cursor place_here) (forest_of rest)))
            (sym (ap (λ (u : Walker). u.states) b ∙ ap (λ (u : Walker). u.states) through)) known.later;
        room = subst (λ (u : WalkState). HasRoom u.tables (steps_below p scope_here (next_past p own n child) (cursor_past p child.0 cursor place_here) (forest_of rest)))
            (sym (made_behind w v past ended e k b)) (rest_room ds p own n cursor child rest w.made h.room);
      }

-- the walk goes on over one child
pub rests_past : (ds : List Declaration) (first : Walker) (p : Place) (own : Option OpenScope) (n : ℕ) (child : Role × Node) (rest : List (Role × Node)) (w v past ended : Walker) (before turn : Turn) (counted now last : ℕ)
    → (h : Rests ds first p own n counted now w before (forest_of (child ∷ rest)))
    → v ≡ at_child w (after_all ds w.made (opening_at p child.0 h.scope h.next)) (place_of p h.scope h.next h.cursor child)
    → IsTurnAt turn p (scope_at p child.0 h.scope h.next) (start_at p child.0 h.scope h.start w.made)
    → past ≡ walked_over ds v (place_of p h.scope h.next h.cursor child) None (next_at p child.0 h.scope h.next)
    → ended ≡ behind_child past (after_all ds past.made (ending_after p child.0 (scope_at p child.0 h.scope h.next) (forest_of rest))) p (cursor_behind p.node.kind child.0 w.cursor past.cursor)
    → raised last (probes_of_steps ds ended.made (steps_below p (scope_at p child.0 h.scope h.next) (next_past p h.scope h.next child) (cursor_past p child.0 h.cursor (place_of p h.scope h.next h.cursor child)) (forest_of rest)))
    ≡ raised now (probes_of_steps ds w.made (steps_below p h.scope h.next h.cursor (forest_of (child ∷ rest))))
    → Rests ds first p own n counted last ended turn (forest_of rest)
rests_past ds first p own n child rest w v past ended before turn counted now last h e t k b left =
    let scope : Option OpenScope = scope_at p child.0 h.scope h.next in
    let next : ℕ = next_past p h.scope h.next child in
    let place : Place = place_of p h.scope h.next h.cursor child in
    let inner : List Step = steps_below place None (next_at p child.0 h.scope h.next) (on_entering child.1.kind place.cursor) child.1.children in
    let nodes : ended.nodes ≡ option_map (all_listed (entering place ∷ inner)) w.nodes =
    ap (λ (u : Walker). u.nodes) b ∙ ap (λ (u : Walker). u.nodes) k ∙ ap (λ (u : Walker). option_map (all_listed (entering place ∷ inner)) u.nodes) e in
    let notes : ended.notes ≡ noted_over (p.node ∷ p.path) child.1 w.notes =
    ap (λ (u : Walker). u.notes) b ∙ ap (λ (u : Walker). u.notes) k ∙ ap (λ (u : Walker). noted_over (p.node ∷ p.path) child.1 u.notes) e in
    let source : ended.source ≡ w.source = ap (λ (u : Walker). u.source) b ∙ ap (λ (u : Walker). u.source) k ∙ ap (λ (u : Walker). u.source) e in
    let checks : ended.checks ≡ w.checks = ap (λ (u : Walker). u.checks) b ∙ ap (λ (u : Walker). u.checks) k ∙ ap (λ (u : Walker). u.checks) e in
    let over : telling_of past ≡ telling_over w.checks w.source ds (telling_of v) place (next_at p child.0 h.scope h.next) =
    ap telling_of k
    ∙ over_told v.checks v.source ds (record (telling_of v) { made = entered ds v place }) place inner
    ∙ ap (λ (u : Walker). telling_over u.checks u.source ds (telling_of v) place (next_at p child.0 h.scope h.next)) e in
    record {
      scope = scope;
      next = next;
      cursor = cursor_past p child.0 h.cursor place;
      start = start_at p child.0 h.scope h.start w.made;
      between = between_past ds p h.scope h.next h.cursor h.start child rest w v past ended before turn h.between e t k b;
      made = ap (λ (u : WalkState). after_all ds u (steps_below p scope next (cursor_past p child.0 h.cursor place) (forest_of rest))) (made_behind ds p h.scope h.next h.cursor h.start child rest w v past ended e k b)
          ∙ sym (turns.turn_is ds w.made p h.scope h.next h.cursor h.start child rest) ∙ h.made;
      moves = h.moves;
      states = ap (λ (u : Walker). u.states) b ∙ ap (λ (u : Walker). u.states) k ∙ ap (λ (u : Walker). u.states) e ∙ h.states;
      namesakes = ap (λ (u : Walker). u.namesakes) b ∙ ap (λ (u : Walker). u.namesakes) k ∙ ap (λ (u : Walker). u.namesakes) e ∙ h.namesakes;
      kept = subst (λ (o : Option Entered). IfSome o (IsAmong p (forest_of rest))) (sym nodes) (rest_kept p h.scope h.next h.cursor child rest w.nodes h.kept);
      lists = ap (option_map (all_listed (steps_below p scope next (cursor_past p child.0 h.cursor place) (forest_of rest)))) nodes
          ∙ rest_lists p h.scope h.next h.cursor child rest w.nodes ∙ h.lists;
      notes = ap (noted_inside p.node (forest_of rest)) notes ∙ h.notes;
      source = source ∙ h.source;
      checks = checks ∙ h.checks;
      told = (λ i. telling_along (checks i) (source i) ds (telling_of ended) (steps_below p scope next (cursor_past p child.0 h.cursor place) (forest_of rest)))
          ∙ told_past w.checks w.source ds (telling_of w) (telling_of v) (telling_of past) (telling_of ended) p h.scope h.next h.cursor child rest (ap telling_of e) over (ap telling_of b)
          ∙ h.told;
      ready = λ on.
          subst (λ (xs : List ℕ). IsReadyBetween xs ended.made ended.notes.classes p (forest_of rest)) (sym source)
          (ready_past ds w.source w.made ended.made w.notes ended.notes p child rest (h.ready (sym checks ∙ on)) (opening_at p child.0 h.scope h.next) (steps_of place (next_at p child.0 h.scope h.next)) (ending_after p child.0 scope (forest_of rest))
          (made_behind ds p h.scope h.next h.cursor h.start child rest w v past ended e k b) notes);
      limit = subst (λ (xs : List ℕ). length xs ≤ source_limit) (sym source) h.limit;
      asks = left ∙ h.asks;
    }

module _ (p : Place) (own : Option OpenScope) (start : ℕ) (k : AstType) (r : Role) (turn : Turn) (before : ℕ) (past back turned : Walker) where
  -- back at the node the header is still kept
  pub held_behind : back ≡ record past { current = turn.outer; is_ambient = turn.is_ambient } → turned ≡ record back { cursor = cursor_behind k r before back.cursor } → HoldsAt past.made own start → HoldsAt turned.made own start
  held_behind b t = subst (λ (u : WalkState). HoldsAt u own start) (sym (ap (λ (w : Walker). w.made) t ∙ ap (λ (w : Walker). w.made) b))

  -- the walk comes back, its cursor turns, and then the header or the scope may end
  pub ends_behind : (ds : List Declaration) (rest : Forest) (ended : Walker) → IsTurnAt turn p own start
      → back ≡ record past { current = turn.outer; is_ambient = turn.is_ambient }
      → turned ≡ record back { cursor = cursor_behind k r before back.cursor }
      → ended ≡ record turned { made = after_all ds turned.made (ending_after p r own rest) }
      → ended ≡ behind_child past (after_all ds past.made (ending_after p r own rest)) p (cursor_behind k r before past.cursor)
  ends_behind ds rest ended at_turn b t e =
      e
      ∙ ap (λ (w : Walker). record w { made = after_all ds w.made (ending_after p r own rest) }) (t ∙ ap (λ (w : Walker). record w { cursor = cursor_behind k r before w.cursor }) b)
      ∙ (λ i. record past { made = after_all ds past.made (ending_after p r own rest); current = at_turn.outer i; cursor = cursor_behind k r before past.cursor; is_ambient = at_turn.is_ambient i })
