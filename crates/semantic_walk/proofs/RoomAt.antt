-- There are ids for what a walk makes at its place.
use Rattle.std.proofs.Common.{◌≡◌, ℕ, ◌+◌, ◌-◌, ◌≤◌, List, [], ◌∷◌, ◌++◌, Option, Some, None, is_some, Bool, true, false, cond, if◌then◌else◌, inl, inr, length, reverse, refl, sym, ap, subst, ◌∙◌, arith}
use Rattle.std.specs.Map.{values_of}
use Rattle.std.proofs.lemmas.Bool.Decides.{leb_tells}
use Rattle.std.proofs.lemmas.List.{reverse-append}
use Rattle.semantic_kinds.specs.declared.kind.AstType.{AstType}
use Rattle.semantic_kinds.specs.declared.kind.AstType.TheVariants as kind
use Rattle.semantic_kinds.specs.declared.role.Role.{Role}
use Rattle.semantic_syntax.specs.Reading.{bindings_of}
use Rattle.semantic_tree.specs.Children.{forest_of, node_count}
use Rattle.semantic_tree.specs.Forest.{nothing}
use Rattle.semantic_tree.specs.Limits.{room_left}
use Rattle.semantic_tree.specs.declared.node.Node.{Node}
use Rattle.semantic_tree.specs.Views.{is}
use Rattle.semantic_model.specs.TablesOf.{is_direct_eval}
use Rattle.semantic_model.specs.Cursor.{on_entering}
use Rattle.semantic_model.specs.Declaration.{Declaration}
use Rattle.semantic_model.specs.Inside.{opens, is_inside, scopes_in}
use Rattle.semantic_model.specs.Place.{Place, OpenScope}
use Rattle.semantic_model.specs.ScopeKind.{opened_scope}
use Rattle.semantic_model.specs.Step.{Step, entering, opening, closing, leaving, steps_below, steps_of, opening_at, ending_after, opening_last, scope_at, next_at, child_place, cursor_past}
use Rattle.walk_model.specs.Opens.{add_eval}
use Rattle.walk_model.specs.WalkState.{WalkState}
use Rattle.walk_model.specs.Walks.{after_all}
use Rattle.walk_model.proofs.turns.ChildTurns.{after-append}
use Rattle.walk_model.specs.Room.{id_count, HasRoom}
use Rattle.walk_model.proofs.sizes.Growth.{homes_count}
use Rattle.walk_model.proofs.sizes.Rooms.{room_past, room_first}
use Rattle.semantic_walk.specs.AtPlace.{IsTurnAt, IsBetweenAt, IsComing}
use Rattle.semantic_walk.specs.Ids.{names_by, HasIds, MayEnter, MayOpen}
use Rattle.semantic_walk.specs.Paths.{parent_in}
use Rattle.semantic_walk.specs.Walker.{Walker, referring, opening_in, taking_over}
use Rattle.semantic_walk.specs.declared.visit.Turn.{Turn}
use Rattle.semantic_walk.proofs.NamesBy.{names_alone, entered_long, opened_long, all_few}
use Rattle.semantic_walk.proofs.Opening.{parent_above}

-- what a walk within the node sees above it are the names at the place
names_there : (path : List Node) (p : Place) → path ≡ reverse (p.node ∷ p.path) → names_by p.node.kind (parent_in path) p.node ≡ names_by p.node.kind p.path p.node
names_there path p e = ap (λ (xs : List Node). names_by p.node.kind xs p.node) (ap parent_in e ∙ parent_above p.node p.path) ∙ names_alone p.node.kind p.path p.node

-- a walk that comes to a node may enter it
pub may_enter : (ds : List Declaration) (w : Walker) (p : Place) (own : Option OpenScope) (n : ℕ) (node : Node) → p.node ≡ node → IsComing ds w p own n → MayEnter w node
may_enter ds w p own n node same h =
    let path : w.path ++ p.node ∷ [] ≡ reverse (p.node ∷ p.path) = ap (λ (xs : List Node). xs ++ p.node ∷ []) h.comes.path ∙ sym (reverse-append (p.node ∷ []) p.path) in
    subst (λ (x : Node). MayEnter w x) same
    (record {
      references = omega (arith, h.room.references);
      names = λ outside. omega (arith, h.room.symbols, entered_long p.node.kind p refl outside, ap (λ (xs : List Node). length xs) (names_there (w.path ++ p.node ∷ []) p path));
    })

-- the scope of the place is about to open
may_open : (w : Walker) (p : Place) (s : OpenScope) (more : List Step) → w.path ≡ reverse (p.node ∷ p.path) → HasRoom w.made.tables (opening p s ∷ more) → MayOpen w p.node
may_open w p s more path h = record {
  scopes = omega (arith, h.scopes);
  names = λ inside. omega (arith, h.symbols, opened_long p.node.kind p s refl inside, ap (λ (xs : List Node). length xs) (names_there w.path p path));
}

open_if : (b : Bool) (w : Walker) (p : Place) (s : OpenScope) (more : List Step) → b ≡ true → w.path ≡ reverse (p.node ∷ p.path) → HasRoom w.made.tables (cond b (opening p s ∷ more) []) → MayOpen w p.node
open_if true w p s more e path h = may_open w p s more path h
open_if false w p s more e path h = absurd cc

none_open : (own : Option OpenScope) (turn : Turn) (p : Place) (start : ℕ) → IsTurnAt turn p own start → turn.own ≡ None → own ≡ None
none_open None turn p start h e = refl
none_open (Some s) turn p start h e = let clash : None ≡ Some s.number = sym e ∙ h.own_scope in absurd cc

module _ (ds : List Declaration) (w : Walker) (turn : Turn) (p : Place) (own : Option OpenScope) (n cursor start : ℕ) where
  -- before a child inside, if no scope is open
  pub opens_for : (child : Role × Node) (rest : List (Role × Node)) (node : Node) → p.node ≡ node → IsBetweenAt ds w turn p own n cursor start (forest_of (child ∷ rest))
      → turn.own ≡ None → is_inside node.kind child.0 ≡ true → MayOpen w node
  opens_for child rest node same h absent inside =
      let xs : List Step = opening_at p child.0 own n in
      let place : Place = child_place p (scope_at p child.0 own n) cursor child.0 child.1 in
      let zs : List Step = steps_of place (next_at p child.0 own n) in
      let es : List Step = ending_after p child.0 (scope_at p child.0 own n) (forest_of rest) in
      let more : List Step = steps_below p (scope_at p child.0 own n) (next_at p child.0 own n + cond (opens child.1.kind) 1 0 + scopes_in child.1.children) (cursor_past p child.0 cursor place) (forest_of rest) in
      let first : HasRoom w.made.tables xs = room_first w.made.tables xs zs (room_first w.made.tables (xs ++ zs) es (room_first w.made.tables (xs ++ zs ++ es) more h.room)) in
      let here : HasRoom w.made.tables (opening_at p child.0 None n) = subst (λ (o : Option OpenScope). HasRoom w.made.tables (opening_at p child.0 o n)) (none_open own turn p start h.stands absent) first in
      subst (λ (x : Node). MayOpen w x) same
      (open_if (is_inside p.node.kind child.0) w p (opened_scope p n) [] (ap (λ (x : Node). is_inside x.kind child.0) same ∙ inside) h.within.path here)

  -- and behind all children
  pub opens_last : (node : Node) → p.node ≡ node → IsBetweenAt ds w turn p own n cursor start nothing → turn.own ≡ None → opens node.kind ≡ true → MayOpen w node
  opens_last node same h absent some =
      let here : HasRoom w.made.tables (opening_last p None n) = subst (λ (o : Option OpenScope). HasRoom w.made.tables (opening_last p o n)) (none_open own turn p start h.stands absent) h.room in
      subst (λ (x : Node). MayOpen w x) same
      (open_if (opens p.node.kind) w p (opened_scope p n) (closing p (opened_scope p n) ∷ []) (ap (λ (x : Node). opens x.kind) same ∙ some) h.within.path here)

-- at the first child, and behind it
module _ (ds : List Declaration) (p : Place) (own : Option OpenScope) (n cursor : ℕ) (child : Role × Node) (rest : List (Role × Node)) (made : WalkState) (h : HasRoom made.tables (steps_below p own n cursor (forest_of (child ∷ rest)))) where
  abbrev first : List Step
  first = opening_at p child.0 own n

  abbrev place_here : Place
  place_here = child_place p (scope_at p child.0 own n) cursor child.0 child.1

  abbrev below : List Step
  below = steps_below place_here None (next_at p child.0 own n) (on_entering child.1.kind place_here.cursor) child.1.children

  abbrev here : List Step
  here = steps_of place_here (next_at p child.0 own n)

  abbrev ends : List Step
  ends = ending_after p child.0 (scope_at p child.0 own n) (forest_of rest)

  abbrev more : List Step
  more = steps_below p (scope_at p child.0 own n) (next_at p child.0 own n + cond (opens child.1.kind) 1 0 + scopes_in child.1.children) (cursor_past p child.0 cursor place_here) (forest_of rest)

  pub child_room : HasRoom (after_all ds made first).tables (entering place_here ∷ below)
  child_room =
      let both : HasRoom made.tables (first ++ here) = room_first made.tables (first ++ here) ends (room_first made.tables (first ++ here ++ ends) more h) in
      room_first (after_all ds made first).tables (entering place_here ∷ below) (leaving place_here ∷ []) (room_past ds made first here both)

  pub rest_room : HasRoom (after_all ds (after_all ds (after_all ds made first) here) ends).tables more
  rest_room =
      subst (λ (v : WalkState). HasRoom v.tables more) (after-append ds made (first ++ here) ends ∙ ap (λ (v : WalkState). after_all ds v ends) (after-append ds made first here))
      (room_past ds made (first ++ here ++ ends) more h)

-- a walk that has made as many symbols, and sees the same above
pub ids_kept : (w v : Walker) (node : Node) → length v.made.tables.symbols ≡ length w.made.tables.symbols → v.path ≡ w.path → HasIds w node → HasIds v node
ids_kept w v node count path h = omega (arith, h, count, ap (λ (xs : List Node). length (names_by node.kind (parent_in xs) node)) path)

-- a reference and a call of `eval` take no symbol
pub ids_stepped : (stepped referred called : Walker) (node : Node)
    → referred ≡ cond (is kind.IdentifierReference node) (referring stepped node) stepped
    → called ≡ cond (is_direct_eval node) (record referred { made = add_eval referred.made referred.current }) referred
    → HasIds stepped node → HasIds called node
ids_stepped stepped referred called node r c h =
    let second : HasIds referred node = subst (λ (v : Walker). HasIds v node) (sym r) (refers (is kind.IdentifierReference node) h) in
    subst (λ (v : Walker). HasIds v node) (sym c) (calls (is_direct_eval node) second)
  where
    refers : (b : Bool) → HasIds stepped node → HasIds (cond b (referring stepped node) stepped) node
    refers true h = h
    refers false h = h

    calls : (b : Bool) → HasIds referred node → HasIds (cond b (record referred { made = add_eval referred.made referred.current }) referred) node
    calls true h = h
    calls false h = h

-- nor does a scope that opens and takes over
pub ids_opened : (w made had gone : Walker) (r : Role) (node : Node) (s : ℕ) (b : Bool) → made ≡ record w { made = opening_in w r node }
    → had ≡ cond b (taking_over made s) made → gone ≡ record had { current = s } → HasIds w node → HasIds gone node
ids_opened w made had gone r node s b m t g h =
    let first : HasIds made node = ids_kept w made node (ap (λ (v : Walker). length v.made.tables.symbols) m) (ap (λ (v : Walker). v.path) m) h in
    let second : HasIds had node = subst (λ (v : Walker). HasIds v node) (sym t) (takes b first) in
    ids_kept had gone node (ap (λ (v : Walker). length v.made.tables.symbols) g) (ap (λ (v : Walker). v.path) g) second
  where
    takes : (b : Bool) → HasIds made node → HasIds (cond b (taking_over made s) made) node
    takes true h = ids_kept made (taking_over made s) node (homes_count s (values_of (bindings_of made.made.tables made.current)) made.made.tables.symbols) refl h
    takes false h = h

-- where nodes have room, their names do
pub ids_left : (w : Walker) (node : Node) (room : ℕ) (o : Option ℕ) → o ≡ room_left room (node_count node) → is_some o ≡ true → length w.made.tables.symbols + room ≤ id_count → HasIds w node
ids_left w node room o e some fits = elim (leb_tells (node_count node) room) [
  | inl q ↦ omega (arith, q.1, fits, all_few node.kind (parent_in w.path) node)
  | inr q ↦ absurd (clash (sym some ∙ ap is_some e ∙ ap (λ b. is_some (if b then Some (room - node_count node) else None)) q.0))
]
  where
    clash : true ≡ false → ⊥
    clash t = cc

-- the ids for a node of the kind
pub ids_by : (w : Walker) (node : Node) (k : AstType) → node.kind ≡ k → HasIds w node → length w.made.tables.symbols + length (names_by k (parent_in w.path) node) ≤ id_count
ids_by w node k e h = subst (λ (j : AstType). length w.made.tables.symbols + length (names_by j (parent_in w.path) node) ≤ id_count) e h
