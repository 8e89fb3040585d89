-- What declarations leave as it is: scopes, references and what waits.
use Rattle.std.proofs.Common.{◌≡◌, ℕ, List, [], ◌∷◌, ◌++◌, Option, Some, None, Bool, true, false, cond, refl, sym, ap, ◌∙◌, map}
use Rattle.std.proofs.lemmas.List.{append_assoc, append-nil}
use Rattle.semantic_syntax.specs.Tables.{Name}
use Rattle.semantic_syntax.specs.Reading.{bound_in}
use Rattle.semantic_model.specs.Naming.{Naming}
use Rattle.semantic_model.specs.Declaration.{How, plain, hoisted, moved, caught, Declaration, stands_in}
use Rattle.semantic_model.specs.Event.{Event, declares, takes_over, ends_header}
use Rattle.semantic_model.specs.Hoist.{PassedSymbol}
use Rattle.semantic_model.specs.TablesOf.{numbers}
use Rattle.walk_model.specs.WalkState.{WalkState}
use Rattle.walk_model.specs.Declares as writes
use Rattle.walk_model.specs.Hoists as reaches
use Rattle.walk_model.specs.Walks as walk

-- no more than empty use lists are added
pub record Untouched (w v : WalkState) : Type 0 where
  pub scopes : v.tables.scopes ≡ w.tables.scopes
  pub references : v.tables.references ≡ w.tables.references
  pub free : v.tables.free ≡ w.tables.free
  pub waiting : v.waiting ≡ w.waiting
  pub node_scopes : v.nodes.scopes ≡ w.nodes.scopes
  pub node_references : v.nodes.references ≡ w.nodes.references
  pub added : List (List ℕ)
  pub are_empty : added ≡ map (λ l. []) added
  pub uses : v.tables.uses ≡ w.tables.uses ++ added

-- nothing is added
same_uses : (w v : WalkState) → v.tables.scopes ≡ w.tables.scopes → v.tables.references ≡ w.tables.references → v.tables.free ≡ w.tables.free → v.waiting ≡ w.waiting → v.nodes.scopes ≡ w.nodes.scopes → v.nodes.references ≡ w.nodes.references → v.tables.uses ≡ w.tables.uses → Untouched w v
same_uses w v a b c d e f g = record { scopes = a; references = b; free = c; waiting = d; node_scopes = e; node_references = f; added = []; are_empty = refl; uses = g ∙ sym (append-nil w.tables.uses) }

pub untouched : (w : WalkState) → Untouched w w
untouched w = same_uses w w refl refl refl refl refl refl refl

both_empty : (xs ys : List (List ℕ)) → xs ≡ map (λ l. []) xs → ys ≡ map (λ l. []) ys → xs ++ ys ≡ map (λ l. []) (xs ++ ys)
both_empty [] ys h k = k
both_empty (x ∷ xs) ys h k =
    let first : x ≡ [] = cc in
    let rest : xs ≡ map (λ l. []) xs = cc in
    λ i. first i ∷ both_empty xs ys rest k i

pub then_untouched : (a b c : WalkState) → Untouched a b → Untouched b c → Untouched a c
then_untouched a b c h k = record {
  scopes = k.scopes ∙ h.scopes;
  references = k.references ∙ h.references;
  free = k.free ∙ h.free;
  waiting = k.waiting ∙ h.waiting;
  node_scopes = k.node_scopes ∙ h.node_scopes;
  node_references = k.node_references ∙ h.node_references;
  added = h.added ++ k.added;
  are_empty = both_empty h.added k.added h.are_empty k.are_empty;
  uses = k.uses ∙ ap (λ us. us ++ k.added) h.uses ∙ append_assoc a.tables.uses h.added k.added;
}

note_symbol_untouched : (w : WalkState) (y : ℕ) (d : Naming) → Untouched w (writes.note_symbol w y d)
note_symbol_untouched w y d = by d.is_pure
  where
    by : (b : Bool) → Untouched w (record w { nodes = (writes.note_symbol w y d).nodes; tables = cond b (writes.pure_with w.tables y) w.tables })
    by true = same_uses w _ refl refl refl refl refl refl refl
    by false = same_uses w _ refl refl refl refl refl refl refl

make_untouched : (w : WalkState) (s : ℕ) (d : Naming) → Untouched w (writes.make w s d)
make_untouched w s d = record { scopes = refl; references = refl; free = refl; waiting = refl; node_scopes = refl; node_references = refl; added = [] ∷ []; are_empty = refl; uses = refl }

symbol_untouched : (w : WalkState) (s : ℕ) (d : Naming) (o : Option ℕ) → Untouched w (writes.with_found_symbol w s d o)
symbol_untouched w s d None = make_untouched w s d
symbol_untouched w s d (Some y) = same_uses w (writes.unite w y d) refl refl refl refl refl refl refl

against_untouched : (w : WalkState) (d : Naming) (o : Option ℕ) → Untouched w (reaches.against_found w d o)
against_untouched w d None = untouched w
against_untouched w d (Some y) = same_uses w (writes.against w d y) refl refl refl refl refl refl refl

unless_untouched : (a b c : WalkState) (o : Option ℕ) → Untouched a b → Untouched a c → Untouched a (reaches.unless_passed_symbol o b c)
unless_untouched a b c None h k = k
unless_untouched a b c (Some y) h k = h

way_untouched : (w : WalkState) (d : Naming) (ss : List ℕ) → Untouched w (reaches.against_way w d ss)
way_untouched w d [] = untouched w
way_untouched w d (s ∷ ss) =
    let noted : WalkState = reaches.against_found w d (writes.found w s d.name) in
    let h : Untouched w noted = against_untouched w d (writes.found w s d.name) in
    unless_untouched w noted (reaches.against_way noted d ss) (reaches.value_symbol w.tables (writes.found w s d.name)) h
    (then_untouched w noted (reaches.against_way noted d ss) h (way_untouched noted d ss))

remember_untouched : (w : WalkState) (ss : List ℕ) (x : Name) (y : ℕ) → Untouched w (reaches.remember_all w ss x y)
remember_untouched w [] x y = untouched w
remember_untouched w (s ∷ ss) x y =
    then_untouched w (reaches.remember w s x y) (reaches.remember_all (reaches.remember w s x y) ss x y) (same_uses w (reaches.remember w s x y) refl refl refl refl refl refl refl)
    (remember_untouched (reaches.remember w s x y) ss x y)

move_untouched : (w : WalkState) (from to y : ℕ) (x : Name) → Untouched w (reaches.move_symbol w from to y x)
move_untouched w from to y x = by (bound_in w.tables to x)
  where
    by : (o : Option ℕ) → Untouched w (reaches.unless_bound o w (reaches.rebind w x y from to))
    by None = same_uses w (reaches.rebind w x y from to) refl refl refl refl refl refl refl
    by (Some z) = untouched w

hoisted_untouched : (w : WalkState) (target : ℕ) (d : Naming) (o : Option PassedSymbol) → Untouched w (reaches.hoisted_by w target d o)
hoisted_untouched w target d None = symbol_untouched w target d (writes.found w target d.name)
hoisted_untouched w target d (Some h) =
    then_untouched w (writes.redeclare w h.symbol d) (reaches.hoisted_by w target d (Some h)) (same_uses w (writes.redeclare w h.symbol d) refl refl refl refl refl refl refl)
    (move_untouched (writes.redeclare w h.symbol d) h.scope target h.symbol d.name)

hoist_untouched : (w : WalkState) (passed : List ℕ) (target : ℕ) (d : Naming) → Untouched w (reaches.hoist w passed target d)
hoist_untouched w passed target d =
    let noted : WalkState = reaches.against_way w d passed in
    let o : Option PassedSymbol = reaches.passed_symbol w passed d.name in
    let y : ℕ = reaches.hoisted_symbol noted target d o in
    let there : WalkState = reaches.hoisted_by noted target d o in
    then_untouched w (writes.note_symbol there y d) (reaches.hoist w passed target d)
    (then_untouched w there (writes.note_symbol there y d) (then_untouched w noted there (way_untouched w d passed) (hoisted_untouched noted target d o)) (note_symbol_untouched there y d))
    (remember_untouched (writes.note_symbol there y d) passed d.name y)

out_untouched : (w : WalkState) (block target y : ℕ) (x : Name) → Untouched w (reaches.move_out w block target y x)
out_untouched w block target y x = by (bound_in w.tables target x) (bound_in w.tables block x)
  where
    by : (o q : Option ℕ) → Untouched w (reaches.unless_bound o w (reaches.remember (reaches.set_symbol_scope (reaches.rebind_bound w x q block target) y target) block x y))
    by None None = same_uses w _ refl refl refl refl refl refl refl
    by None (Some z) = same_uses w _ refl refl refl refl refl refl refl
    by (Some z) q = untouched w

declare_untouched : (w : WalkState) (s : ℕ) (d : Naming) → Untouched w (writes.declare w s d)
declare_untouched w s d =
    then_untouched w (writes.with_symbol_in w s d) (writes.declare w s d) (symbol_untouched w s d (writes.found w s d.name)) (note_symbol_untouched (writes.with_symbol_in w s d) (writes.symbol_in w s d) d)

by_untouched : (how : How) (w : WalkState) (d : Declaration) → Untouched w (walk.declare_by how w d)
by_untouched plain w d = declare_untouched w d.route.target.number d.naming
by_untouched hoisted w d = hoist_untouched w (numbers d.route.passed) d.route.target.number d.naming
by_untouched moved w d =
    then_untouched w (writes.declare w (stands_in d) d.naming) (walk.declare_by moved w d) (declare_untouched w (stands_in d) d.naming)
    (out_untouched (writes.declare w (stands_in d) d.naming) (stands_in d) d.route.target.number (writes.symbol_in w (stands_in d) d.naming) d.naming.name)
by_untouched caught w d =
    then_untouched w (writes.make w d.route.target.number d.naming) (walk.declare_by caught w d) (make_untouched w d.route.target.number d.naming) (note_symbol_untouched (writes.make w d.route.target.number d.naming) _ d.naming)

-- an event that ends no header
abbrev pub Declares : Event → Type 0
Declares (declares d) = Unit {0}
Declares (takes_over c b) = Unit {0}
Declares (ends_header c) = ⊥

pub act_untouched : (w : WalkState) (e : Event) → Declares e → Untouched w (walk.act w e)
act_untouched w (declares d) h = by_untouched d.how w d
act_untouched w (takes_over c b) h = same_uses w (walk.act w (takes_over c b)) refl refl refl refl refl refl refl
act_untouched w (ends_header c) h = absurd h

abbrev pub AllDeclare : List Event → Type 0
AllDeclare [] = Unit {0}
AllDeclare (e ∷ es) = Declares e × AllDeclare es

pub acts_untouched : (w : WalkState) (es : List Event) → AllDeclare es → Untouched w (walk.act_all w es)
acts_untouched w [] h = untouched w
acts_untouched w (e ∷ es) h = then_untouched w (walk.act w e) (walk.act_all (walk.act w e) es) (act_untouched w e h.0) (acts_untouched (walk.act w e) es h.1)
