-- The scopes along which a name is declared are opened by nodes that make environments on the way of what binds it. So nothing bars a function that leaves its block alone.
use Rattle.std.proofs.Common.{◌≡◌, ℕ, ◌<◌, ◌==◌, List, [], ◌∷◌, ◌++◌, Some, None, Bool, true, false, ◌&&◌, ◌||◌, not, cond, length, if◌then◌else◌, inl, inr, ◌⊎◌, refl, sym, ap, subst, ◌∙◌, bytes_eq, arith}
use Rattle.std.specs.Prelude.{slice_get}
use Rattle.std.proofs.lemmas.Bool.{cases_Bool}
use Rattle.std.proofs.lemmas.Bool.Decides.{eqb_tells}
use Rattle.semantic_syntax.proofs.Truth.{and_first, and_second, or_true}
use Rattle.semantic_syntax.specs.Tables.{Name}
use Rattle.semantic_tree.specs.Faults.{first_fault}
use Rattle.semantic_tree.specs.Tree.{Tree, IsNumbered}
use Rattle.semantic_model.specs.Binder.{is_var, declared_on_entering}
use Rattle.semantic_model.specs.Declaration.{Declaration, How, plain, hoisted, moved, caught, first_with, passed_before, scope_it_stands_in, stands_in}
use Rattle.semantic_model.specs.Entries.{Among}
use Rattle.semantic_model.specs.Event.{counts_past, bars, any_bars, is_barred, staying_declaration, placed, placed_by, declares, declared, declared_at, declarations, events, events_of, taken_over, written_declarations}
use Rattle.semantic_model.specs.Place as place
use Rattle.semantic_model.specs.Place.{Place, OpenScope, outside}
use Rattle.semantic_model.specs.Step.{Step, entering, opening, header_ending, closing, leaving, steps}
use Rattle.semantic_model.proofs.lists.Members.{among_left, among_right}
use Rattle.semantic_model.proofs.once.ListedUnder.{name_tells}
use Rattle.program_laws.proofs.DeclaredNodes.{among_flat}
use Rattle.walk_model.proofs.declares.Simulated.{program_nested}
use Rattle.walk_model.proofs.places.Nested.{AreNested, Descends, open_past, seen_past}
use Rattle.binding_laws.proofs.ListLaws.{of_map, of_flat, each_at}
use Rattle.binding_laws.proofs.ScopeOpeners.{openers, IsOpened, AllOpened, IsPlaceOpened, places_opened}
use Rattle.binding_laws.proofs.ScopesRound.{among_round}
use Rattle.binding_laws.proofs.SmallLaws.{never, some_is, either}
use Rattle.language_ties.specs.AgreeingNames.{is_declared_plainly, leaves_block, crossed, IsAlone, IsPlainName}
use Rattle.language_ties.specs.Bound.{Bound, bound_by_node, is_bound_as, written}
use Rattle.language_ties.specs.EcmaScript.{is_ecmascript}
use Rattle.language_ties.specs.Environments.{Environment, is_made_for, environments, passed}
use Rattle.language_ties.specs.Scopes.{has_scope}
use Rattle.language_ties.specs.declared.bound_as.BoundAs.TheVariants as bound
use Rattle.language_ties.specs.declared.environment_kind.EnvironmentKind.TheVariants as environment
use Rattle.language_ties.proofs.EnvironmentsRound.{IsKnown, KnownAt, known_program}
use Rattle.language_ties.proofs.UndeclaredNames.{each_identifier}
use Rattle.language_ties.proofs.agree.MadeEnvironments.{taking_usual}
use Rattle.language_ties.proofs.agree.PlainBounds.{IsBoundAt, bound_at_place, IsPlacedBound, placed_bound}
use Rattle.language_ties.proofs.clear.PassedScopes.{IsPassed, passes_scope, before_among, route_passes, taking_takes}
use Rattle.language_ties.proofs.clear.SingleNames.{identifier_of, same_declaration, declared_once}
use Rattle.language_ties.proofs.headers.Paired.{by_kind}
use Rattle.language_ties.proofs.moved.LeavingFunctions.{LeavesAt, leaves_at, IsLeft, is_left}
use Rattle.language_ties.proofs.own_names.OwnBounds.{IsOfExpression, OwnBound, own_bound, own_maker}
use Rattle.language_ties.proofs.symbols.OneSymbol.{DeclarationOf, StaysThere, declaration_of}

-- ---- chains and routes

-- a scope of the chain is below what the chain descends from
below_all : (n : ℕ) (chain : List OpenScope) (s : OpenScope) → Descends n chain → Among s chain → s.number < n
below_all n [] s h a = absurd a
below_all n (t ∷ ss) s h (inl q) = subst (λ (z : OpenScope). z.number < n) q h.0
below_all n (t ∷ ss) s h (inr a) = omega (arith, below_all t.number ss s h.1 a, h.0)

-- the chain of each place descends
descends_at : (stack : List ℕ) (seen : List (List ℕ)) (ss : List Step) (q : Place) → AreNested stack seen ss → Among (entering q) ss → (n : ℕ) × Descends n q.chain
descends_at stack seen [] q h a = absurd a
descends_at stack seen (entering z ∷ ss) q h (inl i) = let w : z ≡ q = cc in (length seen, subst (λ (y : Place). Descends (length seen) y.chain) w h.0.descends)
descends_at stack seen (opening z o ∷ ss) q h (inl i) = absurd cc
descends_at stack seen (header_ending z o ∷ ss) q h (inl i) = absurd cc
descends_at stack seen (closing z o ∷ ss) q h (inl i) = absurd cc
descends_at stack seen (leaving z ∷ ss) q h (inl i) = absurd cc
descends_at stack seen (st ∷ ss) q h (inr a) = descends_at (open_past stack st) (seen_past seen st) ss q h.1 a

first_of_way : (xs : List OpenScope) (t : OpenScope) → Among (place.innermost (xs ++ t ∷ [])) xs ⊎ (place.innermost (xs ++ t ∷ []) ≡ t)
first_of_way [] t = inr refl
first_of_way (s ∷ xs) t = inl (inl refl)

first_among : (chain : List OpenScope) (t : OpenScope) → first_with is_var chain ≡ Some t → Among t chain
first_among [] t h = absurd cc
first_among (s ∷ ss) t h = go (is_var s) h (first_among ss t)
  where
    go : (b : Bool) → cond b (Some s) (first_with is_var ss) ≡ Some t → (first_with is_var ss ≡ Some t → Among t ss) → Among t (s ∷ ss)
    go true i later = inl (some_is s t i)
    go false i later = inr (later i)

-- a scope with a maker's environment is no body of an `if`
scope_no_body : (d : Environment) → has_scope d ≡ true → is_made_for environment.IfBody d ≡ false
scope_no_body d h = elim (cases_Bool (is_made_for environment.IfBody d)) [
  | inr w ↦ w
  | inl w ↦ (let v : has_scope d ≡ false = ap (λ z. not ((is_made_for environment.OwnName d || is_made_for environment.Body d) || z)) w ∙ ap not (or_true (is_made_for environment.OwnName d || is_made_for environment.Body d)) in absurd (never (sym h ∙ v)))
]

-- ---- placed declarations

stands_placed : (ds : List Declaration) (how : How) (d : Declaration) → stands_in (placed_by how ds d) ≡ stands_in d
stands_placed ds plain d = refl
stands_placed ds hoisted d = refl
stands_placed ds caught d = refl
stands_placed ds moved d = go (is_barred ds d (outside d.route.passed))
  where
    go : (b : Bool) → stands_in (if b then staying_declaration d else d) ≡ stands_in d
    go true = refl
    go false = refl

placed_naming : (ds : List Declaration) (how : How) (d : Declaration) → (placed_by how ds d).naming ≡ d.naming
placed_naming ds plain d = refl
placed_naming ds hoisted d = refl
placed_naming ds caught d = refl
placed_naming ds moved d = go (is_barred ds d (outside d.route.passed))
  where
    go : (b : Bool) → (if b then staying_declaration d else d).naming ≡ d.naming
    go true = refl
    go false = refl

-- what bars a declaration stands in one of the scopes
record Bars (ds : List Declaration) (d : Declaration) (cs : List OpenScope) : Type 0 where
  scope : OpenScope
  among : Among scope cs
  other : Declaration
  written : Among other ds
  stands : stands_in other ≡ scope.number
  named : other.naming.name ≡ d.naming.name

what_bars : (ds : List Declaration) (d : Declaration) (cs : List OpenScope) → is_barred ds d cs ≡ true → Bars ds d cs
what_bars ds d [] h = absurd (never (sym h))
what_bars ds d (c ∷ cs) h = elim (either (any_bars d c ds) (is_barred ds d cs) h) [
  | inl w ↦ here_bars ds (λ e a. a) w
  | inr w ↦ (let b : Bars ds d cs = what_bars ds d cs w in record { scope = b.scope; among = inr b.among; other = b.other; written = b.written; stands = b.stands; named = b.named })
]
  where
    here_bars : (es : List Declaration) → ((e : Declaration) → Among e es → Among e ds) → any_bars d c es ≡ true → Bars ds d (c ∷ cs)
    here_bars [] f w = absurd (never (sym w))
    here_bars (e ∷ es) f w = elim (either (bars d c e) (any_bars d c es) w) [
      | inl v ↦ (let first : (counts_past e && (stands_in e == c.number)) ≡ true = and_first (counts_past e && (stands_in e == c.number)) (bytes_eq e.naming.name d.naming.name) v in
          record {
            scope = c;
            among = inl refl;
            other = e;
            written = f e (inl refl);
            stands = number (stands_in e) c.number (and_second (counts_past e) (stands_in e == c.number) first);
            named = name e.naming.name d.naming.name (and_second (counts_past e && (stands_in e == c.number)) (bytes_eq e.naming.name d.naming.name) v);
          })
      | inr v ↦ here_bars es (λ z a. f z (inr a)) v
    ]
      where
        number : (a b : ℕ) → (a == b) ≡ true → a ≡ b
        number a b i = elim (eqb_tells a b) [ inl j ↦ j.1 | inr j ↦ absurd (never (sym i ∙ j.0)) ]

        name : (a b : Name) → bytes_eq a b ≡ true → a ≡ b
        name a b i = elim (name_tells a b) [ inl j ↦ j.1 | inr j ↦ absurd (never (sym i ∙ j.0)) ]

-- ---- the program

module _ (p : Tree) (h : first_fault p ≡ None) (e : is_ecmascript p ≡ true) (numbered : IsNumbered p.root) (x : Name) where
  abbrev ws : List Bound
  ws = written p.source_type (steps p)

  abbrev ds : List Declaration
  ds = written_declarations (steps p)

  -- a scope is opened by a node that makes an environment on the way
  pub record IsOnWay (b : Bound) (n : ℕ) : Type 0 where
    pub passes : Environment
    pub among : Among passes (crossed b)
    pub no_body : is_made_for environment.IfBody passes ≡ false
    pub opened : slice_get (openers (steps p)) n ≡ Some passes.maker

  -- so are all of a declaration
  pub record IsRouteOnWay (b : Bound) (d : Declaration) : Type 0 where
    pub passed : (s : OpenScope) → Among s d.route.passed → IsOnWay b s.number
    pub target : IsOnWay b d.route.target.number

  chain_opened : (q : Place) → Among (entering q) (steps p) → AllOpened (openers (steps p)) q.chain
  chain_opened q a = each_at (IsPlaceOpened (openers (steps p))) (steps p) (entering q) (places_opened p) a

  passed_on_way : (q : Place) → Among (entering q) (steps p) → (b : Bound) → b.passed ≡ passed (environments q.node q.path) → (s : OpenScope) → Among s (passed_before is_var q.chain) → IsOnWay b s.number
  passed_on_way q a b same s i =
      let known : IsKnown q = each_at KnownAt (steps p) (entering q) (known_program p h e) a in
      let k : IsPassed (environments q.node q.path) s = passes_scope q.chain q.node q.path s known.round i in
      record {
        passes = k.passes;
        among = inr (among_left k.passes b.passed b.also (subst (Among k.passes) (sym same) k.among));
        no_body = scope_no_body k.passes k.scoped;
        opened = among_round (IsOpened (openers (steps p))) q.chain s (chain_opened q a) (before_among q.chain s i) ∙ ap Some (sym k.maker);
      }

  -- what is bound plainly
  pub plain_on_way : (b : Bound) → Among b ws → b.name ≡ x → (placed : IsPlacedBound p b) (d : DeclarationOf p h e numbered x b) → StaysThere p h e numbered x b d → IsRouteOnWay b d.declaration
  plain_on_way b a n placed d stays = record {
    passed = λ s i. elim (by_kind p.source_type d.place d.declaration b d.place.node.kind stays.unmoved d.told stays.binds) [
      | inl w ↦ absurd (subst (λ r. Among s r.passed) w.0 i)
      | inr w ↦ passed_on_way d.place d.entered b w.2 s (route_passes d.place.chain s (subst (λ r. Among s r.passed) w.0 i))
    ];
    target = record { passes = b.environment; among = inl refl; no_body = placed.usual.1; opened = d.opened ∙ ap Some d.maker };
  }

  -- an own name
  pub own_on_way : (b : Bound) (o : OwnBound p h x b) → IsRouteOnWay b o.declaration
  own_on_way b o = record {
    passed = λ s i. absurd (subst (Among s) o.bare i);
    target = record {
      passes = b.environment;
      among = inl refl;
      no_body = go o.named_by.sort;
      opened = ap (λ t. slice_get (openers (steps p)) t.number) o.target ∙ o.opened ∙ ap Some (o.opener ∙ sym (own_maker p h x b o));
    };
  }
    where
      go : IsOfExpression o.place.node b.environment → is_made_for environment.IfBody b.environment ≡ false
      go (inl w) = ap (is_made_for environment.IfBody) w.1
      go (inr w) = ap (is_made_for environment.IfBody) w.1

  -- a function that leaves its block
  pub left_on_way : (q : Place) → Among (entering q) (steps p) → (c : Bound) (l : IsLeft q c) → IsRouteOnWay c l.declaration
  left_on_way q a c l = record {
    passed = λ s i. passed_on_way q a c l.passing s (subst (Among s) l.passes i);
    target = record {
      passes = l.variable;
      among = inr (among_right l.variable c.passed c.also (subst (Among l.variable) (sym l.also) (inl refl)));
      no_body = (taking_usual l.variable (taking_takes (environments q.node q.path) l.variable l.taking)).1;
      opened = among_round (IsOpened (openers (steps p))) q.chain l.declaration.route.target (chain_opened q a) (first_among q.chain l.declaration.route.target l.target) ∙ ap Some l.opener;
    };
  }

  stands_on_way : (b : Bound) (d : Declaration) → IsRouteOnWay b d → IsOnWay b (stands_in d)
  stands_on_way b d r = elim (first_of_way d.route.passed d.route.target) [
    | inl i ↦ r.passed (scope_it_stands_in d) i
    | inr i ↦ subst (λ (s : OpenScope). IsOnWay b s.number) (sym i) r.target
  ]

  -- ---- all that is written

  placed_there : (q : Place) (d : Declaration) → Among (entering q) (steps p) → Among d (declared_on_entering q) → Among (placed ds d) (declarations (events (steps p)))
  placed_there q d a i = of_flat declared (events (steps p)) (declares (placed ds d)) (placed ds d) (of_flat (events_of ds) (steps p) (entering q) (declares (placed ds d)) a (of_map (λ z. declares (placed ds z)) (declared_on_entering q) d i)) (inl refl)

  placed_written : (d : Declaration) → Among d ds → Among (placed ds d) (declarations (events (steps p)))
  placed_written d a = let (st, i, j) = among_flat declared_at (steps p) d a in of_flat declared (events (steps p)) (declares (placed ds d)) (placed ds d) (of_flat (events_of ds) (steps p) st (declares (placed ds d)) i (by st j)) (inl refl)
    where
      by : (st : Step) → Among d (declared_at st) → Among (declares (placed ds d)) (events_of ds st)
      by (entering q) j = of_map (λ z. declares (placed ds z)) (declared_on_entering q) d j
      by (opening q o) j = among_right (declares (placed ds d)) (taken_over q o) _ (of_map (λ z. declares (placed ds z)) _ d j)
      by (header_ending q o) j = absurd j
      by (closing q o) j = absurd j
      by (leaving q) j = absurd j

  -- how what binds the name is declared, as it is written
  pub record IsWritten (b : Bound) : Type 0 where
    pub declaration : Declaration
    pub among : Among (placed ds declaration) (declarations (events (steps p)))
    pub identifier : declaration.naming.identifier ≡ b.identifier
    pub on_way : IsRouteOnWay b declaration

  placed_plain : (d : Declaration) (how : How) → d.how ≡ how → (how ≡ moved → ⊥) → placed ds d ≡ d
  placed_plain d plain w n = ap (λ k. placed_by k ds d) w
  placed_plain d hoisted w n = ap (λ k. placed_by k ds d) w
  placed_plain d caught w n = ap (λ k. placed_by k ds d) w
  placed_plain d moved w n = absurd (n refl)

  written_plain : (b : Bound) → Among b ws → b.name ≡ x → is_declared_plainly b ≡ true → is_bound_as bound.OwnName b ≡ false → IsWritten b
  written_plain b a n plainly o =
      let (node, made) = placed_bound p h e numbered x b a n plainly o in
      let (d, stays) = declaration_of p h e numbered x b node n in
      record {
        declaration = d.declaration;
        among = subst (λ z. Among z (declarations (events (steps p)))) (sym (placed_plain d.declaration d.declaration.how refl stays.unmoved)) d.among;
        identifier = d.identifier;
        on_way = plain_on_way b a n made d stays;
      }

  written_own : (b : Bound) → OwnBound p h x b → IsWritten b
  written_own b o = record {
    declaration = o.declaration;
    among = subst (λ z. Among z (declarations (events (steps p)))) (sym (ap (λ k. placed_by k ds o.declaration) o.how)) o.among;
    identifier = o.identifier;
    on_way = own_on_way b o;
  }

  -- where it is written
  pub record IsLeftSomewhere (c : Bound) : Type 0 where
    pub place : Place
    pub entered : Among (entering place) (steps p)
    pub binds : Among c (bound_by_node place.node.kind p.source_type place.node place.path)
    pub leaves : LeavesAt p.source_type place c
    pub left : IsLeft place c

  pub left_somewhere : (c : Bound) → Among c ws → c.name ≡ x → leaves_block c ≡ true → IsLeftSomewhere c
  left_somewhere c a n leaves =
      let at : IsBoundAt p.source_type (steps p) c = bound_at_place p.source_type (steps p) c a in
      let l : LeavesAt p.source_type at.place c = leaves_at p.source_type at.place c leaves at.place.node.kind refl at.binds in
      record { place = at.place; entered = at.entered; binds = at.binds; leaves = l; left = is_left p h e numbered at.place at.entered c l }

  written_left : (c : Bound) → IsLeftSomewhere c → IsWritten c
  written_left c l = record {
    declaration = l.left.declaration;
    among = placed_there l.place l.left.declaration l.entered l.left.told;
    identifier = l.left.identifier;
    on_way = left_on_way l.place l.entered c l.left;
  }

  -- ---- of a plain name

  module _ (plain_name : IsPlainName p x) where
    pub is_written : (b : Bound) → Among b ws → b.name ≡ x → IsWritten b
    is_written b a n = elim (plain_name.each b a n) [
      | inr w ↦ written_left b (left_somewhere b a n w.0)
      | inl w ↦ elim (cases_Bool (is_bound_as bound.OwnName b)) [
        | inl o ↦ written_own b (own_bound p h x b a n o)
        | inr o ↦ written_plain b a n (subst (λ t. (t || is_declared_plainly b) ≡ true) o w) o
      ]
    ]

    -- nothing bars one that is alone
    module _ (c : Bound) (a : Among c ws) (n : c.name ≡ x) (alone : IsAlone p c) (l : IsLeftSomewhere c) where
      abbrev D : Declaration
      D = l.left.declaration

      head_apart : (s : OpenScope) (ss : List OpenScope) → l.place.chain ≡ s ∷ ss → (t : OpenScope) → Among t ss → t.number ≡ s.number → ⊥
      head_apart s ss w t i q =
          let (m, down) = descends_at [] [] (steps p) l.place (program_nested p) l.entered in
          let down_here : Descends m (s ∷ ss) = subst (Descends m) w down in
          let less : t.number < s.number = below_all s.number ss t down_here.1 i in
          absurd (omega (arith, less, q))

      inner_among : (ss : List OpenScope) (t : OpenScope) → Among t (passed_before is_var ss) → Among t ss
      inner_among ss t i = before_among ss t i

      -- a scope that is passed behind the first
      behind_first : (t : OpenScope) → Among t (outside D.route.passed) → (Among t (passed_before is_var l.place.chain)) × (t.number ≡ stands_in D → ⊥)
      behind_first t i = go l.place.chain refl (subst (λ r. Among t (outside r)) l.left.passes i)
        where
          stands : (s : OpenScope) (ss : List OpenScope) → passed_before is_var l.place.chain ≡ s ∷ ss → stands_in D ≡ s.number
          stands s ss w = ap (λ r. (place.innermost (r ++ D.route.target ∷ [])).number) (l.left.passes ∙ w)

          go : (chain : List OpenScope) → l.place.chain ≡ chain → Among t (outside (passed_before is_var l.place.chain)) → (Among t (passed_before is_var l.place.chain)) × (t.number ≡ stands_in D → ⊥)
          go [] w j = absurd (subst (λ z. Among t (outside (passed_before is_var z))) w j)
          go (s ∷ ss) w j = by (is_var s) refl (subst (λ z. Among t (outside (passed_before is_var z))) w j)
            where
              by : (b : Bool) → is_var s ≡ b → Among t (outside (cond b [] (s ∷ passed_before is_var ss))) → (Among t (passed_before is_var l.place.chain)) × (t.number ≡ stands_in D → ⊥)
              by true v k = absurd k
              by false v k =
                  let whole : passed_before is_var l.place.chain ≡ s ∷ passed_before is_var ss = ap (passed_before is_var) w ∙ ap (λ b. cond b [] (s ∷ passed_before is_var ss)) v in
                  (subst (Among t) (sym whole) (inr k), λ q. head_apart s ss w t (inner_among ss t k) (q ∙ stands s (passed_before is_var ss) whole))

      -- what bars it would be itself
      bars_none : (k : Bars ds D (outside D.route.passed)) (b : Bound) → Among b ws → b.name ≡ x → b.identifier ≡ identifier_of (placed ds k.other) → IsWritten b → ⊥
      bars_none k b i m j v =
          let two : (Among k.scope (passed_before is_var l.place.chain)) × (k.scope.number ≡ stands_in D → ⊥) = behind_first k.scope k.among in
          let mine : IsOnWay c k.scope.number = passed_on_way l.place l.entered c l.left.passing k.scope two.0 in
          let there : Among (placed ds k.other) (declarations (events (steps p))) = placed_written k.other k.written in
          let same : placed ds k.other ≡ placed ds v.declaration = same_declaration (placed ds k.other) (placed ds v.declaration) (declarations (events (steps p))) there v.among
          (sym j ∙ sym v.identifier ∙ sym (ap (λ z. z.identifier) (placed_naming ds v.declaration.how v.declaration))) (declared_once p (identifier_of (placed ds k.other)) h numbered) in
          let stands : stands_in v.declaration ≡ k.scope.number = sym (stands_placed ds v.declaration.how v.declaration) ∙ ap stands_in (sym same) ∙ stands_placed ds k.other.how k.other ∙ k.stands in
          let theirs : IsOnWay b k.scope.number = subst (IsOnWay b) stands (stands_on_way b v.declaration v.on_way) in
          let one : b ≡ c = alone b i (m ∙ sym n) mine.passes theirs.passes mine.among theirs.among (some_is mine.passes.maker theirs.passes.maker (sym mine.opened ∙ theirs.opened), mine.no_body ∙ sym theirs.no_body) in
          let mine_there : Among (placed ds D) (declarations (events (steps p))) = placed_there l.place D l.entered l.left.told in
          let itself : placed ds k.other ≡ placed ds D = same_declaration (placed ds k.other) (placed ds D) (declarations (events (steps p))) there mine_there
          (sym j ∙ ap (λ z. z.identifier) one ∙ sym l.left.identifier ∙ sym (ap (λ z. z.identifier) (placed_naming ds D.how D))) (declared_once p (identifier_of (placed ds k.other)) h numbered) in
          two.1 (sym k.stands ∙ sym (stands_placed ds k.other.how k.other) ∙ ap stands_in itself ∙ stands_placed ds D.how D)

      unbarred : is_barred ds D (outside D.route.passed) ≡ false
      unbarred = elim (cases_Bool (is_barred ds D (outside D.route.passed))) [
        | inr w ↦ w
        | inl w ↦ absurd (go (what_bars ds D (outside D.route.passed) w))
      ]
        where
          go : Bars ds D (outside D.route.passed) → ⊥
          go k =
              let named : (placed ds k.other).naming.name ≡ x = ap (λ m. m.name) (placed_naming ds k.other.how k.other) ∙ k.named ∙ l.left.named ∙ n in
              let (b, i, m, j) = each_identifier p.source_type x (λ z. (b : Bound) × Among b ws × (b.name ≡ x) × (b.identifier ≡ z)) p h e (λ b i m. (b, i, m, refl)) (placed ds k.other) (placed_written k.other k.written) named in
              bars_none k b i m j (is_written b i m)

      -- so it is placed as it is written
      pub placed_as_left : placed ds D ≡ D
      placed_as_left = go D.how refl
        where
          go : (how : How) → D.how ≡ how → placed ds D ≡ D
          go plain w = ap (λ k. placed_by k ds D) w
          go hoisted w = ap (λ k. placed_by k ds D) w
          go caught w = ap (λ k. placed_by k ds D) w
          go moved w = ap (λ k. placed_by k ds D) w ∙ ap (λ b. if b then staying_declaration D else D) unbarred
