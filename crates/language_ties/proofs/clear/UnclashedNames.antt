-- The declarations of a plain name of which no `var` clashes keep clear of each other.
use Rattle.std.proofs.Common.{◌≡◌, ℕ, ◌≤◌, List, [], ◌∷◌, ◌++◌, Option, Some, None, Bool, true, false, ◌||◌, not, cond, map, inl, inr, ◌⊎◌, refl, sym, ap, subst, ◌∙◌, bytes_eq}
use Rattle.std.specs.List.{list_any}
use Rattle.std.specs.Prelude.{slice_get}
use Rattle.std.proofs.lemmas.Bool.{cases_Bool}
use Rattle.std.proofs.lemmas.Bool.Decides.{eqb_tells}
use Rattle.semantic_kinds.specs.declared.kind.AstType.{AstType}
use Rattle.semantic_kinds.specs.declared.kind.AstType.TheVariants as kind
use Rattle.semantic_syntax.specs.Members.{contains}
use Rattle.semantic_syntax.specs.Tables.{Name}
use Rattle.semantic_tree.specs.Faults.{first_fault}
use Rattle.semantic_tree.specs.Tree.{Tree, IsNumbered}
use Rattle.semantic_tree.specs.declared.node.Node.{Node}
use Rattle.semantic_model.specs.Binder.{is_var, declared_on_entering}
use Rattle.semantic_model.specs.Declaration.{Declaration, plain, hoisted, moved, caught, body_list, path, Meets, here, passed_before, route_from, outward_to}
use Rattle.semantic_model.specs.Entries.{Among, times}
use Rattle.semantic_model.specs.Event.{declarations, events}
use Rattle.semantic_model.specs.Place.{Place}
use Rattle.semantic_model.specs.Step.{entering, steps}
use Rattle.semantic_model.proofs.lists.Members.{among_left}
use Rattle.semantic_model.proofs.once.ListedUnder.{name_tells}
use Rattle.walk_model.proofs.headers.NoStatements.{is_loose}
use Rattle.binding_laws.proofs.ListLaws.{of_map, each_at, each_declared}
use Rattle.binding_laws.proofs.ScopeOpeners.{openers, IsOpened, AllOpened, IsPlaceOpened, places_opened}
use Rattle.binding_laws.proofs.ScopesRound.{among_round}
use Rattle.binding_laws.proofs.SmallLaws.{never, some_is}
use Rattle.language_ties.specs.AgreeingNames.{is_declared_plainly, IsPlainName}
use Rattle.language_ties.specs.Bound.{Bound, bound_by_node, is_bound_as, written}
use Rattle.language_ties.specs.contracts.bound_as.BoundAs.{the_type as the_ways}
use denote.Enum.Bare.{same_true}
use Rattle.language_ties.specs.EarlyErrors.{meets_lexical, clashes, has_clash}
use Rattle.language_ties.specs.EcmaScript.{is_ecmascript}
use Rattle.language_ties.specs.Environments.{Environment, is_made_for, made_by, environments, innermost, passed, takes_variables}
use Rattle.language_ties.specs.Moved.{is_lexical_in, moved as moved_by, unless_barred, bound_of}
use Rattle.language_ties.specs.Scopes.{maker_of_scope, has_scope, makers}
use Rattle.language_ties.specs.SharedSymbols.{IsBoundIn, KeepsClear, AllKeepClear}
use Rattle.language_ties.specs.declared.bound_as.BoundAs.{BoundAs}
use Rattle.language_ties.specs.declared.bound_as.BoundAs.TheVariants as bound
use Rattle.language_ties.specs.declared.environment_kind.EnvironmentKind.{EnvironmentKind}
use Rattle.language_ties.specs.declared.environment_kind.EnvironmentKind.TheVariants as environment
use Rattle.language_ties.proofs.EnvironmentsRound.{IsKnown, KnownAt, known_program}
use Rattle.language_ties.proofs.UndeclaredNames.{each_identifier}
use Rattle.language_ties.proofs.agree.FamiliarPlaces.{AllKnown, IsFamiliar, known_among, familiar_at}
use Rattle.language_ties.proofs.agree.KnownBounds.{LeavesThere, KnownBound, bodiless}
use Rattle.language_ties.proofs.agree.KnownNodes.{node_at}
use Rattle.language_ties.proofs.agree.MadeEnvironments.{environment_kind_is, may_make, IsMadeBy, made_in}
use Rattle.language_ties.proofs.agree.PlainBounds.{by_one}
use Rattle.language_ties.proofs.caught.CaughtBounds.{IsTakenBy, taken_by}
use Rattle.language_ties.proofs.caught.CaughtOnce.{caught_once}
use Rattle.language_ties.proofs.caught.CaughtNames.{catch_environment, catch_kind}
use Rattle.language_ties.proofs.caught.ClausePlaces.{UnderClause, IsClausal, ClausalAt, clausal_program, body_kind}
use Rattle.language_ties.proofs.caught.PassedBodies.{clause_passed}
use Rattle.language_ties.proofs.clear.HowDeclared.{IsVariable, hoisted_kind, hoisted_is, variable_bound, plain_never, moved_never, none_caught, lexical_or_taken, among_written}
use Rattle.language_ties.proofs.clear.PassedScopes.{IsPassed, passes_scope, passed_takes_none, before_among, scope_of_number, route_passes, taking_takes}
use Rattle.language_ties.proofs.clear.SingleNames.{identifier_of, same_declaration, declared_once, differ, fewer}
use Rattle.language_ties.proofs.moved.OnWays.{IsOnWay, IsRouteOnWay, plain_on_way, own_on_way, left_on_way}
use Rattle.language_ties.proofs.moved.Settled.{settled, settled_bounds, settled_name, settled_identifier, settled_among}
use Rattle.language_ties.proofs.own_names.AnyBounds.{AnyBound, any_bound, IsDeclared, is_declared, declared_known, declared_own, IsMade, is_made, own_kind}
use Rattle.language_ties.proofs.own_names.OwnBounds.{IsOfExpression, OwnBound}
use Rattle.language_ties.proofs.own_names.PassedClasses.{HoldsLoose, LooseAt, loose_program, passes_no_class}
use Rattle.language_ties.proofs.symbols.OneSymbol.{DeclarationOf, StaysThere}

-- ---- kinds of environments with a scope, where no variables go

function_takes : (k : EnvironmentKind) (m : ℕ) → may_make kind.Function k ≡ true → has_scope (record { kind = k; maker = m }) ≡ true → takes_variables (record { kind = k; maker = m }) ≡ false → ⊥
function_takes environment.Body m h s t = never (sym s)
function_takes environment.Parameters m h s t = never t
function_takes environment.OwnName m h s t = never (sym s)
function_takes environment.IfBody m h s t = never (sym s)
function_takes environment.Global m h s t = never (sym h)
function_takes environment.ArrowParameters m h s t = never (sym h)
function_takes environment.StaticBlock m h s t = never (sym h)
function_takes environment.Block m h s t = never (sym h)
function_takes environment.Loop m h s t = never (sym h)
function_takes environment.Catch m h s t = never (sym h)
function_takes environment.Class m h s t = never (sym h)
function_takes environment.Object m h s t = never (sym h)

arrow_takes : (k : EnvironmentKind) (m : ℕ) → may_make kind.ArrowFunctionExpression k ≡ true → has_scope (record { kind = k; maker = m }) ≡ true → takes_variables (record { kind = k; maker = m }) ≡ false → ⊥
arrow_takes environment.Body m h s t = never (sym s)
arrow_takes environment.ArrowParameters m h s t = never t
arrow_takes environment.Parameters m h s t = never (sym h)
arrow_takes environment.OwnName m h s t = never (sym h)
arrow_takes environment.IfBody m h s t = never (sym h)
arrow_takes environment.Global m h s t = never (sym h)
arrow_takes environment.StaticBlock m h s t = never (sym h)
arrow_takes environment.Block m h s t = never (sym h)
arrow_takes environment.Loop m h s t = never (sym h)
arrow_takes environment.Catch m h s t = never (sym h)
arrow_takes environment.Class m h s t = never (sym h)
arrow_takes environment.Object m h s t = never (sym h)

both_are : (a b k : EnvironmentKind) → a ≡ k → b ≡ k → a ≡ b
both_are a b k h i = h ∙ sym i

-- a node makes one such kind
one_kind : (k : AstType) (a b : EnvironmentKind) (m : ℕ) → may_make k a ≡ true → may_make k b ≡ true → has_scope (record { kind = b; maker = m }) ≡ true → takes_variables (record { kind = b; maker = m }) ≡ false → a ≡ b
one_kind kind.Program a b m h i s t = both_are a b environment.Global (environment_kind_is a environment.Global h) (environment_kind_is b environment.Global i)
one_kind kind.Function a b m h i s t = absurd (function_takes b m i s t)
one_kind kind.ArrowFunctionExpression a b m h i s t = absurd (arrow_takes b m i s t)
one_kind kind.StaticBlock a b m h i s t = both_are a b environment.StaticBlock (environment_kind_is a environment.StaticBlock h) (environment_kind_is b environment.StaticBlock i)
one_kind kind.BlockStatement a b m h i s t = both_are a b environment.Block (environment_kind_is a environment.Block h) (environment_kind_is b environment.Block i)
one_kind kind.SwitchStatement a b m h i s t = both_are a b environment.Block (environment_kind_is a environment.Block h) (environment_kind_is b environment.Block i)
one_kind kind.ForStatement a b m h i s t = both_are a b environment.Loop (environment_kind_is a environment.Loop h) (environment_kind_is b environment.Loop i)
one_kind kind.ForInStatement a b m h i s t = both_are a b environment.Loop (environment_kind_is a environment.Loop h) (environment_kind_is b environment.Loop i)
one_kind kind.ForOfStatement a b m h i s t = both_are a b environment.Loop (environment_kind_is a environment.Loop h) (environment_kind_is b environment.Loop i)
one_kind kind.CatchClause a b m h i s t = both_are a b environment.Catch (environment_kind_is a environment.Catch h) (environment_kind_is b environment.Catch i)
one_kind kind.Class a b m h i s t = both_are a b environment.Class (environment_kind_is a environment.Class h) (environment_kind_is b environment.Class i)
one_kind kind.WithStatement a b m h i s t = both_are a b environment.Object (environment_kind_is a environment.Object h) (environment_kind_is b environment.Object i)
one_kind _ a b m h i s t = absurd (never (sym h))

-- ---- clashes

any_of : {A : Type 0} → (g : A → Bool) (xs : List A) (y : A) → Among y xs → g y ≡ true → list_any g xs ≡ true
any_of g [] y a k = absurd a
any_of g (z ∷ xs) y (inl i) k = rw (subst (λ w. g w ≡ true) (sym i) k) refl
any_of g (z ∷ xs) y (inr a) k = or_second (g z) (list_any g xs) (any_of g xs y a k)
  where
    or_second : (b c : Bool) → c ≡ true → (b || c) ≡ true
    or_second true c w = refl
    or_second false c w = w

-- a variable and what is lexical in an environment that it passes
unmoved_variable : (ws : List Bound) (b : Bound) → is_bound_as bound.Function b ≡ false → moved_by ws b ≡ b
unmoved_variable ws b h = ap (λ t. cond t (record b { also = unless_barred ws b b.also }) b) h

-- what is bound plainly has nothing that could be barred
unmoved_plain : (ws : List Bound) (b : Bound) → is_declared_plainly b ≡ true → moved_by ws b ≡ b
unmoved_plain ws b h = elim (cases_Bool (is_bound_as bound.Function b)) [
  | inr q ↦ unmoved_variable ws b q
  | inl q ↦ (let sort : b.sort ≡ bound.Function = same_true the_ways tt b.sort bound.Function q in
      let alone : b.also ≡ [] = by_one b h (ap (λ w. is_bound_as bound.Lexical (record b { sort = w })) sort) in
      ap (λ t. cond t (record b { also = unless_barred ws b b.also }) b) q ∙ ap (λ es. record b { also = es }) (ap (unless_barred ws b) alone ∙ sym alone))
]

no_function : (b : Bound) (k : BoundAs) → is_bound_as k b ≡ true → is_bound_as k (record b { sort = bound.Function }) ≡ false → is_bound_as bound.Function b ≡ false
no_function b k h n = elim (cases_Bool (is_bound_as bound.Function b)) [
  | inr q ↦ q
  | inl q ↦ (let s : b.sort ≡ bound.Function = same_true the_ways tt b.sort bound.Function q in absurd (never (sym h ∙ subst (λ w. is_bound_as k (record b { sort = w }) ≡ false) (sym s) n)))
]

module _ (p : Tree) (h : first_fault p ≡ None) (e : is_ecmascript p ≡ true) (numbered : IsNumbered p.root) (x : Name) (plain_name : IsPlainName p x) (no_clash : has_clash p x ≡ false) where
  abbrev ws : List Bound
  ws = settled_bounds p

  abbrev written_bounds : List Bound
  written_bounds = written p.source_type (steps p)

  abbrev bs : List Bound
  bs = bound_of p

  abbrev ds : List Declaration
  ds = declarations (events (steps p))

  clash : (b c : Bound) → Among b written_bounds → Among c written_bounds → b.name ≡ x → c.name ≡ x → is_bound_as bound.Var b ≡ true → is_declared_plainly c ≡ true → is_lexical_in c.environment c ≡ true → Among c.environment b.passed → ⊥
  clash b c i j n m var plainly lexical a =
      let there : Among b bs = subst (λ z. Among z bs) (unmoved_variable written_bounds b (no_function b bound.Var var refl)) (of_map (moved_by written_bounds) written_bounds b i) in
      let other : Among c bs = subst (λ z. Among z bs) (unmoved_plain written_bounds c plainly) (of_map (moved_by written_bounds) written_bounds c j) in
      let same : bytes_eq c.name b.name ≡ true = elim (name_tells c.name b.name) [ inl k ↦ k.0 | inr k ↦ absurd (k.1 (m ∙ sym n)) ] in
      let named : bytes_eq b.name x ≡ true = elim (name_tells b.name x) [ inl k ↦ k.0 | inr k ↦ absurd (k.1 n) ] in
      let meets : meets_lexical b c ≡ true = rw (same, any_of (λ z. is_lexical_in z c) (b.passed ++ b.environment ∷ []) c.environment (among_left c.environment b.passed (b.environment ∷ []) a) lexical) refl in
      let clashing : clashes bs x b ≡ true = rw (var, named, any_of (meets_lexical b) bs c other meets) refl in
      never (sym (any_of (clashes bs x) bs b there clashing) ∙ no_clash)

  -- a declaration of the name, by what binds it
  record IsExplained (d : Declaration) : Type 0 where
    bind : Bound
    among : Among bind ws
    named : bind.name ≡ x
    known : KnownBound p h e numbered x plain_name bind
    same : known.declares.declaration ≡ d

  -- or by the expression that has it as its own name
  record IsOwned (d : Declaration) : Type 0 where
    bind : Bound
    named : bind.name ≡ x
    owned : OwnBound p h x bind
    same : owned.declaration ≡ d

  explained : (d : Declaration) → Among d ds → d.naming.name ≡ x → IsExplained d ⊎ IsOwned d
  explained d a n =
      let (b, i, m, j) = each_identifier p.source_type x (λ k. (b : Bound) × Among b ws × (b.name ≡ x) × (b.identifier ≡ k)) p h e (λ b i m. (settled b, settled_among p b i, settled_name b ∙ m, settled_identifier b)) d a n in
      go b i m j (any_bound p h e numbered x plain_name b i m)
    where
      go : (b : Bound) → Among b ws → b.name ≡ x → b.identifier ≡ identifier_of d → AnyBound p h e numbered x plain_name b → IsExplained d ⊎ IsOwned d
      go b i m j (inl k) = inl (record { bind = b; among = i; named = m; known = k; same = same_declaration k.declares.declaration d ds k.declares.among a (k.declares.identifier ∙ j) (declared_once p (identifier_of k.declares.declaration) h numbered) })
      go b i m j (inr o) = inr (record { bind = b; named = m; owned = o; same = same_declaration o.declaration d ds o.among a (o.identifier ∙ j) (declared_once p (identifier_of o.declaration) h numbered) })

  -- an environment that a `var` passes binds the other, too
  record Passes (v b : Bound) : Type 0 where
    var : is_bound_as bound.Var v ≡ true
    among : Among b.environment v.passed
    takes_none : takes_variables b.environment ≡ false
    scoped : has_scope b.environment ≡ true
    no_class : is_made_for environment.Class b.environment ≡ false

  -- so does the one whose scope it passes
  passes_it : (d : Declaration) (v : IsExplained d) → StaysThere p h e numbered x v.bind v.known.declares → v.known.declares.declaration.how ≡ hoisted → (n : ℕ) → contains (map (λ s. s.number) v.known.declares.declaration.route.passed) n ≡ true
      → (b : Bound) (k : IsDeclared p h e numbered x plain_name b) → IsMade p h e numbered x plain_name b → k.declaration.route.target.number ≡ n → Passes v.bind b
  passes_it d v stays how n i b k m t =
      let q : Place = v.known.declares.place in
      let there : Among (entering q) (steps p) = v.known.declares.entered in
      let variable : IsVariable q v.known.declares.declaration = hoisted_is q v.known.declares.declaration v.known.declares.told how in
      let kind_of : q.node.kind ≡ kind.VariableDeclarator = each_declared (λ z. z.how ≡ hoisted → q.node.kind ≡ kind.VariableDeclarator) (declared_on_entering q) v.known.declares.declaration (hoisted_kind q) v.known.declares.told how in
      let binds : (is_bound_as bound.Var v.bind ≡ true) × (v.bind.passed ≡ passed (environments q.node q.path)) = variable_bound p.source_type q v.known.declares.declaration variable v.bind kind_of stays.binds in
      let (s, at, number) = scope_of_number v.known.declares.declaration.route.passed n i in
      let before : Among s (passed_before is_var q.chain) = route_passes q.chain s (subst (λ r. Among s r.passed) variable.route at) in
      let known : IsKnown q = each_at KnownAt (steps p) (entering q) (known_program p h e) there in
      let round : map maker_of_scope q.chain ≡ makers (environments q.node q.path) = known.round in
      let passing : IsPassed (environments q.node q.path) s = passes_scope q.chain q.node q.path s round before in
      let takes : (takes_variables passing.passes ≡ false) × Among passing.passes (environments q.node q.path) = passed_takes_none (environments q.node q.path) passing.passes passing.among in
      let opened : AllOpened (openers (steps p)) q.chain = each_at (IsPlaceOpened (openers (steps p))) (steps p) (entering q) (places_opened p) there in
      let s_opened : IsOpened (openers (steps p)) s = among_round (IsOpened (openers (steps p))) q.chain s opened (before_among q.chain s before) in
      let opener : Some k.declaration.route.target.opener ≡ Some s.opener = sym k.opened ∙ ap (slice_get (openers (steps p))) (t ∙ sym number) ∙ s_opened in
      let maker : b.environment.maker ≡ passing.passes.maker = sym k.maker ∙ some_is k.declaration.route.target.opener s.opener opener ∙ sym passing.maker in
      let made : IsMadeBy (q.node ∷ q.path) passing.passes = made_in q.node q.path passing.passes takes.1 in
      let familiar : IsFamiliar (node_at p) q = familiar_at p h e numbered q there in
      let one_maker : m.maker ≡ made.maker = some_is m.maker made.maker (sym m.found ∙ ap (node_at p) (maker ∙ made.is) ∙ known_among (node_at p) (q.node ∷ q.path) made.maker (familiar.node, familiar.path) made.among) in
      let kinds : b.environment.kind ≡ passing.passes.kind = one_kind made.maker.kind b.environment.kind passing.passes.kind passing.passes.maker (subst (λ z. may_make z.kind b.environment.kind ≡ true) one_maker m.makes) made.makes passing.scoped takes.0 in
      let same : b.environment ≡ passing.passes = λ z. record { kind = kinds z; maker = maker z } in
      let loose : HoldsLoose q.node.kind q.path = each_at LooseAt (steps p) (entering q) (loose_program p h) there in
      record {
        var = binds.0;
        among = subst (λ z. Among z v.bind.passed) (sym same) (subst (Among passing.passes) (sym binds.1) passing.among);
        takes_none = ap takes_variables same ∙ takes.0;
        scoped = ap has_scope same ∙ passing.scoped;
        no_class = ap (is_made_for environment.Class) same ∙ passes_no_class q.node q.path loose (ap is_loose kind_of) passing.passes passing.among;
      }

  -- what is hoisted stays where it is written
  hoisted_stays : (d : Declaration) (v : IsExplained d) → v.known.declares.declaration.how ≡ hoisted → StaysThere p h e numbered x v.bind v.known.declares
  hoisted_stays d v how = elim v.known.origin [
    | inl stays ↦ stays
    | inr left ↦ absurd (go (left_how left))
  ]
    where
      left_how : (left : LeavesThere p h e numbered x plain_name v.bind v.known.declares) → (v.known.declares.declaration.how ≡ moved) ⊎ (v.known.declares.declaration.how ≡ plain)
      left_how left = elim left.left.how [
        | inl w ↦ inl (ap (λ z. z.how) left.declares ∙ w.0)
        | inr w ↦ inr (ap (λ z. z.how) left.declares ∙ w)
      ]

      moved_is_not : moved ≡ hoisted → ⊥
      moved_is_not z = absurd cc

      plain_is_not : plain ≡ hoisted → ⊥
      plain_is_not z = absurd cc

      go : (v.known.declares.declaration.how ≡ moved) ⊎ (v.known.declares.declaration.how ≡ plain) → ⊥
      go (inl w) = moved_is_not (sym w ∙ how)
      go (inr w) = plain_is_not (sym w ∙ how)

  -- what stays where it is written is written so
  staying_written : (b : Bound) (d : DeclarationOf p h e numbered x b) → StaysThere p h e numbered x b d → Among b written_bounds
  staying_written b d stays = among_written p.source_type b d.place (steps p) d.entered stays.binds

  -- a `var` passes no scope that binds the name
  passes_none : (d c : Declaration) (v : IsExplained d) (w : IsExplained c) → v.known.declares.declaration.how ≡ hoisted → (n : ℕ) → contains (map (λ s. s.number) v.known.declares.declaration.route.passed) n ≡ true → w.known.declares.declaration.route.target.number ≡ n → ⊥
  passes_none d c v w how n i t =
      let any : AnyBound p h e numbered x plain_name w.bind = inl w.known in
      let here : StaysThere p h e numbered x v.bind v.known.declares = hoisted_stays d v how in
      let passing : Passes v.bind w.bind = passes_it d v here how n i w.bind (is_declared p h e numbered x plain_name w.bind any) (is_made p h e numbered x plain_name w.bind any) (ap (λ z. z.route.target.number) (declared_known p h e numbered x plain_name w.bind w.known) ∙ t) in
      let r : Place = w.known.declares.place in
      let familiar : IsFamiliar (node_at p) r = familiar_at p h e numbered r w.known.declares.entered in
      elim w.known.origin [
        | inr left ↦ never (sym (taking_takes (environments r.node r.path) w.bind.environment left.taking) ∙ passing.takes_none)
        | inl stays ↦ elim (lexical_or_taken p.source_type r familiar.parents familiar.rooted w.bind w.known.no_own r.node.kind refl stays.binds) [
          | inl lexical ↦ clash v.bind w.bind (staying_written v.bind v.known.declares here) (staying_written w.bind w.known.declares stays) v.named w.named passing.var w.known.plainly lexical passing.among
          | inr other ↦ elim other [
            | inl taken ↦ never (sym taken ∙ passing.takes_none)
            | inr named ↦ plain_name.unpassed w.bind v.bind (staying_written w.bind w.known.declares stays) (staying_written v.bind v.known.declares here) w.named v.named named passing.var passing.among
          ]
        ]
      ]

  -- nor that of an expression with that name
  passes_no_own : (d : Declaration) (v : IsExplained d) → v.known.declares.declaration.how ≡ hoisted → (n : ℕ) → contains (map (λ s. s.number) v.known.declares.declaration.route.passed) n ≡ true → (b : Bound) (o : OwnBound p h x b) → o.declaration.route.target.number ≡ n → ⊥
  passes_no_own d v how n i b o t =
      let any : AnyBound p h e numbered x plain_name b = inr o in
      let passing : Passes v.bind b = passes_it d v (hoisted_stays d v how) how n i b (is_declared p h e numbered x plain_name b any) (is_made p h e numbered x plain_name b any) (ap (λ z. z.route.target.number) (declared_own p h e numbered x plain_name b o) ∙ t) in
      own_kind p h e numbered x plain_name b o (unnamed b.environment passing.scoped) passing.no_class
    where
      unnamed : (c : Environment) → has_scope c ≡ true → is_made_for environment.OwnName c ≡ false
      unnamed c k = elim (cases_Bool (is_made_for environment.OwnName c)) [
        | inr q ↦ q
        | inl q ↦ (let w : has_scope c ≡ false = ap (λ z. not ((z || is_made_for environment.Body c) || is_made_for environment.IfBody c)) q in absurd (never (sym k ∙ w)))
      ]

  nowhere : (n : ℕ) → None ≡ Some n → ⊥
  nowhere n z = absurd cc

  -- ---- a plain catch name has its clause to itself

  -- a catch name of the place binds in the clause's environment
  record IsCaught (q : Place) : Type 0 where
    bind : Bound
    among : Among bind written_bounds
    named : bind.name ≡ x
    caught : is_bound_as bound.CatchName bind ≡ true
    of_parameter : q.node.kind ≡ kind.CatchParameter
    here : bind.environment ≡ innermost (environments q.node q.path)

  clause_of : (q : Place) → Among (entering q) (steps p) → q.node.kind ≡ kind.CatchParameter → (y : Node) × (node_at p y.node_id ≡ Some y) × (y.kind ≡ kind.CatchClause) × ((innermost (environments q.node q.path)).maker ≡ y.node_id)
  clause_of q a k = go q.path refl
    where
      clausal : IsClausal (node_at p) q
      clausal = each_at (ClausalAt (node_at p)) (steps p) (entering q) (clausal_program p h e numbered) a

      go : (l : List Node) → q.path ≡ l → (y : Node) × (node_at p y.node_id ≡ Some y) × (y.kind ≡ kind.CatchClause) × ((innermost (environments q.node q.path)).maker ≡ y.node_id)
      go [] w = absurd (subst (UnderClause (node_at p)) w (clausal.parameter k))
      go (y ∷ l) w =
          let clause : y.kind ≡ kind.CatchClause = subst (UnderClause (node_at p)) w (clausal.parameter k) in
          let known : AllKnown (node_at p) (y ∷ l) = subst (AllKnown (node_at p)) w (familiar_at p h e numbered q a).path in
          (y, known.0, clause, ap (λ r. (innermost (environments q.node r)).maker) w ∙ ap (λ i. (innermost (made_by i y q.node ++ environments y l)).maker) clause)

  -- a function that leaves its block is bound in no clause
  leaves_no_clause : (c : Declaration) (w : IsExplained c) → LeavesThere p h e numbered x plain_name w.bind w.known.declares → (y : Node) → node_at p y.node_id ≡ Some y → y.kind ≡ kind.CatchClause → w.bind.environment.maker ≡ y.node_id → ⊥
  leaves_no_clause c w left y found clause maker =
      let r : Place = w.known.declares.place in
      let same : w.known.placed.maker ≡ y = some_is w.known.placed.maker y (sym w.known.placed.found ∙ ap (node_at p) maker ∙ found) in
      let kinds : w.bind.environment.kind ≡ environment.Catch = environment_kind_is w.bind.environment.kind environment.Catch (subst (λ i. may_make i w.bind.environment.kind ≡ true) (ap (λ z. z.kind) same ∙ clause) w.known.placed.makes) in
      never (sym (taking_takes (environments r.node r.path) w.bind.environment left.taking) ∙ ap (λ z. takes_variables (record { kind = z; maker = w.bind.environment.maker })) kinds)

  -- what is caught stays where it is written
  caught_stays : (d : Declaration) (v : IsExplained d) → v.known.declares.declaration.how ≡ caught → StaysThere p h e numbered x v.bind v.known.declares
  caught_stays d v how = elim v.known.origin [
    | inl stays ↦ stays
    | inr left ↦ absurd (elim left.left.how [
      | inl w ↦ moved_never (sym w.0 ∙ ap (λ z. z.how) (sym left.declares) ∙ how)
      | inr w ↦ plain_never (sym w ∙ ap (λ z. z.how) (sym left.declares) ∙ how)
    ])
  ]

  -- the scope where it is declared has no other declaration of the name, and is no clause's body
  caught_apart : (d c : Declaration) (v : IsExplained d) (w : IsExplained c) → StaysThere p h e numbered x v.bind v.known.declares → (identifier_of d ≡ identifier_of c → ⊥) → IsCaught v.known.declares.place → IsBoundIn w.known.declares.declaration v.known.declares.declaration.route.target.number → ⊥
  caught_apart d c v w here differs k (inl number) =
      let q : Place = v.known.declares.place in
      let (y, found, clause, of_clause) = clause_of q v.known.declares.entered k.of_parameter in
      let binds : Among v.bind (bound_by_node kind.CatchParameter p.source_type q.node q.path) = subst (λ i. Among v.bind (bound_by_node i p.source_type q.node q.path)) k.of_parameter here.binds in
      let environment_is : v.bind.environment ≡ k.bind.environment = catch_environment p.source_type q.node q.path v.bind binds ∙ sym k.here in
      let openers_are : Some w.known.declares.declaration.route.target.opener ≡ Some v.known.declares.declaration.route.target.opener = sym w.known.declares.opened ∙ ap (slice_get (openers (steps p))) number ∙ v.known.declares.opened in
      let maker : w.bind.environment.maker ≡ k.bind.environment.maker =
      sym w.known.declares.maker ∙ some_is w.known.declares.declaration.route.target.opener v.known.declares.declaration.route.target.opener openers_are ∙ v.known.declares.maker ∙ ap (λ z. z.maker) environment_is in
      let first : v.bind.identifier ≡ k.bind.identifier = caught_once p h e numbered x k.bind v.bind k.among (staying_written v.bind v.known.declares here) k.named v.named k.caught (ap (λ z. z.maker) environment_is) in
      let second : w.bind.identifier ≡ k.bind.identifier = elim w.known.origin [
        | inl stays ↦ caught_once p h e numbered x k.bind w.bind k.among (staying_written w.bind w.known.declares stays) k.named w.named k.caught maker
        | inr left ↦ absurd (leaves_no_clause c w left y found clause (maker ∙ ap (λ z. z.maker) k.here ∙ of_clause))
      ] in
      differs (ap identifier_of (sym v.same) ∙ v.known.declares.identifier ∙ first ∙ sym second ∙ sym w.known.declares.identifier ∙ ap identifier_of w.same)
  caught_apart d c v w here differs k (inr body) =
      let q : Place = v.known.declares.place in
      let (y, found, clause, maker) = clause_of q v.known.declares.entered k.of_parameter in
      let binds : Among v.bind (bound_by_node kind.CatchParameter p.source_type q.node q.path) = subst (λ i. Among v.bind (bound_by_node i p.source_type q.node q.path)) k.of_parameter here.binds in
      let n : ℕ = v.known.declares.declaration.route.target.number in
      let t : IsTakenBy p w.bind n = taken_by p h e numbered x plain_name w.bind (inl w.known) n (ap (λ z. z.route.target.body) (declared_known p h e numbered x plain_name w.bind w.known) ∙ body) in
      let opener : v.known.declares.declaration.route.target.opener ≡ y.node_id = v.known.declares.maker ∙ ap (λ z. z.maker) (catch_environment p.source_type q.node q.path v.bind binds) ∙ maker in
      let node : t.place.node.node_id ≡ y.node_id = some_is t.place.node.node_id y.node_id (sym t.opened ∙ v.known.declares.opened ∙ ap Some opener) in
      let same : t.place.node ≡ y = some_is t.place.node y (sym (familiar_at p h e numbered t.place t.entered).node ∙ ap (node_at p) node ∙ found) in
      different (sym (body_kind t.place t.is_body) ∙ ap (λ z. z.kind) same ∙ clause)
    where
      different : kind.BlockStatement ≡ kind.CatchClause → ⊥
      different i = absurd cc

  caught_clear : (d c : Declaration) (v : IsExplained d) (w : IsExplained c) → (identifier_of d ≡ identifier_of c → ⊥) → v.known.declares.declaration.how ≡ caught → IsBoundIn w.known.declares.declaration v.known.declares.declaration.route.target.number → ⊥
  caught_clear d c v w differs how b =
      none_caught p.source_type q x (λ i a n. either i a n (is_bound_as bound.CatchName i) refl) q.node.kind refl familiar.ecmascript v.known.declares.declaration v.known.declares.told v.known.declares.named how
    where
      q : Place
      q = v.known.declares.place

      familiar : IsFamiliar (node_at p) q
      familiar = familiar_at p h e numbered q v.known.declares.entered

      either : (i : Bound) → Among i (bound_by_node q.node.kind p.source_type q.node q.path) → i.name ≡ x → (t : Bool) → is_bound_as bound.CatchName i ≡ t → is_bound_as bound.CatchName i ≡ false
      either i a n false k = k
      either i a n true k =
          let parameter : q.node.kind ≡ kind.CatchParameter = catch_kind p.source_type q.node q.path i k q.node.kind a in
          absurd (caught_apart d c v w (caught_stays d v how) differs (record {
            bind = i;
            among = among_written p.source_type i q (steps p) v.known.declares.entered a;
            named = n;
            caught = k;
            of_parameter = parameter;
            here = catch_environment p.source_type q.node q.path i (subst (λ j. Among i (bound_by_node j p.source_type q.node q.path)) parameter a);
          }) b)

  -- ---- all declarations

  -- a `var` that passes what takes a declaration over passes its scope
  passes_body : (d c : Declaration) (v : IsExplained d) (w : IsExplained c) → v.known.declares.declaration.how ≡ hoisted → (n : ℕ) → contains (map (λ s. s.number) v.known.declares.declaration.route.passed) n ≡ true → w.known.declares.declaration.route.target.body ≡ Some n → ⊥
  passes_body d c v w how n i t =
      let q : Place = v.known.declares.place in
      let variable : IsVariable q v.known.declares.declaration = hoisted_is q v.known.declares.declaration v.known.declares.told how in
      let passes : contains (map (λ s. s.number) (outward_to is_var q.chain).passed) n ≡ true = subst (λ r. contains (map (λ s. s.number) r.passed) n ≡ true) variable.route i in
      let further : contains (map (λ s. s.number) (outward_to is_var q.chain).passed) w.known.declares.declaration.route.target.number ≡ true = clause_passed p h e numbered x plain_name w.bind w.known n t q v.known.declares.entered passes in
      passes_none d c v w how w.known.declares.declaration.route.target.number (subst (λ r. contains (map (λ s. s.number) r.passed) w.known.declares.declaration.route.target.number ≡ true) (sym variable.route) further) refl

  -- a function that leaves its block goes along no scope of another's
  record GoesAlong (c : Declaration) : Type 0 where
    bind : Bound
    among : Among bind written_bounds
    named : bind.name ≡ x
    identifier : identifier_of c ≡ bind.identifier
    on_way : IsRouteOnWay p h e numbered x bind c

  goes_along : (c : Declaration) (w : IsExplained c) → GoesAlong w.known.declares.declaration
  goes_along c w = elim w.known.origin [
    | inl stays ↦ (let a : Among w.bind written_bounds = staying_written w.bind w.known.declares stays in
        record { bind = w.bind; among = a; named = w.named; identifier = w.known.declares.identifier; on_way = plain_on_way p h e numbered x w.bind a w.named w.known.placed w.known.declares stays })
    | inr left ↦ record {
      bind = left.source;
      among = left.among;
      named = left.named;
      identifier = w.known.declares.identifier ∙ ap (λ z. z.identifier) (sym left.is) ∙ settled_identifier left.source;
      on_way = subst (IsRouteOnWay p h e numbered x left.source) (sym left.declares) (left_on_way p h e numbered x w.known.declares.place w.known.declares.entered left.source left.left);
    }
  ]

  goes_own : (c : Declaration) (w : IsOwned c) → GoesAlong w.owned.declaration
  goes_own c w = record {
    bind = w.bind;
    among = among_written p.source_type w.bind w.owned.place (steps p) w.owned.entered w.owned.binds;
    named = w.named;
    identifier = w.owned.identifier;
    on_way = own_on_way p h e numbered x w.bind w.owned;
  }

  -- a scope of a route, or what takes its target over
  on_path : (d : Declaration) (n : ℕ) → contains (path d) n ≡ true → (contains (map (λ s. s.number) d.route.passed) n ≡ true) ⊎ ((d.route.target.number ≡ n) ⊎ (d.route.target.body ≡ Some n))
  on_path d n i = elim (either_contains (map (λ s. s.number) d.route.passed) (d.route.target.number ∷ body_list d.route.target.body) i) [
    | inl w ↦ inl w
    | inr w ↦ inr (at_target d.route.target.number d.route.target.body w)
  ]
    where
      either_contains : (xs ys : List ℕ) → contains (xs ++ ys) n ≡ true → (contains xs n ≡ true) ⊎ (contains ys n ≡ true)
      either_contains [] ys w = inr w
      either_contains (y ∷ xs) ys w = elim (eqb_tells y n) [
        | inl k ↦ inl (rw k.0 refl)
        | inr k ↦ elim (either_contains xs ys (rw k.0 at w)) [ inl v ↦ inl (rw k.0 v) | inr v ↦ inr v ]
      ]

      at_target : (m : ℕ) (o : Option ℕ) → contains (m ∷ body_list o) n ≡ true → (m ≡ n) ⊎ (o ≡ Some n)
      at_target m None w = elim (eqb_tells m n) [ inl k ↦ inl k.1 | inr k ↦ (let v : false ≡ true = rw k.0 at w in absurd (never (sym v))) ]
      at_target m (Some b) w = elim (eqb_tells m n) [
        | inl k ↦ inl k.1
        | inr k ↦ elim (eqb_tells b n) [ inl j ↦ inr (ap Some j.1) | inr j ↦ (let v : false ≡ true = rw (k.0, j.0) at w in absurd (never (sym v))) ]
      ]

  along : (c : Declaration) (b : Bound) → IsRouteOnWay p h e numbered x b c → (n : ℕ) → contains (map (λ s. s.number) c.route.passed) n ≡ true → IsOnWay p h e numbered x b n
  along c b r n i = let (s, at, number) = scope_of_number c.route.passed n i in subst (IsOnWay p h e numbered x b) number (r.passed s at)

  module _ (d : Declaration) (v : IsExplained d) (left : LeavesThere p h e numbered x plain_name v.bind v.known.declares) where
    abbrev moving : Declaration
    moving = v.known.declares.declaration

    abbrev from_there : Place
    from_there = v.known.declares.place

    mine : IsRouteOnWay p h e numbered x left.source moving
    mine = subst (IsRouteOnWay p h e numbered x left.source) (sym left.declares) (left_on_way p h e numbered x from_there v.known.declares.entered left.source left.left)

    not_caught : is_made_for environment.Catch v.bind.environment ≡ false
    not_caught = elim (cases_Bool (is_made_for environment.Catch v.bind.environment)) [
      | inr w ↦ w
      | inl w ↦ absurd (never (sym (taking_takes (environments from_there.node from_there.path) v.bind.environment left.taking) ∙ ap (λ z. takes_variables (record { kind = z; maker = v.bind.environment.maker })) (environment_kind_is v.bind.environment.kind environment.Catch w)))
    ]

    -- what shares a scope with it is bound by the same
    meets_itself : (c : Declaration) (w : GoesAlong c) (n : ℕ) → IsOnWay p h e numbered x left.source n → IsOnWay p h e numbered x w.bind n → identifier_of moving ≡ identifier_of c
    meets_itself c w n i j =
        let one : w.bind ≡ left.source = left.alone w.bind w.among (w.named ∙ sym left.named) i.passes j.passes i.among j.among (some_is i.passes.maker j.passes.maker (sym i.opened ∙ j.opened), i.no_body ∙ sym j.no_body) in
        ap identifier_of left.declares ∙ left.left.identifier ∙ ap (λ z. z.identifier) (sym one) ∙ sym w.identifier

    on_route : (n : ℕ) → contains (path moving) n ≡ true → (contains (map (λ s. s.number) moving.route.passed) n ≡ true) ⊎ (moving.route.target.number ≡ n)
    on_route n i = elim (on_path moving n i) [
      | inl w ↦ inl w
      | inr w ↦ elim w [
        | inl j ↦ inr j
        | inr j ↦ absurd (nowhere n (sym (bodiless p h e numbered x plain_name v.bind v.known not_caught) ∙ j))
      ]
    ]

    my_way : (n : ℕ) → (contains (map (λ s. s.number) moving.route.passed) n ≡ true) ⊎ (moving.route.target.number ≡ n) → IsOnWay p h e numbered x left.source n
    my_way n (inl i) = along moving left.source mine n i
    my_way n (inr i) = subst (IsOnWay p h e numbered x left.source) i mine.target

    -- the scopes that it passes are those that a `var` passes there
    passes_as_variable : (n : ℕ) → contains (map (λ s. s.number) moving.route.passed) n ≡ true → contains (map (λ s. s.number) (outward_to is_var from_there.chain).passed) n ≡ true
    passes_as_variable n i =
        let passes : moving.route.passed ≡ passed_before is_var from_there.chain = ap (λ z. z.route.passed) left.declares ∙ left.left.passes in
        let route : (outward_to is_var from_there.chain).passed ≡ passed_before is_var from_there.chain = ap (λ o. (route_from from_there.chain (passed_before is_var from_there.chain) o).passed) left.left.target in
        subst (λ ss. contains (map (λ s. s.number) ss) n ≡ true) (passes ∙ sym route) i

    passes_as_function : (n : ℕ) → contains (map (λ s. s.number) (outward_to is_var from_there.chain).passed) n ≡ true → contains (map (λ s. s.number) moving.route.passed) n ≡ true
    passes_as_function n i =
        let passes : moving.route.passed ≡ passed_before is_var from_there.chain = ap (λ z. z.route.passed) left.declares ∙ left.left.passes in
        let route : (outward_to is_var from_there.chain).passed ≡ passed_before is_var from_there.chain = ap (λ o. (route_from from_there.chain (passed_before is_var from_there.chain) o).passed) left.left.target in
        subst (λ ss. contains (map (λ s. s.number) ss) n ≡ true) (route ∙ sym passes) i

    -- its target is no block of a clause
    no_taker : (b : Bound) → IsTakenBy p b moving.route.target.number → ⊥
    no_taker b t =
        let opener : v.bind.environment.maker ≡ t.place.node.node_id = sym v.known.declares.maker ∙ some_is moving.route.target.opener t.place.node.node_id (sym v.known.declares.opened ∙ t.opened) in
        let same : v.known.placed.maker ≡ t.place.node = some_is v.known.placed.maker t.place.node (sym v.known.placed.found ∙ ap (node_at p) opener ∙ (familiar_at p h e numbered t.place t.entered).node) in
        let kinds : v.bind.environment.kind ≡ environment.Block = environment_kind_is v.bind.environment.kind environment.Block (subst (λ i. may_make i v.bind.environment.kind ≡ true) (ap (λ z. z.kind) same ∙ body_kind t.place t.is_body) v.known.placed.makes) in
        never (sym (taking_takes (environments from_there.node from_there.path) v.bind.environment left.taking) ∙ ap (λ z. takes_variables (record { kind = z; maker = v.bind.environment.maker })) kinds)

    meets_none : (c : Declaration) (w : IsExplained c) → Meets moving w.known.declares.declaration → identifier_of moving ≡ identifier_of w.known.declares.declaration
    meets_none c w m =
        let g : GoesAlong w.known.declares.declaration = goes_along c w in
        let here : (contains (map (λ s. s.number) moving.route.passed) m.shared ≡ true) ⊎ (moving.route.target.number ≡ m.shared) = on_route m.shared m.on_left in
        elim (on_path w.known.declares.declaration m.shared m.on_right) [
          | inl j ↦ meets_itself w.known.declares.declaration g m.shared (my_way m.shared here) (along w.known.declares.declaration g.bind g.on_way m.shared j)
          | inr other ↦ elim other [
            | inl j ↦ meets_itself w.known.declares.declaration g m.shared (my_way m.shared here) (subst (IsOnWay p h e numbered x g.bind) j g.on_way.target)
            | inr body ↦ elim here [
              | inl i ↦ (let further : contains (map (λ s. s.number) (outward_to is_var from_there.chain).passed) w.known.declares.declaration.route.target.number ≡ true =
                  clause_passed p h e numbered x plain_name w.bind w.known m.shared body from_there v.known.declares.entered (passes_as_variable m.shared i) in
                  meets_itself w.known.declares.declaration g w.known.declares.declaration.route.target.number (along moving left.source mine w.known.declares.declaration.route.target.number (passes_as_function w.known.declares.declaration.route.target.number further)) g.on_way.target)
              | inr i ↦ (let t : IsTakenBy p w.bind m.shared = taken_by p h e numbered x plain_name w.bind (inl w.known) m.shared (ap (λ z. z.route.target.body) (declared_known p h e numbered x plain_name w.bind w.known) ∙ body) in
                  absurd (no_taker w.bind (subst (IsTakenBy p w.bind) (sym i) t)))
            ]
          ]
        ]

    meets_no_own : (c : Declaration) (w : IsOwned c) → Meets moving w.owned.declaration → identifier_of moving ≡ identifier_of w.owned.declaration
    meets_no_own c w m =
        let g : GoesAlong w.owned.declaration = goes_own c w in
        let here : (contains (map (λ s. s.number) moving.route.passed) m.shared ≡ true) ⊎ (moving.route.target.number ≡ m.shared) = on_route m.shared m.on_left in
        elim (on_path w.owned.declaration m.shared m.on_right) [
          | inl j ↦ meets_itself w.owned.declaration g m.shared (my_way m.shared here) (along w.owned.declaration g.bind g.on_way m.shared j)
          | inr other ↦ elim other [
            | inl j ↦ meets_itself w.owned.declaration g m.shared (my_way m.shared here) (subst (IsOnWay p h e numbered x g.bind) j g.on_way.target)
            | inr body ↦ absurd (nowhere m.shared (sym (ap (λ s. s.body) w.owned.target ∙ w.owned.bodiless) ∙ body))
          ]
        ]

  moves_apart : (d c : Declaration) (v : IsExplained d) (w : IsExplained c) → (identifier_of d ≡ identifier_of c → ⊥) → v.known.declares.declaration.how ≡ moved → Meets v.known.declares.declaration w.known.declares.declaration → ⊥
  moves_apart d c v w differs how m = elim v.known.origin [
    | inl stays ↦ stays.unmoved how
    | inr left ↦ differs (ap identifier_of (sym v.same) ∙ meets_none d v left c w m ∙ ap identifier_of w.same)
  ]

  moves_from_own : (d c : Declaration) (v : IsExplained d) (w : IsOwned c) → (identifier_of d ≡ identifier_of c → ⊥) → v.known.declares.declaration.how ≡ moved → Meets v.known.declares.declaration w.owned.declaration → ⊥
  moves_from_own d c v w differs how m = elim v.known.origin [
    | inl stays ↦ stays.unmoved how
    | inr left ↦ differs (ap identifier_of (sym v.same) ∙ meets_no_own d v left c w m ∙ ap identifier_of w.same)
  ]

  keeps_clear : (d c : Declaration) → IsExplained d → IsExplained c → (identifier_of d ≡ identifier_of c → ⊥) → KeepsClear d c
  keeps_clear d c v w differs = subst (λ z. KeepsClear z c) v.same (subst (KeepsClear v.known.declares.declaration) w.same (record {
    as_variable = λ how n i b. elim b [
      | inl t ↦ passes_none d c v w how n i t
      | inr t ↦ passes_body d c v w how n i t
    ];
    as_function = λ how m. moves_apart d c v w differs how m;
    as_catch_name = caught_clear d c v w differs;
  }))

  -- an own name goes nowhere
  own_keeps : (d c : Declaration) → IsOwned d → KeepsClear d c
  own_keeps d c v =
      let how : d.how ≡ plain = sym (ap (λ z. z.how) v.same) ∙ v.owned.how in
      record { as_variable = λ w n i b. absurd (hoisted_is_not (sym how ∙ w)); as_function = λ w m. absurd (moved_is_not (sym how ∙ w)); as_catch_name = λ w b. absurd (plain_never (sym how ∙ w)) }
    where
      hoisted_is_not : plain ≡ hoisted → ⊥
      hoisted_is_not z = absurd cc

      moved_is_not : plain ≡ moved → ⊥
      moved_is_not z = absurd cc

  -- nor is it declared in the scope of a clause
  apart_from_own : (d c : Declaration) (v : IsExplained d) (w : IsOwned c) → v.known.declares.declaration.how ≡ caught → w.owned.declaration.route.target.number ≡ v.known.declares.declaration.route.target.number → ⊥
  apart_from_own d c v w how number =
      none_caught p.source_type q x (λ i a n. either i a (is_bound_as bound.CatchName i) refl) q.node.kind refl (familiar_at p h e numbered q v.known.declares.entered).ecmascript v.known.declares.declaration v.known.declares.told v.known.declares.named how
    where
      q : Place
      q = v.known.declares.place

      function : kind.Function ≡ kind.CatchClause → ⊥
      function z = absurd cc

      class : kind.Class ≡ kind.CatchClause → ⊥
      class z = absurd cc

      by_sort : IsOfExpression w.owned.place.node w.bind.environment → w.owned.place.node.kind ≡ kind.CatchClause → ⊥
      by_sort (inl z) k = function (sym z.0 ∙ k)
      by_sort (inr z) k = class (sym z.0 ∙ k)

      in_clause : q.node.kind ≡ kind.CatchParameter → ⊥
      in_clause parameter =
          let (y, found, clause, maker) = clause_of q v.known.declares.entered parameter in
          let binds : Among v.bind (bound_by_node kind.CatchParameter p.source_type q.node q.path) = subst (λ k. Among v.bind (bound_by_node k p.source_type q.node q.path)) parameter (caught_stays d v how).binds in
          let opener : v.known.declares.declaration.route.target.opener ≡ y.node_id = v.known.declares.maker ∙ ap (λ z. z.maker) (catch_environment p.source_type q.node q.path v.bind binds) ∙ maker in
          let own_number : w.owned.scope.number ≡ v.known.declares.declaration.route.target.number = ap (λ z. z.number) (sym w.owned.target) ∙ number in
          let node : w.owned.place.node.node_id ≡ y.node_id = sym w.owned.opener ∙ some_is w.owned.scope.opener v.known.declares.declaration.route.target.opener (sym w.owned.opened ∙ ap (slice_get (openers (steps p))) own_number ∙ v.known.declares.opened) ∙ opener in
          let same : w.owned.place.node ≡ y = some_is w.owned.place.node y (sym (familiar_at p h e numbered w.owned.place w.owned.entered).node ∙ ap (node_at p) node ∙ found) in
          by_sort w.owned.named_by.sort (ap (λ z. z.kind) same ∙ clause)

      either : (i : Bound) → Among i (bound_by_node q.node.kind p.source_type q.node q.path) → (t : Bool) → is_bound_as bound.CatchName i ≡ t → is_bound_as bound.CatchName i ≡ false
      either i a false k = k
      either i a true k = absurd (in_clause (catch_kind p.source_type q.node q.path i k q.node.kind a))

  -- and nothing passes it: a `var` passes neither a function nor a class
  keeps_from_own : (d c : Declaration) → IsExplained d → IsOwned c → (identifier_of d ≡ identifier_of c → ⊥) → KeepsClear d c
  keeps_from_own d c v w differs = subst (λ z. KeepsClear z c) v.same (subst (KeepsClear v.known.declares.declaration) w.same (record {
    as_variable = λ how n i b. elim b [
      | inl t ↦ passes_no_own d v how n i w.bind w.owned t
      | inr t ↦ nowhere n (sym (ap (λ s. s.body) w.owned.target ∙ w.owned.bodiless) ∙ t)
    ];
    as_function = λ how m. moves_from_own d c v w differs how m;
    as_catch_name = λ how b. elim b [
      | inl t ↦ apart_from_own d c v w how t
      | inr t ↦ nowhere v.known.declares.declaration.route.target.number (sym (ap (λ s. s.body) w.owned.target ∙ w.owned.bodiless) ∙ t)
    ];
  }))

  keep_any : (d c : Declaration) → IsExplained d ⊎ IsOwned d → IsExplained c ⊎ IsOwned c → (identifier_of d ≡ identifier_of c → ⊥) → KeepsClear d c
  keep_any d c (inl v) (inl w) differs = keeps_clear d c v w differs
  keep_any d c (inl v) (inr w) differs = keeps_from_own d c v w differs
  keep_any d c (inr v) w differs = own_keeps d c v

  clear_list : (cs : List Declaration) → ((d : Declaration) → Among d cs → Among d ds) → ((i : ℕ) → times i (map identifier_of cs) ≤ 1) → AllKeepClear x cs
  clear_list [] k t = tt
  clear_list (d ∷ cs) k t = (
    λ n c a m. (let v : IsExplained d ⊎ IsOwned d = explained d (k d (inl refl)) n in
        let w : IsExplained c ⊎ IsOwned c = explained c (k c (inr a)) m in
        let differs : identifier_of d ≡ identifier_of c → ⊥ = differ d c cs a (t (identifier_of d)) in
        (keep_any d c v w differs, keep_any c d w v (λ i. differs (sym i)))),
    clear_list cs (λ c a. k c (inr a)) (λ i. fewer i d cs (t i)),
  )

  pub unclashed_clear : AllKeepClear x ds
  unclashed_clear = clear_list ds (λ d a. a) (λ i. declared_once p i h numbered)
