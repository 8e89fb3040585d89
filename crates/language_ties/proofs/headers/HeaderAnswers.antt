-- As the header of a function ends, its scope binds a plain name to the symbol of what the environment of its parameters binds.
use Rattle.std.proofs.Common.{◌≡◌, ℕ, ◌==◌, List, [], ◌∷◌, Option, Some, None, Bool, true, false, ◌||◌, cond, filter, inl, inr, refl, sym, ap, subst, ◌∙◌, bytes_eq}
use Rattle.std.specs.Prelude.{slice_get, fold}
use Rattle.std.proofs.lemmas.Bool.{cases_Bool}
use Rattle.std.proofs.lemmas.Bool.Decides.{eqb_tells}
use Rattle.semantic_syntax.proofs.Truth.{and_second}
use Rattle.semantic_kinds.specs.Kinds.{same_kind}
use Rattle.semantic_kinds.specs.declared.kind.AstType.TheVariants as kind
use Rattle.semantic_syntax.specs.Lookup.{Seen}
use Rattle.semantic_syntax.specs.Sets.{union}
use Rattle.semantic_syntax.specs.Tables.{Name}
use Rattle.semantic_syntax.specs.declared.source_type.SourceType.{SourceType}
use Rattle.semantic_tree.specs.Faults.{first_fault}
use Rattle.semantic_tree.specs.Tree.{Tree, IsNumbered}
use Rattle.semantic_tree.specs.Views.{is}
use Rattle.semantic_tree.specs.declared.node.Node.{Node}
use Rattle.semantic_model.specs.Analysis.{analysis_of, symbol_at}
use Rattle.semantic_model.specs.Binder.{is_var}
use Rattle.semantic_model.specs.Binding.{get}
use Rattle.semantic_model.specs.Declaration.{Declaration, first_with, passed_before, route_from}
use Rattle.semantic_model.specs.Entries.{Among}
use Rattle.semantic_model.specs.Event.{Event, declares, takes_over, ends_header, declarations, events}
use Rattle.semantic_model.specs.Fold.{State, Made, start}
use Rattle.semantic_model.specs.Hoist.{run}
use Rattle.semantic_model.specs.Place as place
use Rattle.semantic_model.specs.Place.{Place, OpenScope}
use Rattle.semantic_model.specs.Step.{Step, entering, steps}
use Rattle.semantic_model.specs.Tie.{seen_as, until_end_of}
use Rattle.semantic_model.proofs.bindings.NearestVar.{nearest}
use Rattle.semantic_model.proofs.fits.NothingInvented.{made_declared}
use Rattle.semantic_model.proofs.fold.Changes.{sound_start}
use Rattle.semantic_model.proofs.fold.Orders.{table_of, root_body, orderly_events}
use Rattle.semantic_model.proofs.form.Clauses.{kind_is}
use Rattle.semantic_model.proofs.form.Shape.{has_form}
use Rattle.semantic_model.proofs.lists.Growth.{start_is_sound}
use Rattle.semantic_model.proofs.once.ListedUnder.{name_tells}
use Rattle.walk_model.proofs.headers.Headed.{awaiting_past, match_among}
use Rattle.binding_laws.specs.SeenDeclarations.{is_own_name, stands_before_body, is_before_body, seen_alone, with_declaration, bound_by_all}
use Rattle.binding_laws.proofs.CutEvents.{IsBefore, Cut, no_end, ended, not_yet}
use Rattle.binding_laws.proofs.CutSteps.{WillAwait, cut_program}
use Rattle.binding_laws.proofs.DeclaredMade.{is_made}
use Rattle.binding_laws.proofs.HeaderFold.{IsCutAt, cut_at, header_start}
use Rattle.binding_laws.proofs.ListLaws.{among_filter, each_at, filter_among}
use Rattle.binding_laws.proofs.Matched.{IsMatchedStep, AreMatched, program_matched}
use Rattle.binding_laws.proofs.ScopeOpeners.{openers, IsOpened, one_scope}
use Rattle.binding_laws.proofs.SmallLaws.{never, some_is}
use Rattle.binding_laws.proofs.SymbolsAtNodes.{symbols_are_at_nodes}
use Rattle.language_ties.specs.AgreeingNames.{IsPlainName}
use Rattle.language_ties.specs.Bound.{Bound, bound_by_node, is_bound_as}
use Rattle.language_ties.specs.EcmaScript.{is_ecmascript}
use Rattle.language_ties.specs.Environments.{Environment, same_environment_kind, is_made_for, has_parameter_expressions, environments, innermost, takes_variables, first_taking, environment_or}
use Rattle.language_ties.specs.OneSymbol.{HaveOneSymbol}
use Rattle.language_ties.specs.SharedSymbols.{AllKeepClear}
use Rattle.language_ties.specs.declared.bound_as.BoundAs.TheVariants as bound
use Rattle.language_ties.specs.declared.environment_kind.EnvironmentKind.TheVariants as environment
use Rattle.language_ties.proofs.UndeclaredNames.{each_identifier}
use Rattle.language_ties.proofs.agree.Answers.{symbol_of, has_symbol, answers}
use Rattle.language_ties.proofs.agree.KnownBounds.{LeavesThere, KnownBound, bodiless}
use Rattle.language_ties.proofs.agree.KnownNodes.{node_at}
use Rattle.language_ties.proofs.agree.MadeEnvironments.{environment_kind_is}
use Rattle.language_ties.proofs.caught.CaughtBounds.{IsTakenBy, taken_by}
use Rattle.language_ties.proofs.caught.ClausePlaces.{IsClausal, ClausalAt, clausal_program, body_kind}
use Rattle.language_ties.proofs.clear.PassedScopes.{taking_takes}
use Rattle.language_ties.proofs.clear.SingleNames.{identifier_of, same_declaration, declared_once}
use Rattle.language_ties.proofs.headers.Paired.{by_kind}
use Rattle.language_ties.proofs.headers.Sides.{is_parameters, Side, TakingSide, Sides, SidesAt, sides_program}
use Rattle.language_ties.proofs.moved.Settled.{settled, settled_bounds, settled_name, settled_identifier, settled_among}
use Rattle.language_ties.proofs.own_names.AnyBounds.{AnyBound, any_bound, IsDeclared, is_declared, declared_known}
use Rattle.language_ties.proofs.own_names.OwnBounds.{IsOfExpression, OwnBound, own_maker}
use Rattle.language_ties.proofs.own_names.OwnSymbols.{one_name}
use Rattle.language_ties.proofs.shared.HomesShared.{share_symbols, until_among, until_stays, at_header}
use Rattle.language_ties.proofs.shared.Runs.{SharedAtLast}
use Rattle.language_ties.proofs.shared.Shared.{IsNowIn, IsBoundNow, BoundBy}
use Rattle.language_ties.proofs.symbols.OneSymbol.{StaysThere, share_symbol}

-- ---- what is declared before the header ends

-- it stands in the header, or is an own name
before_cut : (c : ℕ) {es : List Event} → Cut c es → (d : Declaration) → Among d (declarations (until_end_of c es)) → d.route.target.number ≡ c → stands_before_body c d ≡ true
before_cut c no_end d a q = absurd a
before_cut c (ended k es i b) d a q = absurd (subst (λ t. Among d (declarations (cond t [] (ends_header k ∷ until_end_of c es)))) i a)
before_cut c (not_yet e es i b cut) d a q = go e b (subst (λ t. Among d (declarations (cond t [] (e ∷ until_end_of c es)))) i a) (λ z. before_cut c cut d z q)
  where
    number : (d.route.target.number == c) ≡ false → ⊥
    number w = elim (eqb_tells d.route.target.number c) [ inl u ↦ never (sym u.0 ∙ w) | inr u ↦ u.1 q ]

    go : (f : Event) → IsBefore c f → Among d (declarations (f ∷ until_end_of c es)) → (Among d (declarations (until_end_of c es)) → stands_before_body c d ≡ true) → stands_before_body c d ≡ true
    go (declares f) (inl w) (inl u) later = subst (λ z. stands_before_body c z ≡ true) u w.counts
    go (declares f) (inr w) (inl u) later = absurd (number (subst (λ z. (z.route.target.number == c) ≡ false) u (w (λ n. false)).0))
    go (declares f) w (inr u) later = later u
    go (takes_over k l) w u later = later u
    go (ends_header k) w u later = later u

-- ---- headers that are still to end

-- a header that holds a place is awaited where that stands
place_awaits : (q : Place) (s : OpenScope) (aw : List ℕ) (ss : List Step) → AreMatched aw ss → Among (entering q) ss → Among s q.chain → is kind.BindingIdentifier q.node ≡ false → s.in_header ≡ true → WillAwait s.number aw ss
place_awaits q s aw [] m a b n i = absurd a
place_awaits q s aw (step ∷ ss) m (inl e) b n i = inl (sym (match_among aw q.chain s (subst (IsMatchedStep aw) e m.0 n) b) ∙ i)
place_awaits q s aw (step ∷ ss) m (inr a) b n i = inr (place_awaits q s (awaiting_past aw step) ss m.1 a b n i)

-- ---- a declaration and what binds its name

target_side : (g : ℕ → Option Node) (chain passed : List OpenScope) (ds : List Environment) (o : Option OpenScope) (d : Option Environment) → TakingSide g o d → Side g (place.innermost chain) (innermost ds) → Side g (route_from chain passed o).target (environment_or (innermost ds) d)
target_side g chain passed ds (Some s) (Some d) t h = t
target_side g chain passed ds None None t h = h
target_side g chain passed ds (Some s) None t h = absurd t
target_side g chain passed ds None (Some d) t h = absurd t

no_identifier : (s : SourceType) (q : Place) (b : Bound) → Among b (bound_by_node q.node.kind s q.node q.path) → is kind.BindingIdentifier q.node ≡ false
no_identifier s q b a = go (same_kind q.node.kind kind.BindingIdentifier) refl
  where
    go : (t : Bool) → same_kind q.node.kind kind.BindingIdentifier ≡ t → same_kind q.node.kind kind.BindingIdentifier ≡ false
    go false e = e
    go true e = absurd (subst (λ k. Among b (bound_by_node k s q.node q.path)) (kind_is q.node.kind kind.BindingIdentifier e) a)

module _ (p : Tree) (h : first_fault p ≡ None) (e : is_ecmascript p ≡ true) (numbered : IsNumbered p.root) (x : Name) (clear : AllKeepClear x (declarations (events (steps p)))) (plain : IsPlainName p x) where
  abbrev es : List Event
  es = events (steps p)

  abbrev final : State
  final = run start es

  abbrev ws : List Bound
  ws = settled_bounds p

  abbrev Known : Bound → Type 0
  Known b = KnownBound p h e numbered x plain b

  abbrev Any : Bound → Type 0
  Any b = AnyBound p h e numbered x plain b

  -- what is bound where it is written
  staying_sides : (b : Bound) → b.name ≡ x → (k : Known b) → StaysThere p h e numbered x b k.declares → Sides (node_at p) k.declares.place.chain (environments k.declares.place.node k.declares.place.path)
  staying_sides b n k stays =
      let q : Place = k.declares.place in
      each_at (SidesAt (node_at p)) (steps p) (entering q) (sides_program p h e numbered) k.declares.entered (no_identifier p.source_type q b stays.binds)

  staying_side : (b : Bound) → b.name ≡ x → (k : Known b) → StaysThere p h e numbered x b k.declares → Side (node_at p) k.declares.declaration.route.target b.environment
  staying_side b n k stays =
      let q : Place = k.declares.place in
      let both : Sides (node_at p) q.chain (environments q.node q.path) = staying_sides b n k stays in
      elim (by_kind p.source_type q k.declares.declaration b q.node.kind stays.unmoved k.declares.told stays.binds) [
        | inl w ↦ subst (λ d. Side (node_at p) k.declares.declaration.route.target d) (sym w.1) (subst (λ r. Side (node_at p) r.target (innermost (environments q.node q.path))) (sym w.0) both.inner)
        | inr w ↦ subst (λ d. Side (node_at p) k.declares.declaration.route.target d) (sym w.1)
            (subst (λ r. Side (node_at p) r.target (environment_or (innermost (environments q.node q.path)) (first_taking (environments q.node q.path)))) (sym w.0)
            (target_side (node_at p) q.chain (passed_before is_var q.chain) (environments q.node q.path) (first_with is_var q.chain) (first_taking (environments q.node q.path)) both.taking both.inner))
      ]

  -- a function that leaves its block ends where variables go
  leaving_side : (b : Bound) (k : Known b) → LeavesThere p h e numbered x plain b k.declares → Side (node_at p) k.declares.declaration.route.target b.environment
  leaving_side b k left =
      let q : Place = k.declares.place in
      let both : Sides (node_at p) q.chain (environments q.node q.path) = each_at (SidesAt (node_at p)) (steps p) (entering q) (sides_program p h e numbered) k.declares.entered (ap (λ i. same_kind i kind.BindingIdentifier) left.binds.function) in
      taker_side (first_with is_var q.chain) (first_taking (environments q.node q.path)) k.declares.declaration.route.target b.environment (left.left.target ∙ ap (λ d. Some d.route.target) (sym left.declares)) left.taking both.taking
    where
      taker_side : (o : Option OpenScope) (t : Option Environment) (s : OpenScope) (d : Environment) → o ≡ Some s → t ≡ Some d → TakingSide (node_at p) o t → Side (node_at p) s d
      taker_side o t s d v w i = subst (λ z. TakingSide (node_at p) (Some s) z) w (subst (λ z. TakingSide (node_at p) z t) v i)

  -- the scope where its declaration ends, with its environment
  side_of : (b : Bound) → b.name ≡ x → (k : Known b) → Side (node_at p) k.declares.declaration.route.target b.environment
  side_of b n k = elim k.origin [ inl stays ↦ staying_side b n k stays | inr left ↦ leaving_side b k left ]

  -- what a clause binds is no function that leaves its block
  clause_stays : (b : Bound) (k : Known b) → is_made_for environment.Catch b.environment ≡ true → LeavesThere p h e numbered x plain b k.declares → ⊥
  clause_stays b k caught left =
      never (sym (taking_takes (environments k.declares.place.node k.declares.place.path) b.environment left.taking) ∙ ap (λ z. takes_variables (record { kind = z; maker = b.environment.maker })) (environment_kind_is b.environment.kind environment.Catch caught))

  -- what a clause binds is declared in the innermost scope of its place, in the header
  caught_target : (b : Bound) → b.name ≡ x → (k : Known b) → is_made_for environment.Catch b.environment ≡ true → k.declares.declaration.route.target ≡ place.innermost k.declares.place.chain
  caught_target b n k caught = elim k.origin [ inl stays ↦ of_staying stays | inr left ↦ absurd (clause_stays b k caught left) ]
    where
      q : Place
      q = k.declares.place

      takes_first : (ds : List Environment) (d : Environment) → first_taking ds ≡ Some d → takes_variables d ≡ true
      takes_first [] d i = absurd cc
      takes_first (c ∷ ds) d i = go (takes_variables c) refl i (takes_first ds d)
        where
          go : (t : Bool) → takes_variables c ≡ t → cond t (Some c) (first_taking ds) ≡ Some d → (first_taking ds ≡ Some d → takes_variables d ≡ true) → takes_variables d ≡ true
          go true j l more = subst (λ z. takes_variables z ≡ true) (some_is c d l) j
          go false j l more = more l

      no_catch : (d : Environment) → is_made_for environment.Catch d ≡ true → takes_variables d ≡ false
      no_catch d i = ap (λ z. takes_variables (record { kind = z; maker = d.maker })) (environment_kind_is d.kind environment.Catch i)

      outward : (chain : List OpenScope) (ds : List Environment) (o : Option OpenScope) (t : Option Environment) → first_taking ds ≡ t → TakingSide (node_at p) o t → is_made_for environment.Catch (environment_or (innermost ds) t) ≡ true → (route_from chain (passed_before is_var chain) o).target ≡ place.innermost chain
      outward chain ds None t i v c = refl
      outward chain ds (Some s) None i v c = absurd v
      outward chain ds (Some s) (Some d) i v c = absurd (never (sym (takes_first ds d i) ∙ no_catch d c))

      of_staying : StaysThere p h e numbered x b k.declares → k.declares.declaration.route.target ≡ place.innermost k.declares.place.chain
      of_staying stays = elim (by_kind p.source_type q k.declares.declaration b q.node.kind stays.unmoved k.declares.told stays.binds) [
        | inl w ↦ ap (λ r. r.target) w.0
        | inr w ↦ ap (λ r. r.target) w.0 ∙ outward q.chain (environments q.node q.path) (first_with is_var q.chain) (first_taking (environments q.node q.path)) refl (staying_sides b n k stays).taking (subst (λ d. is_made_for environment.Catch d ≡ true) w.1 caught)
      ]

  pub caught_in_header : (b : Bound) → b.name ≡ x → (k : Known b) → is_made_for environment.Catch b.environment ≡ true → (y : Node) → node_at p b.environment.maker ≡ Some y → y.kind ≡ kind.CatchClause → k.declares.declaration.route.target.in_header ≡ true
  caught_in_header b n k caught y f c =
      let q : Place = k.declares.place in
      let target : k.declares.declaration.route.target ≡ place.innermost q.chain = caught_target b n k caught in
      let clausal : IsClausal (node_at p) q = each_at (ClausalAt (node_at p)) (steps p) (entering q) (clausal_program p h e numbered) k.declares.entered in
      let opener : (place.innermost q.chain).opener ≡ b.environment.maker = ap (λ s. s.opener) (sym target) ∙ k.declares.maker in
      elim (clausal.stands y (ap (node_at p) opener ∙ f) c) [
        | inl w ↦ ap (λ s. s.in_header) target ∙ w
        | inr w ↦ elim k.origin [
          | inl stays ↦ absurd (subst (λ i. Among b (bound_by_node i p.source_type q.node q.path)) (body_kind q w) stays.binds)
          | inr left ↦ absurd (clause_stays b k caught left)
        ]
      ]

  -- ---- what a declaration binds

  record IsOf (d : Declaration) : Type 0 where
    bind : Bound
    any : Any bind
    among : Among bind ws
    named : bind.name ≡ x
    is_it : d ≡ (is_declared p h e numbered x plain bind any).declaration

  is_of : (d : Declaration) → Among d (declarations es) → d.naming.name ≡ x → IsOf d
  is_of d a name =
      let (b, w, n, i) = each_identifier p.source_type x (λ j. (b : Bound) × Among b ws × (b.name ≡ x) × (b.identifier ≡ j)) p h e (λ b w n. (settled b, settled_among p b w, settled_name b ∙ n, settled_identifier b)) d a name in
      let k : Any b = any_bound p h e numbered x plain b w n in
      let v : IsDeclared p h e numbered x plain b = is_declared p h e numbered x plain b k in
      let one : identifier_of d ≡ identifier_of v.declaration = sym i ∙ sym v.identifier in
      record { bind = b; any = k; among = w; named = n; is_it = same_declaration d v.declaration (declarations es) a v.among one (declared_once p (identifier_of d) h numbered) }

  -- the symbol that it is made with
  symbol_is_at : (m : Made) → Among m final.made → (i : ℕ) → m.declaration.naming.identifier ≡ i → symbol_at (analysis_of p) i ≡ Some m.symbol
  symbol_is_at m a i q = subst (λ j. symbol_at (analysis_of p) j ≡ Some m.symbol) q (symbols_are_at_nodes p h numbered m a)

  -- ---- the scope of an opener, as its header ends

  module _ (s : OpenScope) (opened : IsOpened (openers (steps p)) s) (awaited : WillAwait s.number [] (steps p)) (whole : (b : Bound) → IsTakenBy p b s.number → ⊥) where
    abbrev last : State
    last = run start (until_end_of s.number es)

    events_cut : Cut s.number es
    events_cut = cut_program p s.number h awaited

    cut : IsCutAt s.number start es
    cut = cut_at s.number (table_of p) start events_cut (orderly_events p (has_form p h)) (sound_start (table_of p)) start_is_sound (header_start s.number)

    -- what counts is made before the header ends
    made_before : (m : Made) → Among m final.made → is_before_body s.number x m ≡ true → Among m last.made
    made_before m a t =
        let there : Among m (filter (is_before_body s.number x) last.made) = subst (Among m) (cut.same x) (among_filter (is_before_body s.number x) final.made m a t) in
        (filter_among (is_before_body s.number x) last.made m there).0

    shared : SharedAtLast (table_of p) (root_body p (has_form p h)) (nearest p) x last
    shared = at_header p h e x clear s.number

    at_target : (d : Declaration) (y : ℕ) → d.route.target.body ≡ None → d.route.target.number ≡ s.number → IsBoundNow (table_of p) x last.bindings d y → get last.bindings s.number x ≡ Some y
    at_target d y b q (inl g) = subst (λ c. get last.bindings c x ≡ Some y) q g
    at_target d y b q (inr g) = absurd (no_number g.0 (sym b ∙ g.1))
      where
        no_number : (n : ℕ) → None ≡ Some n → ⊥
        no_number n w = absurd cc

    -- what the scope binds then is declared by what binds the name there, and not in the body's environment
    record IsSeen (y : ℕ) : Type 0 where
      made : Made
      among : Among made final.made
      tells : IsOf made.declaration
      symbol : made.symbol ≡ y
      maker : tells.bind.environment.maker ≡ s.opener
      outside : is_made_for environment.Body tells.bind.environment ≡ false

    own_outside : (b : Bound) → OwnBound p h x b → is_made_for environment.Body b.environment ≡ false
    own_outside b o = go o.named_by.sort
      where
        go : IsOfExpression o.place.node b.environment → is_made_for environment.Body b.environment ≡ false
        go (inl w) = ap (is_made_for environment.Body) w.1
        go (inr w) = ap (is_made_for environment.Body) w.1

    same_maker : (d : Declaration) (w : IsOf d) → d.route.target.number ≡ s.number → w.bind.environment.maker ≡ s.opener
    same_maker d w q =
        let v : IsDeclared p h e numbered x plain w.bind = is_declared p h e numbered x plain w.bind w.any in
        let number : v.declaration.route.target.number ≡ s.number = sym (ap (λ z. z.route.target.number) w.is_it) ∙ q in
        sym v.maker ∙ some_is v.declaration.route.target.opener s.opener (sym v.opened ∙ ap (slice_get (openers (steps p))) number ∙ opened)

    outside_of : (d : Declaration) (w : IsOf d) → stands_before_body s.number d ≡ true → is_made_for environment.Body w.bind.environment ≡ false
    outside_of d w t = by w.any w.is_it
      where
        by : (k : Any w.bind) → d ≡ (is_declared p h e numbered x plain w.bind k).declaration → is_made_for environment.Body w.bind.environment ≡ false
        by (inr o) q = own_outside w.bind o
        by (inl k) q =
            let same : d ≡ k.declares.declaration = q ∙ declared_known p h e numbered x plain w.bind k in
            let header : d.route.target.in_header ≡ true = go d.route.target.in_header (is_own_name d) (and_second (d.route.target.number == s.number) (d.route.target.in_header || is_own_name d) t) (ap is_own_name same ∙ k.declares.visible) in
            (side_of w.bind w.named k).outside (sym (ap (λ z. z.route.target.in_header) same) ∙ header)
          where
            go : (u v : Bool) → (u || v) ≡ true → v ≡ false → u ≡ true
            go true v i j = refl
            go false v i j = absurd (never (sym i ∙ j))

    seen : (y : ℕ) → get last.bindings s.number x ≡ Some y → IsSeen y
    seen y g =
        let w : BoundBy (table_of p) x shared.0 shared.1 last.made s.number y = shared.2.bound s.number y g in
        let before : Among w.made.declaration (declarations (until_end_of s.number es)) = elim (made_declared w.made start (until_end_of s.number es) w.among) [ inl i ↦ absurd i | inr i ↦ i ] in
        let tells : IsOf w.made.declaration = is_of w.made.declaration (until_among s.number es w.made.declaration before) w.named in
        let number : w.made.declaration.route.target.number ≡ s.number = now w.made.declaration tells w.now in
        record {
          made = w.made;
          among = until_made w.made w.among;
          tells = tells;
          symbol = w.symbol;
          maker = same_maker w.made.declaration tells number;
          outside = outside_of w.made.declaration tells (before_cut s.number events_cut w.made.declaration before number);
        }
      where
        now : (d : Declaration) (w : IsOf d) → IsNowIn (table_of p) x d s.number → d.route.target.number ≡ s.number
        now d w (inl q) = q
        now d w (inr q) = absurd (whole w.bind (taken_by p h e numbered x plain w.bind w.any s.number (ap (λ z. z.route.target.body) (sym w.is_it) ∙ q.0)))

        until_made : (m : Made) → Among m last.made → Among m final.made
        until_made m a = until_stays m start es s.number a

    -- where the opener binds the name at most in the body's own environment, the header sees nothing
    pub silent : ((b : Bound) → Among b ws → b.name ≡ x → b.environment.maker ≡ s.opener → is_made_for environment.Body b.environment ≡ false → ⊥) → get last.bindings s.number x ≡ None
    silent apart = go (get last.bindings s.number x) refl
      where
        go : (o : Option ℕ) → get last.bindings s.number x ≡ o → get last.bindings s.number x ≡ None
        go None g = g
        go (Some y) g = let w : IsSeen y = seen y g in absurd (apart w.tells.bind w.tells.among w.tells.named w.maker w.outside)

    same_number : (a c : ℕ) → a ≡ c → (a == c) ≡ true
    same_number a c i = elim (eqb_tells a c) [ inl j ↦ j.0 | inr j ↦ absurd (j.1 i) ]

    counts : (d : Declaration) (y : ℕ) → d.route.target.number ≡ s.number → (d.route.target.in_header || is_own_name d) ≡ true → d.naming.name ≡ x → is_before_body s.number x (record { declaration = d; symbol = y }) ≡ true
    counts d y q v n = rw (same_number d.route.target.number s.number q, v, same_name d.naming.name n) refl
      where
        same_name : (z : Name) → z ≡ x → bytes_eq z x ≡ true
        same_name z i = elim (name_tells z x) [ inl j ↦ j.0 | inr j ↦ absurd (j.1 i) ]

    no_clause : (d : Environment) → is_parameters d ≡ true → is_made_for environment.Catch d ≡ false
    no_clause d v = elim (cases_Bool (is_made_for environment.Catch d)) [
      | inr q ↦ q
      | inl q ↦ (let caught : d.kind ≡ environment.Catch = environment_kind_is d.kind environment.Catch q in
          absurd (never (sym v ∙ ap (λ z. same_environment_kind z environment.Parameters || same_environment_kind z environment.ArrowParameters) caught)))
    ]

    -- where the parameters have an expression and bind it, the header sees what the scope binds in the end
    pub answers_too : (b : Bound) (k : Known b) → b.name ≡ x → s.opener ≡ b.environment.maker → is_parameters b.environment ≡ true → ((f : Node) → node_at p b.environment.maker ≡ Some f → has_parameter_expressions f ≡ true) → get last.bindings s.number x ≡ get final.bindings s.number x
    answers_too b k n q parameters expressions =
        let d : Declaration = k.declares.declaration in
        let (y, made) = is_made d start es k.declares.among in
        let m : Made = record { declaration = d; symbol = y } in
        let number : d.route.target.number ≡ s.number = one_scope p numbered d.route.target s k.declares.opened opened (k.declares.maker ∙ sym q) in
        let header : d.route.target.in_header ≡ true = (side_of b n k).inside parameters expressions in
        let there : Among m last.made = made_before m made (counts d y number (rw header refl) k.declares.named) in
        let here : get last.bindings s.number x ≡ Some y = at_target d y (bodiless p h e numbered x plain b k (no_clause b.environment parameters)) number (shared.2.declared m there k.declares.named k.declares.visible) in
        let symbol : symbol_at (analysis_of p) b.identifier ≡ Some y = symbol_is_at m made b.identifier k.declares.identifier in
        let same : y ≡ symbol_of p h e numbered x clear plain b k = some_is y (symbol_of p h e numbered x clear plain b k) (sym symbol ∙ has_symbol p h e numbered x clear plain b k) in
        here ∙ ap Some same ∙ sym (answers p h e numbered x clear plain b k (no_clause b.environment parameters) s opened q)

    -- the header sees a function's own name, where the parameters don't bind it
    pub own_answers : (b : Bound) (k : OwnBound p h x b) → s.opener ≡ k.place.node.node_id → k.place.node.kind ≡ kind.Function → ((c : Bound) → Among c ws → c.name ≡ x → is_bound_as bound.OwnName c ≡ false → c.environment.maker ≡ s.opener → is_made_for environment.Body c.environment ≡ false → ⊥) → (y : ℕ) × (get last.bindings s.number x ≡ Some y) × (symbol_at (analysis_of p) b.identifier ≡ Some y)
    own_answers b k q f apart =
        let d : Declaration = k.declaration in
        let (r, made) = is_made d start es k.among in
        let m : Made = record { declaration = d; symbol = r } in
        let own : is_own_name d ≡ true = k.hidden ∙ ap (λ i. same_kind i kind.Function) f in
        let number : d.route.target.number ≡ s.number = ap (λ t. t.number) k.target ∙ one_scope p numbered k.scope s k.opened opened (k.opener ∙ sym q) in
        let there : Among m last.made = made_before m made (counts d r number (or_own d.route.target.in_header (is_own_name d) own) k.named) in
        let (y, now) = shared.2.hidden m there k.named own in
        let here : get last.bindings s.number x ≡ Some y = at_target d y (ap (λ t. t.body) k.target ∙ k.bodiless) number now in
        let w : IsSeen y = seen y here in
        (y, here, by w w.tells.any w.tells.is_it)
      where
        or_own : (u v : Bool) → v ≡ true → (u || v) ≡ true
        or_own true v i = refl
        or_own false v i = i

        by : {y : ℕ} (w : IsSeen y) (v : Any w.tells.bind) → w.made.declaration ≡ (is_declared p h e numbered x plain w.tells.bind v).declaration → symbol_at (analysis_of p) b.identifier ≡ Some y
        by w (inl v) i = absurd (apart w.tells.bind w.tells.among w.tells.named v.no_own w.maker w.outside)
        by w (inr v) i =
            let identifier : w.made.declaration.naming.identifier ≡ w.tells.bind.identifier = ap identifier_of i ∙ (is_declared p h e numbered x plain w.tells.bind (inr v)).identifier in
            let same : w.tells.bind.identifier ≡ b.identifier = one_name p h e numbered x w.tells.bind b v k (sym (own_maker p h x w.tells.bind v) ∙ w.maker ∙ q) f in
            symbol_is_at w.made w.among b.identifier (identifier ∙ same) ∙ ap Some w.symbol

    -- ---- a clause's

    -- something is bound where a declaration counts
    some_bound : (st : State) (o : Option ℕ) (ms : List Made) (m : Made) → seen_as st o ≡ bound_by_all ms → Among m ms → (y : ℕ) × (o ≡ Some y)
    some_bound st (Some y) ms m q a = (y, refl)
    some_bound st None [] m q a = absurd a
    some_bound st None (n ∷ ms) m q a = absurd (never_none ms (seen_alone n) (sym q))
      where
        never_none : (ns : List Made) (t : Seen) → fold with_declaration (Some t) ns ≡ None → ⊥
        never_none [] t r = absurd cc
        never_none (n ∷ ns) t r = never_none ns (cond (t.symbol == n.symbol) (record t { flags = union t.flags n.declaration.naming.flags }) (seen_alone n)) r

    -- the header of a clause sees the symbol of what the clause binds
    pub caught_answers : (b : Bound) (k : Known b) → b.name ≡ x → s.opener ≡ b.environment.maker → k.declares.declaration.route.target.in_header ≡ true → ((c : Bound) → OwnBound p h x c → c.environment.maker ≡ s.opener → ⊥) → (y : ℕ) × (get last.bindings s.number x ≡ Some y) × (symbol_at (analysis_of p) b.identifier ≡ Some y)
    caught_answers b k n q header no_own =
        let d : Declaration = k.declares.declaration in
        let (r, made) = is_made d start es k.declares.among in
        let m : Made = record { declaration = d; symbol = r } in
        let number : d.route.target.number ≡ s.number = one_scope p numbered d.route.target s k.declares.opened opened (k.declares.maker ∙ sym q) in
        let counted : is_before_body s.number x m ≡ true = counts d r number (rw header refl) k.declares.named in
        let there : Among m (filter (is_before_body s.number x) last.made) = among_filter (is_before_body s.number x) last.made m (made_before m made counted) counted in
        let (y, here) = some_bound last (get last.bindings s.number x) (filter (is_before_body s.number x) last.made) m (cut.header.bound x) there in
        let w : IsSeen y = seen y here in
        (y, here, by w w.tells.any w.tells.is_it)
      where
        by : {y : ℕ} (w : IsSeen y) (v : Any w.tells.bind) → w.made.declaration ≡ (is_declared p h e numbered x plain w.tells.bind v).declaration → symbol_at (analysis_of p) b.identifier ≡ Some y
        by w (inr v) j = absurd (no_own w.tells.bind v w.maker)
        by w (inl v) j =
            let identifier : w.made.declaration.naming.identifier ≡ w.tells.bind.identifier = ap identifier_of j ∙ (is_declared p h e numbered x plain w.tells.bind (inl v)).identifier in
            let both : HaveOneSymbol p b w.tells.bind = share_symbol p h e numbered x (share_symbols p h e x clear) b w.tells.bind k.declares v.declares (sym q ∙ sym w.maker) in
            let same : both.symbol ≡ w.made.symbol = some_is both.symbol w.made.symbol (sym both.second ∙ symbol_is_at w.made w.among w.tells.bind.identifier identifier) in
            both.first ∙ ap Some (same ∙ w.symbol)

  -- a header that holds a place
  pub awaits : (q : Place) (s : OpenScope) → Among (entering q) (steps p) → Among s q.chain → is kind.BindingIdentifier q.node ≡ false → s.in_header ≡ true → WillAwait s.number [] (steps p)
  awaits q s a b n i = place_awaits q s [] (steps p) (program_matched p h) a b n i
