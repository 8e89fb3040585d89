-- Of a plain name, a scope has the symbol of the identifiers by which the environments of its opener bind it.
use Rattle.std.proofs.Common.{◌≡◌, ℕ, List, [], ◌∷◌, ◌++◌, Option, Some, None, Bool, true, false, cond, inl, inr, ◌⊎◌, refl, sym, ap, subst, ◌∙◌, bytes_eq, codes}
use Rattle.std.specs.Prelude.{slice_get}
use Rattle.std.proofs.lemmas.Bool.{cases_Bool}
use Rattle.semantic_kinds.specs.declared.kind.AstType.TheVariants as kind
use Rattle.semantic_syntax.specs.Tables.{Name}
use Rattle.semantic_tree.specs.Faults.{first_fault}
use Rattle.semantic_tree.specs.Tree.{Tree, IsNumbered}
use Rattle.semantic_tree.specs.Views.{is}
use Rattle.semantic_tree.specs.declared.node.Node.{Node}
use Rattle.semantic_model.specs.Analysis.{analysis_of, symbol_at}
use Rattle.semantic_model.specs.Binding.{get}
use Rattle.semantic_model.specs.Entries.{Among}
use Rattle.semantic_model.specs.Event.{Event, declarations, events}
use Rattle.semantic_model.specs.Fold.{State, start, or_else}
use Rattle.semantic_model.specs.Hoist.{run}
use Rattle.semantic_model.specs.Place.{Place, OpenScope}
use Rattle.semantic_model.specs.Step.{entering, steps}
use Rattle.semantic_model.proofs.fold.Orders.{table_of}
use Rattle.binding_laws.proofs.ListLaws.{each_at}
use Rattle.binding_laws.proofs.ScopeOpeners.{openers, IsOpened}
use Rattle.binding_laws.proofs.SmallLaws.{never, some_is}
use Rattle.language_ties.specs.AgreeingNames.{IsPlainName}
use Rattle.language_ties.specs.Bound.{Bound, is_bound_as}
use Rattle.language_ties.specs.EcmaScript.{is_ecmascript}
use Rattle.language_ties.specs.Environments.{Environment, same_environment_kind, is_made_for, has_parameter_expressions}
use Rattle.language_ties.specs.Meaning.{Meaning, identifiers_in, meaning_past_objects as meaning}
use Rattle.language_ties.specs.SharedSymbols.{AllKeepClear}
use Rattle.language_ties.specs.declared.bound_as.BoundAs.TheVariants as way
use Rattle.language_ties.specs.declared.environment_kind.EnvironmentKind.{EnvironmentKind}
use Rattle.language_ties.specs.declared.environment_kind.EnvironmentKind.TheVariants as environment
use Rattle.language_ties.proofs.agree.Answers.{symbol_of, has_symbol, answers, body_answers, IsAsked, asked}
use Rattle.language_ties.proofs.agree.ClassBounds.{IsClassBound, class_bound}
use Rattle.language_ties.proofs.agree.FamiliarPlaces.{IsFamiliar, FamiliarAt, familiar_program}
use Rattle.language_ties.proofs.agree.FunctionKinds.{function_kinds, arrow_kinds, IsOrdinary}
use Rattle.language_ties.proofs.agree.Identifiers.{IsBoundHere, bound_here, identifier_here, meaning_further, meaning_here}
use Rattle.language_ties.proofs.agree.KnownBounds.{KnownBound}
use Rattle.language_ties.proofs.agree.KnownNodes.{node_at}
use Rattle.language_ties.proofs.agree.MadeEnvironments.{may_make, environment_kind_is}
use Rattle.language_ties.proofs.agree.PlaceAgreement.{AllAre, Matches}
use Rattle.language_ties.proofs.caught.CaughtBounds.{IsTakenBy}
use Rattle.language_ties.proofs.moved.Settled.{settled_bounds, bound_as_settled}
use Rattle.language_ties.proofs.own_names.AnyBounds.{AnyBound, any_bound, IsMade, is_made, own_kind}
use Rattle.language_ties.proofs.own_names.OwnBounds.{own_maker}
use Rattle.language_ties.proofs.own_names.OwnSymbols.{HasSymbol, function_symbol}

module _ (p : Tree) (h : first_fault p ≡ None) (e : is_ecmascript p ≡ true) (numbered : IsNumbered p.root) (x : Name) (not_arguments : bytes_eq x (codes "arguments") ≡ false) (clear : AllKeepClear x (declarations (events (steps p)))) (plain : IsPlainName p x) where
  abbrev es : List Event
  es = events (steps p)

  abbrev final : State
  final = run start es

  abbrev ws : List Bound
  ws = settled_bounds p

  abbrev bs : List Bound
  bs = bound_as_settled p

  abbrev Known : Bound → Type 0
  Known b = KnownBound p h e numbered x plain b

  abbrev Any : Bound → Type 0
  Any b = AnyBound p h e numbered x plain b

  -- ---- what an environment binds

  -- an identifier of the environment is of a bound that is known
  pub record IsHere (d : Environment) (i : ℕ) : Type 0 where
    pub bind : Bound
    pub known : Any bind
    pub among : Among bind ws
    pub named : bind.name ≡ x
    pub there : (bind.environment ≡ d) ⊎ Among d bind.also
    pub identifier : bind.identifier ≡ i

  pub is_here : (d : Environment) (i : ℕ) → Among i (identifiers_in bs d x) → IsHere d i
  is_here d i a =
      let w : IsBoundHere ws x d ws i = bound_here ws x d ws i a in
      record { bind = w.bind; known = any_bound p h e numbered x plain w.bind w.among w.named; among = w.among; named = w.named; there = w.there; identifier = w.identifier }

  -- what is bound in another environment, too, is a class
  pub record IsClassHere (d : Environment) (b : Bound) : Type 0 where
    pub place : Place
    pub entered : Among (entering place) (steps p)
    pub class : IsClassBound place b d

  pub class_here : (d : Environment) (b : Bound) → Any b → Among d b.also → IsClassHere d b
  class_here d b (inl k) a = elim k.origin [
    | inl stays ↦ record { place = k.declares.place; entered = k.declares.entered; class = class_bound p.source_type k.declares.place b k.plainly d a k.declares.place.node.kind stays.binds }
    | inr left ↦ absurd (subst (Among d) left.bare a)
  ]
  class_here d b (inr o) a = absurd (subst (Among d) o.named_by.alone a)

  pub directly : (d : Environment) (i : ℕ) → is_made_for environment.Class d ≡ false → (w : IsHere d i) → w.bind.environment ≡ d
  directly d i n w = elim w.there [
    | inl q ↦ q
    | inr a ↦ absurd (never (sym (ap (is_made_for environment.Class) (class_here d w.bind w.known a).class.inside) ∙ n))
  ]

  -- what binds it elsewhere than in the environment of an own name or of a class is no own name
  pub visible : (d : Environment) (b : Bound) → Any b → b.environment ≡ d → is_made_for environment.Class d ≡ false → is_made_for environment.OwnName d ≡ false → Known b
  visible d b (inl k) q n u = k
  visible d b (inr o) q n u = absurd (own_kind p h e numbered x plain b o (ap (is_made_for environment.OwnName) q ∙ u) (ap (is_made_for environment.Class) q ∙ n))

  -- nothing is bound by the environment of an `if` body
  pub no_if_body : (b : Bound) → Any b → is_made_for environment.IfBody b.environment ≡ false
  no_if_body b (inl k) = k.placed.usual.1
  no_if_body b (inr o) = elim (cases_Bool (is_made_for environment.IfBody b.environment)) [
    | inr q ↦ q
    | inl q ↦ (let k : b.environment.kind ≡ environment.IfBody = environment_kind_is b.environment.kind environment.IfBody q in
        absurd (own_kind p h e numbered x plain b o (ap (λ z. same_environment_kind z environment.OwnName) k) (ap (λ z. same_environment_kind z environment.Class) k)))
  ]

  pub unusual : (m : ℕ) → identifiers_in bs (record { kind = environment.IfBody; maker = m }) x ≡ []
  unusual m = go (identifiers_in bs d x) refl
    where
      d : Environment
      d = record { kind = environment.IfBody; maker = m }

      go : (is : List ℕ) → identifiers_in bs d x ≡ is → identifiers_in bs d x ≡ []
      go [] q = q
      go (i ∷ is) q =
          let w : IsHere d i = is_here d i (subst (Among i) (sym q) (inl refl)) in
          absurd (never (sym (ap (is_made_for environment.IfBody) (directly d i refl w)) ∙ no_if_body w.bind w.known))

  -- ---- a scope with the environments of its opener

  module _ (s : OpenScope) (o : IsOpened (openers (steps p)) s) (entry : slice_get (table_of p) s.number ≡ Some s.body) (q : Node) (opener : s.opener ≡ q.node_id) (found : node_at p q.node_id ≡ Some q) where
    abbrev Y : Option ℕ
    Y = get final.bindings s.number x

    -- all identifiers of an environment of the opener have the symbol that the scope binds
    answer_of : (d : Environment) → d.maker ≡ q.node_id → IsOrdinary d.kind → (i : ℕ) → Among i (identifiers_in bs d x) → (y : ℕ) × (Y ≡ Some y) × (symbol_at (analysis_of p) i ≡ Some y)
    answer_of d m v i a =
        let w : IsHere d i = is_here d i a in
        let there : w.bind.environment ≡ d = directly d i v.0 w in
        let k : Known w.bind = visible d w.bind w.known there v.0 v.1 in
        let y : ℕ = symbol_of p h e numbered x clear plain w.bind k in
        (y, answers p h e numbered x clear plain w.bind k (ap (is_made_for environment.Catch) there ∙ v.2) s o (opener ∙ sym m ∙ sym (ap (λ z. z.maker) there)), subst (λ j. symbol_at (analysis_of p) j ≡ Some y) w.identifier (has_symbol p h e numbered x clear plain w.bind k))

    all_answer : (d : Environment) → d.maker ≡ q.node_id → IsOrdinary d.kind → (y : ℕ) → Y ≡ Some y → (is : List ℕ) → ((i : ℕ) → Among i is → Among i (identifiers_in bs d x)) → AllAre p is y
    all_answer d m v y g [] f = tt
    all_answer d m v y g (i ∷ is) f =
        let (z, there, symbol) = answer_of d m v i (f i (inl refl)) in
        let same : z ≡ y = some_is z y (sym there ∙ g) in
        (symbol ∙ ap Some same, all_answer d m v y g is (λ j a. f j (inr a)))

    -- where the environment binds the name, that is what it means
    pub here : (d : Environment) (ds : List Environment) → d.maker ≡ q.node_id → IsOrdinary d.kind → (i : ℕ) (is : List ℕ) → identifiers_in bs d x ≡ i ∷ is → (later : Option ℕ) → Matches p (or_else Y later) (meaning bs (d ∷ ds) x)
    here d ds m n i is w later =
        let (y, there, symbol) = answer_of d m n i (subst (Among i) (sym w) (inl refl)) in
        subst (Matches p (or_else Y later)) (sym (meaning_here bs x not_arguments d ds i is w))
        (y, ap (λ z. or_else z later) there, all_answer d m n y there (i ∷ is) (λ j a. subst (Among j) (sym w) a))

    -- what the scope binds is bound by an environment of the opener
    pub record IsBoundThere : Type 0 where
      pub bind : Bound
      pub known : Any bind
      pub among : Among bind ws
      pub named : bind.name ≡ x
      pub maker : bind.environment.maker ≡ q.node_id
      pub makes : may_make q.kind bind.environment.kind ≡ true
      pub body : is_made_for environment.Body bind.environment ≡ true → has_parameter_expressions q ≡ true

    made_there : (b : Bound) → Among b ws → b.name ≡ x → b.environment.maker ≡ q.node_id → IsBoundThere
    made_there b a n maker =
        let k : Any b = any_bound p h e numbered x plain b a n in
        let m : IsMade p h e numbered x plain b = is_made p h e numbered x plain b k in
        let same : m.maker ≡ q = some_is m.maker q (sym m.found ∙ ap (node_at p) maker ∙ found) in
        record {
          bind = b;
          known = k;
          among = a;
          named = n;
          maker = maker;
          makes = subst (λ z. may_make z.kind b.environment.kind ≡ true) same m.makes;
          body = λ v. subst (λ z. has_parameter_expressions z ≡ true) same (m.body v);
        }

    -- what the opener binds
    pub record IsThere (b : Bound) : Type 0 where
      pub there : IsBoundThere
      pub same : there.bind ≡ b

    pub is_there : (b : Bound) → Among b ws → b.name ≡ x → b.environment.maker ≡ q.node_id → IsThere b
    unfolding made_there
    is_there b a n m = record { there = made_there b a n m; same = refl }

    -- an environment that binds nothing is none of those
    pub none_there : (d : Environment) → identifiers_in bs d x ≡ [] → (w : IsBoundThere) → w.bind.environment ≡ d → ⊥
    none_there d n w q = subst (Among w.bind.identifier) n (identifier_here ws x d ws w.bind w.among w.named q)

    pub environment_is : (w : IsBoundThere) (k : EnvironmentKind) → w.bind.environment.kind ≡ k → w.bind.environment ≡ record { kind = k; maker = q.node_id }
    environment_is w k v = λ i. record { kind = v i; maker = w.maker i }

    pub further : (later : Option ℕ) (m : Meaning) → Y ≡ None → Matches p later m → Matches p (or_else Y later) m
    further later m g k = subst (λ t. Matches p (or_else t later) m) (sym g) k

    -- ---- the block of a clause

    -- the scope of the block takes over that of the clause: it has the symbol of what the block binds, else of what the clause does
    module _ (clause : Node) (caught : clause.kind ≡ kind.CatchClause) (clause_found : node_at p clause.node_id ≡ Some clause) (block : q.kind ≡ kind.BlockStatement)
        (of_clause : (b : Bound) → IsTakenBy p b s.number → b.environment.maker ≡ clause.node_id)
        (taken : (b : Bound) (k : Known b) → b.environment.maker ≡ clause.node_id → k.declares.declaration.route.target.body ≡ Some s.number) (later : Option ℕ) (ds : List Environment) (m : Matches p later (meaning bs ds x)) where
      abbrev Block : Environment
      Block = record { kind = environment.Block; maker = q.node_id }

      abbrev Clause : Environment
      Clause = record { kind = environment.Catch; maker = clause.node_id }

      caught_symbol : (i : ℕ) → Among i (identifiers_in bs Clause x) → (y : ℕ) × (Y ≡ Some y) × (symbol_at (analysis_of p) i ≡ Some y)
      caught_symbol i a =
          let w : IsHere Clause i = is_here Clause i a in
          let there : w.bind.environment ≡ Clause = directly Clause i refl w in
          let k : Known w.bind = visible Clause w.bind w.known there refl refl in
          let y : ℕ = symbol_of p h e numbered x clear plain w.bind k in
          (y, body_answers p h e numbered x clear plain w.bind k s entry (taken w.bind k (ap (λ z. z.maker) there)), subst (λ j. symbol_at (analysis_of p) j ≡ Some y) w.identifier (has_symbol p h e numbered x clear plain w.bind k))

      all_caught : (y : ℕ) → Y ≡ Some y → (is : List ℕ) → ((i : ℕ) → Among i is → Among i (identifiers_in bs Clause x)) → AllAre p is y
      all_caught y g [] f = tt
      all_caught y g (i ∷ is) f =
          let (z, there, symbol) = caught_symbol i (f i (inl refl)) in
          (symbol ∙ ap Some (some_is z y (sym there ∙ g)), all_caught y g is (λ j a. f j (inr a)))

      -- what is bound there is bound by one of both
      bound_by_either : identifiers_in bs Block x ≡ [] → identifiers_in bs Clause x ≡ [] → (y : ℕ) → Y ≡ Some y → ⊥
      bound_by_either i j y g =
          let w : IsAsked p h e numbered x clear plain s = asked p h e numbered x clear plain s y o entry g in
          elim w.there [
            | inl maker ↦ (let v : IsBoundThere = made_there w.bind w.among w.named (maker ∙ opener) in
                none_there Block i v (environment_is v environment.Block (environment_kind_is v.bind.environment.kind environment.Block (subst (λ a. may_make a v.bind.environment.kind ≡ true) block v.makes))))
            | inr t ↦ by_clause w.bind w.among w.named (of_clause w.bind t)
          ]
        where
          by_clause : (b : Bound) → Among b ws → b.name ≡ x → b.environment.maker ≡ clause.node_id → ⊥
          by_clause b a n maker =
              let v : IsMade p h e numbered x plain b = is_made p h e numbered x plain b (any_bound p h e numbered x plain b a n) in
              let same : v.maker ≡ clause = some_is v.maker clause (sym v.found ∙ ap (node_at p) maker ∙ clause_found) in
              let kinds : b.environment.kind ≡ environment.Catch = environment_kind_is b.environment.kind environment.Catch (subst (λ a. may_make a b.environment.kind ≡ true) (ap (λ z. z.kind) same ∙ caught) v.makes) in
              subst (Among b.identifier) j (identifier_here ws x Clause ws b a n (λ l. record { kind = kinds l; maker = maker l }))

      none_bound : identifiers_in bs Block x ≡ [] → identifiers_in bs Clause x ≡ [] → Y ≡ None
      none_bound i j = go Y refl
        where
          go : (t : Option ℕ) → Y ≡ t → Y ≡ None
          go None g = g
          go (Some y) g = absurd (bound_by_either i j y g)

      at_clause : identifiers_in bs Block x ≡ [] → (is : List ℕ) → identifiers_in bs Clause x ≡ is → Matches p (or_else Y later) (meaning bs (Clause ∷ ds) x)
      at_clause n [] i = subst (Matches p (or_else Y later)) (sym (meaning_further bs x not_arguments Clause ds i)) (further later (meaning bs ds x) (none_bound n i) m)
      at_clause n (i ∷ is) j =
          let (y, there, symbol) = caught_symbol i (subst (Among i) (sym j) (inl refl)) in
          subst (Matches p (or_else Y later)) (sym (meaning_here bs x not_arguments Clause ds i is j))
          (y, ap (λ z. or_else z later) there, all_caught y there (i ∷ is) (λ k a. subst (Among k) (sym j) a))

      pub clause_block : Matches p (or_else Y later) (meaning bs (Block ∷ Clause ∷ ds) x)
      clause_block = go (identifiers_in bs Block x) refl
        where
          go : (is : List ℕ) → identifiers_in bs Block x ≡ is → Matches p (or_else Y later) (meaning bs (Block ∷ Clause ∷ ds) x)
          go (i ∷ is) w = here Block (Clause ∷ ds) refl (refl, refl, refl) i is w later
          go [] w = subst (Matches p (or_else Y later)) (sym (meaning_further bs x not_arguments Block (Clause ∷ ds) w)) (at_clause w (identifiers_in bs Clause x) refl)

    -- ---- a scope that takes no clause over

    module _ (whole : (b : Bound) → IsTakenBy p b s.number → ⊥) where
      bound_there : (y : ℕ) → Y ≡ Some y → IsBoundThere
      bound_there y g =
          let w : IsAsked p h e numbered x clear plain s = asked p h e numbered x clear plain s y o entry g in
          elim w.there [ inl maker ↦ made_there w.bind w.among w.named (maker ∙ opener) | inr t ↦ absurd (whole w.bind t) ]

      -- where no environment of the opener binds the name, nor does the scope
      pub unanswered : (IsBoundThere → ⊥) → Y ≡ None
      unanswered n = go Y refl
        where
          go : (t : Option ℕ) → Y ≡ t → Y ≡ None
          go None g = g
          go (Some y) g = absurd (n (bound_there y g))

      -- one environment
      pub one : (k : EnvironmentKind) (ds : List Environment) → ((j : EnvironmentKind) → may_make q.kind j ≡ true → j ≡ k) → IsOrdinary k → (later : Option ℕ) → Matches p later (meaning bs ds x) → Matches p (or_else Y later) (meaning bs (record { kind = k; maker = q.node_id } ∷ ds) x)
      one k ds only n later m = go (identifiers_in bs (record { kind = k; maker = q.node_id }) x) refl
        where
          go : (is : List ℕ) → identifiers_in bs (record { kind = k; maker = q.node_id }) x ≡ is → Matches p (or_else Y later) (meaning bs (record { kind = k; maker = q.node_id } ∷ ds) x)
          go (i ∷ is) w = here (record { kind = k; maker = q.node_id }) ds refl n i is w later
          go [] w =
              subst (Matches p (or_else Y later)) (sym (meaning_further bs x not_arguments (record { kind = k; maker = q.node_id }) ds w))
              (further later (meaning bs ds x) (unanswered (λ v. none_there (record { kind = k; maker = q.node_id }) w v (environment_is v k (only v.bind.environment.kind v.makes)))) m)

      -- a function's, with that of its body where the child stands in it
      module _ (k : EnvironmentKind) (n : IsOrdinary k) (later : Option ℕ) where
        abbrev Body : Environment
        Body = record { kind = environment.Body; maker = q.node_id }

        abbrev Own : Environment
        Own = record { kind = k; maker = q.node_id }

        -- where neither the body's binds it nor the parameters'
        abbrev pub Rest : List Environment → Type 0
        Rest ds = ((w : IsBoundThere) → w.bind.environment ≡ Body → ⊥) → ((w : IsBoundThere) → w.bind.environment ≡ Own → ⊥) → Matches p (or_else Y later) (meaning bs ds x)

        -- where the body's binds nothing, or is not there because it is not the function's
        parameters : (ds : List Environment) → ((w : IsBoundThere) → w.bind.environment ≡ Body → ⊥) → Rest ds → Matches p (or_else Y later) (meaning bs (Own ∷ ds) x)
        parameters ds no_body rest = go (identifiers_in bs Own x) refl
          where
            go : (is : List ℕ) → identifiers_in bs Own x ≡ is → Matches p (or_else Y later) (meaning bs (Own ∷ ds) x)
            go (i ∷ is) w = here Own ds refl n i is w later
            go [] w = subst (Matches p (or_else Y later)) (sym (meaning_further bs x not_arguments Own ds w)) (rest no_body (λ v b. none_there Own w v b))

        pub function : (t : Bool) (ds : List Environment) → (t ≡ false → has_parameter_expressions q ≡ true → ⊥) → Rest ds → Matches p (or_else Y later) (meaning bs (cond t (Body ∷ []) [] ++ (Own ∷ ds)) x)
        function false ds absent rest = parameters ds (λ w b. absent refl (w.body (ap (is_made_for environment.Body) b))) rest
        function true ds absent rest = go (identifiers_in bs Body x) refl
          where
            go : (is : List ℕ) → identifiers_in bs Body x ≡ is → Matches p (or_else Y later) (meaning bs (Body ∷ Own ∷ ds) x)
            go (i ∷ is) w = here Body (Own ∷ ds) refl (refl, refl, refl) i is w later
            go [] w =
                subst (Matches p (or_else Y later)) (sym (meaning_further bs x not_arguments Body (Own ∷ ds) w))
                (parameters ds (λ v b. none_there Body w v b) rest)

      -- an arrow has no other
      pub arrow_rest : q.kind ≡ kind.ArrowFunctionExpression → (later : Option ℕ) (ds : List Environment) → Matches p later (meaning bs ds x) → Rest environment.ArrowParameters (refl, refl, refl) later ds
      arrow_rest w later ds m no_body no_parameters = further later (meaning bs ds x) (unanswered (λ v. elim (arrow_kinds v.bind.environment.kind (subst (λ a. may_make a v.bind.environment.kind ≡ true) w v.makes)) [
        | inl b ↦ no_body v (environment_is v environment.Body b)
        | inr b ↦ no_parameters v (environment_is v environment.ArrowParameters b)
      ])) m

      -- a function has that of its name, which has the symbol of the scope where nothing else does
      module _ (w : q.kind ≡ kind.Function) (later : Option ℕ) (ds : List Environment) (m : Matches p later (meaning bs ds x)) (no_body : (v : IsBoundThere) → v.bind.environment ≡ record { kind = environment.Body; maker = q.node_id } → ⊥) (no_parameters : (v : IsBoundThere) → v.bind.environment ≡ record { kind = environment.Parameters; maker = q.node_id } → ⊥) where
        abbrev OwnName : Environment
        OwnName = record { kind = environment.OwnName; maker = q.node_id }

        -- all that is bound there is
        only_own : (v : IsBoundThere) → v.bind.environment ≡ OwnName
        only_own v = elim (function_kinds v.bind.environment.kind (subst (λ a. may_make a v.bind.environment.kind ≡ true) w v.makes) (no_if_body v.bind v.known)) [
          | inl b ↦ absurd (no_body v (environment_is v environment.Body b))
          | inr b ↦ elim b [
            | inl c ↦ absurd (no_parameters v (environment_is v environment.Parameters c))
            | inr c ↦ environment_is v environment.OwnName c
          ]
        ]

        apart : (c : Bound) → Among c ws → c.name ≡ x → is_bound_as way.OwnName c ≡ false → c.environment.maker ≡ s.opener → ⊥
        unfolding made_there
        apart c a n u k = absurd (by (made_there c a n (k ∙ opener)) refl)
          where
            by : (v : IsBoundThere) → v.bind ≡ c → ⊥
            by v same = elim v.known [
              | inl known ↦ never (sym (ap (is_made_for environment.OwnName) (only_own v)) ∙ known.placed.usual.0)
              | inr own ↦ never (sym own.own ∙ ap (is_bound_as way.OwnName) same ∙ u)
            ]

        own_symbol : (i : ℕ) → Among i (identifiers_in bs OwnName x) → HasSymbol p h e numbered x clear plain s i
        own_symbol i a =
            let v : IsHere OwnName i = is_here OwnName i a in
            let there : v.bind.environment ≡ OwnName = directly OwnName i refl v in
            elim v.known [
              | inl known ↦ absurd (never (sym (ap (is_made_for environment.OwnName) there) ∙ known.placed.usual.0))
              | inr own ↦ (let maker : own.place.node.node_id ≡ q.node_id = sym (own_maker p h x v.bind own) ∙ ap (λ z. z.maker) there in
                  let familiar : IsFamiliar (node_at p) own.place = each_at (FamiliarAt (node_at p)) (steps p) (entering own.place) (familiar_program p h e numbered) own.entered in
                  let same : own.place.node ≡ q = some_is own.place.node q (sym familiar.node ∙ ap (node_at p) maker ∙ found) in
                  subst (HasSymbol p h e numbered x clear plain s) v.identifier
                  (function_symbol p h e numbered x clear plain s o entry v.bind own (opener ∙ sym maker) (ap (λ z. z.kind) same ∙ w) apart))
            ]

        all_own : (y : ℕ) → Y ≡ Some y → (is : List ℕ) → ((i : ℕ) → Among i is → Among i (identifiers_in bs OwnName x)) → AllAre p is y
        all_own y g [] f = tt
        all_own y g (i ∷ is) f =
            let k : HasSymbol p h e numbered x clear plain s i = own_symbol i (f i (inl refl)) in
            (k.is ∙ ap Some (some_is k.symbol y (sym k.bound ∙ g)), all_own y g is (λ j a. f j (inr a)))

        pub own_rest : Matches p (or_else Y later) (meaning bs (OwnName ∷ ds) x)
        own_rest = go (identifiers_in bs OwnName x) refl
          where
            go : (is : List ℕ) → identifiers_in bs OwnName x ≡ is → Matches p (or_else Y later) (meaning bs (OwnName ∷ ds) x)
            go [] v =
                subst (Matches p (or_else Y later)) (sym (meaning_further bs x not_arguments OwnName ds v))
                (further later (meaning bs ds x) (unanswered (λ z. none_there OwnName v z (only_own z))) m)
            go (i ∷ is) v =
                let k : HasSymbol p h e numbered x clear plain s i = own_symbol i (subst (Among i) (sym v) (inl refl)) in
                subst (Matches p (or_else Y later)) (sym (meaning_here bs x not_arguments OwnName ds i is v))
                (k.symbol, ap (λ z. or_else z later) k.bound, all_own k.symbol k.bound (i ∷ is) (λ j a. subst (Among j) (sym v) a))
