-- In its block a function that leaves it alone means what its variable does: where the symbol is that of the bounds as settled, it is that of the bounds of the language.
use Rattle.std.proofs.Common.{◌≡◌, ℕ, ◌==◌, List, [], ◌∷◌, ◌++◌, Option, Some, None, Bool, true, false, ◌&&◌, ◌||◌, not, cond, map, filter, inl, inr, ◌⊎◌, refl, sym, ap, subst, ◌∙◌, bytes_eq, codes}
use Rattle.std.specs.List.{list_any}
use Rattle.std.proofs.lemmas.Bool.{cases_Bool}
use Rattle.std.proofs.lemmas.Bool.Decides.{eqb_tells}
use Rattle.semantic_syntax.proofs.Truth.{and_first, and_second, and_false}
use Rattle.semantic_kinds.specs.declared.kind.AstType.TheVariants as kind
use Rattle.semantic_syntax.specs.Tables.{Name}
use Rattle.semantic_tree.specs.Faults.{first_fault}
use Rattle.semantic_tree.specs.Tree.{Tree, IsNumbered}
use Rattle.semantic_tree.specs.Views.{is}
use Rattle.semantic_tree.specs.declared.node.Node.{Node}
use Rattle.semantic_model.specs.Analysis.{analysis_of, symbol_at}
use Rattle.semantic_model.specs.Binder.{is_special}
use Rattle.semantic_model.specs.Entries.{Among}
use Rattle.semantic_model.specs.Place.{Place}
use Rattle.semantic_model.specs.Step.{entering, steps}
use Rattle.semantic_model.proofs.lists.Members.{among_left, among_right}
use Rattle.semantic_model.proofs.once.ListedUnder.{name_tells}
use Rattle.binding_laws.proofs.ListLaws.{each_at}
use Rattle.binding_laws.proofs.SmallLaws.{never, some_is}
use Rattle.language_ties.specs.AgreeingNames.{has_none, is_declared_plainly, leaves_block, crossed, IsAlone, IsPlainName, StandsInExpressions}
use Rattle.language_ties.specs.Bound as language
use Rattle.language_ties.specs.Bound.{Bound, is_bound_as, written}
use Rattle.language_ties.specs.EcmaScript.{is_ecmascript}
use Rattle.language_ties.specs.Environments.{Environment, same_environment, is_made_for, has_parameter_expressions, environments, innermost, passed, takes_variables, first_taking}
use Rattle.language_ties.specs.Meaning.{is_bound_in, identifiers_in, meaning_past_objects as meaning}
use Rattle.language_ties.specs.Moved.{is_lexical_in, is_parameter_of, is_other_namesake, bars, unless_barred, moved as moved_by, bound_of}
use Rattle.language_ties.specs.declared.bound_as.BoundAs.TheVariants as sort
use Rattle.language_ties.specs.declared.environment_kind.EnvironmentKind.TheVariants as environment
use Rattle.language_ties.specs.OneSymbol.{first_or}
use Rattle.language_ties.proofs.agree.FamiliarPlaces.{IsFamiliar, FamiliarAt, familiar_program}
use Rattle.language_ties.proofs.agree.Identifiers.{same_again, moved_name, moved_identifier, IsBoundHere, bound_here, identifier_here, meaning_further, meaning_here}
use Rattle.language_ties.proofs.agree.KnownNodes.{node_at}
use Rattle.language_ties.proofs.agree.MadeEnvironments.{same_environment_is, taking_usual, EndsAtProgram, innermost_among}
use Rattle.language_ties.proofs.agree.PlaceAgreement.{AllAre, Matches}
use Rattle.language_ties.proofs.agree.PlainBounds.{placed_bound}
use Rattle.language_ties.proofs.block_functions.StayingFunctions.{innermost_unnamed}
use Rattle.language_ties.proofs.clear.PassedScopes.{taking_takes}
use Rattle.language_ties.proofs.moved.FirstMade.{IsFirstMade, first_made, RoundIt, round_it}
use Rattle.language_ties.proofs.moved.OnWays.{IsLeftSomewhere, left_somewhere}
use Rattle.language_ties.proofs.moved.Settled.{settled, settled_bounds, bound_as_settled, settled_name, settled_identifier, settled_stays, settled_leaves, settled_environments, settled_among, IsSettled, is_settled, leaves_function, other_stays, no_function, plain_stays}
use Rattle.language_ties.proofs.tangled.NamePlaces.{AllEnteredAs, AmidAt, amid_program}

-- what leaves no block is bound as it is written
moved_stays : (ws : List Bound) (b : Bound) → leaves_block b ≡ false → moved_by ws b ≡ b
moved_stays ws b h = go (is_bound_as sort.Function b) b.also refl refl h
  where
    go : (t : Bool) (es : List Environment) → is_bound_as sort.Function b ≡ t → b.also ≡ es → (t && not (has_none es)) ≡ false → moved_by ws b ≡ b
    go false es i j k = ap (λ t. cond t (record b { also = unless_barred ws b b.also }) b) i
    go true [] i j k = ap (λ t. cond t (record b { also = unless_barred ws b b.also }) b) i ∙ ap (λ es. record b { also = es }) (ap (unless_barred ws b) j ∙ sym j)
    go true (e ∷ es) i j k = absurd (never k)

module _ (p : Tree) (h : first_fault p ≡ None) (e : is_ecmascript p ≡ true) (numbered : IsNumbered p.root) (x : Name) (not_arguments : bytes_eq x (codes "arguments") ≡ false) (plain : IsPlainName p x) where
  abbrev ws : List Bound
  ws = written p.source_type (steps p)

  abbrev bs : List Bound
  bs = bound_of p

  abbrev vs : List Bound
  vs = settled_bounds p

  abbrev settled_all : List Bound
  settled_all = bound_as_settled p

  -- ---- a function that leaves its block

  record IsLeaving (c : Bound) : Type 0 where
    among : Among c ws
    named : c.name ≡ x
    leaves : leaves_block c ≡ true
    alone : IsAlone p c
    left : IsLeftSomewhere p h e numbered x c

  is_leaving : (c : Bound) → Among c ws → c.name ≡ x → leaves_block c ≡ true → IsLeaving c
  is_leaving c a n l = elim (plain.each c a n) [
    | inl w ↦ absurd (never (sym l ∙ plain_stays c w))
    | inr w ↦ record { among = a; named = n; leaves = l; alone = w.1; left = left_somewhere p h e numbered x c a n l }
  ]

  -- what is bound in an environment on its way is itself
  module _ (c : Bound) (k : IsLeaving c) where
    abbrev V : Environment
    V = k.left.left.variable

    abbrev r : Place
    r = k.left.place

    takes : takes_variables V ≡ true
    takes = taking_takes (environments r.node r.path) V k.left.left.taking

    only_itself : (b : Bound) → Among b ws → b.name ≡ x → (d : Environment) → Among d (crossed c) → Among d (crossed b) → b ≡ c
    only_itself b a n d i j = k.alone b a (n ∙ sym k.named) d d i j (refl, refl)

    in_environment : (b : Bound) (d : Environment) → (b.environment ≡ d) ⊎ Among d b.also → Among d (crossed b)
    in_environment b d (inl q) = inl q
    in_environment b d (inr a) = inr (among_right d b.passed b.also a)

    variable_on_way : Among V (crossed c)
    variable_on_way = inr (among_right V c.passed c.also (subst (Among V) (sym k.left.left.also) (inl refl)))

    -- nothing bars it
    in_any : (test : Environment → Bool) (ds : List Environment) → list_any test ds ≡ true → (d : Environment) × Among d ds × (test d ≡ true)
    in_any test [] w = absurd (never (sym w))
    in_any test (d ∷ ds) w = elim (cases_Bool (test d)) [
      | inl t ↦ (d, inl refl, t)
      | inr t ↦ (let (f, a, v) = in_any test ds (rw t at w) in (f, inr a, v))
    ]

    passed_or_last : (d : Environment) → Among d (c.passed ++ V ∷ []) → Among d (crossed c)
    passed_or_last d a = inr (subst (λ es. Among d (c.passed ++ es)) (sym k.left.left.also) a)

    bars_not : (b : Bound) → Among b ws → bars c V b ≡ false
    bars_not b a = elim (cases_Bool (bars c V b)) [
      | inr w ↦ w
      | inl w ↦ (let other : is_other_namesake c b ≡ true = and_first (is_other_namesake c b) _ w in
          let apart : not (b.identifier == c.identifier) ≡ true = and_first (not (b.identifier == c.identifier)) (bytes_eq b.name c.name) other in
          let named : b.name ≡ x = name b.name c.name (and_second (not (b.identifier == c.identifier)) (bytes_eq b.name c.name) other) ∙ k.named in
          absurd (different b (by b a named (and_second (is_other_namesake c b) (list_any (λ d. is_lexical_in d b) (c.passed ++ V ∷ []) || is_parameter_of V b) w)) apart))
    ]
      where
        name : (y z : Name) → bytes_eq y z ≡ true → y ≡ z
        name y z i = elim (name_tells y z) [ inl j ↦ j.1 | inr j ↦ absurd (never (sym i ∙ j.0)) ]

        different : (b : Bound) → b ≡ c → not (b.identifier == c.identifier) ≡ true → ⊥
        different b q i = elim (eqb_tells b.identifier c.identifier) [
          | inl j ↦ never (sym i ∙ ap not j.0)
          | inr j ↦ j.1 (ap (λ z. z.identifier) q)
        ]

        either : (y z : Bool) → (y || z) ≡ true → (y ≡ true) ⊎ (z ≡ true)
        either true z w = inl refl
        either false z w = inr w

        -- a parameter is bound by no body of an `if`
        parameter_usual : (b : Bound) → Among b ws → b.name ≡ x → is_bound_as sort.Parameter b ≡ true → is_made_for environment.IfBody b.environment ≡ false
        parameter_usual b a n w =
            let function : is_bound_as sort.Function b ≡ false = no_function b sort.Parameter w refl in
            elim (plain.each b a n) [
              | inr v ↦ absurd (never (sym v.0 ∙ other_stays b function))
              | inl v ↦ (let own : is_bound_as sort.OwnName b ≡ false = no_own b w in
                  (placed_bound p h e numbered x b a n (subst (λ t. (t || is_declared_plainly b) ≡ true) own v) own).1.usual.1)
            ]
          where
            no_own : (b : Bound) → is_bound_as sort.Parameter b ≡ true → is_bound_as sort.OwnName b ≡ false
            no_own b w = elim (cases_Bool (is_bound_as sort.OwnName b)) [
              | inr q ↦ q
              | inl q ↦ absurd (two b.sort w q)
            ]
              where
                two : (s : _) → language.same_way s sort.Parameter ≡ true → language.same_way s sort.OwnName ≡ true → ⊥
                two sort.Parameter i j = never (sym j)
                two sort.OwnName i j = never (sym i)
                two sort.Var i j = never (sym i)
                two sort.Lexical i j = never (sym i)
                two sort.Function i j = never (sym i)
                two sort.CatchName i j = never (sym i)

        by : (b : Bound) → Among b ws → b.name ≡ x → (list_any (λ d. is_lexical_in d b) (c.passed ++ V ∷ []) || is_parameter_of V b) ≡ true → b ≡ c
        by b a n w = elim (either (list_any (λ d. is_lexical_in d b) (c.passed ++ V ∷ [])) (is_parameter_of V b) w) [
          | inl v ↦ (let (d, i, t) = in_any (λ d. is_lexical_in d b) (c.passed ++ V ∷ []) v in
              only_itself b a n d (passed_or_last d i) (inl (same_environment_is b.environment d (and_first (same_environment b.environment d) _ t))))
          | inr v ↦ (let maker : (b.environment.maker == V.maker) ≡ true = and_second (is_bound_as sort.Parameter b) (b.environment.maker == V.maker) v in
              k.alone b a (n ∙ sym k.named) V b.environment variable_on_way (inl refl)
              (sym (number b.environment.maker V.maker maker), (taking_usual V takes).1 ∙ sym (parameter_usual b a n (and_first (is_bound_as sort.Parameter b) (b.environment.maker == V.maker) v))))
        ]
          where
            number : (y z : ℕ) → (y == z) ≡ true → y ≡ z
            number y z i = elim (eqb_tells y z) [ inl j ↦ j.1 | inr j ↦ absurd (never (sym i ∙ j.0)) ]

    none_bars : (cs : List Bound) → ((b : Bound) → Among b cs → Among b ws) → list_any (bars c V) cs ≡ false
    none_bars [] f = refl
    none_bars (b ∷ cs) f = rw (bars_not b (f b (inl refl))) (none_bars cs (λ d a. f d (inr a)))

    unmoved : moved_by ws c ≡ c
    unmoved =
        ap (λ t. cond t (record c { also = unless_barred ws c c.also }) c) (leaves_function c k.leaves)
        ∙ ap (λ es. record c { also = es }) (ap (unless_barred ws c) k.left.left.also ∙ ap (λ t. cond t [] (V ∷ [])) (none_bars ws (λ b a. a)) ∙ sym k.left.left.also)

  -- ---- where no such function is bound

  -- none that leaves its block is bound there
  abbrev LeavesNone : Environment → Type 0
  LeavesNone d = (c : Bound) → IsLeaving c → c.environment ≡ d → ⊥

  settled_leaves_none : (c : Bound) → leaves_block (settled c) ≡ false
  settled_leaves_none c = elim (cases_Bool (leaves_block c)) [
    | inr w ↦ ap leaves_block (settled_stays c w) ∙ w
    | inl w ↦ ap leaves_block (settled_leaves c w) ∙ and_false (is_bound_as sort.Function (record c { environment = first_or c.environment c.also; also = [] }))
  ]

  same_test : (d : Environment) → LeavesNone d → (c : Bound) → Among c ws → is_bound_in d x (moved_by ws c) ≡ is_bound_in d x (moved_by vs (settled c))
  same_test d apart c a = elim (name_tells c.name x) [
    | inr n ↦ ap (λ y. bytes_eq y x && (same_environment (moved_by ws c).environment d || list_any (λ f. same_environment f d) (moved_by ws c).also)) (moved_name ws c)
        ∙ ap (λ t. t && (same_environment (moved_by ws c).environment d || list_any (λ f. same_environment f d) (moved_by ws c).also)) n.0
        ∙ sym (ap (λ t. t && (same_environment (moved_by vs (settled c)).environment d || list_any (λ f. same_environment f d) (moved_by vs (settled c)).also)) n.0)
        ∙ sym (ap (λ y. bytes_eq y x && (same_environment (moved_by vs (settled c)).environment d || list_any (λ f. same_environment f d) (moved_by vs (settled c)).also)) (moved_name vs (settled c) ∙ settled_name c))
    | inl n ↦ elim (cases_Bool (leaves_block c)) [
      | inr w ↦ ap (is_bound_in d x) (moved_stays ws c w) ∙ sym (ap (is_bound_in d x) (moved_stays vs (settled c) (settled_leaves_none c) ∙ settled_stays c w))
      | inl w ↦ (let k : IsLeaving c = is_leaving c a n.1 w in
          let not_there : same_environment c.environment d ≡ false = elim (cases_Bool (same_environment c.environment d)) [ inr v ↦ v | inl v ↦ absurd (apart c k (same_environment_is c.environment d v)) ] in
          ap (is_bound_in d x) (unmoved c k)
          ∙ ap (λ t. bytes_eq c.name x && (t || list_any (λ f. same_environment f d) c.also)) not_there
          ∙ ap (λ es. bytes_eq c.name x && list_any (λ f. same_environment f d) es) k.left.left.also
          ∙ sym (ap (λ es. bytes_eq c.name x && (same_environment (first_or c.environment es) d || false)) k.left.left.also)
          ∙ sym (ap (is_bound_in d x) (moved_stays vs (settled c) (settled_leaves_none c) ∙ settled_leaves c w)))
    ]
  ]

  same_identifiers : (d : Environment) → LeavesNone d → identifiers_in bs d x ≡ identifiers_in settled_all d x
  same_identifiers d apart = go ws (λ c a. a)
    where
      go : (cs : List Bound) → ((c : Bound) → Among c cs → Among c ws) → map (λ b. b.identifier) (filter (is_bound_in d x) (map (moved_by ws) cs)) ≡ map (λ b. b.identifier) (filter (is_bound_in d x) (map (moved_by vs) (map settled cs)))
      go [] f = refl
      go (c ∷ cs) f = by (is_bound_in d x (moved_by ws c)) (is_bound_in d x (moved_by vs (settled c))) (same_test d apart c (f c (inl refl))) (go cs (λ b a. f b (inr a)))
        where
          by : (s t : Bool) → s ≡ t → map (λ b. b.identifier) (filter (is_bound_in d x) (map (moved_by ws) cs)) ≡ map (λ b. b.identifier) (filter (is_bound_in d x) (map (moved_by vs) (map settled cs)))
              → map (λ b. b.identifier) (cond s (moved_by ws c ∷ filter (is_bound_in d x) (map (moved_by ws) cs)) (filter (is_bound_in d x) (map (moved_by ws) cs)))
              ≡ map (λ b. b.identifier) (cond t (moved_by vs (settled c) ∷ filter (is_bound_in d x) (map (moved_by vs) (map settled cs))) (filter (is_bound_in d x) (map (moved_by vs) (map settled cs))))
          by true true q later = λ i. (moved_identifier ws c ∙ sym (moved_identifier vs (settled c) ∙ settled_identifier c)) i ∷ later i
          by false false q later = later
          by true false q later = absurd (never q)
          by false true q later = absurd (never (sym q))

  -- ---- where one is

  module _ (c : Bound) (k : IsLeaving c) (d : Environment) (there : c.environment ≡ d) where
    on_way : Among d (crossed c)
    on_way = inl there

    takes_none : takes_variables d ≡ false
    takes_none = ap takes_variables (sym there) ∙ ap (λ z. takes_variables z.environment) k.left.leaves.is_it ∙ not_taking
      where
        not_taking : takes_variables (innermost (environments k.left.place.node k.left.place.path)) ≡ false
        not_taking = by (takes_variables (innermost (environments k.left.place.node k.left.place.path)))
            (and_first (not (takes_variables (innermost (environments k.left.place.node k.left.place.path)))) (not (is_special k.left.place.node))
            (and_first (not (takes_variables (innermost (environments k.left.place.node k.left.place.path))) && not (is_special k.left.place.node)) (not (language.is_strict p.source_type k.left.place.path)) k.left.leaves.ours))
          where
            by : (t : Bool) → not t ≡ true → t ≡ false
            by false w = refl
            by true w = absurd (never (sym w))

    -- its identifier alone binds the name there
    all_itself : (i : ℕ) → Among i (identifiers_in bs d x) → i ≡ c.identifier
    all_itself i a =
        let w : IsBoundHere ws x d ws i = bound_here ws x d ws i a in
        sym w.identifier ∙ ap (λ z. z.identifier) (only_itself c k w.bind w.among w.named d on_way (in_environment c k w.bind d w.there))

    itself_there : Among c.identifier (identifiers_in bs d x)
    itself_there = identifier_here ws x d ws c k.among k.named there

    -- and as settled, none does
    settled_here : (f : Environment) (i : ℕ) → Among f (crossed c) → Among i (identifiers_in settled_all f x) → f ≡ V c k
    settled_here f i on a =
        let w : IsBoundHere vs x f vs i = bound_here vs x f vs i a in
        let s : IsSettled p w.bind = is_settled p w.bind w.among in
        let named : s.source.name ≡ x = sym (settled_name s.source) ∙ ap (λ z. z.name) s.is ∙ w.named in
        let before : Among f (s.source.environment ∷ s.source.also) = settled_environments s.source f (subst (λ (b : Bound). Among f (b.environment ∷ b.also)) (sym s.is) (either w.bind w.there)) in
        let one : s.source ≡ c = only_itself c k s.source s.among named f on (widen s.source before) in
        let is_c : w.bind ≡ record c { environment = first_or c.environment c.also; also = [] } = sym s.is ∙ ap settled one ∙ settled_leaves c k.leaves in
        last (subst (λ (b : Bound). (b.environment ≡ f) ⊎ Among f b.also) is_c w.there)
      where
        either : (b : Bound) → (b.environment ≡ f) ⊎ Among f b.also → Among f (b.environment ∷ b.also)
        either b (inl q) = inl q
        either b (inr j) = inr j

        widen : (b : Bound) → Among f (b.environment ∷ b.also) → Among f (crossed b)
        widen b (inl q) = inl q
        widen b (inr j) = inr (among_right f b.passed b.also j)

        last : (first_or c.environment c.also ≡ f) ⊎ Among f [] → f ≡ V c k
        last (inl q) = sym q ∙ ap (first_or c.environment) k.left.left.also
        last (inr j) = absurd j

    nothing_settled : (f : Environment) → Among f (crossed c) → takes_variables f ≡ false → identifiers_in settled_all f x ≡ []
    nothing_settled f on t = go (identifiers_in settled_all f x) refl
      where
        go : (is : List ℕ) → identifiers_in settled_all f x ≡ is → identifiers_in settled_all f x ≡ []
        go [] q = q
        go (i ∷ is) q = absurd (never (sym (takes c k) ∙ ap takes_variables (sym (settled_here f i on (subst (Among i) (sym q) (inl refl)))) ∙ t))

    -- its variable has its identifier
    variable_there : Among c.identifier (identifiers_in settled_all (V c k) x)
    variable_there = subst (λ i. Among i (identifiers_in settled_all (V c k) x)) (settled_identifier c)
        (identifier_here vs x (V c k) vs (settled c) (settled_among p c k.among) (settled_name c ∙ k.named) (ap (λ z. z.environment) (settled_leaves c k.leaves) ∙ ap (first_or c.environment) k.left.left.also))

    module _ (E : List Environment) (round : environments k.left.place.node k.left.place.path ≡ d ∷ E) where
      passing : c.passed ≡ d ∷ passed E
      passing = k.left.left.passing ∙ ap passed round ∙ ap (λ b. cond b [] (d ∷ passed E)) takes_none

      taking : first_taking E ≡ Some (V c k)
      taking = sym (ap first_taking round ∙ ap (λ b. cond b (Some d) (first_taking E)) takes_none) ∙ k.left.left.taking

      -- up to its variable nothing binds the name
      reaches : (es : List Environment) (o : Option ℕ) → ((f : Environment) → Among f (passed es) → Among f (crossed c)) → first_taking es ≡ Some (V c k) → Matches p o (meaning settled_all es x) → (s : ℕ) × (o ≡ Some s) × (symbol_at (analysis_of p) c.identifier ≡ Some s)
      reaches [] o on t m = absurd (none_is (V c k) t)
        where
          none_is : (z : Environment) → None ≡ Some z → ⊥
          none_is z w = absurd cc
      reaches (f ∷ es) o on t m = by (λ n w i. reaches es o n w (subst (Matches p o) (meaning_further settled_all x not_arguments f es i) m))
        where
          all_among : (is : List ℕ) (s : ℕ) (j : ℕ) → AllAre p is s → Among j is → symbol_at (analysis_of p) j ≡ Some s
          all_among [] s j a i = absurd i
          all_among (i ∷ is) s j a (inl v) = subst (λ z. symbol_at (analysis_of p) z ≡ Some s) v a.0
          all_among (i ∷ is) s j a (inr i2) = all_among is s j a.1 i2

          at_last : f ≡ V c k → (s : ℕ) × (o ≡ Some s) × (symbol_at (analysis_of p) c.identifier ≡ Some s)
          at_last q = go (identifiers_in settled_all f x) refl
            where
              identifier : Among c.identifier (identifiers_in settled_all f x)
              identifier = subst (λ z. Among c.identifier (identifiers_in settled_all z x)) (sym q) variable_there

              go : (is : List ℕ) → identifiers_in settled_all f x ≡ is → (s : ℕ) × (o ≡ Some s) × (symbol_at (analysis_of p) c.identifier ≡ Some s)
              go [] w = absurd (subst (Among c.identifier) w identifier)
              go (i ∷ is) w =
                  let (s, found, all) = subst (Matches p o) (meaning_here settled_all x not_arguments f es i is w) m in
                  (s, found, all_among (i ∷ is) s c.identifier all (subst (Among c.identifier) w identifier))

          further : (((g : Environment) → Among g (passed es) → Among g (crossed c)) → first_taking es ≡ Some (V c k) → identifiers_in settled_all f x ≡ [] → (s : ℕ) × (o ≡ Some s) × (symbol_at (analysis_of p) c.identifier ≡ Some s)) → takes_variables f ≡ false → (s : ℕ) × (o ≡ Some s) × (symbol_at (analysis_of p) c.identifier ≡ Some s)
          further later w =
              let passes : passed (f ∷ es) ≡ f ∷ passed es = ap (λ b. cond b [] (f ∷ passed es)) w in
              let inner : first_taking es ≡ Some (V c k) = sym (ap (λ b. cond b (Some f) (first_taking es)) w) ∙ t in
              let empty : identifiers_in settled_all f x ≡ [] = nothing_settled f (on f (subst (Among f) (sym passes) (inl refl))) w in
              later (λ g a. on g (subst (Among g) (sym passes) (inr a))) inner empty

          by : (((g : Environment) → Among g (passed es) → Among g (crossed c)) → first_taking es ≡ Some (V c k) → identifiers_in settled_all f x ≡ [] → (s : ℕ) × (o ≡ Some s) × (symbol_at (analysis_of p) c.identifier ≡ Some s)) → (s : ℕ) × (o ≡ Some s) × (symbol_at (analysis_of p) c.identifier ≡ Some s)
          by later = elim (cases_Bool (takes_variables f)) [
            | inl w ↦ at_last (some_is f (V c k) (sym (ap (λ b. cond b (Some f) (first_taking es)) w) ∙ t))
            | inr w ↦ further later w
          ]

      all_are : (s : ℕ) → symbol_at (analysis_of p) c.identifier ≡ Some s → (is : List ℕ) → ((j : ℕ) → Among j is → Among j (identifiers_in bs d x)) → AllAre p is s
      all_are s q [] f = tt
      all_are s q (i ∷ is) f = (ap (symbol_at (analysis_of p)) (all_itself i (f i (inl refl))) ∙ q, all_are s q is (λ j a. f j (inr a)))

      -- so the block's own environment has the symbol of what is round it
      in_block : (o : Option ℕ) → Matches p o (meaning settled_all (d ∷ E) x) → Matches p o (meaning bs (d ∷ E) x)
      in_block o m =
          let (s, found, symbol) = reaches E o (λ f a. inr (among_left f c.passed c.also (subst (Among f) (sym passing) (inr a)))) taking (subst (Matches p o) (meaning_further settled_all x not_arguments d E (nothing_settled d on_way takes_none)) m) in
          go s found symbol (identifiers_in bs d x) refl
        where
          go : (s : ℕ) → o ≡ Some s → symbol_at (analysis_of p) c.identifier ≡ Some s → (is : List ℕ) → identifiers_in bs d x ≡ is → Matches p o (meaning bs (d ∷ E) x)
          go s found symbol [] w = absurd (subst (Among c.identifier) w itself_there)
          go s found symbol (i ∷ is) w = subst (Matches p o) (sym (meaning_here bs x not_arguments d E i is w)) (s, found, all_are s symbol (i ∷ is) (λ j a. subst (Among j) (sym w) a))

  -- ---- all environments of a place

  -- which function that leaves its block is bound there
  some_leaving : (d : Environment) (cs : List Bound) → ((c : Bound) → Among c cs → Among c ws) → ((c : Bound) × IsLeaving c × (c.environment ≡ d)) ⊎ ((c : Bound) → Among c cs → c.name ≡ x → leaves_block c ≡ true → c.environment ≡ d → ⊥)
  some_leaving d [] f = inr (λ c a. absurd a)
  some_leaving d (b ∷ cs) f = elim (some_leaving d cs (λ c a. f c (inr a))) [
    | inl w ↦ inl w
    | inr w ↦ elim (name_tells b.name x) [
      | inr n ↦ inr (λ c a m l q. elim a [ inl i ↦ n.1 (ap (λ z. z.name) i ∙ m) | inr i ↦ w c i m l q ])
      | inl n ↦ elim (cases_Bool (leaves_block b)) [
        | inr l ↦ inr (λ c a m v q. elim a [ inl i ↦ never (sym (subst (λ z. leaves_block z ≡ true) (sym i) v) ∙ l) | inr i ↦ w c i m v q ])
        | inl l ↦ elim (cases_Bool (same_environment b.environment d)) [
          | inl q ↦ inl (b, is_leaving b (f b (inl refl)) n.1 l, same_environment_is b.environment d q)
          | inr q ↦ inr (λ c a m v u. elim a [ inl i ↦ never (sym (same_again d) ∙ sym (ap (λ z. same_environment z d) (ap (λ z. z.environment) i ∙ u)) ∙ q) | inr i ↦ w c i m v u ])
        ]
      ]
    ]
  ]

  -- round each environment of such a function stand those of its declaration
  abbrev AllRound : List Environment → Type 0
  AllRound es = (c : Bound) (k : IsLeaving c) → RoundIt c.environment (environments k.left.place.node k.left.place.path) es

  entered_as : (q : Place) → Among (entering q) (steps p) → AllEnteredAs (steps p) (q.node ∷ q.path)
  entered_as q a = (record { place = q; entered = a; node = refl; above = refl }, (each_at (AmidAt (steps p)) (steps p) (entering q) (amid_program p) a).above)

  all_round : (q : Place) → Among (entering q) (steps p) → AllRound (environments q.node q.path)
  all_round q a c k =
      round_it p numbered r c.environment (environments r.node r.path) made (takes_none c k c.environment refl) unnamed q.node q.path (entered_as q a)
    where
      r : Place
      r = k.left.place

      es : List Environment
      es = environments r.node r.path

      innermost_is : c.environment ≡ innermost es
      innermost_is = ap (λ z. z.environment) k.left.leaves.is_it

      unnamed : is_made_for environment.OwnName c.environment ≡ false
      unnamed = ap (is_made_for environment.OwnName) innermost_is ∙ innermost_unnamed r.node r.path

      no_program : kind.Program ≡ kind.Function → ⊥
      no_program i = absurd cc

      first_there : Among (innermost es) es
      first_there = go r.path refl
        where
          familiar : IsFamiliar (node_at p) r
          familiar = each_at (FamiliarAt (node_at p)) (steps p) (entering r) (familiar_program p h e numbered) k.left.entered

          go : (l : List Node) → r.path ≡ l → Among (innermost (environments r.node r.path)) (environments r.node r.path)
          go [] w = absurd (no_program (sym (subst (EndsAtProgram r.node) w familiar.rooted) ∙ k.left.leaves.function))
          go (y ∷ l) w = subst (λ z. Among (innermost (environments r.node z)) (environments r.node z)) (sym w) (innermost_among r.node y l (subst (EndsAtProgram r.node) w familiar.rooted))

      made : IsFirstMade (steps p) c.environment es
      made = subst (λ d. IsFirstMade (steps p) d es) (sym innermost_is) (first_made (steps p) r.node r.path (entered_as r k.left.entered) first_there (ap takes_variables (sym innermost_is) ∙ takes_none c k c.environment refl))

  same_meaning : (es : List Environment) → AllRound es → (o : Option ℕ) → Matches p o (meaning settled_all es x) → Matches p o (meaning bs es x)
  same_meaning [] round o m = m
  same_meaning (d ∷ es) round o m = elim (some_leaving d ws (λ c a. a)) [
    | inl w ↦ in_block w.0 w.1 d w.2 es ((round w.0 w.1).0 w.2) o m
    | inr w ↦ by (same_identifiers d (λ c k q. w c k.among k.named k.leaves q)) (λ n. same_meaning es (λ c k. (round c k).1) o n)
  ]
    where
      by : identifiers_in bs d x ≡ identifiers_in settled_all d x → (Matches p o (meaning settled_all es x) → Matches p o (meaning bs es x)) → Matches p o (meaning bs (d ∷ es) x)
      by same later = go (identifiers_in settled_all d x) refl
        where
          go : (is : List ℕ) → identifiers_in settled_all d x ≡ is → Matches p o (meaning bs (d ∷ es) x)
          go [] w = subst (Matches p o) (sym (meaning_further bs x not_arguments d es (same ∙ w))) (later (subst (Matches p o) (meaning_further settled_all x not_arguments d es w) m))
          go (i ∷ is) w = subst (Matches p o) (sym (meaning_here bs x not_arguments d es i is (same ∙ w))) (subst (Matches p o) (meaning_here settled_all x not_arguments d es i is w) m)

  pub as_language : (q : Place) → Among (entering q) (steps p) → (o : Option ℕ) → Matches p o (meaning settled_all (environments q.node q.path) x) → Matches p o (meaning bs (environments q.node q.path) x)
  as_language q a o m = same_meaning (environments q.node q.path) (all_round q a) o m

-- where parameters have an expression if something binds the name among them, they have one if it does as settled
pub expressed : (p : Tree) (x : Name) (child : Node) (path : List Node) → StandsInExpressions (written p.source_type (steps p)) x child path → StandsInExpressions (settled_bounds p) x child path
expressed p x child [] i = tt
expressed p x child (f ∷ path) i = (λ k b d a n on maker. by k b d a n on maker, expressed p x f path i.1)
  where
    by : is kind.FormalParameters child ≡ true → (b : Bound) (d : Environment) → Among b (settled_bounds p) → b.name ≡ x → Among d (b.environment ∷ b.also) → d.maker ≡ f.node_id → has_parameter_expressions f ≡ true
    by k b d a n on maker =
        let s : IsSettled p b = is_settled p b a in
        i.0 k s.source d s.among (sym (settled_name s.source) ∙ ap (λ z. z.name) s.is ∙ n) (settled_environments s.source d (subst (λ (z : Bound). Among d (z.environment ∷ z.also)) (sym s.is) on)) maker
