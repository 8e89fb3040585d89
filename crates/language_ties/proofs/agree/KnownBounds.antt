-- What is known of all that binds a plain name: where it is declared, and that no scope takes its scope over but a clause's body.
use Rattle.std.proofs.Common.{◌≡◌, ℕ, List, [], ◌∷◌, Option, Some, None, true, false, ◌&&◌, ◌||◌, not, inl, inr, ◌⊎◌, refl, sym, ap, subst, ◌∙◌}
use Rattle.std.proofs.lemmas.Bool.{and_from}
use Rattle.semantic_syntax.proofs.Truth.{and_false}
use Rattle.semantic_kinds.specs.declared.kind.AstType.TheVariants as kind
use Rattle.semantic_syntax.specs.Tables.{Name}
use Rattle.semantic_tree.specs.Faults.{first_fault}
use Rattle.semantic_tree.specs.Tree.{Tree, IsNumbered}
use Rattle.semantic_tree.specs.declared.node.Node.{Node}
use Rattle.semantic_model.specs.Analysis.{analysis_of, symbol_at}
use Rattle.semantic_model.specs.Entries.{Among}
use Rattle.semantic_model.specs.Place as place
use Rattle.semantic_model.specs.Step.{entering, steps}
use Rattle.binding_laws.proofs.ListLaws.{each_at}
use Rattle.binding_laws.proofs.SmallLaws.{some_is, never}
use Rattle.language_ties.specs.AgreeingNames.{has_none, is_declared_plainly, leaves_block, IsAlone, IsPlainName}
use Rattle.language_ties.specs.Bound.{Bound, is_bound_as, written}
use Rattle.language_ties.specs.EcmaScript.{is_ecmascript}
use Rattle.language_ties.specs.Environments.{Environment, is_made_for, environments, takes_variables, first_taking}
use Rattle.language_ties.specs.declared.bound_as.BoundAs.TheVariants as bound
use Rattle.language_ties.specs.declared.environment_kind.EnvironmentKind.{EnvironmentKind}
use Rattle.language_ties.specs.declared.environment_kind.EnvironmentKind.TheVariants as environment
use Rattle.language_ties.specs.OneSymbol.{HaveOneSymbol, first_or, VariablesHaveOneSymbol}
use Rattle.language_ties.specs.SharedSymbols.{ShareSymbols}
use Rattle.language_ties.proofs.agree.FamiliarPlaces.{IsFamiliar, FamiliarAt, IsClauseScope, familiar_program, innermost_clause, known_among}
use Rattle.language_ties.proofs.agree.KnownNodes.{node_at}
use Rattle.language_ties.proofs.agree.MadeEnvironments.{may_make, IsMadeBy, made_in, IsUsual, taking_usual, taking_among}
use Rattle.language_ties.proofs.agree.PlainBounds.{IsPlacedBound, placed_bound}
use Rattle.language_ties.proofs.clear.PassedScopes.{taking_takes}
use Rattle.language_ties.proofs.moved.LeavingFunctions.{LeavesAt, IsLeft}
use Rattle.language_ties.proofs.moved.OnWays.{IsLeftSomewhere, left_somewhere, placed_as_left}
use Rattle.language_ties.proofs.moved.Settled.{settled, settled_bounds, settled_name, settled_identifier, settled_sort, settled_stays, settled_leaves, settled_last, settled_among, leaves_function, only_function, plain_stays, IsSettled, is_settled}
use Rattle.language_ties.proofs.symbols.OneSymbol.{DeclarationOf, StaysThere, declared_there, declaration_of, share_symbol}

-- an environment that takes variables is no class's
pub taking_no_class : (d : Environment) → takes_variables d ≡ true → is_made_for environment.Class d ≡ false
taking_no_class d h = go d.kind h
  where
    go : (k : EnvironmentKind) → takes_variables (record { kind = k; maker = d.maker }) ≡ true → is_made_for environment.Class (record { kind = k; maker = d.maker }) ≡ false
    go environment.Class q = absurd cc
    go _ q = refl

module _ (p : Tree) (h : first_fault p ≡ None) (e : is_ecmascript p ≡ true) (numbered : IsNumbered p.root) (x : Name) (plain : IsPlainName p x) where
  abbrev ws : List Bound
  ws = settled_bounds p

  -- a function that leaves its block alone
  pub record LeavesThere (b : Bound) (d : DeclarationOf p h e numbered x b) : Type 0 where
    pub source : Bound
    pub among : Among source (written p.source_type (steps p))
    pub named : source.name ≡ x
    pub is : settled source ≡ b
    pub bare : b.also ≡ []
    pub alone : IsAlone p source
    pub binds : LeavesAt p.source_type d.place source
    pub left : IsLeft d.place source
    pub declares : d.declaration ≡ left.declaration
    pub taking : first_taking (environments d.place.node d.place.path) ≡ Some b.environment

  -- what is known of what binds the name, but for own names of expressions
  pub record KnownBound (b : Bound) : Type 0 where
    pub plainly : is_declared_plainly b ≡ true
    pub no_own : is_bound_as bound.OwnName b ≡ false
    pub placed : IsPlacedBound p b
    pub declares : DeclarationOf p h e numbered x b
    pub origin : StaysThere p h e numbered x b declares ⊎ LeavesThere b declares

  known_plain : (b : Bound) → Among b (written p.source_type (steps p)) → b.name ≡ x → is_declared_plainly b ≡ true → is_bound_as bound.OwnName b ≡ false → KnownBound b
  known_plain b a n one o =
      let (node, placed) = placed_bound p h e numbered x b a n one o in
      let (d, stays) = declaration_of p h e numbered x b node n in
      record { plainly = one; no_own = o; placed = placed; declares = d; origin = inl stays }

  module _ (c : Bound) (a : Among c (written p.source_type (steps p))) (n : c.name ≡ x) (leaves : leaves_block c ≡ true) (alone : IsAlone p c) where
    l : IsLeftSomewhere p h e numbered x c
    l = left_somewhere p h e numbered x c a n leaves

    takes : takes_variables l.left.variable ≡ true
    takes = taking_takes (environments l.place.node l.place.path) l.left.variable l.left.taking

    environment_is : (settled c).environment ≡ l.left.variable
    environment_is = ap (λ z. z.environment) (settled_leaves c leaves) ∙ ap (first_or c.environment) l.left.also

    also_none : (settled c).also ≡ []
    also_none = ap (λ z. z.also) (settled_leaves c leaves)

    usual : IsUsual (settled c).environment
    usual = subst IsUsual (sym environment_is) (taking_usual l.left.variable takes)

    function : is_bound_as bound.Function (settled c) ≡ true
    function = ap (λ w. is_bound_as bound.Function (record (settled c) { sort = w })) (settled_sort c) ∙ leaves_function c leaves

    plainly : is_declared_plainly (settled c) ≡ true
    plainly = and_from (has_none (settled c).also || is_bound_as bound.Lexical (settled c)) _
        (ap (λ es. has_none es || is_bound_as bound.Lexical (settled c)) also_none)
        (and_from (not (is_made_for environment.Class (settled c).environment)) _
        (ap (λ d. not (is_made_for environment.Class d)) environment_is ∙ ap not (taking_no_class l.left.variable takes))
        (ap (λ t. not (is_bound_as bound.Function (settled c) && t)) usual.1 ∙ ap not (and_false (is_bound_as bound.Function (settled c)))))

    made : IsMadeBy (l.place.node ∷ l.place.path) l.left.variable
    made = made_in l.place.node l.place.path l.left.variable (taking_among (environments l.place.node l.place.path) l.left.variable l.left.taking)

    placed : IsPlacedBound p (settled c)
    placed =
        let familiar : IsFamiliar (node_at p) l.place = each_at (FamiliarAt (node_at p)) (steps p) (entering l.place) (familiar_program p h e numbered) l.entered in
        record {
          usual = usual;
          maker = made.maker;
          found = ap (λ d. node_at p d.maker) environment_is ∙ ap (node_at p) made.is ∙ known_among (node_at p) (l.place.node ∷ l.place.path) made.maker (familiar.node, familiar.path) made.among;
          makes = subst (λ d. may_make made.maker.kind d.kind ≡ true) (sym environment_is) made.makes;
          body = λ w. made.body (sym (ap (is_made_for environment.Body) environment_is) ∙ w);
        }

    known_leaving : KnownBound (settled c)
    unfolding declared_there
    known_leaving = record {
      plainly = plainly;
      no_own = only_function (settled c) bound.OwnName function refl;
      placed = placed;
      declares = declared_there p h e numbered x (settled c) l.place l.entered l.left.declaration l.left.told (placed_as_left p h e numbered x plain c a n alone l) (l.left.named ∙ n) (l.left.identifier ∙ sym (settled_identifier c)) (l.left.opener ∙ ap (λ d. d.maker) (sym environment_is));
      origin = inr (record {
        source = c;
        among = a;
        named = n;
        is = refl;
        bare = also_none;
        alone = alone;
        binds = l.leaves;
        left = l.left;
        declares = refl;
        taking = l.left.taking ∙ ap Some (sym environment_is);
      });
    }

  pub known_bound : (b : Bound) → Among b ws → b.name ≡ x → is_bound_as bound.OwnName b ≡ false → KnownBound b
  known_bound b a n o =
      let s : IsSettled p b = is_settled p b a in
      let named : s.source.name ≡ x = sym (settled_name s.source) ∙ ap (λ z. z.name) s.is ∙ n in
      let other : is_bound_as bound.OwnName s.source ≡ false = ap (λ w. is_bound_as bound.OwnName (record s.source { sort = w })) (sym (settled_sort s.source) ∙ ap (λ z. z.sort) s.is) ∙ o in
      elim (plain.each s.source s.among named) [
        | inl w ↦ subst KnownBound (sym (settled_stays s.source (plain_stays s.source w)) ∙ s.is) (known_plain s.source s.among named (subst (λ t. (t || is_declared_plainly s.source) ≡ true) other w) other)
        | inr w ↦ subst KnownBound s.is (known_leaving s.source s.among named w.0 w.1)
      ]

  -- its scope is no clause's
  no_clause : (b : Bound) → KnownBound b → is_made_for environment.Catch b.environment ≡ false → (y : Node) → node_at p b.environment.maker ≡ Some y → y.kind ≡ kind.CatchClause → ⊥
  no_clause b k apart y f c =
      let same : k.placed.maker ≡ y = some_is k.placed.maker y (sym k.placed.found ∙ f) in
      let makes : may_make kind.CatchClause b.environment.kind ≡ true = subst (λ i. may_make i b.environment.kind ≡ true) (ap (λ z. z.kind) same ∙ c) k.placed.makes in
      never (sym makes ∙ apart)

  -- nor goes it to another
  pub bodiless : (b : Bound) (k : KnownBound b) → is_made_for environment.Catch b.environment ≡ false → k.declares.declaration.route.target.body ≡ None
  bodiless b k apart = go k.declares.declaration.route.target.body refl
    where
      go : (o : Option ℕ) → k.declares.declaration.route.target.body ≡ o → k.declares.declaration.route.target.body ≡ None
      go None q = q
      go (Some c) q =
          let inner : k.declares.declaration.route.target ≡ place.innermost k.declares.place.chain = k.declares.bodied c q in
          let familiar : IsFamiliar (node_at p) k.declares.place = each_at (FamiliarAt (node_at p)) (steps p) (entering k.declares.place) (familiar_program p h e numbered) k.declares.entered in
          let clause : IsClauseScope (node_at p) k.declares.declaration.route.target = subst (IsClauseScope (node_at p)) (sym inner) (innermost_clause (node_at p) k.declares.place.chain familiar.clauses) in
          let (y, f, c2) = clause c q in
          absurd (no_clause b k apart y (ap (node_at p) (sym k.declares.maker) ∙ f) c2)

  -- what is bound in environments of one node has one symbol, functions that leave their blocks where their variables are
  pub one_variable : ShareSymbols p x → VariablesHaveOneSymbol p x
  one_variable shared b c i j n m o u q =
      let first : KnownBound (settled b) = known_bound (settled b) (settled_among p b i) (settled_name b ∙ n) (same_sort b ∙ o) in
      let second : KnownBound (settled c) = known_bound (settled c) (settled_among p c j) (settled_name c ∙ m) (same_sort c ∙ u) in
      let both : HaveOneSymbol p (settled b) (settled c) = share_symbol p h e numbered x shared (settled b) (settled c) first.declares second.declares (ap (λ d. d.maker) (settled_last b) ∙ q ∙ ap (λ d. d.maker) (sym (settled_last c))) in
      record {
        symbol = both.symbol;
        first = subst (λ k. symbol_at (analysis_of p) k ≡ Some both.symbol) (settled_identifier b) both.first;
        second = subst (λ k. symbol_at (analysis_of p) k ≡ Some both.symbol) (settled_identifier c) both.second;
      }
    where
      same_sort : (d : Bound) → is_bound_as bound.OwnName (settled d) ≡ is_bound_as bound.OwnName d
      same_sort d = ap (λ w. is_bound_as bound.OwnName (record d { sort = w })) (settled_sort d)
