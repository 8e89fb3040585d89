-- Each declaration of the language is told to the tables.
use Rattle.std.proofs.Common.{◌≡◌, ℕ, List, [], ◌∷◌, ◌++◌, None, Bool, true, false, flat_map, refl, sym, ap, ◌∙◌, inl, inr}
use Rattle.semantic_kinds.specs.Kinds.{same_kind}
use Rattle.semantic_kinds.specs.declared.kind.AstType.{AstType}
use Rattle.semantic_kinds.specs.declared.kind.AstType.TheVariants as kind
use Rattle.semantic_syntax.specs.SourceTypes.{is_typescript}
use Rattle.semantic_tree.specs.Faults.{first_fault}
use Rattle.semantic_tree.specs.Tree.{Tree, IsNumbered}
use Rattle.semantic_model.specs.Binder.{declared_inside, declared_on_entering, declared_on_opening}
use Rattle.semantic_model.specs.Declaration.{Declaration}
use Rattle.semantic_model.specs.Entries.{Among}
use Rattle.semantic_model.specs.Event.{declares, declared, declarations, events, events_of, declares_all, taken_over, placed, written_declarations}
use Rattle.semantic_model.specs.Inside.{opens}
use Rattle.semantic_model.specs.Place.{Place, OpenScope, innermost}
use Rattle.semantic_model.specs.ScopeKind.{opened_scope}
use Rattle.semantic_model.specs.Step.{Step, entering, opening, header_ending, closing, leaving, steps}
use Rattle.semantic_model.proofs.form.Shape.{has_form}
use Rattle.semantic_model.proofs.lists.Members.{among_right, among_cases}
use Rattle.program_laws.proofs.DeclaredNodes.{among_flat}
use Rattle.binding_laws.proofs.ListLaws.{of_flat, of_map, each_at}
use Rattle.typescript_ties.specs.NamedDeclarations.{NamedDeclaration, is_sort, named_by_node, named_at, named_in}
use Rattle.typescript_ties.specs.SimpleNames.{is_common}
use Rattle.typescript_ties.specs.declared.declaration_sort.DeclarationSort.TheVariants as sort
use Rattle.typescript_ties.proofs.HeadPlaces.{IsCommonPlace, CommonStep, common_places}
use Rattle.typescript_ties.proofs.KnownPlaces.{IsKnownPlace, KnownStep, known_places}
use Rattle.typescript_ties.proofs.OwnScopes.{OwnScope, OwnStep, own_program}
use Rattle.typescript_ties.proofs.Pairs.{IsPair, AllPairs, pair_of_named, pairs_by}
use Rattle.binding_laws.proofs.ScopeOpeners.{openers, IsOpened, AllOpened, IsPlaceOpened, places_opened, innermost_opened, root_opener}
use Rattle.binding_laws.proofs.SmallLaws.{never}
use Rattle.typescript_ties.proofs.VarRoutes.{StandsWell, StandingStep, all_stand_well}

-- what a node declares in its own scope, it opens one for
opens_inside : (q : Place) (own : OpenScope) (w : Declaration) (k : AstType) → Among w (declared_inside k q own) → opens k ≡ true
opens_inside q own w kind.Function a = refl
opens_inside q own w kind.Class a = refl
opens_inside q own w kind.TSMappedType a = refl
opens_inside q own w _ a = absurd a

-- ---- the program

module _ (p : Tree) (h : first_fault p ≡ None) (common : is_common p ≡ true) (typed : is_typescript p.source_type ≡ true) (numbered : IsNumbered p.root) where
  abbrev ds : List Declaration
  ds = written_declarations (steps p)

  abbrev all : List Declaration
  all = declarations (events (steps p))

  pub common_at : (q : Place) → Among (entering q) (steps p) → IsCommonPlace p q
  common_at q a = each_at (CommonStep p) (steps p) (entering q) (common_places p h common numbered) a

  pub known_at : (q : Place) → Among (entering q) (steps p) → IsKnownPlace q
  known_at q a = each_at KnownStep (steps p) (entering q) (known_places p h) a

  pub chain_opened : (q : Place) → Among (entering q) (steps p) → AllOpened (openers (steps p)) q.chain
  chain_opened q a = each_at (IsPlaceOpened (openers (steps p))) (steps p) (entering q) (places_opened p) a

  pub head_opened : (q : Place) → Among (entering q) (steps p) → IsOpened (openers (steps p)) (innermost q.chain)
  head_opened q a = innermost_opened (openers (steps p)) (root_opener p (has_form p h).root numbered) q.chain (chain_opened q a)

  -- the number of a place's scope
  pub record OwnCount (q : Place) : Type 0 where
    pub count : ℕ
    pub opened : opens q.node.kind ≡ true → IsOpened (openers (steps p)) (opened_scope q count)
    pub among : opens q.node.kind ≡ true → Among (opening q (opened_scope q count)) (steps p)

  pub own_count : (q : Place) → Among (entering q) (steps p) → OwnCount q
  own_count q a = by (opens q.node.kind) refl (each_at (OwnStep (steps p) (openers (steps p))) (steps p) (entering q) (own_program p) a)
    where
      by : (b : Bool) → opens q.node.kind ≡ b → (opens q.node.kind ≡ true → OwnScope (steps p) (openers (steps p)) q) → OwnCount q
      by true i f = let o : OwnScope (steps p) (openers (steps p)) q = f i in record { count = o.count; opened = λ e. o.opened; among = λ e. o.among }
      by false i f = record { count = 0; opened = λ e. absurd (never (sym e ∙ i)); among = λ e. absurd (never (sym e ∙ i)) }

  pub well_at : (q : Place) → Among (entering q) (steps p) → StandsWell p q
  well_at q a = each_at (StandingStep p) (steps p) (entering q) (all_stand_well p h common numbered) a

  entered_of : (n : NamedDeclaration) (ss : List Step) → Among n (flat_map (named_at p.source_type) ss) → (q : Place) × Among (entering q) ss × Among n (named_by_node q.node.kind p.source_type q.node q.path)
  entered_of n [] a = absurd a
  entered_of n (st ∷ ss) a =
      let (z, b, c) = among_flat (named_at p.source_type) (st ∷ ss) n a in go z b c
    where
      go : (z : Step) → Among z (st ∷ ss) → Among n (named_at p.source_type z) → (q : Place) × Among (entering q) (st ∷ ss) × Among n (named_by_node q.node.kind p.source_type q.node q.path)
      go (entering q) b c = (q, b, c)
      go (opening q o) b c = absurd c
      go (header_ending q o) b c = absurd c
      go (closing q o) b c = absurd c
      go (leaving q) b c = absurd c

  -- the declaration of the tables, as it is written, and the pair that both are
  pub record IsTold (n : NamedDeclaration) : Type 0 where
    pub written : Declaration
    pub pair : IsPair p written n
    pub among : Among (placed ds written) all

  pub told_of : (n : NamedDeclaration) → Among n (named_in p) → is_sort sort.IndexParameter n ≡ false → IsTold n
  told_of n a other =
      let (q, entered, b) = entered_of n (steps p) a in
      let k : IsKnownPlace q = known_at q entered in
      let indexed : same_kind q.node.kind kind.TSIndexSignatureName ≡ false = no_index q n q.node.kind b other in
      let o : OwnCount q = own_count q entered in
      let own : OpenScope = opened_scope q o.count in
      let pairs : AllPairs p (declared_on_opening q own ++ declared_on_entering q) (named_by_node q.node.kind p.source_type q.node q.path) =
      pairs_by p q entered (common_at q entered) (well_at q entered) typed o.count (chain_opened q entered) (head_opened q entered) o.opened q.node.kind refl indexed k.whole k.rooted in
      let (w, i, c) = pair_of_named p (declared_on_opening q own ++ declared_on_entering q) (named_by_node q.node.kind p.source_type q.node q.path) pairs n b in
      let event : Among (declares (placed ds w)) (events (steps p)) = elim (among_cases w (declared_on_opening q own) (declared_on_entering q) i) [
        | inl j ↦ of_flat (events_of ds) (steps p) (opening q own) (declares (placed ds w)) (o.among (opens_inside q own w q.node.kind j))
            (among_right (declares (placed ds w)) (taken_over q own) (declares_all ds (declared_on_opening q own)) (of_map (λ z. declares (placed ds z)) (declared_on_opening q own) w j))
        | inr j ↦ of_flat (events_of ds) (steps p) (entering q) (declares (placed ds w)) entered (of_map (λ z. declares (placed ds z)) (declared_on_entering q) w j)
      ] in
      record { written = w; pair = c; among = of_flat declared (events (steps p)) (declares (placed ds w)) (placed ds w) event (inl refl) }
    where
      no_index : (q : Place) (n : NamedDeclaration) (k : AstType) → Among n (named_by_node k p.source_type q.node q.path) → is_sort sort.IndexParameter n ≡ false → same_kind k kind.TSIndexSignatureName ≡ false
      no_index q n kind.TSIndexSignatureName (inl i) u = absurd (never (ap (is_sort sort.IndexParameter) i ∙ u))
      no_index q n kind.TSIndexSignatureName (inr i) u = absurd i
      no_index q n kind.Program a u = refl
      no_index q n _ a u = refl
