-- The declarations of a name that is declared simply, as the tables and as the language have them.
use Rattle.std.proofs.Common.{◌≡◌, ℕ, List, [], ◌∷◌, ◌++◌, Some, None, true, false, refl, sym, ap, subst, ◌∙◌, inl, inr, ◌⊎◌}
use Rattle.std.specs.Prelude.{slice_get}
use Rattle.semantic_syntax.specs.SourceTypes.{is_typescript}
use Rattle.semantic_syntax.specs.Tables.{Name}
use Rattle.semantic_tree.specs.Faults.{first_fault}
use Rattle.semantic_tree.specs.Tree.{Tree, IsNumbered}
use Rattle.semantic_model.specs.Binder.{declared_on_entering, declared_on_opening}
use Rattle.semantic_model.specs.Binding.{get}
use Rattle.semantic_model.specs.Declaration.{Declaration, plain, hoisted}
use Rattle.semantic_model.specs.Entries.{Among}
use Rattle.semantic_model.specs.Event.{declarations, events, placed, placed_by, written_declarations}
use Rattle.semantic_model.specs.Fold.{State, Made, start}
use Rattle.semantic_model.specs.Hoist.{run}
use Rattle.semantic_model.specs.Inside.{opens}
use Rattle.semantic_model.specs.Place.{Place, OpenScope}
use Rattle.semantic_model.specs.ScopeKind.{opened_scope}
use Rattle.semantic_model.specs.Step.{entering, opening, steps}
use Rattle.semantic_model.proofs.fits.NothingInvented.{made_declared}
use Rattle.semantic_model.proofs.bindings.NearestVar.{nearest}
use Rattle.semantic_model.proofs.fold.Orders.{table_of}
use Rattle.semantic_model.proofs.lists.Members.{among_right}
use Rattle.semantic_model.specs.TablesOf.{made_of}
use Rattle.binding_laws.proofs.DeclaredMade.{is_made}
use Rattle.binding_laws.proofs.ListLaws.{each_at}
use Rattle.binding_laws.specs.SeenDeclarations.{is_own_name}
use Rattle.typescript_ties.specs.DeclaredNames.{told_to_tables, told_by_language}
use Rattle.typescript_ties.specs.NamedDeclarations.{NamedDeclaration, is_sort, named_by_node, named_in}
use Rattle.typescript_ties.specs.SimpleNames.{is_common, IsSimplyDeclared}
use Rattle.typescript_ties.specs.declared.declaration_sort.DeclarationSort.TheVariants as sort
use Rattle.typescript_ties.proofs.IndexPlaces.{other_sort}
use Rattle.typescript_ties.proofs.KnownPlaces.{IsKnownPlace}
use Rattle.typescript_ties.proofs.OwnScopes.{among_opened, OwnStep, own_program}
use Rattle.typescript_ties.proofs.Pairs.{IsPassedAs, WayOf, stays, goes_out, IsSimplePair, AllPairs, pair_of_written, pairs_by}
use Rattle.binding_laws.proofs.ScopeOpeners.{openers, IsOpened, IsPlaceOpened, places_opened}
use Rattle.binding_laws.proofs.SmallLaws.{never, some_is}
use Rattle.typescript_ties.proofs.ClearNames.{Untouched, Free, AllClear, none_some}
use Rattle.typescript_ties.proofs.ClearFold.{ClearState}
use Rattle.typescript_ties.proofs.ClearTies.{AllSeen, outermost, past, clear_at_last}
use Rattle.typescript_ties.proofs.LikeFlags.{IsVariable}
use Rattle.typescript_ties.proofs.ToldDeclarations.{common_at, known_at, chain_opened, head_opened, OwnCount, own_count, well_at, IsTold, told_of}
use Rattle.typescript_ties.proofs.UndeclaredFree.{IsWritten, is_written, not_index, named_among}

-- ---- the program

module _ (p : Tree) (h : first_fault p ≡ None) (common : is_common p ≡ true) (typed : is_typescript p.source_type ≡ true) (numbered : IsNumbered p.root) (x : Name) (simply : IsSimplyDeclared p x) where
  abbrev ds : List Declaration
  ds = written_declarations (steps p)

  abbrev all : List Declaration
  all = declarations (events (steps p))

  -- a declaration of the tables and of the language
  pub record IsBoth (d : Declaration) (n : NamedDeclaration) : Type 0 where
    pub among : Among d all
    pub named : Among n (named_in p)
    pub named_so : n.name ≡ x
    pub other : is_sort sort.IndexParameter n ≡ false
    pub told : told_to_tables d ≡ told_by_language n
    pub pair : IsSimplePair p d n
    pub opened : IsOpened (openers (steps p)) d.route.target

  -- that of a declaration as it is written
  record WrittenCount (d : Declaration) (w : IsWritten p d) : Type 0 where
    count : ℕ
    opened : opens w.place.node.kind ≡ true → IsOpened (openers (steps p)) (opened_scope w.place count)
    among : Among w.written (declared_on_opening w.place (opened_scope w.place count) ++ declared_on_entering w.place)

  written_count : (d : Declaration) (w : IsWritten p d) → WrittenCount d w
  written_count d w = elim w.opened [
    | inl a ↦ record { count = w.count; opened = λ e. each_at (OwnStep (steps p) (openers (steps p))) (steps p) (opening w.place (opened_scope w.place w.count)) (own_program p) a; among = w.among }
    | inr a ↦ (let o : OwnCount p h common typed numbered w.place = own_count p h common typed numbered w.place w.entered in record { count = o.count; opened = o.opened; among = among_right w.written (declared_on_opening w.place (opened_scope w.place o.count)) (declared_on_entering w.place) a })
  ]

  stays_placed : (w : Declaration) (n : NamedDeclaration) → WayOf p w n → placed ds w ≡ w
  stays_placed w n (stays e) = ap (λ how. placed_by how ds w) e
  stays_placed w n (goes_out e variable is_var q entered at each) = ap (λ how. placed_by how ds w) e

  named_of : (w : Declaration) (n : NamedDeclaration) → told_to_tables w ≡ told_by_language n → w.naming.name ≡ x → n.name ≡ x
  named_of w n t e = sym (ap (λ z. z.name) t) ∙ e

  pub of_tables : (d : Declaration) → Among d all → d.naming.name ≡ x → (n : NamedDeclaration) × IsBoth d n
  of_tables d a e =
      let w : IsWritten p d = is_written p d a in
      let k : IsKnownPlace w.place = known_at p h common typed numbered w.place w.entered in
      let o : WrittenCount d w = written_count d w in
      let pairs : AllPairs p (declared_on_opening w.place (opened_scope w.place o.count) ++ declared_on_entering w.place) (named_by_node w.place.node.kind p.source_type w.place.node w.place.path) =
      pairs_by p w.place w.entered (common_at p h common typed numbered w.place w.entered) (well_at p h common typed numbered w.place w.entered) typed o.count (chain_opened p h common typed numbered w.place w.entered) (head_opened p h common typed numbered w.place w.entered) o.opened w.place.node.kind refl (not_index w.place o.count w.written o.among) k.whole k.rooted in
      let (n, b, c) = pair_of_written p (declared_on_opening w.place (opened_scope w.place o.count) ++ declared_on_entering w.place) (named_by_node w.place.node.kind p.source_type w.place.node w.place.path) pairs w.written o.among in
      let same_name : w.written.naming.name ≡ x = ap (λ z. z.name) (w.naming_same) ∙ e in
      let among : Among n (named_in p) = named_among p (steps p) w.place n w.entered b in
      let named : n.name ≡ x = named_of w.written n c.told same_name in
      let other : is_sort sort.IndexParameter n ≡ false = other_sort p.source_type w.place.node n w.place.path w.place.node.kind (not_index w.place o.count w.written o.among) b in
      let simple : IsSimplePair p w.written n = c.simple (simply.each n among named other) in
      let same : w.written ≡ d = sym (stays_placed w.written n simple.how) ∙ w.is_placed in (
        n,
        record {
          among = a;
          named = among;
          named_so = named;
          other = other;
          told = subst (λ z. told_to_tables z ≡ told_by_language n) same c.told;
          pair = subst (λ z. IsSimplePair p z n) same simple;
          opened = subst (λ z. IsOpened (openers (steps p)) z.route.target) same simple.home.opened;
        },
      )

  pub of_language : (n : NamedDeclaration) → Among n (named_in p) → n.name ≡ x → is_sort sort.IndexParameter n ≡ false → (d : Declaration) × IsBoth d n
  of_language n a e other =
      let t : IsTold p h common typed numbered n = told_of p h common typed numbered n a other in
      let simple : IsSimplePair p t.written n = t.pair.simple (simply.each n a e other) in (
        t.written,
        record {
          among = subst (λ z. Among z all) (stays_placed t.written n simple.how) t.among;
          named = a;
          named_so = e;
          other = other;
          told = t.pair.told;
          pair = simple;
          opened = simple.home.opened;
        },
      )

  -- what is made is declared
  pub of_made : (m : Made) → Among m (made_of p) → Among m.declaration all
  of_made m a = elim (made_declared m start (events (steps p)) a) [ inl i ↦ absurd i | inr i ↦ i ]

  pub made_so : (d : Declaration) → Among d all → (s : ℕ) × Among (record { declaration = d; symbol = s }) (made_of p)
  made_so d a = is_made d start (events (steps p)) a

  -- ---- each variable keeps clear

  lasts : (d : Declaration) → Among d all → d.naming.name ≡ x → d.route.target.body ≡ None
  lasts d a e = let (n, b) = of_tables d a e in b.pair.home.lasting

  -- no declaration of the name goes to a scope that a variable of it passes
  apart : (n : NamedDeclaration) → Among n (named_in p) → n.name ≡ x → n.sort ≡ sort.Var → (q : Place) → Among (entering q) (steps p) → Among n (named_by_node q.node.kind p.source_type q.node q.path) → (z : OpenScope) → IsPassedAs p q z → Untouched all x z.number
  apart n there e is_var q entered at z w o a f = (
    λ number. (let (m, b) = of_tables o a f in
        let open_z : IsOpened (openers (steps p)) z = among_opened (openers (steps p)) q.chain z (each_at (IsPlaceOpened (openers (steps p))) (steps p) (entering q) (places_opened p) entered) w.around in
        let opener : o.route.target.opener ≡ z.opener = some_is o.route.target.opener z.opener (sym b.opened ∙ ap (slice_get (openers (steps p))) number ∙ open_z) in
        simply.clear q entered n m at is_var e b.named b.named_so w.container w.among (sym b.pair.home.opener ∙ opener ∙ sym w.stands)),
    λ body. none_some z.number (sym (lasts o a f) ∙ body),
  )

  way_clear : (d : Declaration) (n : NamedDeclaration) → IsBoth d n → d.naming.name ≡ x → WayOf p d n
      → (d.how ≡ plain) ⊎ ((d.how ≡ hoisted) × (IsVariable d × ((s : OpenScope) → Among s d.route.passed → Untouched all d.naming.name s.number)))
  way_clear d n b e (stays how) = inl how
  way_clear d n b e (goes_out how variable is_var q entered at each) = inr (how, (variable, λ z i. subst (λ y. Untouched all y z.number) (sym e) (apart n b.named b.named_so is_var q entered at z (each z i))))

  -- where it is a function's own, the scope has nothing else
  own_alone : (d : Declaration) (n : NamedDeclaration) → IsBoth d n → d.naming.name ≡ x → is_own_name d ≡ true → (o : Declaration) → Among o all → o.naming.name ≡ d.naming.name → o.route.target.number ≡ d.route.target.number → o.naming.identifier ≡ d.naming.identifier
  own_alone d n b e i o a f number = elim b.pair.own [
    | inl j ↦ absurd (never (sym i ∙ j))
    | inr (is_name, at) ↦ (let (m, c) = of_tables o a (f ∙ e) in
        let opener : o.route.target.opener ≡ d.route.target.opener = some_is o.route.target.opener d.route.target.opener (sym c.opened ∙ ap (slice_get (openers (steps p))) number ∙ b.opened) in
        ap (λ t. t.identifier) c.told ∙ simply.own n m b.named c.named b.named_so c.named_so is_name (sym c.pair.home.opener ∙ opener ∙ b.pair.home.opener) ∙ sym (ap (λ t. t.identifier) b.told))
  ]

  pub is_clear : AllClear (table_of p) all x
  is_clear d a e = let (n, b) = of_tables d a e in record { alone = own_alone d n b e; way = inl (record { lasting = b.pair.home.lasting; way = way_clear d n b e b.pair.how }) }

  -- no clause has the name
  pub all_free : (c : ℕ) → Free all x c
  all_free c d a e = ((λ q. lasts d a e), (λ q. none_some c (sym (lasts d a e) ∙ q)))

  pub all_seen : (chain : List OpenScope) → AllSeen all x chain
  all_seen [] = outermost
  all_seen (s ∷ ss) = past s ss (inl (all_free s.number)) (all_seen ss)

  abbrev final : State
  final = run start (events (steps p))

  pub clear_state : ClearState (table_of p) (nearest p) all x final
  clear_state = clear_at_last p h numbered x is_clear

  -- the target binds what was made
  pub bound_at_target : (m : Made) → Among m (made_of p) → m.declaration.naming.name ≡ x → get final.bindings m.declaration.route.target.number x ≡ Some m.symbol
  bound_at_target m a e = elim (clear_state.same m a e) [ inl g ↦ g | inr (b, z, g) ↦ absurd (none_some b (sym (lasts m.declaration (of_made m a) e) ∙ z)) ]

  -- those in one scope have one symbol
  pub one_symbol : (m n : Made) → Among m (made_of p) → Among n (made_of p) → m.declaration.naming.name ≡ x → n.declaration.naming.name ≡ x → m.declaration.route.target.number ≡ n.declaration.route.target.number → m.symbol ≡ n.symbol
  one_symbol m n a b e f i = some_is m.symbol n.symbol (sym (bound_at_target m a e) ∙ ap (λ c. get final.bindings c x) i ∙ bound_at_target n b f)
