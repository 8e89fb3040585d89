-- Where the declarations of a name keep clear of each other, those that one environment binds have one symbol.
use Rattle.std.proofs.Common.{◌≡◌, ℕ, List, [], ◌∷◌, ◌++◌, Option, Some, None, Bool, true, false, inl, inr, cond, map, refl, sym, ap, subst, ◌∙◌}
use Rattle.std.specs.Prelude.{slice_get}
use Rattle.semantic_kinds.specs.declared.kind.AstType.{AstType}
use Rattle.semantic_kinds.specs.declared.kind.AstType.TheVariants as kind
use Rattle.semantic_syntax.specs.Reading as reading
use Rattle.semantic_syntax.specs.Tables.{Name}
use Rattle.semantic_tree.specs.Faults.{first_fault}
use Rattle.semantic_tree.specs.Tree.{Tree, IsNumbered}
use Rattle.semantic_tree.specs.declared.node.Node.{Node}
use Rattle.semantic_model.specs.Analysis.{analysis_of, symbol_at}
use Rattle.semantic_model.specs.Binder.{is_statement, is_block_function, declared_by, declared_inside, declared_on_entering, declared_on_opening}
use Rattle.semantic_model.specs.Declaration.{Declaration, How, plain, hoisted, moved, caught, home, body_or}
use Rattle.semantic_model.specs.EachStep.{EachStep}
use Rattle.semantic_model.specs.Entries.{Among}
use Rattle.semantic_model.specs.Event.{declares, declared, declarations, events, events_of, placed, placed_by, written_declarations}
use Rattle.semantic_model.specs.NodeTable.{node_tables}
use Rattle.semantic_model.specs.Place.{Place, OpenScope}
use Rattle.semantic_model.specs.ScopeKind.{opened_scope}
use Rattle.semantic_model.specs.Step.{Step, entering, steps}
use Rattle.semantic_model.specs.TablesOf.{tables_of}
use Rattle.semantic_model.proofs.alone.Targets.{IsOwn, entering_own}
use Rattle.semantic_model.proofs.fold.BodyChains.{AllInTable, IsStepIn}
use Rattle.semantic_model.proofs.fold.Declared.{IsDeclaredIn, entering_in}
use Rattle.semantic_model.proofs.fold.EachDeclared.{EachDeclared, each_on_entering}
use Rattle.semantic_model.proofs.fold.Orders.{HasForm, table_of, root_body, steps_in}
use Rattle.semantic_model.proofs.form.Shape.{has_form}
use Rattle.binding_laws.proofs.ListLaws.{of_map, of_flat, each_at, each_declared}
use Rattle.binding_laws.proofs.ScopeOpeners.{openers, IsOpened, AllOpened, IsPlaceOpened, targets_opened, places_opened, root_opener, one_scope}
use Rattle.binding_laws.proofs.SmallLaws.{never}
use Rattle.language_ties.specs.Bound.{Bound, bound_identifier, bound_by_node, is_bound_as}
use Rattle.language_ties.specs.EcmaScript.{is_ecmascript_kind, is_ecmascript}
use Rattle.language_ties.specs.OneSymbol.{IsBoundByNode, HaveOneSymbol, EnvironmentsHaveOneSymbol}
use Rattle.language_ties.specs.SharedSymbols.{is_own_name, HasHomesSymbol, ShareSymbols}
use Rattle.language_ties.specs.ToldNames.{told_by_declaration, told_by_bound, Declares}
use Rattle.language_ties.specs.declared.bound_as.BoundAs.TheVariants as bound
use Rattle.language_ties.specs.declared.environment_kind.EnvironmentKind.TheVariants as environment
use Rattle.language_ties.proofs.DeclaredAsBound.{declarations_are_bound}
use Rattle.language_ties.proofs.EnvironmentsRound.{IsKnown, KnownAt, known_program}
use Rattle.language_ties.proofs.block_functions.StayingFunctions.{StaysInBlock, stays_in_block, stays_there}
use Rattle.language_ties.proofs.block_functions.StrictPlaces.{Strict, StrictAt, strict_program}
use Rattle.language_ties.proofs.shared.Events.{entering_visible}
use Rattle.language_ties.proofs.shared.PlainNodes.{IsPlainPlace, IsEcmaScriptAt, ecmascript_program}
use Rattle.language_ties.proofs.symbols.SymbolNumbers.{symbol_is}

-- ---- lists

-- what is bound is told to be declared
pub told_too : (ds : List Declaration) (bs : List Bound) → map told_by_declaration ds ≡ map told_by_bound bs → (b : Bound) → Among b bs → (d : Declaration) × Among d ds × (told_by_declaration d ≡ told_by_bound b)
told_too ds [] h b a = absurd a
told_too [] (c ∷ bs) h b a = absurd cc
told_too (d ∷ ds) (c ∷ bs) h b (inl e) = let q : told_by_declaration d ≡ told_by_bound c = cc in (d, inl refl, q ∙ ap told_by_bound e)
told_too (d ∷ ds) (c ∷ bs) h b (inr a) =
    let q : map told_by_declaration ds ≡ map told_by_bound bs = cc in
    let (e, i, j) = told_too ds bs q b a in (e, inr i, j)

-- ---- declarations of a node

-- what isn't an own name is declared on entering the node
own_names : (b : Bool) (x : Node) (f : Node → Bound) (c : Bound) (names : List Node) → Among c (map (cond b f (bound_identifier bound.OwnName (record { kind = environment.OwnName; maker = x.node_id }) [] [])) names) → is_bound_as bound.OwnName c ≡ false → b ≡ true
own_names true x f c names a n = refl
own_names false x f c [] a n = absurd a
own_names false x f c (y ∷ ys) (inl e) n = let w : true ≡ false = ap (is_bound_as bound.OwnName) e ∙ n in absurd cc
own_names false x f c (y ∷ ys) (inr a) n = own_names false x f c ys a n

class_names : (b : Bool) (x : Node) (f : Node → Bound) (c : Bound) (names : List Node) → Among c (map (cond b f (bound_identifier bound.OwnName (record { kind = environment.Class; maker = x.node_id }) [] [])) names) → is_bound_as bound.OwnName c ≡ false → b ≡ true
class_names true x f c names a n = refl
class_names false x f c [] a n = absurd a
class_names false x f c (y ∷ ys) (inl e) n = let w : true ≡ false = ap (is_bound_as bound.OwnName) e ∙ n in absurd cc
class_names false x f c (y ∷ ys) (inr a) n = class_names false x f c ys a n

none_inside : (s : _) (p : Place) (own : OpenScope) (c : Bound) (k : AstType) → is_ecmascript_kind k ≡ true → Among c (bound_by_node k s p.node p.path) → is_bound_as bound.OwnName c ≡ false → declared_inside k p own ≡ []
none_inside s p own c kind.Function i a n = rw (own_names (is_statement p.node) p.node _ c _ a n) refl
none_inside s p own c kind.Class i a n = rw (class_names (is_statement p.node) p.node _ c _ a n) refl
none_inside s p own c kind.TSMappedType i a n = absurd cc
none_inside s p own c _ i a n = refl

-- ---- what moves

-- where no function of the node moves, nothing does
none_moves : (p : Place) → (p.node.kind ≡ kind.Function → is_statement p.node ≡ true → is_block_function p ≡ true → ⊥) → EachDeclared (λ d. d.how ≡ moved → ⊥) (declared_by p.node.kind p)
none_moves p never_moved = each_on_entering (λ d. d.how ≡ moved → ⊥) (λ how r. how ≡ moved → ⊥) (λ node row is_pure name r. r) p.node.kind p (record {
  at_home = λ q. absurd cc;
  when_caught = λ q. absurd cc;
  when_hoisted = λ e q. absurd cc;
  when_moved = λ e s b q. never_moved e s b;
  when_inferred = λ q. absurd cc;
})

placed_stays : (ds : List Declaration) (how : How) (d : Declaration) → d.how ≡ how → (d.how ≡ moved → ⊥) → placed_by how ds d ≡ d
placed_stays ds plain d e n = refl
placed_stays ds hoisted d e n = refl
placed_stays ds caught d e n = refl
placed_stays ds moved d e n = absurd (n e)

-- ---- the program

module _ (p : Tree) (h : first_fault p ≡ None) (e : is_ecmascript p ≡ true) (numbered : IsNumbered p.root) (x : Name) where
  abbrev form : HasForm p
  form = has_form p h

  abbrev ds : List Declaration
  ds = written_declarations (steps p)

  -- the declaration of what is bound
  pub record DeclarationOf (b : Bound) : Type 0 where
    pub declaration : Declaration
    pub among : Among declaration (declarations (events (steps p)))
    pub named : declaration.naming.name ≡ x
    pub identifier : declaration.naming.identifier ≡ b.identifier
    pub visible : is_own_name declaration ≡ false
    pub opened : IsOpened (openers (steps p)) declaration.route.target
    pub maker : declaration.route.target.opener ≡ b.environment.maker
    pub entry : slice_get (table_of p) declaration.route.target.number ≡ Some declaration.route.target.body
    -- a target with a body is the innermost scope of the place
    pub place : Place
    pub entered : Among (entering place) (steps p)
    pub told : Among declaration (declared_on_entering place)
    pub bodied : IsOwn (table_of p) place.chain declaration.route.target

  -- the place binds it, and it doesn't move
  pub record StaysThere (b : Bound) (d : DeclarationOf b) : Type 0 where
    pub binds : Among b (bound_by_node d.place.node.kind p.source_type d.place.node d.place.path)
    pub unmoved : d.declaration.how ≡ moved → ⊥

  known_at : (q : Place) → Among (entering q) (steps p) → IsKnown q
  known_at q a = each_at KnownAt (steps p) (entering q) (known_program p h e) a

  pub plain_at : (q : Place) → Among (entering q) (steps p) → IsPlainPlace q
  plain_at q a = each_at IsEcmaScriptAt (steps p) (entering q) (ecmascript_program p h form.root e) a

  -- where no function leaves its block, nothing moves
  unmoved : (b : Bound) (c : IsBoundByNode p b) → EachDeclared (λ d. d.how ≡ moved → ⊥) (declared_on_entering c.place)
  unmoved b c = none_moves c.place (λ k t z.
      let known : IsKnown c.place = known_at c.place c.entered in
      let strict : Strict p.source_type c.place = each_at (StrictAt p.source_type) (steps p) (entering c.place) (strict_program p h e) c.entered in
      let stays : StaysInBlock p.source_type c.place.node c.place.path = stays_in_block p.source_type c.place.node c.place.path k t c.no_leaving in
      never (sym z ∙ stays_there p.source_type c.place known strict k stays))

  pub entered_chain : (q : Place) (ss : List Step) → EachStep (IsStepIn (table_of p)) ss → Among (entering q) ss → AllInTable (table_of p) q.chain
  entered_chain q ss k a = each_at (IsStepIn (table_of p)) ss (entering q) k a

  -- what is told on entering a place, and placed as it is told
  unfoldable pub declared_there : (b : Bound) (q : Place) → Among (entering q) (steps p) → (d : Declaration) → Among d (declared_on_entering q) → placed ds d ≡ d → d.naming.name ≡ x → d.naming.identifier ≡ b.identifier → d.route.target.opener ≡ b.environment.maker → DeclarationOf b
  declared_there b q entered d a stays named identifier maker =
      let plain_place : IsPlainPlace q = plain_at q entered in
      let event : Among (declares d) (events_of ds (entering q)) = subst (λ i. Among (declares i) (events_of ds (entering q))) stays (of_map (λ i. declares (placed ds i)) (declared_on_entering q) d a) in
      let chain_in : AllInTable (table_of p) q.chain = entered_chain q (steps p) (steps_in p form) entered in
      let opened : AllOpened (openers (steps p)) q.chain = each_at (IsPlaceOpened (openers (steps p))) (steps p) (entering q) (places_opened p) entered in
      record {
        declaration = d;
        among = of_flat declared (events (steps p)) (declares d) d (of_flat (events_of ds) (steps p) (entering q) (declares d) entered event) (inl refl);
        named = named;
        identifier = identifier;
        visible = each_declared (λ i. is_own_name i ≡ false) (declared_on_entering q) d (entering_visible q.node.kind q plain_place plain_place.node.of_kind) a;
        opened = each_declared (λ i. IsOpened (openers (steps p)) i.route.target) (declared_on_entering q) d (targets_opened (openers (steps p)) (root_opener p form.root numbered) q opened) a;
        maker = maker;
        place = q;
        entered = entered;
        told = a;
        bodied = each_declared (λ i. IsOwn (table_of p) q.chain i.route.target) (declared_on_entering q) d (entering_own (table_of p) q.node.kind q chain_in) a;
        entry = (each_declared (IsDeclaredIn (table_of p) (root_body p form)) (declared_on_entering q) d (entering_in (table_of p) (root_body p form) q.node.kind q chain_in) a).target.entry;
      }

  pub declaration_of : (b : Bound) → IsBoundByNode p b → b.name ≡ x → (d : DeclarationOf b) × StaysThere b d
  unfolding declared_there
  declaration_of b c n =
      let q : Place = c.place in
      let own : OpenScope = opened_scope q 0 in
      let known : IsKnown q = known_at q c.entered in
      let told : map told_by_declaration (declared_on_opening q own ++ declared_on_entering q) ≡ map told_by_bound (bound_by_node q.node.kind p.source_type q.node q.path) =
      each_at (Declares p.source_type) (steps p) (entering q) (declarations_are_bound p h e) c.entered c.no_leaving in
      let empty : declared_on_opening q own ≡ [] = none_inside p.source_type q own b q.node.kind known.ecmascript c.binds c.no_own_name in
      let (d, a, t) = told_too (declared_on_entering q) (bound_by_node q.node.kind p.source_type q.node q.path) (subst (λ os. map told_by_declaration (os ++ declared_on_entering q) ≡ map told_by_bound (bound_by_node q.node.kind p.source_type q.node q.path)) empty told) b c.binds in
      let stays : placed ds d ≡ d = placed_stays ds d.how d refl (each_declared (λ i. i.how ≡ moved → ⊥) (declared_on_entering q) d (unmoved b c) a) in (
        declared_there b q c.entered d a stays (ap (λ i. i.name) t ∙ n) (ap (λ i. i.identifier) t) (ap (λ i. i.maker) t),
        record { binds = c.binds; unmoved = each_declared (λ i. i.how ≡ moved → ⊥) (declared_on_entering q) d (unmoved b c) a },
      )

  same_home : (b c : Bound) (d : DeclarationOf b) (f : DeclarationOf c) → b.environment.maker ≡ c.environment.maker → home d.declaration ≡ home f.declaration
  same_home b c d f q =
      let number : d.declaration.route.target.number ≡ f.declaration.route.target.number = one_scope p numbered d.declaration.route.target f.declaration.route.target d.opened f.opened (d.maker ∙ q ∙ sym f.maker) in
      let body : Some d.declaration.route.target.body ≡ Some f.declaration.route.target.body = sym d.entry ∙ ap (slice_get (table_of p)) number ∙ f.entry in
      let same : d.declaration.route.target.body ≡ f.declaration.route.target.body = cc in
      λ i. body_or (number i) (same i)

  abbrev bound_in_tables : ℕ → Name → Option ℕ
  bound_in_tables k y = reading.bound_in (tables_of p) k y

  -- those of one maker's environments share it
  pub share_symbol : ShareSymbols p x → (b c : Bound) (d : DeclarationOf b) (f : DeclarationOf c) → b.environment.maker ≡ c.environment.maker → HaveOneSymbol p b c
  share_symbol shared b c d f q =
      let s : HasHomesSymbol p d.declaration = shared.share d.declaration d.among d.named d.visible in
      let t : HasHomesSymbol p f.declaration = shared.share f.declaration f.among f.named f.visible in
      let there : bound_in_tables (home d.declaration) x ≡ Some s.symbol = subst (λ y. bound_in_tables (home d.declaration) y ≡ Some s.symbol) d.named s.bound in
      let here : bound_in_tables (home f.declaration) x ≡ Some t.symbol = subst (λ y. bound_in_tables (home f.declaration) y ≡ Some t.symbol) f.named t.bound in
      let both : Some s.symbol ≡ Some t.symbol = sym there ∙ ap (λ k. bound_in_tables k x) (same_home b c d f q) ∙ here in
      let same : s.symbol ≡ t.symbol = cc in
      record {
        symbol = s.symbol;
        first = subst (λ k. symbol_at (analysis_of p) k ≡ Some s.symbol) d.identifier (symbol_is p d.declaration.naming.identifier s.symbol h numbered s.declared);
        second = subst (λ k. symbol_at (analysis_of p) k ≡ Some s.symbol) f.identifier (symbol_is p f.declaration.naming.identifier s.symbol h numbered (subst (λ k. Among (record { node = f.declaration.naming.identifier; number = k }) (node_tables (steps p)).symbols) (sym same) t.declared));
      }

  pub one_symbol : ShareSymbols p x → EnvironmentsHaveOneSymbol p x
  one_symbol shared b c i j n m q = share_symbol shared b c (declaration_of b i n).0 (declaration_of c j m).0 q
