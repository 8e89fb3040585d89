-- Of an own name, the scope that its expression opens has the symbol, unless what is declared there hides it.
use Rattle.std.proofs.Common.{◌≡◌, ℕ, ◌<◌, List, Option, Some, None, true, false, inl, inr, length, sym, ap, subst, ◌∙◌, arith}
use Rattle.std.specs.Prelude.{slice_get}
use Rattle.std.proofs.lemmas.Option.{slice_get_within}
use Rattle.semantic_kinds.specs.declared.kind.AstType.TheVariants as kind
use Rattle.semantic_kinds.specs.declared.role.Role.TheVariants as role
use Rattle.semantic_kinds.specs.Kinds.{same_kind}
use Rattle.semantic_syntax.specs.Reading as reading
use Rattle.semantic_syntax.specs.Tables.{Name}
use Rattle.semantic_tree.specs.Faults.{first_fault}
use Rattle.semantic_tree.specs.Tree.{Tree, IsNumbered}
use Rattle.semantic_tree.specs.Views.{is}
use Rattle.semantic_model.specs.Analysis.{analysis_of, symbol_at}
use Rattle.semantic_model.specs.Binding.{get}
use Rattle.semantic_model.specs.Declaration.{Declaration, home, body_or}
use Rattle.semantic_model.specs.Entries.{Among}
use Rattle.semantic_model.specs.Event.{declarations, events}
use Rattle.semantic_model.specs.Fold.{State, start}
use Rattle.semantic_model.specs.Hoist.{run}
use Rattle.semantic_model.specs.Names.{names_at}
use Rattle.semantic_model.specs.Place.{Place, OpenScope}
use Rattle.semantic_model.specs.Step.{entering, steps}
use Rattle.semantic_model.specs.TablesOf.{tables_of, scopes, evals}
use Rattle.semantic_model.proofs.fits.Outwards.{bound_as, scopes_length}
use Rattle.semantic_model.proofs.fold.Orders.{table_of}
use Rattle.walk_model.proofs.once.NamesInRole.{AtMostOne}
use Rattle.binding_laws.proofs.DeclaredMade.{is_made}
use Rattle.binding_laws.proofs.EnteredOnce.{entered_once}
use Rattle.binding_laws.proofs.ListLaws.{each_at, same_of_one}
use Rattle.binding_laws.proofs.ScopeOpeners.{openers, IsOpened, one_scope}
use Rattle.language_ties.specs.AgreeingNames.{IsPlainName}
use Rattle.language_ties.specs.Bound.{Bound, is_bound_as}
use Rattle.language_ties.specs.EcmaScript.{is_ecmascript}
use Rattle.language_ties.specs.SharedSymbols.{AllKeepClear, ShareSymbols, HasHomesSymbol, IsDeclaredAt}
use Rattle.language_ties.specs.declared.bound_as.BoundAs.TheVariants as bound
use Rattle.language_ties.proofs.UndeclaredNames.{each_identifier}
use Rattle.language_ties.proofs.agree.FamiliarPlaces.{IsFamiliar, FamiliarAt, familiar_program}
use Rattle.language_ties.proofs.agree.KnownNodes.{node_at}
use Rattle.language_ties.proofs.clear.SingleNames.{identifier_of, same_declaration, declared_once}
use Rattle.language_ties.proofs.caught.CaughtBounds.{made_where, not_taken, no_block}
use Rattle.language_ties.proofs.moved.Settled.{settled, settled_bounds, settled_name, settled_identifier, settled_among}
use Rattle.language_ties.proofs.own_names.AnyBounds.{AnyBound, any_bound, IsDeclared, is_declared}
use Rattle.language_ties.proofs.own_names.OwnBounds.{OwnBound, own_maker}
use Rattle.language_ties.proofs.own_names.OwnIds.{named_once}
use Rattle.language_ties.proofs.shared.HomesShared.{share_symbols, at_last}
use Rattle.language_ties.proofs.shared.Shared.{IsBoundNow}
use Rattle.language_ties.proofs.symbols.SymbolNumbers.{symbol_is}

-- a function has one own name
pub one_name : (p : Tree) (h : first_fault p ≡ None) (e : is_ecmascript p ≡ true) (numbered : IsNumbered p.root) (x : Name) (c b : Bound) (v : OwnBound p h x c) (k : OwnBound p h x b) → v.place.node.node_id ≡ k.place.node.node_id → k.place.node.kind ≡ kind.Function → c.identifier ≡ b.identifier
one_name p h e numbered x c b v k q f =
    let places : v.place ≡ k.place = entered_once p numbered v.place k.place v.entered k.entered q in
    let familiar : IsFamiliar (node_at p) k.place = each_at (FamiliarAt (node_at p)) (steps p) (entering k.place) (familiar_program p h e numbered) k.entered in
    let once : AtMostOne (names_at role.Id k.place.node) = named_once p h k.place.node familiar.node f in
    let there : Among v.named_by.identifier (names_at role.Id k.place.node) = subst (λ (z : Place). Among v.named_by.identifier (names_at role.Id z.node)) places v.named_by.among in
    sym v.named_by.is ∙ ap (λ z. z.node_id) (same_of_one (names_at role.Id k.place.node) v.named_by.identifier k.named_by.identifier once there k.named_by.among) ∙ k.named_by.is

module _ (p : Tree) (h : first_fault p ≡ None) (e : is_ecmascript p ≡ true) (numbered : IsNumbered p.root) (x : Name) (clear : AllKeepClear x (declarations (events (steps p)))) (plain : IsPlainName p x) where
  abbrev table : List (Option ℕ)
  table = table_of p

  abbrev final : State
  final = run start (events (steps p))

  abbrev ws : List Bound
  ws = settled_bounds p

  abbrev shared : ShareSymbols p x
  shared = share_symbols p h e x clear

  -- the scope binds the name to the identifier's symbol
  pub record HasSymbol (s : OpenScope) (i : ℕ) : Type 0 where
    pub symbol : ℕ
    pub bound : get final.bindings s.number x ≡ Some symbol
    pub is : symbol_at (analysis_of p) i ≡ Some symbol

  module _ (s : OpenScope) (o : IsOpened (openers (steps p)) s) (entry : slice_get table s.number ≡ Some s.body) where
    in_range : s.number < length (scopes (steps p))
    in_range = omega (arith, slice_get_within table s.number s.body entry, scopes_length (evals (steps p)) (steps p))

    number_is : (b : Bound) (k : OwnBound p h x b) → s.opener ≡ k.place.node.node_id → k.declaration.route.target.number ≡ s.number
    number_is b k q = ap (λ t. t.number) k.target ∙ one_scope p numbered k.scope s k.opened o (k.opener ∙ sym q)

    no_body : (b : Bound) (k : OwnBound p h x b) → k.declaration.route.target.body ≡ None
    no_body b k = ap (λ t. t.body) k.target ∙ k.bodiless

    -- of a class
    pub class_symbol : (b : Bound) (k : OwnBound p h x b) → s.opener ≡ k.place.node.node_id → is kind.Function k.place.node ≡ false → HasSymbol s b.identifier
    class_symbol b k q c =
        let d : Declaration = k.declaration in
        let y : HasHomesSymbol p d = shared.share d k.among k.named (k.hidden ∙ c) in
        let home_is : home d ≡ s.number = ap (body_or d.route.target.number) (no_body b k) ∙ number_is b k q in
        let there : reading.bound_in (tables_of p) (home d) x ≡ Some y.symbol = subst (λ n. reading.bound_in (tables_of p) (home d) n ≡ Some y.symbol) k.named y.bound in
        record {
          symbol = y.symbol;
          bound = sym (bound_as p s.number x in_range) ∙ subst (λ c. reading.bound_in (tables_of p) c x ≡ Some y.symbol) home_is there;
          is = subst (λ i. symbol_at (analysis_of p) i ≡ Some y.symbol) k.identifier (symbol_is p d.naming.identifier y.symbol h numbered y.declared);
        }

    -- a function's scope binds the name in the end
    binds_some : (b : Bound) (k : OwnBound p h x b) → s.opener ≡ k.place.node.node_id → is kind.Function k.place.node ≡ true → (y : ℕ) × (get final.bindings s.number x ≡ Some y)
    binds_some b k q c =
        let d : Declaration = k.declaration in
        let (r, made) = is_made d start (events (steps p)) k.among in
        let last = at_last p h e x clear in
        let (y, now) = last.2.hidden (record { declaration = d; symbol = r }) made k.named (k.hidden ∙ c) in
        (y, at_target y now)
      where
        never_none : (n : ℕ) → None ≡ Some n → ⊥
        never_none n w = absurd cc

        at_target : (y : ℕ) → IsBoundNow table x final.bindings k.declaration y → get final.bindings s.number x ≡ Some y
        at_target y (inl g) = subst (λ c. get final.bindings c x ≡ Some y) (number_is b k q) g
        at_target y (inr g) = absurd (never_none g.0 (sym (no_body b k) ∙ g.1))

    -- of a function, where nothing else that binds the name has that scope
    pub function_symbol : (b : Bound) (k : OwnBound p h x b) → s.opener ≡ k.place.node.node_id → k.place.node.kind ≡ kind.Function → ((c : Bound) → Among c ws → c.name ≡ x → is_bound_as bound.OwnName c ≡ false → c.environment.maker ≡ s.opener → ⊥) → HasSymbol s b.identifier
    function_symbol b k q f apart =
        let (y, g) = binds_some b k q (ap (λ i. same_kind i kind.Function) f) in
        let there : reading.bound_in (tables_of p) s.number x ≡ Some y = bound_as p s.number x in_range ∙ g in
        let w : IsDeclaredAt p x s.number y = shared.bound s.number y there in
        let (c, a, n, i) = each_identifier p.source_type x (λ j. (c : Bound) × Among c ws × (c.name ≡ x) × (c.identifier ≡ j)) p h e (λ c a n. (settled c, settled_among p c a, settled_name c ∙ n, settled_identifier c)) w.declaration w.among w.named in
        let same : c.identifier ≡ b.identifier = by c a n (any_bound p h e numbered x plain c a n) y w i in
        record { symbol = y; bound = g; is = subst (λ j. symbol_at (analysis_of p) j ≡ Some y) (sym i ∙ same) (symbol_is p w.declaration.naming.identifier y h numbered w.is) }
      where
        -- the scope is that of the declaration
        opener_of : (c : Bound) (v : AnyBound p h e numbered x plain c) (y : ℕ) (w : IsDeclaredAt p x s.number y) → c.identifier ≡ w.declaration.naming.identifier → c.environment.maker ≡ s.opener
        opener_of c v y w i =
            let d : IsDeclared p h e numbered x plain c = is_declared p h e numbered x plain c v in
            let one : identifier_of w.declaration ≡ identifier_of d.declaration = sym i ∙ sym d.identifier in
            let same : w.declaration ≡ d.declaration = same_declaration w.declaration d.declaration (declarations (events (steps p))) w.among d.among one (declared_once p (identifier_of w.declaration) h numbered) in
            elim (made_where p h e numbered x plain c v s o (ap home (sym same) ∙ w.stands)) [
              | inl i ↦ i
              | inr i ↦ absurd (not_taken p numbered k.place k.entered (no_block k.place (ap (λ z. same_kind z kind.BlockStatement) f)) s o q c i)
            ]

        by : (c : Bound) → Among c ws → c.name ≡ x → (v : AnyBound p h e numbered x plain c) → (y : ℕ) (w : IsDeclaredAt p x s.number y) → c.identifier ≡ w.declaration.naming.identifier → c.identifier ≡ b.identifier
        by c a n (inl v) y w i = absurd (apart c a n v.no_own (opener_of c (inl v) y w i))
        by c a n (inr v) y w i =
            one_name p h e numbered x c b v k (sym (own_maker p h x c v) ∙ opener_of c (inr v) y w i ∙ q) f
