-- The context of a walk at a place shows the sight of the walk.
use Rattle.std.proofs.Common.{◌≡◌, ℕ, List, [], ◌∷◌, Bool, true, false, refl, sym, ap, ◌∙◌, map, inl, inr}
use Rattle.std.proofs.lemmas.Bool.{cases_Bool}
use Rattle.semantic_syntax.specs.Tables.{Tables}
use Rattle.semantic_syntax.specs.declared.scope_flags.TheConstants.ScopeFlags as scope
use Rattle.semantic_kinds.specs.declared.kind.AstType.{AstType}
use Rattle.semantic_kinds.specs.declared.kind.AstType.TheVariants as kind
use Rattle.semantic_model.proofs.form.Clauses.{kind_is}
use Rattle.semantic_tree.specs.Views.{is}
use Rattle.semantic_model.specs.Element.{Element}
use Rattle.semantic_model.specs.Class.{PrivateUse}
use Rattle.semantic_model.specs.Place.{Place, OpenScope, innermost}
use Rattle.semantic_syntax.specs.Reading.{chain, bindings_of}
use Rattle.walk_model.specs.WalkState.{WalkState}
use Rattle.walk_model.specs.Shown.{ShowsScope, ShowsChain}
use Rattle.semantic_model.specs.TablesOf.{numbers}
use Rattle.walk_model.proofs.turns.ChainWays.{rows_chain}
use Rattle.check_model.specs.SightOf.{seen_scope, or_own, scopes_it_stands_in, scopes_at, elements_at, elements_if, elements_in_case, uses_at, uses_if, uses_in_case, list_if, narrowed_sight}
use Rattle.check_model.specs.Rows.{rows_by, rows_of}
use Rattle.check_model.specs.Sight.{Sight}
use Rattle.check_model.proofs.Cuts.{rows_cut}
use Rattle.check_walk.specs.WalkSight.{sight_in, unresolved_in}
use Rattle.check_model.specs.Context.{Context, seen_row, sight_shown, unresolved_by}
use Rattle.check_walk.specs.Context.{IsContextAt}

row_shown : (t : Tables) (s : OpenScope) (ss : List OpenScope) → ShowsScope t s ss → seen_row t s.number ≡ seen_scope s
row_shown t s ss h = λ i. record {
  opener = h.node i;
  is_strict = h.flags scope.StrictMode.bits refl i;
  is_top = h.flags scope.Top.bits refl i;
  is_function = h.flags scope.Function.bits refl i;
  is_arrow = h.flags scope.Arrow.bits refl i;
  is_static_block = h.flags scope.ClassStaticBlock.bits refl i;
}

rows_shown : (t : Tables) (ss : List OpenScope) → ShowsChain t ss → map (seen_row t) (numbers ss) ≡ map seen_scope ss
rows_shown t [] h = refl
rows_shown t (s ∷ ss) h = λ i. row_shown t s ss h.0 i ∷ rows_shown t ss h.1 i

scopes_shown : (t : Tables) (ss : List OpenScope) → (ss ≡ [] → ⊥) → ShowsChain t ss → map (seen_row t) (chain t.scopes (innermost ss).number) ≡ map seen_scope ss
scopes_shown t [] f h = absurd (f refl)
scopes_shown t (s ∷ ss) f h = ap (map (seen_row t)) (rows_chain t s ss h) ∙ rows_shown t (s ∷ ss) h

uses_case : (b : Bool) (p : Place) (xs : List PrivateUse) → (b ≡ true → xs ≡ uses_if b p.node) → uses_in_case b xs ≡ uses_if b p.node
uses_case true p xs h = h refl
uses_case false p xs h = refl

elements_case : (b : Bool) (p : Place) (xs : List (List Element)) → (b ≡ true → xs ≡ elements_if b p.node) → elements_in_case b xs ≡ elements_if b p.node
elements_case true p xs h = h refl
elements_case false p xs h = refl

list_case : (b : Bool) (xs ys : List ℕ) → (b ≡ true → xs ≡ ys) → list_if b xs ≡ list_if b ys
list_case true xs ys h = h refl
list_case false xs ys h = refl

stands_somewhere : (p : Place) → scopes_it_stands_in p ≡ [] → ⊥
stands_somewhere p e = by p.chain e
  where
    by : (ss : List OpenScope) → or_own p ss ≡ [] → ⊥
    by [] q = absurd cc
    by (s ∷ ss) q = absurd cc

-- of any node but a class body
pub shown_cut : (c : Context) (source : List ℕ) (w : WalkState) (p : Place) → is kind.ClassBody p.node ≡ false → IsContextAt c source w p → narrowed_sight p.node.kind (sight_shown p.node c) ≡ sight_in source w p
shown_cut c source w p other h =
    let scopes : map (seen_row c.tables) (chain c.tables.scopes c.current_scope) ≡ scopes_at p =
    ap (λ t. map (seen_row t) (chain t.scopes c.current_scope)) h.tables ∙ ap (λ n. map (seen_row w.tables) (chain w.tables.scopes n)) h.current
    ∙ scopes_shown w.tables (scopes_it_stands_in p) (stands_somewhere p) h.chain_shown in
    let uses : uses_in_case (is kind.Class p.node) _ ≡ uses_at p.node = uses_case (is kind.Class p.node) p _ h.classes.uses in
    let elements : elements_in_case (is kind.Program p.node) c.classes.elements ≡ elements_at p.node = elements_case (is kind.Program p.node) p c.classes.elements h.elements in
    let free : list_if (is kind.Program p.node) (unresolved_by c.nodes c.tables) ≡ list_if (is kind.Program p.node) (unresolved_in w.tables) =
    (λ i. list_if (is kind.Program p.node) (unresolved_by (h.nodes i) (h.tables i))) ∙ list_case (is kind.Program p.node) (unresolved_by w.nodes w.tables) (unresolved_in w.tables) h.references in
    λ i. record {
      node = p.node;
      path = h.path i;
      source = h.source_is i;
      source_type = h.source_type i;
      is_ambient = h.is_ambient i;
      scopes = scopes i;
      symbols = (h.tables i).symbols;
      declared = (h.nodes i).symbols;
      classes = h.classes.classes other i;
      uses = uses i;
      elements = elements i;
      bound = list_if (is kind.Program p.node) (map (λ b. b.1) (bindings_of (h.tables i) 0));
      unresolved = free i;
    }

-- no row looks at a class body
body_rows : (s : Sight) (k : AstType) → k ≡ kind.ClassBody → rows_by k s ≡ []
body_rows s k is = ap (λ q. rows_by q s) is

-- so the rows of the context are those of the walk
pub shown_rows : (c : Context) (source : List ℕ) (w : WalkState) (p : Place) → IsContextAt c source w p → rows_of (sight_shown p.node c) ≡ rows_of (sight_in source w p)
shown_rows c source w p h = elim (cases_Bool (is kind.ClassBody p.node)) [
  | inl q ↦
      (let body : p.node.kind ≡ kind.ClassBody = kind_is p.node.kind kind.ClassBody q in
      body_rows (sight_shown p.node c) p.node.kind body ∙ sym (body_rows (sight_in source w p) p.node.kind body))
  | inr q ↦ rows_cut p.node.kind (sight_shown p.node c) ∙ ap rows_of (shown_cut c source w p q h)
]
