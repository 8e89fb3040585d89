-- A node opens its scope where the walk stands.
use Rattle.std.proofs.Common.{◌≡◌, ℕ, zero, suc, ◌<◌, ◌==◌, Bool, true, false, cond, ◌&&◌, ◌||◌, Some, List, [], ◌∷◌, ◌++◌, length, reverse, slice_index_or, Result, Ok, Err, OnOk, IfOk, inl, inr, refl, sym, ap, subst, ◌∙◌, arith}
use Rattle.std.proofs.lemmas.Bool.Decides.{eqb_tells}
use Rattle.std.proofs.lemmas.List.{reverse-append}
use Rattle.semantic_kinds.specs.Roles.{same_role}
use Rattle.semantic_kinds.specs.declared.kind.AstType.{AstType}
use Rattle.semantic_kinds.specs.declared.kind.AstType.TheVariants as kind
use Rattle.semantic_kinds.specs.declared.role.Role.{Role}
use Rattle.semantic_kinds.specs.declared.role.Role.TheVariants as role
use Rattle.semantic_syntax.specs.SourceTypes.{is_module}
use Rattle.semantic_syntax.specs.declared.scope_flags.TheConstants.ScopeFlags as scope
use Rattle.semantic_syntax.specs.Sets.{meets, union}
use Rattle.semantic_syntax.specs.Tables.{Bindings, Tables}
use Rattle.semantic_tree.specs.declared.node.Node.{Node}
use Rattle.semantic_syntax.specs.Reading.{scope_of, bindings_of}
use Rattle.semantic_syntax.specs.Writing as writing
use Rattle.semantic_tree.specs.Views.{is, has_use_strict}
use Rattle.semantic_model.specs.Place.{Place, OpenScope, innermost, parent_holds}
use Rattle.semantic_model.specs.ScopeKind.{strict_if, strict_by_body, method_flags, flags_of_kind, opened_scope}
use Rattle.semantic_model.specs.Declaration.{Declaration}
use Rattle.semantic_model.specs.Binder.{declared_on_opening}
use Rattle.semantic_model.specs.Event.{takes_over, is_catch_body, taken_over, declares_all}
use Rattle.semantic_model.specs.Step.{opening}
use Rattle.walk_model.specs.WalkState.{WalkState}
use Rattle.walk_model.specs.Opens.{open_in, open_scope}
use Rattle.walk_model.specs.Walks.{after, act_all}
use Rattle.walk_model.specs.Shown.{ShowsChain, HasVar}
use Rattle.walk_model.proofs.turns.TurnParts.{opened_as}
use Rattle.walk_model.proofs.turns.RowEvents.{acts-append}
use Rattle.semantic_walk.specs.Paths.{parent_in}
use Rattle.semantic_walk.specs.Walker.{Walker, place_in, opening_in, taking_over}
use Rattle.semantic_walk.specs.AtPlace.{IsWithin}

-- a scope that is new binds nothing
pub last_binds_nothing : (lists : List Bindings) (n : ℕ) → length lists ≡ n → slice_index_or (lists ++ [] ∷ []) n [] ≡ []
last_binds_nothing [] zero e = refl
last_binds_nothing [] (suc n) e = absurd (omega (arith, e))
last_binds_nothing (bs ∷ lists) zero e = absurd (omega (arith, e))
last_binds_nothing (bs ∷ lists) (suc n) e = last_binds_nothing lists n (omega (arith, e))

pub new_binds_nothing : {E : Type 0} (r : Result ℕ E) (w v made : WalkState) (t : Tables) → made.tables.bindings ≡ w.tables.bindings ++ [] ∷ []
    → t ≡ w.tables → length t.bindings ≡ length t.scopes → OnOk r (v ≡ made) → IfOk r (λ s. s ≡ length w.tables.scopes) → IfOk r (λ s. bindings_of v.tables s ≡ [])
new_binds_nothing (Ok s) w v made t more same counted makes number =
    let lists : length w.tables.bindings ≡ length w.tables.scopes = subst (λ (u : Tables). length u.bindings ≡ length u.scopes) same counted in
    let now : v.tables.bindings ≡ w.tables.bindings ++ [] ∷ [] = ap (λ (u : WalkState). u.tables.bindings) makes ∙ more in
    rw (now, number) (last_binds_nothing w.tables.bindings (length w.tables.scopes) lists)
new_binds_nothing (Err e) w v made t more same counted makes number = tt

-- it isn't one of those before it
pub apart_from : {E : Type 0} (r : Result ℕ E) (current n : ℕ) → current < n → IfOk r (λ s. s ≡ n) → IfOk r (λ s. (current == s) ≡ false)
apart_from (Ok s) current n l number = rw number (elim (eqb_tells current n) [ inl q ↦ absurd (omega (arith, q.1, l)) | inr q ↦ q.0 ])
apart_from (Err e) current n l number = tt

parent_last : (above : List Node) (parent node : Node) → parent_in (above ++ parent ∷ node ∷ []) ≡ parent ∷ []
parent_last [] parent node = refl
parent_last (a ∷ []) parent node = refl
parent_last (a ∷ b ∷ []) parent node = refl
parent_last (a ∷ b ∷ d ∷ above) parent node = parent_last (b ∷ d ∷ above) parent node

-- the first alone
abbrev pub alone : List Node → List Node
alone [] = []
alone (x ∷ xs) = x ∷ []

pub parent_above : (node : Node) (path : List Node) → parent_in (reverse (node ∷ path)) ≡ alone path
parent_above node [] = refl
parent_above node (parent ∷ path) = ap parent_in (reverse-append (node ∷ parent ∷ []) path) ∙ parent_last (reverse path) parent node

-- a place of which no more than the parent is known above
record Alike (q p : Place) : Type 0 where
  source_type : q.source_type ≡ p.source_type
  role : q.role ≡ p.role
  node : q.node ≡ p.node
  path : q.path ≡ alone p.path

methods_alone : (path : List Node) (node : Node) → method_flags (alone path) node ≡ method_flags path node
methods_alone [] node = refl
methods_alone (x ∷ xs) node = refl

holds_alone : (test : Node → Bool) (path : List Node) → parent_holds test (alone path) ≡ parent_holds test path
holds_alone test [] = refl
holds_alone test (x ∷ xs) = refl

-- it opens a scope with the same flags
flags_alike : (k : AstType) (q p : Place) → Alike q p → flags_of_kind k q ≡ flags_of_kind k p
flags_alike kind.Program q p a = λ i. union scope.Top.bits (strict_if (is_module (a.source_type i) || has_use_strict (a.node i)))
flags_alike kind.Function q p a =
    let methods : method_flags q.path q.node ≡ method_flags p.path p.node = (λ i. method_flags (a.path i) (a.node i)) ∙ methods_alone p.path p.node in
    λ i. union scope.Function.bits (union (strict_by_body (a.node i)) (cond (same_role (a.role i) role.Value) (methods i) 0))
flags_alike kind.ArrowFunctionExpression q p a = λ i. union scope.Function.bits (union scope.Arrow.bits (strict_by_body (a.node i)))
flags_alike kind.TSNamespaceDeclaration q p a = λ i. union scope.TsModuleBlock.bits (strict_by_body (a.node i))
flags_alike kind.TSExternalModuleDeclaration q p a = λ i. union scope.TsModuleBlock.bits (strict_by_body (a.node i))
flags_alike _ q p a = refl

catch_alike : (q p : Place) → Alike q p → is_catch_body q ≡ is_catch_body p
catch_alike q p a =
    (λ i. is kind.BlockStatement (a.node i) && same_role (a.role i) role.Body && parent_holds (is kind.CatchClause) (a.path i))
    ∙ ap (λ b. is kind.BlockStatement p.node && same_role p.role role.Body && b) (holds_alone (is kind.CatchClause) p.path)

pub stands_somewhere : (chain : List OpenScope) → HasVar chain → chain ≡ [] → ⊥
stands_somewhere [] h e = h refl
stands_somewhere (s ∷ ss) h e = absurd cc

module _ (w : Walker) (p : Place) (r : Role) (node : Node) (same : p.node ≡ node) (in_role : p.role ≡ r) (h : IsWithin w p p.chain) where
  abbrev count : ℕ
  count = length w.made.tables.scopes

  abbrev own : OpenScope
  own = opened_scope p count

  alike : Alike (place_in w r node) p
  alike = record { source_type = h.source_type; role = sym in_role; node = sym same; path = ap parent_in h.path ∙ parent_above p.node p.path }

  module _ (shown : ShowsChain w.made.tables p.chain) (var : HasVar p.chain) where
    -- the scope that opens is the place's
    opens_here : opening_in w r node ≡ open_scope w.made p own
    opens_here =
        let back : node ≡ p.node = sym same in
        let flags : flags_of_kind node.kind (place_in w r node) ≡ flags_of_kind p.node.kind p =
        ap (λ (x : Node). flags_of_kind x.kind (place_in w r node)) back ∙ flags_alike p.node.kind (place_in w r node) p alike in
        (λ i. open_in w.made (Some (h.current i)) (back i).node_id count (union (flags i) (strict_if (meets (scope_of w.made.tables (h.current i)).flags.bits scope.StrictMode.bits))))
        ∙ sym (opened_as w.made p count refl shown (stands_somewhere p.chain var))

    -- what is made once a catch clause's body has taken over what the clause binds
    abbrev taken : WalkState
    taken = act_all (open_scope w.made p own) (taken_over p own)

    takes_here : ◌≡◌ {A = Walker} (cond (is_catch_body (place_in w r node)) (taking_over (record w { made = opening_in w r node }) count) (record w { made = opening_in w r node })) (record w { made = taken })
    takes_here =
        ap (λ b. cond b (taking_over (record w { made = opening_in w r node }) count) (record w { made = opening_in w r node })) (catch_alike (place_in w r node) p alike)
        ∙ by (is_catch_body p)
      where
        by : (b : Bool) → ◌≡◌ {A = Walker} (cond b (taking_over (record w { made = opening_in w r node }) count) (record w { made = opening_in w r node }))
            (record w { made = act_all (open_scope w.made p own) (cond b (takes_over (innermost p.chain).number own.number ∷ []) []) })
        by true = λ i. record w { made = record (opens_here i) { tables = writing.bindings_taken_over (opens_here i).tables (h.current i) count } }
        by false = λ i. record w { made = opens_here i }

    abbrev with_made : WalkState → Walker
    with_made v = record w { made = v; current = count }

    -- the scope is made, takes over, is gone into and gets what the node declares inside
    pub opened_after : (ds : List Declaration) (made had gone done : Walker) (s : ℕ) → s ≡ count
        → made ≡ record w { made = opening_in w r node }
        → had ≡ cond (is_catch_body (place_in made r node)) (taking_over made s) made
        → gone ≡ record had { current = s }
        → (IsWithin gone p (own ∷ []) → done ≡ record gone { made = act_all gone.made (declares_all ds (declared_on_opening p own)) })
        → done ≡ record w { made = after ds w.made (opening p own); current = count }
    opened_after ds made had gone done s number opens takes goes declares =
        let took : had ≡ record w { made = taken } =
        takes ∙ (λ i. cond (is_catch_body (place_in (opens i) r node)) (taking_over (opens i) (number i)) (opens i)) ∙ takes_here in
        let went : gone ≡ record w { made = taken; current = count } = goes ∙ (λ i. record (took i) { current = number i }) in
        let inside : IsWithin gone p (own ∷ []) =
        subst (λ (v : Walker). IsWithin v p (own ∷ [])) (sym went) (record { source_type = h.source_type; path = h.path; current = refl }) in
        declares inside
        ∙ (λ i. record (went i) { made = act_all (went i).made (declares_all ds (declared_on_opening p own)) })
        ∙ ap (λ (v : WalkState). with_made v) (sym (acts-append (open_scope w.made p own) (taken_over p own) (declares_all ds (declared_on_opening p own))))
