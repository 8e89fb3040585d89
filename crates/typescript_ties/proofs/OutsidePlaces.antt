-- Outside of a function, from its list of parameters: what holds of the scopes and the containers there holds of a decorator.
use Rattle.std.proofs.Common.{◌≡◌, ℕ, List, [], ◌∷◌, ◌++◌, Option, None, Bool, true, false, ◌&&◌, ◌||◌, not, cond, refl, sym, ap, subst, ◌∙◌, inl, inr}
use Rattle.semantic_syntax.proofs.Truth.{and_first, and_second}
use Rattle.semantic_kinds.specs.Classes.{holds_kind}
use Rattle.semantic_kinds.specs.Kinds.{same_kind}
use Rattle.semantic_kinds.specs.declared.kind.AstType.{AstType}
use Rattle.semantic_kinds.specs.declared.kind.AstType.TheVariants as kind
use Rattle.semantic_kinds.specs.declared.role.Role.{Role}
use Rattle.semantic_syntax.specs.declared.source_type.SourceType.{SourceType}
use Rattle.semantic_tree.specs.declared.node.Node.{Node}
use Rattle.semantic_model.specs.Inside.{is_inside, is_parameter_decorator}
use Rattle.semantic_model.specs.Place.{Place, OpenScope, outside}
use Rattle.semantic_model.specs.Step.{child_place, child_scopes}
use Rattle.semantic_model.proofs.form.Clauses.{kind_is}
use Rattle.typescript_ties.specs.Containers.{Container, outside_function, containers_by, containers}
use Rattle.binding_laws.proofs.ChildChains.{ChainOf, outer_chain, inner_chain, OwnOf, chain_of}
use Rattle.binding_laws.proofs.SmallLaws.{never, either}
use Rattle.typescript_ties.proofs.ChildPlaces.{same_truth}
use Rattle.typescript_ties.proofs.ParameterLists.{is_parameter_kind, is_list_kind, has_parameters, tells_decorator, stands_in_list, stands_deeper, tells_parameters, AllBefore, outside_is}

no_decorator : (k : AstType) → is_list_kind k ≡ true → same_kind k kind.Decorator ≡ false
no_decorator kind.Decorator e = absurd (never (sym e))
no_decorator _ e = refl

pub no_program : (k : AstType) → has_parameters k ≡ true → same_kind k kind.Program ≡ false
no_program kind.Program e = absurd (never (sym e))
no_program _ e = refl

and_false : (a b : Bool) → b ≡ false → (a && b) ≡ false
and_false true b e = e
and_false false b e = refl

list_is : (k : AstType) → is_parameter_kind k ≡ true → is_list_kind k ≡ true
list_is k e = or_second (holds_kind (kind.FormalParameters ∷ []) k) (is_parameter_kind k) e
  where
    or_second : (a b : Bool) → b ≡ true → (a || b) ≡ true
    or_second true b e = refl
    or_second false b e = e

only_kind : (j k : AstType) → holds_kind (j ∷ []) k ≡ true → j ≡ k
only_kind j k e = kind_is j k (one (same_kind j k) e)
  where
    one : (a : Bool) → (a || false) ≡ true → a ≡ true
    one true e = refl
    one false e = e

module _ (s : SourceType) (q : Place) (r : Role) (node : Node) (text : List ℕ) (own : Option OpenScope) (cursor : ℕ) (params : tells_parameters q.node.kind r node.kind text ≡ true)
    (reached : is_inside q.node.kind r ≡ true → own ≡ None → ⊥) (own_is : OwnOf q own) where
  abbrev round : Place → List Container
  round z = containers s z.node z.path

  abbrev child : Place
  child = child_place q own cursor r node

  abbrev pub decorated : Bool
  decorated = is_parameter_kind q.node.kind && same_kind node.kind kind.Decorator

  abbrev group : List Container
  group = containers_by q.node.kind s q.node q.path (round q) node

  told : same_truth (is_parameter_decorator q.node.kind r) decorated ≡ true
  told = and_first (tells_decorator q.node.kind r node.kind) (stands_in_list q.node.kind r node.kind && stands_deeper q.node.kind node.kind) params

  stands : stands_in_list q.node.kind r node.kind ≡ true
  stands = and_first (stands_in_list q.node.kind r node.kind) (stands_deeper q.node.kind node.kind) (and_second (tells_decorator q.node.kind r node.kind) (stands_in_list q.node.kind r node.kind && stands_deeper q.node.kind node.kind) params)

  -- what isn't a decorator of a parameter
  pub by_role : decorated ≡ false → is_parameter_decorator q.node.kind r ≡ false
  by_role e = go (is_parameter_decorator q.node.kind r) decorated told e
    where
      go : (a b : Bool) → same_truth a b ≡ true → b ≡ false → a ≡ false
      go true b h i = absurd (never (sym h ∙ i))
      go false b h i = refl

  pub plain_round : decorated ≡ false → round child ≡ group ++ round q
  plain_round e = ap (λ b. cond b (outside_function (round q)) (group ++ round q)) e

  pub plain_chain : decorated ≡ false → ChainOf q.node.kind r q.node q.chain child.chain
  plain_chain e = chain_of q r own cursor node (by_role e) reached own_is

  -- what is one
  pub outer_round : decorated ≡ true → round child ≡ outside_function (round q)
  outer_round e = ap (λ b. cond b (outside_function (round q)) (group ++ round q)) e

  pub outer_scopes : decorated ≡ true → child.chain ≡ outside q.chain
  outer_scopes e = ap (λ b. cond b (outside q.chain) (child_scopes q r own)) (go (is_parameter_decorator q.node.kind r) decorated told e)
    where
      go : (a b : Bool) → same_truth a b ≡ true → b ≡ true → a ≡ true
      go true b h i = refl
      go false b h i = absurd (never (sym h ∙ ap not i))

  module _ (P : List OpenScope → List Container → Type 0) (out : is_list_kind q.node.kind ≡ true → P (outside q.chain) (outside_function (round q))) where
    pub decorator_has : decorated ≡ true → P child.chain (round child)
    decorator_has e =
        subst (λ l. P l (round child)) (sym (outer_scopes e))
        (subst (P (outside q.chain)) (sym (outer_round e)) (out (list_is q.node.kind (and_first (is_parameter_kind q.node.kind) (same_kind node.kind kind.Decorator) e))))

    -- outside of the child, if that is a list or a parameter
    pub child_out : (same_kind q.node.kind kind.Program ≡ false → AllBefore q.node.node_id (round q)) → P q.chain (round q) → is_list_kind node.kind ≡ true → P (outside child.chain) (outside_function (round child))
    child_out before there e = subst (λ l. P (outside child.chain) (outside_function l)) (sym (plain_round plain)) (elim (either (holds_kind (kind.FormalParameters ∷ []) node.kind) (is_parameter_kind node.kind) e) [
      | inl i ↦ of_list (plain_chain plain) i (implied (has_parameters q.node.kind && is_inside q.node.kind r) (holds_kind (kind.FormalParameters ∷ []) node.kind) i
          (and_first ((has_parameters q.node.kind && is_inside q.node.kind r) || not (holds_kind (kind.FormalParameters ∷ []) node.kind)) (same_kind q.node.kind kind.FormalParameters || not (is_parameter_kind node.kind)) stands))
      | inr i ↦ of_parameter (plain_chain plain) (kind_is q.node.kind kind.FormalParameters (implied (same_kind q.node.kind kind.FormalParameters) (is_parameter_kind node.kind) i
          (and_second ((has_parameters q.node.kind && is_inside q.node.kind r) || not (holds_kind (kind.FormalParameters ∷ []) node.kind)) (same_kind q.node.kind kind.FormalParameters || not (is_parameter_kind node.kind)) stands)))
    ])
      where
        plain : decorated ≡ false
        plain = and_false (is_parameter_kind q.node.kind) (same_kind node.kind kind.Decorator) (no_decorator node.kind e)

        implied : (a b : Bool) → b ≡ true → (a || not b) ≡ true → a ≡ true
        implied true b i h = refl
        implied false b i h = absurd (never (sym h ∙ ap not i))

        of_list : {chain : List OpenScope} → ChainOf q.node.kind r q.node q.chain chain → holds_kind (kind.FormalParameters ∷ []) node.kind ≡ true → (has_parameters q.node.kind && is_inside q.node.kind r) ≡ true → P (outside chain) (outside_function (group ++ round q))
        of_list (outer_chain i) k h = absurd (never (sym (and_second (has_parameters q.node.kind) (is_inside q.node.kind r) h) ∙ i))
        of_list (inner_chain o i w x y) k h =
            let has : has_parameters q.node.kind ≡ true = and_first (has_parameters q.node.kind) (is_inside q.node.kind r) h in
            subst (P q.chain) (sym (outside_is s q.node node q.path (round q) q.node.kind has (sym (only_kind kind.FormalParameters node.kind k)) (before (no_program q.node.kind has)))) there

        of_parameter : {chain : List OpenScope} → ChainOf q.node.kind r q.node q.chain chain → q.node.kind ≡ kind.FormalParameters → P (outside chain) (outside_function (group ++ round q))
        of_parameter (outer_chain i) k = subst (λ j. P (outside q.chain) (outside_function (containers_by j s q.node q.path (round q) node ++ round q))) (sym k) (out (subst (λ j. is_list_kind j ≡ true) (sym k) refl))
        of_parameter (inner_chain o i w x y) k = absurd (never (sym (subst (λ j. is_inside j r ≡ true) k i)))
