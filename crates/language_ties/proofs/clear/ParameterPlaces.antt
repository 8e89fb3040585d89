-- Parameters are bound in an environment where variables go.
use Rattle.std.proofs.Common.{◌≡◌, List, [], ◌∷◌, ◌++◌, Bool, true, false, ◌&&◌, ◌||◌, not, cond, refl, sym, ap, subst, ◌∙◌}
use Rattle.semantic_kinds.specs.Classes.{holds_kind}
use Rattle.semantic_kinds.specs.Kinds.{same_kind}
use Rattle.semantic_kinds.specs.declared.kind.AstType.{AstType}
use Rattle.semantic_kinds.specs.declared.kind.AstType.TheVariants as kind
use Rattle.semantic_tree.specs.declared.node.Node.{Node}
use Rattle.semantic_model.proofs.form.Clauses.{kind_is}
use Rattle.semantic_model.proofs.form.ParameterShape.{is_parameter}
use Rattle.binding_laws.proofs.SmallLaws.{never}
use Rattle.language_ties.specs.EcmaScript.{is_ecmascript_kind}
use Rattle.language_ties.specs.Environments.{Environment, is_outside_body, has_parameter_expressions, made_by, environments, innermost, takes_variables}
use Rattle.language_ties.specs.declared.environment_kind.EnvironmentKind.TheVariants as environment
use Rattle.language_ties.proofs.agree.FamiliarPlaces.{is_function_kind, is_parent, ParentsFit}
use Rattle.language_ties.proofs.agree.MadeEnvironments.{EndsAtProgram}

-- the parameters of a function are bound where its variables are
pub parameter_takes : (node : Node) (path : List Node) → is_parameter node.kind ≡ true → ParentsFit node.kind path → EndsAtProgram node path → takes_variables (innermost (environments node path)) ≡ true
parameter_takes node [] k f w = absurd (never (sym k ∙ ap is_parameter w))
parameter_takes node (y ∷ path) k f w = list_takes path list f.2 w
  where
    of_parameter : (j : AstType) → is_parameter j ≡ true → is_parent y.kind j ≡ true → same_kind y.kind kind.FormalParameters ≡ true
    of_parameter kind.FormalParameter i g = g
    of_parameter kind.FormalParameterRest i g = g
    of_parameter _ i g = absurd (never (sym i))

    list : y.kind ≡ kind.FormalParameters
    list = kind_is y.kind kind.FormalParameters (of_parameter node.kind k f.0)

    function_takes_it : (z : Node) (rest : List Environment) → is_function_kind z.kind ≡ true → takes_variables (innermost (made_by z.kind z y ++ rest)) ≡ true
    function_takes_it z rest g = by (same_kind kind.Function z.kind) (same_kind kind.ArrowFunctionExpression z.kind) refl refl g
      where
        outside : is_outside_body y ≡ true
        outside = ap (λ i. holds_kind (kind.BindingIdentifier ∷ kind.FormalParameters ∷ []) i) list

        none_round : (not (is_outside_body y) && has_parameter_expressions z) ≡ false
        none_round = ap (λ b. not b && has_parameter_expressions z) outside

        as_function : (i : AstType) → i ≡ kind.Function → takes_variables (innermost (made_by i z y ++ rest)) ≡ true
        as_function i q = subst (λ j. takes_variables (innermost (made_by j z y ++ rest)) ≡ true) (sym q)
            (subst (λ b. takes_variables (innermost ((cond b (record { kind = environment.Body; maker = z.node_id } ∷ []) [] ++ record { kind = environment.Parameters; maker = z.node_id } ∷ record { kind = environment.OwnName; maker = z.node_id } ∷ []) ++ rest)) ≡ true) (sym none_round) refl)

        as_arrow : (i : AstType) → i ≡ kind.ArrowFunctionExpression → takes_variables (innermost (made_by i z y ++ rest)) ≡ true
        as_arrow i q = subst (λ j. takes_variables (innermost (made_by j z y ++ rest)) ≡ true) (sym q)
            (subst (λ b. takes_variables (innermost ((cond b (record { kind = environment.Body; maker = z.node_id } ∷ []) [] ++ record { kind = environment.ArrowParameters; maker = z.node_id } ∷ []) ++ rest)) ≡ true) (sym none_round) refl)

        by : (a b : Bool) → same_kind kind.Function z.kind ≡ a → same_kind kind.ArrowFunctionExpression z.kind ≡ b → (a || (b || false)) ≡ true → takes_variables (innermost (made_by z.kind z y ++ rest)) ≡ true
        by true b i j v = as_function z.kind (sym (kind_is kind.Function z.kind i))
        by false true i j v = as_arrow z.kind (sym (kind_is kind.ArrowFunctionExpression z.kind j))
        by false false i j v = absurd (never (sym v))

    or_first : (a b : Bool) → (a || not b) ≡ true → b ≡ true → a ≡ true
    or_first true b i j = refl
    or_first false true i j = absurd (never (sym i))
    or_first false false i j = absurd (never (sym j))

    list_takes : (path : List Node) → y.kind ≡ kind.FormalParameters → ParentsFit y.kind path → EndsAtProgram y path → takes_variables (innermost (made_by y.kind y node ++ environments y path)) ≡ true
    list_takes [] q g v = let u : kind.Program ≡ kind.FormalParameters = sym v ∙ q in absurd cc
    list_takes (z ∷ path) q g v =
        let parent : is_parent z.kind kind.FormalParameters ≡ true = subst (λ i. is_parent z.kind i ≡ true) q g.0 in
        subst (λ i. takes_variables (innermost (made_by i y node ++ environments y (z ∷ path))) ≡ true) (sym q)
        (function_takes_it z (environments z path) (or_first (is_function_kind z.kind) (is_ecmascript_kind z.kind) parent g.1))
