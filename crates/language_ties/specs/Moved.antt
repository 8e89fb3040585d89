-- Which functions in blocks have a variable in the function around them (ECMA-262, B.3.2).
use Rattle.std.specs.Prelude.{◌==◌, List, [], ◌∷◌, ◌++◌, Bool, ◌&&◌, ◌||◌, not, cond, map, bytes_eq}
use Rattle.std.specs.List.{list_any}
use Rattle.semantic_tree.specs.Tree.{Tree}
use Rattle.semantic_model.specs.Step.{steps}
use Rattle.language_ties.specs.Bound.{Bound, is_bound_as, written}
use Rattle.language_ties.specs.Environments.{Environment, takes_variables, same_environment}
use Rattle.language_ties.specs.declared.bound_as.BoundAs.TheVariants as bound

-- whether the environment binds the name lexically, so that no variable of it may pass it or be bound there (14.2.1, 14.7.4.1, 14.12.1, 14.15.1 with B.3.4, 15.2.1, 16.1.1)
abbrev pub is_lexical_in : Environment → Bound → Bool
is_lexical_in e b =
    same_environment b.environment e && (is_bound_as bound.Lexical b || (is_bound_as bound.Function b && not (takes_variables e)))

-- whether it is a parameter of the function that makes the environment
abbrev pub is_parameter_of : Environment → Bound → Bool
is_parameter_of e b = is_bound_as bound.Parameter b && b.environment.maker == e.maker

abbrev pub is_other_namesake : Bound → Bound → Bool
is_other_namesake b c = not (c.identifier == b.identifier) && bytes_eq c.name b.name

-- whether the other bars a variable of the name on its way to the environment: with it there would be an early error, or it is a parameter (B.3.2.1)
abbrev pub bars : Bound → Environment → Bound → Bool
bars b target c =
    is_other_namesake b c && (list_any (λ e. is_lexical_in e c) (b.passed ++ target ∷ []) || is_parameter_of target c)

abbrev pub unless_barred : List Bound → Bound → List Environment → List Environment
unless_barred bs b [] = []
unless_barred bs b (target ∷ es) = cond (list_any (bars b target) bs) [] (target ∷ es)

-- a function whose variable is barred is bound by its block alone
abbrev pub moved : List Bound → Bound → Bound
moved bs b = cond (is_bound_as bound.Function b) (record b { also = unless_barred bs b b.also }) b

abbrev pub bound_among : List Bound → List Bound
bound_among bs = map (moved bs) bs

-- what a program binds
abbrev pub bound_of : Tree → List Bound
bound_of p = bound_among (written p.source_type (steps p))
