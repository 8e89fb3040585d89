-- Scopes of the tables and environments of the language, told by what makes them.
use Rattle.std.specs.Prelude.{◌≡◌, ℕ, List, [], ◌∷◌, Bool, ◌||◌, not, cond, map}
use Rattle.semantic_model.specs.Binder.{is_var}
use Rattle.semantic_model.specs.EachStep.{EachStep}
use Rattle.semantic_model.specs.Place.{Place, OpenScope}
use Rattle.semantic_model.specs.Step.{Step, entering, opening, header_ending, closing, leaving, steps}
use Rattle.semantic_tree.specs.Tree.{Tree}
use Rattle.language_ties.specs.Environments.{Environment, is_made_for, takes_variables, environments}
use Rattle.language_ties.specs.declared.environment_kind.EnvironmentKind.TheVariants as environment

-- the node that makes a scope or an environment, and whether `var` declares in it
pub record Maker : Type 0 where
  pub node : ℕ
  pub takes_variables : Bool

abbrev pub maker_of_scope : OpenScope → Maker
maker_of_scope s = record { node = s.opener; takes_variables = is_var s }

abbrev pub maker_of_environment : Environment → Maker
maker_of_environment e = record { node = e.maker; takes_variables = takes_variables e }

-- a function has one scope for its name, its parameters and its body, and the body of an `if` has none
abbrev pub has_scope : Environment → Bool
has_scope e = not (is_made_for environment.OwnName e || is_made_for environment.Body e || is_made_for environment.IfBody e)

-- what makes the environments that have a scope
abbrev pub makers : List Environment → List Maker
makers [] = []
makers (e ∷ es) = cond (has_scope e) (maker_of_environment e ∷ makers es) (makers es)

-- the scopes of a place are those of its environments
abbrev pub HasItsEnvironments : Place → Type 0
HasItsEnvironments p = map maker_of_scope p.chain ≡ makers (environments p.node p.path)

abbrev pub HasThem : Step → Type 0
HasThem (entering p) = HasItsEnvironments p
HasThem (opening p s) = Unit {0}
HasThem (header_ending p s) = Unit {0}
HasThem (closing p s) = Unit {0}
HasThem (leaving p) = Unit {0}

-- at each node of the program
abbrev pub ScopesAreEnvironments : Tree → Type 0
ScopesAreEnvironments p = EachStep HasThem (steps p)
