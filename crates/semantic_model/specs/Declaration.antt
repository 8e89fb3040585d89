-- A declaration of a name, from the scope where it stands to the scope that is to bind it.
use Rattle.std.specs.Prelude.{◌≡◌, ℕ, List, [], ◌∷◌, ◌++◌, Bool, true, Option, Some, None, cond, map}
use Rattle.semantic_syntax.specs.Members.{contains}
use Rattle.semantic_model.specs.Place.{OpenScope, innermost}
use Rattle.semantic_model.specs.Naming.{Naming}

-- how a declaration comes to its symbol
pub data How : Type 0 where
  -- in its scope
  plain : How
  -- as `var` does: a passed scope's symbol counts
  hoisted : How
  -- as a function in a block of sloppy code does: declared in the block, then moved out
  moved : How
  -- as the name of a catch clause does: always anew
  caught : How

-- a way outward: the scopes that are passed, and the one where it ends
pub record Route : Type 0 where
  pub passed : List OpenScope
  pub target : OpenScope

-- a declaration, with its way from the scope where it stands to its target
pub record Declaration : Type 0 where
  pub naming : Naming
  pub how : How
  pub route : Route

-- the scope where it stands
abbrev pub scope_it_stands_in : Declaration → OpenScope
scope_it_stands_in d = innermost (d.route.passed ++ d.route.target ∷ [])

abbrev pub stands_in : Declaration → ℕ
stands_in d = (scope_it_stands_in d).number

abbrev pub body_or : ℕ → Option ℕ → ℕ
body_or n None = n
body_or n (Some b) = b

abbrev pub body_list : Option ℕ → List ℕ
body_list None = []
body_list (Some b) = b ∷ []

-- the scope that binds the name in the end: its target, or the body's scope where that is a catch clause's
abbrev pub home : Declaration → ℕ
home d = body_or d.route.target.number d.route.target.body

-- the scopes from where it stands to its home
abbrev pub path : Declaration → List ℕ
path d = map (λ s. s.number) d.route.passed ++ d.route.target.number ∷ body_list d.route.target.body

-- two declarations of one name whose paths share a scope
pub record Meets (d e : Declaration) : Type 0 where
  pub same_name : d.naming.name ≡ e.naming.name
  pub shared : ℕ
  pub on_left : contains (path d) shared ≡ true
  pub on_right : contains (path e) shared ≡ true

abbrev pub here : List OpenScope → Route
here chain = record { passed = []; target = innermost chain }

abbrev pub passed_before : (OpenScope → Bool) → List OpenScope → List OpenScope
passed_before test [] = []
passed_before test (s ∷ ss) = cond (test s) [] (s ∷ passed_before test ss)

abbrev pub first_with : (OpenScope → Bool) → List OpenScope → Option OpenScope
first_with test [] = None
first_with test (s ∷ ss) = cond (test s) (Some s) (first_with test ss)

abbrev pub route_from : List OpenScope → List OpenScope → Option OpenScope → Route
route_from chain passed None = here chain
route_from chain passed (Some s) = record { passed = passed; target = s }

-- outward to the first scope with which the test holds; where there is none, it ends at once
abbrev pub outward_to : (OpenScope → Bool) → List OpenScope → Route
outward_to test chain = route_from chain (passed_before test chain) (first_with test chain)

-- the same, beginning outside the innermost scope
abbrev pub outward_past : (OpenScope → Bool) → List OpenScope → Route
outward_past test [] = here []
outward_past test (s ∷ ss) = route_from (s ∷ ss) (s ∷ passed_before test ss) (first_with test ss)
