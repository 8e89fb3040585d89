-- Which declarations of one name in one scope have one symbol, and which of them conflict.
use Rattle.std.specs.Prelude.{◌≡◌, ℕ, ◌==◌, List, [], ◌∷◌, Bool, true, false, Some, ◌⊎◌, map}
use Rattle.semantic_syntax.specs.Members.{contains}
use Rattle.semantic_syntax.specs.Sets.{meets}
use Rattle.semantic_syntax.specs.Tables.{Name}
use Rattle.semantic_syntax.specs.declared.spans.Span.{Span}
use Rattle.semantic_tree.specs.Tree.{Tree}
use Rattle.semantic_model.specs.Analysis.{analysis_of, symbol_at}
use Rattle.semantic_model.specs.Binder.{is_var}
use Rattle.semantic_model.specs.Declaration.{Declaration, How, plain, hoisted, moved, caught, stands_in}
use Rattle.semantic_model.specs.Entries.{Among}
use Rattle.semantic_model.specs.Event.{events, declarations}
use Rattle.semantic_model.specs.Fold.{Made, Conflict, start}
use Rattle.semantic_model.specs.Hoist.{run}
use Rattle.semantic_model.specs.Step.{steps}
use Rattle.semantic_model.specs.TablesOf.{made_of}
use Rattle.binding_laws.specs.SeenDeclarations.{is_own_name}

-- whether it takes its name from the scope: a `var` that passes it, a plain catch name, which is always new
abbrev pub takes_by : How → ℕ → Declaration → Bool
takes_by plain c d = false
takes_by hoisted c d = contains (map (λ s. s.number) d.route.passed) c
takes_by moved c d = false
takes_by caught c d = d.route.target.number == c

-- no declaration of the program takes the name from the scope
abbrev pub NoneTakes : Tree → ℕ → Name → Type 0
NoneTakes p c x = (d : Declaration) → Among d (declarations (events (steps p))) → d.naming.name ≡ x → takes_by d.how c d ≡ false

-- the scope in which it is declared first: the block of a block function, which may move then, and else its target
abbrev pub first_scope : How → Declaration → ℕ
first_scope moved d = stands_in d
first_scope _ d = d.route.target.number

-- no other scope is asked for its symbol, as of `let`, classes, functions, imports and types, parameters, and a `var` at the top of its function
abbrev pub Stays : Declaration → Type 0
Stays d = (d.how ≡ plain) ⊎ ((d.how ≡ moved) ⊎ ((d.how ≡ hoisted) × (d.route.passed ≡ [])))

-- it declares the name in the scope, and is no function expression's own name
pub record BindsIn (c : ℕ) (x : Name) (d : Declaration) : Type 0 where
  pub stays : Stays d
  pub scope : first_scope d.how d ≡ c
  pub named : d.naming.name ≡ x
  pub other : is_own_name d ≡ false

-- all such declarations of one name in one scope have one symbol, unless another one takes the name from there
abbrev pub OneSymbolEach : Tree → Type 0
OneSymbolEach p = (c : ℕ) (x : Name) → NoneTakes p c x → (m n : Made) → Among m (made_of p) → Among n (made_of p) → BindsIn c x m.declaration → BindsIn c x n.declaration → m.symbol ≡ n.symbol

-- where `var` goes, as a function's scope or the program's, nothing takes the name away
abbrev pub VarScopesKeepNames : Tree → Type 0
VarScopesKeepNames p = (x : Name) (m : Made) → Among m (made_of p) → is_var m.declaration.route.target ≡ true → NoneTakes p m.declaration.route.target.number x

-- the symbol of a declaration is what an analysis tells of its identifier
abbrev pub SymbolsAreAtNodes : Tree → Type 0
SymbolsAreAtNodes p = (m : Made) → Among m (made_of p) → symbol_at (analysis_of p) m.declaration.naming.identifier ≡ Some m.symbol

-- n stands behind m in the list
abbrev pub Follows : Made → Made → List Made → Type 0
Follows m n [] = ⊥
Follows m n (y ∷ ys) = ((y ≡ m) × Among n ys) ⊎ Follows m n ys

-- among the conflicts is one of the declaration with an earlier one of its name
pub record IsConflictTold (d : Declaration) (conflicts : List Conflict) : Type 0 where
  pub earlier : Span
  pub among : Among (record { name = d.naming.name; earlier = earlier; later = d.naming.span }) conflicts

-- of two such declarations the later one is a conflict if it excludes what the earlier one is
abbrev pub ConflictsAreTold : Tree → Type 0
ConflictsAreTold p = (c : ℕ) (x : Name) → NoneTakes p c x → (m n : Made) → Follows m n (made_of p) → BindsIn c x m.declaration → BindsIn c x n.declaration → meets m.declaration.naming.flags n.declaration.naming.excluded ≡ true → IsConflictTold n.declaration (run start (events (steps p))).conflicts
