-- The ids that a walk still asks for, and whether they are left.
use Rattle.std.specs.Prelude.{ℕ, ◌+◌, ◌<◌, List, [], ◌∷◌, cond, length}
use Rattle.semantic_kinds.specs.declared.kind.AstType.TheVariants as kind
use Rattle.semantic_syntax.specs.Tables.{Tables}
use Rattle.semantic_tree.specs.Views.{is}
use Rattle.semantic_model.specs.Step.{Step, entering, opening}
use Rattle.semantic_model.specs.Event.{declared_at}

-- whether a step opens a scope
abbrev pub opened_by : Step → ℕ
opened_by (opening p s) = 1
opened_by _ = 0

-- how many names it declares
abbrev pub names_declared_by : Step → ℕ
names_declared_by step = length (declared_at step)

-- whether it enters a reference
abbrev pub referred_by : Step → ℕ
referred_by (entering p) = cond (is kind.IdentifierReference p.node) 1 0
referred_by _ = 0

-- how often that is in all of the steps
abbrev pub in_all : (Step → ℕ) → List Step → ℕ
in_all by [] = 0
in_all by (step ∷ more) = by step + in_all by more

-- how many ids there are of a kind: 0 to 4294967294
abbrev pub id_count : ℕ
id_count = 4294967295

-- each scope, symbol and reference has an id, also of those that the steps still make
pub record HasRoom (t : Tables) (steps : List Step) : Type 0 where
  pub scopes : length t.scopes + in_all opened_by steps < id_count
  pub symbols : length t.symbols + in_all names_declared_by steps < id_count
  pub references : length t.references + in_all referred_by steps < id_count
