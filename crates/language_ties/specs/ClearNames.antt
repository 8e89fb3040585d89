-- Names whose declarations keep clear of each other, told by what the language binds.
use Rattle.std.specs.Prelude.{◌≡◌, Bool, false, ◌||◌}
use Rattle.semantic_syntax.specs.Tables.{Name}
use Rattle.semantic_tree.specs.Tree.{Tree}
use Rattle.semantic_model.specs.Entries.{Among}
use Rattle.semantic_model.specs.Step.{steps}
use Rattle.language_ties.specs.Bound.{Bound, is_bound_as, written}
use Rattle.language_ties.specs.declared.bound_as.BoundAs.TheVariants as bound

-- a variable, a function or a plain catch name, which may go further out or meet another
abbrev pub may_go_out : Bound → Bool
may_go_out b = is_bound_as bound.Var b || is_bound_as bound.Function b || is_bound_as bound.CatchName b

-- the name is bound as none of these: only by `let`, `const`, classes, imports and patterns of catch clauses, and as a parameter or an own name
abbrev pub StaysInside : Tree → Name → Type 0
StaysInside p name = (b : Bound) → Among b (written p.source_type (steps p)) → b.name ≡ name → may_go_out b ≡ false

-- one identifier alone binds it
abbrev pub IsBoundOnce : Tree → Name → Type 0
IsBoundOnce p name =
    (b c : Bound) → Among b (written p.source_type (steps p)) → Among c (written p.source_type (steps p)) → b.name ≡ name → c.name ≡ name → b.identifier ≡ c.identifier
