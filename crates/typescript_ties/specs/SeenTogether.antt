-- Names that are declared plainly: what a scope binds to one is what its declarations there bind together.
use Rattle.std.specs.Prelude.{◌≡◌, ℕ, ◌==◌, ◌&&◌, Bool, Option, Some, None, cond, map, filter, bytes_eq, slice_get}
use Rattle.semantic_syntax.specs.declared.references.Reference.{Reference}
use Rattle.semantic_syntax.specs.Lookup.{Seen, Asked, lookup}
use Rattle.semantic_syntax.specs.Tables.{Name}
use Rattle.semantic_tree.specs.Tree.{Tree}
use Rattle.semantic_model.specs.Declaration.{Declaration, plain}
use Rattle.semantic_model.specs.Entries.{Among}
use Rattle.semantic_model.specs.Event.{events, declarations}
use Rattle.semantic_model.specs.Fold.{Made}
use Rattle.semantic_model.specs.Place.{OpenScope}
use Rattle.semantic_model.specs.Reference.{Occurrence, references}
use Rattle.semantic_model.specs.Step.{steps}
use Rattle.semantic_model.specs.TablesOf.{tables_of, made_of}
use Rattle.semantic_model.specs.Tie.{symbol_by}
use Rattle.binding_laws.specs.SeenDeclarations.{is_before_body, bound_by_all}

-- as `var` doesn't, nor a function that leaves its block, and not by a catch clause
pub record IsPlainDeclaration (d : Declaration) : Type 0 where
  pub how : d.how ≡ plain
  pub lasting : d.route.target.body ≡ None

-- each declaration of the name is
abbrev pub IsPlainlyDeclared : Tree → Name → Type 0
IsPlainlyDeclared p x = (d : Declaration) → Among d (declarations (events (steps p))) → d.naming.name ≡ x → IsPlainDeclaration d

-- a declaration of the name in the scope
abbrev pub is_in_scope : ℕ → Name → Made → Bool
is_in_scope c x m = m.declaration.route.target.number == c && bytes_eq m.declaration.naming.name x

-- and where a header holds the place, not one of the body
abbrev pub is_seen_from : OpenScope → Name → Made → Bool
is_seen_from s x m = cond s.in_header (is_before_body s.number x m) (is_in_scope s.number x m)

-- what the scope binds by these together
abbrev pub bound_together : Tree → Name → OpenScope → Option Seen
bound_together p x s = bound_by_all (filter (is_seen_from s x) (made_of p))

abbrev pub asked_together : Tree → Name → OpenScope → Asked
asked_together p x s = record { scope = s.number; flags = s.flags; bound = bound_together p x s }

-- each reference of the name is tied to the symbol of the first scope outward whose declarations together fit its way
abbrev pub AreTiedTogether : Tree → Name → Type 0
AreTiedTogether p x =
    (n : ℕ) (r : Occurrence) (e : Reference) → slice_get (references (steps p)) n ≡ Some r → slice_get (tables_of p).references n ≡ Some e → r.name ≡ x
    → e.symbol_id ≡ symbol_by (lookup x r.way (map (asked_together p x) r.chain))
