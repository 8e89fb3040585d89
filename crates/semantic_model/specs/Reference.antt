-- The identifier references of a program, in preorder.
use Rattle.std.specs.Prelude.{ℕ, List, Option, Some, None, cond, filter_map}
use Rattle.semantic_kinds.specs.declared.kind.AstType.TheVariants as kind
use Rattle.semantic_syntax.specs.Tables.{Name}
use Rattle.semantic_tree.specs.Views.{is}
use Rattle.semantic_model.specs.Place.{Place, OpenScope}
use Rattle.semantic_model.specs.Step.{Step, entering}
use Rattle.semantic_model.specs.Cursor.{way_or_read}

pub record Occurrence : Type 0 where
  pub node : ℕ
  pub name : Name
  -- how the name is used
  pub way : ℕ
  -- the scopes in which it stands, innermost first
  pub chain : List OpenScope

abbrev pub reference_at : Place → Occurrence
reference_at p = record { node = p.node.node_id; name = p.node.text; way = way_or_read p.cursor; chain = p.chain }

abbrev pub entered_reference : Step → Option Occurrence
entered_reference (entering p) = cond (is kind.IdentifierReference p.node) (Some (reference_at p)) None
entered_reference _ = None

abbrev pub references : List Step → List Occurrence
references steps = filter_map entered_reference steps
