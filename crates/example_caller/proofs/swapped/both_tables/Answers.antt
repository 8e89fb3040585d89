use Rattle.std.proofs.Common.{◌≡◌, ap, refl, codes, ◌∙◌}
use Rattle.std.specs.Str.{chars}
use Rattle.semantic_kinds.proofs.Ascii.{ascii_chars}
use Rattle.semantic_tree.specs.Renamed.{swapped_tree}
use Rattle.semantic_tree.specs.Tree.{Tree}
use Rattle.semantic_model.specs.TablesOf.{tables_of}
use Rattle.semantic_model.specs.Swap.{IsSwappable}
use Rattle.example_caller.proofs.swapped.both_tables.Goals as goal

undefined_is : IsSwappable (codes "undefined")
undefined_is = record { not_empty = refl; not_arguments = refl; not_eval = refl }

u_is : IsSwappable (codes "u")
u_is = record { not_empty = refl; not_arguments = refl; not_eval = refl }

-- the words are their bytes
spelled : (p : Tree) → swapped_tree (chars (codes "undefined")) (chars (codes "u")) p ≡ swapped_tree (codes "undefined") (codes "u") p
spelled p = λ i. swapped_tree (ascii_chars (codes "undefined") refl i) (ascii_chars (codes "u") refl i) p

pub returns : goal.returns
returns c = c.in_ok-second.ensures.tables ∙ ap tables_of (c.in_ok-swapped.ensures ∙ spelled c.args.program.now) ∙ c.in_ok-first.ensures.names (codes "undefined") (codes "u") undefined_is u_is
