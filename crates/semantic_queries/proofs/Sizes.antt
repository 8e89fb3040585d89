-- The tables of a program are as large as its nodes are counted.
use Rattle.std.proofs.Common.{◌≡◌, None, sym, arith, ◌∙◌}
use Rattle.semantic_kinds.specs.declared.role.Role.TheVariants as role
use Rattle.semantic_tree.specs.Children.{single}
use Rattle.semantic_tree.specs.Faults.{first_fault}
use Rattle.semantic_tree.specs.Tree.{Tree, IsNumbered}
use Rattle.semantic_model.specs.TablesOf.{tables_of}
use Rattle.walk_model.proofs.sizes.Scopes.{scopes_counted}
use Rattle.walk_model.proofs.sizes.References.{references_counted}
use Rattle.walk_model.proofs.sizes.Symbols.{symbols_counted}
use Rattle.semantic_queries.specs.declared.stats.Stats.{Stats}
use Rattle.semantic_queries.specs.Tally.{IsCount, IsSizeOf}

pub tables_of_size : (p : Tree) → first_fault p ≡ None → IsNumbered p.root → (stats : Stats) → IsCount stats (single role.Root p.root) → IsSizeOf stats (tables_of p)
tables_of_size p fits numbered stats counted = record {
  scopes = counted.scopes ∙ sym (scopes_counted p);
  symbols = omega (arith, symbols_counted p fits numbered, counted.symbols);
  references = counted.references ∙ sym (references_counted p);
}
