use Rattle.walk_model.proofs.sizes.Scopes.{scopes_counted}
use Rattle.walk_model.proofs.sizes.References.{references_counted}
use Rattle.walk_model.proofs.sizes.Symbols.{symbols_counted}
use Rattle.walk_model.proofs.counts.tables_are_counted.Goals as goal

pub returns-clause-scopes : goal.returns-clause-scopes
returns-clause-scopes c = scopes_counted

pub returns-clause-references : goal.returns-clause-references
returns-clause-references c = references_counted

pub returns-clause-symbols : goal.returns-clause-symbols
returns-clause-symbols c = symbols_counted
