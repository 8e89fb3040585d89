use Rattle.std.proofs.Common.{◌∙◌}
use Rattle.semantic_queries.proofs.Lookups.{number_found}
use Rattle.semantic_queries.proofs.node_symbols.ties.symbol_at.Goals as goal

pub returns : goal.returns
returns c = λ t. c.symbol_of.ensures ∙ number_found c.args.tables.now.symbols c.args.node
