use Rattle.semantic_queries.proofs.Lookups.{shows}
use Rattle.semantic_queries.proofs.node_symbols.laws.tables_show_the_analysis.Goals as goal

pub returns : goal.returns
returns c = λ p t nodes e symbols references scopes. shows p t nodes e symbols references scopes
