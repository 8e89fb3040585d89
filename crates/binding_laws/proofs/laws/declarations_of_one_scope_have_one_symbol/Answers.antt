use Rattle.binding_laws.proofs.OneSymbolEach.{one_symbol_each, conflicts_are_told}
use Rattle.binding_laws.proofs.VarScopes.{var_scopes_keep_names}
use Rattle.binding_laws.proofs.laws.declarations_of_one_scope_have_one_symbol.Goals as goal

pub returns-clause-one : goal.returns-clause-one
returns-clause-one c = λ p e. one_symbol_each p e

pub returns-clause-kept : goal.returns-clause-kept
returns-clause-kept c = λ p e. var_scopes_keep_names p e

pub returns-clause-told : goal.returns-clause-told
returns-clause-told c = λ p e. conflicts_are_told p e
