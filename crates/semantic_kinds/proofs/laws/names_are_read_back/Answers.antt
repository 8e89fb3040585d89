use Rattle.semantic_kinds.proofs.KindNames.{kind_named-kind_name}
use Rattle.semantic_kinds.proofs.RoleNames.{role_named-role_name}
use Rattle.semantic_kinds.proofs.MarkNames.{mark_named-mark_name}
use Rattle.semantic_kinds.proofs.laws.names_are_read_back.Goals as goal

pub returns-clause-kinds : goal.returns-clause-kinds
returns-clause-kinds c = kind_named-kind_name

pub returns-clause-roles : goal.returns-clause-roles
returns-clause-roles c = role_named-role_name

pub returns-clause-marks : goal.returns-clause-marks
returns-clause-marks c = mark_named-mark_name
