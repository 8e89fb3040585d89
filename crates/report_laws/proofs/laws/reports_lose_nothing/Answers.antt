use Rattle.report_laws.proofs.Programs.{reports_lose_nothing}
use Rattle.report_laws.proofs.laws.reports_lose_nothing.Goals as goal

pub returns : goal.returns
returns c = λ o q p r a b h k e. reports_lose_nothing o q p r a b h k e
