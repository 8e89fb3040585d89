use Rattle.report_laws.proofs.Programs.{answers_lose_nothing}
use Rattle.report_laws.proofs.laws.answers_lose_nothing.Goals as goal

pub returns : goal.returns
returns c = λ input other p r asked also x y text s t read also_read h k. answers_lose_nothing input other p r asked also x y text s t read also_read h k
