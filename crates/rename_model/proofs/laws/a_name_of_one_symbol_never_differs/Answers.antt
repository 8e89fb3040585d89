use Rattle.rename_model.proofs.Completeness.{never_differs}
use Rattle.rename_model.proofs.laws.a_name_of_one_symbol_never_differs.Goals as goal

pub returns : goal.returns
returns c = λ p s y new h n there arguments eval alone unused node e. never_differs p h n s y there new arguments eval alone unused node e
