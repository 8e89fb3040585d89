-- What two checks tell, one after the other.
use Rattle.std.proofs.Common.{◌≡◌, List, ◌++◌, ap, ◌∙◌}
use Rattle.std.proofs.lemmas.List.{append_assoc}
use Rattle.semantic_diagnostics.specs.declared.diagnostic.Diagnostic.{Diagnostic}

pub both_told : (rows more before mid now : List Diagnostic) → mid ≡ before ++ rows → now ≡ mid ++ more → now ≡ before ++ (rows ++ more)
both_told rows more before mid now h k = k ∙ ap (λ l. l ++ more) h ∙ append_assoc before rows more
