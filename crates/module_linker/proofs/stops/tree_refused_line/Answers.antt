use Rattle.std.proofs.Common.{◌≡◌, List, ℕ, IfOk, string_bytes, subst, ◌∙◌}
use Rattle.module_linker.specs.Lines.{module_line}
use Rattle.module_linker.proofs.stops.tree_refused_line.Goals as goal

pub returns : goal.returns
returns c =
    subst (λ (bytes : List ℕ). IfOk c.module_line.result (λ line. string_bytes line ≡ module_line c.args.number bytes)) (c.deref.ensures ∙ c.in_ok-line.ensures) c.module_line.ensures
