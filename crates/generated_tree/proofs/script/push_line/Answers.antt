use Rattle.generated_tree.proofs.Lines.{pushed}
use Rattle.generated_tree.proofs.script.push_line.Goals as goal

pub returns : goal.returns
returns c = pushed _ _ _ _ _ c.in_ok-push_str.ensures.bytes c.in_ok-push_str-2.ensures.bytes c.in_ok-push_str-3.ensures.bytes
