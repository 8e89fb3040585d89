use Rattle.std.proofs.Common.{◌≡◌, ◌++◌, drop}
use Rattle.tangle_lint.specs.Lines.{reasons_text}
use Rattle.tangle_lint.proofs.tangle_lines.push_reasons.Given as goal

abbrev pub invariant-loop-reason : goal.invariant-loop-reason
invariant-loop-reason l = l.line ++ reasons_text (drop l.reason-index l.reasons) ≡ l.initial.line ++ reasons_text l.reasons
