use Rattle.std.proofs.Common.{◌≡◌, ◌++◌, drop, map}
use Rattle.report_lines.specs.Pieces.{flags_text}
use Rattle.report_lines.proofs.NamesLeft.{names_left}
use Rattle.report_lines.proofs.flags.push_flags.Given as goal

abbrev pub invariant-loop-flag : goal.invariant-loop-flag
invariant-loop-flag g l =
    l.line ++ names_left l.first (g.F.Flags.set_of l.flags) (map (λ f. (f.name.now, g.F.Flags.set_of f.value)) (drop l.flag-index l.flag-items))
    ≡ l.fn.line ++ flags_text (map (λ f. (f.name.now, g.F.Flags.set_of f.value)) l.flag-items) (g.F.Flags.set_of l.flags)
