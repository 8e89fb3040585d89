use Rattle.std.proofs.Common.{◌≡◌, drop}
use Rattle.module_linker.specs.Codes.{status_for}
use Rattle.module_linker.proofs.program.status_for.Given as goal

-- the status for those that are left is that for all
abbrev pub invariant-loop-link : goal.invariant-loop-link
invariant-loop-link l = status_for (drop l.link-index l.links) ≡ status_for l.links
