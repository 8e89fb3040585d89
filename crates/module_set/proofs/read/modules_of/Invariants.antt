use Rattle.std.proofs.Common.{◌≡◌, List, ◌++◌, drop, map, length}
use Rattle.module_set.specs.declared.error.LinkError.{LinkError}
use Rattle.module_set.specs.declared.modules.Module.{Module}
use Rattle.module_set.specs.Reading.{AreRead, RefusedFrom}
use Rattle.module_set.specs.Views.{module_seen}
use Rattle.module_set.proofs.Sequence.{Continues}
use Rattle.module_set.proofs.read.modules_of.Given as goal

-- what comes of the texts that are left, comes of all
abbrev pub invariant-loop-number : goal.invariant-loop-number
invariant-loop-number l = record {
  read : (rest : List Module) → AreRead (map module_seen (drop l.number l.texts)) rest → AreRead (map module_seen l.texts) (l.list.items ++ rest);
  refused : (e : LinkError) → RefusedFrom l.number (map module_seen (drop l.number l.texts)) e → RefusedFrom 0 (map module_seen l.texts) e;
  whole : (ms : List Module) → AreRead (map module_seen l.texts) ms → Continues l.list.items (map module_seen (drop l.number l.texts)) ms;
  count : length l.list.items ≡ l.number;
}
