use Rattle.std.proofs.Common.{◌≡◌, map, drop}
use Rattle.class_table.specs.Meanings.{put_all, meanings_of}
use Rattle.class_table.specs.Seen.{element_seen}
use Rattle.class_table.proofs.meant_names.MeantNames.of.Given as goal

-- the elements that are left give what is still to be put
abbrev pub invariant-loop-number : goal.invariant-loop-number
invariant-loop-number l = put_all l.number (map element_seen (drop l.number l.elements)) l.names ≡ meanings_of (map element_seen l.elements)
