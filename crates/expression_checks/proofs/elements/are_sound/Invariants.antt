use Rattle.std.proofs.Common.{◌≡◌, drop, map}
use Rattle.class_table.specs.Seen.{element_seen}
use Rattle.expression_checks.specs.SoundElements.{are_sound}
use Rattle.expression_checks.proofs.elements.are_sound.Given as goal

-- those that are left tell
abbrev pub invariant-loop-own : goal.invariant-loop-own
invariant-loop-own l = are_sound l.source (map element_seen (drop l.own-index l.elements)) ≡ are_sound l.source (map element_seen l.elements)
