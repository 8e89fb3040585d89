use Rattle.std.proofs.Common.{◌≡◌, drop, map}
use Rattle.class_table.specs.Seen.{element_seen}
use Rattle.expression_checks.specs.SoundElements.{are_all_sound}
use Rattle.expression_checks.proofs.elements.are_all_sound.Given as goal

-- the classes that are left tell
abbrev pub invariant-loop-elements : goal.invariant-loop-elements
invariant-loop-elements l = are_all_sound l.source (map (λ v. map element_seen v.items) (drop l.elements-index l.classes)) ≡ are_all_sound l.source (map (λ v. map element_seen v.items) l.classes)
