-- One link more.
use Rattle.std.proofs.Common.{◌≡◌, ◌<◌, ◌≤◌, ℕ, ◌+◌, List, Bool, true, false, ◌||◌, length, drop, get_or, ap, ◌∙◌}
use Rattle.std.specs.Prelude.{if◌then◌else◌}
use Rattle.std.specs.List.{list_any}
use Rattle.std.proofs.lemmas.List.{at_drop_more, at_drop_all}
use Rattle.link_model.specs.declared.outcome.Link.{Link}
use Rattle.module_linker.specs.Codes.{status_for, is_loose}
use Rattle.program_ends.specs.declared.finding.FindingStatus.TheVariants.{Done, Found}

pub loose_turn : (ls : List Link) (i : ℕ) (d : Link) → i < length ls → is_loose (get_or ls i d).outcome ≡ false → status_for (drop i ls) ≡ status_for (drop (i + 1) ls)
loose_turn ls i d h is = at_drop_more status_for ls i d h ∙ ap (λ (b : Bool). if b || list_any (λ l. is_loose l.outcome) (drop (i + 1) ls) then Found else Done) is

pub loose_found : (ls : List Link) (i : ℕ) (d : Link) → i < length ls → is_loose (get_or ls i d).outcome ≡ true → status_for (drop i ls) ≡ Found
loose_found ls i d h is = at_drop_more status_for ls i d h ∙ ap (λ (b : Bool). if b || list_any (λ l. is_loose l.outcome) (drop (i + 1) ls) then Found else Done) is

pub loose_end : (ls : List Link) (i : ℕ) → length ls ≤ i → status_for (drop i ls) ≡ Done
loose_end ls i h = at_drop_all status_for ls i h
