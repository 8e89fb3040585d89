-- References that wait outside of a header stay as they are.
use Rattle.std.proofs.Common.{◌≡◌, ℕ, zero, suc, false, List, [], ◌∷◌, ◌++◌, map, take, drop, refl, ap, sym, ◌∙◌}
use Rattle.semantic_syntax.specs.Tables.{Tables}
use Rattle.semantic_syntax.specs.Source.{Source}
use Rattle.semantic_syntax.specs.Told.{source_of}
use Rattle.semantic_syntax.specs.Outcome.{Pending, waits, is_below, header_outcome, staying}
use Rattle.walk_model.specs.WalkState.{WalkState}
use Rattle.walk_model.specs.Settles.{settle, end_header}
use Rattle.table_building.specs.Settled.{settled_from, AreOutside}

module _ (source : Source) (c : ℕ) where
  stays : (e : Pending) → is_below source c e ≡ false → header_outcome source c e ≡ waits e.lookup_scope
  stays e h = rw h refl

  -- they settle nothing
  settle_past : (t : Tables) (n : ℕ) (es : List Pending) → AreOutside source c (take n es)
      → settle t es (map (header_outcome source c) es) ≡ settle t (drop n es) (map (header_outcome source c) (drop n es))
  settle_past t zero es h = refl
  settle_past t (suc n) [] h = refl
  settle_past t (suc n) (e ∷ es) h = rw (stays e h.0) (settle_past t n es h.1)

  -- and wait on
  staying_past : (n : ℕ) (es : List Pending) → AreOutside source c (take n es)
      → staying es (map (header_outcome source c) es) ≡ take n es ++ staying (drop n es) (map (header_outcome source c) (drop n es))
  staying_past zero es h = refl
  staying_past (suc n) [] h = refl
  staying_past (suc n) (e ∷ es) h = rw (stays e h.0) (ap (λ more. e ∷ more) (staying_past n es h.1))

-- so to settle those that wait since the start of a header is to end the header
pub ended : (w : WalkState) (c start : ℕ) → AreOutside (source_of w.tables) c (take start w.waiting)
    → settled_from w start (map (header_outcome (source_of w.tables) c) (drop start w.waiting)) ≡ end_header w c
ended w c start h =
    ap (λ (t : Tables). record w { tables = t; waiting = take start w.waiting ++ staying (drop start w.waiting) (map (header_outcome (source_of w.tables) c) (drop start w.waiting)) })
    (sym (settle_past (source_of w.tables) c w.tables start w.waiting h))
    ∙ ap (λ (es : List Pending). record w { tables = settle w.tables w.waiting (map (header_outcome (source_of w.tables) c) w.waiting); waiting = es })
    (sym (staying_past (source_of w.tables) c start w.waiting h))

pub ruleset outside = (ended)
