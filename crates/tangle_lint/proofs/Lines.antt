-- The lines that are written are those of the definitions.
use Rattle.std.proofs.Common.{◌≡◌, ◌+◌, ◌<◌, ◌≤◌, ℕ, List, [], ◌∷◌, ◌++◌, length, map, drop, get_or, sym, ap, ◌∙◌, refl, append_assoc, append-nil}
use Rattle.std.specs.List.{flat_map}
use Rattle.std.proofs.lemmas.List.{at_drop_more, at_drop_all}
use Rattle.semantic_syntax.specs.Tables.{Tables}
use Rattle.tangle_model.specs.declared.reason.Reason.{Reason}
use Rattle.tangled_names.specs.Found.{tangle_seen}
use Rattle.tangled_names.specs.declared.tangles.TangledName.{TangledName}
use Rattle.tangle_lint.specs.Lines.{reason_text, reasons_text, seen_line, tangle_lines}

pub lines_seen : (t : Tables) (names : List TangledName) → flat_map (seen_line t) names ≡ tangle_lines t (map tangle_seen names)
lines_seen t [] = refl
lines_seen t (n ∷ ns) = ap (λ xs. seen_line t n ++ xs) (lines_seen t ns)

-- the words for the reasons that are left
pub reason_turn : (rs : List Reason) (i : ℕ) (d : Reason) (line new goal : List ℕ) → i < length rs → new ≡ line ++ reason_text (get_or rs i d) → line ++ reasons_text (drop i rs) ≡ goal → new ++ reasons_text (drop (i + 1) rs) ≡ goal
reason_turn rs i d line new goal within made h =
    ap (λ xs. xs ++ reasons_text (drop (i + 1) rs)) made
    ∙ append_assoc line (reason_text (get_or rs i d)) (reasons_text (drop (i + 1) rs))
    ∙ ap (λ xs. line ++ xs) (sym (at_drop_more reasons_text rs i d within))
    ∙ h

pub reasons_end : (rs : List Reason) (i : ℕ) (line goal : List ℕ) → length rs ≤ i → line ++ reasons_text (drop i rs) ≡ goal → line ≡ goal
reasons_end rs i line goal past h = sym (append-nil line) ∙ ap (λ xs. line ++ xs) (sym (at_drop_all reasons_text rs i past)) ∙ h
