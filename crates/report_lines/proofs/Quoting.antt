-- A text of plain bytes as a JSON string.
use Rattle.std.proofs.Common.{◌≡◌, ℕ, true, List, [], ◌∷◌, ◌++◌, ap, ◌∙◌, refl, arith, append_assoc}
use Rattle.std.proofs.lemmas.Grind.{common_steps}
use Rattle.std.specs.List.{list_all}
use Rattle.json.specs.Print.{escape_byte, escape}
use Rattle.report_lines.specs.Pieces.{quoted, is_plain_byte}

plain_byte : (x : ℕ) → is_plain_byte x ≡ true → escape_byte x ≡ x ∷ []
unfolding escape_byte
plain_byte x plain = grind (arith, common_steps)

escape_plain : (s : List ℕ) → list_all is_plain_byte s ≡ true → s ≡ escape s
escape_plain [] plain = refl
escape_plain (x ∷ xs) plain =
    let first : is_plain_byte x ≡ true = grind (arith, common_steps) in
    let others : list_all is_plain_byte xs ≡ true = grind (arith, common_steps) in
    rw (plain_byte x first) (ap (λ ys. x ∷ ys) (escape_plain xs others))

pub quoted_plain : (line s : List ℕ) → list_all is_plain_byte s ≡ true → ((line ++ 34 ∷ []) ++ s) ++ 34 ∷ [] ≡ line ++ quoted s
unfolding quoted
quoted_plain line s plain =
    append_assoc (line ++ 34 ∷ []) s (34 ∷ []) ∙ append_assoc line (34 ∷ []) (s ++ 34 ∷ []) ∙ ap (λ t. line ++ 34 ∷ (t ++ 34 ∷ [])) (escape_plain s plain)
