-- A text is an identifier of ASCII where its bytes are.
use Rattle.std.proofs.Common.{◌≡◌, ℕ, ◌<◌, List, [], ◌∷◌, Bool, true, false, ◌&&◌, ◌||◌, refl, sym, subst, ◌∙◌, arith}
use Rattle.std.specs.List.{list_all}
use Rattle.std.specs.Str.{chars, IsUtf8, IsAscii}
use Rattle.std.proofs.lemmas.Bool.{and_parts}
use Rattle.std.proofs.lemmas.Bool.Decides.{Decides-ltb, nat_tests}
use Rattle.std.proofs.lemmas.Str.{encodes-chars, encodes-IsAscii, chars_from_encodes, IsUtf8-from_ascii}
use Rattle.semantic_kinds.specs.Ascii.{is_ascii}
use Rattle.semantic_kinds.proofs.Ascii.{ascii_text}
use Rattle.mangle_model.specs.GoodNames.{is_ascii_identifier, is_start, is_part, is_between}

part_small : (c : ℕ) → is_part c ≡ true → c < 128
part_small c h = grind (arith, nat_tests, h)

parts_ascii : (cs : List ℕ) → list_all is_part cs ≡ true → is_ascii cs ≡ true
parts_ascii [] h = refl
parts_ascii (c ∷ cs) h = let parts = and_parts (is_part c) (list_all is_part cs) h in λ i. (Decides-ltb c 128).1 (part_small c parts.0) i && parts_ascii cs parts.1 i

identifier_ascii : (cs : List ℕ) → is_ascii_identifier cs ≡ true → IsAscii cs
identifier_ascii [] h = absurd cc
identifier_ascii (c ∷ cs) h =
    let parts = and_parts (is_start c) (list_all is_part cs) h in
    ascii_text (c ∷ cs) (parts_ascii (c ∷ cs) (λ i. (parts.0 i || is_between 48 57 c) && parts.1 i))

decoded : (bs : List ℕ) → IsAscii bs → bs ≡ chars bs
decoded bs plain = chars_from_encodes bs bs (IsUtf8-from_ascii bs plain) (encodes-IsAscii bs plain)

both : (a b : Bool) → (a ≡ true → b ≡ true) → (b ≡ true → a ≡ true) → a ≡ b
both true b f g = sym (f refl)
both false true f g = g refl
both false false f g = refl

pub by_bytes : (bs : List ℕ) → IsUtf8 bs → is_ascii_identifier bs ≡ is_ascii_identifier (chars bs)
by_bytes bs u =
    both (is_ascii_identifier bs) (is_ascii_identifier (chars bs))
    (λ h. subst (λ t. is_ascii_identifier t ≡ true) (decoded bs (identifier_ascii bs h)) h)
    (λ h. subst (λ t. is_ascii_identifier t ≡ true) (sym (encodes-IsAscii (chars bs) (identifier_ascii (chars bs) h)) ∙ encodes-chars bs u) h)
