use Rattle.std.proofs.Common.{ℕ, List, ◌%◌, [], ◌∷◌, ◌++◌, string_bytes, ap, ◌∙◌}
use Rattle.std.specs.Str.{chars}
use Rattle.std.proofs.lemmas.Str.{chars-nil}
use Rattle.mangle_model.specs.ShortNames.{character}
use Rattle.simple_names.proofs.ShortTexts.{short_text}
use Rattle.simple_names.proofs.short_names.short_name.Goals as goal

pub returns : goal.returns
returns c =
    let n : ℕ = c.args.number in
    short_text n (chars (string_bytes c.push_character.new.name)) (chars (string_bytes c.push_further.new.name))
    (c.in_ok-push_character.ensures ∙ ap (λ (bs : List ℕ). chars bs ++ character (n % 54) ∷ []) c.new-name.ensures.bytes ∙ ap (λ (xs : List ℕ). xs ++ character (n % 54) ∷ []) chars-nil)
    c.in_ok-push_further.ensures
