use Rattle.std.proofs.Common.{◌≡◌, ◌<◌, [], ◌∷◌, string_bytes, sym, ap, subst, ◌∙◌}
use Rattle.std.proofs.lemmas.Str.{IsUtf8-string_bytes}
use Rattle.mangle_model.specs.ShortNames.{character}
use Rattle.simple_names.proofs.ShortTexts.{small, text_pushed}
use Rattle.simple_names.proofs.short_names.push_character.Goals as goal

pub returns : goal.returns
returns c =
    let is : c.from.result ≡ character c.args.number = c.from.ensures ∙ c.character.ensures in
    let low : c.from.result < 128 = subst (λ k. k < 128) (sym is) (small c.args.number c.requires) in
    text_pushed c.push.result (string_bytes c.args.name.now) (string_bytes c.push.new.self) _ c.args.number c.push.ensures.bytes (IsUtf8-string_bytes c.args.name.now) c.requires
    (c.push.ensures.ascii low ∙ ap (λ k. k ∷ []) is)
