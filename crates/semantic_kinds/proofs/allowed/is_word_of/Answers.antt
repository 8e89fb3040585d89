use Rattle.std.proofs.Common.{◌∙◌, Bor, List, ℕ}
use Rattle.std.specs.Str.{chars}
use Rattle.semantic_kinds.proofs.Words.{one_of-chars}
use Rattle.semantic_kinds.proofs.allowed.is_word_of.Goals as goal

pub returns : goal.returns
returns c =
    c.contains.ensures.value ∙ one_of-chars (λ (word : Bor (List ℕ)). word.now) c.words_of.result.now c.args.text.now c.utf8.text c.words_of.ensures.ascii ∙ c.words_of.ensures.words (chars c.args.text.now)
