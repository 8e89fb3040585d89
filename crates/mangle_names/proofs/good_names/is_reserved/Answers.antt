use Rattle.std.proofs.Common.{◌∙◌, Bor, List, ℕ, bytes_eq, ap}
use Rattle.std.specs.List.{list_any}
use Rattle.std.specs.Str.{chars}
use Rattle.semantic_kinds.proofs.Words.{one_of-chars}
use Rattle.mangle_names.proofs.good_names.is_reserved.Goals as goal

pub returns : goal.returns
returns c =
    c.contains.ensures.value ∙ one_of-chars (λ (word : Bor (List ℕ)). word.now) c.reserved_words.result.now c.args.name.now c.utf8.name c.reserved_words.ensures.ascii
    ∙ ap (list_any (bytes_eq (chars c.args.name.now))) c.reserved_words.ensures.words
