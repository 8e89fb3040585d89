use Rattle.std.proofs.Common.{sym, ◌∙◌}
use Rattle.semantic_kinds.proofs.Words.{bytes_eq-chars}
use Rattle.semantic_kinds.proofs.class.is_word.Goals as goal

pub returns : goal.returns
returns c =
    c.eq.ensures ∙ sym (bytes_eq-chars c.args.text.now c.args.word.now c.utf8.text c.requires)
