use Rattle.semantic_diagnostics.proofs.makers.names.reserved_keyword.Goals as goal

pub returns : goal.returns
returns c = rw (c.in_ok-plain.ensures, c.in_ok-message.ensures, c.reserved_keyword_note.ensures) at c.with_note.ensures
