use Rattle.semantic_diagnostics.proofs.makers.names.private_not_in_class.Goals as goal

pub returns : goal.returns
returns c = rw c.in_ok-message.ensures at c.plain.ensures
