use Rattle.std.proofs.Common.{sym, ◌∙◌}
use Rattle.resolver.proofs.NamedArguments.{named_arguments}
use Rattle.resolver.proofs.lookup.is_spelled_arguments.Goals as goal

pub returns : goal.returns
returns c = c.eq.ensures ∙ sym (named_arguments c.args.text.now c.utf8.text)
