use Rattle.std.proofs.Common.{◌∙◌, ap}
use Rattle.mangle_model.specs.GoodNames.{is_ascii_identifier}
use Rattle.mangle_names.proofs.AsciiNames.{by_bytes}
use Rattle.mangle_names.proofs.good_names.is_ascii_identifier.Goals as goal

pub returns : goal.returns
returns c = c.is_identifier.ensures ∙ ap is_ascii_identifier c.as_bytes.ensures.value ∙ by_bytes c.args.name.now c.utf8.name
