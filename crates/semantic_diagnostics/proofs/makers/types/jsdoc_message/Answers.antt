use Rattle.std.proofs.Common.{codes, refl}
use Rattle.semantic_diagnostics.proofs.AsciiTexts.{chars_marked}
use Rattle.semantic_diagnostics.proofs.makers.types.jsdoc_message.Goals as goal

pub returns : goal.returns
returns c =
    rw (c.as_str.ensures.value, c.in_ok-text.ensures.ok, chars_marked (codes "'") c.args.mark (codes "' at the ") c.args.place.now (codes " of a type is not valid TypeScript syntax.") refl c.ranges.mark.0 refl c.requires refl) at c.new.ensures
