use Rattle.std.proofs.Common.{◌≡◌, get_or, ap, sym, ◌∙◌, None, [], unwrap_or}
use Rattle.std.specs.Str.{encode_utf8_all}
use Rattle.semantic_syntax.specs.Reading.{reference_of}
use Rattle.report_lines.specs.TableLines.{name_by}
use Rattle.report_lines.specs.FreeNames.{name_shown}
use Rattle.report_lines.proofs.NamesFound.{names_length, name_there}
use Rattle.report_lines.proofs.write_references.reference_name.Goals as goal

pub bounds-names-index : goal.bounds-names-index
bounds-names-index c = rw c.index.ensures (rw (names_length c.args.scoping.now c.args.names.now c.requires.names) c.requires.reference)

pub returns-in-None : goal.returns-in-None
returns-in-None c =
    let free : (reference_of c.args.scoping.now c.args.reference).symbol_id ≡ None = ap (λ x. x.symbol_id) (sym c.get_reference.ensures) ∙ sym c.symbol_id.ensures ∙ c.in-None.is in
    c.text_of.ensures
    ∙ ap encode_utf8_all
    (ap (λ i. unwrap_or (name_shown (get_or c.args.names.now i None)) []) c.index.ensures
    ∙ name_there c.args.scoping.now c.args.names.now c.requires.names c.args.reference None c.requires.reference
    ∙ ap (name_by c.args.scoping.now c.args.reference) (sym free))
