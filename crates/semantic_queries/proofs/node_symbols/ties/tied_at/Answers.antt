use Rattle.std.proofs.Common.{◌<◌, ◌≤◌, length, ap, sym, ◌∙◌, arith}
use Rattle.semantic_syntax.specs.declared.references.Reference.{Reference}
use Rattle.semantic_queries.proofs.Lookups.{no_tie, tie_inside, tie_outside}
use Rattle.semantic_queries.proofs.node_symbols.ties.tied_at.Goals as goal

pub returns-in-None : goal.returns-in-None
returns-in-None c = sym (no_tie c.args.scoping.now c.args.tables.now c.args.node (sym c.in-None.ensures))

pub returns-then-index-references_len : goal.returns-then-index-references_len
returns-then-index-references_len c =
    let inside : c.in-Some.reference < length c.args.scoping.now.references = omega arith in
    c.symbol_id.ensures ∙ ap (λ (r : Reference). r.symbol_id) c.get_reference.ensures ∙ sym (tie_inside c.args.scoping.now c.args.tables.now c.args.node c.in-Some.reference (sym c.in-Some.ensures) inside)

pub returns-else-index-references_len : goal.returns-else-index-references_len
returns-else-index-references_len c =
    let outside : length c.args.scoping.now.references ≤ c.in-Some.reference = omega arith in
    sym (tie_outside c.args.scoping.now c.args.tables.now c.args.node c.in-Some.reference (sym c.in-Some.ensures) outside)
