use Rattle.std.proofs.Common.{length, slice_get, refl, sym, ap, ◌∙◌}
use Rattle.std.proofs.lemmas.Option.{slice_get_read, slice_get_past}
use Rattle.semantic_kinds.proofs.kind.AstType.at.Goals as goal

pub returns-in-Some : goal.returns-in-Some
returns-in-Some c =
    let e = c.in-Some.ensures.lookup in
    sym (slice_get_read c.all.result.now (length c.all.result.now) c.args.index c.in-Some.kind.now refl e.3.0 e.1) ∙ ap (λ kinds. slice_get kinds c.args.index) c.all.ensures

pub returns-in-None : goal.returns-in-None
returns-in-None c =
    let e = c.in-None.ensures.lookup in
    sym (slice_get_past c.all.result.now c.args.index e.3) ∙ ap (λ kinds. slice_get kinds c.args.index) c.all.ensures
