use Rattle.std.proofs.Common.{eqb, sym, ap, ◌∙◌, arith, w32}
use lib.Count.{count_trailing_zeros}
use Rattle.std.proofs.lemmas.Simd.{bitmask_splat, leading_from_mask_l, trailing_mask_l}
use Rattle.scoping_rows.proofs.near_slots.first_of.Goals as goal

pub returns-then-hits-eq0 : goal.returns-then-hits-eq0
returns-then-hits-eq0 c =
    let hits = bitmask_splat w32 eqb c.args.numbers 8 c.args.number c.requires (omega arith) in
    sym (leading_from_mask_l (λ x. eqb x c.args.number) c.args.numbers (sym hits ∙ c.if-hits-eq0.true) ∙ c.requires)

pub returns-else-hits-eq0 : goal.returns-else-hits-eq0
returns-else-hits-eq0 c =
    let hits = bitmask_splat w32 eqb c.args.numbers 8 c.args.number c.requires (omega arith) in
    ap (count_trailing_zeros 64) hits ∙ trailing_mask_l (λ x. eqb x c.args.number) 64 c.args.numbers (omega (arith, c.requires)) (omega arith)
