use Rattle.std.proofs.Common.{◌≡◌, ◌<◌, ℕ, [], length, map, true, false, slice_index_or, ap, sym, ◌∙◌, arith}
use Rattle.std.specs.Cmp.Lexicographic.{pointwise}
use Rattle.semantic_syntax.specs.Reading.{bindings_of}
use Rattle.semantic_syntax.specs.Tables.{Bindings}
use Rattle.mangle_model.specs.Assignment.{assignment_of}
use Rattle.mangle_model.specs.Alike.{renamed_binding}
use Rattle.mangle_model.specs.Tests.{same_binding}
use Rattle.mangler.proofs.Pairs.{pair_passes, pair_fails, mapped_at, mapped_long}
use Rattle.mangler.proofs.comparing.scopes.are_same_bindings.Goals as goal

pub returns-then-not-binds_the_same : goal.returns-then-not-binds_the_same
returns-then-not-binds_the_same c =
    let i : ℕ = c.loop-number.number in
    let renamed : Bindings → Bindings = map (renamed_binding (assignment_of c.args.names.now)) in
    let long : length (map renamed c.args.one.now.bindings) ≡ length c.args.one.now.bindings = mapped_long renamed c.args.one.now.bindings in
    let within : i < length (map renamed c.args.one.now.bindings) = omega arith in
    let as_well : i < length c.args.other.now.bindings = omega arith in
    let here : pointwise same_binding (bindings_of c.args.other.now i) (slice_index_or (map renamed c.args.one.now.bindings) i []) ≡ false =
    ap (pointwise same_binding (bindings_of c.args.other.now i)) (mapped_at renamed c.args.one.now.bindings i [])
    ∙ ap (λ n. pointwise same_binding (bindings_of c.args.other.now n) (renamed (bindings_of c.args.one.now n))) (sym c.new.ensures)
    ∙ sym c.binds_the_same.ensures ∙ c.if-not-binds_the_same.true in
    pair_fails (pointwise same_binding) c.args.other.now.bindings (map renamed c.args.one.now.bindings) i [] [] _ as_well within here c.loop-number.invariant

pub loop-number-preserved : goal.loop-number-preserved
loop-number-preserved c =
    let i : ℕ = c.loop-number.number in
    let renamed : Bindings → Bindings = map (renamed_binding (assignment_of c.args.names.now)) in
    let long : length (map renamed c.args.one.now.bindings) ≡ length c.args.one.now.bindings = mapped_long renamed c.args.one.now.bindings in
    let within : i < length (map renamed c.args.one.now.bindings) = omega arith in
    let as_well : i < length c.args.other.now.bindings = omega arith in
    let here : pointwise same_binding (bindings_of c.args.other.now i) (slice_index_or (map renamed c.args.one.now.bindings) i []) ≡ true =
    ap (pointwise same_binding (bindings_of c.args.other.now i)) (mapped_at renamed c.args.one.now.bindings i [])
    ∙ ap (λ n. pointwise same_binding (bindings_of c.args.other.now n) (renamed (bindings_of c.args.one.now n))) (sym c.new.ensures)
    ∙ sym c.binds_the_same.ensures ∙ c.if-not-binds_the_same.false in
    pair_passes (pointwise same_binding) c.args.other.now.bindings (map renamed c.args.one.now.bindings) i [] [] _ as_well within here c.loop-number.invariant
