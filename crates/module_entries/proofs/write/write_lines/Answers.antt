use Rattle.std.proofs.Common.{◌≡◌, length}
use Rattle.std.specs.Iterator.Adapters.{zip_first, zip_second}
use Rattle.std.specs.Slice.Iter.{iter_rest}
use Rattle.std.proofs.lemmas.Slice.Zip.{zip_turn, zip_end}
use Rattle.module_entries.proofs.Pairs.{pair_goes_on, pair_fails, pairs_end}
use Rattle.module_entries.proofs.write.write_lines.Goals as goal

pub loop-local-preserved : goal.loop-local-preserved
loop-local-preserved g c =
    let first : iter_rest (zip_first c.into_iter-local-iterator.result) ≡ c.args.locals.now = cc in
    let second : iter_rest (zip_second c.into_iter-local-iterator.result) ≡ c.args.links.now = cc in
    let (h, k, x, l) = zip_turn c.args.locals.now c.args.links.now c.loop-local.yielded c.into_iter-local-iterator.result c.loop-local.local-iterator c.next.new.self c.next.result first second c.loop-local.yielded_by (c.in-Some.local, c.in-Some.link) c.in-Some.is c.next.ensures.steps in
    pair_goes_on g.K.Sink.held g.K.Sink.faults c.args.locals.now c.args.links.now c.loop-local.yielded c.in-Some.local.now c.in-Some.link.now h k (x _) (l _) _ _ _ _ _ _ c.loop-local.invariant c.in_ok-write_link.ensures

pub returns-in_err-write_link : goal.returns-in_err-write_link
returns-in_err-write_link g c =
    let first : iter_rest (zip_first c.into_iter-local-iterator.result) ≡ c.args.locals.now = cc in
    let second : iter_rest (zip_second c.into_iter-local-iterator.result) ≡ c.args.links.now = cc in
    let (h, k, x, l) = zip_turn c.args.locals.now c.args.links.now c.loop-local.yielded c.into_iter-local-iterator.result c.loop-local.local-iterator c.next.new.self c.next.result first second c.loop-local.yielded_by (c.in-Some.local, c.in-Some.link) c.in-Some.is c.next.ensures.steps in
    pair_fails g.K.Sink.held g.K.Sink.faults c.args.locals.now c.args.links.now c.loop-local.yielded c.in-Some.local.now c.in-Some.link.now h k (x _) (l _) _ _ _ _ _ c.from_residual.result c.loop-local.invariant c.in_err-write_link.ensures c.from_residual.ensures.1

pub returns : goal.returns
returns g c =
    let first : iter_rest (zip_first c.into_iter-local-iterator.result) ≡ c.args.locals.now = cc in
    let second : iter_rest (zip_second c.into_iter-local-iterator.result) ≡ c.args.links.now = cc in
    pairs_end g.K.Sink.held g.K.Sink.faults c.args.locals.now c.args.links.now (length c.loop-local.yielded) _ _ _ _
    (zip_end c.args.locals.now c.args.links.now c.loop-local.yielded c.into_iter-local-iterator.result c.loop-local.local-iterator c.next.new.self c.next.result first second c.loop-local.yielded_by c.in-None.is c.next.ensures.steps) c.loop-local.invariant
