use Rattle.std.proofs.Common.{length, arith, subst, sym, ◌∙◌}
use Rattle.link_search.specs.Numbering.{ArePairsWithin}
use Rattle.link_search.proofs.Within.{names_within, found_more}
use Rattle.link_search.proofs.search.found_all.Goals as goal

pub search_from-requires-clause-starts : goal.search_from-requires-clause-starts
search_from-requires-clause-starts c =
    subst (ArePairsWithin (length c.args.exports.now.modules.items) c.args.exports.now.names) (sym (c.as_slice.ensures.value ∙ c.in_ok-starts.ensures))
    (names_within (length c.args.exports.now.modules.items) c.args.exports.now.names c.args.wanted.now c.requires.wanted)

pub loop-target-preserved : goal.loop-target-preserved
loop-target-preserved c =
    found_more c.args.exports.now c.args.wanted.now c.as_slice.result.now c.in_ok-search.search c.loop-target.target-index c.target-item.result c.answer.result c.loop-target.found.items c.push.new.self.items
    (c.as_slice.ensures.value ∙ c.in_ok-starts.ensures) c.in_ok-search.ensures (omega arith) c.target-item.is c.answer.ensures c.in_ok-push.ensures.items c.loop-target.invariant
