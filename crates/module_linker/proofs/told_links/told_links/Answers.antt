use Rattle.std.specs.Slice.Iter.{iter_rest}
use Rattle.std.specs.Iterator.Adapters.{zip_first, zip_second}
use Rattle.std.proofs.lemmas.Slice.Zip.{either_empty_from_Zip}
use Rattle.module_linker.specs.LinksBy.{links_by}
use Rattle.module_linker.proofs.Ending.{links_end}
use Rattle.module_linker.proofs.told_links.told_links.Goals as goal

pub returns : goal.returns
returns c =
    let left = c.loop-place.place-iterator in
    links_end c.loop-place.links.items (links_by c.args.places.now c.args.found.now) (iter_rest (zip_first left)) (iter_rest (zip_second left))
    (either_empty_from_Zip left c.next.new.self c.next.result c.in-None.is c.next.ensures.steps) c.loop-place.invariant
