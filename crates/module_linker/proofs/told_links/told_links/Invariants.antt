use Rattle.std.proofs.Common.{◌≡◌, ◌++◌}
use Rattle.std.specs.Slice.Iter.{iter_rest}
use Rattle.std.specs.Iterator.Adapters.{zip_first, zip_second}
use Rattle.module_linker.specs.LinksBy.{links_by}
use Rattle.module_linker.proofs.told_links.told_links.Given as goal

-- with the links of what is left, all are there
abbrev pub invariant-loop-place : goal.invariant-loop-place
invariant-loop-place l = l.links.items ++ links_by (iter_rest (zip_first l.place-iterator)) (iter_rest (zip_second l.place-iterator)) ≡ links_by l.places l.found
