-- Links, by what was found.
use Rattle.std.specs.Prelude.{List, [], ◌∷◌}
use Rattle.link_model.specs.declared.outcome.Link.{Link}
use Rattle.link_search.specs.declared.answer.Found.{Found}
use Rattle.link_targets.specs.Followed.{outcome_of}
use Rattle.module_linker.specs.declared.set_targets.ImportPlace.{ImportPlace}

abbrev pub link_by : ImportPlace → Found → Link
link_by p f = record { «module» = p.number; node = p.node; outcome = outcome_of f }

-- a link for each place, with the outcome of what was found for it
abbrev pub links_by : List ImportPlace → List Found → List Link
links_by [] fs = []
links_by (p ∷ ps) [] = []
links_by (p ∷ ps) (f ∷ fs) = link_by p f ∷ links_by ps fs
