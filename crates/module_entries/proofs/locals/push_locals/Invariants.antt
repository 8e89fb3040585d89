use Rattle.std.proofs.Common.{◌≡◌, ◌++◌, drop, map}
use Rattle.tree_json.specs.Views.{characters}
use Rattle.module_entries.specs.Views.{shown_import}
use Rattle.module_entries.specs.LinkLines.{local_of}
use Rattle.module_entries.proofs.locals.push_locals.Given as goal

-- with those of the imports that are left, all names are there
abbrev pub invariant-loop-import : goal.invariant-loop-import
invariant-loop-import l = map characters l.locals.items ++ map local_of (map shown_import (drop l.import-index l.imports)) ≡ map characters l.initial.locals.items ++ map local_of (map shown_import l.imports)
