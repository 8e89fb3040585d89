use Rattle.std.proofs.Common.{◌≡◌, ◌++◌, map, drop}
use Rattle.module_entries.specs.Views.{shown_import}
use Rattle.module_linker.specs.AnalysedIn.{import_nodes}
use Rattle.module_linker.proofs.module_targets.nodes_of.Given as goal

abbrev pub invariant-loop-import : goal.invariant-loop-import
invariant-loop-import l = l.nodes.items ++ import_nodes (map shown_import (drop l.import-index l.imports)) ≡ import_nodes (map shown_import l.imports)
