-- Where imports and exported names lead.
use Rattle.std.specs.Prelude.{ℕ, List, [], ◌∷◌, Bool, true, false, Option, Some, None, cond, bytes_eq, codes, filter_map, map, slice_get}
use Rattle.semantic_kinds.specs.declared.kind.AstType.TheVariants as kind
use Rattle.semantic_tree.specs.declared.node.Node.{Node}
use Rattle.semantic_syntax.specs.Tables.{Name}
use Rattle.semantic_tree.specs.Views.{is as is_kind}
use Rattle.semantic_model.specs.TablesOf.{is_symbol}
use Rattle.semantic_model.specs.Analysis.{Analysis, symbol_at, tied_at}
use Rattle.link_model.specs.Module.{Analysed, module_names, module_named, source_text}
use Rattle.link_model.specs.Imports.{Import, Wanted, one, whole, imports}
use Rattle.link_model.specs.Exports.{Exported, listed, passed_on, collected, declared, by_default, Export, exports, export_named, stars}

-- a name as a module exports it, or where the search ends
pub data LinkEnd : Type 0 where
  pair : (number : ℕ) → (name : Name) → LinkEnd
  symbol : (number symbol : ℕ) → LinkEnd
  default_of : (number : ℕ) → LinkEnd
  namespace_of : (number : ℕ) → LinkEnd
  -- in a module outside of the set: the specifier, and the name if one is asked for
  outside : (source : Name) → (name : Option Name) → LinkEnd

-- the search ends there
abbrev pub is_terminal : LinkEnd → Bool
is_terminal (pair m name) = false
is_terminal _ = true

abbrev pub name_wanted : Wanted → Option Name
name_wanted (one name) = Some name
name_wanted whole = None

abbrev pub wanted_from : Wanted → ℕ → LinkEnd
wanted_from (one name) m = pair m name
wanted_from whole m = namespace_of m

abbrev pub wanted_by_name : Name → Wanted → Option ℕ → LinkEnd
wanted_by_name source wanted None = outside source (name_wanted wanted)
wanted_by_name source wanted (Some m) = wanted_from wanted m

-- where something that is wanted of the module of a specifier leads; the names are those of the modules
abbrev pub wanted_end : List Name → Name → Wanted → LinkEnd
wanted_end names source wanted = wanted_by_name source wanted (module_named names source)

-- where an import leads
abbrev pub import_end : List Name → Import → LinkEnd
import_end names i = wanted_end names i.source i.wanted

-- what is known of the nodes of a module: the symbol that a name declares, and the one to which a reference is tied
pub record Ties : Type 0 where
  pub declared : ℕ → Option ℕ
  pub tied : ℕ → Option ℕ

abbrev pub ties_of : Analysis → Ties
ties_of a = record { declared = symbol_at a; tied = tied_at a }

-- the symbol that a name declares
abbrev pub symbol_of_name : Ties → Option Node → Option ℕ
symbol_of_name t None = None
symbol_of_name t (Some id) = t.declared id.node_id

-- the first import that binds the symbol
abbrev pub import_binding : Ties → ℕ → List Import → Option Import
import_binding t s [] = None
import_binding t s (i ∷ is) = cond (is_symbol s (symbol_of_name t i.local)) (Some i) (import_binding t s is)

-- a symbol leads where its import does, if it has one
abbrev pub import_or_symbol : List Name → ℕ → ℕ → Option Import → LinkEnd
import_or_symbol names m s None = symbol m s
import_or_symbol names m s (Some i) = import_end names i

abbrev pub symbol_ends : List Name → ℕ → Ties → List Import → Option ℕ → List LinkEnd
symbol_ends names m t is None = []
symbol_ends names m t is (Some s) = import_or_symbol names m s (import_binding t s is) ∷ []

-- a local leads where its symbol does; nowhere if it is free or no reference
abbrev pub local_ends : List Name → ℕ → Ties → List Import → Option Node → List LinkEnd
local_ends names m t is None = []
local_ends names m t is (Some local) = cond (is_kind kind.IdentifierReference local) (symbol_ends names m t is (t.tied local.node_id)) []

abbrev pub declared_ends : ℕ → Option ℕ → List LinkEnd
declared_ends m None = []
declared_ends m (Some s) = symbol m s ∷ []

-- where a name that a node of module m exports leads; these are the imports of the module
abbrev pub exported_ends : List Name → ℕ → Ties → List Import → Exported → List LinkEnd
exported_ends names m t is (listed local) = local_ends names m t is local
exported_ends names m t is (passed_on source name) = wanted_end names source (one name) ∷ []
exported_ends names m t is (collected source) = wanted_end names source whole ∷ []
exported_ends names m t is (declared id) = declared_ends m (t.declared id)
exported_ends names m t is (by_default None) = default_of m ∷ []
exported_ends names m t is (by_default (Some id)) = declared_ends m (t.declared id.node_id)

-- the modules that star exports name
abbrev pub starred : List Name → List Node → List ℕ
starred names ss = filter_map (λ s. module_named names (source_text s)) ss

-- a name that no node exports is passed on by star exports, unless it is `default`
abbrev pub name_ends : List Name → ℕ → Analysed → Name → Option Export → List LinkEnd
name_ends names m x name (Some e) = exported_ends names m (ties_of x.analysis) (imports x) e.what
name_ends names m x name None = cond (bytes_eq name (codes "default")) [] (map (λ n. pair n name) (starred names (stars x)))

abbrev pub ends_in_module : List Name → ℕ → Name → Option Analysed → List LinkEnd
ends_in_module names m name None = []
ends_in_module names m name (Some x) = name_ends names m x name (export_named (exports x) name)

-- where an end leads in one step: a terminal nowhere
abbrev pub leads : List Analysed → LinkEnd → List LinkEnd
leads ms (pair m name) = ends_in_module (module_names ms) m name (slice_get ms m)
leads ms _ = []
