-- The names of the tools.
use Rattle.std.specs.Prelude.{ℕ, List, Option, Some, None, codes, if◌then◌else◌}
use Rattle.std.specs.Str.{bytes_eq}
use Rattle.tools.specs.declared.tool.Tool.{Tool}
use Rattle.tools.specs.declared.tool.Tool.TheVariants.{Report, Renamer, Mangler, NameLint, TangledNames, FileCheck, ModuleLinker}

-- the tool of a name
abbrev pub tool_named : List ℕ → Option Tool
tool_named name =
    if bytes_eq name (codes "report") then Some Report
    else if bytes_eq name (codes "renamer") then Some Renamer
    else if bytes_eq name (codes "mangler") then Some Mangler
    else if bytes_eq name (codes "name_lint") then Some NameLint
    else if bytes_eq name (codes "tangled_names") then Some TangledNames
    else if bytes_eq name (codes "file_check") then Some FileCheck
    else if bytes_eq name (codes "module_linker") then Some ModuleLinker
    else None
