-- Why modules aren't linked: each cause at its least module, and there at its least node.
use Rattle.std.specs.Prelude.{ℕ, ◌+◌, List, [], ◌∷◌, ◌++◌, Bool, not, ◌&&◌, Option, Some, None, cond, bytes_eq, is_none, map, option_map}
use Rattle.std.specs.List.{list_any}
use Rattle.semantic_syntax.specs.SourceTypes.{is_module, is_typescript}
use Rattle.semantic_syntax.specs.declared.source_type.SourceType.{SourceType}
use Rattle.semantic_syntax.specs.Tables.{Name}
use Rattle.semantic_tree.specs.declared.node.Node.{Node}
use Rattle.module_set.specs.declared.error.LinkError.{LinkError}
use Rattle.module_set.specs.declared.error.LinkError.TheVariants.{NotModule, Twice, TwoExports, UnknownStar}
use Rattle.module_set.specs.declared.modules.Module.{Module}
use Rattle.link_model.specs.Module.{Analysed, all_analysed, module_names, module_named, source_text}
use Rattle.link_model.specs.Exports.{Export, exports, stars}

-- a module in JavaScript, plain or with JSX
abbrev pub is_linkable : SourceType → Bool
is_linkable t = is_module t && not (is_typescript t)

abbrev pub first_not_module : ℕ → List Analysed → Option LinkError
first_not_module m [] = None
first_not_module m (x ∷ xs) = cond (is_linkable x.program.source_type) (first_not_module (m + 1) xs) (Some (NotModule m))

-- the first name that one of those before it is
abbrev pub first_twice : List Name → ℕ → List Name → Option LinkError
first_twice before m [] = None
first_twice before m (x ∷ xs) = cond (list_any (bytes_eq x) before) (Some (Twice m)) (first_twice (before ++ x ∷ []) (m + 1) xs)

-- the first node that exports a name which an earlier one exports
abbrev pub repeated : List Name → List Export → Option ℕ
repeated before [] = None
repeated before (e ∷ es) = cond (list_any (bytes_eq e.name) before) (Some e.node) (repeated (before ++ e.name ∷ []) es)

-- the first star export of a module that has none of these names
abbrev pub unknown : List Name → List Node → Option ℕ
unknown names [] = None
unknown names (s ∷ ss) = cond (is_none (module_named names (source_text s))) (Some s.node_id) (unknown names ss)

abbrev pub or_later : Option LinkError → Option LinkError → Option LinkError
or_later None later = later
or_later (Some e) later = Some e

-- of the exports of modules
abbrev pub first_repeated : ℕ → List (List Export) → Option LinkError
first_repeated m [] = None
first_repeated m (es ∷ more) = or_later (option_map (λ node. TwoExports m node) (repeated [] es)) (first_repeated (m + 1) more)

-- of the star exports of modules
abbrev pub first_unknown : List Name → ℕ → List (List Node) → Option LinkError
first_unknown names m [] = None
first_unknown names m (ss ∷ more) = or_later (option_map (λ node. UnknownStar m node) (unknown names ss)) (first_unknown names (m + 1) more)

-- the first refusal, in the order of causes
abbrev pub refusal_by : List Analysed → Option LinkError
refusal_by ms =
    or_later (first_not_module 0 ms) (or_later (first_twice [] 0 (module_names ms)) (or_later (first_repeated 0 (map exports ms)) (first_unknown (module_names ms) 0 (map stars ms))))

-- why the modules of a set aren't linked, if there is a cause
abbrev pub refusal_of : List Module → Option LinkError
refusal_of modules = refusal_by (all_analysed modules)
