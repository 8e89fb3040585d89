-- What is known of the names of a program by sets.
use Rattle.std.specs.Prelude.{◌≡◌, Bool, ◌&&◌, List, codes, bytes_eq}
use Rattle.std.specs.Map.{lookup}
use Rattle.std.specs.Option.{is_some}
use Rattle.semantic_syntax.specs.SourceTypes.{is_typescript}
use Rattle.semantic_syntax.specs.Tables.{Name, Tables}
use Rattle.semantic_syntax.specs.declared.source_type.SourceType.{SourceType}
use Rattle.semantic_syntax.specs.declared.symbol_flags.TheConstants.SymbolFlags as symbol
use Rattle.tangle_model.specs.Mention.{Mention}
use Rattle.tangle_model.specs.Tangled.{holds_in, is_noted_as, any_mention, any_symbol, meets_declaration, meets_catch_name, is_in_with, is_seen_by_eval, is_merged_member, may_be_passed, is_shared, is_beside_infer, is_in_own_index, is_inner_variable, is_typed_variable, is_flagged}
use Rattle.tangle_model.specs.declared.reason.Reason.{Reason}
use Rattle.tangle_model.specs.declared.reason.Reason.TheVariants as reason
use Rattle.tangle_model.specs.declared.what.What.TheVariants as what
use Rattle.tangled_names.specs.Stored.{has_name}
use Rattle.tangled_names.specs.declared.facts.NameFacts.{NameFacts}
use Rattle.tangled_names.specs.declared.facts.NamesakeFacts.{NamesakeFacts}
use Rattle.tangled_names.specs.declared.facts.PlaceFacts.{PlaceFacts}
use Rattle.tangled_names.specs.declared.facts.ScopeFacts.{ScopeFacts}
use Rattle.tangled_names.specs.declared.typed_facts.MetFacts.{MetFacts}
use Rattle.tangled_names.specs.declared.typed_facts.NotedFacts.{NotedFacts}
use Rattle.tangled_names.specs.declared.typed_facts.SymbolFacts.{SymbolFacts}
use Rattle.tangled_names.specs.declared.typed_facts.TypedFacts.{TypedFacts}

-- what the sets tell of a name, in a source of the type with these tables
abbrev pub facts_tell : NameFacts → SourceType → Tables → Reason → Name → Bool
facts_tell f s t reason.BlockFunction name = has_name f.places.block_functions name
facts_tell f s t reason.CatchVariable name = has_name f.places.catch_variables name
facts_tell f s t reason.Arguments name = bytes_eq name (codes "arguments")
facts_tell f s t reason.With name = has_name f.places.in_with name
facts_tell f s t reason.Eval name = has_name f.scopes.seen_by_eval name
facts_tell f s t reason.FreeNamesake name = is_typescript s && is_some (lookup (bytes_eq name) t.free)
facts_tell f s t reason.MergedMember name = has_name f.scopes.merged name
facts_tell f s t reason.NamespaceNamesake name = is_typescript s && has_name f.namesakes.passed name && has_name f.namesakes.shared name
facts_tell f s t reason.InferredName name = is_typescript s && has_name f.typed.met.beside_infer name
facts_tell f s t reason.HiddenParameter name = is_typescript s && has_name f.typed.noted.in_type_parameters name && has_name f.typed.symbols.inner_variables name
facts_tell f s t reason.IndexParameter name = is_typescript s && has_name f.typed.met.in_own_index name
facts_tell f s t reason.SloppyFunction name = is_typescript s && has_name f.typed.noted.inner_functions name && has_name f.namesakes.shared name
facts_tell f s t reason.ExportedType name = is_typescript s && has_name f.typed.noted.exported_types name && has_name f.namesakes.shared name
facts_tell f s t reason.TypedVariable name = is_typescript s && has_name f.typed.noted.passing_variables name && has_name f.typed.symbols.typed_variables name
facts_tell f s t reason.TypedFunctionName name = is_typescript s && has_name f.typed.symbols.own_names name && has_name f.typed.symbols.types name

-- what is known of names of TypeScript is what the definitions take from mentions and tables
pub record MetHold (f : MetFacts) (ms : List Mention) : Type 0 where
  pub beside_infer : (x : Name) → has_name f.beside_infer x ≡ any_mention (is_beside_infer ms) ms x
  pub in_own_index : (x : Name) → has_name f.in_own_index x ≡ any_mention (is_in_own_index ms) ms x

pub record NotedHold (f : NotedFacts) (ms : List Mention) : Type 0 where
  pub in_type_parameters : (x : Name) → has_name f.in_type_parameters x ≡ is_noted_as what.InTypeParameters ms x
  pub inner_functions : (x : Name) → has_name f.inner_functions x ≡ is_noted_as what.InnerFunction ms x
  pub exported_types : (x : Name) → has_name f.exported_types x ≡ is_noted_as what.ExportedType ms x
  pub passing_variables : (x : Name) → has_name f.passing_variables x ≡ is_noted_as what.PassingVariable ms x

pub record SymbolsHold (f : SymbolFacts) (t : Tables) : Type 0 where
  pub inner_variables : (x : Name) → has_name f.inner_variables x ≡ any_symbol is_inner_variable t.symbols x
  pub typed_variables : (x : Name) → has_name f.typed_variables x ≡ any_symbol is_typed_variable t.symbols x
  pub own_names : (x : Name) → has_name f.own_names x ≡ any_symbol (is_flagged symbol.FunctionExpression.bits) t.symbols x
  pub types : (x : Name) → has_name f.types x ≡ any_symbol (is_flagged symbol.TypeFlag.bits) t.symbols x

pub record TypedHold (f : TypedFacts) (ms : List Mention) (t : Tables) : Type 0 where
  pub met : MetHold f.met ms
  pub noted : NotedHold f.noted ms
  pub symbols : SymbolsHold f.symbols t

-- and so is what is known of the others
pub record PlacesHold (f : PlaceFacts) (ms : List Mention) : Type 0 where
  pub block_functions : (x : Name) → has_name f.block_functions x ≡ any_mention (meets_declaration ms) ms x
  pub catch_variables : (x : Name) → has_name f.catch_variables x ≡ any_mention (meets_catch_name ms) ms x
  pub in_with : (x : Name) → has_name f.in_with x ≡ any_mention is_in_with ms x

pub record ScopesHold (f : ScopeFacts) (ms : List Mention) (t : Tables) : Type 0 where
  pub seen_by_eval : (x : Name) → has_name f.seen_by_eval x ≡ any_symbol (is_seen_by_eval t) t.symbols x
  pub merged : (x : Name) → has_name f.merged x ≡ any_symbol (is_merged_member ms t) t.symbols x

pub record NamesakesHold (f : NamesakeFacts) (t : Tables) : Type 0 where
  pub passed : (x : Name) → has_name f.passed x ≡ any_symbol may_be_passed t.symbols x
  pub shared : (x : Name) → has_name f.shared x ≡ is_shared t.symbols x

pub record NamesHold (f : NameFacts) (ms : List Mention) (t : Tables) : Type 0 where
  pub places : PlacesHold f.places ms
  pub scopes : ScopesHold f.scopes ms t
  pub namesakes : NamesakesHold f.namesakes t
  pub typed : TypedHold f.typed ms t

-- they tell what holds
abbrev pub FactsHold : NameFacts → SourceType → List Mention → Tables → Type 0
FactsHold f s ms t = (r : Reason) (name : Name) → facts_tell f s t r name ≡ holds_in s ms t r name
