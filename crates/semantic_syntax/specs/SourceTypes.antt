-- What a source type says of a source.
use Rattle.std.specs.Prelude.{Bool, true, false}
use Rattle.semantic_syntax.specs.declared.source_type.Goal.{Goal}
use Rattle.semantic_syntax.specs.declared.source_type.Goal.TheVariants.{Script, Module, CommonJs}
use Rattle.semantic_syntax.specs.declared.source_type.Lang.{Lang}
use Rattle.semantic_syntax.specs.declared.source_type.Lang.TheVariants.{Ts, Tsx, Dts}
use Rattle.semantic_syntax.specs.declared.source_type.SourceType.{SourceType}

-- a script
abbrev pub is_script_goal : Goal → Bool
is_script_goal Script = true
is_script_goal _ = false

-- a module
abbrev pub is_module_goal : Goal → Bool
is_module_goal Module = true
is_module_goal _ = false

-- a CommonJS module
abbrev pub is_commonjs_goal : Goal → Bool
is_commonjs_goal CommonJs = true
is_commonjs_goal _ = false

-- a language of TypeScript
abbrev pub is_typescript_language : Lang → Bool
is_typescript_language Ts = true
is_typescript_language Tsx = true
is_typescript_language Dts = true
is_typescript_language _ = false

-- the language of definition files
abbrev pub is_definition_language : Lang → Bool
is_definition_language Dts = true
is_definition_language _ = false

-- the source is a script
abbrev pub is_script : SourceType → Bool
is_script source_type = is_script_goal source_type.goal

-- the source is a module
abbrev pub is_module : SourceType → Bool
is_module source_type = is_module_goal source_type.goal

-- the source is a CommonJS module
abbrev pub is_commonjs : SourceType → Bool
is_commonjs source_type = is_commonjs_goal source_type.goal

-- the source is TypeScript
abbrev pub is_typescript : SourceType → Bool
is_typescript source_type = is_typescript_language source_type.lang

-- the source is a definition file of TypeScript
abbrev pub is_typescript_definition : SourceType → Bool
is_typescript_definition source_type = is_definition_language source_type.lang
