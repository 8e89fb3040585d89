-- Tangled names: those whose ties in the tables may part from the language's.
use Rattle.std.specs.Prelude.{ℕ, ◌+◌, ◌==◌, List, [], ◌∷◌, Bool, true, false, ◌&&◌, ◌||◌, not, cond, map, filter, codes, bytes_eq}
use Rattle.std.specs.List.{list_any}
use Rattle.std.specs.Map.{lookup}
use Rattle.std.specs.Option.{is_some}
use Rattle.semantic_syntax.specs.Members.{contains}
use Rattle.semantic_syntax.specs.Reading.{scope_of, scope_flags}
use Rattle.semantic_syntax.specs.Sets.{meets}
use Rattle.semantic_syntax.specs.SourceTypes.{is_typescript}
use Rattle.semantic_syntax.specs.Tables.{Name, Tables, Symbol}
use Rattle.semantic_syntax.specs.declared.scope_flags.TheConstants.ScopeFlags as scope
use Rattle.semantic_syntax.specs.declared.source_type.SourceType.{SourceType}
use Rattle.semantic_syntax.specs.declared.symbol_flags.TheConstants.SymbolFlags as symbol
use Rattle.semantic_tree.specs.Tree.{Tree}
use Rattle.semantic_model.specs.TablesOf.{tables_of}
use Rattle.tangle_model.specs.Mention.{Mention, mentions}
use Rattle.tangle_model.specs.Repeated.{is_mention_of, key_of, keys_of, key_stands, repeats}
use Rattle.tangle_model.specs.declared.reason.Reason.{Reason}
use Rattle.tangle_model.specs.declared.reason.Reason.TheVariants as reason
use Rattle.tangle_model.specs.declared.what.What.{What}
use Rattle.tangle_model.specs.declared.what.What.TheVariants as what

-- ---- what is noted in the tree

-- a block function whose home has another declaration of the name: its `var`, its variable in the block and the other may be two variables in the language and one in the tables, or the other way round (ECMA-262, B.3.2, B.3.3, 10.2.11 steps 28 and 29, 16.1.7, 14.2.3)
abbrev pub meets_declaration : List Mention → Mention → Bool
meets_declaration ms m = is_mention_of what.BlockFunction m && repeats (key_of m) (keys_of what.Declaration ms)

-- a `var` in a catch clause whose home has a catch parameter of the name: they are two variables, and one in the tables (B.3.4, 14.15.2)
abbrev pub meets_catch_name : List Mention → Mention → Bool
meets_catch_name ms m = is_mention_of what.VarInCatch m && key_stands (key_of m) (keys_of what.CatchName ms)

-- a `var` or a reference in a `with`, where an object may have the name (14.11.2, 9.1.1.2)
abbrev pub is_in_with : Mention → Bool
is_in_with m = is_mention_of what.InWith m

-- in TypeScript, what `infer` declares is seen in the true part of its conditional type alone, and in the tables in `extends`, too: a use in an `extends` where one declares the name, and an `infer` that is no part of the `extends` around, may part
abbrev pub is_beside_infer : List Mention → Mention → Bool
is_beside_infer ms m = is_mention_of what.BesideInfer m && key_stands (key_of m) (keys_of what.Inferred ms)

-- in TypeScript, the parameter of an index signature is seen in it, and in the tables nowhere
abbrev pub is_in_own_index : List Mention → Mention → Bool
is_in_own_index ms m = is_mention_of what.InIndexSignature m && key_stands (key_of m) (keys_of what.IndexParameter ms)

-- a namespace, enum, module or `global` block of the program that another has the name of
abbrev pub is_merged : List Mention → Mention → Bool
is_merged ms m = is_mention_of what.Block m && repeats (key_of m) (keys_of what.Block ms)

-- the nodes that open their scopes
abbrev pub merged_openers : List Mention → List ℕ
merged_openers ms = map (λ m. m.home) (filter (is_merged ms) ms)

-- ---- what the tables say of symbols

-- a direct call of `eval` may name it, or declare its name anew (19.2.1.1, 19.2.1.3)
abbrev pub is_seen_by_eval : Tables → Symbol → Bool
is_seen_by_eval t y = meets (scope_flags t y.scope) scope.DirectEval.bits

-- one of those blocks binds it
abbrev pub is_merged_member : List Mention → Tables → Symbol → Bool
is_merged_member ms t y = contains (merged_openers ms) (scope_of t y.scope).node

-- a namespace that isn't a type as well: the left of a qualified name in a type passes it by in the tables (`Usable`), and means it in TypeScript
abbrev pub is_bare_namespace : Symbol → Bool
is_bare_namespace y = (meets y.flags.bits symbol.ValueModule.bits || meets y.flags.bits symbol.NamespaceModule.bits) && not (meets y.flags.bits symbol.TypeFlag.bits)

-- an alias in a namespace, or in another scope that isn't the root: such a name means it in the tables whatever it stands for, and passes it by in TypeScript where that is no namespace
abbrev pub is_inner_alias : Symbol → Bool
is_inner_alias y = (meets y.flags.bits symbol.Import.bits || meets y.flags.bits symbol.TypeImport.bits) && not (y.scope == 0)

-- either: a qualified name may pass it by in one of both and mean another symbol outside
abbrev pub may_be_passed : Symbol → Bool
may_be_passed y = is_bare_namespace y || is_inner_alias y

-- a parameter, or a variable that is declared by `var` outside of the root: the type parameters of its function see it in the tables, and don't in TypeScript
abbrev pub is_inner_variable : Symbol → Bool
is_inner_variable y = meets y.flags.bits symbol.FunctionScopedVariable.bits && not (y.scope == 0)

-- a variable or parameter that is a type as well: in the tables a block that a `var` passes has the variable's symbol, which a type of the name in that block joins, so that it is seen outside; in TypeScript it is the block's own
abbrev pub is_typed_variable : Symbol → Bool
is_typed_variable y = meets y.flags.bits symbol.FunctionScopedVariable.bits && meets y.flags.bits symbol.TypeFlag.bits

-- it has one of the flags
abbrev pub is_flagged : (flags : ℕ) → Symbol → Bool
is_flagged flags y = meets y.flags.bits flags

-- ---- names

abbrev pub is_name_of : List Symbol → Name → Bool
is_name_of ys name = list_any (λ y. bytes_eq name y.name) ys

-- two symbols have it
abbrev pub is_shared : List Symbol → Name → Bool
is_shared [] name = false
is_shared (y ∷ ys) name = cond (bytes_eq name y.name) (is_name_of ys name) (is_shared ys name)

abbrev pub any_mention : (Mention → Bool) → List Mention → Name → Bool
any_mention test ms name = list_any (λ m. test m && bytes_eq name m.name) ms

abbrev pub is_noted_as : What → List Mention → Name → Bool
is_noted_as w ms name = any_mention (is_mention_of w) ms name

abbrev pub any_symbol : (Symbol → Bool) → List Symbol → Name → Bool
any_symbol test ys name = list_any (λ y. test y && bytes_eq name y.name) ys

-- in TypeScript, a function expression has it as its own name, and a type has it: a type of the function takes the place of the own name in the tables, so that a value of the name is sought outside; in the language both stand beside each other
abbrev pub is_typed_own_name : SourceType → List Symbol → Name → Bool
is_typed_own_name s ys name = is_typescript s && any_symbol (is_flagged symbol.FunctionExpression.bits) ys name && any_symbol (is_flagged symbol.TypeFlag.bits) ys name

-- whether the reason holds of the name, where this is noted in the program and these are its tables
abbrev pub holds_in : SourceType → List Mention → Tables → Reason → Name → Bool
holds_in s ms t reason.BlockFunction name = any_mention (meets_declaration ms) ms name
holds_in s ms t reason.CatchVariable name = any_mention (meets_catch_name ms) ms name
holds_in s ms t reason.Arguments name = bytes_eq name (codes "arguments")
holds_in s ms t reason.With name = any_mention is_in_with ms name
holds_in s ms t reason.Eval name = any_symbol (is_seen_by_eval t) t.symbols name
holds_in s ms t reason.FreeNamesake name = is_typescript s && is_some (lookup (bytes_eq name) t.free)
holds_in s ms t reason.MergedMember name = any_symbol (is_merged_member ms t) t.symbols name
holds_in s ms t reason.NamespaceNamesake name = is_typescript s && any_symbol may_be_passed t.symbols name && is_shared t.symbols name
holds_in s ms t reason.InferredName name = is_typescript s && any_mention (is_beside_infer ms) ms name
holds_in s ms t reason.HiddenParameter name = is_typescript s && is_noted_as what.InTypeParameters ms name && any_symbol is_inner_variable t.symbols name
holds_in s ms t reason.IndexParameter name = is_typescript s && any_mention (is_in_own_index ms) ms name
holds_in s ms t reason.SloppyFunction name = is_typescript s && is_noted_as what.InnerFunction ms name && is_shared t.symbols name
holds_in s ms t reason.ExportedType name = is_typescript s && is_noted_as what.ExportedType ms name && is_shared t.symbols name
holds_in s ms t reason.TypedVariable name = is_typescript s && is_noted_as what.PassingVariable ms name && any_symbol is_typed_variable t.symbols name
holds_in s ms t reason.TypedFunctionName name = is_typed_own_name s t.symbols name

abbrev pub all_reasons : List Reason
all_reasons =
    reason.BlockFunction ∷ reason.CatchVariable ∷ reason.Arguments ∷ reason.With ∷ reason.Eval ∷ reason.FreeNamesake ∷ reason.MergedMember
    ∷ reason.NamespaceNamesake ∷ reason.InferredName ∷ reason.HiddenParameter ∷ reason.IndexParameter ∷ reason.SloppyFunction ∷ reason.ExportedType
    ∷ reason.TypedVariable ∷ reason.TypedFunctionName ∷ []

abbrev pub reasons_in : SourceType → List Mention → Tables → Name → List Reason
reasons_in s ms t name = filter (λ r. holds_in s ms t r name) all_reasons

-- the reasons for which a name of the program is tangled
abbrev pub tangle_reasons : Tree → Name → List Reason
tangle_reasons p name = reasons_in p.source_type (mentions p) (tables_of p) name

abbrev pub is_none_of : List Reason → Bool
is_none_of [] = true
is_none_of (r ∷ rs) = false

-- whether a name is tangled: symbols have it, and there is a reason
abbrev pub is_tangled : Tree → Name → Bool
is_tangled p name = is_name_of (tables_of p).symbols name && not (is_none_of (tangle_reasons p name))

-- ---- the tangled names of a program

-- a tangled name, by the first symbol that has it, with the reasons
pub record Tangle : Type 0 where
  pub symbol : ℕ
  pub reasons : List Reason

abbrev pub told : ℕ → List Reason → List Tangle → List Tangle
told n [] later = later
told n (r ∷ rs) later = record { symbol = n; reasons = r ∷ rs } ∷ later

-- those of symbols that are numbered from n on, by whether a symbol before them has a name
abbrev pub tangles_from : (Name → List Reason) → (before : Name → Bool) → ℕ → List Symbol → List Tangle
tangles_from reasons before n [] = []
tangles_from reasons before n (y ∷ ys) =
    cond (before y.name)
    (tangles_from reasons before (n + 1) ys)
    (told n (reasons y.name) (tangles_from reasons (λ x. bytes_eq x y.name || before x) (n + 1) ys))

abbrev pub tangles_in : SourceType → List Mention → Tables → List Tangle
tangles_in s ms t = tangles_from (reasons_in s ms t) (λ x. false) 0 t.symbols

-- each tangled name of the program once, in order of first symbols
abbrev pub tangles : Tree → List Tangle
tangles p = tangles_in p.source_type (mentions p) (tables_of p)
