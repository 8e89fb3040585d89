-- Which texts each kind of node may have.
use Rattle.std.specs.Prelude.{ℕ, List, [], ◌∷◌, Bool, true, false, not, codes}
use Rattle.std.specs.Str.{bytes_eq}
use Rattle.std.specs.List.{list_any}
use Rattle.semantic_kinds.specs.declared.kind.AstType.{AstType}
use Rattle.semantic_kinds.specs.declared.kind.AstType.TheVariants as kind
use Rattle.semantic_kinds.specs.declared.allowed.TextRule.{TextRule}
use Rattle.semantic_kinds.specs.declared.allowed.TextRule.TheVariants.{Empty, Name, Any, OneOf}

-- no text unless said otherwise
abbrev pub text_rule : AstType → TextRule
text_rule kind.Hashbang = Any
text_rule kind.Directive = Any
text_rule kind.BindingIdentifier = Name
text_rule kind.IdentifierReference = Name
text_rule kind.IdentifierName = Name
text_rule kind.LabelIdentifier = Name
text_rule kind.PrivateIdentifier = Name
text_rule kind.VariableDeclaration = OneOf
text_rule kind.Function = OneOf
text_rule kind.FormalParameters = OneOf
text_rule kind.Class = OneOf
text_rule kind.MethodDefinition = OneOf
text_rule kind.BooleanLiteral = OneOf
text_rule kind.NumericLiteral = Name
text_rule kind.BigIntLiteral = Name
text_rule kind.RegExpLiteral = Name
text_rule kind.StringLiteral = Any
text_rule kind.TemplateElement = Any
text_rule kind.ObjectProperty = OneOf
text_rule kind.UnaryExpression = OneOf
text_rule kind.UpdateExpression = OneOf
text_rule kind.BinaryExpression = Name
text_rule kind.LogicalExpression = Name
text_rule kind.AssignmentExpression = Name
text_rule kind.JSXText = Any
text_rule kind.JSXIdentifier = Name
text_rule kind.TSTypeOperator = OneOf
text_rule kind.TSMethodSignature = OneOf
text_rule kind.TSIndexSignatureName = Name
text_rule _ = Empty

abbrev pub one_of : List ℕ → List (List ℕ) → Bool
one_of text words = list_any (bytes_eq text) words

-- the text is a word of a kind whose text is one of some words
abbrev pub is_word_of : AstType → List ℕ → Bool
is_word_of kind.VariableDeclaration text = one_of text (codes "var" ∷ codes "let" ∷ codes "const" ∷ codes "using" ∷ codes "await using" ∷ [])
is_word_of kind.Function text = one_of text (codes "declaration" ∷ codes "expression" ∷ codes "ts-declare" ∷ codes "ts-empty-body" ∷ [])
is_word_of kind.FormalParameters text = one_of text (codes "formal" ∷ codes "unique" ∷ codes "arrow" ∷ codes "signature" ∷ [])
is_word_of kind.Class text = one_of text (codes "declaration" ∷ codes "expression" ∷ [])
is_word_of kind.MethodDefinition text = one_of text (codes "constructor" ∷ codes "method" ∷ codes "get" ∷ codes "set" ∷ [])
is_word_of kind.BooleanLiteral text = one_of text (codes "true" ∷ codes "false" ∷ [])
is_word_of kind.ObjectProperty text = one_of text (codes "init" ∷ codes "get" ∷ codes "set" ∷ [])
is_word_of kind.UnaryExpression text = one_of text (codes "+" ∷ codes "-" ∷ codes "!" ∷ codes "~" ∷ codes "typeof" ∷ codes "void" ∷ codes "delete" ∷ [])
is_word_of kind.UpdateExpression text = one_of text (codes "++" ∷ codes "--" ∷ [])
is_word_of kind.TSTypeOperator text = one_of text (codes "keyof" ∷ codes "unique" ∷ codes "readonly" ∷ [])
is_word_of kind.TSMethodSignature text = one_of text (codes "method" ∷ codes "get" ∷ codes "set" ∷ [])
is_word_of _ text = false

abbrev keeps_rule : TextRule → AstType → List ℕ → Bool
keeps_rule Empty kind text = bytes_eq text []
keeps_rule Name kind text = not (bytes_eq text [])
keeps_rule Any kind text = true
keeps_rule OneOf kind text = is_word_of kind text

-- a node of the kind may have the text
abbrev pub may_have_text : AstType → List ℕ → Bool
may_have_text kind text = keeps_rule (text_rule kind) kind text
