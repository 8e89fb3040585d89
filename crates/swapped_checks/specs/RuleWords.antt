-- The words with which rules compare names, whatever the kind of the node.
use Rattle.std.specs.Prelude.{◌≡◌, List, ◌∷◌, Bool, true, bytes_eq, codes}
use Rattle.std.specs.List.{list_any}
use Rattle.semantic_syntax.specs.Tables.{Name}
use Rattle.check_model.specs.Names.{strict_reserved_words}

-- what strict code reserves or protects, `await`, `var` and `__proto__`; the other three aren't names, but texts of directives and of functions without body
abbrev pub rule_words : List Name
rule_words = codes "arguments" ∷ codes "await" ∷ codes "eval" ∷ codes "__proto__" ∷ codes "var" ∷ codes "use strict" ∷ codes "ts-declare" ∷ codes "ts-empty-body" ∷ strict_reserved_words

abbrev pub is_rule_word : Name → Bool
is_rule_word name = list_any (bytes_eq name) rule_words

-- a change of names that leaves these words, and makes no other name one of them
pub record KeepsRuleWords (f : Name → Name) : Type 0 where
  pub same : (x word : Name) → is_rule_word word ≡ true → bytes_eq (f x) word ≡ bytes_eq x word
