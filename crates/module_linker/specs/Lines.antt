-- The lines on why modules aren't linked.
use Rattle.std.specs.Prelude.{ℕ, List, [], ◌∷◌, codes, decimal}
use Rattle.std.specs.List.{concat}
use Rattle.semantic_tree.specs.declared.error.TreeError.{TreeError}
use Rattle.program_ends.specs.Lines.{numbered_line, tree_line, memory_line}
use Rattle.module_set.specs.declared.error.LinkError.{LinkError}
use Rattle.module_set.specs.declared.error.LinkError.TheVariants.{NotJson, Shape, Tree, NotModule, Twice, TwoExports, UnknownStar, Memory}

abbrev pub usage_line : List ℕ
usage_line = codes "usage: module_linker\n"

-- a text, with the numbers of a module and of one of its nodes behind it, as a line
unfoldable pub place_line : List ℕ → ℕ → ℕ → List ℕ
place_line text m node = concat (text ∷ decimal m ∷ codes " " ∷ decimal node ∷ codes "\n" ∷ [])

-- a line behind the number of a module
unfoldable pub module_line : ℕ → List ℕ → List ℕ
module_line m line = concat (codes "link: module " ∷ decimal m ∷ codes ": " ∷ line ∷ [])

-- the line on a module whose tree is refused
abbrev pub tree_refused_line : ℕ → TreeError → List ℕ
tree_refused_line m cause = module_line m (tree_line cause)

-- the line on a refusal
abbrev pub cause_line : LinkError → List ℕ
cause_line NotJson = codes "link: not JSON\n"
cause_line Shape = codes "link: shape\n"
cause_line (Tree m cause) = tree_refused_line m cause
cause_line (NotModule m) = numbered_line (codes "link: not a module ") m
cause_line (Twice m) = numbered_line (codes "link: name twice ") m
cause_line (TwoExports m node) = place_line (codes "link: export twice ") m node
cause_line (UnknownStar m node) = place_line (codes "link: unknown star ") m node
cause_line (Memory wanting) = memory_line
