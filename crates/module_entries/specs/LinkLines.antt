-- The lines on links.
use Rattle.std.specs.Prelude.{◌≡◌, ℕ, List, [], ◌∷◌, ◌++◌, map, codes, decimal}
use Rattle.std.specs.List.{concat}
use Rattle.std.specs.Str.{encode_utf8_all}
use Rattle.semantic_syntax.specs.Tables.{Name}
use Rattle.report_lines.specs.Pieces.{quoted}
use Rattle.link_model.specs.Imports.{Import}
use Rattle.link_model.specs.Module.{text_or_empty}
use Rattle.link_model.specs.Outcome.{ImportIn}
use Rattle.link_model.specs.declared.outcome.Link.{Link}
use Rattle.link_model.specs.declared.outcome.LinkOutcome.{LinkOutcome}
use Rattle.link_model.specs.declared.outcome.LinkOutcome.TheVariants.{Symbol, Default, Namespace, External, Missing, Ring, Ambiguous}

-- what an import comes to
unfoldable pub outcome_text : LinkOutcome → List ℕ
outcome_text (Symbol m s) = concat (codes "symbol " ∷ decimal m ∷ codes " " ∷ decimal s ∷ [])
outcome_text (Default m) = concat (codes "default " ∷ decimal m ∷ [])
outcome_text (Namespace m) = concat (codes "namespace " ∷ decimal m ∷ [])
outcome_text External = codes "external"
outcome_text Missing = codes "missing"
outcome_text Ring = codes "ring"
outcome_text Ambiguous = codes "ambiguous"

-- the line on a link: the number of its module, its node, the name that the import binds, and what it comes to
unfoldable pub link_line : Name → Link → List ℕ
link_line local l = concat (codes "import " ∷ decimal l.module ∷ codes " " ∷ decimal l.node ∷ codes " " ∷ quoted (encode_utf8_all local) ∷ codes " " ∷ outcome_text l.outcome ∷ codes "\n" ∷ [])

-- the text is one line on a link
abbrev pub IsLinkLine : List ℕ → Type 0
IsLinkLine text = (local : Name) × (l : Link) × (link_line local l ≡ text)

-- the lines on links, whose imports bind the names
abbrev pub lines_for : List Name → List Link → List ℕ
lines_for (name ∷ names) (l ∷ ls) = link_line name l ++ lines_for names ls
lines_for names ls = []

-- the name that an import binds
abbrev pub local_of : Import → Name
local_of i = text_or_empty i.local

abbrev pub local_name : ImportIn → Name
local_name i = local_of i.import

-- the lines on the links of imports, in order
abbrev pub link_lines : List ImportIn → List Link → List ℕ
link_lines imports ls = lines_for (map local_name imports) ls
