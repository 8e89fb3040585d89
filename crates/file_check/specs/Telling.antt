-- The line on words that are refused.
use Rattle.std.specs.Prelude.{ℕ, List, codes}

abbrev pub usage_line : List ℕ
usage_line = codes "usage: file_check [NAME ..]\n"
