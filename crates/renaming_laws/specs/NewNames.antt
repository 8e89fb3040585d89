-- One name in the place of another.
use Rattle.std.specs.Prelude.{if◌then◌else◌, bytes_eq}
use Rattle.semantic_syntax.specs.Tables.{Name}

-- the new name for the old one, and any other as it is
abbrev pub instead : Name → Name → Name → Name
instead old new name = if bytes_eq name old then new else name
