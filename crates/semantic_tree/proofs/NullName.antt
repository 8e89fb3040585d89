-- The name of null.
use Rattle.std.proofs.Common.{◌≡◌, codes, refl}
use Rattle.std.specs.Str.{chars}
use Rattle.semantic_kinds.proofs.Ascii.{ascii_chars}

pub null_shown : chars (codes "null") ≡ codes "null"
null_shown = ascii_chars (codes "null") refl
