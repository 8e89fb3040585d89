-- The characters of words in ASCII.
use Rattle.std.proofs.Common.{◌≡◌, [], refl}
use Rattle.std.specs.Prelude.{codes}
use Rattle.std.specs.Str.{chars}
use Rattle.std.proofs.lemmas.Str.{chars-nil}
use Rattle.semantic_kinds.proofs.Ascii.{ascii_chars}

pub default_chars : chars (codes "default") ≡ codes "default"
default_chars = ascii_chars (codes "default") refl

pub no_chars : chars (codes "") ≡ []
no_chars = chars-nil
