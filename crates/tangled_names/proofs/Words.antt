-- Words as characters.
use lib.Utf8.{encode}
use Rattle.std.proofs.Common.{◌≡◌, ℕ, List, [], codes, refl}
use Rattle.std.specs.Str.{chars}

pub global : chars (codes "global") ≡ codes "global"
unfolding encode chars
global = refl

pub empty : ◌≡◌ {A = List ℕ} (chars []) []
unfolding chars
empty = refl
