-- What a scope binds to a name that is interned.
use Rattle.std.proofs.Common.{◌≡◌, ℕ, ◌<◌, nat_eq, List, [], length, get_or, map, sym, ap, ◌∙◌}
use Rattle.std.specs.Map.{lookup}
use Rattle.std.specs.Str.{bytes_eq}
use Rattle.semantic_syntax.specs.Tables.{Name}
use Rattle.scoping.specs.declared.scoping.Scoping.TheInside.{Inside}
use Rattle.scoping_rows.specs.Names.{named, IsInterned}
use Rattle.scoping.specs.View.{IsSound}
use Rattle.scoping.proofs.Shown.{shown_lookup, sound_interned, bindings_interned}

pub found_interned : (a : Inside) (h : IsSound a) (names : List Name) (x : Name) (n : ℕ) (interned : IsInterned a.names names x n) (s : ℕ) → s < length a.bindings
    → lookup (bytes_eq x) (get_or (map (named a.names) a.bindings) s []) ≡ lookup (nat_eq n) (get_or a.bindings s [])
found_interned a h names x n interned s within =
    ap (λ bs. lookup (bytes_eq x) (get_or bs s [])) (sym (bindings_interned a h names x n interned))
    ∙ shown_lookup names _ a.bindings (sound_interned a h names x n interned).bound s within x n interned.number
