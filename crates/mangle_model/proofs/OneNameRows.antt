-- What the simple mangler gives for small programs, by computation.
use Rattle.std.proofs.Common.{◌≡◌, [], ◌∷◌, Some, None, codes, refl}
use Rattle.mangle_model.proofs.Programs.{told_twice, told_to_eval, told_and_free, in_short}
use Rattle.mangle_model.proofs.Rows.{usual}
use Rattle.mangle_model.specs.OneNameEach.{each_named, one_name_each}
use Rattle.mangle_model.specs.ShortNames.{short_name}

short_ones : (short_name 0 ≡ codes "a") × (short_name 25 ≡ codes "z") × (short_name 26 ≡ codes "A") × (short_name 51 ≡ codes "Z") × (short_name 52 ≡ codes "_") × (short_name 53 ≡ codes "$")
short_ones = (refl, refl, refl, refl, refl, refl)

longer_ones : (short_name 54 ≡ codes "aa") × (short_name 55 ≡ codes "ba") × (short_name 108 ≡ codes "ab") × (short_name 3509 ≡ codes "$9") × (short_name 3510 ≡ codes "aaa")
longer_ones = (refl, refl, refl, refl, refl)

-- both symbols of one name get one new name, which is not that of another symbol
one_for_both : one_name_each usual told_twice ≡ Some (codes "b") ∷ None ∷ Some (codes "b") ∷ []
unfolding lib.Utf8.encode
one_for_both = refl

-- a name that one symbol must keep stays for all
kept_for_one : one_name_each usual told_to_eval ≡ None ∷ None ∷ Some (codes "a") ∷ []
unfolding lib.Utf8.encode
kept_for_one = refl

-- `{ ab }` would be `{ ab: a }`
none_for_shorthand : (each_named usual in_short ≡ Some (codes "a") ∷ []) × (one_name_each usual in_short ≡ [])
unfolding lib.Utf8.encode
none_for_shorthand = (refl, refl)

-- a name that is free elsewhere stays
kept_for_free : one_name_each usual told_and_free ≡ None ∷ []
unfolding lib.Utf8.encode
kept_for_free = refl
