-- The classes that are left from one on.
use Rattle.std.proofs.Common.{◌≡◌, ℕ, ◌+◌, ◌-◌, ◌<◌, ◌≤◌, List, [], ◌∷◌, length, drop, get_or, refl, ◌∙◌, add-one, drop-cons}
use Rattle.std.specs.List.{enumerate_from}
use Rattle.std.proofs.lemmas.List.{length-drop}
use Rattle.std.proofs.lemmas.List.FromFn.{length-enumerate_from}
use Rattle.std.proofs.Math.ListN.{drop_of_length-le}

pub class_first : (nodes : List ℕ) (n d : ℕ) → n < length nodes → enumerate_from n (drop n nodes) ≡ (n, get_or nodes n d) ∷ enumerate_from (n + 1) (drop (n + 1) nodes)
class_first nodes n d h = rw (drop-cons nodes n d h, add-one) refl

pub class_none : (nodes : List ℕ) (n : ℕ) → length nodes ≤ n → enumerate_from n (drop n nodes) ≡ []
class_none nodes n h = rw (drop_of_length-le nodes h) refl

pub classes_left : (nodes : List ℕ) (n m : ℕ) → length (enumerate_from m (drop n nodes)) ≡ length nodes - n
classes_left nodes n m = length-enumerate_from m (drop n nodes) ∙ length-drop n nodes
