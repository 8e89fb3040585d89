-- What bytes say: a set of modules, or the first refusal.
use Rattle.std.specs.Prelude.{◌≡◌, ◌⊎◌, ℕ, ◌+◌, List, [], ◌∷◌, Result, Ok, Err, ok_or}
use Rattle.semantic_tree.specs.Tree.{IsNumbered}
use Rattle.semantic_tree.specs.Shaped.{IsShaped}
use Rattle.semantic_tree.specs.declared.error.TreeError.{TreeError}
use Rattle.semantic_tree.specs.declared.error.TreeError.TheVariants as tree
use Rattle.tree_json.specs.Outcome.{◌>>=◌, IsWantOfMemory}
use Rattle.tree_json.specs.Reading.{value_in, reading, Refuses}
use Rattle.tree_json.specs.WrittenForm.{AreWrittenForm}
use Rattle.module_set.specs.declared.error.LinkError.{LinkError}
use Rattle.module_set.specs.declared.error.LinkError.TheVariants.{NotJson, Shape, Tree, Memory}
use Rattle.module_set.specs.declared.modules.Module.{Module}
use Rattle.module_set.specs.SetForm.{WrittenModule, set_of_data}

-- the modules as they are written, or why there are none
abbrev pub written_modules : List ℕ → Result (List WrittenModule) LinkError
written_modules bytes = value_in NotJson bytes >>= λ d. ok_or (set_of_data d) Shape

-- the module is the one that is written so: its program is the shaped one whose written form the tree is
pub record IsRead (w : WrittenModule) (m : Module) : Type 0 where
  pub name : m.name ≡ w.name
  pub tree : AreWrittenForm w.tree m.program
  pub numbered : IsNumbered m.program.root
  pub shaped : IsShaped m.program

abbrev pub AreRead : List WrittenModule → List Module → Type 0
AreRead [] [] = Unit {0}
AreRead (w ∷ ws) (m ∷ ms) = IsRead w m × AreRead ws ms
AreRead _ _ = ⊥

-- the bytes stand for the set
pub record StandsForSet (bytes : List ℕ) (ms : List Module) : Type 0 where
  pub written : List WrittenModule
  pub said : written_modules bytes ≡ Ok written
  pub read : AreRead written ms

-- what is told of module n, where the reader of trees gives this cause
abbrev pub told_at : ℕ → TreeError → LinkError
told_at n (tree.Memory wanting) = Memory wanting
told_at n cause = Tree n cause

-- module n is refused: its tree is no program, for this cause
pub record IsRefusedAt (n : ℕ) (w : WrittenModule) (e : LinkError) : Type 0 where
  pub cause : TreeError
  pub told : e ≡ Tree n cause
  pub other : ¬ IsWantOfMemory cause
  pub why : Refuses (reading w.tree) cause

-- of the modules from number n on, the first that isn't read is refused
abbrev pub RefusedFrom : ℕ → List WrittenModule → LinkError → Type 0
RefusedFrom n [] e = ⊥
RefusedFrom n (w ∷ ws) e = IsRefusedAt n w e ⊎ (((m : Module) × IsRead w m) × RefusedFrom (n + 1) ws e)

-- the bytes stand for no set, for this cause: they have no such form, or the first tree that is no program is refused
abbrev pub RefusesSet : List ℕ → LinkError → Type 0
RefusesSet bytes e = (written_modules bytes ≡ Err e) ⊎ ((ws : List WrittenModule) × (written_modules bytes ≡ Ok ws) × RefusedFrom 0 ws e)
