-- What the definitions give for small programs, by computation.
use Rattle.std.proofs.Common.{◌≡◌, [], codes, Ok, Err, refl}
use Rattle.semantic_kinds.specs.MarkSets.{no_marks}
use Rattle.rename_model.specs.Refusal.{bad_name, fixed, differs, rename}
use Rattle.rename_model.proofs.Programs.{shadowed, in_object, shorthand, exported, in_target, member}

-- the inner name would capture the reference
captures : rename (shadowed (codes "b")) 1 (codes "a") ≡ Err (differs 9)
captures = refl

-- another name captures nothing
captures_nothing : rename (shadowed (codes "b")) 1 (codes "c") ≡ Ok (shadowed (codes "c"))
captures_nothing = refl

-- the property keeps its key, and can't be in short any more
written_out : rename (in_object (codes "a") shorthand) 0 (codes "b") ≡ Ok (in_object (codes "b") no_marks)
written_out = refl

export_is_fixed : rename exported 0 (codes "b") ≡ Err (fixed 4)
export_is_fixed = refl

target_is_fixed : rename in_target 0 (codes "b") ≡ Err (fixed 8)
target_is_fixed = refl

member_is_fixed : rename member 1 (codes "B") ≡ Err (fixed 4)
member_is_fixed = refl

enum_is_free : rename member 0 (codes "E") ≡ Ok member
enum_is_free = refl

empty_is_bad : rename exported 0 [] ≡ Err bad_name
empty_is_bad = refl

arguments_is_bad : rename exported 0 (codes "arguments") ≡ Err bad_name
arguments_is_bad = refl

eval_is_bad : rename exported 0 (codes "eval") ≡ Err bad_name
eval_is_bad = refl
