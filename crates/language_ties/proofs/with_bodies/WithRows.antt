-- What names mean that something in a `with` declares, and that the tables say the same outside of it, by computation.
use lib.Utf8.{encode}
use Rattle.std.specs.Str.{chars}
use Rattle.std.proofs.Common.{◌≡◌, [], ◌∷◌, None, codes, true, refl, map}
use Rattle.semantic_tree.specs.Faults.{first_fault}
use Rattle.tangle_model.specs.Tangled.{tangle_reasons}
use Rattle.tangle_model.specs.declared.reason.Reason.TheVariants.{With}
use Rattle.language_ties.specs.Agreement.{differing, use_agrees_past_objects}
use Rattle.language_ties.specs.EcmaScript.{is_ecmascript}
use Rattle.language_ties.specs.Meaning.{meanings, unbound, bound, meaning_past_objects, uses}
use Rattle.language_ties.specs.declared.environment_kind.EnvironmentKind.TheVariants.{Global, OwnName}
use Rattle.language_ties.proofs.with_bodies.WithPrograms.{let_and_parameter, class_within, function_within, variable_within, function_as_object, function_leaves, if_leaves}
use Rattle.semantic_model.specs.Analysis.{analysis_of}
use Rattle.semantic_model.specs.Step.{steps}
use Rattle.language_ties.specs.Moved.{bound_of}
use Rattle.language_ties.proofs.PartingPrograms.{in_with}

let_and_parameter_faultless : first_fault let_and_parameter ≡ None
unfolding encode chars
let_and_parameter_faultless = refl

let_and_parameter_plain : is_ecmascript let_and_parameter ≡ true
unfolding encode chars
let_and_parameter_plain = refl

-- what a block and a function in the `with` bind isn't seen outside
let_and_parameter_meant : meanings let_and_parameter ≡ record { node = 5; meaning = unbound } ∷ record { node = 17; meaning = bound (record { kind = Global; maker = 0 }) (3 ∷ []) } ∷ []
unfolding encode chars
let_and_parameter_meant = refl

let_and_parameter_a_untangled : tangle_reasons let_and_parameter (codes "a") ≡ []
unfolding encode chars
let_and_parameter_a_untangled = refl

let_and_parameter_a_agrees : differing let_and_parameter (codes "a") ≡ []
unfolding encode chars
let_and_parameter_a_agrees = refl

class_within_meant : meanings class_within ≡ record { node = 2; meaning = unbound } ∷ record { node = 8; meaning = unbound } ∷ []
unfolding encode chars
class_within_meant = refl

class_within_a_untangled : tangle_reasons class_within (codes "a") ≡ []
unfolding encode chars
class_within_a_untangled = refl

class_within_a_agrees : differing class_within (codes "a") ≡ []
unfolding encode chars
class_within_a_agrees = refl

function_within_meant : meanings function_within ≡ record { node = 5; meaning = unbound } ∷ record { node = 12; meaning = bound (record { kind = Global; maker = 0 }) (3 ∷ []) } ∷ []
unfolding encode chars
function_within_meant = refl

function_within_f_untangled : tangle_reasons function_within (codes "f") ≡ []
unfolding encode chars
function_within_f_untangled = refl

function_within_f_agrees : differing function_within (codes "f") ≡ []
unfolding encode chars
function_within_f_agrees = refl

-- a `var` goes out of the `with`; its name is tangled, but means the same outside
variable_within_meant : meanings variable_within ≡ record { node = 2; meaning = unbound } ∷ record { node = 7; meaning = bound (record { kind = Global; maker = 0 }) (5 ∷ []) } ∷ []
unfolding encode chars
variable_within_meant = refl

variable_within_a_tangled : tangle_reasons variable_within (codes "a") ≡ With ∷ []
unfolding encode chars
variable_within_a_tangled = refl

variable_within_a_agrees : differing variable_within (codes "a") ≡ []
unfolding encode chars
variable_within_a_agrees = refl

-- the object stands outside of what it is for the body
function_as_object_meant : meanings function_as_object ≡ record { node = 7; meaning = bound (record { kind = OwnName; maker = 2 }) (3 ∷ []) } ∷ []
unfolding encode chars
function_as_object_meant = refl

function_as_object_f_agrees : differing function_as_object (codes "f") ≡ []
unfolding encode chars
function_as_object_f_agrees = refl

-- a function in a block has its variable outside of the `with`
function_leaves_meant : meanings function_leaves ≡ record { node = 2; meaning = unbound } ∷ record { node = 9; meaning = bound (record { kind = Global; maker = 0 }) (5 ∷ []) } ∷ []
unfolding encode chars
function_leaves_meant = refl

function_leaves_f_untangled : tangle_reasons function_leaves (codes "f") ≡ []
unfolding encode chars
function_leaves_f_untangled = refl

function_leaves_f_agrees : differing function_leaves (codes "f") ≡ []
unfolding encode chars
function_leaves_f_agrees = refl

-- so has one that is the body of an `if`
if_leaves_meant : meanings if_leaves ≡ record { node = 2; meaning = unbound } ∷ record { node = 10; meaning = bound (record { kind = Global; maker = 0 }) (6 ∷ []) } ∷ []
unfolding encode chars
if_leaves_meant = refl

if_leaves_f_untangled : tangle_reasons if_leaves (codes "f") ≡ []
unfolding encode chars
if_leaves_f_untangled = refl

if_leaves_f_agrees : differing if_leaves (codes "f") ≡ []
unfolding encode chars
if_leaves_f_agrees = refl

-- if the object hasn't the name, it means in the body of the `with` what it means outside
in_with_past_objects : map (λ u. meaning_past_objects (bound_of in_with) u.round u.name) (uses (steps in_with)) ≡ bound (record { kind = Global; maker = 0 }) (3 ∷ []) ∷ bound (record { kind = Global; maker = 0 }) (3 ∷ []) ∷ []
unfolding encode chars
in_with_past_objects = refl

in_with_agrees : map (use_agrees_past_objects (analysis_of in_with) (bound_of in_with)) (uses (steps in_with)) ≡ true ∷ true ∷ []
unfolding encode chars
in_with_agrees = refl
