-- What names in headers mean, and that the tables say the same, by computation.
use lib.Utf8.{encode}
use Rattle.std.specs.Str.{chars}
use Rattle.std.proofs.Common.{◌≡◌, [], None, codes, true, refl}
use Rattle.semantic_tree.specs.Faults.{first_fault}
use Rattle.language_ties.specs.Agreement.{differing}
use Rattle.language_ties.specs.EcmaScript.{is_ecmascript}
use Rattle.language_ties.proofs.headers.HeaderPrograms.{parameter_in_header, variable_behind_header, computed_key, closure_in_header, function_behind_header, header_in_header, header_of_arrow, class_and_header, own_name_and_parameter, own_name_and_function, unmarked_key}

parameter_in_header_a : differing parameter_in_header (codes "a") ≡ []
unfolding encode chars
parameter_in_header_a = refl

variable_behind_header_b : differing variable_behind_header (codes "b") ≡ []
unfolding encode chars
variable_behind_header_b = refl

computed_key_a : differing computed_key (codes "a") ≡ []
unfolding encode chars
computed_key_a = refl

computed_key_b : differing computed_key (codes "b") ≡ []
unfolding encode chars
computed_key_b = refl

closure_in_header_a : differing closure_in_header (codes "a") ≡ []
unfolding encode chars
closure_in_header_a = refl

closure_in_header_b : differing closure_in_header (codes "b") ≡ []
unfolding encode chars
closure_in_header_b = refl

function_behind_header_f : differing function_behind_header (codes "f") ≡ []
unfolding encode chars
function_behind_header_f = refl

header_in_header_a : differing header_in_header (codes "a") ≡ []
unfolding encode chars
header_in_header_a = refl

header_in_header_b : differing header_in_header (codes "b") ≡ []
unfolding encode chars
header_in_header_b = refl

header_of_arrow_b : differing header_of_arrow (codes "b") ≡ []
unfolding encode chars
header_of_arrow_b = refl

header_of_arrow_c : differing header_of_arrow (codes "c") ≡ []
unfolding encode chars
header_of_arrow_c = refl

class_and_header_A : differing class_and_header (codes "A") ≡ []
unfolding encode chars
class_and_header_A = refl

own_name_and_parameter_f : differing own_name_and_parameter (codes "f") ≡ []
unfolding encode chars
own_name_and_parameter_f = refl

own_name_and_function_f : differing own_name_and_function (codes "f") ≡ []
unfolding encode chars
own_name_and_function_f = refl

-- a key that refers counts as computed without the mark, too
unmarked_key_a : differing unmarked_key (codes "a") ≡ []
unfolding encode chars
unmarked_key_a = refl

unmarked_key_formed : first_fault unmarked_key ≡ None
unfolding encode chars
unmarked_key_formed = refl

unmarked_key_ecmascript : is_ecmascript unmarked_key ≡ true
unfolding encode chars
unmarked_key_ecmascript = refl
