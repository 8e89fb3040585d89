-- What the words of the command line ask for.
use Rattle.std.specs.Prelude.{List, [], ◌∷◌, ℕ, ◌+◌, ◌-◌, ◌*◌, length, Option, Some, None, Bool, true, false, ◌==◌, ◌||◌, nat_lt, nat_le, if◌then◌else◌, option_and_then, codes, String, string_bytes}
use Rattle.std.specs.List.{find}
use Rattle.std.specs.Str.{bytes_eq}
use Rattle.std.specs.declared.alloc.Global.{Global}
use Rattle.report_answers.specs.declared.word.Word.{Word}
use Rattle.report_answers.specs.declared.word.Word.TheVariants.{Check, Nodes, Classes, Stats, Make}
use Rattle.report_answers.specs.declared.request.Request.{Request}

-- ---- words

abbrev pub all_words : List Word
all_words = Check ∷ Nodes ∷ Classes ∷ Stats ∷ Make ∷ []

-- how a word is written
abbrev pub word_text : Word → List ℕ
word_text Check = codes "--check"
word_text Nodes = codes "--nodes"
word_text Classes = codes "--classes"
word_text Stats = codes "--stats"
word_text Make = codes "--make"

-- whether a number follows the word
abbrev pub takes_number : Word → Bool
takes_number Make = true
takes_number other = false

-- the word that is so written, if there is one
abbrev pub word_of : List ℕ → Option Word
word_of text = find (λ word. bytes_eq (word_text word) text) all_words

-- ---- numbers

-- the number that the digits continue, or none where one isn't a digit
abbrev pub digits_from : ℕ → List ℕ → Option ℕ
digits_from value [] = Some value
digits_from value (digit ∷ digits) = if nat_lt digit 48 || nat_lt 57 digit then None else digits_from (10 * value + (digit - 48)) digits

-- the number, where it is at most 100,000
abbrev pub at_most_100000 : ℕ → Option ℕ
at_most_100000 count = if nat_le count 100000 then Some count else None

-- a count from 1 to 100,000, in one to six digits without a leading zero
abbrev pub count_of : List ℕ → Option ℕ
count_of [] = None
count_of (digit ∷ digits) = if digit == 48 || nat_lt 5 (length digits) then None else option_and_then at_most_100000 (digits_from 0 (digit ∷ digits))

-- ---- requests

-- nothing is asked for but the report
abbrev pub plain_request : Request
plain_request = record { check = false; nodes = false; classes = false; stats = false; make = None }

-- what a word without a number asks for besides
abbrev pub asking : Word → Request → Request
asking Check request = record request { check = true }
asking Nodes request = record request { nodes = true }
asking Classes request = record request { classes = true }
asking Stats request = record request { stats = true }
asking Make request = request

abbrev mutual
  -- what the words ask for besides
  pub with_words : Request → List (String Global) → Option Request
  with_words request [] = Some request
  with_words request (word ∷ words) =
      option_and_then (λ known. if takes_number known then with_number request words else with_words (asking known request) words) (word_of (string_bytes word))

  -- a number, and then words
  pub with_number : Request → List (String Global) → Option Request
  with_number request [] = None
  with_number request (number ∷ words) = option_and_then (λ count. with_words (record request { make = Some count }) words) (count_of (string_bytes number))

-- none where a word isn't known, or a number is missing or not so written
abbrev pub request_of : List (String Global) → Option Request
request_of words = with_words plain_request words
