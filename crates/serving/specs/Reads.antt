-- What is read of a source.
use Rattle.std.specs.Prelude.{◌≡◌, ◌⊎◌, ◌+◌, ◌≤◌, ◌<◌, ℕ, List, [], ◌++◌, Option, None, Some, length}
use Rattle.std.specs.Io.KnownBytes.{Consumes, IsAtEnd}
use Rattle.serving.specs.Requests.{IsNumber, IsRequest, IsPart}
use Rattle.serving.specs.declared.fault.ServeFault.{ServeFault}
use Rattle.serving.specs.declared.fault.ServeFault.TheVariants as fault
use Rattle.serving.specs.declared.reading.Request.{Request}

-- the source has lost these bytes, at most so many, and fewer only where it has none left
pub record ReadUpTo (count : ℕ) (left left_then : Option (List ℕ)) (bytes : List ℕ) : Type 0 where
  pub read : Consumes left left_then bytes
  pub most : length bytes ≤ count
  pub fewer : length bytes < count → IsAtEnd left_then

-- the source has lost these bytes, so many
pub record ReadJust (count : ℕ) (left left_then : Option (List ℕ)) (bytes : List ℕ) : Type 0 where
  pub read : Consumes left left_then bytes
  pub sized : length bytes ≡ count

-- the source has lost what was left, which are fewer bytes than these
pub record IsShort (count : ℕ) (left left_then : Option (List ℕ)) : Type 0 where
  pub part : List ℕ
  pub read : Consumes left left_then part
  pub ended : IsAtEnd left_then
  pub short : length part < count

-- the source has lost what was left, which is a part of a number
pub record IsCutNumber (left left_then : Option (List ℕ)) : Type 0 where
  pub cut : IsShort 8 left left_then
  pub some : 0 < length cut.part

-- the source has lost what was left, which is a part of what a request has behind the length of its words
pub record IsCutBehind (text_length : ℕ) (left left_then : Option (List ℕ)) : Type 0 where
  pub part : List ℕ
  pub read : Consumes left left_then part
  pub ended : IsAtEnd left_then
  pub short : (input_size more : List ℕ) (input_length : ℕ) → IsNumber input_size input_length → part ≡ input_size ++ more → length more < text_length + input_length

-- the source has lost what was left, which is a part of a request
pub record IsCut (left left_then : Option (List ℕ)) : Type 0 where
  pub part : List ℕ
  pub read : Consumes left left_then part
  pub ended : IsAtEnd left_then
  pub is_part : IsPart part

-- more bytes are asked for than an input may have, and the source is as it was
abbrev pub IsTooMuch : ℕ → Option (List ℕ) → Option (List ℕ) → Type 0
IsTooMuch count left left_then = (67108864 < count) × (left_then ≡ left)

-- the source has lost the length of a request's input, behind that of its words, and one of them is more than an input may have
pub record IsTooLongBehind (text_length : ℕ) (left left_then : Option (List ℕ)) : Type 0 where
  pub input_size : List ℕ
  pub input_length : ℕ
  pub number : IsNumber input_size input_length
  pub more : List ℕ
  pub read : Consumes left left_then (input_size ++ more)
  pub longer : (67108864 < text_length) ⊎ (67108864 < input_length)

-- the source has lost the lengths of a request's words and of its input, of which one is more than an input may have
pub record IsTooLong (left left_then : Option (List ℕ)) : Type 0 where
  pub text_size : List ℕ
  pub text_length : ℕ
  pub text_number : IsNumber text_size text_length
  pub input_size : List ℕ
  pub input_length : ℕ
  pub input_number : IsNumber input_size input_length
  pub more : List ℕ
  pub read : Consumes left left_then (text_size ++ (input_size ++ more))
  pub longer : (67108864 < text_length) ⊎ (67108864 < input_length)

-- nothing was left
pub record IsDone (left left_then : Option (List ℕ)) : Type 0 where
  pub read : Consumes left left_then []
  pub ended : IsAtEnd left_then

-- the source has lost the bytes of a number, or had none
abbrev pub NumberRead : Option (List ℕ) → Option (List ℕ) → Option ℕ → Type 0
NumberRead left left_then None = IsDone left left_then
NumberRead left left_then (Some n) = (bytes : List ℕ) × IsNumber bytes n × Consumes left left_then bytes

-- the source has lost what a request has behind the length of its words
pub record ReadBehind (text_length : ℕ) (left left_then : Option (List ℕ)) (text input : List ℕ) : Type 0 where
  pub input_size : List ℕ
  pub input_length : IsNumber input_size (length input)
  pub sized : length text ≡ text_length
  pub read : Consumes left left_then (input_size ++ (text ++ input))

-- the source has lost a request
abbrev pub RequestRead : Option (List ℕ) → Option (List ℕ) → Request → Type 0
RequestRead left left_then request = (bytes : List ℕ) × IsRequest bytes request.text.items request.input.items × Consumes left left_then bytes

-- the source has lost a request, or had nothing left
abbrev pub MayBeRead : Option (List ℕ) → Option (List ℕ) → Option Request → Type 0
MayBeRead left left_then None = IsDone left left_then
MayBeRead left left_then (Some request) = RequestRead left left_then request

-- what stops the reading of a request: the source failed, the input ends within it, it is too long, or memory is wanting
abbrev pub ReadCause : (failed cut long : Type 0) → ServeFault → Type 0
ReadCause failed cut long fault.Read = failed
ReadCause failed cut long fault.Cut = cut
ReadCause failed cut long fault.TooLong = long
ReadCause failed cut long fault.Memory = Unit {0}
ReadCause failed cut long other = ⊥
