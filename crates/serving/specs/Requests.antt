-- Requests and answers as bytes.
use Rattle.std.specs.Prelude.{◌≡◌, ◌+◌, ◌<◌, ◌≤◌, ℕ, zero, suc, List, [], ◌++◌, length, map, String, string_bytes}
use Rattle.std.specs.Int.{w64, from_le_bytes, to_le_bytes}
use Rattle.std.specs.Str.{IsUtf8}
use Rattle.std.specs.Str.Lines.{lines}
use Rattle.std.specs.declared.alloc.Global.{Global}

-- eight bytes that stand for a number, the least one first
pub record IsNumber (bytes : List ℕ) (n : ℕ) : Type 0 where
  pub sized : length bytes ≡ 8
  pub value : n ≡ from_le_bytes w64 bytes

-- the bytes of a request: how long its words and its input are, and then both
pub record IsRequest (bytes text input : List ℕ) : Type 0 where
  pub text_size : List ℕ
  pub text_length : IsNumber text_size (length text)
  pub input_size : List ℕ
  pub input_length : IsNumber input_size (length input)
  pub whole : text_size ++ (input_size ++ (text ++ input)) ≡ bytes

-- these bytes are a part of a request: not none, and where they begin with two numbers, fewer stand behind these than both say
pub record IsPart (bytes : List ℕ) : Type 0 where
  pub some : 0 < length bytes
  pub short : (text_size input_size more : List ℕ) (text_length input_length : ℕ) → IsNumber text_size text_length → IsNumber input_size input_length → bytes ≡ text_size ++ (input_size ++ more) → length more < text_length + input_length

-- a request that may be answered: its words are UTF-8, and neither these nor its input is too long
pub record IsWhole (bytes : List ℕ) : Type 0 where
  pub text : List ℕ
  pub input : List ℕ
  pub request : IsRequest bytes text input
  pub utf8 : IsUtf8 text
  pub text_fits : length text ≤ 67108864
  pub input_fits : length input ≤ 67108864

-- so many requests that may be answered, one behind the other
abbrev pub AreWhole : ℕ → List ℕ → Type 0
AreWhole zero bytes = bytes ≡ []
AreWhole (suc n) bytes = (first : List ℕ) × (rest : List ℕ) × IsWhole first × AreWhole n rest × (bytes ≡ first ++ rest)

-- what is answered to a request
pub record Answer : Type 0 where
  pub status : ℕ
  pub out : List ℕ
  pub errs : List ℕ

-- the bytes of an answer: its status and how long its texts are, each in eight bytes, the least one first, and then both
abbrev pub answer_bytes : Answer → List ℕ
answer_bytes a = (((to_le_bytes w64 a.status ++ to_le_bytes w64 (length a.out)) ++ to_le_bytes w64 (length a.errs)) ++ a.out) ++ a.errs

-- words that stand one a line in a text, and an input, are answered so
pub record IsAnswerTo (Answers : List (String Global) → List ℕ → Answer → Type 0) (text input : List ℕ) (answer : Answer) : Type 0 where
  pub words : List (String Global)
  pub utf8 : IsUtf8 text
  pub by_line : map string_bytes words ≡ lines text
  pub answers : Answers words input answer

-- the request of these bytes is answered by those
pub record IsAnswered (Answers : List (String Global) → List ℕ → Answer → Type 0) (asked told : List ℕ) : Type 0 where
  pub text : List ℕ
  pub input : List ℕ
  pub request : IsRequest asked text input
  pub answer : Answer
  pub answers : IsAnswerTo Answers text input answer
  pub bytes : answer_bytes answer ≡ told
