-- What the words of the command line ask for.
use Rattle.std.specs.Prelude.{ℕ, List, [], ◌∷◌, length, slice_index, ◌==◌, ◌&&◌, not, nat_lt, Bool, Option, Some, None, option_map, if◌then◌else◌, String, string_bytes}
use Rattle.std.specs.Char.{is_ascii_digit}
use Rattle.std.specs.List.{list_all}
use Rattle.std.specs.Str.{chars}
use Rattle.std.specs.Str.Parse.{digits_value}
use Rattle.std.specs.declared.alloc.Global.{Global}
use Rattle.semantic_syntax.specs.Tables.{Name}
use Rattle.renamer.specs.declared.request.Request.{Request}

-- a symbol, and the name that it is to have
pub record RenameRequest : Type 0 where
  pub symbol : ℕ
  pub name : Name

abbrev pub asked_in_request : Request → RenameRequest
asked_in_request request = record { symbol = request.symbol; name = chars request.name.now }

-- a zero stands before other digits
abbrev pub has_leading_zero : List ℕ → Bool
has_leading_zero word = nat_lt 1 (length word) && (slice_index word 0 == 48)

-- a number in decimal, without a sign and without a leading zero
abbrev pub is_plain_number : List ℕ → Bool
is_plain_number word = nat_lt 0 (length word) && not (has_leading_zero word) && list_all is_ascii_digit word

-- the number so written, where a symbol may have it
abbrev pub symbol_number : List ℕ → Option ℕ
symbol_number word = if is_plain_number word && nat_lt (digits_value 10 word) 4294967295 then Some (digits_value 10 word) else None

-- a symbol's number and a name, or none where the words aren't two such
abbrev pub request_of : List (String Global) → Option RenameRequest
request_of (number ∷ name ∷ []) = option_map (λ s. record { symbol = s; name = chars (string_bytes name) }) (symbol_number (string_bytes number))
request_of _ = None
