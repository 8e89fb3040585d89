-- Bytes that are JSON, and bytes that are none.
use Rattle.std.proofs.Common.{◌≡◌, ℕ, Bool, true, false, List, Some, None, Result, Ok, Err, ok_or, IsErrAnd, refl, suc, length, [], ◌∷◌, ap}
use Rattle.std.proofs.lemmas.Str.{IsUtf8-from_is_utf8, is_utf8-from_IsUtf8, encodes-chars}
use Rattle.std.specs.Str.{IsUtf8, is_utf8, chars, encode_utf8_all}
use Rattle.serde_json.specs.Data.{Data}
use Rattle.serde_json.specs.Read.{read}
use Rattle.serde_json.specs.Events.{items_len}
use Rattle.serde_json.specs.View.{items_view}
use Rattle.serde_json.specs.declared.value.Value.{Value}
use Rattle.semantic_tree.specs.declared.error.TreeError.TheVariants.{Memory}
use Rattle.semantic_tree.specs.declared.error.TreeError.{TreeError}
use Rattle.std.specs.declared.alloc.AllocError.{AllocError}
use Rattle.tree_json.specs.Outcome.{Gives}
use Rattle.tree_json.specs.Reading.{value_in}
use Rattle.std.specs.Prelude.{if◌then◌else◌}

pub value_in_ok : {E : Type 0} (e : E) (bytes : List ℕ) (d : Data) → IsUtf8 bytes → read bytes ≡ Some d → value_in e bytes ≡ Ok d
unfolding value_in
value_in_ok e bytes d utf8 is = rw (is_utf8-from_IsUtf8 bytes utf8, is)

refused : {E : Type 0} (e : E) (bytes : List ℕ) (valid : Bool) → is_utf8 bytes ≡ valid → (IsUtf8 bytes → read bytes ≡ None) → (if valid then ok_or (read bytes) e else Err e) ≡ Err e
refused e bytes true is none = rw (none (IsUtf8-from_is_utf8 bytes is))
refused e bytes false is none = refl

pub value_in_err : {E : Type 0} (e : E) (bytes : List ℕ) → (IsUtf8 bytes → read bytes ≡ None) → value_in e bytes ≡ Err e
unfolding value_in
value_in_err e bytes none = refused e bytes (is_utf8 bytes) refl none

pub items_len_view : (vs : List Value) → items_len (items_view vs) ≡ length vs
items_len_view [] = refl
items_len_view (v ∷ vs) = ap suc (items_len_view vs)

pub length_of_chars : (bytes : List ℕ) → IsUtf8 bytes → length (encode_utf8_all (chars bytes)) ≡ length bytes
length_of_chars bytes utf8 = ap length (encodes-chars bytes utf8)

-- want of memory may come at any place
pub gives_memory : {X Y : Type 0} (view : X → Y) (result : Result X TreeError) (read : Result Y TreeError) (refused : AllocError) → IsErrAnd result (λ e. e ≡ Memory refused) → Gives view result read
gives_memory view (Ok x) read refused is = absurd is
gives_memory view (Err e) read refused is = rw is (λ no. absurd (no tt))
