-- What is read of a source in several steps.
use Rattle.std.proofs.Common.{◌≡◌, ◌<◌, ◌++◌, ◌==◌, false, ℕ, zero, suc, List, [], ◌∷◌, length, Option, Some, Result, Ok, Err, IfErr, subst, sym, refl, ap, ap₂, ◌∙◌, inl, inr, arith, append-nil, length-append}
use Rattle.std.specs.Int.{w64, from_le_bytes}
use Rattle.std.specs.Result.{IsErrAnd}
use Rattle.std.specs.Io.KnownBytes.{Consumes}
use Rattle.std.proofs.KnownBytes.{Consumes-trans}
use Rattle.report_ends.specs.Causes.{Rose}
use Rattle.serving.specs.Requests.{IsNumber, IsRequest}
use Rattle.serving.specs.Reads.{IsDone, IsShort, IsCutNumber, IsCutBehind, IsCut, IsTooMuch, IsTooLongBehind, IsTooLong, ReadCause, ReadUpTo, ReadJust, ReadBehind, NumberRead}
use Rattle.serving.specs.declared.fault.ServeFault.{ServeFault}
use Rattle.serving.specs.declared.fault.ServeFault.TheVariants as fault

-- ---- lists that begin alike

pub same_front : (a r b s : List ℕ) → length a ≡ length b → a ++ r ≡ b ++ s → (a ≡ b) × (r ≡ s)
same_front [] r [] s sized same = (refl, same)
same_front [] r (y ∷ b) s sized same = absurd (omega (arith, sized))
same_front (x ∷ a) r [] s sized same = absurd (omega (arith, sized))
same_front (x ∷ a) r (y ∷ b) s sized same =
    let begun : x ∷ (a ++ r) ≡ y ∷ (b ++ s) = same in
    let first : x ≡ y = cc in
    let tails : a ++ r ≡ b ++ s = cc in
    let others : (a ≡ b) × (r ≡ s) = same_front a r b s (omega (arith, sized)) tails in
    (ap₂ (λ z zs. z ∷ zs) first others.0, others.1)

-- the same bytes stand for one number
pub same_number : (xs ys : List ℕ) (m n : ℕ) → IsNumber xs m → IsNumber ys n → xs ≡ ys → m ≡ n
same_number xs ys m n of_xs of_ys same = of_xs.value ∙ ap (from_le_bytes w64) same ∙ sym of_ys.value

-- fewer than eight bytes don't begin with a number
pub too_few : (part size more : List ℕ) (n : ℕ) → length part < 8 → IsNumber size n → part ≡ size ++ more → ⊥
too_few part size more n few number same = omega (arith, few, ap length same, length-append size more, number.sized)

-- ---- what stops a read

-- a fault that is handed on
pub stopped_by : {T : Type 0} (Why : ServeFault → Type 0) (why : ServeFault) (result : Result T ServeFault) → Why why → IsErrAnd result (λ told. told ≡ why) → IfErr result Why
stopped_by Why why (Err told) cause same = subst Why (sym same) cause
stopped_by Why why (Ok x) cause same = tt

cause_as : {failed cut long failed_all cut_all long_all : Type 0} (why : ServeFault) → (failed → failed_all) → (cut → cut_all) → (long → long_all) → ReadCause failed cut long why → ReadCause failed_all cut_all long_all why
cause_as fault.Read f g h cause = f cause
cause_as fault.Cut f g h cause = g cause
cause_as fault.TooLong f g h cause = h cause
cause_as fault.Memory f g h cause = tt
cause_as fault.Write f g h cause = absurd cause
cause_as fault.Words f g h cause = absurd cause
cause_as fault.TooMany f g h cause = absurd cause

-- what stops a part of a read stops the whole
pub stopped_as : {T failed cut long failed_all cut_all long_all : Type 0} (why : ServeFault) (result : Result T ServeFault) → (failed → failed_all) → (cut → cut_all) → (long → long_all) → ReadCause failed cut long why → IsErrAnd result (λ told. told ≡ why)
    → IfErr result (ReadCause failed_all cut_all long_all)
stopped_as why result f g h cause same = stopped_by _ why result (cause_as why f g h cause) same

-- a count that rose since it was as before
pub rose_since : (before mid now : ℕ) → mid ≡ before → Rose mid now → Rose before now
rose_since before mid now kept rose = subst (λ n. Rose n now) kept rose

-- ---- where an input ends within a request

pub none_behind : (text_length : ℕ) (a b : Option (List ℕ)) → IsDone a b → IsCutBehind text_length a b
none_behind text_length a b done = record { part = []; read = done.read; ended = done.ended; short = λ size more n number same. absurd (too_few [] size more n (omega arith) number same) }

filled : (n many : ℕ) → n ≡ many → (n == 0) ≡ false → 0 < many
filled zero many same there = absurd cc
filled (suc n) many same there = omega (arith, same)

-- some bytes are left, and fewer than a number has
pub cut_number : (a b : Option (List ℕ)) (bytes told : List ℕ) (n : ℕ) → ReadUpTo 8 a b bytes → told ≡ bytes → length told < 8 → n ≡ length bytes → (n == 0) ≡ false → IsCutNumber a b
cut_number a b bytes told n read same few many there =
    let short : length bytes < 8 = omega (arith, few, ap length same) in
    record { cut = record { part = bytes; read = read.read; ended = read.fewer short; short = short }; some = filled n (length bytes) many there }

pub number_behind : (text_length : ℕ) (a b : Option (List ℕ)) → IsCutNumber a b → IsCutBehind text_length a b
number_behind text_length a b number = record {
  part = number.cut.part;
  read = number.cut.read;
  ended = number.cut.ended;
  short = λ size more n of_size same. absurd (too_few number.cut.part size more n number.cut.short of_size same);
}

pub text_behind : (text_length n : ℕ) (a b c : Option (List ℕ)) (bytes : List ℕ) → IsNumber bytes n → Consumes a b bytes → IsShort text_length b c → IsCutBehind text_length a c
text_behind text_length n a b c bytes number read cut = record {
  part = bytes ++ cut.part;
  read = Consumes-trans a b c bytes cut.part read cut.read;
  ended = cut.ended;
  short = λ size more m of_size same.
      let front : (bytes ≡ size) × (cut.part ≡ more) = same_front bytes cut.part size more (number.sized ∙ sym of_size.sized) same in
      omega (arith, ap length front.1, cut.short);
}

pub input_behind : (text_length n : ℕ) (a b c d : Option (List ℕ)) (bytes text : List ℕ) → IsNumber bytes n → Consumes a b bytes → ReadJust text_length b c text → IsShort n c d → IsCutBehind text_length a d
input_behind text_length n a b c d bytes text number read words cut = record {
  part = bytes ++ (text ++ cut.part);
  read = Consumes-trans a b d bytes (text ++ cut.part) read (Consumes-trans b c d text cut.part words.read cut.read);
  ended = cut.ended;
  short = λ size more m of_size same.
      let front : (bytes ≡ size) × (text ++ cut.part ≡ more) = same_front bytes (text ++ cut.part) size more (number.sized ∙ sym of_size.sized) same in
      omega (arith, ap length front.1, length-append text cut.part, words.sized, cut.short, same_number bytes size n m number of_size front.0);
}

pub number_cut : (a b : Option (List ℕ)) → IsCutNumber a b → IsCut a b
number_cut a b number = record {
  part = number.cut.part;
  read = number.cut.read;
  ended = number.cut.ended;
  is_part = record { some = number.some; short = λ text_size input_size more n m of_text of_input same. absurd (too_few number.cut.part text_size (input_size ++ more) n number.cut.short of_text same) };
}

pub behind_cut : (n : ℕ) (a b c : Option (List ℕ)) (bytes : List ℕ) → IsNumber bytes n → Consumes a b bytes → IsCutBehind n b c → IsCut a c
behind_cut n a b c bytes number read cut = record {
  part = bytes ++ cut.part;
  read = Consumes-trans a b c bytes cut.part read cut.read;
  ended = cut.ended;
  is_part = record {
    some = omega (arith, length-append bytes cut.part, number.sized);
    short = λ text_size input_size more m k of_text of_input same.
        let front : (bytes ≡ text_size) × (cut.part ≡ input_size ++ more) = same_front bytes cut.part text_size (input_size ++ more) (number.sized ∙ sym of_text.sized) same in
        omega (arith, cut.short input_size more k of_input front.1, same_number bytes text_size n m number of_text front.0);
  };
}

-- ---- where a request is too long

pub text_long : (text_length n : ℕ) (a b c : Option (List ℕ)) (bytes : List ℕ) → IsNumber bytes n → Consumes a b bytes → IsTooMuch text_length b c → IsTooLongBehind text_length a c
text_long text_length n a b c bytes number read long = record {
  input_size = bytes;
  input_length = n;
  number = number;
  more = [];
  read = subst (λ x. Consumes a x (bytes ++ [])) (sym long.1) (subst (Consumes a b) (sym (append-nil bytes)) read);
  longer = inl long.0;
}

pub input_long : (text_length n : ℕ) (a b c d : Option (List ℕ)) (bytes text : List ℕ) → IsNumber bytes n → Consumes a b bytes → ReadJust text_length b c text → IsTooMuch n c d → IsTooLongBehind text_length a d
input_long text_length n a b c d bytes text number read words long = record {
  input_size = bytes;
  input_length = n;
  number = number;
  more = text;
  read = subst (λ x. Consumes a x (bytes ++ text)) (sym long.1) (Consumes-trans a b c bytes text read words.read);
  longer = inr long.0;
}

pub behind_long : (n : ℕ) (a b c : Option (List ℕ)) (bytes : List ℕ) → IsNumber bytes n → Consumes a b bytes → IsTooLongBehind n b c → IsTooLong a c
behind_long n a b c bytes number read long = record {
  text_size = bytes;
  text_length = n;
  text_number = number;
  input_size = long.input_size;
  input_length = long.input_length;
  input_number = long.number;
  more = long.more;
  read = Consumes-trans a b c bytes (long.input_size ++ long.more) read long.read;
  longer = long.longer;
}

-- ---- what is read whole

-- a number, words and an input are what stands behind the length of the words
pub behind : (a b c d : Option (List ℕ)) (text_length n : ℕ) (text input : List ℕ) → NumberRead a b (Some n) → ReadJust text_length b c text → ReadJust n c d input → ReadBehind text_length a d text input
behind a b c d text_length n text input (bytes, number, read) words body = record {
  input_size = bytes;
  input_length = subst (IsNumber bytes) (sym body.sized) number;
  sized = words.sized;
  read = Consumes-trans a b d bytes (text ++ input) read (Consumes-trans b c d text input words.read body.read);
}

-- a number and what stands behind it are a request
pub request_of : (a b c : Option (List ℕ)) (n : ℕ) (text input : List ℕ) → NumberRead a b (Some n) → ReadBehind n b c text input → (bytes : List ℕ) × IsRequest bytes text input × Consumes a c bytes
request_of a b c n text input (bytes, number, read) rest = (
  bytes ++ (rest.input_size ++ (text ++ input)),
  record {
    text_size = bytes;
    text_length = subst (IsNumber bytes) (sym rest.sized) number;
    input_size = rest.input_size;
    input_length = rest.input_length;
    whole = refl;
  },
  Consumes-trans a b c bytes (rest.input_size ++ (text ++ input)) read rest.read,
)
