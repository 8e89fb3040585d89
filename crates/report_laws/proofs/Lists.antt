-- Lists of what is told, and what is told of lists.
use Rattle.std.proofs.Common.{◌≡◌, ℕ, ◌+◌, ◌<◌, ◌≤◌, List, [], ◌∷◌, ◌++◌, length, get_or, drop, map, flat_map, append_assoc, refl, sym, ap, ◌∙◌, arith}
use Rattle.std.proofs.lemmas.List.{drop_more, drop_all}
use Rattle.std.specs.List.{AllByRecursion, concat}
use Rattle.report_ends.specs.Streams.{numbered_text}
use Rattle.report_laws.proofs.Closed.{same_cons}
use Rattle.report_laws.proofs.Forms.{one_by_one}

-- texts one behind the other, and then the rest
abbrev pub onto : List (List ℕ) → List ℕ → List ℕ
onto [] rest = rest
onto (text ∷ texts) rest = text ++ onto texts rest

pub concat_onto : (texts : List (List ℕ)) (rest : List ℕ) → concat texts ++ rest ≡ onto texts rest
concat_onto [] rest = refl
concat_onto (text ∷ texts) rest = append_assoc text (concat texts) rest ∙ ap (λ more. text ++ more) (concat_onto texts rest)

-- what is told of each element by its number
abbrev pub numbered : {A B : Type 0} → (ℕ → A → B) → ℕ → List A → List B
numbered f i [] = []
numbered f i (x ∷ xs) = f i x ∷ numbered f (i + 1) xs

module _ {A B : Type 0} (w : List ℕ) (go : B → List ℕ → List ℕ) where
  pub each_line : (line : A → List ℕ) (value : A → B) → ((x : A) (rest : List ℕ) → line x ++ rest ≡ w ++ go (value x) rest)
      → (xs : List A) (rest more : List ℕ) → rest ≡ more → flat_map line xs ++ rest ≡ one_by_one w go (map value xs) more
  each_line line value same [] rest more e = e
  each_line line value same (x ∷ xs) rest more e =
      append_assoc (line x) (flat_map line xs) rest ∙ ap (λ text. line x ++ text) (each_line line value same xs rest more e) ∙ same x (one_by_one w go (map value xs) more)

  pub numbered_lines : (line : ℕ → A → List ℕ) (value : ℕ → A → B) → ((i : ℕ) (x : A) (rest : List ℕ) → line i x ++ rest ≡ w ++ go (value i x) rest)
      → (i : ℕ) (xs : List A) (rest more : List ℕ) → rest ≡ more → numbered_text line i xs ++ rest ≡ one_by_one w go (numbered value i xs) more
  numbered_lines line value same i [] rest more e = e
  numbered_lines line value same i (x ∷ xs) rest more e =
      append_assoc (line i x) (numbered_text line (i + 1) xs) rest ∙ ap (λ text. line i x ++ text) (numbered_lines line value same (i + 1) xs rest more e)
      ∙ same i x (one_by_one w go (numbered value (i + 1) xs) more)

-- ---- back from what is told

pub map_back : {A B : Type 0} (value : A → B) (back : B → A) → ((x : A) → back (value x) ≡ x) → (xs : List A) → map back (map value xs) ≡ xs
map_back value back same [] = refl
map_back value back same (x ∷ xs) = same_cons (back (value x)) x (map back (map value xs)) xs (same x) (map_back value back same xs)

pub numbered_back : {A B : Type 0} (value : ℕ → A → B) (back : B → A) (P : A → Type 0) → ((i : ℕ) (x : A) → P x → back (value i x) ≡ x) → (i : ℕ) (xs : List A) → AllByRecursion P xs → map back (numbered value i xs) ≡ xs
numbered_back value back P same i [] h = refl
numbered_back value back P same i (x ∷ xs) h =
    same_cons (back (value i x)) x (map back (numbered value (i + 1) xs)) xs (same i x h.0) (numbered_back value back P same (i + 1) xs h.1)

-- what stands beside each element in another list
pub beside_back : {A B C : Type 0} (others : List C) (none : C) (value : ℕ → A → B) (back : B → C) → ((i : ℕ) (x : A) → back (value i x) ≡ get_or others i none)
    → (i : ℕ) (xs : List A) → i + length xs ≡ length others → map back (numbered value i xs) ≡ drop i others
beside_back others none value back same i [] e = sym (drop_all i others (omega (arith, e)))
beside_back others none value back same i (x ∷ xs) e =
    let within : i < length others = omega (arith, e) in
    same_cons (back (value i x)) (get_or others i none) (map back (numbered value (i + 1) xs)) (drop (i + 1) others) (same i x) (beside_back others none value back same (i + 1) xs (omega (arith, e)))
    ∙ sym (drop_more others i none within)

-- ---- of each

pub all_map : {A B : Type 0} (P : A → Type 0) (Q : B → Type 0) (value : A → B) → ((x : A) → P x → Q (value x)) → (xs : List A) → AllByRecursion P xs → AllByRecursion Q (map value xs)
all_map P Q value since [] h = tt
all_map P Q value since (x ∷ xs) h = (since x h.0, all_map P Q value since xs h.1)

pub all_numbered : {A B : Type 0} (P : A → Type 0) (Q : B → Type 0) (value : ℕ → A → B) (n : ℕ) → ((i : ℕ) (x : A) → i < n → P x → Q (value i x))
    → (i : ℕ) (xs : List A) → i + length xs ≤ n → AllByRecursion P xs → AllByRecursion Q (numbered value i xs)
all_numbered P Q value n since i [] fits h = tt
all_numbered P Q value n since i (x ∷ xs) fits h = (since i x (omega (arith, fits)) h.0, all_numbered P Q value n since (i + 1) xs (omega (arith, fits)) h.1)

pub numbered_map : {A B C : Type 0} (value : ℕ → A → B) (back : B → C) (seen : A → C) → ((i : ℕ) (x : A) → back (value i x) ≡ seen x) → (i : ℕ) (xs : List A) → map back (numbered value i xs) ≡ map seen xs
numbered_map value back seen same i [] = refl
numbered_map value back seen same i (x ∷ xs) =
    same_cons (back (value i x)) (seen x) (map back (numbered value (i + 1) xs)) (map seen xs) (same i x) (numbered_map value back seen same (i + 1) xs)
