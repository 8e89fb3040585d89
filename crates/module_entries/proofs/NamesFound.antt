-- The first module with a name.
use Rattle.std.proofs.Common.{◌≡◌, ◌<◌, ◌≤◌, ℕ, ◌+◌, List, [], ◌∷◌, Bool, true, false, cond, Option, Some, None, refl, sym, ap, subst, ◌∙◌, length, drop, get_or}
use Rattle.std.specs.List.{position_from}
use Rattle.std.specs.Option.{is_some}
use Rattle.std.specs.Str.{chars, encode_utf8_all, bytes_eq}
use Rattle.std.proofs.lemmas.Bool.Decides.{same_from_decides}
use Rattle.std.proofs.lemmas.Iterator.Adapters.{position_from-zero}
use Rattle.std.proofs.lemmas.List.{drop_more}
use Rattle.std.proofs.lemmas.Slice.Eq.{bytes_eq-Decides}
use denote.Bor.{Bor}
use Rattle.indexmap.specs.IndexMap.{IndexMap}
use Rattle.semantic_syntax.specs.Tables.{Name}
use Rattle.module_set.specs.declared.modules.Module.{Module}
use Rattle.link_model.specs.Module.{module_named}
use Rattle.link_search.proofs.Orelse.{or_else}
use Rattle.module_entries.specs.Names.{names_of, number_for, name_noted, AreFirsts}
use Rattle.module_entries.proofs.Continuing.{nothing_left}

abbrev IsWhole : List ℕ → Type 0
IsWhole text = encode_utf8_all (chars text) ≡ text

-- what the map has comes before what is left, from number n on
abbrev pub FirstsWith : {S : Type 0} → List Name → IndexMap (Bor (List ℕ)) ℕ S → ℕ → List Name → Type 0
FirstsWith all numbers n left = (text : List ℕ) → IsWhole text → or_else (number_for numbers text) (position_from (bytes_eq (chars text)) n left) ≡ module_named all (chars text)

-- texts that are the UTF-8 forms of their characters are equal where their characters are
same_eq : (text bytes : List ℕ) (name : Name) → IsWhole text → chars bytes ≡ name → bytes ≡ encode_utf8_all name → bytes_eq bytes text ≡ bytes_eq (chars text) name
same_eq text bytes name whole spelled spelling =
    same_from_decides {P = bytes ≡ text} (bytes_eq bytes text) (bytes_eq (chars text) name) (bytes_eq-Decides bytes text)
    ((λ e. spelling ∙ ap encode_utf8_all (sym ((bytes_eq-Decides (chars text) name).0 e)) ∙ whole), (λ e. (bytes_eq-Decides (chars text) name).1 (ap chars (sym e) ∙ spelled)))

pub firsts_begin : {S : Type 0} (all : List Name) (numbers : IndexMap (Bor (List ℕ)) ℕ S) → ((text : List ℕ) → number_for numbers text ≡ None) → FirstsWith all numbers 0 all
firsts_begin all numbers none text whole =
    ap (λ o. or_else o (position_from (bytes_eq (chars text)) 0 all)) (none text) ∙ sym (position_from-zero (bytes_eq (chars text)) all)

next_name : (modules : List Module) (i : ℕ) (m d : Module) → i < length modules → m ≡ get_or modules i d → names_of (drop i modules) ≡ m.name ∷ names_of (drop (i + 1) modules)
next_name modules i m d within is = ap names_of (drop_more modules i d within) ∙ ap (λ (x : Module). x.name ∷ names_of (drop (i + 1) modules)) (sym is)

or_later : (i : ℕ) (o later : Option ℕ) (bytes text : List ℕ) → or_else (name_noted bytes i o text) later ≡ or_else o (cond (bytes_eq bytes text) (Some i) later)
or_later i (Some n) later bytes text = refl
or_later i None later bytes text = go (bytes_eq bytes text)
  where
    go : (b : Bool) → or_else (cond b (Some i) None) later ≡ cond b (Some i) later
    go true = refl
    go false = refl

-- one more name
pub firsts_more : {S : Type 0} (modules : List Module) (i : ℕ) (m d : Module) → i < length modules → m ≡ get_or modules i d → (bytes : List ℕ) → chars bytes ≡ m.name → bytes ≡ encode_utf8_all m.name
    → (old new : IndexMap (Bor (List ℕ)) ℕ S) → ((text : List ℕ) → number_for new text ≡ name_noted bytes i (number_for old text) text)
    → FirstsWith (names_of modules) old i (names_of (drop i modules)) → FirstsWith (names_of modules) new (i + 1) (names_of (drop (i + 1) modules))
firsts_more modules i m d within is bytes spelled spelling old new more h text whole =
    let later : Option ℕ = position_from (bytes_eq (chars text)) (i + 1) (names_of (drop (i + 1) modules)) in
    ap (λ o. or_else o later) (more text)
    ∙ or_later i (number_for old text) later bytes text
    ∙ ap (λ b. or_else (number_for old text) (cond b (Some i) later)) (same_eq text bytes m.name whole spelled spelling)
    ∙ ap (λ ns. or_else (number_for old text) (position_from (bytes_eq (chars text)) i ns)) (sym (next_name modules i m d within is))
    ∙ h text whole

-- all names
or_nothing : (o : Option ℕ) → or_else o None ≡ o
or_nothing None = refl
or_nothing (Some n) = refl

pub firsts_all : {S : Type 0} (modules : List Module) (i : ℕ) (numbers : IndexMap (Bor (List ℕ)) ℕ S) → length modules ≤ i → FirstsWith (names_of modules) numbers i (names_of (drop i modules)) → AreFirsts (names_of modules) numbers
firsts_all modules i numbers past h text whole =
    sym (or_nothing (number_for numbers text))
    ∙ ap (λ ms. or_else (number_for numbers text) (position_from (bytes_eq (chars text)) i (names_of ms))) (sym (nothing_left modules i past))
    ∙ h text whole

-- ---- a name is noted

none_there : (o : Option ℕ) → is_some o ≡ false → o ≡ None
none_there None h = refl
none_there (Some n) h = absurd cc

pub noted_new : {S : Type 0} (bytes : List ℕ) (n : ℕ) (old new : IndexMap (Bor (List ℕ)) ℕ S) → is_some (number_for old bytes) ≡ false
    → ((text : List ℕ) → number_for new text ≡ cond (bytes_eq bytes text) (Some n) (number_for old text)) → (text : List ℕ) → number_for new text ≡ name_noted bytes n (number_for old text) text
noted_new bytes n old new unknown updated text = updated text ∙ go (bytes_eq bytes text) refl (number_for old text) refl
  where
    go : (b : Bool) → bytes_eq bytes text ≡ b → (o : Option ℕ) → number_for old text ≡ o → cond b (Some n) o ≡ name_noted bytes n o text
    go true same None h = ap (λ b. cond b (Some n) None) (sym same)
    go true same (Some k) h =
        let none : number_for old text ≡ None = ap (number_for old) (sym ((bytes_eq-Decides bytes text).0 same)) ∙ none_there (number_for old bytes) unknown in
        let both : Some k ≡ None = sym h ∙ none in absurd cc
    go false same None h = ap (λ b. cond b (Some n) None) (sym same)
    go false same (Some k) h = refl

pub noted_known : {S : Type 0} (bytes : List ℕ) (n : ℕ) (old : IndexMap (Bor (List ℕ)) ℕ S) → is_some (number_for old bytes) ≡ true → (text : List ℕ) → number_for old text ≡ name_noted bytes n (number_for old text) text
noted_known bytes n old known text = go (number_for old text) refl
  where
    unlike : number_for old text ≡ None → (b : Bool) → bytes_eq bytes text ≡ b → None ≡ cond b (Some n) None
    unlike h true same =
        let there : is_some (number_for old text) ≡ true = ap (λ t. is_some (number_for old t)) (sym ((bytes_eq-Decides bytes text).0 same)) ∙ known in
        let both : true ≡ false = sym there ∙ ap is_some h in absurd cc
    unlike h false same = refl

    go : (o : Option ℕ) → number_for old text ≡ o → o ≡ name_noted bytes n o text
    go (Some k) h = refl
    go None h = unlike h (bytes_eq bytes text) refl
