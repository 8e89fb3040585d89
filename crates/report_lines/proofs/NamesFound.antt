-- The names that one pass over the free lists gives are those of the lists that hold the references.
use Rattle.std.proofs.Common.{◌≡◌, ℕ, ◌<◌, ◌==◌, ◌||◌, Bool, true, false, if◌then◌else◌, List, [], ◌∷◌, Option, Some, None, length, map, replicate, get_or, ap, ◌∙◌, sym, refl}
use Rattle.std.proofs.lemmas.List.{get_or-set_same, get_or-set_other, get_or_default, get_or-map, get_or-replicate, length-set, length-map, length-replicate}
use Rattle.std.proofs.lemmas.Bool.{eqb-true, eqb-false}
use Rattle.std.specs.List.{list_any}
use Rattle.std.specs.Option.{unwrap_or}
use Rattle.semantic_syntax.specs.declared.texts.Ident.{Ident}
use Rattle.semantic_syntax.specs.Tables.{Name, FreeLists, Tables}
use Rattle.report_lines.specs.TableLines.{free_name}
use Rattle.report_lines.specs.FreeNames.{name_shown, or_name, named_once, named_each, names_with_free, free_names}

-- a name, or this one where it is given
abbrev pub or_given : Option Name → Bool → Name → Option Name
or_given (Some other) given name = Some other
or_given None given name = if given then Some name else None

-- a name, or that of the free list that holds the reference
abbrev pub or_free : Option Name → FreeLists → ℕ → Name
or_free (Some name) lists reference = name
or_free None lists reference = free_name lists reference

given_not : (x : Option Name) (name : Name) → or_given x false name ≡ x
given_not None name = refl
given_not (Some other) name = refl

given : (x : Option Name) (name : Name) → or_given x true name ≡ or_name x name
given None name = refl
given (Some other) name = refl

once : (names : List (Option Name)) (reference r : ℕ) (name : Name) (is : Bool) → r < length names → (reference == r) ≡ is → get_or (named_once names reference name) r None ≡ or_given (get_or names r None) is name
once names reference r name false inside other =
    get_or-set_other names reference r (or_name (get_or names reference (Some [])) name) None (λ same. eqb-false reference r other (sym same)) ∙ sym (given_not (get_or names r None) name)
once names reference r name true inside same =
    let at : reference ≡ r = eqb-true reference r same in
    rw at
    (get_or-set_same names r (or_name (get_or names r (Some [])) name) None inside
    ∙ ap (λ x. or_name x name) (get_or_default names r (Some []) None inside) ∙ sym (given (get_or names r None) name))

once_length : (names : List (Option Name)) (reference : ℕ) (name : Name) → length (named_once names reference name) ≡ length names
once_length names reference name = length-set names reference (or_name (get_or names reference (Some [])) name)

given_twice : (x : Option Name) (first second : Bool) (name : Name) → or_given (or_given x first name) second name ≡ or_given x (first || second) name
given_twice (Some other) first second name = refl
given_twice None true second name = refl
given_twice None false second name = refl

each : (names : List (Option Name)) (references : List ℕ) (r : ℕ) (name : Name) → r < length names → get_or (named_each names references name) r None ≡ or_given (get_or names r None) (list_any (λ other. other == r) references) name
each names [] r name inside = sym (given_not (get_or names r None) name)
each names (reference ∷ references) r name inside =
    each (named_once names reference name) references r name (rw (once_length names reference name) inside)
    ∙ ap (λ x. or_given x (list_any (λ other. other == r) references) name) (once names reference r name (reference == r) inside refl)
    ∙ given_twice (get_or names r None) (reference == r) (list_any (λ other. other == r) references) name

each_length : (names : List (Option Name)) (references : List ℕ) (name : Name) → length (named_each names references name) ≡ length names
each_length names [] name = refl
each_length names (reference ∷ references) name = each_length (named_once names reference name) references name ∙ once_length names reference name

next_list : (x : Option Name) (list : Name × List ℕ) (lists : FreeLists) (r : ℕ) (holds : Bool) → list_any (λ other. other == r) list.1 ≡ holds → or_free (or_given x holds list.0) lists r ≡ or_free x (list ∷ lists) r
next_list (Some name) list lists r holds is = refl
next_list None list lists r true is = rw is refl
next_list None list lists r false is = rw is refl

pub found : (names : List (Option Name)) (lists : FreeLists) (r : ℕ) → r < length names → unwrap_or (get_or (names_with_free names lists) r None) [] ≡ or_free (get_or names r None) lists r
found names [] r inside = elim (get_or names r None) as (λ x. unwrap_or x [] ≡ or_free x [] r) [ None ↦ refl | Some name ↦ refl ]
found names (list ∷ lists) r inside =
    found (named_each names list.1 list.0) lists r (rw (each_length names list.1 list.0) inside)
    ∙ ap (λ x. or_free x lists r) (each names list.1 r list.0 inside)
    ∙ next_list (get_or names r None) list lists r (list_any (λ other. other == r) list.1) refl

by_length : (names : List (Option Name)) (lists : FreeLists) → length (names_with_free names lists) ≡ length names
by_length names [] = refl
by_length names (list ∷ lists) = by_length (named_each names list.1 list.0) lists ∙ each_length names list.1 list.0

module _ (t : Tables) (names : List (Option Ident)) (are : map name_shown names ≡ free_names t) where
  pub names_length : length names ≡ length t.references
  names_length = sym (length-map names name_shown) ∙ ap length are ∙ by_length (replicate (length t.references) None) t.free ∙ length-replicate {A = Option Name} (length t.references) None

  -- the name in its place is that of the list that holds the reference
  pub name_there : (r : ℕ) (d : Option Ident) → r < length t.references → unwrap_or (name_shown (get_or names r d)) [] ≡ free_name t.free r
  name_there r d inside =
      ap (λ x. unwrap_or x []) (sym (get_or-map name_shown names r d None (rw names_length inside)) ∙ ap (λ xs. get_or xs r None) are)
      ∙ found (replicate (length t.references) None) t.free r (rw (length-replicate {A = Option Name} (length t.references) None) inside)
      ∙ ap (λ x. or_free x t.free r) (get_or-replicate (length t.references) r None None inside)
