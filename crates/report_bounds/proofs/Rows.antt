-- Rows of which each is tellable, by what they are made of.
use Rattle.std.proofs.Common.{◌≡◌, ℕ, zero, suc, ◌<◌, ◌&&◌, nat_lt, Bool, true, false, cond, if◌then◌else◌, List, [], ◌∷◌, ◌++◌, Option, Some, None, inl, inr, flat_map, filter_map, reverse, take, drop, find, codes, encode_utf8_all, refl, sym, ◌∙◌, subst, arith, IfSome}
use Rattle.std.specs.Prelude.{slice_get}
use Rattle.std.specs.List.{AllByRecursion, cons_option}
use Rattle.std.proofs.lemmas.Bool.{and_parts, ltb-true}
use Rattle.std.proofs.lemmas.List.{reverse-append}
use Rattle.std.proofs.lemmas.Str.{encode_ascii}
use Rattle.semantic_syntax.specs.declared.spans.Span.{Span}
use Rattle.semantic_kinds.specs.Roles.{same_role}
use Rattle.semantic_kinds.specs.declared.kind.AstType.{AstType}
use Rattle.semantic_kinds.specs.declared.role.Role.{Role}
use Rattle.semantic_kinds.specs.Kinds.{same_kind}
use Rattle.semantic_kinds.specs.declared.kind.AstType.TheVariants as kinds
use Rattle.semantic_tree.specs.BoundNames.{binds_by, bound_below, bound_names}
use Rattle.semantic_tree.specs.Forest.{Forest, nothing, tree}
use Rattle.semantic_tree.specs.Nodes.{first_of}
use Rattle.semantic_tree.specs.Unwrapped.{unwrapped_in, unwrapped}
use Rattle.semantic_tree.specs.Views.{children_of, all_in, child_of}
use Rattle.semantic_tree.specs.declared.node.Node.{Node}
use Rattle.semantic_diagnostics.specs.declared.diagnostic.Diagnostic.{Diagnostic}
use Rattle.semantic_model.specs.Entries.{Among}
use Rattle.semantic_model.proofs.lists.Members.{among_left, among_right}
use Rattle.check_model.specs.Search.{rows_if, row_if, rows_of_some, first, only, last, find_last, find_before, each_after, each_between, neighbours}
use Rattle.program_laws.proofs.TreeNodes.{nodes_below, nodes_from, child_in}
use Rattle.table_bounds.specs.Tellable.{IsWrittenWhole, no_gap, IsPlainWord, IsTellableDiagnostic}
use Rattle.semantic_syntax.proofs.Every.{every-append}
use Rattle.table_bounds.proofs.Lists.{all_among}
use Rattle.table_bounds.proofs.Nodes.{IsShort}

-- ---- spans and nodes

abbrev pub HasNumbers : Span → Type 0
HasNumbers span = IsWrittenWhole span.start × IsWrittenWhole span.end

pub numbers : (span : Span) → IsShort span → HasNumbers span
numbers span h = (omega (arith, h.start), omega (arith, h.end))

-- it holds of a node and of those below it
abbrev pub AreAll : (Node → Type 0) → Node → Type 0
AreAll P x = (y : Node) → Among y (nodes_from x) → P y

-- the spans of a node and of those below it are short
abbrev pub AreShort : Node → Type 0
AreShort x = AreAll (λ y. IsShort y.span) x

pub own_short : (x : Node) → AreShort x → IsShort x.span
own_short x h = h x (inl refl)

pub own : (x : Node) → AreShort x → HasNumbers x.span
own x h = numbers x.span (own_short x h)

module _ (P : Node → Type 0) where
  pub children_with : (r : Role) (node : Node) → AreAll P node → AllByRecursion (AreAll P) (all_in r node)
  children_with r node h = all_among (AreAll P) (children_of r node.children) (λ child a y b. h y (inr (child_in r node.children child a y b)))

  pub child_with : (r : Role) (node : Node) → AreAll P node → IfSome (child_of r node) (AreAll P)
  child_with r node h = by (all_in r node) (children_with r node h)
    where
      by : (xs : List Node) → AllByRecursion (AreAll P) xs → IfSome (first_of xs) (AreAll P)
      by [] k = tt
      by (x ∷ xs) k = k.0

pub children : (r : Role) (node : Node) → AreShort node → AllByRecursion AreShort (all_in r node)
children r node h = children_with (λ y. IsShort y.span) r node h

pub child : (r : Role) (node : Node) → AreShort node → IfSome (child_of r node) AreShort
child r node h = child_with (λ y. IsShort y.span) r node h

-- the names that a forest binds
names_below : (parent : AstType) (f : Forest) → ((y : Node) → Among y (nodes_below f) → IsShort y.span) → AllByRecursion AreShort (bound_below parent f)
names_below parent nothing h = tt
names_below parent (tree role kind span text marks below id after) h =
    every-append AreShort (if binds_by parent role then (if same_kind kind kinds.BindingIdentifier then node ∷ [] else bound_below kind below) else []) (bound_below parent after)
    (by (binds_by parent role) (same_kind kind kinds.BindingIdentifier) (names_below kind below (λ y a. node_short y (inr a))))
    (names_below parent after (λ y a. h y (inr (among_right y (nodes_below below) (nodes_below after) a))))
  where
    node : Node
    node = record { kind = kind; span = span; text = text; marks = marks; children = below; node_id = id }

    node_short : AreShort node
    node_short y (inl e) = h y (inl e)
    node_short y (inr a) = h y (inr (among_left y (nodes_below below) (nodes_below after) a))

    by : (b c : Bool) → AllByRecursion AreShort (bound_below kind below) → AllByRecursion AreShort (if b then (if c then node ∷ [] else bound_below kind below) else [])
    by true true inner = (node_short, tt)
    by true false inner = inner
    by false c inner = tt

pub names : (node : Node) → AreShort node → AllByRecursion AreShort (bound_names node)
names node h = by (same_kind node.kind kinds.BindingIdentifier)
  where
    by : (b : Bool) → AllByRecursion AreShort (if b then node ∷ [] else bound_below node.kind node.children)
    by true = (h, tt)
    by false = names_below node.kind node.children (λ y a. h y (inr a))

unwrapped_below : (wraps : AstType → Bool) (r : Role) (outer : Node) (f : Forest) → AreShort outer → ((y : Node) → Among y (nodes_below f) → IsShort y.span) → AreShort (unwrapped_in wraps r outer f)
unwrapped_below wraps r outer nothing h k = h
unwrapped_below wraps r outer (tree role kind span text marks below id after) h k =
    by (same_role role r) (wraps kind) (unwrapped_below wraps r found below found_short (λ y a. found_short y (inr a))) (unwrapped_below wraps r outer after h (λ y a. k y (inr (among_right y (nodes_below below) (nodes_below after) a))))
  where
    found : Node
    found = record { kind = kind; span = span; text = text; marks = marks; children = below; node_id = id }

    found_short : AreShort found
    found_short y (inl e) = k y (inl e)
    found_short y (inr a) = k y (inr (among_left y (nodes_below below) (nodes_below after) a))

    by : (b c : Bool) → AreShort (unwrapped_in wraps r found below) → AreShort (unwrapped_in wraps r outer after) → AreShort (if b then (if c then unwrapped_in wraps r found below else found) else unwrapped_in wraps r outer after)
    by true true inner later = inner
    by true false inner later = found_short
    by false c inner later = later

pub inside_wrappers : (wraps : AstType → Bool) (r : Role) (node : Node) → AreShort node → AreShort (unwrapped wraps r node)
inside_wrappers wraps r node h = by (wraps node.kind)
  where
    by : (b : Bool) → AreShort (if b then unwrapped_in wraps r node node.children else node)
    by true = unwrapped_below wraps r node node.children h (λ y a. h y (inr a))
    by false = h

-- ---- lists

module _ {A : Type 0} (P : A → Type 0) where
  pub all_found : (test : A → Bool) (xs : List A) → AllByRecursion P xs → IfSome (find test xs) P
  all_found test [] h = tt
  all_found test (x ∷ xs) h = by (test x) (all_found test xs h.1)
    where
      by : (b : Bool) → IfSome (find test xs) P → IfSome (cond b (Some x) (find test xs)) P
      by true later = h.0
      by false later = later

  pub all_reversed : (xs : List A) → AllByRecursion P xs → AllByRecursion P (reverse xs)
  all_reversed [] h = tt
  all_reversed (x ∷ xs) h = subst (AllByRecursion P) (sym (reverse-append (x ∷ []) xs)) (every-append P (reverse xs) (x ∷ []) (all_reversed xs h.1) (h.0, tt))

  pub all_found_last : (test : A → Bool) (xs : List A) → AllByRecursion P xs → IfSome (find_last test xs) P
  all_found_last test xs h = all_found test (reverse xs) (all_reversed xs h)

  pub all_found_before : (ends test : A → Bool) (xs : List A) → AllByRecursion P xs → IfSome (find_before ends test xs) P
  all_found_before ends test [] h = tt
  all_found_before ends test (x ∷ xs) h = by (ends x) (test x) (all_found_before ends test xs h.1)
    where
      by : (b c : Bool) → IfSome (find_before ends test xs) P → IfSome (if b then None else (if c then Some x else find_before ends test xs)) P
      by true c later = tt
      by false true later = h.0
      by false false later = later

  pub all_first : (xs : List A) → AllByRecursion P xs → IfSome (first xs) P
  all_first [] h = tt
  all_first (x ∷ xs) h = h.0

  pub all_last : (xs : List A) → AllByRecursion P xs → IfSome (last xs) P
  all_last xs h = all_first (reverse xs) (all_reversed xs h)

  pub all_only : (xs : List A) → AllByRecursion P xs → IfSome (only xs) P
  all_only [] h = tt
  all_only (x ∷ []) h = h.0
  all_only (x ∷ y ∷ xs) h = tt

  pub all_there : (xs : List A) (i : ℕ) → AllByRecursion P xs → IfSome (slice_get xs i) P
  all_there [] i h = tt
  all_there (x ∷ xs) zero h = h.0
  all_there (x ∷ xs) (suc i) h = all_there xs i h.1

  pub all_taken : (n : ℕ) (xs : List A) → AllByRecursion P xs → AllByRecursion P (take n xs)
  all_taken zero xs h = tt
  all_taken (suc n) [] h = tt
  all_taken (suc n) (x ∷ xs) h = (h.0, all_taken n xs h.1)

  pub all_dropped : (n : ℕ) (xs : List A) → AllByRecursion P xs → AllByRecursion P (drop n xs)
  all_dropped zero xs h = h
  all_dropped (suc n) [] h = tt
  all_dropped (suc n) (x ∷ xs) h = all_dropped n xs h.1

  pub all_neighbours : (xs : List A) → AllByRecursion P xs → AllByRecursion (λ (pair : A × A). P pair.0 × P pair.1) (neighbours xs)
  all_neighbours [] h = tt
  all_neighbours (x ∷ []) h = tt
  all_neighbours (x ∷ y ∷ xs) h = ((h.0, h.1.0), all_neighbours (y ∷ xs) h.1)

pub all_mapped : {A B : Type 0} (P : A → Type 0) (Q : B → Type 0) (f : A → Option B) (xs : List A) → ((x : A) → P x → IfSome (f x) Q) → AllByRecursion P xs → AllByRecursion Q (filter_map f xs)
all_mapped P Q f [] since h = tt
all_mapped P Q f (x ∷ xs) since h = by (f x) (since x h.0) (all_mapped P Q f xs since h.1)
  where
    by : (o : Option _) → IfSome o Q → AllByRecursion Q (filter_map f xs) → AllByRecursion Q (cons_option o (filter_map f xs))
    by None k later = later
    by (Some y) k later = (k, later)

pub all_flat : {A B : Type 0} (P : A → Type 0) (Q : B → Type 0) (f : A → List B) (xs : List A) → ((x : A) → P x → AllByRecursion Q (f x)) → AllByRecursion P xs → AllByRecursion Q (flat_map f xs)
all_flat P Q f [] since h = tt
all_flat P Q f (x ∷ xs) since h = every-append Q (f x) (flat_map f xs) (since x h.0) (all_flat P Q f xs since h.1)

-- ---- rows

abbrev pub Fine : Diagnostic → Type 0
Fine = IsTellableDiagnostic

abbrev pub AllFine : List Diagnostic → Type 0
AllFine = AllByRecursion IsTellableDiagnostic

pub one : (d : Diagnostic) → Fine d → AllFine (d ∷ [])
one d h = (h, tt)

pub row : (b : Bool) (d : Diagnostic) → Fine d → AllFine (row_if b d)
row true d h = (h, tt)
row false d h = tt

pub rows : (b : Bool) (ds : List Diagnostic) → AllFine ds → AllFine (rows_if b ds)
rows true ds h = h
rows false ds h = tt

pub choice : (b : Bool) (ds es : List Diagnostic) → AllFine ds → AllFine es → AllFine (if b then ds else es)
choice true ds es h k = h
choice false ds es h k = k

pub pick : (b : Bool) (d e : Diagnostic) → Fine d → Fine e → Fine (if b then d else e)
pick true d e h k = h
pick false d e h k = k

pub both : (ds es : List Diagnostic) → AllFine ds → AllFine es → AllFine (ds ++ es)
both ds es h k = every-append IsTellableDiagnostic ds es h k

module _ {A : Type 0} (P : A → Type 0) where
  pub some : (f : A → List Diagnostic) (o : Option A) → IfSome o P → ((x : A) → P x → AllFine (f x)) → AllFine (rows_of_some f o)
  some f None h k = tt
  some f (Some x) h k = k x h

  pub each : (f : A → List Diagnostic) (xs : List A) → AllByRecursion P xs → ((x : A) → P x → AllFine (f x)) → AllFine (flat_map f xs)
  each f xs h k = all_flat P IsTellableDiagnostic f xs k h

  pub after : (f : List A → A → List Diagnostic) (earlier xs : List A) → AllByRecursion P earlier → AllByRecursion P xs → ((before : List A) (x : A) → AllByRecursion P before → P x → AllFine (f before x)) → AllFine (each_after f earlier xs)
  after f earlier [] h k l = tt
  after f earlier (x ∷ xs) h k l = both (f earlier x) (each_after f (earlier ++ x ∷ []) xs) (l earlier x h k.0) (after f (earlier ++ x ∷ []) xs (every-append P earlier (x ∷ []) h (k.0, tt)) k.1 l)

  pub between : (f : Option A → A → Option A → List Diagnostic) (before : Option A) (xs : List A) → AllByRecursion P xs → ((o : Option A) (x : A) (q : Option A) → P x → AllFine (f o x q)) → AllFine (each_between f before xs)
  between f before [] h k = tt
  between f before (x ∷ xs) h k = both (f before x (first xs)) (each_between f (Some x) xs) (k before x (first xs) h.0) (between f (Some x) xs h.1 k)

-- ---- codes

-- a byte of ASCII that stands in no gap
abbrev plain_byte : ℕ → Bool
plain_byte byte = nat_lt byte 128 && no_gap byte

abbrev all_plain : List ℕ → Bool
all_plain [] = true
all_plain (byte ∷ rest) = plain_byte byte && all_plain rest

-- no dash, since it is longer
abbrev is_long : List ℕ → Bool
is_long (a ∷ b ∷ rest) = true
is_long other = false

as_bytes : (text : List ℕ) → all_plain text ≡ true → encode_utf8_all text ≡ text
as_bytes [] h = refl
as_bytes (byte ∷ rest) h =
    let parts = and_parts (plain_byte byte) (all_plain rest) h in
    let small : byte < 128 = ltb-true byte 128 (and_parts (nat_lt byte 128) (no_gap byte) parts.0).0 in
    rw (encode_ascii byte small, as_bytes rest parts.1) refl

no_gaps : (text : List ℕ) → all_plain text ≡ true → AllByRecursion (λ byte. no_gap byte ≡ true) text
no_gaps [] h = tt
no_gaps (byte ∷ rest) h = let parts = and_parts (plain_byte byte) (all_plain rest) h in ((and_parts (nat_lt byte 128) (no_gap byte) parts.0).1, no_gaps rest parts.1)

no_dash : (text : List ℕ) → is_long text ≡ true → text ≡ codes "-" → ⊥
no_dash [] h e = absurd cc
no_dash (a ∷ []) h e = absurd cc
no_dash (a ∷ b ∷ rest) h e = absurd cc

pub plain_word : (text : List ℕ) → all_plain text ≡ true → is_long text ≡ true → IsPlainWord text
plain_word text h k = record {
  no_gaps = subst (AllByRecursion (λ byte. no_gap byte ≡ true)) (sym (as_bytes text h)) (no_gaps text h);
  no_dash = λ e. no_dash text k (sym (as_bytes text h) ∙ e);
}
