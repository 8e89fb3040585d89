-- How a forest is stored: as a tree of numbers.
use Rattle.std.specs.Prelude.{◌≡◌, ℕ, List, refl}
use Rattle.std.proofs.Common.{ap, subst, sym}
use base.Stored.{Gv, gnil, gnum, gcons, Coded, coded_ℕ, coded_list, coded×}
use Rattle.semantic_syntax.specs.declared.spans.Span.{Span}
use Rattle.semantic_syntax.specs.contracts.spans.Span.{the_row as span_row}
use Rattle.semantic_kinds.specs.declared.kind.AstType.{AstType}
use Rattle.semantic_kinds.specs.contracts.kind.AstType.{the_row as kind_row}
use Rattle.semantic_kinds.specs.declared.role.Role.{Role}
use Rattle.semantic_kinds.specs.contracts.role.Role.{the_row as role_row}
use Rattle.semantic_kinds.specs.declared.marks.Marks.{Marks}
use Rattle.semantic_kinds.specs.contracts.marks.Marks.{the_row as marks_row}
use Rattle.semantic_tree.specs.Forest.{Forest, nothing, tree}

abbrev Facts : Type 0
Facts = Role × (AstType × (Span × (List ℕ × (Marks × ℕ))))

abbrev facts_code : Coded Facts
facts_code =
    coded× role_row.coded (coded× kind_row.coded (coded× span_row.coded (coded× (coded_list coded_ℕ) (coded× marks_row.coded coded_ℕ))))

abbrev code : Forest → Gv
code nothing = gnil
code (tree role kind span text marks below id after) =
    gcons (facts_code.code (role, (kind, (span, (text, (marks, id)))))) (gcons (code below) (code after))

abbrev head : Gv → Gv
head gnil = gnil
head (gnum n) = gnil
head (gcons a b) = a

abbrev tail : Gv → Gv
tail gnil = gnil
tail (gnum n) = gnil
tail (gcons a b) = b

abbrev IsCons : Gv → Type 0
IsCons gnil = ⊥
IsCons (gnum n) = ⊥
IsCons (gcons a b) = Unit {0}

pub code_inj : (x y : Forest) → code x ≡ code y → x ≡ y
code_inj nothing nothing p = refl
code_inj nothing (tree role kind span text marks below id after) p = absurd (subst IsCons (sym p) tt)
code_inj (tree role kind span text marks below id after) nothing p = absurd (subst IsCons p tt)
code_inj (tree role kind span text marks below id after) (tree role' kind' span' text' marks' below' id' after') p =
    let facts : ◌≡◌ {A = Facts} (role, (kind, (span, (text, (marks, id))))) (role', (kind', (span', (text', (marks', id'))))) =
    facts_code.inj (role, (kind, (span, (text, (marks, id))))) (role', (kind', (span', (text', (marks', id'))))) (ap head p) in
    let same_below : below ≡ below' = code_inj below below' (ap (λ g. head (tail g)) p) in
    let same_after : after ≡ after' = code_inj after after' (ap (λ g. tail (tail g)) p) in
    λ i. tree (facts i).0 (facts i).1.0 (facts i).1.1.0 (facts i).1.1.1.0 (facts i).1.1.1.1.0 (same_below i) (facts i).1.1.1.1.1 (same_after i)

abbrev pub forest_code : Coded Forest
forest_code = record { code = code; inj = code_inj }
