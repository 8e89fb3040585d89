use Rattle.std.proofs.Common.{◌≡◌, ◌<◌, ◌==◌, true, false, nat_eq, Some, length, sym, ap, ◌∙◌, arith, option_map}
use Rattle.std.specs.Map.{lookup, set_value}
use Rattle.std.specs.Vec.{vec_len}
use Rattle.std.proofs.lemmas.Bool.{eqb-true, eqb-false}
use Rattle.indexmap.specs.IndexMap.{shift_remove_entry, swap_remove_by}
use Rattle.scoping_rows.proofs.Entries.{by_value, lookup-by_value}
use Rattle.scoping_rows.proofs.Keeping.{delisted_none, delisted_empty, delisted_more, set_value-by_value, remove-by_value, remove-set_value}
use Rattle.scoping_rows.proofs.free_table.FreeTable.remove.Goals.{in-Some-1, in-None-1}
use Rattle.scoping_rows.proofs.free_table.FreeTable.remove.Goals as goal

pub returns-in-None : goal.returns-in-None
returns-in-None c =
    let test = nat_eq c.args.number in
    let es = c.self.inside.lists.entries in
    let none = lookup-by_value (λ v. v.items) test es ∙ ap (option_map (λ v. v.items)) (sym c.in-None.ensures.value) in
    rw (← c.self.view_is, c.get_mut.follows.holds-at-none) (sym (delisted_none test c.args.reference (by_value (λ v. v.items) es) none))

pub returns-then-is_empty : goal.returns-then-is_empty
returns-then-is_empty c =
    let test = nat_eq c.args.number in
    let es = c.self.inside.lists.entries in
    let bs = by_value (λ v. v.items) es in
    let written = (c.get_mut.follows.holds c.take_out.new.references).0 in
    let there : lookup test bs ≡ Some c.in-Some.list.now.items = lookup-by_value (λ v. v.items) test es ∙ ap (option_map (λ v. v.items)) (sym c.in-Some.ensures.value) in
    let told : (vec_len c.take_out.new.references == 0) ≡ true = sym c.is_empty.ensures ∙ c.if-is_empty.true in
    let empty : length c.take_out.new.references.items ≡ 0 = let e = eqb-true (vec_len c.take_out.new.references) 0 told in omega (arith, e) in
    let none : length (swap_remove_by (nat_eq c.args.reference) c.in-Some.list.now.items) ≡ 0 = ap length (sym c.take_out.ensures) ∙ empty in
    let gone = ap (by_value (λ v. v.items)) (c.shift_remove-list.ensures.entries ∙ ap (shift_remove_entry test) written ∙ remove-set_value test c.take_out.new.references es)
    ∙ remove-by_value (λ v. v.items) test es
    ∙ sym (delisted_empty test c.args.reference bs c.in-Some.list.now.items there none) in
    elim c.match-list.branch [
      | in-Some-1 w ↦ rw (w.self-is, ← c.self.view_is) gone
      | in-None-1 w ↦ rw (w.self-is, ← c.self.view_is) gone
    ]

pub returns-else-is_empty : goal.returns-else-is_empty
returns-else-is_empty c =
    let test = nat_eq c.args.number in
    let es = c.self.inside.lists.entries in
    let bs = by_value (λ v. v.items) es in
    let written = (c.get_mut.follows.holds c.take_out.new.references).0 in
    let there : lookup test bs ≡ Some c.in-Some.list.now.items = lookup-by_value (λ v. v.items) test es ∙ ap (option_map (λ v. v.items)) (sym c.in-Some.ensures.value) in
    let told : (vec_len c.take_out.new.references == 0) ≡ false = sym c.is_empty.ensures ∙ c.if-is_empty.false in
    let differs = eqb-false (vec_len c.take_out.new.references) 0 told in
    let held : 0 < length c.take_out.new.references.items = omega (arith, differs) in
    let some : 0 < length (swap_remove_by (nat_eq c.args.reference) c.in-Some.list.now.items) = rw (← c.take_out.ensures) held in
    rw (← c.self.view_is)
    (ap (by_value (λ v. v.items)) written
    ∙ set_value-by_value (λ v. v.items) test es c.take_out.new.references
    ∙ sym (delisted_more test c.args.reference bs c.in-Some.list.now.items there some ∙ ap (set_value test bs) (sym c.take_out.ensures)))
