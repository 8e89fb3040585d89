use Rattle.std.proofs.Common.{ℕ, ◌<◌, ◌==◌, not, length, map, refl, sym, ap, ◌∙◌}
use Rattle.std.specs.List.{AllByRecursion}
use Rattle.std.proofs.lemmas.List.{length-map}
use Rattle.scoping_rows.specs.Kept.{stays, rows_without_types, without_type_uses, is_used_by_value, lists_without_types}
use Rattle.scoping_rows.specs.Names.{named}
use Rattle.scoping.specs.View.{IsBoundWithin, IsListedWithin}
use Rattle.scoping.proofs.Keeping.{every-filter, every-map}
use Rattle.scoping_rows.proofs.Rows.{rows}
use Rattle.scoping.proofs.Shown.{tables_eq, sound_bindings, sound_uses, sound_free}
use Rattle.scoping.proofs.Typeless.{shown_typeless, shown_lists}
use Rattle.scoping.proofs.scoping.Scoping.delete_typescript_bindings.Goals as goal

pub invariant_of-self : goal.invariant_of-self
invariant_of-self c =
    let a = c.self.inside in
    let sound = c.self.invariant in
    let ys = c.deref.result.now in
    let uses_of_values = without_type_uses c.deref-2.result.now in
    let free_of_values = without_type_uses c.deref-3.result.now in
    let known : ℕ → Type 0 = λ r. r < length a.references.items in
    let pair = IsBoundWithin (length a.names) (length a.symbols.items) in
    let listed = IsListedWithin (length a.names) (length a.references.items) in
    let after = c.retain_values_in_each.new.lists.items in
    let lists = sound_free a sound c.retain_values-2.new.self
    (rw c.retain_values-2.ensures (every-filter listed (λ e. not (length e.1 == 0)) _
    (every-map listed listed (λ e. (e.0, free_of_values e.1)) (λ e h. (h.0, every-filter known (is_used_by_value c.deref-3.result.now) e.1 h.1)) a.free sound.free))) in
    let used = sound_uses _ lists c.retain_values_in_each.new.lists
    (sym (length-map after (λ v. v.items)) ∙ ap length c.retain_values_in_each.ensures ∙ length-map (rows a.uses.items) uses_of_values ∙ length-map a.uses.items (λ v. v.items))
    (rw c.retain_values_in_each.ensures (every-map (AllByRecursion known) (AllByRecursion known) uses_of_values (λ rs h. every-filter known (is_used_by_value c.deref-2.result.now) rs h) (rows a.uses.items) sound.uses)) in
    sound_bindings _ used _
    (ap length c.retain_values.ensures ∙ length-map a.bindings (rows_without_types ys))
    (rw c.retain_values.ensures (every-map (AllByRecursion pair) (AllByRecursion pair) (rows_without_types ys) (λ b h. every-filter pair (λ e. stays ys e.1) b h) a.bindings sound.bound))

pub returns : goal.returns
returns c =
    let a = c.self.inside in
    rw (← c.self.view_is)
    (tables_eq _ _ refl
    (ap (map (named a.names)) (c.retain_values.ensures ∙ ap (λ ys. map (rows_without_types ys) a.bindings) c.deref.ensures.value) ∙ shown_typeless a.names a.symbols.items a.bindings)
    refl refl
    (c.retain_values_in_each.ensures ∙ ap (λ rs. map (without_type_uses rs) (rows a.uses.items)) c.deref-2.ensures.value)
    (ap (named a.names) (c.retain_values-2.ensures ∙ ap (λ rs. lists_without_types rs a.free) c.deref-3.ensures.value) ∙ shown_lists a.names a.references.items a.free)
    refl)
