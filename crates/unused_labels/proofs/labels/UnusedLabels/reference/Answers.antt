use Rattle.std.proofs.Common.{◌≡◌, Some, None, map, sym, ap, ◌∙◌, arith}
use Rattle.std.specs.Str.{chars}
use Rattle.unused_labels.specs.OpenNames.{names_around, last_place}
use Rattle.unused_labels.specs.LabelStack.{label_seen}
use Rattle.unused_labels.proofs.Innermost.{lists, unmoved, moved, last_none, last_is, names_stay}
use Rattle.unused_labels.proofs.labels.UnusedLabels.reference.Goals as goal

pub index_mut-requires : goal.index_mut-requires
index_mut-requires c =
    let was = c.args.self.now in
    let name = chars c.args.name.text.now in
    let there : last_place name (names_around was.stack.items) ≡ Some c.in-Some.place = ap (last_place name) (sym was.named) ∙ sym c.in-Some.ensures in
    let within = (last_is name was.stack.items c.in-Some.place there).within in
    omega (arith, within)

pub invariant_of-self : goal.invariant_of-self
invariant_of-self c =
    let was = c.args.self.now in
    let name = chars c.args.name.text.now in
    let there : last_place name (names_around was.stack.items) ≡ Some c.in-Some.place = ap (last_place name) (sym was.named) ∙ sym c.in-Some.ensures in
    let within = (last_is name was.stack.items c.in-Some.place there).within in
    record { named = was.named ∙ sym (names_stay was.stack.items c.in-Some.place c.index_mut.result.now within c.index_mut.ensures.value) }

pub returns-in-Some : goal.returns-in-Some
returns-in-Some c =
    let was = c.args.self.now in
    let name = chars c.args.name.text.now in
    let there : last_place name (names_around was.stack.items) ≡ Some c.in-Some.place = ap (last_place name) (sym was.named) ∙ sym c.in-Some.ensures in
    let last = last_is name was.stack.items c.in-Some.place there in
    let used = c.index_mut.result.now in
    ap (λ ls. lists ls was.labels.items) (moved name was.stack.items c.in-Some.place used last.within c.index_mut.ensures.value (last.named used c.index_mut.ensures.value) last.none)

pub returns-in_default : goal.returns-in_default
returns-in_default c =
    let was = c.args.self.now in
    let name = chars c.args.name.text.now in
    let none : last_place name (names_around was.stack.items) ≡ None = ap (last_place name) (sym was.named) ∙ sym c.in_default.ensures in
    ap (λ ls. lists ls was.labels.items) (sym (unmoved name (map label_seen was.stack.items) (last_none name was.stack.items none)))
