use Rattle.std.proofs.Common.{◌+◌, ap, sym, ◌∙◌, subst}
use Rattle.std.specs.Str.{chars}
use Rattle.semantic_kinds.specs.declared.role.Role.TheVariants.{Root}
use Rattle.semantic_tree.specs.Children.{node_count, single}
use Rattle.semantic_tree.specs.KindCounts.{kind_count}
use Rattle.semantic_tree.specs.Tree.{Tree, IsNumbered}
use Rattle.semantic_tree.specs.Faults.{first_fault}
use Rattle.semantic_tree.specs.Renamed.{swap, setting_below}
use Rattle.semantic_tree.specs.declared.swap.Setting.TheVariants.{Elsewhere}
use Rattle.semantic_tree.proofs.SomeCharacters.{has_chars}
use Rattle.semantic_tree.proofs.RenamedKinds.{KeepsEmpty, swap_keeps_empty}
use Rattle.semantic_tree.proofs.RenamedShape.{count-renamed, numbers_kept, faults_kept}
use Rattle.semantic_tree.proofs.KindCounting.{kinds-renamed}
use Rattle.semantic_tree.proofs.program.Program.swap_names.Goals as goal

pub invariant_of-result : goal.invariant_of-result
invariant_of-result c =
    let a = c.args.a.now in
    let b = c.args.b.now in
    let f = swap (chars a) (chars b) in
    let keeps : KeepsEmpty f = swap_keeps_empty (chars a) (chars b) (has_chars a c.utf8.a c.requires.a) (has_chars b c.utf8.b c.requires.b) in
    let before = c.self.inside in
    let p : Tree = record { source = before.source; source_type = before.source_type; comments = before.comments.items; root = before.root } in
    let source = c.in_ok-new.ensures ∙ c.as_str.ensures.chars in
    let comments = c.in_ok-from_slice.ensures.items ∙ c.as_slice.ensures.value in
    let root = c.in_ok-swapped.ensures in (
      subst IsNumbered (sym root) (numbers_kept f Elsewhere Root before.root c.self.invariant.0),
      (λ i. first_fault (record { source = source i; source_type = before.source_type; comments = comments i; root = root i })) ∙ faults_kept f keeps p ∙ c.self.invariant.1,
      c.self.invariant.2 ∙ sym (ap node_count root ∙ ap (λ n. n + 1) (count-renamed f (setting_below Elsewhere Root before.root.kind) before.root.children)),
      λ k. c.self.invariant.3 k ∙ sym (ap (λ n. kind_count k (single Root n)) root ∙ kinds-renamed k f Elsewhere (single Root before.root)),
    )
