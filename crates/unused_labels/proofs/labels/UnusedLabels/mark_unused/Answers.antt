use Rattle.std.proofs.Common.{◌≡◌, ◌-◌, [], ◌∷◌, ◌++◌, Some, None, cond, length, take, slice_get, sym, ap, vec_len, arith, rules, ◌∙◌}
use Rattle.std.specs.Option.{option_copied}
use Rattle.unused_labels.proofs.Innermost.{parted}
use Rattle.unused_labels.proofs.labels.UnusedLabels.mark_unused.Goals.{in-Some+then-not-label+in_ok-push, in-Some+else-not-label, in_default}
use Rattle.unused_labels.proofs.labels.UnusedLabels.mark_unused.Goals as goal

pub returns-clause-ok : goal.returns-clause-ok
returns-clause-ok c =
    let was = c.args.self.now in
    let seen = c.last.ensures.value ∙ ap (λ xs. slice_get xs (length xs - 1)) c.deref.ensures.value in
    let count : vec_len c.match-last.self.1.0 ≡ length c.match-last.self.1.0.items = omega arith in
    let rest = c.pop-left.ensures.rest ∙ ap (λ n. take (n - 1) c.match-last.self.1.0.items) count in
    elim c.match-last.branch [
      | in-Some+then-not-label+in_ok-push w ↦
          parted was.stack.items _ (Some w.in-Some.label.now) was.labels.items _
          (rest ∙ ap (λ xs. take (length xs - 1) xs) (ap (λ s. s.1.0.items) w.self-is))
          (ap option_copied (sym w.in-Some.is) ∙ seen)
          (ap (λ s. s.1.1.0.items) w.self-is ∙ w.in_ok-push.ensures.items ∙ ap (λ b. was.labels.items ++ cond b [] (w.in-Some.label.now.node_id ∷ [])) (sym w.if-not-label.true))
      | in-Some+else-not-label w ↦
          parted was.stack.items _ (Some w.in-Some.label.now) was.labels.items _
          (rest ∙ ap (λ xs. take (length xs - 1) xs) (ap (λ s. s.1.0.items) w.self-is))
          (ap option_copied (sym w.in-Some.is) ∙ seen)
          (ap (λ s. s.1.1.0.items) w.self-is ∙ search rules)
      | in_default w ↦
          parted was.stack.items _ None was.labels.items _
          (rest ∙ ap (λ xs. take (length xs - 1) xs) (ap (λ s. s.1.0.items) w.self-is))
          (ap option_copied (sym w.in_default.is) ∙ seen)
          (ap (λ s. s.1.1.0.items) w.self-is ∙ search rules)
    ]
