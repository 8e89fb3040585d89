use Rattle.std.proofs.Common.{rules, ◌==◌, not, length}
use Rattle.scoping_rows.specs.Kept.{without_type_uses}
use Rattle.scoping_rows.proofs.Keeping.{kept_changed}
use Rattle.scoping_rows.proofs.free_table.FreeTable.retain_values.Goals as goal

pub returns : goal.returns
returns c = rw (← c.self.view_is)
    (kept_changed _ (λ v. v.items) (without_type_uses c.args.references.now) (λ rs. not (length rs == 0)) _
    (λ k v b w f' t. (search rules, search rules, search rules)) c.self.inside.lists.entries c.retain.new.self.entries c.retain.ensures.filtered)
