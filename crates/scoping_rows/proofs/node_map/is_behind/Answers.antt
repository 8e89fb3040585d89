use Rattle.std.proofs.Common.{sym, ap, ◌∙◌, option_copied, arith}
use Rattle.std.proofs.lemmas.Bool.Decides.{nat_tests}
use Rattle.scoping_rows.proofs.Rising.{all_before}
use Rattle.scoping_rows.proofs.node_map.is_behind.Goals as goal

pub returns-in-Some : goal.returns-in-Some
returns-in-Some g c less =
    let last = sym c.last.ensures.value ∙ ap option_copied c.in-Some.is in
    all_before c.args.entries.now c.requires c.args.node c.in-Some.last.now last (grind (arith, nat_tests, less, c.lt.ensures))
