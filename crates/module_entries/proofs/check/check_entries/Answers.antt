use Rattle.std.proofs.Common.{map}
use Rattle.tree_json.specs.Views.{characters}
use Rattle.link_model.specs.Refusal.{first_repeated, first_unknown}
use Rattle.module_entries.specs.Seen.{exports_seen, stars_seen}
use Rattle.module_entries.proofs.Causes.{checks_first, checks_later}
use Rattle.module_entries.proofs.check.check_entries.Goals as goal

pub returns-in_err-check_exports : goal.returns-in_err-check_exports
returns-in_err-check_exports c =
    checks_first (first_repeated 0 (map exports_seen c.args.entries.now)) (first_unknown (map characters c.args.names.now.keys) 0 (map stars_seen c.args.entries.now))
    c.from_residual.result _ c.from_residual.ensures.1 c.in_err-check_exports.ensures

pub returns : goal.returns
returns c =
    checks_later (first_repeated 0 (map exports_seen c.args.entries.now)) (first_unknown (map characters c.args.names.now.keys) 0 (map stars_seen c.args.entries.now))
    c.check_stars.result c.in_ok-check_exports.ensures c.check_stars.ensures
