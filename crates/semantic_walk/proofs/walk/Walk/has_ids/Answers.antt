use Rattle.std.proofs.Common.{◌≡◌, ◌-◌, length, ap, sym, ◌∙◌, arith}
use Rattle.semantic_syntax.specs.Tables.{Tables}
use Rattle.semantic_tree.specs.Children.{node_count}
use Rattle.semantic_tree.specs.Limits.{room_left}
use Rattle.semantic_tree.specs.declared.node.Node.{Node}
use Rattle.semantic_walk.specs.Walker.{Walker}
use Rattle.semantic_walk.proofs.RoomAt.{ids_left}
use Rattle.semantic_walk.proofs.walk.Walk.has_ids.Goals as goal

pub returns-clause-ids : goal.returns-clause-ids
returns-clause-ids c = λ some.
    let w = c.args.self.now in
    let made = c.symbols_len-symbols.result in
    let count : made ≡ length w.made.tables.symbols = c.symbols_len-symbols.ensures.count ∙ ap (λ (t : Tables). length t.symbols) c.scoping.ensures ∙ ap (λ (v : Walker). length v.made.tables.symbols) c.self.view_is in
    let left : c.room_after.result ≡ room_left (4294967295 - made) (node_count c.args.kind.node.now) = c.room_after.ensures ∙ ap (λ (x : Node). room_left (4294967295 - made) (node_count x)) c.node.ensures in
    ids_left w c.args.kind.node.now (4294967295 - made) c.room_after.result left (sym c.is_some.ensures ∙ some) (omega (arith, count, c.symbols_len-symbols.ensures.fits))
