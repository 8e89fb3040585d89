use Rattle.std.proofs.Common.{◌≡◌, ◌<◌, ◌≤◌, Some, None, not, length, nat_eq, sym, ap, ◌∙◌, arith}
use Rattle.std.specs.Map.{lookup}
use Rattle.check_context.proofs.FreeReferences.{free_there, free_past, free_none}
use Rattle.check_context.proofs.context.CheckContext.is_free.Goals as goal

pub returns-in-Some : goal.returns-in-Some
returns-in-Some c =
    let nodes = c.args.self.now.tables.now in
    let t = c.args.self.now.scoping.now in
    let is : lookup (nat_eq c.args.ident.node.now.node_id) nodes.references ≡ Some c.in-Some.reference =
    sym (c.in-Some.ensures ∙ ap (λ n. lookup (nat_eq n) nodes.references) c.node_id.ensures) in
    let within : c.in-Some.reference < length t.references = omega (arith, c.if-index-references_len.true, c.index.ensures, c.references_len.ensures.count) in
    ap not c.has_binding.ensures ∙ sym (free_there nodes t c.args.ident.node.now.node_id c.attest.ensures.references c.in-Some.reference is within)

pub returns-in_default : goal.returns-in_default
returns-in_default c =
    let nodes = c.args.self.now.tables.now in
    let t = c.args.self.now.scoping.now in
    let is : lookup (nat_eq c.args.ident.node.now.node_id) nodes.references ≡ Some c.in-Some.reference =
    sym (c.in-Some.ensures ∙ ap (λ n. lookup (nat_eq n) nodes.references) c.node_id.ensures) in
    let past : length t.references ≤ c.in-Some.reference = omega (arith, c.if-index-references_len.false, c.index.ensures, c.references_len.ensures.count) in
    sym (free_past nodes t c.args.ident.node.now.node_id c.attest.ensures.references c.in-Some.reference is past)

pub returns-in_default-2 : goal.returns-in_default-2
returns-in_default-2 c =
    let nodes = c.args.self.now.tables.now in
    let t = c.args.self.now.scoping.now in
    let is : lookup (nat_eq c.args.ident.node.now.node_id) nodes.references ≡ None =
    sym (c.in_default.ensures ∙ ap (λ n. lookup (nat_eq n) nodes.references) c.node_id.ensures) in
    sym (free_none nodes t c.args.ident.node.now.node_id c.attest.ensures.references is)
