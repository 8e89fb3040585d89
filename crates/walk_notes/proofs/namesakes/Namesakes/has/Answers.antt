use Rattle.std.proofs.Common.{◌≡◌, ℕ, List, false, map, sym, subst, ◌∙◌}
use Rattle.std.specs.Str.{chars}
use Rattle.semantic_syntax.specs.Tables.{Name}
use Rattle.walk_model.specs.WrittenNames.{WrittenName, is_written}
use Rattle.walk_notes.specs.WrittenNames.{written_of}
use Rattle.walk_notes.proofs.Adding.{any-map, absent-unknown, same-numbered}
use Rattle.walk_notes.proofs.namesakes.Namesakes.has.Goals as goal

pub returns-in-Some : goal.returns-in-Some
returns-in-Some c =
    let name : Name = chars c.args.name.text.now in
    let names : List Name = c.self.inside.names in
    let keys = c.self.inside.written.keys in
    let held : c.contains.result ≡ is_written (map (written_of names) keys) c.index.result name =
    c.contains.ensures ∙ same-numbered names keys c.index.result c.in-Some.number name c.self.invariant c.in-Some.ensures ∙ sym (any-map names keys c.index.result name) in
    subst (λ (v : List WrittenName). c.contains.result ≡ is_written v c.args.opener name) c.self.view_is
    (subst (λ (o : ℕ). c.contains.result ≡ is_written (map (written_of names) keys) o name) c.index.ensures held)

pub returns-in-None : goal.returns-in-None
returns-in-None c =
    let name : Name = chars c.args.name.text.now in
    let names : List Name = c.self.inside.names in
    let keys = c.self.inside.written.keys in
    subst (λ (v : List WrittenName). false ≡ is_written v c.args.opener name) c.self.view_is
    (sym (any-map names keys c.args.opener name ∙ absent-unknown names keys c.args.opener name c.self.invariant c.in-None.ensures))
