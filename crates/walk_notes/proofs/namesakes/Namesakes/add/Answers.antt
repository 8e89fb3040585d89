use Rattle.std.proofs.Common.{ℕ, List, [], ◌∷◌, map, subst}
use Rattle.std.specs.Str.{chars}
use Rattle.semantic_syntax.specs.Tables.{Name}
use Rattle.walk_model.specs.WrittenNames.{WrittenName}
use Rattle.walk_notes.specs.WrittenNames.{Adds, written_of}
use Rattle.walk_notes.proofs.Adding.{adds-one, numbered-one}
use Rattle.walk_notes.proofs.namesakes.Namesakes.add.Goals as goal

pub invariant_of-self-2 : goal.invariant_of-self-2
invariant_of-self-2 c =
    numbered-one c.self.inside.names c.intern.new.self (chars c.args.name.text.now) c.index.result c.in_ok-number.number c.self.inside.written.keys c.insert.new.self.keys c.in_ok-insert.field-0
    c.self.invariant c.in_ok-number.ensures.ok c.in_ok-insert.ensures.keys

pub returns : goal.returns
returns c =
    let name : Name = chars c.args.name.text.now in
    let old : List WrittenName = map (written_of c.self.inside.names) c.self.inside.written.keys in
    let now : List WrittenName = map (written_of c.intern.new.self) c.insert.new.self.keys in
    let one : Adds old now (record { opener = c.index.result; name = name } ∷ []) =
    adds-one c.self.inside.names c.intern.new.self name c.index.result c.in_ok-number.number c.self.inside.written.keys c.insert.new.self.keys c.in_ok-insert.field-0
    c.self.invariant c.in_ok-number.ensures.ok c.in_ok-insert.ensures.added c.in_ok-insert.ensures.keys in
    subst (λ (v : List WrittenName). Adds v now (record { opener = c.args.opener; name = name } ∷ [])) c.self.view_is
    (subst (λ (o : ℕ). Adds old now (record { opener = o; name = name } ∷ [])) c.index.ensures one)
