use Rattle.std.proofs.Common.{◌≡◌, ℕ, Bool, true, false, ◌||◌, sym, ap, ◌∙◌}
use Rattle.semantic_model.specs.Analysis.{symbol_at, tied_at}
use Rattle.mangle_model.specs.OneNameEach.{is_such}
use Rattle.simple_names.specs.Telling.{may_by, told_by}
use Rattle.simple_names.proofs.known.bears_such.Goals as goal

pub returns-then-is_such : goal.returns-then-is_such
returns-then-is_such c =
    let may : ℕ → Bool = may_by c.args.known.now in
    let own : is_such may (symbol_at (told_by c.args.known.now) c.args.node) ≡ true = ap (is_such may) (sym (c.symbol_at.ensures c.args.known.now.scoping.now)) ∙ sym c.is_such.ensures ∙ c.if-is_such.true in
    c.if-is_such.true ∙ sym (ap (λ b. b || is_such may (tied_at (told_by c.args.known.now) c.args.node)) own)

pub returns-else-is_such : goal.returns-else-is_such
returns-else-is_such c =
    let may : ℕ → Bool = may_by c.args.known.now in
    let own : is_such may (symbol_at (told_by c.args.known.now) c.args.node) ≡ false = ap (is_such may) (sym (c.symbol_at.ensures c.args.known.now.scoping.now)) ∙ sym c.is_such.ensures ∙ c.if-is_such.false in
    c.is_such-else-is_such.ensures ∙ ap (is_such may) c.tied_at.ensures ∙ sym (ap (λ b. b || is_such may (tied_at (told_by c.args.known.now) c.args.node)) own)
