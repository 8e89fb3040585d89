use Rattle.mangler.proofs.SeenSets.{if_ok}
use Rattle.mangler_program.proofs.program.mangled_text.Goals as goal

pub returns : goal.returns
returns c =
    if_ok c.write_program-text.result
    (λ text told. record { program = c.in_ok-mangled.mangled.program; names = c.in_ok-mangled.mangled.names; is_mangled = c.in_ok-mangled.ensures.mangled; length = c.in_ok-mangled.ensures.length; told = told })
    c.write_program-text.ensures.text
