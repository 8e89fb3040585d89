use Rattle.std.proofs.Common.{Option, IfSome, subst}
use Rattle.mangler.specs.Alikes.{IsMangling}
use Rattle.mangler.specs.declared.mangling.Mangled.{Mangled}
use Rattle.mangler.proofs.ShortManglings.{if_shorter, simple_short}
use Rattle.mangler.proofs.mangling.found_or_simple.Goals as goal

pub returns-in-Some : goal.returns-in-Some
returns-in-Some c = λ o p h s.
    if_shorter o p c.in-Some.found c.args.simple c.shorter_of.result (subst (λ (f : Option Mangled). IfSome f (IsMangling o p)) c.in-Some.is h) s c.shorter_of.ensures

pub returns-in-None : goal.returns-in-None
returns-in-None c = λ o p h s. simple_short o p c.args.simple s
