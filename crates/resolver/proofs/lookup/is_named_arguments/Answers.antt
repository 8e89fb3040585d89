use Rattle.std.proofs.Common.{sym, ap, ◌∙◌, slice_index_or}
use Rattle.resolver.proofs.NamedArguments.{named_arguments, other_text, empty_is_other, other_number}
use Rattle.resolver.proofs.lookup.is_named_arguments.Goals as goal

pub returns-then-is_empty : goal.returns-then-is_empty
returns-then-is_empty c =
    let text = c.as_str-text.result.now in
    rw (← c.as_str-text.ensures) (sym (named_arguments text c.as_str-text.utf8 ∙ other_text text (empty_is_other text (sym c.is_empty.ensures ∙ c.if-is_empty.true))))

pub returns-then-as_bytes-eq97 : goal.returns-then-as_bytes-eq97
returns-then-as_bytes-eq97 c = rw (← c.as_str-text.ensures) c.is_spelled_arguments.ensures

pub returns-else-as_bytes-eq97 : goal.returns-else-as_bytes-eq97
returns-else-as_bytes-eq97 c =
    let text = c.as_str-text.result.now in
    let other = other_text text (λ is. c.if-as_bytes-eq97.false (ap (λ t. slice_index_or t 0 0) (c.as_bytes.ensures.value ∙ is))) in
    rw (← c.as_str-text.ensures) (other_number _ _ c.if-as_bytes-eq97.false ∙ sym (named_arguments text c.as_str-text.utf8 ∙ other))
