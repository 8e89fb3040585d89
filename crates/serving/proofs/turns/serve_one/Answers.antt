use Rattle.std.proofs.Common.{subst}
use Rattle.serving.specs.Reads.{MayBeRead}
use Rattle.serving.proofs.Exchanges.{nothing_on_fault, part_on_fault, served_one, unread, unanswered, unoffered}
use Rattle.serving.proofs.turns.serve_one.Goals as goal

pub returns-in_err-request-clause-part : goal.returns-in_err-request-clause-part
returns-in_err-request-clause-part g c = nothing_on_fault g.K.Sink.Offered _ c.from_residual.result _ _ _ _

pub returns-in_err-request-clause-fault : goal.returns-in_err-request-clause-fault
returns-in_err-request-clause-fault g c = unread _ _ _ _ _ c.in_err-request.field-0.0 c.from_residual.result c.in_err-request.ensures.cause c.from_residual.ensures.1

pub returns-in_err-bytes-clause-part : goal.returns-in_err-bytes-clause-part
returns-in_err-bytes-clause-part g c = nothing_on_fault g.K.Sink.Offered _ c.from_residual-in_err-bytes.result _ _ _ _

pub returns-in_err-bytes-clause-fault : goal.returns-in_err-bytes-clause-fault
returns-in_err-bytes-clause-fault g c =
    let asked = subst (MayBeRead _ _) c.in-Some.is c.in_ok-request.ensures.read in
    unanswered _ _ _ _ _ asked.0 _ _ c.in_err-bytes.field-0.0 c.from_residual-in_err-bytes.result asked.1 asked.2 c.in_err-bytes.ensures.fault c.from_residual-in_err-bytes.ensures.1

pub returns-in_err-offer-clause-part : goal.returns-in_err-offer-clause-part
returns-in_err-offer-clause-part g c =
    let asked = subst (MayBeRead _ _) c.in-Some.is c.in_ok-request.ensures.read in
    part_on_fault g.K.Sink.Offered _ c.from_residual-in_err-offer.result asked.0 _ _ c.in_ok-bytes.bytes.items _ _ _ _ _ _ asked.1 asked.2 c.in_ok-bytes.ensures.answer
    (rw c.deref.ensures.value at c.in_err-offer.ensures.part) (rw c.deref.ensures.value at c.in_err-offer.ensures.pieces.part)

pub returns-in_err-offer-clause-fault : goal.returns-in_err-offer-clause-fault
returns-in_err-offer-clause-fault g c = unoffered _ _ _ _ _ c.in_err-offer.field-0.0 c.from_residual-in_err-offer.result c.in_err-offer.ensures.fault c.from_residual-in_err-offer.ensures.1

pub returns-clause-turn : goal.returns-clause-turn
returns-clause-turn g c =
    let asked = subst (MayBeRead _ _) c.in-Some.is c.in_ok-request.ensures.read in
    served_one g.K.Sink.Offered _ asked.0 _ _ c.in_ok-bytes.bytes.items _ _ _ _ _ _ asked.1 asked.2 c.in_ok-bytes.ensures.answer
    (rw c.deref.ensures.value at c.in_ok-offer.ensures.whole) (rw c.deref.ensures.value at c.in_ok-offer.ensures.pieces.whole)
