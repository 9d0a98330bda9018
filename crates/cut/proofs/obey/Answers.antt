-- Each arm cuts at the carrier and the check of its order.
use Rattle.cut.proofs.obey.Goals as goal

pub returns-in-Data-Polynomial-clause-value : goal.returns-in-Data-Polynomial-clause-value
returns-in-Data-Polynomial-clause-value c = rw (c.in-Data-Polynomial.is-0, c.in-Data-Polynomial.is-1) c.cut.ensures.value

pub returns-in-Data-Sum-clause-value : goal.returns-in-Data-Sum-clause-value
returns-in-Data-Sum-clause-value c = rw (c.in-Data-Sum.is-0, c.in-Data-Sum.is-1) c.cut-in-Data-Sum.ensures.value

pub returns-in-Voice-Polynomial-clause-value : goal.returns-in-Voice-Polynomial-clause-value
returns-in-Voice-Polynomial-clause-value c =
    rw (c.in-Voice-Polynomial.is-0, c.in-Voice-Polynomial.is-1) c.cut-in-Voice-Polynomial.ensures.value

pub returns-in-Voice-Sum-clause-value : goal.returns-in-Voice-Sum-clause-value
returns-in-Voice-Sum-clause-value c = rw (c.in-Voice-Sum.is-0, c.in-Voice-Sum.is-1) c.cut-in-Voice-Sum.ensures.value
