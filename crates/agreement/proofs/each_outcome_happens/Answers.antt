-- By histories of one turn.
use Rattle.agreement.proofs.Worked.{speaks}
use Rattle.agreement.proofs.each_outcome_happens.Goals as goal

pub returns : goal.returns
returns c = speaks
