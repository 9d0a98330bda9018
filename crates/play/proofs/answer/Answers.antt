-- What is told is a history.
use Rattle.play.proofs.Telling.{tells-history}
use Rattle.play.proofs.answer.Goals as goal

pub returns-in-Ok-clause-tells : goal.returns-in-Ok-clause-tells
returns-in-Ok-clause-tells c = tells-history c.args.input.now

pub returns-in-Err-OutOfMemory-clause-tells : goal.returns-in-Err-OutOfMemory-clause-tells
returns-in-Err-OutOfMemory-clause-tells c = tells-history c.args.input.now
