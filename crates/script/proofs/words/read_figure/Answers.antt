-- The first digit says which figure it is.
use Rattle.std.proofs.Common.{◌∙◌, arith, rules}
use Rattle.script.specs.Words.{figure_of}
use Rattle.script.proofs.Reading.{zero-figure, first-figure}
use Rattle.script.proofs.words.read_figure.Goals as goal

pub returns-in-48 : goal.returns-in-48
returns-in-48 c = zero-figure c.args.text.now (omega arith)

pub returns-in-49-to-57 : goal.returns-in-49-to-57
returns-in-49-to-57 c = c.read_digits.ensures ∙ first-figure c.args.text.now (omega arith) (omega arith)

pub returns-in_default : goal.returns-in_default
unfolding figure_of
returns-in_default c = search rules
