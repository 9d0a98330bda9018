-- The first line ends at the first line feed, or with the text.
use Rattle.std.proofs.Common.{◌<◌, length, rules}
use Rattle.inspect.proofs.Cuts.{first_line, only_line}
use Rattle.inspect.proofs.lines.first_line.Goals as goal

pub returns-in-Some : goal.returns-in-Some
returns-in-Some c =
    (first_line c.args.text.now c.in-Some.end (search rules) (search rules) (search rules), search rules)

pub returns-in-None : goal.returns-in-None
returns-in-None c = let some : 0 < length c.args.text.now = search rules in (only_line c.args.text.now some (search rules), some)
