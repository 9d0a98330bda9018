-- The name is one of two words.
use Rattle.std.proofs.Common.{codes, refl}
use Rattle.check32.specs.declared.name.CheckName.TheVariants.{Polynomial, Sum}
use Rattle.check32.specs.Names.{ReadsCheck}
use Rattle.script.proofs.Names.{NamesTwo, named-two}
use Rattle.script.proofs.heads.read_check.Goals as goal

names : NamesTwo ReadsCheck (codes "poly") (codes "sum") Polynomial Sum
names = record { first = λ r g. g.poly_word refl; second = λ r g. g.sum_word refl; others = λ name r g n1 n2. g.wrong n1 n2 }

pub returns : goal.returns
returns c =
    named-two ReadsCheck (codes "poly") (codes "sum") (codes "(check ") c.args.line.now Polynomial Sum names c.read_named.result c.read_named.ensures refl refl
