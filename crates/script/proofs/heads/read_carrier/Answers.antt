-- The name is one of two words.
use Rattle.std.proofs.Common.{codes, refl}
use Rattle.fragment.specs.declared.name.CarrierName.TheVariants.{Data, Voice}
use Rattle.fragment.specs.Names.{ReadsCarrier}
use Rattle.script.proofs.Names.{NamesTwo, named-two}
use Rattle.script.proofs.heads.read_carrier.Goals as goal

names : NamesTwo ReadsCarrier (codes "data") (codes "voice") Data Voice
names = record { first = λ r g. g.data_word refl; second = λ r g. g.voice_word refl; others = λ name r g n1 n2. g.wrong n1 n2 }

pub returns : goal.returns
returns c =
    named-two ReadsCarrier (codes "data") (codes "voice") (codes "(carrier ") c.args.line.now Data Voice names c.read_named.result c.read_named.ensures refl refl
