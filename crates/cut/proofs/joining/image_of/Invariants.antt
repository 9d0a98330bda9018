-- What the loop keeps: the image, with the octets of the records still to come behind it, is that of all.
use Rattle.std.proofs.Common.{◌≡◌, ◌++◌, vec_items}
use Rattle.packet.specs.Records.{records_left}
use Rattle.packet.specs.Views.{seen_by}
use Rattle.cut.specs.Joining.{image_of}
use Rattle.cut.proofs.Records.{octets_of}
use Rattle.cut.proofs.joining.image_of.Given as goal

abbrev pub invariant-loop-record : goal.invariant-loop-record
invariant-loop-record l = vec_items l.image ++ octets_of (records_left l.record-iterator) ≡ image_of (seen_by l.packet)
