-- Every carrier is sound, so cutting on it loses nothing.
use Rattle.fragment.proofs.Cuts.{cuts}
use Rattle.fragment.proofs.cutting.cutting_stands.Goals as goal

pub returns : goal.returns
returns g c = cuts g.C.Carrier.terms g.met.C.Carrier.sound
