-- What the hearings so far brought.
use Rattle.std.proofs.Common.{◌≡◌, ◌++◌, None}
use Rattle.air.specs.Few.{listed}
use Rattle.agreement.specs.Turns.{all_heard}
use Rattle.exchange.specs.Views.{ups_in, begun, seen, seen_of}
use Rattle.exchange.proofs.hearing.Aired.undergo.Given as goal

abbrev pub invariant-loop-hearing : goal.invariant-loop-hearing
invariant-loop-hearing g l =
    let from = l.initial.receiver in
    record {
      whole : l.yielded ++ listed l.hearing-iterator ≡ listed l.fn.fate.heard;
      kept : l.receiver.route ≡ from.route;
      value :
          seen l.receiver.state l.store (ups_in l.received.ups) l.received.response l.panel
          ≡ seen_of (all_heard g.C.Carrier.terms g.K.Check.number from.route l.fn.self.packet.now (begun from.state l.initial.store None) l.yielded) l.initial.panel;
    }
