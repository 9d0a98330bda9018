-- Each hearing goes on from what those before it brought.
use Rattle.std.proofs.Common.{◌≡◌, ◌+◌, ◌<◌, ◌≤◌, ◌++◌, [], ◌∷◌, List, length, None, sym, ap, ◌∙◌, append_assoc, arith, length-append}
use Rattle.air.specs.declared.fate.Hearing.{Hearing}
use Rattle.air.specs.Few.{listed}
use Rattle.agreement.specs.Turns.{Reception, all_heard}
use Rattle.exchange.specs.Views.{Seen, seen_of, begun, ups_in, ups_of}
use Rattle.exchange.proofs.Receiving.{heard-then, listed-few, all-few, all-then}
use Rattle.exchange.proofs.hearing.Aired.undergo.Goals as goal

pub loop-hearing-preserved : goal.loop-hearing-preserved
loop-hearing-preserved g c =
    let t = g.C.Carrier.terms in
    let number = g.K.Check.number in
    let from = c.if-fate.receiver in
    let packet = c.args.self.now.packet.now in
    let panel = c.args.panel.now in
    let so_far = c.loop-hearing in
    let known = so_far.invariant in
    let h = c.in-Some.hearing in
    let hear = c.hear-received in
    let start : Reception = begun from.state c.args.store.now None in
    let x : Reception = all_heard t number from.route packet start so_far.yielded in
    let whole : so_far.yielded ++ (h ∷ []) ++ listed c.next.new.self ≡ listed c.args.fate.heard =
    append_assoc so_far.yielded (h ∷ []) (listed c.next.new.self) ∙ ap (λ (l : List Hearing). so_far.yielded ++ l) (sym c.in-Some.ensures.steps) ∙ known.whole in
    let heard : length so_far.yielded + 1 ≤ length (listed c.args.fate.heard) = omega (arith, length-append {A = Hearing}, ap length whole) in
    let up : length (ups_in so_far.received.ups) ≡ length (ups_of x.ups) = ap (λ (z : Seen). length z.ups) known.value in
    let few : length (ups_in so_far.received.ups) < 3 =
    omega (arith, heard, up, listed-few c.args.fate.heard, all-few t number from.route packet start so_far.yielded) in
    record {
      whole = whole;
      kept = hear.ensures.kept ∙ known.kept;
      value =
          heard-then t number packet h x panel from.route so_far.receiver.route
          so_far.receiver.state so_far.store (ups_in so_far.received.ups) so_far.received.response so_far.panel _
          known.kept known.value (hear.ensures.value few)
          ∙ ap (λ (r : Reception). seen_of r panel) (all-then t number from.route packet start so_far.yielded h);
    }
