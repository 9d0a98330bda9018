-- The packet of a fragment fits the buffer.
use Rattle.std.proofs.Common.{◌≡◌, length, take, drop, ◌++◌, Some, Ok, Err, ap, ◌∙◌, rules}
use Rattle.std.proofs.lemmas.List.{take_at}
use Rattle.fragment.specs.Cutting.{piece_of}
use Rattle.cut.proofs.Lengths.{cut-packet}
use Rattle.cut.proofs.cutting.packet_of.Goals as goal

pub returns-in_default-write_packet : goal.returns-in_default-write_packet
returns-in_default-write_packet g c =
    let f = c.in-Some.fragment in
    cut-packet g.C.Carrier.terms g.K.Check.number c.args.order c.args.message.now c.args.number (piece_of f) c.deref_mut.result.now
    c.in-Some.ensures f.inside f.image f.few f.narrow (search rules) (Err c.in_default-write_packet.field-0)
    c.write_packet.new.packet c.in_default-write_packet.ensures.value

pub returns : goal.returns
returns g c =
    let f = c.in-Some.fragment in
    let after = c.write_packet.new.packet in
    let all : length after ≡ c.in_ok-packet.packet.len = search rules in
    let whole : take c.in_ok-packet.packet.len (after ++ drop (length after) c.in_ok-packet.packet.items) ≡ after = take_at after _ _ all in
    ap (λ l. Some l) (c.truncate.ensures.items ∙ ap (take c.in-Ok.length) whole)
    ∙ cut-packet g.C.Carrier.terms g.K.Check.number c.args.order c.args.message.now c.args.number (piece_of f) c.deref_mut.result.now
    c.in-Some.ensures f.inside f.image f.few f.narrow (search rules) (Ok c.in-Ok.length) after c.in-Ok.ensures.value
