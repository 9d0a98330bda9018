-- An octet that is no quality's number is neither test's.
use Rattle.std.proofs.Common.{◌+◌, get_or, sym}
use Rattle.std.proofs.lemmas.Bool.{ne_eqb}
use Rattle.packet.specs.declared.values.Quality.TheVariants.{Good, Bad}
use Rattle.packet.proofs.packets.Packet.read_record.Goals as goal

pub returns-in-Err : goal.returns-in-Err
returns-in-Err c =
    let none = c.in-Err.ensures.1 in
    let quality = get_or c.args.self.now.octets.now (c.record_place-place.result + 2) 0 in
    rw (sym c.record_place-place.ensures.value, ne_eqb quality 1 (none Bad), ne_eqb quality 0 (none Good))
