-- The octets of the record that was found.
use Rattle.std.proofs.Common.{Some, sym, ap, ◌∙◌, rules, tests, ◌+◌, ◌*◌}
use Rattle.std.specs.Option.{option_map}
use Rattle.std.proofs.lemmas.Iterator.Adapters.{position_from-zero}
use Rattle.std.proofs.lemmas.Iterator.Consumers.{YieldsList-from_first}
use Rattle.std.proofs.lemmas.Iterator.Search.{position_from_yields_List}
use Rattle.packet.specs.Reading.{record_place}
use Rattle.packet.specs.Records.{records_left, records_in}
use Rattle.packet.specs.Views.{block_in, seen_by}
use Rattle.receiver.specs.Store.{is_past}
use Rattle.receiver.proofs.Joining.{past-position}
use Rattle.receiver.proofs.admit.past.Goals as goal

pub returns-in_err-i : goal.returns-in_err-i
returns-in_err-i c =
    let p = c.args.packet.now in
    let all = YieldsList-from_first block_in records_left (records_in (seen_by p)) c.records.ensures.all in
    let found = position_from_yields_List (is_past c.args.blocks) c.position.new.self _ c.position.result c.position.ensures.ran all (λ x b q k. search (rules, tests)) ∙ position_from-zero (is_past c.args.blocks) (records_in (seen_by p)) in
    c.from_residual.ensures ∙ ap (option_map (record_place p.size)) (sym c.in_err-i.was ∙ found) ∙ past-position p.size p.header p.octets.now c.args.blocks p.header.records 0

pub returns : goal.returns
returns c =
    let p = c.args.packet.now in
    let all = YieldsList-from_first block_in records_left (records_in (seen_by p)) c.records.ensures.all in
    let found = position_from_yields_List (is_past c.args.blocks) c.position.new.self _ c.position.result c.position.ensures.ran all (λ x b q k. search (rules, tests)) ∙ position_from-zero (is_past c.args.blocks) (records_in (seen_by p)) in
    ap (λ n. Some (10 + c.in_ok-i.i * (n + 3))) c.from.ensures ∙ ap (option_map (record_place p.size)) (sym c.in_ok-i.was ∙ found) ∙ past-position p.size p.header p.octets.now c.args.blocks p.header.records 0
