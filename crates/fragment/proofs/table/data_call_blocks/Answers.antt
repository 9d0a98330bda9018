-- The table is the rule at 0 to 316, compared once as a whole.
use Rattle.std.proofs.Common.{◌≡◌, ◌+◌, ◌<◌, true, leb, Some, None, sym, ap, le_refl, ◌∙◌, arith}
use Rattle.std.proofs.lemmas.List.FromFn.{get_or-map-range_with_len}
use Rattle.std.proofs.lemmas.Bool.{le-leb, cond-true}
use Rattle.fragment.specs.Counts.{parts_of}
use Rattle.fragment.proofs.table.data_call_blocks.Goals as goal

pub returns : goal.returns
returns c =
    let item = c.in_ok-blocks.ensures.lookup in
    let h : c.args.octets < 317 = item.3.0 in
    let e = get_or-map-range_with_len (λ n. parts_of 20 (n + 4)) 0 317 c.args.octets c.args.octets 0 h (omega arith) in
    let t : leb (c.args.octets + 4) 320 ≡ true = le-leb (c.args.octets + 4) 320 (omega arith) in
    ap Some (c.from.ensures ∙ item.4 (le_refl c.args.octets) 0 ∙ e) ∙ sym (cond-true (leb (c.args.octets + 4) 320) (Some (parts_of 20 (c.args.octets + 4))) None t)
