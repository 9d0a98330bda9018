-- One record a turn.
use Rattle.std.proofs.Common.{◌≡◌, suc, ◌+◌, ◌-◌, ◌*◌, ◌%◌, ◌^◌, ap, ◌∙◌, arith}
use Rattle.std.proofs.lemmas.Nat.{one_shl}
use Rattle.script.specs.Words.{seen}
use Rattle.script.specs.Turns.{records_from}
use Rattle.script.proofs.Came.{figure-most}
use Rattle.script.proofs.Records.{record-room, record-more, record-low, record-none, records-end, records-all}
use Rattle.script.proofs.turns.read_records.Goals as goal

pub loop-preserved : goal.loop-preserved
loop-preserved c =
    let least = c.loop.least in
    let bad = c.loop.bad in
    let numbered = c.in_ok-record.record in
    let rest = c.in_ok-record.more.now in
    let few = figure-most 15 c.in-Some.more.now numbered rest c.in_ok-record.ensures in
    let room = record-room least bad numbered c.loop.invariant.1 c.if-record-least.false few in
    let bit : (1 * 2 ^ numbered) % 65536 ≡ 2 ^ numbered = one_shl numbered 16 (omega (arith, few)) in
    let left : suc (16 - (c.loop.counter + 1)) ≡ 16 - c.loop.counter = omega arith in (
      ap (λ n. records_from (16 - (c.loop.counter + 1)) (numbered + 1) (bad + n) rest) bit
          ∙ record-more _ least bad numbered c.loop.rest.now c.in-Some.more.now rest c.in-Some.ensures c.in_ok-record.ensures c.if-record-least.false
          ∙ ap (λ n. records_from n least bad c.loop.rest.now) left ∙ c.loop.invariant.0,
      omega arith,
      omega (arith, few),
    )

pub returns-in_default : goal.returns-in_default
returns-in_default c =
    let left : suc (16 - (c.loop.counter + 1)) ≡ 16 - c.loop.counter = omega arith in
    records-end _ c.loop.least c.loop.bad c.loop.rest.now c.in_default.ensures
    ∙ ap (λ n. records_from n c.loop.least c.loop.bad c.loop.rest.now) left ∙ c.loop.invariant.0

pub returns-in_err-record : goal.returns-in_err-record
returns-in_err-record c =
    let left : suc (16 - (c.loop.counter + 1)) ≡ 16 - c.loop.counter = omega arith in
    ap (λ r. seen r) c.from_residual.ensures
    ∙ record-none _ c.loop.least c.loop.bad c.loop.rest.now c.in-Some.more.now c.in-Some.ensures c.in_err-record.ensures
    ∙ ap (λ n. records_from n c.loop.least c.loop.bad c.loop.rest.now) left ∙ c.loop.invariant.0

pub returns-then-record-least : goal.returns-then-record-least
returns-then-record-least c =
    let left : suc (16 - (c.loop.counter + 1)) ≡ 16 - c.loop.counter = omega arith in
    record-low _ c.loop.least c.loop.bad c.in_ok-record.record c.loop.rest.now c.in-Some.more.now c.in_ok-record.more.now
    c.in-Some.ensures c.in_ok-record.ensures c.if-record-least.true
    ∙ ap (λ n. records_from n c.loop.least c.loop.bad c.loop.rest.now) left ∙ c.loop.invariant.0

pub returns : goal.returns
returns c =
    let none : 0 ≡ 16 - c.loop.counter = omega arith in
    records-all c.loop.least c.loop.bad c.loop.rest.now
    ∙ ap (λ n. records_from n c.loop.least c.loop.bad c.loop.rest.now) none ∙ c.loop.invariant.0
