-- A response is refused by its number, or its code gives the row.
use Rattle.std.proofs.Common.{◌≡◌, Some, Ok, Err, sym, subst, rules}
use Rattle.packet.specs.Responses.{response_at}
use Rattle.sender.specs.Steps.{Stepped, admit_of, hear_of}
use Rattle.sender.specs.Laws.{HearRefusals, OnSendable, Rows}
use Rattle.sender.proofs.Hearing.{hear-refusals, hear-sendable, hear-rows}
use Rattle.sender.proofs.states.calls.«Awaiting+C+K».hear.Goals as goal

pub returns-in-Err-clause-refusals : goal.returns-in-Err-clause-refusals
returns-in-Err-clause-refusals g c =
    let e : hear_of g.C.Carrier.terms c.args.self.base c.args.self.session c.args.response.now ≡ Err c.in-Err.fault = search rules in
    subst (HearRefusals _ _ _ _) e (hear-refusals _ _ _ _)

pub returns-in-Ok-clause-sendable : goal.returns-in-Ok-clause-sendable
returns-in-Ok-clause-sendable g c =
    let t = g.C.Carrier.terms in
    let b = c.args.self.base in
    let s = c.args.self.session in
    let xs = c.args.response.now in
    let e : admit_of t b s xs ≡ Ok c.in-Ok.code = search rules in
    let Goes : Stepped → Type 0 = OnSendable t in
    λ can. subst Goes (sym c.learn.ensures.value) (hear-sendable t b s xs c.in-Ok.code e can)

pub returns-in-Ok-clause-rows : goal.returns-in-Ok-clause-rows
returns-in-Ok-clause-rows g c =
    let t = g.C.Carrier.terms in
    let b = c.args.self.base in
    let s = c.args.self.session in
    let xs = c.args.response.now in
    let e : admit_of t b s xs ≡ Ok c.in-Ok.code = search rules in
    let Row : Stepped → Type 0 = Rows b s (Some (response_at xs).code) in
    subst Row (sym c.learn.ensures.value) (hear-rows t b s xs c.in-Ok.code e)
