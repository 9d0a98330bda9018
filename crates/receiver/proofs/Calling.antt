-- A call, from what its parts promise.
use Rattle.std.proofs.Common.{◌≡◌, ℕ, ◌≤◌, leb, List, length, Ok, Err, Result, sym, ap, ◌∙◌}
use Rattle.std.proofs.lemmas.Bool.{cond-true, le-leb}
use Rattle.fault.specs.declared.PacketFault.{PacketFault}
use Rattle.fault.specs.declared.EndFault.{EndFault}
use Rattle.fragment.specs.Carriers.{Terms}
use Rattle.packet.specs.declared.values.Route.{Route}
use Rattle.packet.specs.declared.values.Response.{Response}
use Rattle.packet.specs.Octets.{over}
use Rattle.packet.specs.Layout.{Written, written}
use Rattle.packet.specs.Responses.{responded_of, response_octets}
use Rattle.packet.specs.Views.{Seen}
use Rattle.receiver.specs.declared.state.State.{State}
use Rattle.receiver.specs.declared.state.Heard.{Heard}
use Rattle.receiver.specs.Fill.{After, after, heard_of}
use Rattle.receiver.specs.Calls.{called, admit_of, admitted_of, on_admitted, call_of}
use Rattle.receiver.proofs.Admitting.{seen-is, unseen-is, admitted-read}

-- A response that there is room for is written.
response-written : (response : Response) (r : Result ℕ PacketFault) (buffer buffer' : List ℕ) → 10 ≤ length buffer → written r buffer' ≡ responded_of response buffer
    → buffer' ≡ over 0 (response_octets response) buffer
response-written response r buffer buffer' room e =
    ap (λ (w : Written PacketFault). w.buffer) (e ∙ cond-true (leb 10 (length buffer)) _ _ (le-leb 10 (length buffer) room))

module _ (t : Terms) (number : List ℕ → ℕ) (route : Route) (s : State) (store xs response : List ℕ) where
  pub call-refused : (r : Result Heard EndFault) (fault : EndFault) → r ≡ Err fault → ◌≡◌ {A = Result Seen EndFault} (Err fault) (admitted_of t route s.phase xs (length response))
      → called r s store response ≡ call_of t number route s store xs response
  call-refused r fault e q =
      ap (λ x. called x s store response) e
      ∙ ap (on_admitted t number route s store xs response) (sym (unseen-is t xs (admit_of t route s.phase xs (length response)) fault q))

  pub call-heard : (p : Seen) → Ok p ≡ admitted_of t route s.phase xs (length response)
      → (s' : State) (store' : List ℕ) (heard : Heard) → after s' store' heard ≡ heard_of t number s store p.header p.octets
      → (w : Result ℕ PacketFault) (response' : List ℕ) → written w response' ≡ responded_of (record { route = route; number = p.header.number; code = heard.code }) response
      → called (Ok heard) s' store' response' ≡ call_of t number route s store xs response
  call-heard p seen s' store' heard e w response' q =
      let a = seen-is t xs (admit_of t route s.phase xs (length response)) p seen in
      let room = (admitted-read t route s.phase xs (length response) p.header a.0).0 in
      let out : response' ≡ over 0 (response_octets (record { route = route; number = p.header.number; code = heard.code })) response =
      response-written (record { route = route; number = p.header.number; code = heard.code }) w response response' room q in
      ap (λ b. called (Ok heard) s' store' b) out
      ∙ ap (λ (x : After). called (Ok x.heard) x.state x.store (over 0 (response_octets (record { route = route; number = p.header.number; code = x.heard.code })) response)) (e ∙ ap (heard_of t number s store p.header) a.2)
      ∙ ap (on_admitted t number route s store xs response) (sym a.0)
