-- What a packet's call promises, from what it answers and leaves.
use Rattle.std.proofs.Common.{◌≡◌, ℕ, ◌^◌, ◌<◌, List, length, Ok, Err, Result, refl, ap, ◌∙◌}
use Rattle.fault.specs.declared.EndFault.{EndFault}
use Rattle.fragment.specs.Carriers.{Terms, Sound}
use Rattle.packet.specs.declared.values.Header.{Header}
use Rattle.packet.specs.declared.values.Route.{Route}
use Rattle.packet.specs.Reading.{and_then}
use Rattle.receiver.specs.declared.state.State.{State}
use Rattle.receiver.specs.declared.state.Heard.{Heard}
use Rattle.receiver.specs.Fill.{heard_of}
use Rattle.receiver.specs.Calls.{Called, called, admit_of, on_admitted, call_of}
use Rattle.receiver.specs.Laws.{Rows, CallRefusals, RefusedKeeps, FillHolds, AppendsData}
use Rattle.receiver.proofs.Hearing.{packet-rows}
use Rattle.receiver.proofs.Filling.{fill-rows, part-after}
use Rattle.receiver.proofs.Lasting.{keeps-heard}
use Rattle.receiver.proofs.Refusing.{call-refusals}
use Rattle.receiver.proofs.Holding.{fill_holds}
use Rattle.receiver.proofs.Appending.{appends-data}

rows : (t : Terms) (number : List ℕ → ℕ) → Rows t number
rows t number =
    record {
      packet = packet-rows t number;
      fill = fill-rows t number;
      part = part-after;
      last_kept = λ s store h xs. (keeps-heard t number s store h xs).0;
      idle_keeps = λ s store h xs. (keeps-heard t number s store h xs).1;
    }

module _ (t : Terms) (sound : Sound t) (number : List ℕ → ℕ) (small : (xs : List ℕ) → number xs < 2 ^ 32) (way : Route) (s : State) (store xs response : List ℕ) where
  answer-is : (a : Result Header EndFault) → (on_admitted t number way s store xs response a).answer ≡ and_then a (λ h. Ok (heard_of t number s store h xs).heard)
  answer-is (Ok h) = refl
  answer-is (Err fault) = refl

  refused-keeps : (a : Result Header EndFault) (r : Result Heard EndFault) (s' : State) (store' response' : List ℕ)
      → called r s' store' response' ≡ on_admitted t number way s store xs response a → RefusedKeeps r s s' store store' response response'
  refused-keeps (Ok h) r s' store' response' e fault q =
      let answer = ap (λ (c : Called). c.answer) e in
      cc
  refused-keeps (Err other) r s' store' response' e fault q =
      (ap (λ (c : Called). c.state) e, ap (λ (c : Called). c.store) e, ap (λ (c : Called). c.response) e)

  pub promised : (r : Result Heard EndFault) (s' : State) (store' response' : List ℕ) (way' : Route)
      → called r s' store' response' ≡ call_of t number way s store xs response → way' ≡ way
      → record {
        value : called r s' store' response' ≡ call_of t number way s store xs response;
        route : way' ≡ way;
        rows : Rows t number;
        refusals : CallRefusals t way s.phase xs (length response) r;
        refused : RefusedKeeps r s s' store store' response response';
        fills : FillHolds t;
        appends : AppendsData t number;
      }
  promised r s' store' response' way' e q =
      record {
        value = e;
        route = q;
        rows = rows t number;
        refusals =
            rw (ap (λ (c : Called). c.answer) e ∙ answer-is (admit_of t way s.phase xs (length response)))
            (call-refusals t way s.phase xs (length response) (λ h. (heard_of t number s store h xs).heard));
        refused = refused-keeps (admit_of t way s.phase xs (length response)) r s' store' response' e;
        fills = fill_holds t sound;
        appends = appends-data t sound number small;
      }
