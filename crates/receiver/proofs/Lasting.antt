-- Only a hand-up changes what was handed up last.
use Rattle.std.proofs.Common.{◌≡◌, ℕ, List, None, ◌∙◌, rules, tests}
use Rattle.fragment.specs.Carriers.{Terms}
use Rattle.packet.specs.declared.values.Header.{Header}
use Rattle.receiver.specs.declared.state.Gathering.{Gathering}
use Rattle.receiver.specs.declared.state.Phase.TheVariants.{Idle}
use Rattle.receiver.specs.declared.state.State.{State}
use Rattle.receiver.specs.declared.state.Act.{Act}
use Rattle.receiver.specs.declared.state.Act.TheVariants.{Rest, Answer, Fill}
use Rattle.receiver.specs.Rows.{row_of, event_of}
use Rattle.receiver.specs.Fill.{After, finished, filled, done_by, heard_of}

-- What is handed up, or at Idle, is as it was.
abbrev pub Keeps : State → After → Type 0
Keeps s a = (a.heard.up ≡ None → a.state.last ≡ s.last) × (a.state.phase ≡ Idle → a.state.last ≡ s.last)

keeps-finished : (t : Terms) (number : List ℕ → ℕ) (s : State) (store : List ℕ) (g : Gathering) → Keeps s (finished t number s store g)
keeps-finished t number s store g = search (rules, tests)

-- A row touches nothing of it.
untouched : (s : State) (h : Header) → (row_of s (event_of h)).state.last ≡ s.last
untouched s h = search (rules, tests)

module _ (t : Terms) (number : List ℕ → ℕ) (s : State) (store : List ℕ) (h : Header) (xs : List ℕ) where
  keeps-done : (s' : State) (act : Act) → s'.last ≡ s.last → Keeps s (done_by t number h xs store s' act)
  keeps-done s' Rest e = (λ _. e, λ _. e)
  keeps-done s' (Answer code) e = (λ _. e, λ _. e)
  keeps-done s' (Fill g) e = let k = keeps-finished t number (filled t.block h xs s') store g in (λ u. k.0 u ∙ e, λ i. k.1 i ∙ e)

  pub keeps-heard : Keeps s (heard_of t number s store h xs)
  keeps-heard = keeps-done (row_of s (event_of h)).state (row_of s (event_of h)).act (untouched s h)
