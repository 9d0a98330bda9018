-- At most sixteen blocks are collected, whatever comes.
use Rattle.std.proofs.Common.{◌≡◌, ℕ, ◌≤◌, Bool, true, leb, List, sym, refl, ap, ◌∙◌, subst, rules, tests}
use Rattle.fragment.specs.Carriers.{Terms}
use Rattle.packet.specs.declared.values.Header.{Header}
use Rattle.receiver.specs.declared.state.Gathering.{Gathering}
use Rattle.receiver.specs.declared.state.Phase.{Phase}
use Rattle.receiver.specs.declared.state.Phase.TheVariants.{Idle, Collecting, Waiting, Done}
use Rattle.receiver.specs.declared.state.State.{State}
use Rattle.receiver.specs.declared.state.Event.{Event}
use Rattle.receiver.specs.declared.state.Act.{Act}
use Rattle.receiver.specs.declared.state.Act.TheVariants.{Rest, Answer, Fill}
use Rattle.receiver.specs.declared.state.BlockStore.{BlockStore}
use Rattle.receiver.specs.Few.{few_in}
use Rattle.receiver.specs.Rows.{Row, row, row_of, event_of}
use Rattle.receiver.specs.Fill.{finished}

abbrev few_in-act : Act → Bool
few_in-act Rest = true
few_in-act (Answer code) = true
few_in-act (Fill g) = leb g.blocks 16

-- A row leaves few blocks to collect.
abbrev FewRow : Row → Type 0
FewRow r = (few_in r.state.phase ≡ true) × (few_in-act r.act ≡ true)

few-row : (s : State) (h : Header) (p : Phase) → s.phase ≡ p → few_in p ≡ true → h.records ≤ 16 → FewRow (row_of s (event_of h))
few-row s h Idle e few records = search (rules, tests)
few-row s h (Collecting g) e few records = search (rules, tests)
few-row s h (Waiting v) e few records = search (rules, tests)
few-row s h Done e few records = search (rules, tests)

-- What follows a fill keeps the fragment, or leaves it.
few-finished : (t : Terms) (number : List ℕ → ℕ) (s : State) (store : List ℕ) (g : Gathering) → few_in s.phase ≡ true → few_in (finished t number s store g).state.phase ≡ true
few-finished t number s store g few = search (rules, tests)

-- A packet whose blocks go in: few blocks are collected then.
pub fill-few : (t : Terms) (number : List ℕ → ℕ) (h : Header) (store : List ℕ) (s s₁ : State) (e : Event) (g : Gathering) (b : BlockStore)
    → row s₁ (Fill g) ≡ row_of s e → e ≡ event_of h → few_in s.phase ≡ true → h.records ≤ 16
    → few_in (finished t number (record { phase = s₁.phase; blocks = b; filled = s₁.filled; last = s₁.last }) store g).state.phase ≡ true
fill-few t number h store s s₁ e g b met of few records =
    few-finished t number (record { phase = s₁.phase; blocks = b; filled = s₁.filled; last = s₁.last }) store g
    (subst (λ (r : Row). few_in r.state.phase ≡ true) (sym (met ∙ ap (row_of s) of)) (few-row s h s.phase refl few records).0)
