-- That the agreement speaks of something: both carriers with both checks meet what it asks, and histories come to each outcome.
use Rattle.std.specs.Prelude.{ℕ, List}
use Rattle.fragment.specs.Carriers.{Terms, data_call, voice_along_call}
use Rattle.check32.specs.Division.{polynomial_of}
use Rattle.check32.specs.Addition.{sum_of}
use Rattle.sender.specs.declared.values.Outcome.{Outcome}
use Rattle.sender.specs.declared.values.Outcome.TheVariants.{Delivered, NotDelivered, Unknown}
use Rattle.agreement.specs.Histories.{History, World, Origin, Reached}
use Rattle.agreement.specs.Agreement.{Reported, AtOneOctet, HistoriesAgree}

-- What holds of both carriers with both checks.
abbrev pub OfAll : (Terms → (List ℕ → ℕ) → Type 0) → Type 0
OfAll P = P data_call polynomial_of × P data_call sum_of × P voice_along_call polynomial_of × P voice_along_call sum_of

-- A history in which a session ends so, and whose alterations that count are at one octet.
abbrev pub ComesTo : Outcome → Terms → (List ℕ → ℕ) → Type 0
ComesTo outcome t number =
    (o : Origin) × (log : History) × (w : World) × Reached t number o log w × AtOneOctet t log × (s packets : ℕ) × Reported s outcome packets log

pub record Speaks : Type 0 where
  pub agree : OfAll HistoriesAgree
  pub delivered : OfAll (ComesTo Delivered)
  pub not_delivered : OfAll (ComesTo NotDelivered)
  pub unknown : OfAll (ComesTo Unknown)
