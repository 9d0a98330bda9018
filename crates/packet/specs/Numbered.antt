-- Octets that are the numbers of values.
use Rattle.std.specs.Prelude.{◌≡◌, ℕ, ◌≢◌, Result, MatchResult}
use Rattle.packet.specs.declared.values.UnknownOctet.{UnknownOctet}

-- The answer is the value with this number, or hands back an octet that is the number of none.
abbrev pub Numbered : {A : Type 0} → (A → ℕ) → ℕ → Result A UnknownOctet → Type 0
Numbered {A} number octet r = MatchResult r (λ a. octet ≡ number a) (λ unknown. (unknown.0 ≡ octet) × ((a : A) → octet ≢ number a))
