-- What the names of the carriers mean, and the words for them.
use Rattle.std.specs.Prelude.{◌≡◌, ◌≢◌, ℕ, List, Result, Ok, IsErr, codes}
use Rattle.fragment.specs.Carriers.{Terms, data_call, voice_along_call}
use Rattle.fragment.specs.declared.name.CarrierName.{CarrierName}
use Rattle.fragment.specs.declared.name.CarrierName.TheVariants.{Data, Voice}
use Rattle.fragment.specs.declared.name.UnknownCarrier.{UnknownCarrier}

abbrev pub terms_of : CarrierName → Terms
terms_of Data = data_call
terms_of Voice = voice_along_call

-- A word is read as the carrier that it names, and any other word is refused.
pub record ReadsCarrier (word : List ℕ) (result : Result CarrierName UnknownCarrier) : Type 0 where
  pub data_word : word ≡ codes "data" → result ≡ Ok Data
  pub voice_word : word ≡ codes "voice" → result ≡ Ok Voice
  pub wrong : (word ≢ codes "data") → (word ≢ codes "voice") → IsErr result
