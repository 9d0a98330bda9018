-- The agreement: sender and receiver agree, or the sender knows that it doesn't know. Over the history alone.
use Rattle.std.specs.Prelude.{◌≡◌, ℕ, suc, ◌+◌, ◌*◌, ◌%◌, ◌<◌, ◌≤◌, Bool, true, false, cond, ◌≢◌, ◌⊎◌, ◌↔◌, List, [], ◌∷◌, ◌++◌, length, Some, None, Option, nat_eq, slice_index}
use Rattle.fragment.specs.Carriers.{Terms}
use Rattle.fragment.specs.Cutting.{count_of}
use Rattle.packet.specs.declared.values.Code.{Code}
use Rattle.packet.specs.declared.values.Code.TheVariants.{Ack, AckSelective, FullRetry, OutOfStep}
use Rattle.sender.specs.declared.values.Outcome.{Outcome}
use Rattle.sender.specs.declared.values.Outcome.TheVariants.{Delivered, NotDelivered, Unknown}
use Rattle.air.specs.declared.fate.Alteration.{Alteration}
use Rattle.air.specs.declared.fate.Fate.{Fate}
use Rattle.air.specs.declared.fate.Hearing.{Hearing}
use Rattle.damage.specs.Damage.{comes_bad}
use Rattle.air.specs.Few.{listed}
use Rattle.agreement.specs.Histories.{Message, Turn, Event, refused, started, turned, History, World, Origin, Every, Reached}

-- Words of lists

abbrev pub Has : {A : Type 0} → A → List A → Type 0
Has x [] = ⊥
Has x (y ∷ ys) = (x ≡ y) ⊎ Has x ys

abbrev pub Any : {A : Type 0} → (A → Type 0) → List A → Type 0
Any P [] = ⊥
Any P (x ∷ xs) = P x ⊎ Any P xs

-- xs is ys with some left out.
abbrev pub Within : {A : Type 0} → List A → List A → Type 0
Within [] ys = Unit {0}
Within (x ∷ xs) [] = ⊥
Within (x ∷ xs) (y ∷ ys) = ((x ≡ y) × Within xs ys) ⊎ Within (x ∷ xs) ys

abbrev pub kept : {A : Type 0} → (A → Bool) → List A → List A
kept p [] = []
kept p (x ∷ xs) = cond (p x) (x ∷ kept p xs) (kept p xs)

-- Words of histories, newest first

abbrev pub add_turn : Event → List Turn → List Turn
add_turn (refused fault) xs = xs
add_turn (started m) xs = xs
add_turn (turned x) xs = x ∷ xs

abbrev pub turns_in : History → List Turn
turns_in [] = []
turns_in (e ∷ log) = add_turn e (turns_in log)

abbrev pub add_started : Event → List Message → List Message
add_started (refused fault) ms = ms
add_started (started m) ms = m ∷ ms
add_started (turned x) ms = ms

-- The messages started.
abbrev pub started_in : History → List Message
started_in [] = []
started_in (e ∷ log) = add_started e (started_in log)

abbrev pub ups_in : List Turn → List Message
ups_in [] = []
ups_in (x ∷ xs) = x.ups ++ ups_in xs

-- The messages handed up.
abbrev pub handed_up_in : History → List Message
handed_up_in log = ups_in (turns_in log)

-- Sessions

-- The turns of the session with this serial.
abbrev pub turns_of : ℕ → History → List Turn
turns_of s log = kept (λ x. nat_eq x.serial s) (turns_in log)

abbrev pub Started : ℕ → List ℕ → History → Type 0
Started s octets log = Has (record { serial = s; octets = octets }) (started_in log)

abbrev pub Reported : ℕ → Outcome → ℕ → History → Type 0
Reported s outcome packets log = Any (λ (x : Turn). x.report ≡ Some (record { serial = s; outcome = outcome; packets = packets })) (turns_in log)

abbrev pub HandedUp : ℕ → History → Type 0
HandedUp s log = Any (λ (m : Message). m.serial ≡ s) (handed_up_in log)

-- The first message has the first serial, and each later one the next.
abbrev pub Numbered : ℕ → List Message → Type 0
Numbered first [] = Unit {0}
Numbered first (m ∷ older) = (m.serial ≡ first + length older) × Numbered first older

-- The packets of the session's last fragment, which no other follows.
abbrev pub last_packets : ℕ → History → List Turn
last_packets s log = kept (λ x. nat_eq x.number 0) (turns_of s log)

-- ACK or out of step settles a fragment.
abbrev pub settles : Option Code → Bool
settles None = false
settles (Some Ack) = true
settles (Some (AckSelective set)) = false
settles (Some FullRetry) = false
settles (Some OutOfStep) = true

-- Each turn had the air's next fate: the first turn its first.
abbrev pub FromAir : (ℕ → Fate) → List Turn → Type 0
FromAir fates [] = Unit {0}
FromAir fates (x ∷ older) = (x.fate ≡ fates (length older)) × FromAir fates older

-- Marks of a hearing

-- An alteration that counts: of a record and a place that are there, in a record that doesn't come bad, with a mask that changes the octet.
pub record Altered (t : Terms) (x : Turn) (h : Hearing) (a : Alteration) : Type 0 where
  pub marked : h.alteration ≡ Some a
  pub there : a.«record» < length x.blocks
  pub inside : a.place < t.block
  pub good : comes_bad h a.«record» ≡ false
  pub changes : a.mask % 256 ≢ 0

abbrev pub Unaltered : Terms → Turn → Hearing → Type 0
Unaltered t x h = (a : Alteration) → Altered t x h a → ⊥

-- In all hearings of one fragment, what is altered is one octet of one block.
abbrev pub AtOneOctet : Terms → History → Type 0
AtOneOctet t log =
    (s number : ℕ) → (block place : ℕ)
    × ((x : Turn) → Has x (turns_in log) → x.serial ≡ s → x.number ≡ number
    → Every (λ h. (a : Alteration) → Altered t x h a → (slice_index x.blocks a.«record» ≡ block) × (a.place ≡ place)) (listed x.fate.heard))

-- A turn goes through: heard once, no record bad, none altered, the response heard.
pub record Through (t : Terms) (x : Turn) : Type 0 where
  pub hearing : Hearing
  pub once : listed x.fate.heard ≡ hearing ∷ []
  pub none_bad : (i : ℕ) → i < length x.blocks → comes_bad hearing i ≡ false
  pub unaltered : Unaltered t x hearing
  pub replied : hearing.reply ≡ true

-- No wait runs out in it, and it is neither repeated nor altered.
pub record Calm (t : Terms) (x : Turn) : Type 0 where
  pub no_wait : x.fate.wait ≡ false
  pub unrepeated : length (listed x.fate.heard) ≤ 1
  pub unaltered : Every (Unaltered t x) (listed x.fate.heard)

-- At least one of every R + 1 turns in a row goes through.
abbrev pub OneOfEach : Terms → ℕ → List Turn → Type 0
OneOfEach t R xs = (newer row older : List Turn) → xs ≡ newer ++ (row ++ older) → length row ≡ suc R → Any (Through t) row

-- What holds of every history of a pair whose alterations that count are, in each fragment, at one octet.
pub record Agreement (t : Terms) (o : Origin) (log : History) : Type 0 where
  -- what is handed up was started, with the same octets; in the order of the starts, and each at most once
  pub handed_up_in_order : Within (handed_up_in log) (started_in log)
  -- serials rise by one from the first
  pub serials_rise : Numbered o.first (started_in log)
  -- a report is of a session that was started
  pub reported_was_started : (s packets : ℕ) (outcome : Outcome) → Reported s outcome packets log → (octets : List ℕ) × Started s octets log
  -- by the time that a session is reported delivered, its message was handed up
  pub delivered_was_handed_up : (s packets : ℕ) (later earlier : History) → log ≡ later ++ earlier → Reported s Delivered packets earlier → HandedUp s earlier
  -- the message of a session reported not-delivered is handed up nowhere
  pub not_delivered_never : (s packets : ℕ) → Reported s NotDelivered packets log → HandedUp s log → ⊥
  -- a session is reported unknown exactly when R + 1 packets of its last fragment went out and none was settled
  pub unknown_exactly_when : (s : ℕ)
      → ((packets : ℕ) × Reported s Unknown packets log)
      ↔ ((length (last_packets s log) ≡ suc o.limit) × Every (λ (x : Turn). settles x.code ≡ false) (last_packets s log))
  -- the packets of a report are the turns of its session, at most R + 1 for each fragment
  pub packets_are_turns : (s packets : ℕ) (outcome : Outcome) (octets : List ℕ) → Reported s outcome packets log → Started s octets log
      → (packets ≡ length (turns_of s log)) × (packets ≤ count_of t (length octets) * suc o.limit)
  -- a session without a report took fewer
  pub open_took_fewer : (s : ℕ) (octets : List ℕ) → Started s octets log → ((packets : ℕ) (outcome : Outcome) → Reported s outcome packets log → ⊥)
      → length (turns_of s log) < count_of t (length octets) * suc o.limit
  -- a session ends delivered if the store holds its stream, no turn of it was repeated or altered, no wait ran out, and of every R + 1 turns one went through
  pub progress : (s packets : ℕ) (outcome : Outcome) (octets : List ℕ) → Reported s outcome packets log → Started s octets log
      → length octets + 4 ≤ o.room → Every (Calm t) (turns_of s log) → OneOfEach t o.limit (turns_of s log) → outcome ≡ Delivered
  -- each turn took the air's next fate
  pub next_fates : FromAir o.fates (turns_in log)

-- Every history of a pair on this carrier, with this check.
abbrev pub HistoriesAgree : Terms → (List ℕ → ℕ) → Type 0
HistoriesAgree t number = (o : Origin) (log : History) (w : World) → Reached t number o log w → AtOneOctet t log → Agreement t o log

-- A call leads from one world to another and leaves one event: whatever history led here goes on with it, and agrees.
abbrev pub Goes : Terms → (List ℕ → ℕ) → World → Event → World → Type 0
Goes t number w e w' =
    (o : Origin) (log : History) → Reached t number o log w
    → Reached t number o (e ∷ log) w' × (AtOneOctet t (e ∷ log) → Agreement t o (e ∷ log))
