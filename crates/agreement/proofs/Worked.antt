-- Histories that come to each outcome, and the laws of both carriers and both checks.
use Rattle.std.proofs.Common.{◌≡◌, ℕ, List, [], ◌∷◌, length, get_or, replicate, Some, None, Ok, Err, Option, Result, sym, refl, ◌∙◌, subst, inl, inr, arith, lit<}
use Rattle.fault.specs.declared.EndFault.{EndFault}
use Rattle.fragment.specs.Carriers.{Terms, Sound, data_call, voice_along_call}
use Rattle.check32.specs.Addition.{add_step, sum_of}
use Rattle.check32.specs.Division.{all_ones, bit_step, bit_steps, octet_step, polynomial_of}
use Rattle.check32.specs.Adding.{faithful-add}
use Rattle.check32.specs.OneOctet.{read_small, one-octet}
use Rattle.check32.specs.Register.{faithful-octet}
use Rattle.packet.specs.declared.values.Blocks.TheVariants.{All}
use Rattle.sender.specs.declared.values.Base.{Base}
use Rattle.sender.specs.declared.values.Session.{Session}
use Rattle.sender.specs.declared.values.Outcome.{Outcome}
use Rattle.sender.specs.declared.values.Outcome.TheVariants.{Delivered, NotDelivered, Unknown}
use Rattle.sender.specs.declared.values.Report.{Report}
use Rattle.sender.specs.Steps.{start_of}
use Rattle.receiver.specs.Calls.{fresh_state}
use Rattle.air.specs.declared.fate.Alteration.{Alteration}
use Rattle.air.specs.declared.fate.Fate.{Fate}
use Rattle.air.specs.declared.fate.Hearing.{Hearing}
use Rattle.air.specs.Fates.{clear, silent}
use Rattle.air.specs.Few.{listed}
use Rattle.agreement.specs.Turns.{Pair, Turned, turn_of}
use Rattle.agreement.specs.Histories.{Message, Turn, started, turned, History, Origin, report_in, note_of, left_by, with_base, Every, Octets, fresh, start, turn}
use Rattle.agreement.specs.Agreement.{Has, Altered, AtOneOctet}
use Rattle.agreement.specs.Instances.{OfAll, ComesTo, Speaks}
use Rattle.agreement.proofs.Ties.{Lawful}
use Rattle.agreement.proofs.Basics.{clash}
use Rattle.agreement.proofs.Agreed.{history-agrees}

-- The report of a turn.
abbrev report_by : Result Turned EndFault → Option Report
report_by (Ok r) = report_in r.stepped
report_by (Err fault) = None

there : (x : Result Turned EndFault) (report : Report) → report_by x ≡ Some report → (r : Turned) × (x ≡ Ok r) × (report_in r.stepped ≡ Some report)
there (Ok r) report e = (r, refl, e)
there (Err fault) report e = clash cc

none-altered : (t : Terms) (x : Turn) (hs : List Hearing) → Every (λ h. h.alteration ≡ None) hs
    → Every (λ h. (a : Alteration) → Altered t x h a → (get_or x.blocks a.«record» 0 ≡ 0) × (a.place ≡ 0)) hs
none-altered t x [] e = tt
none-altered t x (h ∷ hs) e = ((λ a al. clash (let z = sym e.0 ∙ al.marked in cc)), none-altered t x hs e.1)

-- A history whose only turn is unaltered.
at-one-octet : (t : Terms) (x : Turn) (m : Message) → Every (λ h. h.alteration ≡ None) (listed x.fate.heard) → AtOneOctet t (turned x ∷ (started m ∷ []))
at-one-octet t x m quiet s n = (0, 0, λ y h _ _. none-altered t y (listed y.fate.heard) (same y h))
  where
    same : (y : Turn) → Has y (x ∷ []) → Every (λ h. h.alteration ≡ None) (listed y.fate.heard)
    same y (inl e) = subst (λ (z : Turn). Every (λ h. h.alteration ≡ None) (listed z.fate.heard)) (sym e) quiet
    same y (inr e) = absurd e

-- A pair with retry limit 0, first serial 7 and a store of 5 octets, whose every turn has one fate.
abbrev origin : Fate → Origin
origin fate = record { limit = 0; first = 7; room = 5; fates = λ _. fate }

abbrev base : Base
base = record { route = record { source = 1; destination = 2 }; limit = 0; next = Some 7 }

abbrev pair : Fate → Pair
pair fate = record { base = base; route = record { source = 2; destination = 1 }; state = fresh_state; store = replicate 5 0; fates = λ _. fate }

abbrev later : Base
later = record { route = record { source = 1; destination = 2 }; limit = 0; next = Some 8 }

abbrev session : List ℕ → Session
session m = record { serial = 7; length = length m; number = 0; blocks = All; used = 0; packets = 0 }

-- One message, one turn, one report.
comes-to : (t : Terms) (number : List ℕ → ℕ) (fate : Fate) (m : List ℕ) (outcome : Outcome) → Octets m → Every (λ h. h.alteration ≡ None) (listed fate.heard)
    → start_of t base (length m) ≡ Ok (later, session m)
    → report_by (turn_of t number (with_base later (pair fate)) (session m) m) ≡ Some (record { serial = 7; outcome = outcome; packets = 1 }) → ComesTo outcome t number
comes-to t number fate m outcome octets quiet began ended =
    let r = there (turn_of t number (with_base later (pair fate)) (session m) m) (record { serial = 7; outcome = outcome; packets = 1 }) ended in
    let x : Turn = note_of t (with_base later (pair fate)) (session m) r.0 in
    let log : History = turned x ∷ (started (record { serial = 7; octets = m }) ∷ []) in (
      origin fate,
      log,
      left_by r.0.pair m r.0.stepped,
      turn (started (record { serial = 7; octets = m }) ∷ []) (with_base later (pair fate)) (session m) m r.0 r.1
          (start [] (pair fate) m later (session m) octets began (fresh 1 2 base fresh_state (replicate 5 0) (omega arith) (omega arith) (omega arith) refl refl refl)),
      at-one-octet t x (record { serial = 7; octets = m }) quiet,
      7,
      1,
      inl r.2,
    )

abbrev one : List ℕ
one = 65 ∷ []

-- Its stream has one octet more than the store.
abbrev two : List ℕ
two = 65 ∷ (66 ∷ [])

delivered : OfAll (ComesTo Delivered)
unfolding bit_step bit_steps octet_step
delivered = (
  comes-to data_call polynomial_of clear one Delivered (omega arith, tt) (refl, tt) refl refl,
  comes-to data_call sum_of clear one Delivered (omega arith, tt) (refl, tt) refl refl,
  comes-to voice_along_call polynomial_of clear one Delivered (omega arith, tt) (refl, tt) refl refl,
  comes-to voice_along_call sum_of clear one Delivered (omega arith, tt) (refl, tt) refl refl,
)

not_delivered : OfAll (ComesTo NotDelivered)
unfolding bit_step bit_steps octet_step
not_delivered = (
  comes-to data_call polynomial_of clear two NotDelivered (omega arith, (omega arith, tt)) (refl, tt) refl refl,
  comes-to data_call sum_of clear two NotDelivered (omega arith, (omega arith, tt)) (refl, tt) refl refl,
  comes-to voice_along_call polynomial_of clear two NotDelivered (omega arith, (omega arith, tt)) (refl, tt) refl refl,
  comes-to voice_along_call sum_of clear two NotDelivered (omega arith, (omega arith, tt)) (refl, tt) refl refl,
)

unknown : OfAll (ComesTo Unknown)
unknown = (
  comes-to data_call polynomial_of silent one Unknown (omega arith, tt) tt refl refl,
  comes-to data_call sum_of silent one Unknown (omega arith, tt) tt refl refl,
  comes-to voice_along_call polynomial_of silent one Unknown (omega arith, tt) tt refl refl,
  comes-to voice_along_call sum_of silent one Unknown (omega arith, tt) tt refl refl,
)

pub data-sound : Sound data_call
data-sound = record { some_octets = omega arith; few_octets = omega arith; some_fragments = omega arith; few_fragments = omega arith; single = λ e. clash cc }

pub voice-sound : Sound voice_along_call
voice-sound = record { some_octets = omega arith; few_octets = omega arith; some_fragments = omega arith; few_fragments = omega arith; single = λ e. refl }

pub lawful-polynomial : (t : Terms) → Sound t → Lawful t polynomial_of
lawful-polynomial t sound =
    record { sound = sound; small = read_small octet_step faithful-octet all_ones (lit< tt); single = one-octet octet_step faithful-octet all_ones (lit< tt) }

pub lawful-sum : (t : Terms) → Sound t → Lawful t sum_of
lawful-sum t sound = record { sound = sound; small = read_small add_step faithful-add 0 (lit< tt); single = one-octet add_step faithful-add 0 (lit< tt) }

pub speaks : Speaks
speaks =
    record {
      agree = (
        history-agrees data_call polynomial_of (lawful-polynomial data_call data-sound),
        history-agrees data_call sum_of (lawful-sum data_call data-sound),
        history-agrees voice_along_call polynomial_of (lawful-polynomial voice_along_call voice-sound),
        history-agrees voice_along_call sum_of (lawful-sum voice_along_call voice-sound),
      );
      delivered = delivered;
      not_delivered = not_delivered;
      unknown = unknown;
    }
