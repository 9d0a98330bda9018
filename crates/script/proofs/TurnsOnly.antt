-- What is read as a turn is written as that turn.
use Rattle.std.proofs.Common.{◌≡◌, ℕ, zero, suc, ◌+◌, ◌-◌, ◌*◌, ◌/◌, ◌%◌, ◌^◌, ◌<◌, ◌≤◌, Bool, true, false, eqb, leb, List, ◌++◌, Some, None, codes, Option, sym, refl, ap, ◌∙◌, subst, inl, inr, add-zero, mod-eq_of_lt, zero-add, arith}
use Rattle.std.proofs.lemmas.Option.{same_Some}
use native.Mathlib.Nat.{div-eq_of_lt}
use Rattle.std.proofs.lemmas.Nat.{mod_below, pow_pos}
use Rattle.std.proofs.lemmas.Bool.{cond-true, cond-false, cases_eq, eq-eqb, ne_eqb, eqb-false, leb-true, le-leb, lt-ltb, and_from}
use Rattle.air.specs.declared.fate.Alteration.{Alteration}
use Rattle.air.specs.declared.fate.Fate.{Fate}
use Rattle.air.specs.declared.fate.Hearing.{Hearing}
use Rattle.air.specs.declared.few.UpToThree.{UpToThree}
use Rattle.script.specs.Words.{read_on, past, optional, figure_to, next_figure, closed, is_end}
use Rattle.script.specs.Turns.{ascending, records_from, some_bad, bad_of, masked, altered, alteration_of, replied, heard, hearing_of, third, second, first, hearings_of, ended, waited, turn_of}
use Rattle.script.specs.Written.{item_before, word_before, is_bad, records_before, bad_before, alteration_before, hearing_before, hearings_before, turn_line, alteration_fits, hearing_fits, hearings_fit}
use Rattle.script.proofs.Came.{read-on, if-there, kept-only, not_none, past-only, optional-only, after-only, closed-only, end-only, figure-to-only, next-only}
use Rattle.script.proofs.Records.{pow_mono, record-room}
use Rattle.script.proofs.TurnsBack.{low_bits}

-- Bits

bit-zero : (b bad i : ℕ) → bad < 2 ^ i → b % 2 ^ (i + 1) ≡ bad → (is_bad b i ≡ false) × (b % 2 ^ i ≡ bad)
bit-zero b bad i low e =
    let rest = mod_below b (2 ^ i) (pow_pos i) in
    elim (cases_eq (b / 2 ^ i % 2) 1) [
      | inl one ↦
          (let split : b % 2 ^ (i + 1) ≡ 1 * 2 ^ i + b % 2 ^ i = low_bits b i ∙ ap (λ n. n * 2 ^ i + b % 2 ^ i) one in absurd (omega arith))
      | inr other ↦
          (let none : b / 2 ^ i % 2 ≡ 0 = omega arith in
          let split : b % 2 ^ (i + 1) ≡ 0 * 2 ^ i + b % 2 ^ i = low_bits b i ∙ ap (λ n. n * 2 ^ i + b % 2 ^ i) none in
          (ne_eqb (b / 2 ^ i % 2) 1 other, omega arith))
    ]

bit-one : (b bad i : ℕ) → bad < 2 ^ i → b % 2 ^ (i + 1) ≡ bad + 2 ^ i → (is_bad b i ≡ true) × (b % 2 ^ i ≡ bad)
bit-one b bad i low e =
    let rest = mod_below b (2 ^ i) (pow_pos i) in
    elim (cases_eq (b / 2 ^ i % 2) 1) [
      | inl one ↦
          (let split : b % 2 ^ (i + 1) ≡ 1 * 2 ^ i + b % 2 ^ i = low_bits b i ∙ ap (λ n. n * 2 ^ i + b % 2 ^ i) one in
          (eq-eqb (b / 2 ^ i % 2) 1 one, omega arith))
      | inr other ↦
          (let none : b / 2 ^ i % 2 ≡ 0 = omega arith in
          let split : b % 2 ^ (i + 1) ≡ 0 * 2 ^ i + b % 2 ^ i = low_bits b i ∙ ap (λ n. n * 2 ^ i + b % 2 ^ i) none in
          absurd (omega arith))
    ]

-- Bad records

one_less : (n i bad : ℕ) (text : List ℕ) → is_bad bad i ≡ false → records_before (suc n) i bad text ≡ records_before n (i + 1) bad text
unfolding records_before
one_less n i bad text e = cond-false (is_bad bad i) (item_before i (records_before n (i + 1) bad text)) (records_before n (i + 1) bad text) e

one_more : (n i bad : ℕ) (text : List ℕ) → is_bad bad i ≡ true → records_before (suc n) i bad text ≡ item_before i (records_before n (i + 1) bad text)
unfolding records_before
one_more n i bad text e = cond-true (is_bad bad i) (item_before i (records_before n (i + 1) bad text)) (records_before n (i + 1) bad text) e

no-records : (n i bad : ℕ) (text : List ℕ) → bad < 2 ^ i → records_before n i bad text ≡ text
unfolding records_before
no-records zero i bad text low = refl
no-records (suc n) i bad text low =
    let up = pow_mono i (i + 1) (omega arith) in
    one_less n i bad text (ap (λ q. eqb (q % 2) 1) (div-eq_of_lt low)) ∙ no-records n (i + 1) bad text (omega arith)

-- Records that are not there are passed over.
skipped : (n d least b bad : ℕ) (text : List ℕ) → bad < 2 ^ least → b % 2 ^ (least + d) ≡ bad
    → (records_before (d + n) least b text ≡ records_before n (least + d) b text) × (b % 2 ^ least ≡ bad)
skipped n zero least b bad text low e =
    let none : least + 0 ≡ least = add-zero least in (
      ap (λ k. records_before k least b text) (zero-add n) ∙ ap (λ k. records_before n k b text) (sym none),
      ap (λ k. b % 2 ^ k) (sym none) ∙ e,
    )
skipped n (suc d) least b bad text low e =
    let above : least + 1 + d ≡ least + suc d = omega arith in
    let up = pow_mono least (least + 1) (omega arith) in
    let more = skipped n d (least + 1) b bad text (omega arith) (ap (λ k. b % 2 ^ k) above ∙ e) in
    let bit = bit-zero b bad least low more.1 in
    let count : suc d + n ≡ suc (d + n) = omega arith in (
      ap (λ k. records_before k least b text) count ∙ one_less (d + n) least b text bit.0 ∙ more.0 ∙ ap (λ k. records_before n k b text) above,
      bit.1,
    )

-- The text is that of records from `least` on, behind the bad ones below.
abbrev RecordsAre : ℕ → ℕ → List ℕ → ℕ × List ℕ → Type 0
RecordsAre least bad text p = (text ≡ records_before (16 - least) least p.0 p.1) × (p.0 % 2 ^ least ≡ bad) × (p.0 < 65536)

none_left : (least bad : ℕ) (text : List ℕ) (p : ℕ × List ℕ) → bad < 2 ^ least → least ≤ 16 → (bad, text) ≡ p → RecordsAre least bad text p
none_left least bad text p low few same =
    let high = pow_mono least 16 few in
    let most : 2 ^ 16 ≡ 65536 = refl in
    subst (λ (q : ℕ × List ℕ). RecordsAre least bad text q) same (sym (no-records (16 - least) least bad text low), mod-eq_of_lt low, omega arith)

one_left : (least bad : ℕ) (text : List ℕ) (q p : ℕ × List ℕ) → bad < 2 ^ least → least ≤ q.0 → q.0 ≤ 15 → text ≡ item_before q.0 q.1
    → RecordsAre (q.0 + 1) (bad + 2 ^ q.0) q.1 p → RecordsAre least bad text p
one_left least bad text q p low up few here rest =
    let i = q.0 in
    let power = pow_mono least i up in
    let bit = bit-one p.0 bad i (omega arith) rest.1 in
    let between : least + (i - least) ≡ i = omega arith in
    let count : (i - least) + (16 - i) ≡ 16 - least = omega arith in
    let left : suc (16 - (i + 1)) ≡ 16 - i = omega arith in
    let passed = skipped (16 - i) (i - least) least p.0 bad p.1 low (ap (λ k. p.0 % 2 ^ k) between ∙ bit.1) in (
      here ∙ ap (item_before i) rest.0 ∙ sym (one_more (16 - (i + 1)) i p.0 p.1 bit.0)
          ∙ ap (λ n. records_before n i p.0 p.1) left ∙ ap (λ k. records_before (16 - i) k p.0 p.1) (sym between)
          ∙ sym passed.0 ∙ ap (λ n. records_before n least p.0 p.1) count,
      passed.1,
      rest.2,
    )

records-only : (m least bad : ℕ) (text : List ℕ) (p : ℕ × List ℕ) → bad < 2 ^ least → least ≤ 16 → records_from m least bad text ≡ Some p → RecordsAre least bad text p
unfolding records_from
records-only zero least bad text p low few e = none_left least bad text p low few (same_Some _ _ e)
records-only (suc m) least bad text p low few e =
    elim (if-there (past (codes " ") text) (bad, text)
    (λ more. read_on (read_on (figure_to 15 more) (ascending least)) (λ q. records_from m (q.0 + 1) (bad + 2 ^ q.0) q.1)) p e) [
      | inl n ↦ none_left least bad text p low few n.1
      | inr s ↦
          (let a = read-on (read_on (figure_to 15 s.0) (ascending least)) (λ q. records_from m (q.0 + 1) (bad + 2 ^ q.0) q.1) p s.2 in
          let b = read-on (figure_to 15 s.0) (ascending least) a.0 a.1 in
          let k = kept-only (leb least b.0.0) (Some b.0) a.0 b.2 in
          let f = figure-to-only 15 s.0 b.0 b.1 in
          let up = leb-true least b.0.0 k.0 in
          let room = record-room least bad b.0.0 low up f.1 in
          let on = subst (λ (q : ℕ × List ℕ). records_from m (q.0 + 1) (bad + 2 ^ q.0) q.1 ≡ Some p) (sym (same_Some _ _ k.1)) a.2 in
          let few-more : b.0.0 + 1 ≤ 16 = omega (arith, f.1) in
          one_left least bad text b.0 p low up f.1 (past-only (codes " ") text s.0 s.1 ∙ ap (λ l. codes " " ++ l) f.0)
          (records-only m (b.0.0 + 1) (bad + 2 ^ b.0.0) b.0.1 p room.0 few-more on))
    ]

abbrev BadIs : List ℕ → ℕ × List ℕ → Type 0
BadIs text p = (text ≡ bad_before p.0 p.1) × (p.0 < 65536)

bad-only : (text : List ℕ) (p : ℕ × List ℕ) → bad_of text ≡ Some p → BadIs text p
bad-only text p e =
    elim (if-there (past (codes " (bad") text) (0, text) (λ rest. read_on (records_from 16 0 0 rest) some_bad) p e) [
      | inl n ↦ (let none : BadIs text (0, text) = (refl, omega arith) in subst (λ (q : ℕ × List ℕ). BadIs text q) n.1 none)
      | inr s ↦
          (let a = read-on (records_from 16 0 0 s.0) some_bad p s.2 in
          let q = a.0 in
          let k = not_none (eqb q.0 0) _ p a.2 in
          let c = closed-only q p k.1 in
          let r = records-only 16 0 0 s.0 q (omega arith) (omega arith) a.1 in
          let same : eqb p.0 0 ≡ false = subst (λ (n : ℕ). eqb n 0 ≡ false) c.0 k.0 in (
            past-only (codes " (bad") text s.0 s.1 ∙ ap (λ l. codes " (bad" ++ l) r.0
                ∙ ap (λ n. codes " (bad" ++ records_before 16 0 n q.1) c.0 ∙ ap (λ l. codes " (bad" ++ records_before 16 0 p.0 l) c.1
                ∙ sym (cond-false (eqb p.0 0) p.1 (codes " (bad" ++ records_before 16 0 p.0 (codes ")" ++ p.1)) same),
            subst (λ (n : ℕ). n < 65536) c.0 r.2,
          ))
    ]

-- Alterations

abbrev AlterationIs : List ℕ → Option Alteration × List ℕ → Type 0
AlterationIs text p = (text ≡ alteration_before p.0 p.1) × (alteration_fits p.0 ≡ true)

alteration-fits : (a : Alteration) → a.«record» ≤ 15 → a.place ≤ 19 → (eqb a.mask 0 ≡ false) → a.mask ≤ 255 → alteration_fits (Some a) ≡ true
alteration-fits a f p some high =
    let ne = eqb-false a.mask 0 some in
    and_from _ _ (le-leb a.«record» 15 f) (and_from _ _ (le-leb a.place 19 p) (and_from _ _ (le-leb 1 a.mask (omega arith)) (le-leb a.mask 255 high)))

mask-only : (numbered place : ℕ) (mask : ℕ × List ℕ) (p : Alteration × List ℕ) → numbered ≤ 15 → place ≤ 19 → mask.0 ≤ 255
    → masked numbered place mask ≡ Some p → AlterationIs (codes " (alter" ++ item_before numbered (item_before place (item_before mask.0 mask.1))) (Some p.0, p.1)
mask-only numbered place mask p f g h e =
    let a : Alteration = record { «record» = numbered; place = place; mask = mask.0 } in
    let k = not_none (eqb mask.0 0) (closed (a, mask.1)) p e in
    let d = closed-only (a, mask.1) p k.1 in (
      ap (λ l. codes " (alter" ++ item_before numbered (item_before place (item_before mask.0 l))) d.1 ∙ ap (λ o. alteration_before (Some o) p.1) d.0,
      subst (λ (o : Alteration). alteration_fits (Some o) ≡ true) d.0 (alteration-fits a f g k.0 h),
    )

from-mask : (numbered place : ℕ) (text : List ℕ) (p : Alteration × List ℕ) → numbered ≤ 15 → place ≤ 19
    → read_on (next_figure 255 text) (masked numbered place) ≡ Some p → AlterationIs (codes " (alter" ++ item_before numbered (item_before place text)) (Some p.0, p.1)
from-mask numbered place text p f g e =
    let a = read-on (next_figure 255 text) (masked numbered place) p e in
    let h = next-only 255 text a.0 a.1 in
    let m = mask-only numbered place a.0 p f g h.1 a.2 in
    (ap (λ l. codes " (alter" ++ item_before numbered (item_before place l)) h.0 ∙ m.0, m.1)

from_place : (numbered : ℕ) (text : List ℕ) (p : Alteration × List ℕ) → numbered ≤ 15
    → read_on (next_figure 19 text) (λ place. read_on (next_figure 255 place.1) (masked numbered place.0)) ≡ Some p
    → AlterationIs (codes " (alter" ++ item_before numbered text) (Some p.0, p.1)
from_place numbered text p f e =
    let a = read-on (next_figure 19 text) (λ place. read_on (next_figure 255 place.1) (masked numbered place.0)) p e in
    let g = next-only 19 text a.0 a.1 in
    let m = from-mask numbered a.0.0 a.0.1 p f g.1 a.2 in
    (ap (λ l. codes " (alter" ++ item_before numbered l) g.0 ∙ m.0, m.1)

altered-only : (rest : List ℕ) (p : Alteration × List ℕ) → altered rest ≡ Some p → AlterationIs (codes " (alter " ++ rest) (Some p.0, p.1)
altered-only rest p e =
    let a = read-on (figure_to 15 rest) (λ numbered. read_on (next_figure 19 numbered.1) (λ place. read_on (next_figure 255 place.1) (masked numbered.0 place.0))) p e in
    let f = figure-to-only 15 rest a.0 a.1 in
    let m = from_place a.0.0 a.0.1 p f.1 a.2 in
    (ap (λ l. codes " (alter " ++ l) f.0 ∙ m.0, m.1)

alteration-only : (text : List ℕ) (p : Option Alteration × List ℕ) → alteration_of text ≡ Some p → AlterationIs text p
alteration-only text p e =
    elim (after-only (codes " (alter ") altered text p e) [
      | inl n ↦ (let none : AlterationIs text (None, text) = (refl, refl) in subst (λ (q : Option Alteration × List ℕ). AlterationIs text q) n none)
      | inr s ↦
          (let m = altered-only s.0 s.1 s.3 in
          let some : AlterationIs text (Some s.1.0, s.1.1) = (s.2 ∙ m.0, m.1) in
          subst (λ (q : Option Alteration × List ℕ). AlterationIs text q) s.4 some)
    ]

-- Hearings

abbrev maybe_before : Option Hearing → List ℕ → List ℕ
maybe_before None text = text
maybe_before (Some h) text = hearing_before h text

abbrev maybe_fits : Option Hearing → Bool
maybe_fits None = true
maybe_fits (Some h) = hearing_fits h

abbrev HearingIs : List ℕ → Option Hearing × List ℕ → Type 0
HearingIs text p = (text ≡ maybe_before p.0 p.1) × (maybe_fits p.0 ≡ true)

heard-only : (text rest : List ℕ) (p : Hearing × List ℕ) → text ≡ codes " (heard" ++ rest → heard rest ≡ Some p → HearingIs text (Some p.0, p.1)
heard-only text rest p here e =
    let a = read-on (bad_of rest) (λ bad. read_on (alteration_of bad.1) (λ alteration.
    replied bad.0 alteration.0 (optional (past (codes " (reply)") alteration.1) alteration.1))) p e in
    let b = read-on (alteration_of a.0.1) (λ alteration.
    replied a.0.0 alteration.0 (optional (past (codes " (reply)") alteration.1) alteration.1)) p a.2 in
    let o = optional (past (codes " (reply)") b.0.1) b.0.1 in
    let d = closed-only _ p b.2 in
    let f = bad-only rest a.0 a.1 in
    let g = alteration-only a.0.1 b.0 b.1 in
    let h = optional-only (codes " (reply)") b.0.1 in
    let fits : hearing_fits (record { bad = a.0.0; alteration = b.0.0; reply = o.0 }) ≡ true = and_from _ _ (lt-ltb a.0.0 65536 f.1) g.1 in (
      here ∙ ap (λ l. codes " (heard" ++ l) f.0 ∙ ap (λ l. codes " (heard" ++ bad_before a.0.0 l) g.0
          ∙ ap (λ l. codes " (heard" ++ bad_before a.0.0 (alteration_before b.0.0 l)) h
          ∙ ap (λ l. codes " (heard" ++ bad_before a.0.0 (alteration_before b.0.0 (word_before o.0 (codes " (reply)") l))) d.1
          ∙ ap (λ x. hearing_before x p.1) d.0,
      subst (λ (x : Hearing). hearing_fits x ≡ true) d.0 fits,
    )

hearing-only : (text : List ℕ) (p : Option Hearing × List ℕ) → hearing_of text ≡ Some p → HearingIs text p
hearing-only text p e =
    elim (after-only (codes " (heard") heard text p e) [
      | inl n ↦ (let none : HearingIs text (None, text) = (refl, refl) in subst (λ (q : Option Hearing × List ℕ). HearingIs text q) n none)
      | inr s ↦ subst (λ (q : Option Hearing × List ℕ). HearingIs text q) s.4 (heard-only text s.0 s.1 s.2 s.3)
    ]

abbrev HearingsAre : List ℕ → UpToThree Hearing × List ℕ → Type 0
HearingsAre text p = (text ≡ hearings_before p.0 p.1) × (hearings_fit p.0 ≡ true)

third-only : (a b : Hearing) (q : Option Hearing × List ℕ) (p : UpToThree Hearing × List ℕ) → hearing_fits a ≡ true → hearing_fits b ≡ true → maybe_fits q.0 ≡ true
    → third a b q ≡ Some p → HearingsAre (hearing_before a (hearing_before b (maybe_before q.0 q.1))) p
third-only a b (None, text) p fa fb fc e =
    subst (λ (q : UpToThree Hearing × List ℕ). HearingsAre (hearing_before a (hearing_before b text)) q) (same_Some _ _ e) (refl, and_from _ _ fa fb)
third-only a b (Some c, text) p fa fb fc e =
    subst (λ (q : UpToThree Hearing × List ℕ). HearingsAre (hearing_before a (hearing_before b (hearing_before c text))) q) (same_Some _ _ e) (refl, and_from _ _ fa (and_from _ _ fb fc))

second-only : (a : Hearing) (q : Option Hearing × List ℕ) (p : UpToThree Hearing × List ℕ) → hearing_fits a ≡ true → maybe_fits q.0 ≡ true
    → second a q ≡ Some p → HearingsAre (hearing_before a (maybe_before q.0 q.1)) p
second-only a (None, text) p fa fb e = subst (λ (q : UpToThree Hearing × List ℕ). HearingsAre (hearing_before a text) q) (same_Some _ _ e) (refl, fa)
second-only a (Some b, text) p fa fb e =
    let r = read-on (hearing_of text) (third a b) p e in
    let h = hearing-only text r.0 r.1 in
    let t = third-only a b r.0 p fa fb h.1 r.2 in
    (ap (λ l. hearing_before a (hearing_before b l)) h.0 ∙ t.0, t.1)

first-only : (q : Option Hearing × List ℕ) (p : UpToThree Hearing × List ℕ) → maybe_fits q.0 ≡ true → first q ≡ Some p → HearingsAre (maybe_before q.0 q.1) p
first-only (None, text) p fa e = subst (λ (q : UpToThree Hearing × List ℕ). HearingsAre text q) (same_Some _ _ e) (refl, refl)
first-only (Some a, text) p fa e =
    let r = read-on (hearing_of text) (second a) p e in
    let h = hearing-only text r.0 r.1 in
    let t = second-only a r.0 p fa h.1 r.2 in
    (ap (λ l. hearing_before a l) h.0 ∙ t.0, t.1)

hearings-only : (text : List ℕ) (p : UpToThree Hearing × List ℕ) → hearings_of text ≡ Some p → HearingsAre text p
hearings-only text p e =
    let r = read-on (hearing_of text) first p e in
    let h = hearing-only text r.0 r.1 in
    let t = first-only r.0 p h.1 r.2 in
    (h.0 ∙ t.0, t.1)

-- Turns

abbrev TurnIs : List ℕ → Fate → Type 0
TurnIs line f = (line ≡ turn_line f) × (hearings_fit f.heard ≡ true)

pub turn-only : (line : List ℕ) (f : Fate) → turn_of line ≡ Some f → TurnIs line f
turn-only line f e =
    let a = read-on (past (codes "(turn") line) (λ text. waited (optional (past (codes " (wait)") text) text)) f e in
    let o = optional (past (codes " (wait)") a.0) a.0 in
    let b = read-on (hearings_of o.1) (ended o.0) f a.2 in
    let k = kept-only (is_end b.0.1) (Some (record { wait = o.0; heard = b.0.0 })) f b.2 in
    let h = hearings-only o.1 b.0 b.1 in
    let here : line ≡ turn_line (record { wait = o.0; heard = b.0.0 }) =
    past-only (codes "(turn") line a.0 a.1 ∙ ap (λ l. codes "(turn" ++ l) (optional-only (codes " (wait)") a.0)
    ∙ ap (λ l. codes "(turn" ++ word_before o.0 (codes " (wait)") l) h.0
    ∙ ap (λ l. codes "(turn" ++ word_before o.0 (codes " (wait)") (hearings_before b.0.0 l)) (end-only b.0.1 k.0) in
    subst (λ (g : Fate). TurnIs line g) (same_Some _ _ k.1) (here, h.1)
