-- A turn is read as it was written.
use Rattle.std.proofs.Common.{◌≡◌, ℕ, zero, suc, ◌+◌, ◌*◌, ◌/◌, ◌%◌, ◌^◌, ◌<◌, ◌≤◌, Bool, true, false, eqb, ltb, leb, List, ◌++◌, get_or, Some, None, codes, decimal, Option, sym, refl, ap, ◌∙◌, add_comm, arith}
use Rattle.std.proofs.lemmas.Nat.{mod-pow-add}
use Rattle.std.proofs.lemmas.Bool.{cond-false, cond_both, eqb-true, eqb-false, ne_eqb, leb-true, ltb-true, and_parts}
use Rattle.air.specs.declared.fate.Alteration.{Alteration}
use Rattle.air.specs.declared.fate.Hearing.{Hearing}
use Rattle.air.specs.declared.few.UpToThree.{UpToThree}
use Rattle.air.specs.declared.few.UpToThree.TheVariants.{Empty, One, Two, Three}
use Rattle.air.specs.declared.fate.Fate.{Fate}
use Rattle.script.specs.Words.{read_on, if_there, found, past, optional, is_digit, next_figure}
use Rattle.script.specs.Turns.{records_from, some_bad, bad_of, masked, altered, alteration_of, replied, heard, hearing_of, third, second, first, hearings_of, ended, waited, turn_of}
use Rattle.script.specs.Written.{line_end, item_before, word_before, is_bad, records_before, bad_before, alteration_before, hearing_before, hearings_before, turn_line, alteration_fits, hearing_fits, hearings_fit}
use Rattle.script.proofs.Figures.{figure-to-back, next-back}
use Rattle.script.proofs.Records.{record-more, records-end, records-all}

-- Bad records

-- The bits below i + 1 are those below i, and the i-th.
pub low_bits : (bad i : ℕ) → bad % 2 ^ (i + 1) ≡ bad / 2 ^ i % 2 * 2 ^ i + bad % 2 ^ i
low_bits bad i = ap (λ n. bad % 2 ^ n) (add_comm i 1) ∙ mod-pow-add bad 1 i

bit-there : (bad i : ℕ) → is_bad bad i ≡ true → bad % 2 ^ i + 2 ^ i ≡ bad % 2 ^ (i + 1)
bit-there bad i e =
    let one = eqb-true (bad / 2 ^ i % 2) 1 e in
    let split : bad % 2 ^ (i + 1) ≡ 1 * 2 ^ i + bad % 2 ^ i = low_bits bad i ∙ ap (λ b. b * 2 ^ i + bad % 2 ^ i) one in
    omega arith

bit-missing : (bad i : ℕ) → is_bad bad i ≡ false → bad % 2 ^ i ≡ bad % 2 ^ (i + 1)
bit-missing bad i e =
    let zero_bit : bad / 2 ^ i % 2 ≡ 0 = (let ne = eqb-false (bad / 2 ^ i % 2) 1 e in omega arith) in
    let split : bad % 2 ^ (i + 1) ≡ 0 * 2 ^ i + bad % 2 ^ i = low_bits bad i ∙ ap (λ b. b * 2 ^ i + bad % 2 ^ i) zero_bit in
    omega arith

-- No record stands behind the last one.

records-stop : (n i bad : ℕ) (rest : List ℕ) → is_digit (get_or rest 0 0) ≡ false → is_digit (get_or (records_before n i bad rest) 0 0) ≡ false
unfolding records_before
records-stop zero i bad rest stop = stop
records-stop (suc n) i bad rest stop =
    cond_both (is_bad bad i) (item_before i (records_before n (i + 1) bad rest)) (records_before n (i + 1) bad rest)
    (λ l. is_digit (get_or l 0 0) ≡ false) (λ e. refl) (λ e. records-stop n (i + 1) bad rest stop)

records-over : (m least bad : ℕ) (rest : List ℕ) → None ≡ past (codes " ") rest → records_from m least bad rest ≡ Some (bad, rest)
records-over zero least bad rest e = sym (records-all least bad rest)
records-over (suc m) least bad rest e = sym (records-end m least bad rest e)

records-back : (n i m least bad : ℕ) (rest : List ℕ) → i + n ≤ 16 → n ≤ m → least ≤ i → None ≡ past (codes " ") rest → is_digit (get_or rest 0 0) ≡ false
    → records_from m least (bad % 2 ^ i) (records_before n i bad rest) ≡ Some (bad % 2 ^ (i + n), rest)
unfolding records_before
records-back zero i m least bad rest few room up none stop =
    let same : i ≡ i + 0 = omega arith in
    records-over m least (bad % 2 ^ i) rest none ∙ ap (λ k. Some (bad % 2 ^ k, rest)) same
records-back (suc n) i zero least bad rest few room up none stop = absurd (omega arith)
records-back (suc n) i (suc m) least bad rest few room up none stop =
    let more = records_before n (i + 1) bad rest in
    let same : i + 1 + n ≡ i + suc n = omega arith in
    cond_both (is_bad bad i) (item_before i more) more
    (λ l. records_from (suc m) least (bad % 2 ^ i) l ≡ Some (bad % 2 ^ (i + suc n), rest))
    (λ e.
    sym (record-more m least (bad % 2 ^ i) i (item_before i more) _ more refl
    (sym (figure-to-back 15 i more (omega arith) (omega arith) (records-stop n (i + 1) bad rest stop))) up)
    ∙ ap (λ b. records_from m (i + 1) b more) (bit-there bad i e)
    ∙ records-back n (i + 1) m (i + 1) bad rest (omega arith) (omega arith) (omega arith) none stop
    ∙ ap (λ k. Some (bad % 2 ^ k, rest)) same)
    (λ e.
    ap (λ b. records_from (suc m) least b more) (bit-missing bad i e)
    ∙ records-back n (i + 1) (suc m) least bad rest (omega arith) (omega arith) (omega arith) none stop
    ∙ ap (λ k. Some (bad % 2 ^ k, rest)) same)

all-records : (bad : ℕ) (rest : List ℕ) → bad < 65536 → records_from 16 0 0 (records_before 16 0 bad (codes ")" ++ rest)) ≡ Some (bad, codes ")" ++ rest)
all-records bad rest h =
    let none : 0 ≡ bad % 2 ^ 0 = omega arith in
    let all : bad % 2 ^ 16 ≡ bad = omega arith in
    ap (λ b. records_from 16 0 b (records_before 16 0 bad (codes ")" ++ rest))) none
    ∙ records-back 16 0 16 0 bad (codes ")" ++ rest) (omega arith) (omega arith) (omega arith) refl refl
    ∙ ap (λ b. Some (b, codes ")" ++ rest)) all

bad-back : (bad : ℕ) (rest : List ℕ) → bad < 65536 → None ≡ past (codes " (bad") rest → bad_of (bad_before bad rest) ≡ Some (bad, rest)
bad-back bad rest h none =
    cond_both (eqb bad 0) rest (codes " (bad" ++ records_before 16 0 bad (codes ")" ++ rest)) (λ l. bad_of l ≡ Some (bad, rest))
    (λ e. ap (λ o. if_there o (0, rest) (λ more. read_on (records_from 16 0 0 more) some_bad)) (sym none) ∙ ap (λ b. Some (b, rest)) (sym (eqb-true bad 0 e)))
    (λ e. ap (λ o. read_on o some_bad) (all-records bad rest h) ∙ cond-false (eqb bad 0) None (Some (bad, rest)) e)

-- Alterations

altered-back : (a : Alteration) (rest : List ℕ) → a.«record» ≤ 15 → a.place ≤ 19 → 1 ≤ a.mask → a.mask ≤ 255
    → altered (decimal a.«record» ++ item_before a.place (item_before a.mask (codes ")" ++ rest))) ≡ Some (a, rest)
altered-back a rest f p low high =
    let placed = item_before a.place (item_before a.mask (codes ")" ++ rest)) in
    ap (λ o. read_on o (λ numbered. read_on (next_figure 19 numbered.1) (λ place. read_on (next_figure 255 place.1) (masked numbered.0 place.0))))
    (figure-to-back 15 a.«record» placed f (omega arith) refl)
    ∙ ap (λ o. read_on o (λ place. read_on (next_figure 255 place.1) (masked a.«record» place.0)))
    (next-back 19 a.place (item_before a.mask (codes ")" ++ rest)) p (omega arith) refl)
    ∙ ap (λ o. read_on o (masked a.«record» a.place)) (next-back 255 a.mask (codes ")" ++ rest) high (omega arith) refl)
    ∙ cond-false (eqb a.mask 0) None (Some (a, rest)) (ne_eqb a.mask 0 (λ e. omega arith))

alteration-back : (a : Option Alteration) (rest : List ℕ) → alteration_fits a ≡ true → None ≡ past (codes " (alter ") rest
    → alteration_of (alteration_before a rest) ≡ Some (a, rest)
alteration-back None rest fits none = ap (λ o. if_there o (None, rest) (λ more. read_on (altered more) found)) (sym none)
alteration-back (Some a) rest fits none =
    let one = and_parts (leb a.«record» 15) _ fits in
    let two = and_parts (leb a.place 19) _ one.1 in
    let three = and_parts (leb 1 a.mask) _ two.1 in
    ap (λ o. read_on o found) (altered-back a rest (leb-true _ 15 one.0) (leb-true _ 19 two.0) (leb-true 1 _ three.0) (leb-true _ 255 three.1))

-- Hearings

-- Behind the bad records stands an alteration, a reply or the end.
no-bad : (a : Option Alteration) (reply : Bool) (rest : List ℕ)
    → None ≡ past (codes " (bad") (alteration_before a (word_before reply (codes " (reply)") (codes ")" ++ rest)))
no-bad (Some a) reply rest = refl
no-bad None true rest = refl
no-bad None false rest = refl

no-alteration : (reply : Bool) (rest : List ℕ) → None ≡ past (codes " (alter ") (word_before reply (codes " (reply)") (codes ")" ++ rest))
no-alteration true rest = refl
no-alteration false rest = refl

reply-back : (bad : ℕ) (a : Option Alteration) (reply : Bool) (rest : List ℕ)
    → replied bad a (optional (past (codes " (reply)") (word_before reply (codes " (reply)") (codes ")" ++ rest))) (word_before reply (codes " (reply)") (codes ")" ++ rest)))
    ≡ Some (record { bad = bad; alteration = a; reply = reply }, rest)
reply-back bad a true rest = refl
reply-back bad a false rest = refl

heard-back : (h : Hearing) (rest : List ℕ) → hearing_fits h ≡ true
    → heard (bad_before h.bad (alteration_before h.alteration (word_before h.reply (codes " (reply)") (codes ")" ++ rest)))) ≡ Some (h, rest)
heard-back h rest fits =
    let parts = and_parts (ltb h.bad 65536) (alteration_fits h.alteration) fits in
    let end = word_before h.reply (codes " (reply)") (codes ")" ++ rest) in
    ap (λ o. read_on o (λ bad. read_on (alteration_of bad.1) (λ alteration.
    replied bad.0 alteration.0 (optional (past (codes " (reply)") alteration.1) alteration.1))))
    (bad-back h.bad (alteration_before h.alteration end) (ltb-true _ 65536 parts.0) (no-bad h.alteration h.reply rest))
    ∙ ap (λ o. read_on o (λ alteration. replied h.bad alteration.0 (optional (past (codes " (reply)") alteration.1) alteration.1)))
    (alteration-back h.alteration end parts.1 (no-alteration h.reply rest))
    ∙ reply-back h.bad h.alteration h.reply rest

hearing-back : (h : Hearing) (rest : List ℕ) → hearing_fits h ≡ true → hearing_of (hearing_before h rest) ≡ Some (Some h, rest)
hearing-back h rest fits = ap (λ o. read_on o found) (heard-back h rest fits)

hearings-back : (hs : UpToThree Hearing) → hearings_fit hs ≡ true → hearings_of (hearings_before hs line_end) ≡ Some (hs, line_end)
hearings-back Empty fits = refl
hearings-back (One a) fits = ap (λ o. read_on o first) (hearing-back a line_end fits)
hearings-back (Two a b) fits =
    let parts = and_parts (hearing_fits a) (hearing_fits b) fits in
    ap (λ o. read_on o first) (hearing-back a (hearing_before b line_end) parts.0)
    ∙ ap (λ o. read_on o (second a)) (hearing-back b line_end parts.1)
hearings-back (Three a b c) fits =
    let one = and_parts (hearing_fits a) _ fits in
    let two = and_parts (hearing_fits b) (hearing_fits c) one.1 in
    ap (λ o. read_on o first) (hearing-back a (hearing_before b (hearing_before c line_end)) one.0)
    ∙ ap (λ o. read_on o (second a)) (hearing-back b (hearing_before c line_end) two.0)
    ∙ ap (λ o. read_on o (third a b)) (hearing-back c line_end two.1)

no_wait : (hs : UpToThree Hearing) → None ≡ past (codes " (wait)") (hearings_before hs line_end)
no_wait Empty = refl
no_wait (One a) = refl
no_wait (Two a b) = refl
no_wait (Three a b c) = refl

wait-back : (wait : Bool) (hs : UpToThree Hearing)
    → optional (past (codes " (wait)") (word_before wait (codes " (wait)") (hearings_before hs line_end))) (word_before wait (codes " (wait)") (hearings_before hs line_end))
    ≡ (wait, hearings_before hs line_end)
wait-back true hs = refl
wait-back false hs = ap (λ o. optional o (hearings_before hs line_end)) (sym (no_wait hs))

pub turn-back : (f : Fate) → hearings_fit f.heard ≡ true → turn_of (turn_line f) ≡ Some f
turn-back f fits =
    ap waited (wait-back f.wait f.heard) ∙ ap (λ o. read_on o (ended f.wait)) (hearings-back f.heard fits)
