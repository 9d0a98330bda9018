-- The turns of one session: an open one, one more turn of it, and its report.
use Rattle.std.proofs.Common.{◌≡◌, ℕ, suc, ◌+◌, ◌-◌, ◌*◌, ◌<◌, ◌≤◌, Bool, true, false, eqb, ◌⊎◌, List, [], ◌∷◌, ◌++◌, length, Some, None, Option, sym, refl, ap, ◌∙◌, subst, inl, inr, mul-le-mul_right, arith}
use Rattle.std.proofs.lemmas.Bool.{eq-eqb, ne_eqb, cases_eq}
use Rattle.fragment.specs.Carriers.{Terms}
use Rattle.fragment.specs.Cutting.{count_of}
use Rattle.sender.specs.declared.values.Report.{Report}
use Rattle.sender.specs.declared.values.Outcome.{Outcome}
use Rattle.sender.specs.declared.values.Outcome.TheVariants.{Delivered, NotDelivered, Unknown}
use Rattle.agreement.specs.Histories.{Message, Turn, Every}
use Rattle.agreement.specs.Agreement.{Has, Any, kept, ups_in, settles, Calm, OneOfEach}
use Rattle.agreement.proofs.Basics.{clash, true≢false, every-older}

abbrev pub report_of : ℕ → Outcome → ℕ → Report
report_of s outcome packets = record { serial = s; outcome = outcome; packets = packets }

abbrev found : Option Report → Report
found None = record { serial = 0; outcome = Unknown; packets = 0 }
found (Some r) = r

abbrev pub Reports : ℕ → Outcome → ℕ → List Turn → Type 0
Reports s outcome packets xs = Any (λ (x : Turn). x.report ≡ Some (record { serial = s; outcome = outcome; packets = packets })) xs

abbrev pub Ups : ℕ → List Turn → Type 0
Ups s xs = Any (λ (m : Message). m.serial ≡ s) (ups_in xs)

-- The packets of the last fragment.
abbrev pub lasts : List Turn → List Turn
lasts xs = kept (λ x. eqb x.number 0) xs

abbrev pub Unsettled : Turn → Type 0
Unsettled x = settles x.code ≡ false

abbrev pub Unreported : Turn → Type 0
Unreported x = x.report ≡ None

-- What a turn may hand up: nothing, or the message m of session s, which was not up.
abbrev pub Grew : ℕ → List ℕ → Bool → Bool → List Message → List Message → Type 0
Grew s m u u' ups ups' =
    ((u' ≡ u) × (ups' ≡ ups)) ⊎ ((u ≡ false) × (u' ≡ true) × (ups' ≡ record { serial = s; octets = m } ∷ ups))

pub some-append : {A : Type 0} (P : A → Type 0) (newer older : List A) → Any P older → Any P (newer ++ older)
some-append P [] older h = h
some-append P (x ∷ newer) older h = inr (some-append P newer older h)

pub unreported : (s packets : ℕ) (outcome : Outcome) (xs : List Turn) → Every Unreported xs → Reports s outcome packets xs → ⊥
unreported s packets outcome [] e h = h
unreported s packets outcome (x ∷ xs) e (inl h) = clash (let z = sym e.0 ∙ h in cc)
unreported s packets outcome (x ∷ xs) e (inr h) = unreported s packets outcome xs e.1 h

lasts-zero : (x : Turn) (xs : List Turn) → x.number ≡ 0 → lasts (x ∷ xs) ≡ x ∷ lasts xs
lasts-zero x xs e = rw (eq-eqb x.number 0 e)

lasts-pos : (x : Turn) (xs : List Turn) → 0 < x.number → lasts (x ∷ xs) ≡ lasts xs
lasts-pos x xs h = rw (ne_eqb x.number 0 (λ e. omega arith))

-- What holds of the session with serial s, by its starts and turns.
pub record SessionOk (t : Terms) (limit room s : ℕ) (ms : List Message) (xs : List Turn) : Type 0 where
  pub began : (packets : ℕ) (outcome : Outcome) → Reports s outcome packets xs → (octets : List ℕ) × Has (record { serial = s; octets = octets }) ms
  pub delivered_up : (packets : ℕ) (newer older : List Turn) → xs ≡ newer ++ older → Reports s Delivered packets older → Ups s older
  pub never_up : (packets : ℕ) → Reports s NotDelivered packets xs → Ups s xs → ⊥
  pub unknown_when : (packets : ℕ) → Reports s Unknown packets xs → (length (lasts xs) ≡ suc limit) × Every Unsettled (lasts xs)
  pub unknown_then : length (lasts xs) ≡ suc limit → Every Unsettled (lasts xs) → (packets : ℕ) × Reports s Unknown packets xs
  pub counted : (packets : ℕ) (outcome : Outcome) (octets : List ℕ) → Reports s outcome packets xs → Has (record { serial = s; octets = octets }) ms
      → (packets ≡ length xs) × (packets ≤ count_of t (length octets) * suc limit)
  pub unfinished : (octets : List ℕ) → Has (record { serial = s; octets = octets }) ms → ((packets : ℕ) (outcome : Outcome) → Reports s outcome packets xs → ⊥)
      → length xs < count_of t (length octets) * suc limit
  pub progress : (packets : ℕ) (outcome : Outcome) (octets : List ℕ) → Reports s outcome packets xs → Has (record { serial = s; octets = octets }) ms
      → length octets + 4 ≤ room → Every (Calm t) xs → OneOfEach t limit xs → outcome ≡ Delivered

module _ (t : Terms) (limit room s : ℕ) where
  -- No session has this serial yet.
  pub not-begun : SessionOk t limit room s [] []
  not-begun =
      record {
        began = λ n o h. absurd h;
        delivered_up = λ n newer older e h. absurd (unreported s n Delivered older (every-older Unreported newer older (subst (Every Unreported) e tt)) h);
        never_up = λ n h g. h;
        unknown_when = λ n h. absurd h;
        unknown_then = λ e z. absurd (omega arith);
        counted = λ n o m h g. absurd h;
        unfinished = λ m h g. absurd h;
        progress = λ n o m h g r c w. absurd h;
      }

module _ (t : Terms) (limit room s : ℕ) (m : List ℕ) where
  abbrev pub count : ℕ
  count = count_of t (length m)

  abbrev pub own : Message
  own = record { serial = s; octets = m }

  -- The session is open at fragment N, with so many retries used; u: its message is up.
  pub record Open (N used : ℕ) (u : Bool) (xs : List Turn) : Type 0 where
    pub no_report : Every Unreported xs
    pub ups_no : u ≡ false → Ups s xs → ⊥
    pub ups_yes : u ≡ true → Ups s xs
    pub bound : length xs ≤ (count - suc N) * suc limit + used
    pub used_small : used ≤ limit
    pub high : N < count
    pub last_zero : N ≡ 0 → length (lasts xs) ≡ used
    pub last_pos : 0 < N → length (lasts xs) ≡ 0
    pub unsettled : Every Unsettled (lasts xs)

  -- One more turn, of the same fragment.
  pub record OneMore (N : ℕ) (u u' : Bool) (x : Turn) : Type 0 where
    pub number_is : x.number ≡ N
    pub grew : Grew s m u u' [] x.ups

  ups-after : (u u' : Bool) (x : Turn) (xs : List Turn) → Grew s m u u' [] x.ups → (u ≡ true → Ups s xs) → u' ≡ true → Ups s (x ∷ xs)
  ups-after u u' x xs (inl g) before e = rw g.1 (before (sym g.0 ∙ e))
  ups-after u u' x xs (inr g) before e = rw g.2 (inl refl)

  none_after : (u u' : Bool) (x : Turn) (xs : List Turn) → Grew s m u u' [] x.ups → (u ≡ false → Ups s xs → ⊥) → u' ≡ false → Ups s (x ∷ xs) → ⊥
  none_after u u' x xs (inl g) before e h = before (sym g.0 ∙ e) (rw g.1 at h)
  none_after u u' x xs (inr g) before e h = true≢false g.1 e

  module _ (N used : ℕ) (u u' : Bool) (x : Turn) (xs : List Turn) (o : Open N used u xs) (more : OneMore N u u' x) where
    lasts-after-zero : N ≡ 0 → length (lasts (x ∷ xs)) ≡ suc used
    lasts-after-zero z = ap length (lasts-zero x xs (more.number_is ∙ z)) ∙ ap suc (o.last_zero z)

    lasts-after-pos : 0 < N → lasts (x ∷ xs) ≡ lasts xs
    lasts-after-pos z = lasts-pos x xs (omega (arith, more.number_is))

    unsettled-after : (N ≡ 0 → Unsettled x) → Every Unsettled (lasts (x ∷ xs))
    unsettled-after h =
        elim (cases_eq N 0) [
          | inl z ↦ rw (lasts-zero x xs (more.number_is ∙ z)) (h z, o.unsettled)
          | inr z ↦ rw (lasts-after-pos (omega arith)) o.unsettled
        ]

    pub retried : Unreported x → Unsettled x → used < limit → Open N (suc used) u' (x ∷ xs)
    retried r q less =
        record {
          no_report = (r, o.no_report);
          ups_no = none_after u u' x xs more.grew o.ups_no;
          ups_yes = ups-after u u' x xs more.grew o.ups_yes;
          bound = omega (arith, o.bound);
          used_small = less;
          high = o.high;
          last_zero = lasts-after-zero;
          last_pos = λ z. ap length (lasts-after-pos z) ∙ o.last_pos z;
          unsettled = unsettled-after (λ _. q);
        }

    pub advanced : (N' : ℕ) → N ≡ suc N' → Unreported x → Open N' 0 u' (x ∷ xs)
    advanced N' e r =
        record {
          no_report = (r, o.no_report);
          ups_no = none_after u u' x xs more.grew o.ups_no;
          ups_yes = ups-after u u' x xs more.grew o.ups_yes;
          bound = further count N N' limit used (length xs) e o.high o.used_small o.bound;
          used_small = omega arith;
          high = omega (arith, o.high);
          last_zero = λ _. ap length (lasts-after-pos (omega arith)) ∙ o.last_pos (omega arith);
          last_pos = λ _. ap length (lasts-after-pos (omega arith)) ∙ o.last_pos (omega arith);
          unsettled = unsettled-after (λ z. absurd (omega arith));
        }
      where
        further : (c n n' r k l : ℕ) → n ≡ suc n' → n < c → k ≤ r → l ≤ (c - suc n) * suc r + k → suc l ≤ (c - suc n') * suc r + 0
        further c n n' r k l e h g b =
            let q : c - suc n' ≡ suc (c - suc n) = omega arith in
            rw q (omega arith)

    -- An outcome that the turn bears out.
    abbrev pub Fair : Outcome → Type 0
    Fair Delivered = (u' ≡ true) × (N ≡ 0) × (settles x.code ≡ true)
    Fair NotDelivered = (u' ≡ false) × ((0 < N) ⊎ (settles x.code ≡ true))
    Fair Unknown = (N ≡ 0) × (settles x.code ≡ false) × (used ≡ limit)

    module _ (outcome : Outcome) (packets : ℕ) (is : x.report ≡ Some (record { serial = s; outcome = outcome; packets = packets })) (all : packets ≡ suc (length xs)) (fair : Fair outcome) where
      -- The only report is this one.
      only : (n : ℕ) (o' : Outcome) → Reports s o' n (x ∷ xs) → (o' ≡ outcome) × (n ≡ packets)
      only n o' (inl h) = let z = sym h ∙ is in (ap (λ r. (found r).outcome) z, ap (λ r. (found r).packets) z)
      only n o' (inr h) = absurd (unreported s n o' xs o.no_report h)

      up-by-then : (n : ℕ) (newer older : List Turn) → x ∷ xs ≡ newer ++ older → Reports s Delivered n older → Ups s older
      up-by-then n [] older e h =
          subst (Ups s) e (go outcome fair (only n Delivered (subst (Reports s Delivered n) (sym e) h)).0)
        where
          go : (out : Outcome) → Fair out → Delivered ≡ out → Ups s (x ∷ xs)
          go Delivered f q = ups-after u u' x xs more.grew o.ups_yes f.0
          go NotDelivered f q = clash cc
          go Unknown f q = clash cc
      up-by-then n (y ∷ newer) older e h =
          let q : xs ≡ newer ++ older = cc in
          absurd (unreported s n Delivered older (every-older Unreported newer older (subst (Every Unreported) q o.no_report)) h)

      never : (out : Outcome) → Fair out → NotDelivered ≡ out → Ups s (x ∷ xs) → ⊥
      never Delivered f q h = clash cc
      never NotDelivered f q h = none_after u u' x xs more.grew o.ups_no f.0 h
      never Unknown f q h = clash cc

      when : (out : Outcome) → Fair out → Unknown ≡ out → (length (lasts (x ∷ xs)) ≡ suc limit) × Every Unsettled (lasts (x ∷ xs))
      when Delivered f q = clash cc
      when NotDelivered f q = clash cc
      when Unknown f q = (lasts-after-zero f.0 ∙ ap suc f.2, unsettled-after (λ _. f.1))

      settled_here : N ≡ 0 → settles x.code ≡ true → Every Unsettled (lasts (x ∷ xs)) → ⊥
      settled_here z q e = true≢false q (subst (Every Unsettled) (lasts-zero x xs (more.number_is ∙ z)) e).0

      none_last : 0 < N → length (lasts (x ∷ xs)) ≡ suc limit → ⊥
      none_last z e = omega (arith, ap length (lasts-after-pos z), o.last_pos z)

      then : (out : Outcome) → Fair out → out ≡ outcome → length (lasts (x ∷ xs)) ≡ suc limit → Every Unsettled (lasts (x ∷ xs)) → (n : ℕ) × Reports s Unknown n (x ∷ xs)
      then Delivered f q e z = absurd (settled_here f.1 f.2 z)
      then NotDelivered f q e z =
          absurd (elim f.1 [
            | inl p ↦ none_last p e
            | inr p ↦ elim (cases_eq N 0) [ inl k ↦ settled_here k p z | inr k ↦ none_last (omega arith) e ]
          ])
      then Unknown f q e z = (packets, inl (is ∙ ap (λ out. Some (report_of s out packets)) (sym q)))

      few : packets ≤ count * suc limit
      few =
          let q : count - suc N + 1 ≤ count = omega (arith, o.high) in
          omega (arith, mul-le-mul_right (suc limit) q, o.bound, o.used_small)

      begun : (octets : List ℕ) → Has (record { serial = s; octets = octets }) (own ∷ []) → octets ≡ m
      begun octets (inl h) = ap (λ (y : Message). y.octets) h
      begun octets (inr h) = absurd h

      pub reported : (length m + 4 ≤ room → Every (Calm t) (x ∷ xs) → OneOfEach t limit (x ∷ xs) → outcome ≡ Delivered) → SessionOk t limit room s (own ∷ []) (x ∷ xs)
      reported prog =
          record {
            began = λ _ _ _. (m, inl refl);
            delivered_up = up-by-then;
            never_up = λ n h. never outcome fair (only n NotDelivered h).0;
            unknown_when = λ n h. when outcome fair (only n Unknown h).0;
            unknown_then = then outcome fair refl;
            counted = λ n o' octets h g. ((only n o' h).1 ∙ all, rw ((only n o' h).1, begun octets g) few);
            unfinished = λ octets g h. absurd (h packets outcome (inl is));
            progress = λ n o' octets h g fits calm each. (only n o' h).0 ∙ prog (subst (λ y. length y + 4 ≤ room) (begun octets g) fits) calm each;
          }

  pub still_open : (N used : ℕ) (u : Bool) (xs : List Turn) → Open N used u xs → SessionOk t limit room s (own ∷ []) xs
  still_open N used u xs o =
      record {
        began = λ n out h. absurd (unreported s n out xs o.no_report h);
        delivered_up = λ n newer older e h. absurd (unreported s n Delivered older (every-older Unreported newer older (subst (Every Unreported) e o.no_report)) h);
        never_up = λ n h g. unreported s n NotDelivered xs o.no_report h;
        unknown_when = λ n h. absurd (unreported s n Unknown xs o.no_report h);
        unknown_then = λ e z. absurd (elim (cases_eq N 0) [ inl q ↦ omega (arith, o.last_zero q, o.used_small) | inr q ↦ omega (arith, o.last_pos (omega arith)) ]);
        counted = λ n out octets h g. absurd (unreported s n out xs o.no_report h);
        unfinished = λ octets g h. rw (one octets g) fewer;
        progress = λ n out octets h g r c w. absurd (unreported s n out xs o.no_report h);
      }
    where
      one : (octets : List ℕ) → Has (record { serial = s; octets = octets }) (own ∷ []) → octets ≡ m
      one octets (inl h) = ap (λ (y : Message). y.octets) h
      one octets (inr h) = absurd h

      fewer : length xs < count * suc limit
      fewer =
          let q : count - suc N + 1 ≤ count = omega (arith, o.high) in
          omega (arith, mul-le-mul_right (suc limit) q, o.bound, o.used_small)
