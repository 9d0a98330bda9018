-- A history taken apart by sessions: what holds of each session holds of the whole.
use Rattle.std.proofs.Common.{◌≡◌, ℕ, Bool, true, eqb, ◌⊎◌, List, [], ◌∷◌, ◌++◌, Some, None, Option, sym, refl, ap, ◌∙◌, subst, inl, inr}
use Rattle.std.proofs.lemmas.Bool.{eq-eqb, cases_Bool}
use Rattle.fragment.specs.Carriers.{Terms}
use Rattle.sender.specs.declared.values.Outcome.{Outcome}
use Rattle.sender.specs.declared.values.Report.{Report}
use Rattle.agreement.specs.Histories.{Message, Turn, Event, refused, started, turned, History, Origin, Every}
use Rattle.agreement.specs.Agreement.{Has, Any, Within, kept, turns_in, started_in, ups_in, handed_up_in, turns_of, Started, Reported, HandedUp, Numbered, FromAir, Agreement}
use Rattle.agreement.proofs.Basics.{every-older}
use Rattle.agreement.proofs.Sessions.{Reports, Ups, SessionOk, some-append}

-- The starts of the session with this serial.
abbrev pub starts_of : ℕ → History → List Message
starts_of s log = kept (λ m. eqb m.serial s) (started_in log)

abbrev pub OfSession : ℕ → Option Report → Type 0
OfSession s None = Unit {0}
OfSession s (Some report) = report.serial ≡ s

-- A turn hands up and reports only for its own session.
abbrev pub OwnTurn : Turn → Type 0
OwnTurn x = Every (λ (m : Message). m.serial ≡ x.serial) x.ups × OfSession x.serial x.report

abbrev mine : ℕ → Turn → Bool
mine s x = eqb x.serial s

has_kept : {A : Type 0} (p : A → Bool) (y : A) (xs : List A) → p y ≡ true → Has y xs → Has y (kept p xs)
has_kept p y [] e h = h
has_kept p y (x ∷ xs) e (inl h) = let t : p x ≡ true = ap p (sym h) ∙ e in rw t (inl h)
has_kept p y (x ∷ xs) e (inr h) =
    elim (cases_Bool (p x)) [ inl t ↦ rw t (inr (has_kept p y xs e h)) | inr t ↦ rw t (has_kept p y xs e h) ]

kept-has : {A : Type 0} (p : A → Bool) (y : A) (xs : List A) → Has y (kept p xs) → Has y xs
kept-has p y [] h = h
kept-has p y (x ∷ xs) h = elim (cases_Bool (p x)) [
  | inl t ↦ elim (rw t at h) [ inl e ↦ inl e | inr k ↦ inr (kept-has p y xs k) ]
  | inr t ↦ inr (kept-has p y xs (rw t at h))
]

kept-some : {A : Type 0} (P : A → Type 0) (p : A → Bool) (xs : List A) → Any P (kept p xs) → Any P xs
kept-some P p [] h = h
kept-some P p (x ∷ xs) h = elim (cases_Bool (p x)) [
  | inl t ↦ elim (rw t at h) [ inl e ↦ inl e | inr k ↦ inr (kept-some P p xs k) ]
  | inr t ↦ inr (kept-some P p xs (rw t at h))
]

kept_append : {A : Type 0} (p : A → Bool) (xs ys : List A) → kept p (xs ++ ys) ≡ kept p xs ++ kept p ys
kept_append p [] ys = refl
kept_append p (x ∷ xs) ys = elim (cases_Bool (p x)) [ inl t ↦ rw t (ap (λ zs. x ∷ zs) (kept_append p xs ys)) | inr t ↦ rw t (kept_append p xs ys) ]

add-turns : (e : Event) (xs ys : List Turn) → turns_in (e ∷ []) ++ (xs ++ ys) ≡ (turns_in (e ∷ []) ++ xs) ++ ys
add-turns (refused fault) xs ys = refl
add-turns (started m) xs ys = refl
add-turns (turned x) xs ys = refl

turns-first : (e : Event) (log : History) → turns_in (e ∷ log) ≡ turns_in (e ∷ []) ++ turns_in log
turns-first (refused fault) log = refl
turns-first (started m) log = refl
turns-first (turned x) log = refl

turns-append : (later earlier : History) → turns_in (later ++ earlier) ≡ turns_in later ++ turns_in earlier
turns-append [] earlier = refl
turns-append (e ∷ later) earlier =
    turns-first e (later ++ earlier) ∙ ap (λ xs. turns_in (e ∷ []) ++ xs) (turns-append later earlier) ∙ add-turns e (turns_in later) (turns_in earlier)
    ∙ ap (λ xs. xs ++ turns_in earlier) (sym (turns-first e later))

abbrev Reporting : ℕ → Outcome → ℕ → Turn → Type 0
Reporting s outcome packets x = x.report ≡ Some (record { serial = s; outcome = outcome; packets = packets })

own-report : (s packets : ℕ) (outcome : Outcome) (x : Turn) → OwnTurn x → Reporting s outcome packets x → x.serial ≡ s
own-report s packets outcome x w h = sym (subst (OfSession x.serial) h w.1)

some_first : {A : Type 0} (P : A → Type 0) (newer older : List A) → Any P newer → Any P (newer ++ older)
some_first P [] older h = absurd h
some_first P (x ∷ xs) older (inl h) = inl h
some_first P (x ∷ xs) older (inr h) = inr (some_first P xs older h)

some-split : {A : Type 0} (P : A → Type 0) (newer older : List A) → Any P (newer ++ older) → Any P newer ⊎ Any P older
some-split P [] older h = inr h
some-split P (x ∷ newer) older (inl h) = inl (inl h)
some-split P (x ∷ newer) older (inr h) = elim (some-split P newer older h) [ inl k ↦ inl (inr k) | inr k ↦ inr k ]

-- A report of the session is among its turns.
reports-own : (s packets : ℕ) (outcome : Outcome) (xs : List Turn) → Every OwnTurn xs → Any (Reporting s outcome packets) xs → Reports s outcome packets (kept (mine s) xs)
reports-own s packets outcome [] w h = h
reports-own s packets outcome (x ∷ xs) w (inl h) = rw (eq-eqb x.serial s (own-report s packets outcome x w.0 h)) (inl h)
reports-own s packets outcome (x ∷ xs) w (inr h) = elim (cases_Bool (eqb x.serial s)) [
  | inl t ↦ rw t (inr (reports-own s packets outcome xs w.1 h))
  | inr t ↦ rw t (reports-own s packets outcome xs w.1 h)
]

serial-is : (s k : ℕ) (ms : List Message) → Every (λ (m : Message). m.serial ≡ k) ms → Any (λ (m : Message). m.serial ≡ s) ms → k ≡ s
serial-is s k [] e h = absurd h
serial-is s k (m ∷ ms) e (inl h) = sym e.0 ∙ h
serial-is s k (m ∷ ms) e (inr h) = serial-is s k ms e.1 h

abbrev Named : ℕ → Message → Type 0
Named s m = m.serial ≡ s

-- The message of the session is handed up in one of its turns.
ups-own : (s : ℕ) (xs : List Turn) → Every OwnTurn xs → Any (Named s) (ups_in xs) → Ups s (kept (mine s) xs)
ups-own s [] w h = h
ups-own s (x ∷ xs) w h = elim (some-split (Named s) x.ups (ups_in xs) h) [
  | inl k ↦ rw (eq-eqb x.serial s (serial-is s x.serial x.ups w.0.0 k)) (some_first (Named s) x.ups (ups_in (kept (mine s) xs)) k)
  | inr k ↦ elim (cases_Bool (eqb x.serial s)) [
    | inl t ↦ rw t (some-append (Named s) x.ups (ups_in (kept (mine s) xs)) (ups-own s xs w.1 k))
    | inr t ↦ rw t (ups-own s xs w.1 k)
  ]
]

ups-all : (s : ℕ) (p : Turn → Bool) (xs : List Turn) → Any (Named s) (ups_in (kept p xs)) → Any (Named s) (ups_in xs)
ups-all s p [] h = h
ups-all s p (x ∷ xs) h = elim (cases_Bool (p x)) [
  | inl t ↦ elim (some-split (Named s) x.ups (ups_in (kept p xs)) (rw t at h)) [
    | inl k ↦ some_first (Named s) x.ups (ups_in xs) k
    | inr k ↦ some-append (Named s) x.ups (ups_in xs) (ups-all s p xs k)
  ]
  | inr t ↦ some-append (Named s) x.ups (ups_in xs) (ups-all s p xs (rw t at h))
]

module _ (t : Terms) (o : Origin) (log : History) (each : (s : ℕ) → SessionOk t o.limit o.room s (starts_of s log) (turns_of s log)) (own : Every OwnTurn (turns_in log)) where
  started-own : (s : ℕ) (octets : List ℕ) → Started s octets log → Has (record { serial = s; octets = octets }) (starts_of s log)
  started-own s octets h = has_kept (λ (m : Message). eqb m.serial s) (record { serial = s; octets = octets }) (started_in log) (eq-eqb s s refl) h

  here : (s packets : ℕ) (outcome : Outcome) → Reported s outcome packets log → Reports s outcome packets (turns_of s log)
  here s packets outcome h = reports-own s packets outcome (turns_in log) own h

  delivered : (s packets : ℕ) (outcome : Outcome) (later earlier : History) → log ≡ later ++ earlier
      → ((newer older : List Turn) → turns_of s log ≡ newer ++ older → Reports s outcome packets older → Ups s older) → Reported s outcome packets earlier → HandedUp s earlier
  delivered s packets outcome later earlier e up h =
      let parts : turns_in log ≡ turns_in later ++ turns_in earlier = ap turns_in e ∙ turns-append later earlier in
      let own_e : Every OwnTurn (turns_in earlier) = every-older OwnTurn (turns_in later) (turns_in earlier) (subst (Every OwnTurn) parts own) in
      ups-all s (mine s) (turns_in earlier)
      (up (kept (mine s) (turns_in later)) (turns_of s earlier) (ap (kept (mine s)) parts ∙ kept_append (mine s) (turns_in later) (turns_in earlier))
      (reports-own s packets outcome (turns_in earlier) own_e h))

  pub together : Within (handed_up_in log) (started_in log) → Numbered o.first (started_in log) → FromAir o.fates (turns_in log) → Agreement t o log
  together order numbered fates =
      record {
        handed_up_in_order = order;
        serials_rise = numbered;
        reported_was_started = λ s n out h. let b = (each s).began n out (here s n out h) in (b.0, kept-has (λ (m : Message). eqb m.serial s) (record { serial = s; octets = b.0 }) (started_in log) b.1);
        delivered_was_handed_up = λ s n later earlier e h. delivered s n _ later earlier e ((each s).delivered_up n) h;
        not_delivered_never = λ s n h g. (each s).never_up n (here s n _ h) (ups-own s (turns_in log) own g);
        unknown_exactly_when = λ s. (
          (λ r. (each s).unknown_when r.0 (here s r.0 _ r.1)),
          (λ r. let u = (each s).unknown_then r.0 r.1 in (u.0, kept-some (Reporting s _ u.0) (mine s) (turns_in log) u.1)),
        );
        packets_are_turns = λ s n out octets h g. (each s).counted n out octets (here s n out h) (started-own s octets g);
        open_took_fewer = λ s octets g h. (each s).unfinished octets (started-own s octets g) (λ n out k. h n out (kept-some (Reporting s out n) (mine s) (turns_in log) k));
        progress = λ s n out octets h g room calm rows. (each s).progress n out octets (here s n out h) (started-own s octets g) room calm rows;
        next_fates = fates;
      }
