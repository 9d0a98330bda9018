-- Small facts about lists, answers and tests.
use Rattle.std.proofs.Common.{◌≡◌, ℕ, Bool, true, false, List, [], ◌∷◌, ◌++◌, Ok, Result, arith}
use Rattle.agreement.specs.Histories.{Every}

-- For `cc`: two different numbers are the same.
pub clash : {A : Type 0} → ◌≡◌ {A = ℕ} 0 1 → A
clash z = absurd (omega arith)

pub true≢false : {b : Bool} → b ≡ true → b ≡ false → ⊥
true≢false p q = clash cc

pub ok_same : {A E : Type 0} (a b : A) → ◌≡◌ {A = Result A E} (Ok a) (Ok b) → a ≡ b
ok_same a b e = cc

pub every_map : {A : Type 0} (P Q : A → Type 0) → ((x : A) → P x → Q x) → (xs : List A) → Every P xs → Every Q xs
every_map P Q f [] e = tt
every_map P Q f (x ∷ xs) e = (f x e.0, every_map P Q f xs e.1)

pub every-older : {A : Type 0} (P : A → Type 0) (newer older : List A) → Every P (newer ++ older) → Every P older
every-older P [] older e = e
every-older P (x ∷ newer) older e = every-older P newer older e.1
