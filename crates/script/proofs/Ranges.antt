-- What is asked for is within its ranges.
use Rattle.std.proofs.Common.{◌≡◌, ℕ, ◌+◌, ◌≤◌, true, ◌&&◌, eqb, leb, List, [], ◌∷◌, Ok, sym, subst}
use Rattle.std.proofs.lemmas.Bool.{leb-true, and_parts}
use Rattle.std.specs.List.{AllByRecursion as All}
use Rattle.script.specs.declared.forms.Form.{Form}
use Rattle.script.specs.declared.forms.Form.TheVariants as form
use Rattle.script.specs.declared.values.Message.{Message}
use Rattle.script.specs.Scripts.{Plan, sends_in, script_of}
use Rattle.script.specs.Written.{form_fits, forms_fit}
use Rattle.script.proofs.DrillOnly.{only-written}

small-forms : (number : ℕ) (forms : List Form) → forms_fit number forms ≡ true → All (λ (m : Message). m.value ≤ 255) (sends_in forms)
small-forms number [] e = tt
small-forms number (form.Send m ∷ forms) e =
    let both = and_parts (form_fits number (form.Send m)) (forms_fit (number + 1) forms) e in
    let two = and_parts (eqb m.line number) (leb m.count 60000 && leb m.value 255) both.0 in
    (leb-true m.value 255 (and_parts (leb m.count 60000) (leb m.value 255) two.1).1, small-forms (number + 1) forms both.1)
small-forms number (form.Turn f ∷ forms) e = small-forms (number + 1) forms (and_parts (form_fits number (form.Turn f)) (forms_fit (number + 1) forms) e).1

pub small-values : (text : List ℕ) (plan : Plan) → script_of text ≡ Ok plan → All (λ (m : Message). m.value ≤ 255) plan.sends
small-values text plan e =
    let w = only-written text plan e in
    subst (λ (p : Plan). All (λ (m : Message). m.value ≤ 255) p.sends) (sym w.plan) (small-forms 5 w.forms w.fits)

pub small-limit : (text : List ℕ) (plan : Plan) → script_of text ≡ Ok plan → plan.head.retries ≤ 15
small-limit text plan e = (only-written text plan e).retries

pub small-serial : (text : List ℕ) (plan : Plan) → script_of text ≡ Ok plan → plan.head.serial ≤ 4294967295
small-serial text plan e = (only-written text plan e).serial
