-- Examples of drills, read.
use Rattle.std.specs.Prelude.{◌≡◌, ℕ, true, false, List, [], ◌∷◌, ◌++◌, Some, None, Ok, Err, codes}
use Rattle.air.specs.declared.few.UpToThree.TheVariants.{Empty, One, Two}
use Rattle.fault.specs.declared.EndFault.TheVariants.{Retries}
use Rattle.tell.specs.declared.faults.DrillFault.TheVariants.{End}
use Rattle.fragment.specs.declared.name.CarrierName.TheVariants.{Data, Voice}
use Rattle.check32.specs.declared.name.CheckName.TheVariants.{Polynomial, Sum}
use Rattle.tell.specs.Faults.{wrong}
use Rattle.script.specs.Scripts.{script_of, form_of}
use Rattle.script.specs.Turns.{turn_of}

-- Lines with their line feeds.
abbrev pub text_of : List (List ℕ) → List ℕ
text_of [] = []
text_of (line ∷ lines) = line ++ (10 ∷ text_of lines)

-- The first lines of a drill, with this one as its third.
abbrev pub third_line : List ℕ → List ℕ
third_line line = text_of (codes "(carrier data)" ∷ (codes "(check poly)" ∷ (line ∷ (codes "(serial 0)" ∷ []))))

-- A line behind the first four.
abbrev pub fifth_line : List ℕ → List ℕ
fifth_line line = text_of (codes "(carrier voice)" ∷ (codes "(check sum)" ∷ (codes "(retries 15)" ∷ (codes "(serial 4294967295)" ∷ (line ∷ [])))))

-- Drills that are run.
pub record Accepted : Type 0 where
  pub shortest : script_of (third_line (codes "(retries 0)")) ≡ Ok (record { head = record { carrier = Data; check = Polynomial; retries = 0; serial = 0 }; sends = []; turns = [] })
  pub one_send : script_of (fifth_line (codes "(send 60000 255)"))
      ≡ Ok (record { head = record { carrier = Voice; check = Sum; retries = 15; serial = 4294967295 }; sends = record { line = 5; count = 60000; value = 255 } ∷ []; turns = [] })
  pub silent_turn : turn_of (text_of (codes "(turn)" ∷ [])) ≡ Some (record { wait = false; heard = Empty })
  pub full_turn : turn_of (text_of (codes "(turn (wait) (heard (bad 0 2) (alter 1 5 255) (reply)))" ∷ []))
      ≡ Some (record { wait = true; heard = One (record { bad = 5; alteration = Some (record { «record» = 1; place = 5; mask = 255 }); reply = true }) })
  pub two_heard : turn_of (text_of (codes "(turn (heard) (heard (bad 15)))" ∷ []))
      ≡ Some (record { wait = false; heard = Two (record { bad = 0; alteration = None; reply = false }) (record { bad = 32768; alteration = None; reply = false }) })

-- Drills that are refused.
pub record Rejected : Type 0 where
  pub empty : script_of [] ≡ Err (wrong 1)
  pub three_lines : script_of (text_of (codes "(carrier data)" ∷ (codes "(check sum)" ∷ (codes "(retries 3)" ∷ [])))) ≡ Err (wrong 4)
  pub no_line_feed : script_of (fifth_line (codes "(turn)") ++ codes "(turn)") ≡ Err (wrong 6)
  pub retries_16 : script_of (third_line (codes "(retries 16)")) ≡ Err (record { line = 3; fault = End Retries })
  pub retries_most : script_of (third_line (codes "(retries 4294967295)")) ≡ Err (record { line = 3; fault = End Retries })
  pub retries_over : script_of (third_line (codes "(retries 4294967296)")) ≡ Err (wrong 3)
  pub leading_zero : script_of (third_line (codes "(retries 01)")) ≡ Err (wrong 3)
  pub long_message : script_of (fifth_line (codes "(send 60001 0)")) ≡ Err (wrong 5)
  pub two_spaces : form_of 5 (text_of (codes "(turn  (wait))" ∷ [])) ≡ None
  pub four_heard : form_of 5 (text_of (codes "(turn (heard) (heard) (heard) (heard))" ∷ [])) ≡ None
  pub not_ascending : form_of 5 (text_of (codes "(turn (heard (bad 2 2)))" ∷ [])) ≡ None
  pub none_bad : form_of 5 (text_of (codes "(turn (heard (bad)))" ∷ [])) ≡ None
  pub no_mask : form_of 5 (text_of (codes "(turn (heard (alter 0 0 0)))" ∷ [])) ≡ None
