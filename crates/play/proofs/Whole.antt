-- The messages of a drill, told over its fresh pair, are the whole drill.
use Rattle.std.proofs.Common.{◌≡◌, ℕ, List, [], ◌++◌, replicate, Ok, Err, ap, ◌∙◌}
use Rattle.fault.specs.declared.EndFault.{EndFault}
use Rattle.fragment.specs.Carriers.{Terms}
use Rattle.air.specs.declared.fate.Fate.{Fate}
use Rattle.air.specs.Fates.{scheduled}
use Rattle.agreement.specs.Histories.{between}
use Rattle.exchange.specs.Views.{FreshPair}
use Rattle.script.specs.declared.values.Message as script
use Rattle.script.specs.Scripts.{Plan}
use Rattle.play.specs.Stories.{story, text_of, sends_from, fresh_for, told_by, told_of}
use Rattle.play.specs.Views.{Telling, telling_of}

module _ (t : Terms) (number : List ℕ → ℕ) (plan : Plan) where
  pub whole-told : (f : FreshPair) (sends : List script.Message) (store : List ℕ) (fates : ℕ → Fate) (before : List ℕ) (x : Telling)
      → Ok f ≡ fresh_for t number plan → before ≡ [] → sends ≡ plan.sends → store ≡ replicate 65536 0 → fates ≡ scheduled plan.turns
      → x ≡ telling_of before (sends_from t number sends (story (between (record { base = f.base; route = f.route; state = f.state; store = store; fates = fates })) []))
      → x.text ≡ told_of t number plan
  whole-told f sends store fates before x made none all zeros turns e =
      ap (λ (y : Telling). y.text) e
      ∙ ap (λ l. l ++ text_of (sends_from t number sends (story (between (record { base = f.base; route = f.route; state = f.state; store = store; fates = fates })) [])).steps) none
      ∙ ap (λ l. text_of (sends_from t number l (story (between (record { base = f.base; route = f.route; state = f.state; store = store; fates = fates })) [])).steps) all
      ∙ ap (λ s. text_of (sends_from t number plan.sends (story (between (record { base = f.base; route = f.route; state = f.state; store = s; fates = fates })) [])).steps) zeros
      ∙ ap (λ a. text_of (sends_from t number plan.sends (story (between (record { base = f.base; route = f.route; state = f.state; store = replicate 65536 0; fates = a })) [])).steps) turns
      ∙ ap (λ r. told_by t number plan r) made

  -- A pair that is refused tells nothing.
  pub none_told : (text : List ℕ) (fault : EndFault) → Err fault ≡ fresh_for t number plan → text ≡ [] → text ≡ told_of t number plan
  none_told text fault made none = none ∙ ap (λ r. told_by t number plan r) made
