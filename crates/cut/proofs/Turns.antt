-- One fragment more is cut, and all are.
use Rattle.std.proofs.Common.{◌≡◌, ℕ, suc, ◌-◌, ◌<◌, ◌≤◌, List, [], ◌++◌, Some, None, Option, sym, refl, ap, ◌∙◌, append_assoc, append-nil, arith}
use Rattle.fragment.specs.Carriers.{Terms}
use Rattle.cut.specs.declared.arguments.Order.{Order}
use Rattle.cut.specs.Lines.{packet_at, line_of, data_back, both, lines_from, joined_from}

both_assoc : (a b c : Option (List ℕ)) → both (both a b) c ≡ both a (both b c)
both_assoc None b c = refl
both_assoc (Some a) None c = refl
both_assoc (Some a) (Some b) None = refl
both_assoc (Some a) (Some b) (Some c) = ap (λ l. Some l) (append_assoc a b c)

both-nil : (a : Option (List ℕ)) → both a (Some []) ≡ a
both-nil None = refl
both-nil (Some a) = ap (λ l. Some l) (append-nil a)

module _ (t : Terms) (number : List ℕ → ℕ) (order : Order) (message : List ℕ) (n : ℕ) where
  module _ (some : 0 < n) where
    one_more : n ≡ suc (n - 1)
    one_more = omega arith

    pub lines_more : (text after all : List ℕ) → after ≡ text ++ line_of (packet_at t number order message (n - 1))
        → text ++ lines_from t number order message n ≡ all → after ++ lines_from t number order message (n - 1) ≡ all
    lines_more text after all e inv =
        ap (λ l. l ++ lines_from t number order message (n - 1)) e
        ∙ append_assoc text (line_of (packet_at t number order message (n - 1))) (lines_from t number order message (n - 1))
        ∙ ap (λ m. text ++ lines_from t number order message m) (sym one_more) ∙ inv

    pub joined_more : (stream piece after all : Option (List ℕ)) → after ≡ both stream piece
        → piece ≡ data_back t number (packet_at t number order message (n - 1))
        → both stream (joined_from t number order message n) ≡ all → both after (joined_from t number order message (n - 1)) ≡ all
    joined_more stream piece after all a e inv =
        ap (λ s. both s (joined_from t number order message (n - 1))) (a ∙ ap (both stream) e)
        ∙ both_assoc stream (data_back t number (packet_at t number order message (n - 1))) (joined_from t number order message (n - 1))
        ∙ ap (λ m. both stream (joined_from t number order message m)) (sym one_more) ∙ inv

  module _ (none : n ≤ 0) where
    is_none : n ≡ 0
    is_none = omega arith

    pub lines_all : (text all : List ℕ) → text ++ lines_from t number order message n ≡ all → text ≡ all
    lines_all text all inv = sym (append-nil text) ∙ ap (λ m. text ++ lines_from t number order message m) (sym is_none) ∙ inv

    pub joined_all : (stream all : Option (List ℕ)) → both stream (joined_from t number order message n) ≡ all → stream ≡ all
    joined_all stream all inv = sym (both-nil stream) ∙ ap (λ m. both stream (joined_from t number order message m)) (sym is_none) ∙ inv
