-- Texts behind the front of a line of `check`.
use Rattle.std.proofs.Common.{◌≡◌, ◌∙◌, ℕ, List, ◌++◌, codes, ap, append_assoc}
use Rattle.std.specs.Prelude.{decimal}
use Rattle.raw_owed.specs.Checked.{place_text}

pub place_more : (place p : ℕ) (behind : List ℕ) → (codes "unlawful at " ++ (decimal place ++ (codes ": " ++ decimal p))) ++ behind ≡ place_text place p behind
place_more place p behind =
    append_assoc (codes "unlawful at ") (decimal place ++ (codes ": " ++ decimal p)) behind
    ∙ ap (λ l. codes "unlawful at " ++ l)
    (append_assoc (decimal place) (codes ": " ++ decimal p) behind ∙ ap (λ l. decimal place ++ l) (append_assoc (codes ": ") (decimal p) behind))

pub five_more : (f a b c d e : List ℕ) → ((((f ++ a) ++ b) ++ c) ++ d) ++ e ≡ f ++ (a ++ (b ++ (c ++ (d ++ e))))
five_more f a b c d e =
    append_assoc (((f ++ a) ++ b) ++ c) d e ∙ append_assoc ((f ++ a) ++ b) c (d ++ e) ∙ append_assoc (f ++ a) b (c ++ (d ++ e)) ∙ append_assoc f a (b ++ (c ++ (d ++ e)))
