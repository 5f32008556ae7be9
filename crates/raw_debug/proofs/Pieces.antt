-- Pieces of a text.
use Rattle.std.proofs.Common.{◌≡◌, ℕ, List, [], ◌++◌, sym, ap, ◌∙◌, append_assoc, append-nil}

-- four pieces, one after another
pub four : (a b c d : List ℕ) → a ++ (b ++ (c ++ (d ++ []))) ≡ a ++ b ++ c ++ d
four a b c d =
    ap (λ z. a ++ (b ++ (c ++ z))) (append-nil d)
    ∙ sym (append_assoc (a ++ b) c d ∙ append_assoc a b (c ++ d))
