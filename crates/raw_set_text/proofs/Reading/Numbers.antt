-- Numbers among the operands of a line.
use Rattle.std.proofs.Common.{◌≡◌, ◌∙◌, ◌<◌, ◌+◌, ◌++◌, ◌∷◌, ℕ, List, [], Some, true, length, get_or, take, drop, ap, refl, arith}
use Rattle.std.specs.List.{list_all, filter_map}
use Rattle.std.specs.Option.{is_some}
use Rattle.std.proofs.lemmas.List.{get_or-drop, take_more}
use Rattle.std.proofs.lemmas.List.Elements.{filter_map-append}
use Rattle.std.proofs.lemmas.List.Folds.{list_all_more}
use Rattle.raw_text.specs.Number.{number_of}
use Rattle.raw_set_text.specs.Forms.{number_at}

-- the first and the second operand behind some
pub number_first : (operands : List (List ℕ)) (k : ℕ) → number_at (drop k operands) 0 ≡ number_at operands k
unfolding number_at
number_first operands k =
    let same : k + 0 ≡ k = omega arith in
    ap number_of (get_or-drop k operands 0 []) ∙ ap (number_at operands) same

pub number_second : (operands : List (List ℕ)) (k : ℕ) → number_at (drop k operands) 1 ≡ number_at operands (k + 1)
unfolding number_at
number_second operands k = ap number_of (get_or-drop k operands 1 [])

-- one more token that is a number
pub all_numbers_next : (tokens : List (List ℕ)) (k n : ℕ) → k < length tokens → number_of (get_or tokens k []) ≡ Some n
    → list_all (λ token. is_some (number_of token)) (take k tokens) ≡ true → list_all (λ token. is_some (number_of token)) (take (k + 1) tokens) ≡ true
all_numbers_next tokens k n within number before = rw (list_all_more (λ token. is_some (number_of token)) tokens k [] within, before, number) refl

pub numbers_next : (tokens : List (List ℕ)) (k n : ℕ) → k < length tokens → number_of (get_or tokens k []) ≡ Some n
    → filter_map number_of (take (k + 1) tokens) ≡ filter_map number_of (take k tokens) ++ n ∷ []
numbers_next tokens k n within number = rw (take_more tokens k [] within, filter_map-append, number) refl
