-- The tokens that are written one after another.
use Rattle.std.proofs.Common.{◌≡◌, ℕ, zero, suc, ◌+◌, ◌<◌, ◌≤◌, Bool, true, false, List, [], ◌∷◌, ◌++◌, length, get_or, drop, refl, sym, ap, ◌∙◌, arith, append-nil}
use Rattle.std.specs.Prelude.{codes, ◌==◌, if◌then◌else◌}
use Rattle.std.proofs.lemmas.Bool.{eqb-true, eqb-false}
use Rattle.std.proofs.lemmas.List.{at_drop_all}
use Rattle.raw_debug.specs.Answers.{echo_line}

-- the next token, and what stands behind it
next_token : (tokens : List (List ℕ)) (k : ℕ) (is_last : Bool) → k < length tokens → (is_last ≡ true → k + 1 ≡ length tokens) → (is_last ≡ false → k + 1 ≡ length tokens → ⊥)
    → echo_line (drop k tokens) ≡ (get_or tokens k [] ++ (if is_last then codes "\n" else codes " ")) ++ echo_line (drop (suc k) tokens)
next_token [] k is_last lt last more = absurd (omega (arith, lt))
next_token (t ∷ []) zero true lt last more = sym (append-nil (t ++ codes "\n"))
next_token (t ∷ []) zero false lt last more = absurd (more refl refl)
next_token (t ∷ u ∷ tokens) zero true lt last more = absurd (let end = last refl in omega (arith, end))
next_token (t ∷ u ∷ tokens) zero false lt last more = refl
next_token (t ∷ tokens) (suc k) is_last lt last more =
    next_token tokens k is_last (omega (arith, lt)) (λ e. let end = last e in omega (arith, end)) (λ e end. more e (omega (arith, end)))

pub next_echo : (tokens : List (List ℕ)) (k : ℕ) → k < length tokens
    → echo_line (drop k tokens) ≡ (get_or tokens k [] ++ (if k + 1 == length tokens then codes "\n" else codes " ")) ++ echo_line (drop (k + 1) tokens)
next_echo tokens k lt =
    let next : suc k ≡ k + 1 = omega arith in
    next_token tokens k (k + 1 == length tokens) lt (eqb-true (k + 1) (length tokens)) (eqb-false (k + 1) (length tokens))
    ∙ ap (λ n. (get_or tokens k [] ++ (if k + 1 == length tokens then codes "\n" else codes " ")) ++ echo_line (drop n tokens)) next

pub no_echo : (tokens : List (List ℕ)) (k : ℕ) → length tokens ≤ k → echo_line (drop k tokens) ≡ []
no_echo tokens k le = at_drop_all echo_line tokens k le
