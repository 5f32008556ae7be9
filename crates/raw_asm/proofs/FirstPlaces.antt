-- Where the first element of a list stands that passes a test: one element on, and in a front of the list.
use Rattle.std.proofs.Common.{◌≡◌, ℕ, zero, suc, ◌+◌, ◌<◌, ◌≤◌, Bool, true, false, not, cond, eqb, ltb, List, [], ◌∷◌, ◌++◌, length, get_or, take, Option, Some, None, refl, sym, ap, ◌∙◌, arith, ⊎_elim}
use Rattle.std.specs.Option.{option_or, option_map, option_map_or, is_some}
use Rattle.std.specs.List.{position, position_or_len}
use Rattle.std.proofs.lemmas.Bool.{lt-ltb, le-ltb, cases_lt}
use Rattle.std.proofs.lemmas.Bool.Decides.{nat_tests}
use Rattle.std.proofs.lemmas.List.{take_more, length-take-le, length_push}
use Rattle.std.proofs.lemmas.List.Folds.{position_or_len_push}
use Rattle.std.proofs.lemmas.List.Sums.{prefix_len-le-length}

step : (n k o : ℕ) (b : Bool) → n ≤ k → o ≡ cond (eqb n k) (k + cond b 0 1) n → cond (ltb o (k + 1)) (Some o) None ≡ option_or (cond (ltb n k) (Some n) None) (cond b (Some k) None)
step n k o true le e =
    ⊎_elim
    (λ (lt : n < k). let no' : eqb n k ≡ false = grind (arith, nat_tests) in let same : o ≡ n = e ∙ rw no' refl in rw (same, lt-ltb n (k + 1) (omega arith), lt-ltb n k lt) refl)
    (λ (ge : k ≤ n). let yes' : eqb n k ≡ true = grind (arith, nat_tests) in let same : o ≡ k = e ∙ rw yes' (omega arith) in rw (same, lt-ltb k (k + 1) (omega arith), le-ltb n k ge) refl)
    (cases_lt n k)
step n k o false le e =
    ⊎_elim
    (λ (lt : n < k). let no' : eqb n k ≡ false = grind (arith, nat_tests) in let same : o ≡ n = e ∙ rw no' refl in rw (same, lt-ltb n (k + 1) (omega arith), lt-ltb n k lt) refl)
    (λ (ge : k ≤ n). let yes' : eqb n k ≡ true = grind (arith, nat_tests) in let same : o ≡ k + 1 = e ∙ rw yes' refl in rw (same, le-ltb (k + 1) (k + 1) (omega arith), le-ltb n k ge) refl)
    (cases_lt n k)

-- the first place that passes, one element on
pub position_next : {X : Type 0} (p : X → Bool) (xs : List X) (k : ℕ) (d : X) → k < length xs → position p (take (k + 1) xs) ≡ option_or (position p (take k xs)) (cond (p (get_or xs k d)) (Some k) None)
position_next p xs k d lt =
    let front = take k xs in
    let y = get_or xs k d in
    let long : length front ≡ k = length-take-le k xs (omega arith) in
    let le = prefix_len-le-length (λ x. not (p x)) front in
    ap (position p) (take_more xs k d lt) ∙ rw (length_push front y, long) (step (position_or_len p front) k (position_or_len p (front ++ y ∷ [])) (p y) (omega (arith, le, long)) (rw long at (position_or_len_push p front y)))

cons_cases : (b : Bool) (n len : ℕ) → cond (ltb (cond (not b) (1 + n) 0) (suc len)) (Some (cond (not b) (1 + n) 0)) None ≡ cond b (Some 0) (option_map suc (cond (ltb n len) (Some n) None))
cons_cases true n len = rw (lt-ltb 0 (suc len) (omega arith)) refl
cons_cases false n len =
    ⊎_elim
    (λ (lt : n < len). rw (lt-ltb (1 + n) (suc len) (omega arith), lt-ltb n len lt) (ap Some (omega arith)))
    (λ (ge : len ≤ n). rw (le-ltb (1 + n) (suc len) (omega arith), le-ltb n len ge) refl)
    (cases_lt n len)

position_cons : {X : Type 0} (p : X → Bool) (x : X) (xs : List X) → position p (x ∷ xs) ≡ cond (p x) (Some 0) (option_map suc (position p xs))
position_cons p x xs = cons_cases (p x) (position_or_len p xs) (length xs)

none_below : (o : Option ℕ) → option_map_or (λ j. ltb j 0) o false ≡ false
none_below None = refl
none_below (Some j) = le-ltb j 0 (omega arith)

below_suc : (b : Bool) (k : ℕ) (a o : Option ℕ) → is_some a ≡ option_map_or (λ j. ltb j k) o false
    → is_some (cond b (Some 0) (option_map suc a)) ≡ option_map_or (λ j. ltb j (suc k)) (cond b (Some 0) (option_map suc o)) false
below_suc true k a o e = sym (lt-ltb 0 (suc k) (omega arith))
below_suc false k None None e = refl
below_suc false k None (Some j) e = e ∙ grind (arith, nat_tests)
below_suc false k (Some i) None e = e
below_suc false k (Some i) (Some j) e = e ∙ grind (arith, nat_tests)

-- a label that an earlier line has, by the first line that has it
pub position_before : {X : Type 0} (p : X → Bool) (xs : List X) (k : ℕ) → is_some (position p (take k xs)) ≡ option_map_or (λ j. ltb j k) (position p xs) false
position_before p [] zero = refl
position_before p [] (suc k) = refl
position_before p (x ∷ xs) zero = sym (none_below (position p (x ∷ xs)))
position_before p (x ∷ xs) (suc k) = rw (position_cons p x (take k xs), position_cons p x xs) (below_suc (p x) k (position p (take k xs)) (position p xs) (position_before p xs k))
