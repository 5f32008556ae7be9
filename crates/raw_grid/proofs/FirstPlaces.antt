-- Where the first element of a list stands that passes a test, one element on.
use Rattle.std.proofs.Common.{◌≡◌, ◌≢◌, ℕ, ◌+◌, ◌<◌, ◌≤◌, ◌&&◌, Bool, true, false, not, cond, eqb, ltb, List, length, get_or, take, Option, Some, None, refl, sym, ap, ◌∙◌, arith, ⊎_elim, [], ◌∷◌, ◌++◌}
use Rattle.std.specs.Option.{option_or}
use Rattle.std.specs.List.{position, position_or_len}
use Rattle.std.proofs.lemmas.Bool.{lt-ltb, le-ltb, cases_lt}
use Rattle.std.proofs.lemmas.Bool.Decides.{nat_tests}
use Rattle.std.proofs.lemmas.List.{take_more, length-take-le, length_push}
use Rattle.std.proofs.lemmas.List.Folds.{position_or_len_push}
use Rattle.std.proofs.lemmas.List.Sums.{prefix_len-le-length}

step : (n k o : ℕ) (b : Bool) → n ≤ k → o ≡ cond (eqb n k) (k + cond b 0 1) n → cond (ltb o (k + 1)) (Some o) None ≡ option_or (cond (ltb n k) (Some n) None) (cond b (Some k) None)
step n k o true le e =
    ⊎_elim
    (λ (lt : n < k). let no' : eqb n k ≡ false = grind (arith, nat_tests) in let same : o ≡ n = e ∙ rw no' refl in rw (same, lt-ltb n (k + 1) (omega arith), lt-ltb n k lt) refl)
    (λ (ge : k ≤ n). let yes' : eqb n k ≡ true = grind (arith, nat_tests) in let same : o ≡ k = e ∙ rw yes' (omega arith) in rw (same, lt-ltb k (k + 1) (omega arith), le-ltb n k ge) refl)
    (cases_lt n k)
step n k o false le e =
    ⊎_elim
    (λ (lt : n < k). let no' : eqb n k ≡ false = grind (arith, nat_tests) in let same : o ≡ n = e ∙ rw no' refl in rw (same, lt-ltb n (k + 1) (omega arith), lt-ltb n k lt) refl)
    (λ (ge : k ≤ n). let yes' : eqb n k ≡ true = grind (arith, nat_tests) in let same : o ≡ k + 1 = e ∙ rw yes' refl in rw (same, le-ltb (k + 1) (k + 1) (omega arith), le-ltb n k ge) refl)
    (cases_lt n k)

-- the first place that passes, one element on
pub position_next : {X : Type 0} (p : X → Bool) (xs : List X) (k : ℕ) (d : X) → k < length xs → position p (take (k + 1) xs) ≡ option_or (position p (take k xs)) (cond (p (get_or xs k d)) (Some k) None)
position_next p xs k d lt =
    let front = take k xs in
    let y = get_or xs k d in
    let long : length front ≡ k = length-take-le k xs (omega arith) in
    let le = prefix_len-le-length (λ x. not (p x)) front in
    ap (position p) (take_more xs k d lt) ∙ rw (length_push front y, long) (step (position_or_len p front) k (position_or_len p (front ++ y ∷ [])) (p y) (omega (arith, le, long)) (rw long at (position_or_len_push p front y)))

or_none : (o : Option ℕ) → option_or o None ≡ o
or_none None = refl
or_none (Some n) = refl

module _ {X : Type 0} (owner end : X → ℕ) (p i : ℕ) (xs : List X) (k : ℕ) (d : X) (old : Option ℕ) (lt : k < length xs) (is : old ≡ position (λ x. eqb (owner x) p && eqb (end x) i) (take k xs)) where
  abbrev test : X → Bool
  test x = eqb (owner x) p && eqb (end x) i

  abbrev y : X
  y = get_or xs k d

  -- one element on, which is one of p's
  pub one_more : owner (get_or xs k d) ≡ p → option_or old (cond (eqb (end (get_or xs k d)) i) (Some k) None) ≡ position (λ x. eqb (owner x) p && eqb (end x) i) (take (k + 1) xs)
  one_more own =
      let yes : eqb (owner y) p ≡ true = grind (arith, nat_tests) in
      (λ j. option_or (is j) (cond (sym yes j && eqb (end y) i) (Some k) None)) ∙ sym (position_next test xs k d lt)

  -- and which is not
  pub none_more : owner (get_or xs k d) ≢ p → old ≡ position (λ x. eqb (owner x) p && eqb (end x) i) (take (k + 1) xs)
  none_more other =
      let no' : eqb (owner y) p ≡ false = grind (arith, nat_tests) in
      sym (or_none old) ∙ (λ j. option_or (is j) (cond (sym no' j && eqb (end y) i) (Some k) None)) ∙ sym (position_next test xs k d lt)
