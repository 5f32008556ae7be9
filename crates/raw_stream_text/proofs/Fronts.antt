-- The first element that passes, in a front of a list.
use Rattle.std.proofs.Common.{◌≡◌, ℕ, ◌+◌, ◌<◌, ◌≤◌, Bool, true, false, not, cond, eqb, ltb, List, ◌++◌, length, Option, Some, None, refl, ◌∙◌, arith, ⊎_elim}
use Rattle.std.specs.List.{position, position_or_len}
use Rattle.std.proofs.lemmas.Bool.{lt-ltb, le-ltb, cases_lt}
use Rattle.std.proofs.lemmas.Bool.Decides.{nat_tests}
use Rattle.std.proofs.lemmas.List.{length-append}
use Rattle.std.proofs.lemmas.List.Folds.{prefix_len-append}
use Rattle.std.proofs.lemmas.List.Sums.{prefix_len-le-length}
use Rattle.std.proofs.lemmas.Option.{none-some}
use Rattle.raw_stream_text.specs.Building.{number_below}

behind : (b : Bool) (n m : ℕ) → number_below n (cond b (Some (n + m)) None) ≡ None
behind true n m = rw (le-ltb (n + m) n (omega arith)) refl
behind false n m = refl

step : (first long more whole place : ℕ) → first ≤ long → long ≤ whole → place ≡ cond (eqb first long) (long + more) first
    → number_below long (cond (ltb place whole) (Some place) None) ≡ cond (ltb first long) (Some first) None
step first long more whole place le some e =
    ⊎_elim
    (λ (lt : first < long). let no' : eqb first long ≡ false = grind (arith, nat_tests) in let same : place ≡ first = e ∙ rw no' refl in rw (same, lt-ltb first whole (omega arith), lt-ltb first long lt) refl)
    (λ (ge : long ≤ first). let yes' : eqb first long ≡ true = grind (arith, nat_tests) in let same : place ≡ long + more = e ∙ rw yes' refl in rw (same, le-ltb first long ge) (behind (ltb (long + more) whole) long more))
    (cases_lt first long)

-- its number, where that is in the front
pub front_number : {X : Type 0} (test : X → Bool) (xs ys : List X) → number_below (length xs) (position test (xs ++ ys)) ≡ position test xs
front_number {X = X} test xs ys =
    let fails : X → Bool = λ (x : X). not (test x) in
    let le = prefix_len-le-length fails xs in
    let long = length-append xs ys in
    step (position_or_len test xs) (length xs) (position_or_len test ys) (length (xs ++ ys)) (position_or_len test (xs ++ ys)) le (omega (arith, long)) (prefix_len-append fails xs ys)

by_test : (b : Bool) (j i : ℕ) → cond b (Some j) None ≡ Some i → Some j ≡ Some i
by_test true j i e = e
by_test false j i e = absurd (none-some i e)

pub below_is : (long : ℕ) (o : Option ℕ) (i : ℕ) → number_below long o ≡ Some i → o ≡ Some i
below_is long None i e = absurd (none-some i e)
below_is long (Some j) i e = by_test (ltb j long) j i e
