-- The first place that passes a test, as `position` answers it.
use Rattle.std.proofs.Common.{◌≡◌, ℕ, ◌<◌, ◌≤◌, Bool, true, false, not, cond, ltb, List, length, get_or, Option, Some, None, refl, arith}
use Rattle.std.specs.Option.{unwrap_or}
use Rattle.std.specs.List.{position, position_or_len}
use Rattle.std.proofs.lemmas.List.Sums.{prefix_len-le-length, position_or_len_is}
use Rattle.std.proofs.lemmas.Bool.{lt-ltb, le-ltb}
use Rattle.std.proofs.lemmas.Bool.Decides.{nat_tests}

or_len : (b : Bool) (n len : ℕ) → b ≡ ltb n len → n ≤ len → unwrap_or (cond b (Some n) None) len ≡ n
or_len true n len e h = refl
or_len false n len e h = grind (arith, nat_tests)

-- `position`, with the length where nothing passes
pub position_or_len_from : {X : Type 0} (p : X → Bool) (xs : List X) (found : Option ℕ) → found ≡ position p xs → unwrap_or found (length xs) ≡ position_or_len p xs
position_or_len_from p xs found e = rw e (or_len _ (position_or_len p xs) (length xs) refl (prefix_len-le-length (λ x. not (p x)) xs))

pub place_within : {X : Type 0} (p : X → Bool) (xs : List X) (n : ℕ) → n ≡ position_or_len p xs → n ≤ length xs
place_within p xs n e = rw e (prefix_len-le-length (λ x. not (p x)) xs)

pub position_found : {X : Type 0} (p : X → Bool) (xs : List X) (i : ℕ) (d : X) → i < length xs → ((k : ℕ) → k < i → p (get_or xs k d) ≡ false) → p (get_or xs i d) ≡ true → position p xs ≡ Some i
position_found p xs i d lt before here =
    let e : position_or_len p xs ≡ i = position_or_len_is p xs i d (omega arith) before (λ _. here) in
    rw (e, lt-ltb i (length xs) lt) refl

pub position_absent : {X : Type 0} (p : X → Bool) (xs : List X) (d : X) → ((k : ℕ) → k < length xs → p (get_or xs k d) ≡ false) → position p xs ≡ None
position_absent p xs d fails =
    let e : position_or_len p xs ≡ length xs = position_or_len_is p xs (length xs) d (omega arith) fails (λ lt. absurd (omega arith)) in
    rw (e, le-ltb (length xs) (length xs) (omega arith)) refl
