-- The local states that tests are for.
use Rattle.std.proofs.Common.{◌≡◌, ℕ, ◌<◌, ◌≤◌, Bool, true, false, List, [], length, get_or, Option, Some, None, refl, sym, ap, ◌∙◌, arith}
use Rattle.std.specs.Prelude.{slice_get, IsSomeAnd}
use Rattle.std.specs.List.{position, position_or_len}
use Rattle.std.proofs.lemmas.Bool.{lt-ltb, le-ltb}
use Rattle.std.proofs.lemmas.Option.{get_or_from_slice_get, slice_get_within}
use Rattle.std.proofs.lemmas.List.Sums.{position_or_len_is}
use Rattle.raw_model.specs.Program.{ProgramSet}
use Rattle.raw_model.specs.Local.{Local, Source}
use Rattle.raw_outcome.specs.declared.ends.Test.{Test}
use Rattle.raw_outcome.specs.Told.{passes}

-- what is there at a place and passes
pub some_and : (set : ProgramSet) (t : Test) (a : Local) (result : Bool) (here : Option Local) → here ≡ Some a → result ≡ passes set t a → IsSomeAnd here (λ l. result ≡ passes set t l)
some_and set t a result here e passed = rw e passed

from_some_and : (set : ProgramSet) (t : Test) (result : Bool) (locals : List Local) (k : ℕ) (d : Local) → IsSomeAnd (slice_get locals k) (λ l. result ≡ passes set t l)
    → (k < length locals) × (result ≡ passes set t (get_or locals k d))
from_some_and set t result locals k d here = from (slice_get locals k) refl here
  where
    from : (o : Option Local) → slice_get locals k ≡ o → IsSomeAnd o (λ l. result ≡ passes set t l) → (k < length locals) × (result ≡ passes set t (get_or locals k d))
    from None e h = absurd h
    from (Some l) e h = (slice_get_within locals k l e, h ∙ ap (passes set t) (sym (get_or_from_slice_get locals k l d e)))

-- one that passes, where none before it does, is the first
pub first_is : (set : ProgramSet) (t : Test) (locals : List Local) (p : ℕ) → IsSomeAnd (slice_get locals p) (λ l. true ≡ passes set t l)
    → ((k : ℕ) → k < p → IsSomeAnd (slice_get locals k) (λ l. false ≡ passes set t l)) → position (passes set t) locals ≡ Some p
first_is set t locals p here before =
    let d : Local = Source (record { done = 0; got = [] }) in
    let own = from_some_and set t true locals p d here in
    let e : position_or_len (passes set t) locals ≡ p = position_or_len_is (passes set t) locals p d (omega (arith, own.0)) (λ k lt. sym (from_some_and set t false locals k d (before k lt)).1) (λ _. sym own.1) in
    rw (e, lt-ltb p (length locals) own.0) refl

-- where none passes there is no first
pub none_is : (set : ProgramSet) (t : Test) (locals : List Local) (n : ℕ) → length locals ≤ n
    → ((k : ℕ) → k < n → IsSomeAnd (slice_get locals k) (λ l. false ≡ passes set t l)) → position (passes set t) locals ≡ None
none_is set t locals n few before =
    let d : Local = Source (record { done = 0; got = [] }) in
    let e : position_or_len (passes set t) locals ≡ length locals =
    position_or_len_is (passes set t) locals (length locals) d (omega arith) (λ k lt. sym (from_some_and set t false locals k d (before k (omega arith))).1) (λ lt. absurd (omega arith)) in
    rw (e, le-ltb (length locals) (length locals) (omega arith)) refl
