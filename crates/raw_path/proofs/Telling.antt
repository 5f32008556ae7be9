-- What is told of stretches, with one more.
use Rattle.std.proofs.Common.{◌≡◌, ℕ, ◌+◌, ◌<◌, ◌≤◌, Bool, true, false, cond, eqb, List, [], ◌∷◌, ◌++◌, length, get_or, sym, ◌∙◌, subst, arith}
use Rattle.std.specs.Prelude.{slice_index}
use Rattle.std.proofs.lemmas.Option.{slice_get-get_or, get_or_from_slice_get}
use Rattle.std.proofs.lemmas.List.Sums.{sum_by-le-sum_by}
use Rattle.raw_path.specs.declared.stretch.Stretch.{Stretch}
use Rattle.raw_path.specs.declared.stretch.WaitedFor.{WaitedFor}
use Rattle.raw_path.specs.declared.stretch.WaitedFor.TheVariants.{Nothing, Value, Room}
use Rattle.raw_path.specs.declared.told.Told.{Told}
use Rattle.raw_path.specs.Path.{one_value, one_room, turns_if, turns_on, all_turns}
use Rattle.raw_path.specs.Known.{IsTold}

if_at_most : (p : ℕ) (s : Stretch) → turns_if p s ≤ s.turns
if_at_most p s = by_test (eqb s.p p)
  where
    by_test : (b : Bool) → cond b s.turns 0 ≤ s.turns
    by_test true = omega arith
    by_test false = omega arith

-- what is read of a list of numbers
pub read_at : (xs : List ℕ) (i x : ℕ) → i < length xs → x ≡ get_or xs i x → x ≡ slice_index xs i
read_at xs i x below is = is ∙ sym (get_or_from_slice_get xs i (get_or xs i x) 0 (slice_get-get_or xs i x below))

pub turns_at_most : (p : ℕ) (ss : List Stretch) → turns_on p ss ≤ all_turns ss
turns_at_most p ss = sum_by-le-sum_by (turns_if p) (λ (s : Stretch). s.turns) ss (if_at_most p)

pub one_of_value : (w : WaitedFor) → one_value w ≤ 1
one_of_value (Value w) = omega arith
one_of_value Nothing = omega arith
one_of_value (Room w) = omega arith

pub one_of_room : (w : WaitedFor) → one_room w ≤ 1
one_of_room (Room w) = omega arith
one_of_room Nothing = omega arith
one_of_room (Value w) = omega arith

pub told_same : (procs stalled : ℕ) (ss : List Stretch) (t : Told) → IsTold procs stalled ss t → IsTold procs stalled t.stretches.items t
told_same procs stalled ss t is = subst (λ xs. IsTold procs stalled xs t) (sym is.stretches) is

-- one more, of which is told as of the ones before
pub told_next : (procs stalled : ℕ) (ss : List Stretch) (s : Stretch) (old new : Told) → IsTold procs stalled ss old
    → IsTold (length old.turns.items) old.stalled (old.stretches.items ++ s ∷ []) new → IsTold procs stalled (old.stretches.items ++ s ∷ []) new
told_next procs stalled ss s old new is next =
    subst (λ n. IsTold n stalled (old.stretches.items ++ s ∷ []) new) is.many
    (subst (λ n. IsTold (length old.turns.items) n (old.stretches.items ++ s ∷ []) new) is.stalled next)
