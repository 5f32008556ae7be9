-- At which depth a set has the fewest cycles, and what its cycles say.
use Rattle.std.proofs.Common.{◌≡◌, ℕ, ◌+◌, ◌<◌, ◌≤◌, Bool, true, false, sym, ap, ◌∙◌, ⊎_elim, arith}
use Rattle.std.specs.Prelude.{nat_le, unwrap_or}
use Rattle.std.proofs.lemmas.Bool.{cases_Bool, le-leb, leb-true}
use Rattle.raw_model.specs.Program.{ProgramSet, IsSet}
use Rattle.raw_depth.specs.Depth.{at_depth}
use Rattle.raw_depth.proofs.Finding.{find_is}
use Rattle.raw_depth.proofs.Never.{set_at}
use Rattle.raw_clock.specs.Clock.{clock, HasCycles}
use Rattle.raw_steady.specs.Count.{cycle_count}
use Rattle.raw_steady.specs.Steady.{NoneBlocked}
use Rattle.raw_depths.specs.Text.{cycles_at, is_fastest, fastest_from}
use Rattle.raw_depths.specs.Found.{IsFastestTo, AreItsCycles}
use Rattle.raw_steady.proofs.Number.{each_in}
use Rattle.raw_depths.proofs.Reports.{all_in}

pub fastest_from_is : (set : ProgramSet) (d : ℕ) → IsFastestTo set 7 d → d ≡ fastest_from set
unfolding fastest_from
fastest_from_is set d is =
    let some = is.some in
    let few = is.few in
    sym (ap (λ o. unwrap_or o 7) (find_is (is_fastest set) 1 7 d (record {
      from = some;
      below = omega arith;
      passes = all_in (λ k. nat_le (cycles_at set d) (cycles_at set k)) 1 7
          (λ k low high. le-leb (cycles_at set d) (cycles_at set k) (is.least k low (omega arith)));
      before = not_before;
    })))
  where
    not_before : (k : ℕ) → 1 ≤ k → k < d → is_fastest set k ≡ false
    not_before k some less =
        ⊎_elim
        (λ (on : is_fastest set k ≡ true).
        let few = is.few in
        let at = leb-true (cycles_at set k) (cycles_at set d)
        (each_in (λ j. nat_le (cycles_at set k) (cycles_at set j)) 1 7 on d is.some (omega arith)) in
        let more = is.before k some less in
        absurd (omega (arith, at, more)))
        (λ (off : is_fastest set k ≡ false). off)
        (cases_Bool (is_fastest set k))

pub its_cycles : (set : ProgramSet) → IsSet set
    → ((set : ProgramSet) → IsSet set → HasCycles set (cycle_count set))
    → ((set : ProgramSet) (d n m : ℕ) → IsSet set → set.depth ≤ d →
    HasCycles set n → HasCycles (at_depth set d) m → NoneBlocked set (clock set n) → m ≤ n)
    → AreItsCycles set
its_cycles set valid has longer =
    let counted : (d : ℕ) → 1 ≤ d → d ≤ 7 → HasCycles (at_depth set d) (cycles_at set d) =
    λ d some few. has (at_depth set d) (set_at set d valid some few) in
    record {
      counted = counted;
      no_longer = λ d e m some few deeper free more.
          longer (at_depth set d) e (cycles_at set d) m (set_at set d valid some few) deeper (counted d some few) more free;
    }
