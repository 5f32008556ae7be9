-- A set whose run with terms comes to rest is steady.
use Rattle.std.proofs.Common.{◌≡◌, ℕ, sym, subst}
use Rattle.raw_model.specs.Program.{ProgramSet, IsSet}
use Rattle.raw_clock.specs.Clock.{HasCycles}
use Rattle.raw_term.specs.Control.{TermsRest}
use Rattle.raw_steady.specs.Count.{cycle_count}
use Rattle.raw_steady.specs.Steady.{EachSameClock, EachKeepsTime}
use Rattle.raw_steadiness.specs.Steadiness.{IsSteady}

pub steady_so : (set : ProgramSet) (n : ℕ) → EachSameClock → EachKeepsTime → ((set : ProgramSet) → IsSet set → HasCycles set (cycle_count set))
    → IsSet set → (sweeps : ℕ) × TermsRest set sweeps → n ≡ cycle_count set → IsSteady set n
steady_so set n alike keeps has valid rests is =
    let own : HasCycles set n = subst (λ k. HasCycles set k) (sym is) (has set valid) in
    record {
      same = λ one other a b. alike set rests.0 one other valid rests.1 a b;
      own = own;
      each = λ words are. keeps set rests.0 n words valid rests.1 are own;
    }
