-- What one run says of a stream each run says.
use Rattle.std.proofs.Common.{◌≡◌, ℕ, List, Option, ap, ◌∙◌}
use Rattle.std.proofs.Math.Logic.{∥∥₁_elim}
use Rattle.std.proofs.Math.Nat.{ℕ_set}
use mathlib.Core.List.{is_set}
use Rattle.raw_model.specs.Program.{ProgramSet}
use Rattle.raw_model.specs.Start.{MachineState}
use Rattle.raw_model.specs.Rest.{IsRun, end}
use Rattle.raw_model.specs.Serial.{serial}
use Rattle.raw_model.proofs.Sweeping.{serial_rests}
use Rattle.raw_outcome.specs.declared.ends.Outcome.{Outcome}
use Rattle.raw_stream.specs.Streams.{Stream}
use Rattle.raw_stream.specs.Unrolled.{all_rows}
use Rattle.raw_row_terms.specs.RowClaims.{got_at, due_in}
use Rattle.raw_prove.proofs.Resting.{led_end, each_tells}
use Rattle.raw_refute.specs.declared.fault.Fault.{Fault}
use Rattle.raw_refute.specs.RowJudged.{judged_rows, IsRowsJudged}
use Rattle.raw_refute.proofs.Judged.{IsRest}

-- each port has received the same
same_got : (set : ProgramSet) (state : MachineState) (how : Outcome) → IsRest set state how → (steps : List ℕ) → IsRun set steps → (q : ℕ) → got_at set state q ≡ got_at set (end set steps) q
same_got set state how r steps run q =
    ∥∥₁_elim r.leads (is_set ℕ_set _ _) (λ led. ap (λ (t : MachineState). got_at set t q) (led_end set r.valid state r.quiet how r.tells steps run led.0 led.1))

pub rows_judged : (set : ProgramSet) (s : Stream) (order words : List ℕ) (state : MachineState) (how : Outcome) (fault : Option Fault)
    → IsRest set state how → fault ≡ judged_rows how set s order (due_in s order (all_rows s words)) (got_at set state) → IsRowsJudged set s order words fault
rows_judged set s order words state how fault r is = record {
  some = (serial set, serial_rests set r.valid);
  each = λ steps run.
      let same : ◌≡◌ {A = ℕ → List ℕ} (got_at set state) (got_at set (end set steps)) = λ t q. same_got set state how r steps run q t in
      record {
        how = how;
        tells = each_tells set r.valid state r.quiet how r.tells steps run r.leads;
        is = is ∙ ap (λ (got : ℕ → List ℕ). judged_rows how set s order (due_in s order (all_rows s words)) got) same;
      };
}
