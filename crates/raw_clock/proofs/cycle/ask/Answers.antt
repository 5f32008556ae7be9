use Rattle.std.proofs.Common.{false, ltb, ℕ, Bool, Option, ◌≡◌, Some, None, sym, ap, ◌∙◌}
use Rattle.std.specs.Prelude.{option_map, slice_index}
use Rattle.raw_model.specs.Program.{ProgramSet}
use Rattle.raw_model.specs.Machine.{is_stopped}
use Rattle.raw_model.specs.Rest.{stopped, is_stopped_at}
use Rattle.raw_model.specs.Waits.{first_wait}
use Rattle.raw_processor.specs.Processor.{local_of, owed_of}
use Rattle.raw_serial.specs.declared.turn.Turn.{Turn}
use Rattle.raw_serial.specs.declared.turn.Wait.{Wait}
use Rattle.raw_serial.specs.Turns.{turn_by}
use Rattle.raw_clock.proofs.Asking.{waits_going}
use Rattle.raw_clock.proofs.cycle.ask.Goals as goal

-- the same turn by the same three answers
alike : (turn : Turn) (stops halts : Bool) (owed own : ℕ) (wait first : Option ℕ) → turn ≡ turn_by stops (ltb 0 owed) wait → halts ≡ stops → own ≡ owed
    → first ≡ wait → turn ≡ turn_by halts (ltb 0 own) first
alike turn stops halts owed own wait first is stop owes waits =
    is
    ∙ ap (λ b. turn_by b (ltb 0 owed) wait) (sym stop)
    ∙ ap (λ n. turn_by halts (ltb 0 n) wait) (sym owes)
    ∙ ap (λ o. turn_by halts (ltb 0 own) o) (sym waits)

pub returns-in-Some-clause-answer : goal.returns-in-Some-clause-answer
returns-in-Some-clause-answer c =
    let m = c.args.machine.now in
    let p = c.args.p.0 in
    let w = c.in-Some.wait.wire.0 in
    let waits : first_wait m.set m.state p ≡ Some w =
    sym c.first_wait.ensures.wire ∙ ap (option_map (λ (wait : Wait). wait.wire.0)) c.in-Some.is in
    alike c.ask_waiting.result false (stopped m.set m.state p) (owed_of c.processor-processor.result.now) (slice_index m.owed p) (Some w) (first_wait m.set m.state p)
    c.ask_waiting.ensures (waits_going m.set m.state p w waits) c.processor-processor.ensures.owed waits

pub returns-in-None-clause-answer : goal.returns-in-None-clause-answer
returns-in-None-clause-answer c =
    let m = c.args.machine.now in
    let p = c.args.p.0 in
    let l = local_of c.processor-processor.result.now in
    let waits : first_wait m.set m.state p ≡ None =
    sym c.first_wait.ensures.wire ∙ ap (option_map (λ (wait : Wait). wait.wire.0)) c.in-None.is in
    let stops : stopped m.set m.state p ≡ is_stopped c.set-set.result.now p l =
    ap (is_stopped_at m.set p) c.processor-processor.ensures.local ∙ ap (λ (set : ProgramSet). is_stopped set p l) (sym c.set-set.ensures.value) in
    alike c.ask_ready.result (is_stopped c.set-set.result.now p l) (stopped m.set m.state p) (owed_of c.processor-processor.result.now) (slice_index m.owed p) None
    (first_wait m.set m.state p) c.ask_ready.ensures stops c.processor-processor.ensures.owed waits
