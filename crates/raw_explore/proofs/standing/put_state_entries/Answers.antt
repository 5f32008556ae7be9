use Rattle.std.proofs.Common.{refl, sym, ap, ◌∙◌, arith}
use Rattle.std.specs.Prelude.{slice_get, slice_index}
use Rattle.std.specs.List.{flat_map}
use Rattle.raw_model.specs.Start.{MachineState, start}
use Rattle.raw_processor.specs.Processor.{local_of}
use Rattle.raw_trace.specs.Standing.{misses_entries}
use Rattle.raw_trace.specs.Text.{entry_text}
use Rattle.raw_state_text.proofs.Sections.{nothing_yet, one_more, failed, last_part, same_text}
use Rattle.raw_explore.proofs.StateLines.{state_text, count_is, registers_text, memory_text}
use Rattle.raw_explore.proofs.standing.put_state_entries.Goals as goal

pub returns-in_err-put_entry : goal.returns-in_err-put_entry
returns-in_err-put_entry g c =
    let m = c.args.machine.now in
    let p = c.args.p.0 in
    let is = count_is (slice_get m.state.locals p) c.count.result c.count.ensures.value in
    let parts = state_text m.set m.state p (slice_index m.missed p) c.count.result is (omega (arith, is, c.requires.some)) in
    failed _ _ _ _ _ _ _ (nothing_yet _ _) parts _ c.from_residual.result c.from_residual.ensures.0 c.in_err-put_entry.ensures

pub returns-in_err-put_all_held : goal.returns-in_err-put_all_held
returns-in_err-put_all_held g c =
    let m = c.args.machine.now in
    let p = c.args.p.0 in
    let is = count_is (slice_get m.state.locals p) c.count.result c.count.ensures.value in
    let parts = state_text m.set m.state p (slice_index m.missed p) c.count.result is (omega (arith, is, c.requires.some)) in
    failed _ _ _ _ _ _ _
    (one_more _ _ _ _ _ _ _ (nothing_yet _ _) parts _ c.in_ok-put_entry.ensures) refl _
    c.from_residual-in_err-put_all_held.result c.from_residual-in_err-put_all_held.ensures.0 c.in_err-put_all_held.ensures

pub returns-in_err-put_registers : goal.returns-in_err-put_registers
returns-in_err-put_registers g c =
    let m = c.args.machine.now in
    let p = c.args.p.0 in
    let is = count_is (slice_get m.state.locals p) c.count.result c.count.ensures.value in
    let parts = state_text m.set m.state p (slice_index m.missed p) c.count.result is (omega (arith, is, c.requires.some)) in
    let regs = registers_text c.registers.result.now (local_of c.processor-processor.result.now) (slice_get m.state.locals p) c.registers.ensures
    c.processor-processor.ensures.local in
    failed _ _ _ _ _ _ _
    (one_more _ _ _ _ _ _ _ (one_more _ _ _ _ _ _ _ (nothing_yet _ _) parts _ c.in_ok-put_entry.ensures) refl _ c.in_ok-put_all_held.ensures) refl _
    c.from_residual-in_err-put_registers.result c.from_residual-in_err-put_registers.ensures.0 (same_text _ _ _ _ _ regs c.in_err-put_registers.ensures)

pub returns-in_err-put_memory_of : goal.returns-in_err-put_memory_of
returns-in_err-put_memory_of g c =
    let m = c.args.machine.now in
    let p = c.args.p.0 in
    let is = count_is (slice_get m.state.locals p) c.count.result c.count.ensures.value in
    let parts = state_text m.set m.state p (slice_index m.missed p) c.count.result is (omega (arith, is, c.requires.some)) in
    let regs = registers_text c.registers.result.now (local_of c.processor-processor.result.now) (slice_get m.state.locals p) c.registers.ensures
    c.processor-processor.ensures.local in
    let memory = memory_text (local_of c.processor-processor.result.now) (local_of c.processor.result.now) (slice_get m.state.locals p)
    (slice_get (start m.set).locals p) c.processor-processor.ensures.local
    (ap (λ (s : MachineState). slice_get s.locals p) (sym c.requires.fresh.state) ∙ c.processor.ensures.local) in
    failed _ _ _ _ _ _ _
    (one_more _ _ _ _ _ _ _ (one_more _ _ _ _ _ _ _ (one_more _ _ _ _ _ _ _ (nothing_yet _ _) parts _ c.in_ok-put_entry.ensures) refl _ c.in_ok-put_all_held.ensures) refl _ (same_text _ _ _ _ _ regs c.in_ok-put_registers.ensures)) refl _
    c.from_residual-in_err-put_memory_of.result c.from_residual-in_err-put_memory_of.ensures.0 (same_text _ _ _ _ _ memory c.in_err-put_memory_of.ensures)

pub returns : goal.returns
returns g c =
    let m = c.args.machine.now in
    let p = c.args.p.0 in
    let is = count_is (slice_get m.state.locals p) c.count.result c.count.ensures.value in
    let parts = state_text m.set m.state p (slice_index m.missed p) c.count.result is (omega (arith, is, c.requires.some)) in
    let regs = registers_text c.registers.result.now (local_of c.processor-processor.result.now) (slice_get m.state.locals p) c.registers.ensures
    c.processor-processor.ensures.local in
    let memory = memory_text (local_of c.processor-processor.result.now) (local_of c.processor.result.now) (slice_get m.state.locals p)
    (slice_get (start m.set).locals p) c.processor-processor.ensures.local
    (ap (λ (s : MachineState). slice_get s.locals p) (sym c.requires.fresh.state) ∙ c.processor.ensures.local) in
    let last = ap (λ k. flat_map entry_text (misses_entries k)) (c.missed.ensures ∙ sym c.processor-processor.ensures.misses) in
    last_part _ _ _ _ _ _ _
    (one_more _ _ _ _ _ _ _ (one_more _ _ _ _ _ _ _ (one_more _ _ _ _ _ _ _ (one_more _ _ _ _ _ _ _ (nothing_yet _ _) parts _ c.in_ok-put_entry.ensures) refl _ c.in_ok-put_all_held.ensures) refl _ (same_text _ _ _ _ _ regs c.in_ok-put_registers.ensures)) refl _ (same_text _ _ _ _ _ memory c.in_ok-put_memory_of.ensures)) refl
    (same_text _ _ _ _ _ last c.put_misses.ensures)
