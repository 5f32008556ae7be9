-- How many steps a processor has taken, as its local state says, and that they are few.
use Rattle.std.proofs.Common.{◌≡◌, ℕ, ◌-◌, ◌*◌, ◌≤◌, length, Option, Some, None, refl, ap, arith}
use Rattle.std.specs.Prelude.{slice_get}
use Rattle.std.proofs.lemmas.List.Sums.{sum_by_more_le}
use Rattle.std.proofs.lemmas.Option.{slice_get_within, get_or_from_slice_get}
use Rattle.raw_grid.specs.Topology.{tile_count}
use Rattle.raw_model.specs.Program.{ProgramSet, PortProgram, IsSet}
use Rattle.raw_model.specs.Local.{Local, Source, Sink, steps_of}
use Rattle.raw_model.specs.Machine.{port_program, words_of}
use Rattle.raw_model.specs.Start.{IsFit}
use Rattle.raw_serial.proofs.Ports.{capacity_few}

words_few : (set : ProgramSet) → IsSet set → (i : ℕ) (port : Option PortProgram) → slice_get set.ports i ≡ port → length (words_of port) ≤ 262144
words_few set valid i None e = omega arith
words_few set valid i (Some port) e =
    let words = λ (port : PortProgram). length port.words in
    omega (arith, sum_by_more_le words set.ports i port (slice_get_within set.ports i port e), ap words (get_or_from_slice_get set.ports i port port e), valid.totals.words)

-- a processor has taken few steps
pub fit_few : (set : ProgramSet) → IsSet set → (p : ℕ) (l : Local) → IsFit set p l → steps_of l ≤ 10000000
fit_few set valid p (Source l) fit = omega (arith, fit.1.done, words_few set valid (p - 2 * tile_count set.topo) (port_program set p) refl)
fit_few set valid p (Sink l) fit = omega (arith, fit.1.done, capacity_few set p valid)
fit_few set valid p _ fit = omega (arith, fit.1.count, valid.few_steps)
