use Rattle.std.proofs.Common.{◌≡◌, None}
use Rattle.std.specs.Prelude.{slice_index_or}
use Rattle.raw_network.specs.Waits.{lacks_values}
use Rattle.raw_serial.proofs.Finding.{found_from}
use Rattle.raw_serial.proofs.needs.first_empty.Given as goal

abbrev pub invariant-loop-end : goal.invariant-loop-end
invariant-loop-end l =
    found_from (lacks_values l.takes l.wires) (λ end. slice_index_or l.inputs end None) l.end
    ≡ found_from (lacks_values l.takes l.wires) (λ end. slice_index_or l.inputs end None) 0
