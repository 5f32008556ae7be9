use Rattle.std.proofs.Common.{◌≡◌, ◌≤◌, length, take}
use Rattle.std.specs.Prelude.{sum_by}
use Rattle.raw_model.specs.declared.limits.TheConstants.{MAX_ALL_WORDS}
use Rattle.raw_model.specs.Program.{PortProgram}
use Rattle.raw_cut.proofs.fitting.has_few_words.Given as goal

abbrev pub invariant-loop-port : goal.invariant-loop-port
invariant-loop-port l = record {
  sum : l.total ≡ sum_by (λ (port : PortProgram). length port.words) (take l.port-index l.ports);
  few : l.total ≤ MAX_ALL_WORDS;
}
