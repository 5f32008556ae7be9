use Rattle.std.proofs.Common.{sym, ◌∙◌}
use Rattle.raw_model.specs.Start.{start}
use Rattle.raw_model.specs.Serial.{serial}
use Rattle.raw_debug.proofs.UpTo.{up_to_begins, up_to_count}
use Rattle.raw_debug.proofs.Shown.{serial_kth}
use Rattle.raw_debug.proofs.laws.law_shown_state.Goals as goal

pub returns : goal.returns
returns c = record {
  shown = λ set p k steps valid lawful in_serial in_steps.
      sym (c.law_same_rest.ensures.same_locals set (start set) (serial set) steps valid (c.law_serial.ensures.run set valid).lawful lawful p k in_serial in_steps ∙ serial_kth set p k valid in_serial);
  most = λ set p steps valid lawful.
      let run = c.law_serial.ensures.run set valid in
      c.law_same_rest.ensures.at_most_as_often set (start set) (serial set) steps valid (record { lawful = run.lawful; quiet = run.quiet }) lawful p;
  begins = λ set p k. up_to_begins p k (serial set);
  kth = λ set p k le. up_to_count p k (serial set) le;
}
