use Rattle.raw_asm.proofs.FirstLines.{each_given, length_fits}
use Rattle.raw_asm.proofs.laws.law_first_lines.Goals as goal

pub returns : goal.returns
returns g c = record {
  given = λ language lines n. each_given language lines n;
  few = λ language keeps lines n. length_fits language lines keeps n;
}
