use Rattle.raw_live_text.proofs.Pieces.{lines_more, whole_grows}
use Rattle.raw_live_text.proofs.Feeds.{fed_none, fed_stays, fed_grows}
use Rattle.raw_live_text.proofs.HeadLines.{unended_goes_on, mark_stays, fault_stays, faultless, fault_told}
use Rattle.raw_live_text.proofs.FedWords.{fed_within, fed_same}
use Rattle.raw_live_text.proofs.laws.law_heads.Goals as goal

pub returns : goal.returns
returns c = record {
  unended = unended_goes_on;
  marked = mark_stays;
  faulty = fault_stays;
  faultless = faultless;
  fault = fault_told;
  whole = lines_more;
  whole_longer = whole_grows;
  none = fed_none;
  stopped = fed_stays;
  begins = fed_grows;
  alike = fed_same;
  sources = λ intake lines. (fed_within intake lines).are;
  room = λ intake lines. (fed_within intake lines).few;
}
