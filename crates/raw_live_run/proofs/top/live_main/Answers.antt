use Rattle.std.proofs.Common.{ap}
use Rattle.raw_live_run.specs.Live.{live_word}
use Rattle.raw_live_run.proofs.Reaches.{LawsOfLines}
use Rattle.raw_live_run.proofs.Told.{LawsOfGots, LawsOfDue}
use Rattle.raw_live_run.proofs.Completing.{has_cause, is_complete}
use Rattle.raw_live_run.proofs.Promising.{is_fed, headline_of, text_written}
use Rattle.raw_live_run.proofs.top.live_main.Goals as goal

pub returns : goal.returns
returns g c =
    let lines : LawsOfLines = record {
      marked = c.law_heads.ensures.marked live_word;
      faulty = c.law_heads.ensures.faulty live_word;
      whole = c.law_heads.ensures.whole;
      whole_longer = c.law_heads.ensures.whole_longer;
      no_fault = λ intake. ap (λ s. s.fault) (c.law_heads.ensures.none intake);
      begins = c.law_heads.ensures.begins;
      stopped = c.law_heads.ensures.stopped;
      alike = c.law_heads.ensures.alike;
    } in
    let texts : LawsOfGots = record { items = c.law_gots.ensures.items; rest = c.law_gots.ensures.rest; front = c.law_gots.ensures.front } in
    let due : LawsOfDue = record { rest = c.law_due.ensures.rest; says = c.law_due.ensures.says; small = c.law_due.ensures.small } in
    let ended = c.carry_out.ensures in
    record {
      headline = headline_of lines texts due _ ended;
      promises = record {
        text = text_written lines texts due _ ended;
        fed = is_fed lines _ ended;
        causes = has_cause lines _ ended;
        complete = is_complete lines c.law_one_answer.ensures _ ended;
        ended = ended;
      };
    }
