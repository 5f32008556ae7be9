use Rattle.raw_image.proofs.Follows.{fronts_short, behind_is_extra, short_at_end, fault_stays}
use Rattle.raw_image.proofs.laws.law_faults.Goals as goal

pub returns : goal.returns
returns c = record {
  front = λ bytes set n i l. fronts_short bytes set n (c.law_reading.ensures.read bytes set i) l;
  behind = λ bytes more set i l. behind_is_extra bytes more set (c.law_reading.ensures.read bytes set i) l;
  short = short_at_end;
  stays = fault_stays;
}
