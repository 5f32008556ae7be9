use Rattle.raw_live_text.proofs.Reading.{ends}
use Rattle.raw_live_text.proofs.reader.read_puts.Goals as goal

pub returns-clause-reads : goal.returns-clause-reads
returns-clause-reads g c = ends _ _ _ _ _ _ _ c.read_lines-read.result _ c.read_lines-read.ensures.reads c.put_end-ended.ensures.ended c.put_end-ended.ensures.same
