use Rattle.raw_live_rows.proofs.Told.{rows_told}
use Rattle.raw_live_rows.proofs.laws.law_rows_told.Goals as goal

pub returns : goal.returns
returns c =
    rows_told
    (record { alike = c.law_heads.ensures.alike; sources = c.law_heads.ensures.sources; room = c.law_heads.ensures.room })
    c.law_one_answer.ensures
    (record { start_fits = c.law_fits.ensures.start_fits; end_fits = c.law_fits.ensures.end_fits })
    c.law_sizes.ensures.procs
