use Rattle.std.proofs.Common.{◌≡◌, None, sym, ◌∙◌, arith}
use Rattle.raw_row_terms.specs.RowClaims.{misfed}
use Rattle.raw_row_terms.proofs.Meeting.{words_are}
use Rattle.raw_prove.proofs.rows.judge.Goals as goal

pub run_rows-requires-clause-fits : goal.run_rows-requires-clause-fits
run_rows-requires-clause-fits c =
    let none : misfed c.args.set.now c.args.stream.now ≡ None = sym c.misfed.ensures ∙ c.in-None.is in
    record {
      valid = c.requires.valid;
      claim = c.requires.claim;
      few = omega (arith, words_are c.args.set.now c.args.stream.now c.requires.claim.ports none, c.requires.valid.totals.words);
    }
