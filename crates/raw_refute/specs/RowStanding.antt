-- What stands before a claim of rows is tried: its set keeps the rules, and each port has as many words as all rows take.
use Rattle.std.specs.Prelude.{◌≡◌, ℕ, None, List}
use Rattle.raw_model.specs.Program.{ProgramSet, IsSet}
use Rattle.raw_stream.specs.Streams.{Stream}
use Rattle.raw_row_terms.specs.RowClaims.{misfed, IsClaimOf}
use Rattle.raw_refute.specs.RowAnswers.{AreRowsRight}

-- a claim, before any words are tried
pub record RowsStand (set : ProgramSet) (s : Stream) (order : List ℕ) : Type 0 where
  pub valid : IsSet set
  pub claim : IsClaimOf set s order
  pub counts : misfed set s ≡ None

-- a claim that the set's own words do not refute
pub record OwnRowsStand (set : ProgramSet) (s : Stream) (order own : List ℕ) : Type 0 where
  pub valid : IsSet set
  pub claim : IsClaimOf set s order
  pub right : AreRowsRight set s order own
