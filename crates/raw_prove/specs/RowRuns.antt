-- What one run with terms is asked of a claim of rows.
use Rattle.std.specs.Prelude.{ℕ, ◌≤◌, List}
use Rattle.raw_model.specs.declared.limits.TheConstants.{MAX_ALL_WORDS}
use Rattle.raw_model.specs.Program.{ProgramSet, IsSet}
use Rattle.raw_stream.specs.Streams.{Stream}
use Rattle.raw_stream.specs.Unrolled.{word_count}
use Rattle.raw_row_terms.specs.RowClaims.{IsClaimOf}

-- a set and a claim of rows whose words are no more than all sources of a set may have
pub record FitsOneRun (set : ProgramSet) (s : Stream) (order : List ℕ) : Type 0 where
  pub valid : IsSet set
  pub claim : IsClaimOf set s order
  pub few : word_count s ≤ MAX_ALL_WORDS
