-- What is said of a stream: that it is proved, by rows or by a run over all of them, that words refute it, or neither.
use Rattle.std.specs.Prelude.{◌≡◌, ◌⊎◌, ℕ, Option, Some, None, List, sum_by}
use Rattle.raw_model.specs.Program.{ProgramSet}
use Rattle.raw_model.specs.Fed.{fed}
use Rattle.raw_stream.specs.Streams.{Stream}
use Rattle.raw_stream.specs.Unrolled.{unrolled}
use Rattle.raw_stream.specs.Kept.{due_count}
use Rattle.raw_term.specs.declared.verdict.Verdict.{Verdict}
use Rattle.raw_term.specs.declared.verdict.Verdict.TheVariants.{Proved}
use Rattle.raw_term.specs.Claims.{AreWords, Meets}
use Rattle.raw_row_terms.specs.RowClaims.{misfed, IsRowsVerdict}
use Rattle.raw_row_terms.specs.Right.{MeetsRows, IsRefutedInRows}
use Rattle.raw_refute.specs.declared.fault.Fault.{Fault}
use Rattle.raw_refute.specs.declared.said.Answer.{Answer}
use Rattle.raw_refute.specs.declared.said.Answer.TheVariants as answer
use Rattle.raw_refute.specs.Answers.{own_words}
use Rattle.raw_refute.specs.RowJudged.{IsRowsJudged}

-- the set's own words, where they are as many as all rows take, do not show that the claim is false
abbrev pub OwnRowsAreRight : ProgramSet → Stream → List ℕ → Type 0
OwnRowsAreRight set s order = misfed set s ≡ None → IsRowsJudged set s order (own_words set) None

-- these are the set's own words, as many as all rows take, and they do not show that the claim is false
pub record AreRowsRight (set : ProgramSet) (s : Stream) (order own : List ℕ) : Type 0 where
  pub are : own ≡ own_words set
  pub counts : misfed set s ≡ None
  pub right : OwnRowsAreRight set s order

-- The set stays as it is, and meets a stream: with any words in its sources each run ends done, and each sink has received what it is due of them,
-- row by row. So the set meets the flow that the stream is when it is unrolled, and its own words do not show that the claim is false.
pub record AreRowsMet (set : ProgramSet) (s : Stream) (order : List ℕ) (left : ProgramSet) : Type 0 where
  pub meets : Meets set (unrolled s)
  pub rows : MeetsRows set s
  pub own : OwnRowsAreRight set s order
  pub stays : left ≡ set

-- a stream is proved by one run with terms over all of its rows
pub record IsRowsProof (set : ProgramSet) (s : Stream) (order : List ℕ) (left : ProgramSet) (outs : ℕ) : Type 0 where
  pub verdict : IsRowsVerdict set s order (Proved outs)
  pub met : AreRowsMet set s order left

-- a stream is proved by rows; its outs are the words that its sinks are due of all rows
pub record IsProofByRows (set : ProgramSet) (s : Stream) (order : List ℕ) (left : ProgramSet) (outs : ℕ) : Type 0 where
  pub outs_are : outs ≡ sum_by (due_count s) order
  pub met : AreRowsMet set s order left

-- Words refute a stream whose rows take as many as there are: each run with them differs from it so. They are the set's own, or those do not
-- refute it. The set is left with them.
pub record IsRowsRefutation (set : ProgramSet) (s : Stream) (order : List ℕ) (left : ProgramSet) (words : List ℕ) (fault : Fault) : Type 0 where
  pub counts : misfed set s ≡ None
  pub are : AreWords set words
  pub first : (words ≡ own_words set) ⊎ OwnRowsAreRight set s order
  pub judged : IsRowsJudged (fed set words) s order words (Some fault)
  pub refuted : IsRefutedInRows set s words
  pub fed_so : left ≡ fed set words

-- the run with terms over all rows does not prove the stream, the set's own words do not refute it, and no others were found
pub record IsRowsOpen (set : ProgramSet) (s : Stream) (order : List ℕ) (left : ProgramSet) (verdict : Verdict) : Type 0 where
  pub verdict_is : IsRowsVerdict set s order verdict
  pub unproved : (outs : ℕ) → ¬ (verdict ≡ Proved outs)
  pub own : OwnRowsAreRight set s order
  pub stays : left ≡ set

-- what is said of a stream, and the set that is left
abbrev pub IsRowsAnswer : ProgramSet → Stream → List ℕ → ProgramSet → Answer → Type 0
IsRowsAnswer set s order left (answer.Proved outs) = IsRowsProof set s order left outs
IsRowsAnswer set s order left (answer.ProvedByRows outs) = IsProofByRows set s order left outs
IsRowsAnswer set s order left (answer.Refuted words fault) = IsRowsRefutation set s order left words.items fault
IsRowsAnswer set s order left (answer.Unproved verdict) = IsRowsOpen set s order left verdict

-- a run with other words shows this: words refute the stream, or the set stays as it is
abbrev pub IsRowsTried : ProgramSet → Stream → List ℕ → ProgramSet → Option Answer → Type 0
IsRowsTried set s order left None = left ≡ set
IsRowsTried set s order left (Some (answer.Refuted words fault)) = IsRowsRefutation set s order left words.items fault
IsRowsTried set s order left (Some _) = ⊥
