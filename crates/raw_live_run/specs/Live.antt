-- What live input says: a set, and the words that its sources are given while it runs.
use Rattle.std.specs.Prelude.{◌≡◌, ℕ, ◌+◌, List, map, take, drop, codes, None}
use Rattle.raw_text.specs.Lines.{lines_of, tokens_of}
use Rattle.raw_model.specs.Program.{ProgramSet}
use Rattle.raw_set_text.specs.Meaning.{IsMeaning}
use Rattle.raw_live_text.specs.declared.head.HeadEnd.TheVariants.{Mark}
use Rattle.raw_live_text.specs.declared.intake.Intake.{Intake}
use Rattle.raw_live_text.specs.Feeding.{Fed, fed}
use Rattle.raw_live_text.specs.Heads.{head_of}
use Rattle.raw_live.specs.Engine.{with_items}
use Rattle.raw_live.specs.Judging.{IsIntakeOf}

-- the word that stands alone in the mark behind the set
abbrev pub live_word : List ℕ
live_word = codes "live"

-- Lines say a set and words. The first of them that is the word `live` alone stands behind lines that mean a set,
-- and no line before it is faulty as a line of text. Those behind it put words for the sources of the set, up to
-- the first fault.
pub record SaysWords (lines : List (List ℕ)) : Type 0 where
  pub place : ℕ
  pub mark : head_of live_word 1 lines ≡ Mark (place + 1)
  pub first : ProgramSet
  pub meaning : IsMeaning (map tokens_of (take place lines)) first
  pub intake : Intake
  pub intake_is : IsIntakeOf first intake
  pub line : intake.line ≡ place + 2

-- what the lines behind the mark put
abbrev pub put_by : {lines : List (List ℕ)} → SaysWords lines → Fed
put_by {lines = lines} says = fed says.intake (drop (says.place + 1) lines)

-- the set that lines say, with the words that they put
abbrev pub fed_set : {lines : List (List ℕ)} → SaysWords lines → ProgramSet
fed_set says = with_items says.first (put_by says).items

-- live input says this set: the set of its text, with the words of its `put` lines, of which none is faulty, behind those of its sources
pub record Live (bytes : List ℕ) (set : ProgramSet) : Type 0 where
  pub says : SaysWords (lines_of bytes)
  pub faultless : (put_by says).fault ≡ None
  pub set_is : set ≡ fed_set says
