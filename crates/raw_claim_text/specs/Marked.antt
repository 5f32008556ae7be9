-- A set before a mark, which is a line whose only token is some word, and more lines behind it.
use Rattle.std.specs.Prelude.{◌≡◌, ◌⊎◌, ℕ, ◌+◌, List, length, take, Option, Some, None}
use Rattle.std.specs.List.{position}
use Rattle.raw_text.specs.Text.{is_word}
use Rattle.raw_model.specs.Program.{ProgramSet}
use Rattle.raw_set_text.specs.declared.kind.SetKind.{SetKind}
use Rattle.raw_set_text.specs.declared.kind.SetKind.TheVariants.{Missing}
use Rattle.raw_set_text.specs.declared.kind.SetRefusal.TheVariants.{At}
use Rattle.raw_set_text.specs.Meaning.{IsMeaning, IsCause}

-- the place of the first line whose only token is this word, counted from 0: the mark behind a set
abbrev pub mark_in : List ℕ → List (List (List ℕ)) → Option ℕ
mark_in word lines = position (is_word word) lines

-- the lines mean a set, and there is no mark; that is told behind the last line
pub record LacksMark (lines : List (List (List ℕ))) (line : ℕ) (kind : SetKind) : Type 0 where
  pub set : ProgramSet
  pub meaning : IsMeaning lines set
  pub line_is : line ≡ length lines + 1
  pub kind_is : kind ≡ Missing

-- what is wrong with the set, where the mark is at this place, or there is none
abbrev pub FaultBefore : Option ℕ → List (List (List ℕ)) → ℕ → SetKind → Type 0
FaultBefore (Some place) lines line kind = IsCause (take place lines) (At line kind)
FaultBefore None lines line kind = IsCause lines (At line kind) ⊎ LacksMark lines line kind

-- the lines say this set and more: those before the mark mean the set, and those behind it, where it is at this place, say more of that set
pub record IsBehind {T : Type 0} (word : List ℕ) (Tail : List (List (List ℕ)) → ℕ → ProgramSet → T → Type 0) (lines : List (List (List ℕ))) (said : ProgramSet × T) : Type 0 where
  pub place : ℕ
  pub mark : mark_in word lines ≡ Some place
  pub set_is : IsMeaning (take place lines) said.0
  pub tail_is : Tail lines place said.0 said.1

-- the lines before the mark mean a set, and this is wrong with those behind it
pub record IsFaultBehind {K : Type 0} (word : List ℕ) (Wrong : List (List (List ℕ)) → ℕ → ProgramSet → ℕ → K → Type 0) (lines : List (List (List ℕ))) (line : ℕ) (kind : K) : Type 0 where
  pub place : ℕ
  pub mark : mark_in word lines ≡ Some place
  pub set : ProgramSet
  pub set_is : IsMeaning (take place lines) set
  pub wrong : Wrong lines place set line kind
