-- What the functions that go over the lines find: the section that is open, the lines whose labels stand at a place.
use Rattle.std.specs.Prelude.{◌≡◌, ℕ, ◌-◌, ◌<◌, ◌≤◌, List, [], Option, Some, None, if◌then◌else◌}
use Rattle.std.specs.List.{flat_map, range_with_len}
use Rattle.raw_asm.specs.declared.cut.Section.{Section}
use Rattle.raw_asm.specs.Tokens.{section_lines}
use Rattle.raw_set_text.specs.Forms.{line_entry}
use Rattle.raw_set_text.specs.Sections.{is_end}
use Rattle.raw_lines.specs.declared.section.ProgramSection.{ProgramSection}
use Rattle.raw_lines.specs.declared.kind.ProgramKind.{ProgramKind}
use Rattle.raw_lines.specs.Sections.{begun, upto}
use Rattle.raw_lines.specs.Places.{place_in, label_at}
use Rattle.raw_lines.specs.Lines.{label_text}

-- the section that is open behind a line at a place, by the one that is open before it
abbrev pub open_behind : ℕ → List (List ℕ) → Option ProgramSection → Option ProgramSection
open_behind place line None = begun place (line_entry line)
open_behind place line (Some section) = if is_end line then None else Some section

-- the open section, where a line at a place ends it
abbrev pub ended_by : ℕ → List (List ℕ) → Option ProgramSection → List ProgramSection
ended_by place line None = []
ended_by place line (Some section) = if is_end line then upto place (Some section) else []

-- the place of a part of a text, and its lines
abbrev pub seen : Section → ℕ × List (List (List ℕ))
seen part = (part.from, section_lines part)

-- the label of line k, behind the word for it
abbrev pub label_text_at : List (List (List ℕ)) → ℕ → List ℕ
label_text_at lines k = label_text (label_at lines k)

-- the labels of the lines from a place up to another
abbrev pub labels_between : List (List (List ℕ)) → ℕ → ℕ → List ℕ
labels_between lines from to = flat_map (label_text_at lines) (range_with_len from (to - from))

-- of the lines up to line k, those from `since` on stand at the place of line k, and no line before
pub record StandHere (kind : ProgramKind) (lines : List (List (List ℕ))) (since k : ℕ) : Type 0 where
  pub order : since ≤ k
  pub here : place_in kind lines since ≡ place_in kind lines k
  pub before : (j : ℕ) → j < since → place_in kind lines j < place_in kind lines k
