-- Tokens and sections as the lists that they stand for.
use Rattle.std.specs.Prelude.{ℕ, List, [], drop, slice_index_or, slice_range}
use Rattle.raw_text.specs.Text.{text_lines}
use Rattle.raw_asm.specs.declared.cut.Tokens.{Tokens}
use Rattle.raw_asm.specs.declared.cut.Section.{Section}

-- the tokens, each as its bytes
abbrev pub tokens_of : Tokens → List (List ℕ)
tokens_of t = drop t.first (slice_index_or (text_lines t.text.now) t.line [])

-- the lines of a section, each as its tokens
abbrev pub section_lines : Section → List (List (List ℕ))
section_lines s = slice_range (text_lines s.text.now) s.from s.to
