-- A text as the lines of tokens that it stands for.
use Rattle.std.specs.Prelude.{ℕ, Bool, ◌&&◌, ◌==◌, List, [], length, map, slice_index_or}
use Rattle.std.specs.Str.{bytes_eq}
use Rattle.raw_text.specs.declared.text.Text.{Text}
use Rattle.raw_text.specs.Tokens.{line_tokens}

-- the lines of a text, each as its tokens
abbrev pub text_lines : Text → List (List (List ℕ))
text_lines text = map (line_tokens text.bytes.items text.starts.items) text.lines.items

-- a line is one token, this word
abbrev pub is_word : List ℕ → List (List ℕ) → Bool
is_word word line = (length line == 1) && bytes_eq (slice_index_or line 0 []) word
