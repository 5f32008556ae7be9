-- The words of a list of items, and the lines in which they are written.
use Rattle.std.specs.Prelude.{ℕ, ◌==◌, if◌then◌else◌, Bool, true, false, List, [], ◌∷◌, ◌++◌, codes, decimal}
use Rattle.raw_model.specs.Texts.{word_text}
use Rattle.raw_queue.specs.declared.item.Item.{Item}
use Rattle.raw_queue.specs.declared.item.Item.TheVariants.{Word, End}

-- the words for this port before the first end
abbrev pub words_at : ℕ → List Item → List ℕ
words_at at (Word port word ∷ items) = (if port == at then word ∷ [] else []) ++ words_at at items
words_at at _ = []

-- whether there is an end
abbrev pub has_end : List Item → Bool
has_end [] = false
has_end (Word port word ∷ items) = has_end items
has_end (End ∷ items) = true

-- the line of a word for this port
unfoldable pub got_line : ℕ → ℕ → List ℕ
got_line port word = codes "got " ++ decimal port ++ codes " " ++ word_text word ++ codes "\n"

-- the lines of the words before the first end, in order
abbrev pub got_text : List Item → List ℕ
got_text (Word port word ∷ items) = got_line port word ++ got_text items
got_text _ = []
