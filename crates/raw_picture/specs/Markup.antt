-- The markup of a picture: the pieces that are the same in every one, and what may stand between them.
use Rattle.std.specs.Prelude.{◌≡◌, ◌⊎◌, ℕ, ◌==◌, Bool, false, ◌||◌, Some, List, [], ◌∷◌, codes, slice_get, All}
use Rattle.std.specs.List.{list_any}
use Rattle.raw_picture.specs.Forms.{in_turn, text_end, group_start, group_end}
use Rattle.raw_picture.specs.Told.{path_start}
use Rattle.raw_picture.specs.Opening.{svg_start}
use Rattle.raw_picture.specs.Style.{style}

-- a byte of markup: < > & or a mark of quotation
abbrev pub is_markup_byte : ℕ → Bool
is_markup_byte b = (b == 60) || (b == 62) || (b == 38) || (b == 34) || (b == 39)

-- a text without one
abbrev pub HasNoMarkup : List ℕ → Type 0
HasNoMarkup text = list_any is_markup_byte text ≡ false

-- all pieces with such bytes that a picture may have: the parts of its tags, and its style
unfoldable pub markup : List (List ℕ)
markup =
    codes "<rect class=\"" ∷ codes "\" x=\"" ∷ codes "\" y=\"" ∷ codes "\" width=\"" ∷ codes "\" height=\"" ∷ codes "\" rx=\"" ∷ codes "\"/>\n"
    ∷ codes "<text class=\"" ∷ codes "\">" ∷ text_end ∷ codes "\" transform=\"rotate(-90 " ∷ codes ")\">"
    ∷ codes "<title>" ∷ codes "</title>\n" ∷ group_start ∷ group_end
    ∷ codes "<path class=\"" ∷ codes "\" d=\"M" ∷ path_start ∷ codes "Z\"/>\n" ∷ codes "<desc>" ∷ codes ".</desc>\n"
    ∷ svg_start ∷ codes " width=\"" ∷ codes "\" viewBox=\"" ∷ codes "\">\n" ∷ style ∷ codes "</svg>\n"
    ∷ []

-- one of these, or a text without markup
abbrev pub IsPiece : List ℕ → Type 0
IsPiece piece = ((k : ℕ) × (slice_get markup k ≡ Some piece)) ⊎ HasNoMarkup piece

-- a text of such pieces, one behind another
pub record HasOnlyItsMarkup (text : List ℕ) : Type 0 where
  pub pieces : List (List ℕ)
  pub whole : in_turn pieces ≡ text
  pub each : All IsPiece pieces
