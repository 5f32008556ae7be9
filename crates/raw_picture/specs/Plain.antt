-- The bytes of which the texts of a picture are made, and how a text is escaped.
use Rattle.std.specs.Prelude.{◌≡◌, ℕ, ◌==◌, nat_le, Bool, true, ◌&&◌, ◌||◌, List, [], ◌∷◌, codes, if◌then◌else◌}
use Rattle.std.specs.List.{flat_map, list_all}

-- a small letter; a digit or one of , - . / : ; (they stand next to the digits); a blank; #; N, E, S, W
abbrev pub is_plain_byte : ℕ → Bool
is_plain_byte b =
    (nat_le 97 b && nat_le b 122) || (nat_le 44 b && nat_le b 59)
    || (b == 32) || (b == 35) || (b == 78) || (b == 69) || (b == 83) || (b == 87)

-- a text of such bytes
abbrev pub IsPlain : List ℕ → Type 0
IsPlain text = list_all is_plain_byte text ≡ true

-- a byte as XML has it in a text or in an attribute: & < > and the quotation mark have names
abbrev pub escape_byte : ℕ → List ℕ
escape_byte b =
    if b == 38 then codes "&amp;"
    else (if b == 60 then codes "&lt;"
    else (if b == 62 then codes "&gt;"
    else (if b == 34 then codes "&quot;"
    else b ∷ [])))

abbrev pub escape : List ℕ → List ℕ
escape text = flat_map escape_byte text
