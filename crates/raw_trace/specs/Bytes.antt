-- The bytes of which a trace is made.
use Rattle.std.specs.Prelude.{◌≡◌, ℕ, ◌==◌, nat_le, Bool, true, ◌&&◌, ◌||◌, List, codes}
use Rattle.std.specs.List.{list_all, list_any}

-- a small letter; a digit or ':'; a capital letter; the end of a line, a blank, or one of ! # $ ( ) * + , - > = @ _
abbrev pub is_trace_byte : ℕ → Bool
is_trace_byte b =
    (nat_le 97 b && nat_le b 122)
    || ((nat_le 48 b && nat_le b 58) || ((nat_le 65 b && nat_le b 90) || list_any (λ c. c == b) (codes "\n !#$()*+,->=@_")))

-- a text of such bytes
abbrev pub IsTraceText : List ℕ → Type 0
IsTraceText text = list_all is_trace_byte text ≡ true
