-- The letters of networks, sides and registers, and the tokens that are made of them.
use Rattle.std.specs.Prelude.{ℕ, ◌+◌, ◌*◌, List, length, drop, codes, Option, Some, None, slice_index, ◌==◌, if◌then◌else◌}
use Rattle.std.specs.Option.{option_map, option_and_then}
use Rattle.std.specs.List.{position}
use Rattle.raw_text.specs.Number.{begins_with}

-- the sides by the indices of their ends in a network
abbrev pub sides : List ℕ
sides = codes "NESWP"

-- the registers by their numbers
abbrev pub registers : List ℕ
registers = codes "0123"

-- the end at a side of a network, where the networks are counted from 0
abbrev pub end_at : ℕ → ℕ → ℕ
end_at network side = 5 * network + side

-- the place among these letters of a token that is one of them
unfoldable pub letter_in : List ℕ → List ℕ → Option ℕ
letter_in letters token = if length token == 1 then position (λ letter. letter == slice_index token 0) letters else None

-- the register of a token: 'r' and its number
unfoldable pub register_of : List ℕ → Option ℕ
register_of token = if begins_with (codes "r") token then letter_in registers (drop 1 token) else None

-- the network that a token begins with, and what stands behind its ':'
unfoldable pub on_network : List ℕ → Option (ℕ × List ℕ)
on_network token =
    if begins_with (codes "1:") token then Some (0, drop 2 token)
    else (if begins_with (codes "2:") token then Some (1, drop 2 token) else None)

-- the end of a token: a network, ':' and a side
unfoldable pub end_of : List ℕ → Option ℕ
end_of token = option_and_then (λ parts. option_map (end_at parts.0) (letter_in sides parts.1)) (on_network token)
