-- What lines behind `live` say.
use Rattle.std.specs.Prelude.{ℕ, ◌+◌, ◌==◌, ◌&&◌, Bool, true, false, List, [], ◌∷◌, length, codes, Option, Some, None, slice_index_or, if◌then◌else◌}
use Rattle.std.specs.Option.{option_and_then}
use Rattle.std.specs.List.{position}
use Rattle.std.specs.Str.{bytes_eq}
use Rattle.raw_grid.specs.declared.parts.PortKind.{PortKind}
use Rattle.raw_grid.specs.declared.parts.PortKind.TheVariants as kind
use Rattle.raw_grid.specs.declared.parts.PortPlace.{PortPlace}
use Rattle.raw_grid.specs.Names.{net_named, side_named, same_net, same_side}
use Rattle.raw_text.specs.Lines.{line_fault, tokens_of}
use Rattle.raw_text.specs.Number.{number_of}
use Rattle.raw_text.specs.declared.lines.TextRefusal.{TextRefusal}
use Rattle.raw_text.specs.declared.lines.TextRefusal.TheVariants.{NotAscii, LineTooLong, Memory}
use Rattle.raw_live_text.specs.declared.intake.Intake.{Intake}
use Rattle.raw_live_text.specs.declared.put.Put.{Put}
use Rattle.raw_live_text.specs.declared.fault.LineFault.TheVariants as fault
use Rattle.raw_live_text.specs.declared.put.Said.{Said}
use Rattle.raw_live_text.specs.declared.put.Said.TheVariants.{Nothing, Word, Fault}

-- the operands of a `put` line: NET X Y SIDE W
abbrev pub operands_of : List (List ℕ) → Option Put
operands_of tokens =
    option_and_then (λ net. option_and_then (λ x. option_and_then (λ y. option_and_then (λ side. option_and_then (λ word.
    Some (record { net = net; x = x; y = y; side = side; word = word }))
    (number_of (slice_index_or tokens 5 []))) (side_named (slice_index_or tokens 4 []))) (number_of (slice_index_or tokens 3 [])))
    (number_of (slice_index_or tokens 2 []))) (net_named (slice_index_or tokens 1 []))

-- a line with tokens that is `put NET X Y SIDE W`
unfoldable pub put_of : List (List ℕ) → Option Put
put_of tokens = if (length tokens == 6) && bytes_eq (slice_index_or tokens 0 []) (codes "put") then operands_of tokens else None

abbrev pub is_source : PortKind → Bool
is_source kind.Source = true
is_source kind.Sink = false

-- the place is that of the source that is given the word
unfoldable pub is_source_of : Put → PortPlace → Bool
is_source_of put place = is_source place.kind && same_net place.net put.net && (place.x == put.x) && (place.y == put.y) && same_side place.side put.side

-- a word for the source with this number among the ports
abbrev pub source_says : Intake → ℕ → Option ℕ → Said
source_says intake word None = Fault fault.UndeclaredEdge
source_says intake word (Some i) = Word (intake.first_port + i) word

abbrev pub put_says : Intake → Option Put → Said
put_says intake None = Fault fault.BadLine
put_says intake (Some put) = source_says intake put.word (position (is_source_of put) intake.places.items)

-- what the tokens of a line say
abbrev pub tokens_say : Intake → List (List ℕ) → Said
tokens_say intake [] = Nothing
tokens_say intake (token ∷ tokens) = put_says intake (put_of (token ∷ tokens))

-- a fault of the bytes of a line comes first
abbrev pub fault_or : Option TextRefusal → Said → Said
fault_or None said = said
fault_or (Some (NotAscii line)) said = Fault fault.NotAscii
fault_or (Some (LineTooLong line)) said = Fault fault.LineTooLong
fault_or (Some Memory) said = said

-- what a line says by itself
unfoldable pub says : Intake → List ℕ → Said
says intake line = fault_or (line_fault 1 line) (tokens_say intake (tokens_of line))
