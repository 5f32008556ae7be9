-- How the lines of a claim read by themselves: as lines of a flow, and what some of them say of a place.
use Rattle.std.specs.Prelude.{ℕ, Bool, not, ◌&&◌, ◌||◌, ◌==◌, List, [], length, drop, codes, Option, Some, None, slice_index_or, if◌then◌else◌}
use Rattle.std.specs.Str.{bytes_eq}
use Rattle.raw_set_text.specs.Forms.{◌>>=◌, number_at, edge_in}
use Rattle.raw_flow_text.specs.Forms.{out_line}
use Rattle.raw_claim_text.specs.declared.named.NamedPlace.{NamedPlace}
use Rattle.raw_claim_text.specs.declared.named.NamedPlace.TheVariants.{AtSink, InMemory}

-- a line begins with `out`, or with `mem`
abbrev pub is_out : List (List ℕ) → Bool
is_out line = bytes_eq (slice_index_or line 0 []) (codes "out")

abbrev pub is_mem : List (List ℕ) → Bool
is_mem line = bytes_eq (slice_index_or line 0 []) (codes "mem")

-- it names a place: so do the lines `out NAME NET X Y SIDE` and `mem NAME X Y A`
abbrev pub names_place : List (List ℕ) → Bool
names_place line = (is_out line && (length line == 6)) || is_mem line

-- it begins with `out`, and names no place
abbrev pub is_plain_out : List (List ℕ) → Bool
is_plain_out line = is_out line && not (length line == 6)

-- the line of a flow that it is, without a place
abbrev pub plain_line : List (List ℕ) → List (List ℕ)
plain_line line = if names_place line then out_line (slice_index_or line 1 []) else line

-- NET X Y SIDE
unfoldable pub named_sink : List (List ℕ) → Option NamedPlace
named_sink operands = if length operands == 4 then (edge_in operands >>= λ edge. Some (AtSink edge)) else None

-- X Y A
unfoldable pub named_memory : List (List ℕ) → Option NamedPlace
named_memory operands =
    if length operands == 3
    then (number_at operands 0 >>= λ x. number_at operands 1 >>= λ y. number_at operands 2 >>= λ address. Some (InMemory (record { x = x; y = y }) address))
    else None

-- the place that a line names which names one; nothing where it is of another form
abbrev pub named_place : List (List ℕ) → Option NamedPlace
named_place line = if is_out line then named_sink (drop 2 line) else named_memory (drop 2 line)
