-- What the lines of a claim say of places, one after another, and what is wrong with a line.
use Rattle.std.specs.Prelude.{ℕ, ◌+◌, ◌*◌, ◌/◌, ◌%◌, Bool, true, false, not, ◌&&◌, ◌||◌, ◌==◌, nat_le, List, [], ◌∷◌, ◌++◌, length, map, Option, Some, None, Result, Ok, Err, if◌then◌else◌}
use Rattle.std.specs.Option.{is_none, option_or}
use Rattle.std.specs.List.{filter_map, list_any}
use Rattle.raw_grid.specs.declared.parts.PortKind.TheVariants.{Sink}
use Rattle.raw_grid.specs.declared.parts.PortPlace.{PortPlace}
use Rattle.raw_grid.specs.Topology.{Topology, tile_count, tile_number}
use Rattle.raw_model.specs.declared.limits.TheConstants.{MEMORY_WORDS}
use Rattle.raw_set_text.specs.declared.kind.SetKind.{SetKind}
use Rattle.raw_set_text.specs.declared.kind.SetKind.TheVariants.{Missing, BadLine, OffGrid, UndeclaredEdge, Repeated, OverLimit}
use Rattle.raw_set_text.specs.Entry.{place_of, same_place}
use Rattle.raw_set_text.specs.Faults.{is_outside}
use Rattle.raw_flow_text.specs.Statement.{Statement}
use Rattle.raw_flow_text.specs.Forms.{name_at, line_statement}
use Rattle.raw_term.specs.declared.place.Place.{Place}
use Rattle.raw_term.specs.declared.place.Place.TheVariants.{Received, Memory}
use Rattle.raw_term.specs.Seen.{claimed_of}
use Rattle.raw_claim_text.specs.declared.named.NamedPlace.{NamedPlace}
use Rattle.raw_claim_text.specs.declared.named.NamedPlace.TheVariants.{AtSink, InMemory}
use Rattle.raw_claim_text.specs.Forms.{names_place, is_plain_out, plain_line, named_place}

-- what lines say of places: whether some `out` names none, and the places that are named
pub record SaidPlaces : Type 0 where
  pub plain : Bool
  pub places : List Place

-- this fault where the test holds, or else what follows
abbrev pub unless : {X : Type 0} → Bool → SetKind → Result X SetKind → Result X SetKind
unless test kind next = if test then Err kind else next

-- the number of the port at a place, among ports whose numbers begin with i
abbrev pub port_from : PortPlace → ℕ → List PortPlace → Option ℕ
port_from place i [] = None
port_from place i (other ∷ places) = if same_place place other then Some i else port_from place (i + 1) places

-- a place is this memory word of this tile
abbrev pub is_word : ℕ → ℕ → Place → Bool
is_word t n (Received sink number) = false
is_word t n (Memory tile number) = (tile.0 == t) && (number == n)

-- the next word of a port behind these places, where there is such a port
abbrev pub next_word : Topology → List Place → Option ℕ → Result Place SetKind
next_word topo before None = Err UndeclaredEdge
next_word topo before (Some port) = Ok (Received (record { 0 = 2 * tile_count topo + port }) (claimed_of before (2 * tile_count topo + port)))

-- the memory word of this tile with this number, unless it is claimed already
abbrev pub memory_word : List Place → ℕ → ℕ → Result Place SetKind
memory_word before tile number = unless (list_any (is_word tile number) before) Repeated (Ok (Memory (record { 0 = tile }) number))

-- the place that is named behind these, or what is wrong with it
abbrev pub placed : Topology → List Place → NamedPlace → Result Place SetKind
placed topo before (AtSink edge) =
    unless (is_outside topo.cols topo.rows (Some edge.tile)) OffGrid (next_word topo before (port_from (place_of Sink edge) 0 topo.places))
placed topo before (InMemory tile address) =
    unless (not (address % 4 == 0)) BadLine
    (unless (is_outside topo.cols topo.rows (Some tile)) OffGrid (memory_word before (tile_number topo tile.x tile.y) (address / 4)))

-- the same of a line that may be of another form
abbrev pub placed_by : Topology → List Place → Option NamedPlace → Result Place SetKind
placed_by topo before None = Err BadLine
placed_by topo before (Some named) = placed topo before named

abbrev pub some_place : Result Place SetKind → Result (Option Place) SetKind
some_place (Ok place) = Ok (Some place)
some_place (Err kind) = Err kind

-- what a line behind those that say this says of a place, which may be nothing, or what is wrong with that: a line names a place behind an
-- `out` line without one, or the other way round, or it is of another form, or there is no such place
abbrev pub place_said : Topology → SaidPlaces → List (List ℕ) → Result (Option Place) SetKind
place_said topo said line =
    if names_place line
    then unless (said.plain || is_none (name_at line 1)) BadLine (some_place (placed_by topo said.places (named_place line)))
    else unless (is_plain_out line && not (length said.places == 0)) BadLine (Ok None)

-- the place that is said
abbrev pub place_in : Result (Option Place) SetKind → List Place
place_in (Ok (Some place)) = place ∷ []
place_in _ = []

-- what is said with one line more
abbrev pub with_line : Topology → SaidPlaces → List (List ℕ) → SaidPlaces
with_line topo said line = record { plain = said.plain || is_plain_out line; places = said.places ++ place_in (place_said topo said line) }

abbrev pub said_from : Topology → SaidPlaces → List (List (List ℕ)) → SaidPlaces
said_from topo said [] = said
said_from topo said (line ∷ lines) = said_from topo (with_line topo said line) lines

-- what lines say of places
abbrev pub said_places : Topology → List (List (List ℕ)) → SaidPlaces
said_places topo lines = said_from topo (record { plain = false; places = [] }) lines

-- what they say as lines of a flow
abbrev pub said_in : List (List (List ℕ)) → List Statement
said_in lines = filter_map line_statement (map plain_line lines)

-- a memory word is past the memory
abbrev pub past_fault : Option Place → Option SetKind
past_fault (Some (Memory tile number)) = if nat_le MEMORY_WORDS number then Some OverLimit else None
past_fault _ = None

-- a line is missing
abbrev pub says_missing : Option SetKind → Bool
says_missing (Some Missing) = true
says_missing _ = false

-- what is wrong with a line that has this fault as a line of a flow, and says this of a place, in the order in which faults are told
abbrev pub line_fault : Option SetKind → Result (Option Place) SetKind → Option SetKind
line_fault flow (Err kind) = if says_missing flow then flow else Some kind
line_fault flow (Ok place) = option_or flow (past_fault place)
