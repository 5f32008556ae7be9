-- What is wrong with a line of the text of a stream, and behind the last line. All statements of the text are looked at: those before the line, and,
-- where a line may name what a later one defines, those behind it.
use Rattle.std.specs.Prelude.{ℕ, ◌*◌, Bool, true, false, not, ◌&&◌, ◌||◌, ◌==◌, List, [], length, codes, Option, Some, None, nat_lt, slice_index_or, if◌then◌else◌}
use Rattle.std.specs.Option.{is_some, is_none}
use Rattle.std.specs.List.{list_any, range_with_len}
use Rattle.std.specs.Str.{bytes_eq}
use Rattle.raw_asm.specs.declared.kind.AsmKind.TheVariants.{UnknownName}
use Rattle.raw_grid.specs.declared.limits.TheConstants.{MAX_SIZE}
use Rattle.raw_grid.specs.declared.parts.PortKind.{PortKind}
use Rattle.raw_grid.specs.declared.parts.PortKind.TheVariants as kind
use Rattle.raw_grid.specs.Topology.{Topology, neighbour, without_ports}
use Rattle.raw_set_text.specs.declared.declaration.Edge.{Edge}
use Rattle.raw_set_text.specs.declared.kind.SetKind.{SetKind}
use Rattle.raw_set_text.specs.declared.kind.SetKind.TheVariants.{Missing, BadLine, BadSize, PortOffEdge, UndeclaredEdge, Repeated, OverLimit, Asm}
use Rattle.raw_set_text.specs.Entry.{place_of, same_place}
use Rattle.raw_set_text.specs.Faults.{fault_if, is_within}
use Rattle.raw_flow_text.specs.Statement.{Statement as FlowStatement}
use Rattle.raw_flow_text.specs.Statement.Statement.{Grid as FlowGrid, Const as FlowConst, Apply as FlowApply}
use Rattle.raw_flow_text.specs.Flows.{number_in}
use Rattle.raw_stream.specs.declared.limits.TheConstants.{MAX_ROWS}
use Rattle.raw_stream.specs.Streams.{Stream}
use Rattle.raw_stream.specs.Unrolled.{width}
use Rattle.raw_stream.specs.Kept.{is_large}
use Rattle.raw_stream_text.specs.Edges.{edge_number}
use Rattle.raw_stream_text.specs.Statement.{Statement}
use Rattle.raw_stream_text.specs.Statement.Statement.{Flow, Rows, Input, Pre, Out, Feed}
use Rattle.raw_stream_text.specs.Forms.{line_statement}
use Rattle.raw_stream_text.specs.Streams.{size_in, count_in, names_in, sources_in, feeds_in, words_to, stream_by}

-- the grid has no such size, or not that of the set that is claimed, where one is
abbrev pub is_unwanted : Option Topology → ℕ → ℕ → Bool
is_unwanted None columns rows = false
is_unwanted (Some topo) columns rows = not ((columns == topo.cols) && (rows == topo.rows))

abbrev pub is_bad_size : Option Topology → Statement → Bool
is_bad_size claimed (Flow (FlowGrid columns rows)) = not (is_within 1 MAX_SIZE columns && is_within 1 MAX_SIZE rows) || is_unwanted claimed columns rows
is_bad_size claimed _ = false

-- a grid of this size has no such tile, or the tile a neighbour on that side
abbrev pub is_off : ℕ × ℕ → Edge → Bool
is_off size edge = not (nat_lt edge.tile.x size.0 && nat_lt edge.tile.y size.1) || is_some (neighbour (without_ports size.0 size.1) edge.tile.x edge.tile.y edge.side)

abbrev pub is_off_edge : Option (ℕ × ℕ) → Edge → Bool
is_off_edge None edge = true
is_off_edge (Some size) edge = is_off size edge

abbrev pub is_port_off_edge : List Statement → Statement → Bool
is_port_off_edge said (Input name edge) = is_off_edge (size_in said) edge
is_port_off_edge said (Out name edge) = is_off_edge (size_in said) edge
is_port_off_edge said _ = false

-- the set that is claimed, where one is, has no port of this kind at the edge
abbrev pub is_unclaimed : Option Topology → PortKind → Edge → Bool
is_unclaimed None kind edge = false
is_unclaimed (Some topo) kind edge = not (list_any (same_place (place_of kind edge)) topo.places)

-- a source is fed that no statement of the text names, or the set that is claimed lacks the source or sink
abbrev pub is_undeclared : Option Topology → List Statement → Statement → Bool
is_undeclared claimed all (Input name edge) = is_unclaimed claimed kind.Source edge
is_undeclared claimed all (Out name edge) = is_unclaimed claimed kind.Sink edge
is_undeclared claimed all (Feed edge words) = is_none (edge_number (sources_in all) edge)
is_undeclared claimed all _ = false

-- one of these statements defines the name
abbrev pub has_name : List Statement → List ℕ → Bool
has_name said name = is_some (number_in (names_in said) name)

-- these statements give the grid or the rows already, or define the name that is defined
abbrev pub is_flow_repeated : List Statement → FlowStatement → Bool
is_flow_repeated said (FlowGrid columns rows) = is_some (size_in said)
is_flow_repeated said (FlowConst name word) = has_name said name
is_flow_repeated said (FlowApply name op a b) = has_name said name
is_flow_repeated said _ = false

abbrev pub is_repeated : List Statement → Statement → Bool
is_repeated said (Flow statement) = is_flow_repeated said statement
is_repeated said (Rows count) = is_some (count_in said)
is_repeated said (Input name edge) = has_name said name
is_repeated said (Pre name a word) = has_name said name
is_repeated said _ = false

-- a name is used that none of the statements before defines, or by a `pre` one that no statement of the text defines
abbrev pub is_flow_unknown : List Statement → FlowStatement → Bool
is_flow_unknown said (FlowApply name op a b) = not (has_name said a && has_name said b)
is_flow_unknown said _ = false

abbrev pub is_unknown : List Statement → List Statement → Statement → Bool
is_unknown all said (Flow statement) = is_flow_unknown said statement
is_unknown all said (Pre name a word) = not (has_name all a)
is_unknown all said (Out name edge) = not (has_name said name)
is_unknown all said _ = false

-- there are no rows, or too many
abbrev pub is_over_limit : Statement → Bool
is_over_limit (Rows count) = not (is_within 1 MAX_ROWS count)
is_over_limit _ = false

-- what is wrong with a statement behind these, in the order in which faults are told
unfoldable pub statement_fault : Option Topology → List Statement → List Statement → Statement → Option SetKind
statement_fault claimed all said statement =
    fault_if (is_bad_size claimed statement) BadSize
    (fault_if (is_port_off_edge said statement) PortOffEdge
    (fault_if (is_undeclared claimed all statement) UndeclaredEdge
    (fault_if (is_repeated said statement) Repeated
    (fault_if (is_unknown all said statement) (Asm UnknownName)
    (fault_if (is_over_limit statement) OverLimit None)))))

-- the fault of what a line says, or of a line of another form
abbrev pub form_fault : Option Topology → List Statement → List Statement → Option Statement → Option SetKind
form_fault claimed all said None = Some BadLine
form_fault claimed all said (Some statement) = statement_fault claimed all said statement

-- the word with which a line has to begin as long as there is no grid, and then as long as it is not said how many rows there are
abbrev pub due_word : Option (ℕ × ℕ) → Option ℕ → Option (List ℕ)
due_word None count = Some (codes "grid")
due_word (Some size) None = Some (codes "rows")
due_word (Some size) (Some count) = None

-- a line that begins so does not begin with the word that is due
abbrev pub is_missing : Option (List ℕ) → List ℕ → Bool
is_missing None first = false
is_missing (Some word) first = not (bytes_eq first word)

-- what is wrong with a line behind these statements
unfoldable pub line_fault : Option Topology → List Statement → List Statement → List (List ℕ) → Option SetKind
line_fault claimed all said line =
    if length line == 0 then None
    else (if is_missing (due_word (size_in said) (count_in said)) (slice_index_or line 0 []) then Some Missing
    else form_fault claimed all said (line_statement line))

-- the words of a stream matter, but for a claim that feeds none
abbrev pub are_fed : Option Topology → List (ℕ × List ℕ) → Bool
are_fed None feeds = true
are_fed (Some topo) feeds = nat_lt 0 (length feeds)

-- a source has fewer words than all rows take, or one has more
abbrev pub has_fewer : Stream → List (ℕ × List ℕ) → Bool
has_fewer s feeds = list_any (λ q. nat_lt (length (words_to feeds q)) (s.count * width s q)) (range_with_len 0 (length s.sources))

abbrev pub has_more : Stream → List (ℕ × List ℕ) → Bool
has_more s feeds = list_any (λ q. nat_lt (s.count * width s q) (length (words_to feeds q))) (range_with_len 0 (length s.sources))

-- what is wrong with a stream as a whole, where the words of its sources matter or not
abbrev pub whole_fault : Bool → Stream → List (ℕ × List ℕ) → Option SetKind
whole_fault fed s feeds =
    fault_if ((length s.outs == 0) || (fed && has_fewer s feeds)) Missing
    (fault_if ((fed && has_more s feeds) || is_large s) OverLimit None)

-- what is wrong behind the last line: there is no grid, or no number of rows, or the stream is faulty as a whole
unfoldable pub end_fault : Option Topology → List Statement → Option SetKind
end_fault claimed said =
    fault_if (is_none (size_in said) || is_none (count_in said)) Missing (whole_fault (are_fed claimed (feeds_in said)) (stream_by said) (feeds_in said))
