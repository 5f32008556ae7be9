-- What is known of all lines of a text, and what a stream that is being built stands for: what the lines so far say.
use Rattle.std.specs.Prelude.{◌≡◌, ℕ, ◌+◌, ◌++◌, ◌∷◌, [], List, length, map, nat_lt, Option, Some, None, Result, OnOk, if◌then◌else◌}
use Rattle.std.specs.Option.{option_or}
use Rattle.std.specs.List.{filter_map}
use Rattle.std.specs.Str.{bytes_eq}
use Rattle.raw_asm.specs.NameTable.{value_in}
use Rattle.raw_grid.specs.declared.parts.PortKind.{PortKind}
use Rattle.raw_grid.specs.Topology.{Topology}
use Rattle.raw_set_text.specs.declared.declaration.Edge.{Edge}
use Rattle.raw_set_text.specs.declared.kind.SetKind.{SetKind}
use Rattle.raw_set_text.specs.declared.kind.SetKind.TheVariants.{PortOffEdge, UndeclaredEdge}
use Rattle.raw_set_text.specs.declared.kind.SetRefusal.{SetRefusal}
use Rattle.raw_set_text.specs.Faults.{fault_if}
use Rattle.raw_flow_text.specs.Flows.{number_in}
use Rattle.raw_flow_text.specs.Building.{Answers}
use Rattle.raw_stream.specs.declared.out.StreamOut.{StreamOut}
use Rattle.raw_stream.specs.declared.row_node.RowNode.{RowNode}
use Rattle.raw_stream_text.specs.declared.builder.Builder.{Builder}
use Rattle.raw_stream_text.specs.declared.builder.Fed.{Fed}
use Rattle.raw_stream_text.specs.declared.named.Named.{Named}
use Rattle.raw_stream_text.specs.Statement.{Statement}
use Rattle.raw_stream_text.specs.Streams.{size_in, count_in, names_in, sources_in, sinks_in, node_of, out_of, feed_of}
use Rattle.raw_stream_text.specs.Faults.{is_off_edge, is_unclaimed, statement_fault}

-- ---- all lines

-- a name has a number, the next one where it had none, and nothing else is changed
pub record Notes (old new : Named) (name : List ℕ) : Type 0 where
  pub numbers : (other : List ℕ) → value_in new.numbers other ≡ option_or (value_in old.numbers other) (if bytes_eq name other then Some old.count else None)
  pub count : new.count ≡ old.count
  pub sources : new.sources ≡ old.sources
  pub sinks : new.sinks ≡ old.sinks

-- a line that defines a name is added
pub record Defines (old new : Named) (name : List ℕ) : Type 0 where
  pub numbers : (other : List ℕ) → value_in new.numbers other ≡ option_or (value_in old.numbers other) (if bytes_eq name other then Some old.count else None)
  pub count : new.count ≡ old.count + 1
  pub sources : new.sources ≡ old.sources
  pub sinks : new.sinks ≡ old.sinks

-- what all statements of a text define and name
pub record IsNamed (named : Named) (all : List Statement) : Type 0 where
  pub numbers : (name : List ℕ) → value_in named.numbers name ≡ number_in (names_in all) name
  pub count : named.count ≡ length (names_in all)
  pub sources : named.sources ≡ sources_in all
  pub sinks : named.sinks ≡ sinks_in all

-- ---- the lines so far

-- what is fed, as a statement says it
abbrev pub feed_in : Fed → ℕ × List ℕ
feed_in fed = (fed.port, fed.words.items)

-- a stream that is being built, for these statements of a text that has all of those
pub record BuilderStands (builder : Builder) (all said : List Statement) : Type 0 where
  pub size : builder.size ≡ size_in said
  pub count : builder.count ≡ count_in said
  pub nodes : builder.nodes.items ≡ filter_map (node_of (names_in all) (sources_in all)) said
  pub outs : builder.outs.items ≡ filter_map (out_of (names_in all) (sinks_in all)) said
  pub feeds : map feed_in builder.feeds.items ≡ filter_map (feed_of (sources_in all)) said

-- a node is added, what goes to a sink, or words of a source, and nothing else is changed
pub record AddsNode (old new : Builder) (node : RowNode) : Type 0 where
  pub nodes : new.nodes.items ≡ old.nodes.items ++ node ∷ []
  pub size : new.size ≡ old.size
  pub count : new.count ≡ old.count
  pub outs : new.outs ≡ old.outs
  pub feeds : new.feeds ≡ old.feeds

pub record AddsOut (old new : Builder) (out : StreamOut) : Type 0 where
  pub outs : new.outs.items ≡ old.outs.items ++ out ∷ []
  pub size : new.size ≡ old.size
  pub count : new.count ≡ old.count
  pub nodes : new.nodes ≡ old.nodes
  pub feeds : new.feeds ≡ old.feeds

pub record AddsFeed (old new : Builder) (fed : ℕ × List ℕ) : Type 0 where
  pub feeds : map feed_in new.feeds.items ≡ map feed_in old.feeds.items ++ fed ∷ []
  pub size : new.size ≡ old.size
  pub count : new.count ≡ old.count
  pub nodes : new.nodes ≡ old.nodes
  pub outs : new.outs ≡ old.outs

-- a number, where it is less than so many
abbrev pub number_below : ℕ → Option ℕ → Option ℕ
number_below most None = None
number_below most (Some number) = if nat_lt number most then Some number else None

-- what is wrong with the edge of a port of this kind
abbrev pub seat_fault : Option Topology → Option (ℕ × ℕ) → PortKind → Edge → Option SetKind
seat_fault claimed size kind edge = fault_if (is_off_edge size edge) PortOffEdge (fault_if (is_unclaimed claimed kind edge) UndeclaredEdge None)

-- the next statement of a text is added, or the line of this number refused with its fault
pub record Adds {T : Type 0} (old new : Builder) (claimed : Option Topology) (all : List Statement) (number : ℕ) (result : Result T SetRefusal) (statement : Statement) : Type 0 where
  pub fault : (said rest : List Statement) → all ≡ said ++ statement ∷ rest → BuilderStands old all said → Answers result number (statement_fault claimed all said statement)
  pub stands : (said rest : List Statement) → all ≡ said ++ statement ∷ rest → BuilderStands old all said → OnOk result (BuilderStands new all (said ++ statement ∷ []))
