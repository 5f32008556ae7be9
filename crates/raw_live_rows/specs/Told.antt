-- What `rawlive` tells of the rows with which a set was fed that is proved for so many.
use Rattle.std.specs.Prelude.{◌≡◌, ℕ, ◌+◌, ◌*◌, ◌≤◌, Option, Some, List, ◌++◌, length, slice_get, slice_index}
use Rattle.raw_grid.specs.declared.parts.PortKind.TheVariants as kind
use Rattle.raw_grid.specs.declared.parts.PortPlace.{PortPlace}
use Rattle.raw_grid.specs.Topology.{tile_count}
use Rattle.raw_model.specs.Program.{ProgramSet}
use Rattle.raw_stream.specs.Streams.{Stream, first_words, due_to, rows_of}
use Rattle.raw_rows.specs.Kernels.{AreRows, fed_rows}
use Rattle.raw_cut.specs.Live.{IsMetFrom}
use Rattle.raw_live.specs.Gots.{gots}
use Rattle.raw_shell.specs.Seen.{SinkSeen}
use Rattle.raw_live_run.specs.declared.arguments.Command.TheVariants.{Feed}
use Rattle.raw_live_run.specs.Call.{Call, IsRestStatus}
use Rattle.raw_live_run.specs.Live.{Live}
use Rattle.raw_live_run.specs.Promises.{Headline}

-- the `got` lines of a text tell of port q what it is due of rows, in order, but for its last words
pub record IsTold (set : ProgramSet) (s : Stream) (lacks : List ℕ) (rows : List (List ℕ)) (text : List ℕ) (q : ℕ) : Type 0 where
  pub last : List ℕ
  pub due : due_to s q (rows_of s (first_words s) rows) ≡ gots text (2 * tile_count set.topo + q) ++ last
  pub few : length last ≤ slice_index lacks q

-- so does the text that was appended to what was there before, of each sink
pub record AreRowsTold (set : ProgramSet) (s : Stream) (lacks : List ℕ) (rows : List (List ℕ)) (before : List ℕ) (out : SinkSeen) : Type 0 where
  pub text : List ℕ
  pub held_now : out.new.bytes ≡ Some (before ++ text)
  pub told : (q : ℕ) (place : PortPlace) → slice_get set.topo.places q ≡ Some place → place.kind ≡ kind.Sink → IsTold set s lacks rows text q

-- A call that fed a set to its end does, where the set is proved for so many rows, and the input says the set fed with them: the set of its text,
-- with the words of its `put` lines.
abbrev pub EachRowIsTold : Type 0
EachRowIsTold =
    (set : ProgramSet) (s : Stream) (least most : ℕ) (lacks : List ℕ) → IsMetFrom set s least most lacks
    → (rows : List (List ℕ)) → least ≤ length rows → length rows ≤ most → AreRows s rows
    → (call : Call) (workers : Option ℕ) (input before : List ℕ) → Headline call → call.words ≡ Some (Feed workers) → IsRestStatus call.status
    → call.seen.source.old.left ≡ Some input → call.seen.out.old.bytes ≡ Some before → Live input (fed_rows set s rows)
    → AreRowsTold set s lacks rows before call.seen.out
