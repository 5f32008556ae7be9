-- For which numbers of rows a set is proved.
use Rattle.std.specs.Prelude.{◌≡◌, ℕ, ◌+◌, ◌*◌, ◌≤◌, List, length, sum_by, slice_get, Some}
use Rattle.std.specs.List.{range_with_len}
use Rattle.raw_grid.specs.declared.parts.PortKind.TheVariants as kind
use Rattle.raw_grid.specs.declared.parts.PortPlace.{PortPlace}
use Rattle.raw_model.specs.declared.limits.TheConstants.{MAX_ALL_WORDS}
use Rattle.raw_model.specs.Program.{ProgramSet}
use Rattle.raw_model.specs.Machine.{capacity_of}
use Rattle.raw_stream.specs.Streams.{Stream, due_at}
use Rattle.raw_stream.specs.Unrolled.{width}
use Rattle.raw_rows.specs.Kernels.{LiveProof, AreRows, IsMetBut, kernels_in}

-- The set is fed with any rows, so many at least and so many at most. Some list of its steps comes to rest, and
-- each that does leaves in each sink what it is due of them, in order, but for the last words. Of these there are
-- at most so many as `lacks` has at the number of its port.
abbrev pub IsMetFrom : ProgramSet → Stream → ℕ → ℕ → List ℕ → Type 0
IsMetFrom set s least most lacks = (rows : List (List ℕ)) → least ≤ length rows → length rows ≤ most → AreRows s rows → IsMetBut set s lacks rows

-- how many words all ports give of a row
abbrev pub all_width : ProgramSet → Stream → ℕ
all_width set s = sum_by (width s) (range_with_len 0 (length set.ports))

-- a set has words and room for so many rows
pub record HasPlaces (set : ProgramSet) (s : Stream) (most : ℕ) : Type 0 where
  pub words : most * all_width set s ≤ MAX_ALL_WORDS
  pub sinks : (q : ℕ) (place : PortPlace) → slice_get set.topo.places q ≡ Some place → place.kind ≡ kind.Sink → width s q ≡ 0
  pub room : (q : ℕ) → most * length (due_at s q) ≤ capacity_of (slice_get set.ports q)

-- a proof takes no more steps for so many rows than a limit allows
abbrev pub HasSteps : ℕ → LiveProof → ℕ → Type 0
HasSteps limit w most = w.first_limit + kernels_in w most * w.limit + w.last_limit ≤ limit
