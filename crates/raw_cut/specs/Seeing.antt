-- A machine that begins at a cut, and where it comes to rest.
use Rattle.std.specs.Prelude.{◌≡◌, ℕ, Some, List, length, map}
use Rattle.raw_model.specs.Program.{ProgramSet}
use Rattle.raw_model.specs.Rest.{IsQuiet}
use Rattle.raw_flow.specs.declared.node.Node.{Node}
use Rattle.raw_stream.specs.Streams.{Stream, first_words}
use Rattle.raw_rows.specs.Kernels.{Cut, open_rows, begun, along, run_set, roomy_set}
use Rattle.raw_prove.specs.Units.{state_of}
use Rattle.raw_cut.specs.declared.leading.Begun.{Begun}
use Rattle.raw_cut.specs.Kept.{IsKeptWith}

-- a machine that begins at a cut, of a set that sees the first m rows
pub record BeginsSeeing (set : ProgramSet) (s : Stream) (limit : ℕ) (carried : List Node) (from : Cut) (m : ℕ) (b : Begun) : Type 0 where
  pub sees : b.set ≡ run_set set s limit (open_rows s m)
  pub rows : map (λ row. row.items) b.rows.items ≡ open_rows s m
  pub state : state_of b.machine ≡ begun s carried m from
  pub kept : IsKeptWith b.set 1 b.machine
  pub many : b.widths.carried ≡ length (first_words s)

-- one with which a list of steps comes to rest from a cut that sees m rows
pub record ComesToRest (set : ProgramSet) (s : Stream) (limit : ℕ) (carried : List Node) (from : Cut) (steps : List ℕ) (m : ℕ) (b : Begun) : Type 0 where
  pub rows : map (λ row. row.items) b.rows.items ≡ open_rows s m
  pub goes : along (run_set set s limit (open_rows s m)) (begun s carried m from) steps ≡ Some (state_of b.machine)
  pub quiet : IsQuiet (roomy_set set s limit (open_rows s m)) (state_of b.machine).state
  pub grid : b.set.topo ≡ set.topo
  pub many : b.widths.carried ≡ length (first_words s)
