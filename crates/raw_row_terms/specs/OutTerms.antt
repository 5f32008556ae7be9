-- The terms of the outs of rows, row by row.
use Rattle.std.specs.Prelude.{ℕ, List, map, slice_index}
use Rattle.std.specs.List.{flat_map}
use Rattle.raw_stream.specs.declared.out.StreamOut.{StreamOut}
use Rattle.raw_stream.specs.Streams.{Stream}

-- an out with the term of its node, where the nodes of the row have these
abbrev pub out_in : List ℕ → StreamOut → StreamOut
out_in numbers out = record { port = out.port; node = slice_index numbers out.node }

abbrev pub outs_in : List StreamOut → List ℕ → List StreamOut
outs_in outs numbers = map (out_in numbers) outs

abbrev pub outs_of_rows : Stream → List (List ℕ) → List StreamOut
outs_of_rows s values = flat_map (outs_in s.outs) values
