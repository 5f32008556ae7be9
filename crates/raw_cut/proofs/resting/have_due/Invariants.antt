use Rattle.std.proofs.Common.{◌≡◌, ℕ, ◌<◌, ◌≤◌, ◌-◌, ◌*◌, ◌++◌, List, length, map, Some}
use Rattle.std.specs.Prelude.{slice_get, slice_index}
use Rattle.raw_model.specs.Local.{Sink, PortLocal}
use Rattle.raw_stream.specs.Streams.{due_to}
use Rattle.raw_prove.specs.Units.{local_of}
use Rattle.raw_cut.proofs.resting.have_due.Given as goal

abbrev pub invariant-loop-p : goal.invariant-loop-p
invariant-loop-p l =
    (q : ℕ) (k : PortLocal) → q < l.p → slice_get (map local_of l.units) q ≡ Some (Sink k)
    → (last : List ℕ) × (due_to l.stream (q - 2 * l.tiles) (map (λ row. row.items) l.values) ≡ k.got ++ last) × (length last ≤ slice_index l.lacks (q - 2 * l.tiles))
