-- What is read of a trace that is written out: two tiles and their switches, of which tile 0 sends 7 to tile 1.
use Rattle.std.proofs.Common.{◌≡◌, List, [], ◌∷◌, codes, Some, refl}
use Rattle.raw_trace.specs.declared.entry.Entry.TheVariants.{Taken, Sent, Register}
use Rattle.raw_trace.specs.Lines.{Line, Begins, Cycle, Fires, Waiting, Stopping}
use Rattle.raw_trace.specs.Reading.{lines_before, read_pc, read_count, read_register, read_wire, read_turn}

abbrev lines : List Line
lines =
    Begins 0
    ∷ Cycle 0 ∷ Fires 0 1 (Sent 2 7 ∷ []) ∷ Waiting 1 4 ∷ Waiting 2 2 ∷ Waiting 3 8
    ∷ Cycle 1 ∷ Fires 0 1 [] ∷ Fires 2 1 (Taken 2 ∷ Sent 8 7 ∷ [])
    ∷ Cycle 2 ∷ Stopping 0 (codes "halted") ∷ Fires 2 1 [] ∷ Fires 3 1 (Taken 8 ∷ Sent 4 7 ∷ [])
    ∷ Cycle 3 ∷ Fires 1 1 (Taken 4 ∷ Register 5 7 ∷ []) ∷ Stopping 2 (codes "halted") ∷ Fires 3 1 []
    ∷ Cycle 4 ∷ []

-- the state before cycle 2: tile 0 has taken two steps, and the value is on the link
tile_0 : (read_pc 0 (lines_before 2 lines) ≡ 1) × (read_count 0 (lines_before 2 lines) ≡ 2)
tile_0 = (refl, refl)

link : (read_wire 2 (lines_before 2 lines) ≡ []) × (read_wire 8 (lines_before 2 lines) ≡ 7 ∷ []) × (read_wire 4 (lines_before 2 lines) ≡ [])
link = (refl, refl, refl)

-- tile 1 still waits there, which its line of cycle 0 tells, and tile 0 is stopped in cycle 3, which its line of cycle 2 tells
turns : (read_turn 1 2 lines ≡ Some (Waiting 1 4)) × (read_turn 0 3 lines ≡ Some (Stopping 0 (codes "halted"))) × (read_turn 2 1 lines ≡ Some (Fires 2 1 (Taken 2 ∷ Sent 8 7 ∷ [])))
turns = (refl, refl, refl)

-- and the state before cycle 4: tile 1 holds the value
tile_1 : (read_register 1 5 (lines_before 4 lines) ≡ 7) × (read_register 1 5 (lines_before 3 lines) ≡ 0) × (read_pc 1 (lines_before 4 lines) ≡ 1)
tile_1 = (refl, refl, refl)
