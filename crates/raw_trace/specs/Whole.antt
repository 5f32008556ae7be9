-- The turns and the sends of a whole run, told by lengths.
use Rattle.std.specs.Prelude.{◌≡◌, ℕ, suc, ◌+◌, ◌-◌, ◌*◌, ◌<◌, Bool, true, false, ◌&&◌, ◌==◌, nat_lt, nat_le, List, [], ◌∷◌, ◌++◌, length, map, replicate, codes, decimal, if◌then◌else◌}
use Rattle.std.specs.List.{filter, flat_map, fold, range_with_len, scan}
use Rattle.raw_grid.specs.Topology.{proc_count}
use Rattle.raw_grid.specs.Wires.{wires_of, producer_of}
use Rattle.raw_model.specs.Program.{ProgramSet}
use Rattle.raw_model.specs.StateTexts.{mark_of}
use Rattle.raw_serial.specs.declared.turn.Turn.{Turn}
use Rattle.raw_serial.specs.declared.turn.Turn.TheVariants.{Fired, Stalled, Stopped, Waits}
use Rattle.raw_clock.specs.Clock.{machine_at, clock, turn_in, is_stop}
use Rattle.raw_trace.specs.declared.limits.TheConstants.{MAX_WHOLE_TURNS}
use Rattle.raw_trace.specs.Lines.{turn_line}
use Rattle.raw_trace.specs.Reading.{told, sent_told}

-- ---- lists cut into pieces of equal elements: each piece is its element, and how many there are

-- one element more behind pieces: the last piece is longer by one where it is of this element, or else a piece begins
abbrev pub one_more : {X : Type 0} → (X → X → Bool) → List (X × ℕ) → X → List (X × ℕ)
one_more same [] x = (x, 1) ∷ []
one_more same (piece ∷ []) x = if same piece.0 x then (piece.0, piece.1 + 1) ∷ [] else piece ∷ (x, 1) ∷ []
one_more same (piece ∷ next ∷ pieces) x = piece ∷ one_more same (next ∷ pieces) x

-- the longest pieces
abbrev pub pieces : {X : Type 0} → (X → X → Bool) → List X → List (X × ℕ)
pieces same xs = fold (one_more same) [] xs

-- the list that pieces are cut of
abbrev pub spread : {X : Type 0} → List (X × ℕ) → List X
spread ps = flat_map (λ piece. replicate piece.1 piece.0) ps

-- each has an element, and two that stand behind one another are of others
abbrev pub AreLongest : {X : Type 0} → (X → X → Bool) → List (X × ℕ) → Type 0
AreLongest same [] = Unit {0}
AreLongest same (piece ∷ []) = 0 < piece.1
AreLongest same (piece ∷ next ∷ pieces) = (0 < piece.1) × (same piece.0 next.0 ≡ false) × AreLongest same (next ∷ pieces)

-- ---- the turns of a processor

-- two turns are of one kind, and waits are for one wire
abbrev pub same_turn : Turn → Turn → Bool
same_turn Fired Fired = true
same_turn Stalled Stalled = true
same_turn Stopped Stopped = true
same_turn (Waits wire) (Waits other) = wire.0 == other.0
same_turn _ _ = false

-- the turns of processor p in the first cycles
abbrev pub turns_of : ProgramSet → ℕ → ℕ → List Turn
turns_of set p cycles = map (λ k. turn_in set (clock set k) p) (range_with_len 0 cycles)

-- the pieces of the turns of processor p at the positions 0 to n
abbrev pub turn_pieces : ProgramSet → ℕ → ℕ → List (Turn × ℕ)
turn_pieces set n p = pieces same_turn (turns_of set p (suc n))

-- none stands behind a stop
abbrev pub StopsLast : List (Turn × ℕ) → Type 0
StopsLast [] = Unit {0}
StopsLast (piece ∷ []) = Unit {0}
StopsLast (piece ∷ next ∷ pieces) = (is_stop piece.0 ≡ false) × StopsLast (next ∷ pieces)

-- ---- the cycles in which a value is sent on a wire

-- the values that the turn line of its producer tells as sent on wire w in cycle k
abbrev pub sent_in : ProgramSet → ℕ → ℕ → List ℕ
sent_in set w k =
    told (sent_told w) (turn_line set (clock set k) (producer_of set.topo w) (turn_in set (clock set k) (producer_of set.topo w)) ∷ [])

-- the first cycles that have one, by rising number
abbrev pub sending : ProgramSet → ℕ → ℕ → List ℕ
sending set w cycles = filter (λ k. nat_lt 0 (length (sent_in set w k))) (range_with_len 0 cycles)

-- how far each number is from the one before it, the first one from 0; and the numbers that are so far from each other
abbrev pub distances : List ℕ → List ℕ
distances ks = scan (λ before k. k) (λ before k. k - before) 0 ks

abbrev pub sums : List ℕ → List ℕ
sums ds = scan (λ before d. before + d) (λ before d. before + d) 0 ds

-- the pieces of the distances of the cycles below n in which a value is sent on wire w
abbrev pub distance_pieces : ProgramSet → ℕ → ℕ → List (ℕ × ℕ)
distance_pieces set n w = pieces (λ a b. a == b) (distances (sending set w n))

-- ---- their text

-- how often something stands one behind another, where that is not once
abbrev pub times_text : ℕ → List ℕ
times_text times = if nat_le 2 times then codes "*" ++ decimal times else []

-- a piece of turns of a processor that has this mark in the end, with a blank before it
abbrev pub turns_text : List ℕ → Turn → ℕ → List ℕ
turns_text mark Fired times = codes " f" ++ times_text times
turns_text mark Stalled times = codes " s" ++ times_text times
turns_text mark Stopped times = codes " x " ++ mark
turns_text mark (Waits wire) times = (codes " w" ++ decimal wire.0) ++ times_text times

-- the line of processor p, of a set that has n cycles
abbrev pub turns_line : ProgramSet → ℕ → ℕ → List ℕ
turns_line set n p =
    decimal p ++ (flat_map (λ piece. turns_text (mark_of set (machine_at (clock set n)) p) piece.0 piece.1) (turn_pieces set n p) ++ codes "\n")

-- a piece of distances, with a blank before it
abbrev pub distances_text : ℕ × ℕ → List ℕ
distances_text piece = (codes " " ++ decimal piece.0) ++ times_text piece.1

-- the line of wire w, where something is sent there
abbrev pub distances_line : ℕ → List (ℕ × ℕ) → List ℕ
distances_line w [] = []
distances_line w (piece ∷ pieces) = (codes "sent " ++ decimal w) ++ (flat_map distances_text (piece ∷ pieces) ++ codes "\n")

abbrev pub sent_line : ProgramSet → ℕ → ℕ → List ℕ
sent_line set n w = distances_line w (distance_pieces set n w)

-- the lines of the whole run of a set that has n cycles
unfoldable pub whole_text : ProgramSet → ℕ → List ℕ
whole_text set n =
    (codes "whole " ++ decimal n ++ codes "\n")
    ++ (flat_map (turns_line set n) (range_with_len 0 (proc_count set.topo))
    ++ flat_map (sent_line set n) (range_with_len 0 (length (wires_of set.topo))))

-- they stand in a trace where they are asked for, and the processors do not have too many turns in it
abbrev pub has_whole : Bool → ProgramSet → ℕ → Bool
has_whole asked set n = asked && nat_le ((n + 1) * proc_count set.topo) MAX_WHOLE_TURNS

abbrev pub whole_lines : Bool → ProgramSet → ℕ → List ℕ
whole_lines has set n = if has then whole_text set n else []
