-- To what the lost cycles of processors are lost: the waits of each such cycle lead to a root, or come round.
use Rattle.std.specs.Prelude.{◌≡◌, ℕ, suc, ◌+◌, ◌*◌, ◌&&◌, nat_lt, Bool, true, false, Option, Some, None, if◌then◌else◌}
use Rattle.std.specs.List.{count_by, range_with_len}
use Rattle.raw_grid.specs.Topology.{Topology, tile_count, proc_count}
use Rattle.raw_model.specs.Program.{ProgramSet}
use Rattle.raw_serial.specs.declared.turn.Turn.{Turn}
use Rattle.raw_serial.specs.declared.turn.Turn.TheVariants as turn
use Rattle.raw_clock.specs.Clock.{ClockState, clock, turn_in, is_starved, is_blocked, spent}
use Rattle.raw_steady.specs.Steady.{root, is_wait}
use Rattle.raw_lost.specs.declared.root.RootKind.{RootKind}
use Rattle.raw_lost.specs.declared.root.RootKind.TheVariants.{Tile, Switch, Port, Stalled, Stopped, Ring}
use Rattle.raw_lost.specs.declared.lost.Lost.{Lost}

-- what a processor is that takes a step: tiles come first, then switches, and ports last
abbrev pub firing_kind : Topology → ℕ → RootKind
firing_kind topo r = if nat_lt r (tile_count topo) then Tile else (if nat_lt r (2 * tile_count topo) then Switch else Port)

-- the kind of a root by its turn; no root waits
abbrev pub kind_with : Topology → ℕ → Turn → RootKind
kind_with topo r turn.Fired = firing_kind topo r
kind_with topo r turn.Stalled = Stalled
kind_with topo r turn.Stopped = Stopped
kind_with topo r (turn.Waits w) = Ring

-- the kind of a root in a cycle; where there is none, the waits come round
abbrev pub kind_at : ProgramSet → ClockState → Option ℕ → RootKind
kind_at set c None = Ring
kind_at set c (Some r) = kind_with set.topo r (turn_in set c r)

-- the kind of the root of processor p: more waits than there are processors lead to it, or come round
abbrev pub root_kind : ProgramSet → ClockState → ℕ → RootKind
root_kind set c p = kind_at set c (root set c (suc (proc_count set.topo)) p)

-- whether two kinds are the same
abbrev pub are_alike : RootKind → RootKind → Bool
are_alike Tile Tile = true
are_alike Switch Switch = true
are_alike Port Port = true
are_alike Stalled Stalled = true
are_alike Stopped Stopped = true
are_alike Ring Ring = true
are_alike _ _ = false

-- in how many of the first n cycles processor p waits, and its root is of this kind
abbrev pub lost_to : ProgramSet → ℕ → ℕ → RootKind → ℕ
lost_to set n p kind =
    count_by (λ k. is_wait (turn_in set (clock set k) p) && are_alike kind (root_kind set (clock set k) p)) (range_with_len 0 n)

-- and of each kind
abbrev pub lost_by : ProgramSet → ℕ → ℕ → Lost
lost_by set n p =
    record {
      tiles = lost_to set n p Tile;
      switches = lost_to set n p Switch;
      ports = lost_to set n p Port;
      stalled = lost_to set n p Stalled;
      stopped = lost_to set n p Stopped;
      ring = lost_to set n p Ring;
    }

-- all together
abbrev pub all_lost : Lost → ℕ
all_lost l = l.tiles + l.switches + l.ports + l.stalled + l.stopped + l.ring

-- the lost cycles of p are those in which it was starved or blocked
abbrev pub LostAddUp : ProgramSet → ℕ → ℕ → Type 0
LostAddUp set n p = all_lost (lost_by set n p) ≡ spent set n p (is_starved set p) + spent set n p (is_blocked set p)
