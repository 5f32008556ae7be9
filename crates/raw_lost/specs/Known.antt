-- What the engine knows of roots and of lost cycles.
use Rattle.std.specs.Prelude.{◌≡◌, ℕ, ◌+◌, ◌<◌, ◌^◌, Option, Some, List, length, slice_get}
use Rattle.raw_grid.specs.Topology.{proc_count}
use Rattle.raw_model.specs.Program.{ProgramSet}
use Rattle.raw_clock.specs.Clock.{clock}
use Rattle.raw_lost.specs.declared.root.RootKind.{RootKind}
use Rattle.raw_lost.specs.declared.root.RootKind.TheVariants.{Tile, Switch, Port, Stalled, Stopped, Ring}
use Rattle.raw_lost.specs.declared.lost.Lost.{Lost}
use Rattle.raw_lost.specs.Lost.{root_kind, lost_by}

-- the kinds of roots that are known in the cycle after the first k
pub record AreKinds (set : ProgramSet) (k : ℕ) (kinds : List (Option RootKind)) : Type 0 where
  pub many : length kinds ≡ proc_count set.topo
  pub each : (p : ℕ) (kind : RootKind) → slice_get kinds p ≡ Some (Some kind) → kind ≡ root_kind set (clock set k) p

-- what all processors lost in the first n cycles
pub record AreLost (set : ProgramSet) (n : ℕ) (all : List Lost) : Type 0 where
  pub many : length all ≡ proc_count set.topo
  pub each : (p : ℕ) (lost : Lost) → slice_get all p ≡ Some lost → lost ≡ lost_by set n p

-- one cycle more with a root of this kind
abbrev pub noted : RootKind → Lost → Lost
noted Tile l = record l { tiles = l.tiles + 1 }
noted Switch l = record l { switches = l.switches + 1 }
noted Port l = record l { ports = l.ports + 1 }
noted Stalled l = record l { stalled = l.stalled + 1 }
noted Stopped l = record l { stopped = l.stopped + 1 }
noted Ring l = record l { ring = l.ring + 1 }

-- there is room for one more of each kind
abbrev pub HasRoom : Lost → Type 0
HasRoom l = (l.tiles < 2 ^ 63) × (l.switches < 2 ^ 63) × (l.ports < 2 ^ 63) × (l.stalled < 2 ^ 63) × (l.stopped < 2 ^ 63) × (l.ring < 2 ^ 63)
