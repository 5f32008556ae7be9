-- The number of cycles of a set, as a function of it.
use Rattle.std.specs.Prelude.{ℕ, ◌+◌, ◌^◌, Bool, not, unwrap_or}
use Rattle.std.specs.List.{find, list_all, range_with_len}
use Rattle.raw_grid.specs.Topology.{proc_count}
use Rattle.raw_model.specs.Program.{ProgramSet}
use Rattle.raw_clock.specs.Clock.{ClockState, clock, turn_in, goes}

-- no turn goes on
abbrev pub is_over : ProgramSet → ClockState → Bool
is_over set c = list_all (λ p. not (goes (turn_in set c p))) (range_with_len 0 (proc_count set.topo))

-- the first of so many numbers of cycles after which the clock of the set is over
abbrev pub first_over : ProgramSet → ℕ → ℕ
first_over set many = unwrap_or (find (λ k. is_over set (clock set k)) (range_with_len 0 many)) 0

-- how many cycles the set has: no set has more than 2 ^ 40
unfoldable pub cycle_count : ProgramSet → ℕ
cycle_count set = first_over set (2 ^ 40 + 1)
