-- The memory of the passes of a fabric that is being opened.
use Rattle.std.specs.Prelude.{◌≡◌, ℕ, ◌+◌, ◌-◌, ◌*◌, ◌≤◌, Some, List, [], length, slice_get, vec_capacity}
use Rattle.raw_fabric_rule.specs.Views.{About}
use Rattle.raw_fabric_rule.specs.ByEnds.{procs}
use Rattle.raw_fabric_rule.specs.Opening.{share}
use Rattle.raw_fabric.specs.declared.rooms.Room.{Room}
use Rattle.raw_fabric.specs.Laying.{status_before}

-- these are the status words of processors k, k + n, k + 2 n and so on of n workers
abbrev pub HaveStatuses : About → ℕ → List ℕ → Type 0
HaveStatuses about k statuses = (j word : ℕ) → slice_get statuses j ≡ Some word → word ≡ status_before about.set about.opened (k + j * about.workers)

-- the memory of the pass of worker k: its status words, and room for its processors and for so many steps in its log
pub record IsRoom (about : About) (log_steps k : ℕ) (room : Room) : Type 0 where
  pub many : length room.statuses.items ≡ share (procs about.set) about.workers k
  pub statuses : HaveStatuses about k room.statuses.items
  pub no_processors : room.processors.items ≡ []
  pub processors_room : share (procs about.set) about.workers k ≤ vec_capacity room.processors
  pub no_steps : room.steps.items ≡ []
  pub steps_room : log_steps ≤ vec_capacity room.steps

-- the rooms of the workers n - 1, n - 2 and so on
abbrev pub AreRooms : About → ℕ → List Room → Type 0
AreRooms about log_steps rooms = (i : ℕ) (room : Room) → slice_get rooms i ≡ Some room → IsRoom about log_steps (about.workers - 1 - i) room
