-- What is so while logs are woven: what is left of each log, and the list so far.
use Rattle.std.specs.Prelude.{◌≡◌, ℕ, ◌+◌, ◌<◌, ◌≤◌, ◌%◌, false, Some, List, [], ◌++◌, map, length, sum_by, slice_get, slice_index_or, Vec, vec_len, vec_capacity}
use Rattle.std.specs.declared.alloc.Global.{Global}
use denote.Ref.{Bor}
use Rattle.raw_network.specs.Laws.{of_worker}
use Rattle.raw_grid.specs.declared.parts.ProcId.{ProcId}
use Rattle.raw_model.specs.Program.{ProgramSet}
use Rattle.raw_model.specs.Start.{MachineState}
use Rattle.raw_model.specs.Rest.{enabled}
use Rattle.raw_serial.specs.Running.{Running}
use Rattle.raw_steps.specs.Taking.{numbers}
use Rattle.raw_serial.specs.Leading.{HasTaken}
use Rattle.raw_steps.specs.Weaving.{HaveLawfulJoining}

-- the entries of each of these lists
abbrev pub entries_of : List (Bor (List ProcId)) → List (List ℕ)
entries_of lists = map (λ list. numbers list.now) lists

-- how many entries the logs have together
abbrev pub count_in : List (List ℕ) → ℕ
count_in logs = sum_by (λ log. length log) logs

-- a front of the list is taken, `rest` is left, and the front is woven behind the steps so far
pub record TakesFront (old new : Running) (list rest before after : List ℕ) : Type 0 where
  pub front : List ℕ
  pub parts : list ≡ front ++ rest
  pub woven : after ≡ before ++ front
  pub taken : HasTaken old new front

-- The steps are taken from the fronts of these logs, and `later` is what is left of them: each log is the steps of its
-- worker, and then what is left.
pub record AreTakenFrom (logs later : List (List ℕ)) (steps : List ℕ) : Type 0 where
  pub many : length later ≡ length logs
  pub each : (w : ℕ) → w < length logs →
      of_worker (λ p. p % length logs) w steps ++ slice_index_or later w [] ≡ slice_index_or logs w []

-- what is left of the logs can be woven on: from the machine's state some lawful list is joined from it, and the woven
-- list has room for it
pub record CanBeWoven (m : Running) (left : List (List ℕ)) (woven : Vec ProcId Global) : Type 0 where
  pub joining : HaveLawfulJoining m.set m.state left
  pub room : vec_len woven + count_in left ≤ vec_capacity woven

-- more steps are woven: they are taken from the fronts of these logs, and the machine has taken them
pub record IsWovenOn (old new : Running) (logs later : List (List ℕ)) (before after : List ℕ) : Type 0 where
  pub more : List ℕ
  pub list : after ≡ before ++ more
  pub from : AreTakenFrom logs later more
  pub count : length after + count_in later ≡ length before + count_in logs
  pub taken : HasTaken old new more

-- the list does not begin with an enabled processor
abbrev pub BeginsIdle : ProgramSet → MachineState → List ℕ → Type 0
BeginsIdle set s steps = (p : ℕ) → slice_get steps 0 ≡ Some p → enabled set s p ≡ false
