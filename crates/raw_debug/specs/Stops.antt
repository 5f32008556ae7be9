-- Where a script stops that goes on until a step does something, or back to the latest that did.
use Rattle.std.specs.Prelude.{◌≡◌, ℕ, zero, suc, ◌+◌, ◌-◌, ◌<◌, ◌≤◌, Bool, true, false, not, ◌&&◌, ◌==◌, is_some, Option, Some, None, List, [], ◌∷◌, length, slice_get, if◌then◌else◌}
use Rattle.std.specs.List.{find, list_any, range_with_len}
use Rattle.std.specs.Option.{option_map}
use Rattle.raw_network.specs.Network.{Event, values_on, count_of}
use Rattle.raw_network.specs.Runs.{sent_on}
use Rattle.raw_model.specs.Program.{ProgramSet}
use Rattle.raw_model.specs.Local.{Local, Tile, Switch}
use Rattle.raw_model.specs.TileTable.{word_at}
use Rattle.raw_model.specs.Start.{MachineState, start}
use Rattle.raw_model.specs.Rest.{step, passed_on, kth_local}
use Rattle.raw_model.specs.Laws.{events_at}
use Rattle.raw_model.specs.Serial.{serial}
use Rattle.raw_model.specs.Parts.{memory_of}
use Rattle.raw_debug.specs.declared.command.Aim.{Aim}
use Rattle.raw_debug.specs.declared.command.Aim.TheVariants.{Pc, Sends, SendsAny, Stores, StoresAny, Sets, SetsAny}
use Rattle.raw_serial.specs.Within.{register_in}
use Rattle.raw_debug.specs.declared.walk.Walk.{Walk}
use Rattle.raw_debug.specs.Walking.{state_after, count_at, moment_of}

-- a tile or a switch with this local state has this pc
abbrev pub has_pc : ℕ → Option Local → Bool
has_pc pc (Some (Tile l)) = l.pc == pc
has_pc pc (Some (Switch l)) = l.pc == pc
has_pc pc _ = false

-- the word at an address of the memory of a tile with this local state, and whether it is this one
abbrev pub word_in : ℕ → Option Local → ℕ
word_in address l = word_at (memory_of l) address

abbrev pub has_word : ℕ → ℕ → Option Local → Bool
has_word address word l = word_in address l == word

-- whether a register of a tile or a switch with this local state holds this value
abbrev pub has_value : ℕ → ℕ → Option Local → Bool
has_value register value l = register_in register l == value

-- A step of a processor does what is aimed at, seen of its local states right before and right after it and of the values that
-- it sends on the wire: right after it the processor has this pc; it sends this value, or any; right after it the word, or
-- what the register holds, is this one and right before it it is not, or is another one than before.
abbrev pub does_between : Option Local → Option Local → (ℕ → List ℕ) → Aim → Bool
does_between before behind sent (Pc pc) = has_pc pc behind
does_between before behind sent (Sends wire value) = list_any (λ v. v == value) (sent wire.0)
does_between before behind sent (SendsAny wire) = list_any (λ v. true) (sent wire.0)
does_between before behind sent (Stores address word) = has_word address word behind && not (has_word address word before)
does_between before behind sent (StoresAny address) = not (word_in address behind == word_in address before)
does_between before behind sent (Sets register value) = has_value register value behind && not (has_value register value before)
does_between before behind sent (SetsAny register) = not (register_in register behind == register_in register before)

-- from this state, the next step of processor p does
abbrev pub does : ProgramSet → MachineState → ℕ → Aim → Bool
does set s p aim =
    does_between (slice_get s.locals p) (slice_get (step set s p).locals p) (passed_on set s (p ∷ [])) aim

-- what a list has at a place is this
abbrev pub is_of : ℕ → Option ℕ → Bool
is_of value None = false
is_of value (Some v) = v == value

-- the step of the serial order with this number, counted from 0, is one of processor p and does what is aimed at
abbrev pub is_stop : ProgramSet → ℕ → Aim → ℕ → Bool
is_stop set p aim k = is_of p (slice_get (serial set) k) && does set (state_after set k) p aim

-- the moment right after the first such step from a moment on
unfoldable pub stop_after : ProgramSet → ℕ → ℕ → Aim → Option ℕ
stop_after set moment p aim = option_map suc (find (is_stop set p aim) (range_with_len moment (length (serial set) - moment)))

-- the latest number from 1 up to another for which the one before it passes a test
abbrev pub latest : (ℕ → Bool) → ℕ → Option ℕ
latest test zero = None
latest test (suc k) = if test k then Some (suc k) else latest test k

-- the moment right after the latest such step up to a moment
unfoldable pub last_up_to : ProgramSet → ℕ → ℕ → Aim → Option ℕ
last_up_to set moment p aim = latest (is_stop set p aim) moment

-- the moment right after the last step of processor p, where it takes it after this moment
unfoldable pub stopped_after : ProgramSet → ℕ → ℕ → Option ℕ
stopped_after set moment p = if count_at set p moment == count_of p (serial set) then None else moment_of set p (count_of p (serial set))

-- what a step sent on a wire, if there is one
abbrev pub sent_in : Option (Event Local) → ℕ → List ℕ
sent_in None wire = []
sent_in (Some e) wire = sent_on wire e.sent

-- In any list of steps: the k-th step of processor p, k at least 1, does what is aimed at.
abbrev pub did : ProgramSet → List ℕ → ℕ → Aim → ℕ → Bool
did set steps p aim k =
    does_between (kth_local set (start set) steps p (k - 1)) (kth_local set (start set) steps p k)
    (sent_in (slice_get (events_at set (start set) steps p) (k - 1))) aim

-- k is the least number above another of which something is so
pub record IsNext (P : ℕ → Type 0) (low k : ℕ) : Type 0 where
  pub above : low < k
  pub so : P k
  pub first : (j : ℕ) → low < j → j < k → P j → ⊥

-- k is the greatest number from 1 up to another of which something is so
pub record IsLatest (P : ℕ → Type 0) (high k : ℕ) : Type 0 where
  pub some : 0 < k
  pub within : k ≤ high
  pub so : P k
  pub last : (j : ℕ) → k < j → j ≤ high → P j → ⊥

-- What a state shows of what is aimed at, where the step before it began with this many values on the wire, with this word, or
-- with this value in the register:
abbrev pub sight_of : MachineState → ℕ → Aim → ℕ
sight_of s p (Pc pc) = 0
sight_of s p (Sends wire value) = length (values_on s.wires wire.0)
sight_of s p (SendsAny wire) = length (values_on s.wires wire.0)
sight_of s p (Stores address word) = word_in address (slice_get s.locals p)
sight_of s p (StoresAny address) = word_in address (slice_get s.locals p)
sight_of s p (Sets register value) = register_in register (slice_get s.locals p)
sight_of s p (SetsAny register) = register_in register (slice_get s.locals p)

abbrev pub shows : MachineState → ℕ → Aim → ℕ → Bool
shows t p (Pc pc) before = has_pc pc (slice_get t.locals p)
shows t p (Sends wire value) before = is_of value (slice_get (values_on t.wires wire.0) before)
shows t p (SendsAny wire) before = is_some (slice_get (values_on t.wires wire.0) before)
shows t p (Stores address word) before = has_word address word (slice_get t.locals p) && not (before == word)
shows t p (StoresAny address) before = not (word_in address (slice_get t.locals p) == before)
shows t p (Sets register value) before = has_value register value (slice_get t.locals p) && not (before == value)
shows t p (SetsAny register) before = not (register_in register (slice_get t.locals p) == before)

-- A step that takes nothing from a wire, sends nothing and leaves this register alone does not do what is aimed at.
abbrev pub IsSeenIn : Aim → ℕ → Type 0
IsSeenIn (Sends wire value) register = Unit {0}
IsSeenIn (SendsAny wire) register = Unit {0}
IsSeenIn (Sets own value) register = register ≡ own
IsSeenIn (SetsAny own) register = register ≡ own
IsSeenIn _ register = ⊥

-- Of the steps between two places of a walk, the last one is one of processor q. No other one is one of processor p that does
-- what is aimed at; the last one is where the state behind it shows it, against what was to be seen before all of them.
pub record OnlyLast (old new : Walk) (q p : ℕ) (aim : Aim) : Type 0 where
  pub others : (k : ℕ) → old.moment ≤ k → k + 1 < new.moment → is_stop old.machine.set p aim k ≡ false
  pub last : (k : ℕ) → k + 1 ≡ new.moment →
      is_stop old.machine.set p aim k ≡ ((q == p) && shows new.machine.state p aim (sight_of old.machine.state p aim))

-- What is to be seen of it stays where another processor takes a step.
abbrev pub IsLocal : Aim → Type 0
IsLocal (Sends wire value) = ⊥
IsLocal (SendsAny wire) = ⊥
IsLocal _ = Unit {0}

-- The same; and where the last step is one of another processor, what is to be seen of processor p is what it was.
pub record GoesPast (old new : Walk) (q p : ℕ) (aim : Aim) : Type 0 where
  pub seen : OnlyLast old new q p aim
  pub same : (q ≡ p → ⊥) → IsLocal aim → sight_of new.machine.state p aim ≡ sight_of old.machine.state p aim
