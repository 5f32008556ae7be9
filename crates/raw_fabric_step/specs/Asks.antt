-- What a next step asks of the ends of its processor.
use Rattle.std.specs.Prelude.{◌≡◌, ℕ, ◌+◌, ◌-◌, ◌<◌, Bool, nat_lt, if◌then◌else◌}
use Rattle.raw_network.specs.Network.{count_of}
use Rattle.raw_switch_isa.specs.Ends.{has_end}
use Rattle.raw_model.specs.Program.{ProgramSet}
use Rattle.raw_model.specs.Local.{Local}
use Rattle.raw_processor.specs.declared.needs.Needs.{Needs}
use Rattle.raw_fabric_rule.specs.declared.layout.TheConstants.{END_COUNT, SIDES}
use Rattle.raw_fabric_rule.specs.ByEnds.{needs, gives}
use Rattle.raw_fabric_step.specs.declared.looks.Asks.{Asks}

-- how many values the next row takes at an end, or how many it may send there: an end is an input or an output
abbrev pub asked_at : ProgramSet → ℕ → Local → ℕ → ℕ
asked_at set p l end = count_of end (needs set p l) + count_of end (gives set p l)

-- whether something is asked at an end: the outputs have the numbers from END_COUNT on
abbrev pub is_asked : Needs → ℕ → Bool
is_asked ends end = if nat_lt end END_COUNT then has_end ends.inputs end else has_end ends.outputs (end - END_COUNT)

-- the same as a number of values
abbrev pub amount : Asks → ℕ → ℕ
amount asks end = if is_asked asks.needs end then (if nat_lt end END_COUNT then asks.each else 1) else 0

-- the next row of p asks something at an end, and it is so much
pub record IsAskedAt (set : ProgramSet) (p : ℕ) (l : Local) (end asked : ℕ) : Type 0 where
  pub within : end < SIDES
  pub some : 0 < asked
  pub asked_is : asked ≡ asked_at set p l end

-- this is what the next row of p asks
pub record AreAsked (set : ProgramSet) (p : ℕ) (l : Local) (asks : Asks) : Type 0 where
  pub some : 0 < asks.each
  pub at : (end : ℕ) → end < SIDES → asked_at set p l end ≡ amount asks end
