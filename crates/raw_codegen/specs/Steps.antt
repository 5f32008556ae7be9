-- One step of a processor that takes at most one value and sends at most one, and lists of steps that lead somewhere.
use Rattle.std.specs.Prelude.{◌≡◌, ◌≢◌, ℕ, false, Some, List, [], ◌∷◌, ◌++◌, slice_get}
use Rattle.raw_network.specs.Network.{Sent, values_on}
use Rattle.raw_model.specs.Program.{ProgramSet}
use Rattle.raw_model.specs.Local.{Local}
use Rattle.raw_model.specs.Machine.{is_stopped, takes, sends, row}
use Rattle.raw_model.specs.Start.{MachineState}
use Rattle.raw_model.specs.Rest.{IsLawfulFrom, end_from}

-- some lawful list of steps leads to a state of which this holds
pub record Leads (set : ProgramSet) (s : MachineState) (P : MachineState → Type 0) : Type 0 where
  pub steps : List ℕ
  pub lawful : IsLawfulFrom set s steps
  pub holds : P (end_from set s steps)

-- processor p is going; its next row takes from these wires and may send to those; with these values it leaves this local state and sends this
pub record IsNext (set : ProgramSet) (s : MachineState) (p : ℕ) (l next : Local) (from to values : List ℕ) (ms : List Sent) : Type 0 where
  pub here : slice_get s.locals p ≡ Some l
  pub going : is_stopped set p l ≡ false
  pub takes_from : takes set p l ≡ from
  pub sends_to : sends set p l ≡ to
  pub leaves : (row set p l values).next ≡ next
  pub sent : (row set p l values).sent ≡ ms

-- one value on its way to a wire
abbrev pub one_value : ℕ → ℕ → List Sent
one_value w x = record { wire = w; value = x } ∷ []

-- between two states the local state of one processor alone has changed, to this one
pub record Changed (s r : MachineState) (p : ℕ) (l : Local) : Type 0 where
  pub here : slice_get r.locals p ≡ Some l
  pub others : (q : ℕ) → q ≢ p → slice_get r.locals q ≡ slice_get s.locals q

-- each wire holds what it held
pub record SameWires (before after : List (List ℕ)) : Type 0 where
  pub on : (w : ℕ) → values_on after w ≡ values_on before w

-- the value x stands on wire w, and no other value on any wire
pub record IsAlone (w x : ℕ) (wires : List (List ℕ)) : Type 0 where
  pub here : values_on wires w ≡ x ∷ []
  pub elsewhere : (u : ℕ) → u ≢ w → values_on wires u ≡ []

-- the value x has come to wire w
pub record HasCome (w x : ℕ) (before after : List (List ℕ)) : Type 0 where
  pub here : values_on after w ≡ values_on before w ++ x ∷ []
  pub elsewhere : (u : ℕ) → u ≢ w → values_on after u ≡ values_on before u

-- the value x is gone from the front of wire w
pub record IsGone (w x : ℕ) (before after : List (List ℕ)) : Type 0 where
  pub here : values_on before w ≡ x ∷ values_on after w
  pub elsewhere : (u : ℕ) → u ≢ w → values_on after u ≡ values_on before u

-- the value x is gone from the front of wire w, and y has come to wire v
pub record HasPassed (w x v y : ℕ) (before after : List (List ℕ)) : Type 0 where
  pub gone : values_on before w ≡ x ∷ values_on after w
  pub come : values_on after v ≡ values_on before v ++ y ∷ []
  pub elsewhere : (u : ℕ) → u ≢ w → u ≢ v → values_on after u ≡ values_on before u
