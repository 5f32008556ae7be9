-- What the store of a status word does to the machine.
use Rattle.std.specs.Prelude.{◌≡◌, ℕ, ◌^◌, ◌<◌, true, List, slice_set}
use Rattle.std.specs.List.{All}
use mathlib.Core.Option.{some}
use lib.ListN.{get_elem?}
use Rattle.raw_model.specs.Start.{MachineState}
use Rattle.raw_model.specs.Rest.{enabled, step}
use Rattle.raw_fabric_rule.specs.Views.{About, Hold, View}
use Rattle.raw_fabric_rule.specs.Word.{status_at}
use Rattle.raw_fabric_rule.specs.Rule.{WordsStand, HasStood}
use Rattle.raw_fabric_rule.specs.Plays.{HasHold, fired, values_of}

-- The store of this word as the status word of p, by a seat with this view, is one step of p. Whatever other views
-- there are, and whatever words and state stand with them: p is enabled in that state, and after the store the
-- words and the views stand for the state after the step.
abbrev pub IsStepOf : About → ℕ → ℕ → View → Type 0
IsStepOf about p word v =
    (words : List ℕ) (views : List View) (s : MachineState) (seat : ℕ) → WordsStand about words views s → get_elem? views seat ≡ some v →
    (enabled about.set s p ≡ true) × WordsStand about (slice_set words (status_at p) word) (slice_set views seat (fired p v)) (step about.set s p)

-- The word is stored as the status word of p, by a seat with this view.
pub record IsCommitted (about : About) (p word : ℕ) (v : View) : Type 0 where
  -- a state of the machine stood with the view
  pub stood : (u : Hold) (h : HasHold v p u) → HasStood h.part.about v
  -- and this is one step from there
  pub step : IsStepOf about p word v
  -- the operands of the step, which are fetched, are words of 32 bits
  pub words : (u : Hold) → HasHold v p u → All (λ value. value < 2 ^ 32) (values_of u)
