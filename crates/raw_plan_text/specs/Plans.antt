-- A plan: the size of a grid, and hauls, each with the word that it carries.
use Rattle.std.specs.Prelude.{◌≡◌, ℕ, ◌*◌, List, length, All}
use Rattle.raw_route.specs.Hauls.{Haulage}
use Rattle.raw_route.specs.Planned.{IsSending, sendings}
use Rattle.raw_route.specs.Refusals.{AreLawful}

-- the columns and the rows, the hauls, and their words in the same order
pub record HaulPlan : Type 0 where
  pub cols : ℕ
  pub rows : ℕ
  pub hauls : List Haulage
  pub words : List ℕ

-- what a planner asks of a plan: the columns and the rows are 1 to 8, no haul is faulty, and each has a word of 32 bits
pub record IsPlan (plan : HaulPlan) : Type 0 where
  pub lawful : AreLawful plan.cols plan.rows plan.hauls
  pub as_many : length plan.words ≡ length plan.hauls
  pub sends : All (IsSending (plan.cols * plan.rows)) (sendings plan.hauls plan.words)
