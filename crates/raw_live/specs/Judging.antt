-- What the lines behind `live` are judged by.
use Rattle.std.specs.Prelude.{◌≡◌, ◌+◌, ◌*◌}
use Rattle.raw_grid.specs.Topology.{tile_count}
use Rattle.raw_model.specs.declared.limits.TheConstants.{MAX_ALL_WORDS}
use Rattle.raw_model.specs.Program.{ProgramSet}
use Rattle.raw_model.specs.Bounds.{all_words}
use Rattle.raw_live_text.specs.declared.intake.Intake.{Intake}

-- the ports of the set, and how many words all its sources may still be given
pub record IsIntakeOf (set : ProgramSet) (intake : Intake) : Type 0 where
  pub places : intake.places.items ≡ set.topo.places
  pub first_port : intake.first_port ≡ 2 * tile_count set.topo
  pub room : intake.room + all_words set ≡ MAX_ALL_WORDS
