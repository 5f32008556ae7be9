-- Ways to run a machine for a while.
use Rattle.std.specs.Prelude.{◌<◌}
use Rattle.raw_workers.specs.declared.pace.NextRun.{NextRun}
use Rattle.raw_workers.specs.declared.pace.NextRun.TheVariants.{Alone, Together}

-- alone it takes some steps
abbrev pub IsNextRun : NextRun → Type 0
IsNextRun (Alone most) = 0 < most
IsNextRun (Together workers log_steps within) = Unit {0}
