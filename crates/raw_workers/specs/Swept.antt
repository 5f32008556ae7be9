-- What turns of processors of a pass come to.
use Rattle.std.specs.Prelude.{◌≡◌, ◌<◌, ◌≤◌, vec_len}
use Rattle.raw_fabric.specs.declared.pass.Pass.{Pass}
use Rattle.raw_fabric.specs.declared.fabric.Fabric.{Fabric}
use Rattle.raw_fabric.specs.Opened.{about_of, id_of, IsOpen, IsPass}
use Rattle.raw_fabric.specs.Owing.{owing}
use Rattle.raw_workers.specs.declared.swept.Swept.{Swept}
use Rattle.raw_workers.specs.declared.swept.Swept.TheVariants.{Fired, Stalled, Idle}

-- A step made the log longer. Where there was none the log is as long as it was, and a stall turn makes the turns fewer that the
-- processors owe.
abbrev pub HasSwept : Swept → Pass → Pass → Type 0
HasSwept Fired old new = vec_len old.log.steps < vec_len new.log.steps
HasSwept Stalled old new = (vec_len new.log.steps ≡ vec_len old.log.steps) × (owing new < owing old)
HasSwept Idle old new = (vec_len new.log.steps ≡ vec_len old.log.steps) × (owing new ≤ owing old)

-- a pass of an open fabric, that of the worker of its log
pub record IsPassOf (fabric : Fabric) (pass : Pass) : Type 0 where
  pub fabric_is : IsOpen fabric
  pub pass_is : IsPass (about_of fabric) (id_of fabric) pass.log.worker pass

-- the pass of that worker after turns that came to this
pub record IsSweptPass (fabric : Fabric) (how : Swept) (old new : Pass) : Type 0 where
  pub pass : IsPass (about_of fabric) (id_of fabric) old.log.worker new
  pub swept : HasSwept how old new
