-- A call of a program: the command that its words are, what was seen of its streams, and its status.
use Rattle.std.specs.Prelude.{◌≡◌, ℕ, Option}
use Rattle.raw_io.specs.Sights.{Sight, SourceSight}
use Rattle.raw_shell.specs.declared.ending.CommandEnding.{CommandEnding}
use Rattle.raw_shell.specs.Answers.{ending_status}
use Rattle.raw_shell.specs.Seen.{Seen, seen}

-- a call: the command, where the words are one; the source, out and err before and after; and the status
pub record Call (C : Type 0) : Type 0 where
  pub words : Option C
  pub seen : Seen
  pub status : ℕ

-- a call whose streams are seen by the meanings of their types
abbrev pub call : {C S K E : Type 0} → Option C → (S → SourceSight) → S → S → (K → Sight) → K → K → (E → Sight) → E → E → ℕ → Call C
call words source_sight source_old source_new out_sight out_old out_new err_sight err_old err_new status = record {
  words = words;
  seen = seen source_sight source_old source_new out_sight out_old out_new err_sight err_old err_new;
  status = status;
}

-- a status of a command that was done
pub record IsEndingStatus (status : ℕ) : Type 0 where
  pub ending : CommandEnding
  pub status_is : status ≡ ending_status ending
