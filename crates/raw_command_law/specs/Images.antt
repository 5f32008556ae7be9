-- What the commands make of what `list` and `asm` wrote: no set is lost on the way.
use Rattle.std.specs.Prelude.{◌≡◌, ◌↔◌, ℕ, Bool, Option, List, [], ◌++◌, take, codes}
use Rattle.raw_model.specs.Program.{ProgramSet}
use Rattle.raw_set_text.specs.Texts.{Meaning}
use Rattle.raw_set_text.specs.Listing.{listing}
use Rattle.raw_image.specs.Image.{Image, image, number}
use Rattle.raw_command_line.specs.declared.arguments.SetForm.TheVariants as set_form
use Rattle.raw_command_line.specs.declared.arguments.RunOutput.{RunOutput}
use Rattle.raw_command_line.specs.declared.arguments.TraceOptions.{TraceOptions}
use Rattle.raw_command_line.specs.declared.arguments.ReadingCommand.TheVariants as reading
use Rattle.raw_command_line.specs.declared.arguments.Command.TheVariants.{Reads}
use Rattle.raw_shell.specs.declared.ending.CommandEnding.{CommandEnding}
use Rattle.raw_owed.specs.Owed.{Owes, IsTracedWith}
use Rattle.raw_owed.specs.Owed.{Accepts}

-- the second bytes are the image, in version 2, of the set whose image the first are: the same bytes, where these begin as
-- those of version 2 do
pub record IsMigrated (bytes again : List ℕ) : Type 0 where
  pub set : ProgramSet
  pub meaning : Image bytes set
  pub written : again ≡ image set
  pub same : take 8 bytes ≡ codes "RAWT" ++ number 2 → again ≡ bytes

-- a text from which `asm` makes these bytes again, in version 2
pub record GivesBack (bytes text : List ℕ) : Type 0 where
  pub taken : Accepts reading.Asm text
  pub migrated : (again : List ℕ) (ending : CommandEnding) → Owes (Reads reading.Asm) text again ending → IsMigrated bytes again

-- bytes that stand for a text: `list` gives the listing of the set that the text means, and each command that takes `--image`
-- owes with it of the bytes what it owes of the text without it, and nothing else; but a trace of the bytes tells nothing of lines
pub record StandsFor (text bytes : List ℕ) : Type 0 where
  pub taken : Accepts reading.List bytes
  pub listed : (again : List ℕ) (ending : CommandEnding) (set : ProgramSet)
      → Owes (Reads reading.List) bytes again ending → Meaning text set → again ≡ listing set
  pub runs : (output : RunOutput) (workers : Option ℕ) (written : List ℕ) (ending : CommandEnding)
      → Owes (Reads (reading.Run (record { output = output; form = set_form.Image; workers = workers }))) bytes written ending
      ↔ Owes (Reads (reading.Run (record { output = output; form = set_form.Text; workers = workers }))) text written ending
  pub cycles : (lost : Bool) (written : List ℕ) (ending : CommandEnding)
      → Owes (Reads (reading.Cycles (record { form = set_form.Image; lost = lost }))) bytes written ending
      ↔ Owes (Reads (reading.Cycles (record { form = set_form.Text; lost = lost }))) text written ending
  pub traces : (options : TraceOptions) (written : List ℕ) (ending : CommandEnding)
      → Owes (Reads (reading.Trace (record options { form = set_form.Image }))) bytes written ending
      ↔ IsTracedWith (λ set. []) (record options { form = set_form.Text }) text written ending
  pub depths : (written : List ℕ) (ending : CommandEnding)
      → Owes (Reads (reading.Depths set_form.Image)) bytes written ending ↔ Owes (Reads (reading.Depths set_form.Text)) text written ending
  pub steady : (written : List ℕ) (ending : CommandEnding)
      → Owes (Reads (reading.Steady set_form.Image)) bytes written ending ↔ Owes (Reads (reading.Steady set_form.Text)) text written ending
  pub names : (written : List ℕ) (ending : CommandEnding)
      → Owes (Reads (reading.Names set_form.Image)) bytes written ending ↔ Owes (Reads (reading.Names set_form.Text)) text written ending

-- what `list` writes of an image gives it back
abbrev pub EachListingGivesBack : Type 0
EachListingGivesBack = (bytes text : List ℕ) (ending : CommandEnding) → Owes (Reads reading.List) bytes text ending → GivesBack bytes text

-- what `asm` writes of a text stands for it
abbrev pub EachImageStandsFor : Type 0
EachImageStandsFor = (text bytes : List ℕ) (ending : CommandEnding) → Owes (Reads reading.Asm) text bytes ending → StandsFor text bytes
