-- What the outcome's line says of a processor.
use Rattle.std.specs.Prelude.{ℕ, Option, Some, None, List, []}
use Rattle.raw_model.specs.declared.marks.Mark.{Mark}
use Rattle.raw_model.specs.declared.marks.Mark.TheVariants as mark
use Rattle.raw_model.specs.Local.{Local, Tile, Switch}
use Rattle.raw_model.specs.Texts.{cause_text}
use Rattle.raw_processor.specs.Processor.{local_mark}

-- why a processor is trapped, if it is
abbrev pub trap_text : Mark → List ℕ
trap_text (mark.Trapped cause) = cause_text cause
trap_text _ = []

-- why the processor with this local state is trapped
abbrev pub trap_at : Option Local → List ℕ
trap_at (Some (Tile l)) = trap_text l.mark
trap_at (Some (Switch l)) = trap_text l.mark
trap_at _ = []

-- the mark of the processor with this local state
abbrev pub mark_at : Option Local → Mark
mark_at None = mark.Going
mark_at (Some l) = local_mark l
