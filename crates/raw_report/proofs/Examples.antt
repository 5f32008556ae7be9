-- Worked lines.
use Rattle.std.proofs.Common.{◌≡◌, [], ◌∷◌, Some, None, refl}
use Rattle.std.specs.Prelude.{codes}
use Rattle.std.specs.Fmt.{digits}
use Rattle.raw_grid.specs.declared.parts.Net.TheVariants.{One}
use Rattle.raw_grid.specs.declared.parts.Side.TheVariants.{N}
use Rattle.raw_grid.specs.declared.parts.PortKind.TheVariants as kind
use Rattle.raw_grid.specs.declared.parts.PortPlace.{PortPlace}
use Rattle.raw_text.specs.Number.{number_of, digits_up_to}
use Rattle.raw_report.specs.Lines.{deadlock_head, source_line}
use Rattle.raw_report.specs.History.{history_text, entry_of, entries_of}

place : PortPlace
place = record { kind = kind.Source; net = One; x = 0; y = 0; side = N }

cycle_of_two : deadlock_head 2 ≡ codes "outcome deadlock 2\n"
unfolding deadlock_head digits
cycle_of_two = refl

spent_source : source_line place (codes "spent") 2 ≡ codes "source 1 0 0 N spent sent 2\n"
unfolding source_line digits place
spent_source = refl

waiting_source : source_line place (codes "waits 4") 0 ≡ codes "source 1 0 0 N waits 4 sent 0\n"
unfolding source_line digits place
waiting_source = refl

-- three steps, and what lines say
three_steps : history_text (0 ∷ 12 ∷ 0 ∷ []) ≡ codes "history\n0\n12\n0\n"
unfolding history_text digits
three_steps = refl

lines_say : entries_of 4 ((codes "3" ∷ []) ∷ [] ∷ (codes "0x1" ∷ []) ∷ []) ≡ Some (3 ∷ 1 ∷ [])
unfolding entry_of number_of digits_up_to
lines_say = refl

no_processor : entry_of 4 (codes "4" ∷ []) ≡ None
unfolding entry_of number_of digits_up_to
no_processor = refl

two_tokens : entry_of 4 (codes "1" ∷ codes "2" ∷ []) ≡ None
unfolding entry_of number_of digits_up_to
two_tokens = refl
