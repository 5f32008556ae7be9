-- Lines of a set have exactly one meaning or exactly one least fault.
use Rattle.std.proofs.Common.{◌≡◌, ◌∙◌, ℕ, ◌+◌, ◌<◌, ◌≤◌, List, length, None, refl, sym, arith, ⊎_elim}
use Rattle.std.proofs.lemmas.Bool.{cases_lt, lt-ltb, le-ltb}
use Rattle.raw_answer.specs.Places.{AreFaultless, IsMeant}
use Rattle.raw_answer.proofs.Places as places
use Rattle.raw_answer.proofs.Made.{seen_answer}
use Rattle.raw_tile_asm.specs.Lawful.{EachFrontIsLawful as TileLaw}
use Rattle.raw_switch_asm.specs.Lawful.{EachFrontIsLawful as SwitchLaw}
use Rattle.raw_model.specs.Program.{ProgramSet, IsSet}
use Rattle.raw_set_text.specs.Entries.{set_of}
use Rattle.raw_set_text.specs.Sections.{entries_before, fault_at, end_fault}
use Rattle.raw_set_text.specs.Meaning.{IsMeaning, place_fault, IsOneSet}
use Rattle.raw_set_text.proofs.Lawful.Lines.{lawful_set}

module _ (tiles : TileLaw) (switches : SwitchLaw) (lines : List (List (List ℕ))) where
  at_line : (k : ℕ) → k < length lines → place_fault lines k ≡ fault_at lines k
  at_line k l = rw (lt-ltb k (length lines) l) refl

  at_end : (k : ℕ) → length lines ≤ k → place_fault lines k ≡ end_fault lines
  at_end k l = rw (le-ltb k (length lines) l) refl

  -- what is so of all places is so of the lines and of the end, and the other way round
  each_line : AreFaultless (place_fault lines) (length lines + 1) → (k : ℕ) → k < length lines → fault_at lines k ≡ None
  each_line faultless k l = sym (at_line k l) ∙ faultless k (omega (arith, l))

  ended : AreFaultless (place_fault lines) (length lines + 1) → end_fault lines ≡ None
  ended faultless = sym (at_end (length lines) (omega arith)) ∙ faultless (length lines) (omega arith)

  meant : (set : ProgramSet) → IsMeaning lines set → IsMeant (place_fault lines) (length lines) (set_of (entries_before lines (length lines))) set
  meant set is = record {
    faultless = λ k below.
        ⊎_elim (λ (l : k < length lines). at_line k l ∙ is.faultless k l) (λ (l : length lines ≤ k). at_end k l ∙ is.ended) (cases_lt k (length lines));
    is = is.set_is;
  }

  pub one_answer : IsOneSet lines
  one_answer =
      seen_answer
      (places.one_answer (place_fault lines) (length lines) 0 (set_of (entries_before lines (length lines))) IsSet
      (λ faultless. lawful_set tiles switches lines (each_line faultless) (ended faultless)))
      (λ set. set) (IsMeaning lines) IsSet (λ set m. record { faultless = each_line m.faultless; ended = ended m.faultless; set_is = m.is })
      (λ set is. (set, meant set is, refl)) (λ set valid. valid)
