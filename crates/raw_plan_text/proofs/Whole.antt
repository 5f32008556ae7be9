-- What is known where lines have been read: one of them is faulty, or none and these are all.
use Rattle.std.proofs.Common.{◌≡◌, ◌∙◌, ◌<◌, ◌≤◌, ◌+◌, ◌∷◌, ℕ, List, [], Option, Some, None, length, refl, ap, arith}
use Rattle.std.specs.List.{filter_map, cons_option}
use Rattle.std.proofs.lemmas.Bool.{lt-ltb}
use Rattle.raw_answer.specs.Places.{AreFaultless, IsLeast}
use Rattle.raw_answer.proofs.Places.{more_faultless}
use Rattle.raw_set_text.specs.declared.kind.SetKind.TheVariants.{Missing}
use Rattle.raw_set_text.specs.declared.kind.SetRefusal.{SetRefusal}
use Rattle.raw_set_text.specs.declared.kind.SetRefusal.TheVariants.{At, Memory}
use Rattle.raw_plan_text.specs.Plans.{HaulPlan}
use Rattle.raw_plan_text.specs.Forms.{line_entry}
use Rattle.raw_plan_text.specs.Faults.{grid_of}
use Rattle.raw_plan_text.specs.Meaning.{entries_of, end_fault, haul_in, plan_of, place_fault, IsMeaning, IsCause}
use Rattle.raw_plan_text.specs.Answers.{Names, PlanStands}
use Rattle.raw_plan_text.proofs.Steps.{fault_at_end}

shorter : {Y : Type 0} (o : Option Y) (ys : List Y) (n : ℕ) → length ys ≤ n → length (cons_option o ys) ≤ n + 1
shorter None ys n l = omega (arith, l)
shorter (Some y) ys n l = omega (arith, l)

no_longer : {X Y : Type 0} (h : X → Option Y) (xs : List X) → length (filter_map h xs) ≤ length xs
no_longer h [] = omega arith
no_longer h (x ∷ xs) = omega (arith, shorter (h x) (filter_map h xs) (length xs) (no_longer h xs))

module _ (lines : List (List (List ℕ))) where
  pub line_cause : (k : ℕ) (refusal : SetRefusal) → k < length lines → AreFaultless (place_fault lines) k → Names refusal (k + 1) (place_fault lines k) → IsCause lines refusal
  line_cause k (At line kind) l before names = (k, omega (arith, names.0), record { within = omega arith; here = names.1; before = before })
  line_cause k Memory l before names = tt

  pub all_read : (plan : HaulPlan) → AreFaultless (place_fault lines) (length lines) → PlanStands (Some plan) (entries_of lines) → IsMeaning lines plan
  unfolding end_fault
  all_read plan faultless stands =
      let ended : end_fault lines ≡ None = rw (lt-ltb 0 (length (entries_of lines)) stands.0) refl in
      record { faultless = more_faultless (place_fault lines) (length lines) faultless (fault_at_end lines (length lines) (omega arith) ∙ ended); is = stands.1 }

  pub none_read : AreFaultless (place_fault lines) (length lines) → entries_of lines ≡ [] → IsLeast (place_fault lines) (length lines) (length lines) Missing
  unfolding end_fault
  none_read faultless none =
      let ended : end_fault lines ≡ Some Missing = rw none refl in
      record { within = omega arith; here = fault_at_end lines (length lines) (omega arith) ∙ ended; before = faultless }

  -- there are no more hauls than lines
  pub few_hauls : (plan : HaulPlan) → IsMeaning lines plan → length plan.hauls ≤ length lines
  unfolding plan_of
  few_hauls plan is =
      let hauls : plan.hauls ≡ filter_map (haul_in (grid_of (entries_of lines))) (entries_of lines) = ap (λ p. p.hauls) is.is in
      omega (arith, ap length hauls, no_longer (haul_in (grid_of (entries_of lines))) (entries_of lines), no_longer line_entry lines)
