-- Which labels stand at an instruction.
use Rattle.std.proofs.Common.{◌≡◌, ℕ, zero, suc, ◌+◌, ◌-◌, ◌<◌, ◌≤◌, ◌==◌, true, false, List, [], ◌++◌, length, refl, sym, ap, subst, ◌∙◌, arith, ⊎_elim, append-nil}
use Rattle.std.specs.Prelude.{if◌then◌else◌}
use Rattle.std.specs.List.{flat_map, range_with_len}
use Rattle.std.proofs.lemmas.Bool.{cases_lt}
use Rattle.std.proofs.lemmas.Bool.Decides.{nat_tests}
use Rattle.std.proofs.lemmas.List.Sums.{sum_by_more}
use Rattle.raw_lines.specs.declared.kind.ProgramKind.{ProgramKind}
use Rattle.raw_lines.specs.Places.{size_in, place_in, size_at}
use Rattle.raw_lines.specs.Lines.{label_at_place, labels_at, told, instruction_text, line_text, last_text, section_text}
use Rattle.raw_lines.specs.Reading.{label_text_at, labels_between, StandHere}
use Rattle.raw_lines.proofs.Ranges.{between}

same : (a b : ℕ) → a ≡ b → (a == b) ≡ true
same a b e = grind (arith, nat_tests)

less : (a b : ℕ) → a < b → (a == b) ≡ false
less a b lt = grind (arith, nat_tests)

more : (a b : ℕ) → b < a → (a == b) ≡ false
more a b lt = grind (arith, nat_tests)

module _ (kind : ProgramKind) (lines : List (List (List ℕ))) where
  pub place_next : (k : ℕ) → k < length lines → place_in kind lines (k + 1) ≡ place_in kind lines k + size_at kind lines k
  place_next k lt = sum_by_more (size_in kind) lines k [] lt

  rises : (j n : ℕ) → j + n ≤ length lines → place_in kind lines j ≤ place_in kind lines (j + n)
  rises j zero within =
      let at : j ≡ j + zero = omega arith in
      subst (λ i. place_in kind lines j ≤ place_in kind lines i) at (omega arith)
  rises j (suc n) within =
      let before = rises j n (omega arith) in
      let next = place_next (j + n) (omega arith) in
      let at : j + n + 1 ≡ j + suc n = omega arith in
      subst (λ i. place_in kind lines j ≤ place_in kind lines i) at (omega (arith, before, next))

  -- a later line stands at no earlier place
  pub not_before : (j k : ℕ) → j ≤ k → k ≤ length lines → place_in kind lines j ≤ place_in kind lines k
  not_before j k le within =
      let there : j + (k - j) ≡ k = omega arith in
      subst (λ i. place_in kind lines j ≤ place_in kind lines i) there (rises j (k - j) (omega arith))

  at_place : (i k : ℕ) → place_in kind lines k ≡ i → label_at_place kind lines i k ≡ label_text_at lines k
  at_place i k e = rw (same (place_in kind lines k) i e) refl

  below : (i k : ℕ) → place_in kind lines k < i → label_at_place kind lines i k ≡ []
  below i k lt = rw (less (place_in kind lines k) i lt) refl

  above : (i k : ℕ) → i < place_in kind lines k → label_at_place kind lines i k ≡ []
  above i k lt = rw (more (place_in kind lines k) i lt) refl

  labels_here : (i since to : ℕ) → since ≤ to → to ≤ length lines → ((j : ℕ) → j < since → place_in kind lines j < i) → ((j : ℕ) → since ≤ j → j < to → place_in kind lines j ≡ i)
      → ((j : ℕ) → to ≤ j → j < length lines → i < place_in kind lines j) → labels_at kind lines i ≡ labels_between lines since to
  labels_here i since to order within before here behind =
      between (label_at_place kind lines i) (label_text_at lines) since to (length lines) order within
      (λ k lt. below i k (before k lt)) (λ k low lt. at_place i k (here k low lt)) (λ k low lt. above i k (behind k low lt))

  -- at the first instruction of line k
  labels_first : (since k : ℕ) → k < length lines → StandHere kind lines since k → 0 < size_at kind lines k → labels_at kind lines (place_in kind lines k) ≡ labels_between lines since (k + 1)
  labels_first since k lt stand some =
      let next = place_next k lt in
      labels_here (place_in kind lines k) since (k + 1) (omega (arith, stand.order)) (omega arith) stand.before
      (λ j low high. let a = not_before since j low (omega arith) in let b = not_before j k (omega arith) (omega arith) in omega (arith, a, b, stand.here))
      (λ j low high. let a = not_before (k + 1) j low (omega arith) in omega (arith, a, next, some))

  -- at the second one
  labels_second : (k : ℕ) → k < length lines → size_at kind lines k ≡ 2 → labels_at kind lines (place_in kind lines k + 1) ≡ labels_between lines (k + 1) (k + 1)
  labels_second k lt two =
      let next = place_next k lt in
      labels_here (place_in kind lines k + 1) (k + 1) (k + 1) (omega arith) (omega arith)
      (λ j low. let a = not_before j k (omega arith) (omega arith) in omega (arith, a))
      (λ j low high. absurd (omega arith))
      (λ j low high. let a = not_before (k + 1) j low (omega arith) in omega (arith, a, next, two))

  -- behind the last one
  labels_last : (since : ℕ) → StandHere kind lines since (length lines) → labels_at kind lines (place_in kind lines (length lines)) ≡ labels_between lines since (length lines)
  labels_last since stand =
      let n = length lines in
      labels_here (place_in kind lines n) since n stand.order (omega arith) stand.before
      (λ j low high. let a = not_before since j low (omega arith) in let b = not_before j n (omega arith) (omega arith) in omega (arith, a, b, stand.here))
      (λ j low high. absurd (omega arith))

  -- one line on
  pub stand_next : (since k next : ℕ) → k < length lines → StandHere kind lines since k → next ≡ (if size_at kind lines k == 0 then since else k + 1) → StandHere kind lines next (k + 1)
  stand_next since k next lt stand is =
      let on = place_next k lt in
      ⊎_elim {C = StandHere kind lines next (k + 1)}
      (λ (some : 0 < size_at kind lines k).
      let here : next ≡ k + 1 = is ∙ rw (more (size_at kind lines k) 0 some) refl in
      subst (λ n. StandHere kind lines n (k + 1)) (sym here)
      (record { order = omega arith; here = refl; before = λ j low. let a = not_before j k (omega arith) (omega arith) in omega (arith, a, on, some) }))
      (λ (none : size_at kind lines k ≤ 0).
      let nothing : size_at kind lines k ≡ 0 = omega arith in
      let there : next ≡ since = is ∙ rw (same (size_at kind lines k) 0 nothing) refl in
      subst (λ n. StandHere kind lines n (k + 1)) (sym there)
      (record { order = omega (arith, stand.order); here = omega (arith, stand.here, on, nothing); before = λ j low. let a = stand.before j low in omega (arith, a, on, nothing) }))
      (cases_lt 0 (size_at kind lines k))

  module _ (name : List ℕ) (from : ℕ) where
    -- a line without instructions
    pub none_told : (k : ℕ) → size_at kind lines k ≡ 0 → line_text kind name from lines k ≡ []
    none_told k e = ap (λ n. flat_map (instruction_text kind name from lines k) (range_with_len 0 n)) e

    first_is : (since k : ℕ) → k < length lines → StandHere kind lines since k → 0 < size_at kind lines k
        → told name from k (place_in kind lines k) (labels_between lines since (k + 1)) ≡ instruction_text kind name from lines k 0
    first_is since k lt stand some =
        let at : place_in kind lines k ≡ place_in kind lines k + 0 = omega arith in
        ap (told name from k (place_in kind lines k)) (sym (labels_first since k lt stand some)) ∙ ap (λ i. told name from k i (labels_at kind lines i)) at

    -- a line with one
    pub one_told : (since k : ℕ) → k < length lines → StandHere kind lines since k → size_at kind lines k ≡ 1
        → told name from k (place_in kind lines k) (labels_between lines since (k + 1)) ≡ line_text kind name from lines k
    one_told since k lt stand e =
        first_is since k lt stand (omega arith) ∙ sym (append-nil (instruction_text kind name from lines k 0))
        ∙ sym (ap (λ n. flat_map (instruction_text kind name from lines k) (range_with_len 0 n)) e)

    -- a line with two
    pub two_told : (since k : ℕ) → k < length lines → StandHere kind lines since k → size_at kind lines k ≡ 2
        → told name from k (place_in kind lines k) (labels_between lines since (k + 1)) ++ told name from k (place_in kind lines k + 1) (labels_between lines (k + 1) (k + 1))
        ≡ line_text kind name from lines k
    two_told since k lt stand e =
        let second = told name from k (place_in kind lines k + 1) (labels_between lines (k + 1) (k + 1)) in
        let one = instruction_text kind name from lines k 0 in
        let two = instruction_text kind name from lines k 1 in
        ap (λ t. t ++ second) (first_is since k lt stand (omega arith))
        ∙ ap (λ labels. one ++ told name from k (place_in kind lines k + 1) labels) (sym (labels_second k lt e))
        ∙ ap (λ t. one ++ t) (sym (append-nil two))
        ∙ sym (ap (λ n. flat_map (instruction_text kind name from lines k) (range_with_len 0 n)) e)

    -- all lines
    pub section_told : (since : ℕ) → StandHere kind lines since (length lines)
        → flat_map (line_text kind name from lines) (range_with_len 0 (length lines)) ++ last_text name (place_in kind lines (length lines)) (labels_between lines since (length lines))
        ≡ section_text kind name from lines
    section_told since stand =
        ap (λ labels. flat_map (line_text kind name from lines) (range_with_len 0 (length lines)) ++ last_text name (place_in kind lines (length lines)) labels)
        (sym (labels_last since stand))
