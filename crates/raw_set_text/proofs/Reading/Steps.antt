-- How lines are passed one after another: a line without tokens, a line outside sections, a section as a whole.
use Rattle.std.proofs.Common.{◌≡◌, ℕ, zero, suc, ◌+◌, ◌-◌, ◌<◌, ◌≤◌, true, false, List, [], ◌∷◌, ◌++◌, length, get_or, drop, Some, None, refl, sym, ap, subst, ◌∙◌, arith, ⊎_elim, append-nil, add-one, add-zero, not, length-drop, get_or-drop, length-take-le}
use Rattle.std.specs.List.{position_or_len}
use Rattle.std.proofs.lemmas.Bool.{cases_lt, lt-ltb, le-ltb}
use Rattle.std.proofs.lemmas.List.Sums.{fails_before_first, passes_at_first, prefix_len-le-length}
use Rattle.raw_answer.specs.Places.{IsLeast}
use Rattle.raw_set_text.specs.declared.kind.SetKind.{SetKind}
use Rattle.raw_set_text.specs.declared.kind.SetKind.TheVariants.{Missing}
use Rattle.raw_set_text.specs.Entry.{Entry}
use Rattle.raw_set_text.specs.Forms.{line_entry, word_named}
use Rattle.raw_set_text.specs.Faults.{line_fault, entry_fault}
use Rattle.raw_set_text.specs.Sections.{is_section, is_end, head_of, head_behind, section_of, section_entry, section_fault, declared_at, entries_before, fault_at, end_fault}
use Rattle.raw_set_text.specs.Meaning.{AreFaultless, place_fault}
use Rattle.raw_set_text.specs.Reading.{IsRead}

pub no_length : {A : Type 0} (xs : List A) → length xs ≡ 0 → xs ≡ []
no_length [] none = refl
no_length (x ∷ xs) none = absurd (omega (arith, none))

nothing : line_entry [] ≡ None
unfolding line_entry word_named
nothing = refl

module _ (lines : List (List (List ℕ))) where
  pub faultless_next : (k : ℕ) → AreFaultless lines k → fault_at lines k ≡ None → AreFaultless lines (k + 1)
  faultless_next k before here j below =
      ⊎_elim (λ (less : j < k). before j less) (λ (more : k ≤ j). let same : j ≡ k = omega arith in subst (λ i. fault_at lines i ≡ None) (sym same) here) (cases_lt j k)

  pub entries_next : (k : ℕ) → entries_before lines (k + 1) ≡ entries_before lines k ++ declared_at lines k (entries_before lines k) (head_of lines k)
  entries_next k = ap (entries_before lines) (add-one k)

  pub head_next : (k : ℕ) → head_of lines (k + 1) ≡ head_behind k (get_or lines k []) (head_of lines k)
  head_next k = ap (head_of lines) (add-one k)

  -- the fault of a line outside sections
  pub fault_outside : (k : ℕ) (entries : List Entry) → head_of lines k ≡ None → entries_before lines k ≡ entries → fault_at lines k ≡ line_fault entries (get_or lines k [])
  unfolding fault_at
  fault_outside k entries out e = rw (out, e) refl

  -- a line without tokens is passed over
  pub blank_next : (k : ℕ) (entries : List Entry) → IsRead lines k entries → k < length lines → length (get_or lines k []) ≡ 0 → IsRead lines (k + 1) entries
  unfolding line_fault
  blank_next k entries r lt none =
      let empty : get_or lines k [] ≡ [] = no_length (get_or lines k []) none in
      record {
        within = omega arith;
        outside = head_next k ∙ rw (r.outside, empty, nothing) refl;
        entries_are = entries_next k ∙ rw (r.outside, empty, nothing) (append-nil (entries_before lines k) ∙ r.entries_are);
        faultless = faultless_next k r.faultless (fault_outside k entries r.outside r.entries_are ∙ rw empty refl);
      }

  pub blanks : (k : ℕ) (entries : List Entry) (n : ℕ) → IsRead lines k entries → k + n ≤ length lines → ((j : ℕ) → k ≤ j → j < k + n → length (get_or lines j []) ≡ 0)
      → IsRead lines (k + n) entries
  blanks k entries zero r within blank = subst (λ i. IsRead lines i entries) (omega arith) r
  blanks k entries (suc n) r within blank =
      let last = blanks k entries n r (omega arith) (λ j low high. blank j low (omega arith)) in
      subst (λ i. IsRead lines i entries) (omega arith) (blank_next (k + n) entries last (omega arith) (blank (k + n) (omega arith) (omega arith)))

  -- a line outside sections that declares an entry without a fault
  pub entry_next : (k : ℕ) (entries : List Entry) (entry : Entry) → IsRead lines k entries → k < length lines → line_entry (get_or lines k []) ≡ Some entry
      → is_section (Some entry) ≡ false → line_fault entries (get_or lines k []) ≡ None → IsRead lines (k + 1) (entries ++ entry ∷ [])
  entry_next k entries entry r lt is plain fine = record {
    within = omega arith;
    outside = head_next k ∙ rw (r.outside, is, plain) refl;
    entries_are = entries_next k ∙ rw (r.outside, is, plain, r.entries_are) refl;
    faultless = faultless_next k r.faultless (fault_outside k entries r.outside r.entries_are ∙ fine);
  }

  -- a line with a fault behind lines without one
  places_before : (k : ℕ) → k ≤ length lines → AreFaultless lines k → (j : ℕ) → j < k → place_fault lines j ≡ None
  places_before k l before j below = rw (lt-ltb j (length lines) (omega (arith, below, l))) (before j below)

  pub least_here : (k : ℕ) (kind : SetKind) → AreFaultless lines k → k < length lines → fault_at lines k ≡ Some kind → IsLeast (place_fault lines) (length lines) k kind
  least_here k kind before lt here = record { within = omega arith; here = rw (lt-ltb k (length lines) lt) here; before = places_before k (omega (arith, lt)) before }

  pub least_behind : (kind : SetKind) → AreFaultless lines (length lines) → end_fault lines ≡ Some kind → IsLeast (place_fault lines) (length lines) (length lines) kind
  least_behind kind before here = record { within = omega arith; here = rw (le-ltb (length lines) (length lines) (omega arith)) here; before = places_before (length lines) (omega arith) before }

  -- a section
  module _ (head : ℕ) (entries : List Entry) (entry : Entry) (r : IsRead lines head entries) (lt : head < length lines) (is : line_entry (get_or lines head []) ≡ Some entry)
      (sec : is_section (Some entry) ≡ true) where
    count_is : length (section_of lines head) ≡ position_or_len is_end (drop (head + 1) lines)
    count_is = length-take-le (position_or_len is_end (drop (head + 1) lines)) (drop (head + 1) lines) (prefix_len-le-length (λ line. not (is_end line)) (drop (head + 1) lines))

    count_few : length (section_of lines head) ≤ length (drop (head + 1) lines)
    count_few = let e = count_is in let le = prefix_len-le-length (λ line. not (is_end line)) (drop (head + 1) lines) in omega (arith, e, le)

    pub section_within : head + 1 + length (section_of lines head) ≤ length lines
    section_within = let e = length-drop (head + 1) lines in let le = count_few in omega (arith, e, le)

    rest_at : (j : ℕ) → get_or (drop (head + 1) lines) j [] ≡ get_or lines (head + 1 + j) []
    rest_at j = get_or-drop (head + 1) lines j []

    -- no line of it ends it, and the one behind it does
    not_end : (j : ℕ) → j < length (section_of lines head) → is_end (get_or lines (head + 1 + j) []) ≡ false
    not_end j below = ap is_end (sym (rest_at j)) ∙ fails_before_first is_end (drop (head + 1) lines) j [] (let e = count_is in omega (arith, e, below))

    ends : head + 1 + length (section_of lines head) < length lines → is_end (get_or lines (head + 1 + length (section_of lines head)) []) ≡ true
    ends more =
        let e = count_is in
        let d = length-drop (head + 1) lines in
        ap is_end (sym (rest_at (length (section_of lines head)))) ∙ ap (λ n. is_end (get_or (drop (head + 1) lines) n [])) e
        ∙ passes_at_first is_end (drop (head + 1) lines) [] (omega (arith, e, d, more))

    pub inside : (j : ℕ) → j ≤ length (section_of lines head) → (head_of lines (head + 1 + j) ≡ Some head) × (entries_before lines (head + 1 + j) ≡ entries)
    inside zero le =
        subst (λ k. (head_of lines k ≡ Some head) × (entries_before lines k ≡ entries)) (sym (add-zero (head + 1)))
        (head_next head ∙ rw (r.outside, is, sec) refl, entries_next head ∙ rw (r.outside, is, sec) (append-nil (entries_before lines head) ∙ r.entries_are))
    inside (suc j) le =
        let before = inside j (omega (arith, le)) in
        let more = not_end j (omega (arith, le)) in
        let next : head + 1 + j + 1 ≡ head + 1 + suc j = omega arith in
        subst (λ k. (head_of lines k ≡ Some head) × (entries_before lines k ≡ entries)) next
        (head_next (head + 1 + j) ∙ rw (before.0, more) refl, entries_next (head + 1 + j) ∙ rw (before.0, more) (append-nil (entries_before lines (head + 1 + j)) ∙ before.1))

    -- its lines have the faults that the assembler finds in them
    pub fault_inside : (j : ℕ) → j < length (section_of lines head) → fault_at lines (head + 1 + j) ≡ section_fault entries (section_of lines head) j (Some entry)
    unfolding fault_at
    fault_inside j below =
        let here = inside j (omega (arith, below)) in
        let more = not_end j below in
        let place : head + 1 + j - (head + 1) ≡ j = omega arith in
        rw (here.0, here.1, more, place, is) refl

    module _ (fine : line_fault entries (get_or lines head []) ≡ None) where
      pub faultless_inside : (n : ℕ) → n ≤ length (section_of lines head) → ((j : ℕ) → j < n → section_fault entries (section_of lines head) j (Some entry) ≡ None) → AreFaultless lines (head + 1 + n)
      faultless_inside zero le each = subst (AreFaultless lines) (sym (add-zero (head + 1))) (faultless_next head r.faultless (fault_outside head entries r.outside r.entries_are ∙ fine))
      faultless_inside (suc n) le each =
          let before = faultless_inside n (omega (arith, le)) (λ j below. each j (omega (arith, below))) in
          let next : head + 1 + n + 1 ≡ head + 1 + suc n = omega arith in
          subst (AreFaultless lines) next (faultless_next (head + 1 + n) before (fault_inside n (omega (arith, le)) ∙ each n (omega arith)))

      pub least_inside : (j : ℕ) (kind : SetKind) → j < length (section_of lines head) → ((i : ℕ) → i < j → section_fault entries (section_of lines head) i (Some entry) ≡ None)
          → section_fault entries (section_of lines head) j (Some entry) ≡ Some kind → IsLeast (place_fault lines) (length lines) (head + 1 + j) kind
      least_inside j kind below before here =
          least_here (head + 1 + j) kind (faultless_inside j (omega (arith, below)) before) (let le = section_within in omega (arith, le, below)) (fault_inside j below ∙ here)

      -- its end declares it, where none of its lines has a fault
      module _ (each : (j : ℕ) → j < length (section_of lines head) → section_fault entries (section_of lines head) j (Some entry) ≡ None) (whole : Entry)
          (is_whole : section_entry entries (section_of lines head) (Some entry) ≡ Some whole) where
        fault_ending : head + 1 + length (section_of lines head) < length lines → fault_at lines (head + 1 + length (section_of lines head)) ≡ entry_fault entries whole
        unfolding fault_at
        fault_ending more =
            let here = inside (length (section_of lines head)) (omega arith) in
            let last = ends more in
            rw (here.0, here.1, last, is, is_whole) refl

        pub section_next : head + 1 + length (section_of lines head) < length lines → entry_fault entries whole ≡ None → IsRead lines (head + 1 + length (section_of lines head) + 1) (entries ++ whole ∷ [])
        section_next more none =
            let here = inside (length (section_of lines head)) (omega arith) in
            let last = ends more in
            let k = head + 1 + length (section_of lines head) in
            record {
              within = omega (arith, more);
              outside = head_next k ∙ rw (here.0, last) refl;
              entries_are = entries_next k ∙ rw (here.0, here.1, last, is, is_whole) refl;
              faultless = faultless_next k (faultless_inside (length (section_of lines head)) (omega arith) each) (fault_ending more ∙ none);
            }

        pub section_least : (kind : SetKind) → head + 1 + length (section_of lines head) < length lines → entry_fault entries whole ≡ Some kind
            → IsLeast (place_fault lines) (length lines) (head + 1 + length (section_of lines head)) kind
        section_least kind more some =
            least_here (head + 1 + length (section_of lines head)) kind (faultless_inside (length (section_of lines head)) (omega arith) each) more (fault_ending more ∙ some)

        -- without an end something is missing behind the last line
        pub open_least : length lines ≤ head + 1 + length (section_of lines head) → IsLeast (place_fault lines) (length lines) (length lines) Missing
        unfolding end_fault
        open_least le =
            let within = section_within in
            let same : head + 1 + length (section_of lines head) ≡ length lines = omega (arith, le, within) in
            let here = inside (length (section_of lines head)) (omega arith) in
            let open_there : head_of lines (length lines) ≡ Some head = ap (head_of lines) (sym same) ∙ here.0 in
            least_behind Missing (subst (AreFaultless lines) same (faultless_inside (length (section_of lines head)) (omega arith) each)) (rw open_there refl)
