-- Lines one after the other, outside sections and in them.
use Rattle.std.proofs.Common.{◌≡◌, ℕ, zero, suc, ◌+◌, ◌-◌, ◌<◌, ◌≤◌, true, false, List, [], ◌∷◌, ◌++◌, length, get_or, drop, Some, None, refl, sym, subst, ⊎_elim, arith, append-nil}
use Rattle.std.specs.List.{AllByRecursion}
use Rattle.std.proofs.lemmas.Bool.{cases_lt}
use Rattle.raw_set_text.specs.Entry.{Entry}
use Rattle.raw_set_text.specs.Forms.{line_entry}
use Rattle.raw_set_text.specs.Faults.{entry_fault, line_fault}
use Rattle.raw_set_text.specs.Sections.{is_section, is_end, head_of, head_entry, section_of, section_entry, section_fault, entries_before, fault_at}
use Rattle.raw_set_text.specs.Meaning.{AreFaultless}

-- the line at a place
pub at_drop : {X : Type 0} (xs : List X) (k : ℕ) (x d : X) (rest : List X) → drop k xs ≡ x ∷ rest → (k < length xs) × (get_or xs k d ≡ x) × (drop (suc k) xs ≡ rest)
at_drop [] zero x d rest e = absurd (cc)
at_drop [] (suc k) x d rest e = absurd (cc)
at_drop (y ∷ xs) zero x d rest e = (omega arith, cc, cc)
at_drop (y ∷ xs) (suc k) x d rest e = let more = at_drop xs k x d rest e in (omega (arith, more.0), more.1, more.2)

-- one line more without a fault
one_more : (lines : List (List (List ℕ))) (k : ℕ) → AreFaultless lines k → fault_at lines k ≡ None → AreFaultless lines (suc k)
one_more lines k before here j lt =
    ⊎_elim (λ (less : j < k). before j less) (λ (more : k ≤ j). let same : j ≡ k = omega arith in subst (λ i. fault_at lines i ≡ None) (sym same) here) (cases_lt j k)

-- what stands before these lines: entries, no fault, and no section that is open
pub record ListingStands (lines rest : List (List (List ℕ))) (entries : List Entry) : Type 0 where
  pub k : ℕ
  pub within : k ≤ length lines
  pub behind : drop k lines ≡ rest
  pub outside : head_of lines k ≡ None
  pub so_far : entries_before lines k ≡ entries
  pub faultless : AreFaultless lines k

-- a section is open, with its head at this place
pub record Inside (lines : List (List (List ℕ))) (head : ℕ) (rest : List (List (List ℕ))) (entries : List Entry) (k : ℕ) : Type 0 where
  pub within : k ≤ length lines
  pub behind : drop k lines ≡ rest
  pub inside : head_of lines k ≡ Some head
  pub so_far : entries_before lines k ≡ entries
  pub faultless : AreFaultless lines k

-- one line outside sections
pub one_line : (lines rest : List (List (List ℕ))) (line : List (List ℕ)) (entries : List Entry) (entry : Entry) → ListingStands lines (line ∷ rest) entries
    → line_entry line ≡ Some entry → is_section (Some entry) ≡ false → line_fault entries line ≡ None → ListingStands lines rest (entries ++ entry ∷ [])
unfolding fault_at
one_line lines rest line entries entry s reads plain fine =
    let at = at_drop lines s.k line [] rest s.behind in
    record {
      k = suc s.k;
      within = omega (arith, at.0);
      behind = at.2;
      outside = rw (s.outside, at.1, reads, plain) refl;
      so_far = rw (s.outside, s.so_far, at.1, reads, plain) refl;
      faultless = one_more lines s.k s.faultless (rw (s.outside, s.so_far, at.1) fine);
    }

-- the head of a section
pub head_line : (lines rest : List (List (List ℕ))) (line : List (List ℕ)) (entries : List Entry) (entry : Entry) → (s : ListingStands lines (line ∷ rest) entries)
    → line_entry line ≡ Some entry → is_section (Some entry) ≡ true → line_fault entries line ≡ None → Inside lines s.k rest entries (suc s.k)
unfolding fault_at
head_line lines rest line entries entry s reads section fine =
    let at = at_drop lines s.k line [] rest s.behind in
    record {
      within = omega (arith, at.0);
      behind = at.2;
      inside = rw (s.outside, at.1, reads, section) refl;
      so_far = rw (s.outside, s.so_far, at.1, reads, section) (append-nil entries);
      faultless = one_more lines s.k s.faultless (rw (s.outside, s.so_far, at.1) fine);
    }

-- one line of a section
pub inner_line : (lines rest : List (List (List ℕ))) (line : List (List ℕ)) (entries : List Entry) (head k : ℕ) → Inside lines head (line ∷ rest) entries k
    → is_end line ≡ false → section_fault entries (section_of lines head) (k - (head + 1)) (head_entry lines head) ≡ None → Inside lines head rest entries (suc k)
unfolding fault_at
inner_line lines rest line entries head k s goes_on fine =
    let at = at_drop lines k line [] rest s.behind in
    record {
      within = omega (arith, at.0);
      behind = at.2;
      inside = rw (s.inside, at.1, goes_on) refl;
      so_far = rw (s.inside, s.so_far, at.1, goes_on) (append-nil entries);
      faultless = one_more lines k s.faultless (rw (s.inside, s.so_far, at.1, goes_on) fine);
    }

-- all lines of a section
pub inner_lines : (lines code : List (List (List ℕ))) (rest : List (List (List ℕ))) (entries : List Entry) (head k j : ℕ) → Inside lines head (code ++ rest) entries k → k ≡ head + 1 + j
    → AllByRecursion (λ line. is_end line ≡ false) code → ((i : ℕ) → i < j + length code → section_fault entries (section_of lines head) i (head_entry lines head) ≡ None)
    → Inside lines head rest entries (k + length code)
inner_lines lines [] rest entries head k j s at goes_on fine = let e : k ≡ k + 0 = omega arith in subst (λ n. Inside lines head rest entries n) e s
inner_lines lines (line ∷ code) rest entries head k j s at goes_on fine =
    let here : k - (head + 1) ≡ j = omega arith in
    let next = inner_line lines (code ++ rest) line entries head k s goes_on.0 (rw here (fine j (omega arith))) in
    let e : suc k + length code ≡ k + suc (length code) = omega arith in
    subst (λ n. Inside lines head rest entries n) e
    (inner_lines lines code rest entries head (suc k) (suc j) next (omega arith) goes_on.1 (λ i lt. fine i (omega arith)))

-- the end of a section
pub end_line : (lines rest : List (List (List ℕ))) (line : List (List ℕ)) (entries : List Entry) (entry : Entry) (head k : ℕ) → Inside lines head (line ∷ rest) entries k → is_end line ≡ true
    → section_entry entries (section_of lines head) (head_entry lines head) ≡ Some entry → entry_fault entries entry ≡ None → ListingStands lines rest (entries ++ entry ∷ [])
unfolding fault_at
end_line lines rest line entries entry head k s ends gives fine =
    let at = at_drop lines k line [] rest s.behind in
    record {
      k = suc k;
      within = omega (arith, at.0);
      behind = at.2;
      outside = rw (s.inside, at.1, ends) refl;
      so_far = rw (s.inside, s.so_far, at.1, ends, gives) refl;
      faultless = one_more lines k s.faultless (rw (s.inside, s.so_far, at.1, ends, gives) fine);
    }
