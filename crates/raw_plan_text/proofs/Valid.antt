-- The plan that lines without a fault declare is as a planner asks.
use Rattle.std.proofs.Common.{◌≡◌, ◌⊎◌, ◌∙◌, ◌<◌, ◌≤◌, ◌+◌, ◌^◌, ◌++◌, ◌∷◌, ℕ, zero, suc, Bool, true, false, not, cond, ltb, leb, List, [], Option, Some, None, length, length-append, length-drop, get_or, take, drop, refl, sym, ap, subst, arith, inl, inr, ⊎_elim}
use Rattle.std.proofs.Math.Seq.{take-length}
use Rattle.std.specs.List.{All, list_all, filter_map, cons_option}
use Rattle.std.proofs.lemmas.Bool.{and_parts, ltb-true, leb-true, lt-ltb, cases_lt, not-false}
use Rattle.std.proofs.lemmas.List.{append-nil}
use Rattle.std.proofs.lemmas.List.Elements.{All-nil, All-cons, All-append, All-from_recursion, filter_map-append}
use Rattle.std.proofs.lemmas.Option.{none-some, same_Some}
use Rattle.raw_text.specs.Number.{number_of}
use Rattle.raw_answer.specs.Places.{AreFaultless}
use Rattle.raw_grid.specs.declared.limits.TheConstants.{MAX_SIZE}
use Rattle.raw_grid.specs.Topology.{Topology, without_ports, IsSize, tile_count}
use Rattle.raw_grid.specs.Names.{net_named}
use Rattle.raw_set_text.specs.declared.kind.SetKind.TheVariants.{Missing, BadLine, BadSize, OffGrid, Repeated}
use Rattle.raw_set_text.specs.Faults.{is_within, are_some, fault_if}
use Rattle.raw_set_text.proofs.Lawful.Lists.{if_inv}
use Rattle.raw_set_text.proofs.Lawful.Forms.{bind_inv}
use Rattle.raw_set_text.proofs.Lawful.Entries.{none_if}
use Rattle.raw_text.proofs.NumberBounds.{number_small}
use Rattle.raw_route.specs.Planned.{IsSending}
use Rattle.raw_route.specs.Refusals.{has_twice, first_fault}
use Rattle.raw_route.proofs.Faultless.{all_sendings}
use Rattle.raw_plan_text.specs.Plans.{IsPlan}
use Rattle.raw_plan_text.specs.Forms.{Sent, Entry, tile_of, tiles_of, grid_entry, send_entry, is_grid, is_send, line_entry}
use Rattle.raw_plan_text.specs.Forms.Entry.{Grid, Send}
use Rattle.raw_plan_text.specs.Faults.{grid_of, is_inside, targets_in, is_size, is_off_grid, is_repeated, form_fault, entry_fault, line_fault}
use Rattle.raw_plan_text.specs.Meaning.{entries_of, end_fault, place_fault, haul_of, haul_in, word_in, plan_of}
use Rattle.raw_plan_text.proofs.Pairs.{some_tiles}
use Rattle.raw_plan_text.proofs.Insides.{haul_faultless, faultless_push}
use Rattle.raw_plan_text.proofs.Steps.{blank_entry, missing_line, first_line, later_line, grid_kept, entries_more, fault_of_line, fault_at_end}

-- what the form of a line says of its entry
abbrev pub IsFormed : Entry → Type 0
IsFormed (Grid columns rows) = Unit {0}
IsFormed (Send sent) = (1 ≤ length sent.to) × (sent.word < 2 ^ 32)

grid_formed : (operands : List (List ℕ)) (entry : Entry) → grid_entry operands ≡ Some entry → IsFormed entry
unfolding grid_entry
grid_formed operands entry e =
    let a = if_inv _ _ entry e in
    let b = bind_inv (number_of (get_or operands 0 [])) _ entry a.1 in
    let c = bind_inv (number_of (get_or operands 1 [])) _ entry b.2 in
    subst IsFormed (same_Some (Grid b.0 c.0) entry c.2) tt

send_formed : (operands : List (List ℕ)) (entry : Entry) → send_entry operands ≡ Some entry → IsFormed entry
unfolding send_entry
send_formed operands entry e =
    let a = if_inv (ltb 4 (length operands)) _ entry e in
    let long = ltb-true 4 (length operands) a.0 in
    let b = bind_inv (net_named (get_or operands 0 [])) _ entry a.1 in
    let c = bind_inv (tile_of (get_or operands 1 []) (get_or operands 2 [])) _ entry b.2 in
    let d = bind_inv (number_of (get_or operands 3 [])) _ entry c.2 in
    let f = bind_inv (tiles_of (drop 4 operands)) _ entry d.2 in
    subst IsFormed (same_Some (Send (record { net = b.0; from = c.0; word = d.0; to = f.0 })) entry f.2)
    (some_tiles (drop 4 operands) f.0 (omega (arith, long, length-drop 4 operands)) f.1, number_small (get_or operands 3 []) d.0 d.1)

by_word : (grid send : Bool) (operands : List (List ℕ)) (entry : Entry) → cond grid (grid_entry operands) (cond send (send_entry operands) None) ≡ Some entry → IsFormed entry
by_word true send operands entry e = grid_formed operands entry e
by_word false true operands entry e = send_formed operands entry e
by_word false false operands entry e = absurd (none-some entry e)

line_formed : (line : List (List ℕ)) (entry : Entry) → line_entry line ≡ Some entry → IsFormed entry
unfolding line_entry
line_formed line entry e = by_word (is_grid line) (is_send line) (drop 1 line) entry e

send_fine : (entries : List Entry) (sent : Sent) → entry_fault entries (Send sent) ≡ None
    → (is_inside (grid_of entries) sent.from ≡ true) × (list_all (is_inside (grid_of entries)) sent.to ≡ true) × (has_twice (targets_in (grid_of entries) sent) ≡ false)
unfolding entry_fault
send_fine entries sent e =
    let a = none_if (is_off_grid (grid_of entries) (Send sent)) OffGrid (fault_if (is_repeated entries (Send sent)) Repeated None) e in
    let b = none_if (is_repeated entries (Send sent)) Repeated None a.1 in
    let inside = and_parts (is_inside (grid_of entries) sent.from) (list_all (is_inside (grid_of entries)) sent.to) (not-false _ a.0) in
    (inside.0, inside.1, b.0)

grid_fine : (entries : List Entry) (columns rows : ℕ) → entry_fault entries (Grid columns rows) ≡ None → (is_size columns rows ≡ true) × (are_some entries ≡ false)
unfolding entry_fault
grid_fine entries columns rows e =
    let a = none_if (not (is_size columns rows)) BadSize (fault_if (are_some entries) Repeated None) e in
    let b = none_if (are_some entries) Repeated None a.1 in
    (not-false _ a.0, b.0)

-- what entries give on a grid is lawful
pub record IsGood (grid : Topology) (entries : List Entry) : Type 0 where
  pub size : is_size grid.cols grid.rows ≡ true
  pub faultless : first_fault (tile_count grid) 0 (filter_map (haul_in grid) entries) ≡ None
  pub as_many : length (filter_map word_in entries) ≡ length (filter_map (haul_in grid) entries)
  pub small : All (λ word. word < 2 ^ 32) (filter_map word_in entries)

-- nothing is declared yet, or a grid and what is lawful on it
abbrev pub IsGoodSoFar : List Entry → Type 0
IsGoodSoFar entries = (entries ≡ []) ⊎ IsGood (grid_of entries) entries

good_begun : (columns rows : ℕ) → is_size columns rows ≡ true → IsGood (without_ports columns rows) (Grid columns rows ∷ [])
good_begun columns rows e = record { size = e; faultless = refl; as_many = refl; small = All-nil (λ word. word < 2 ^ 32) }

good_push : (grid : Topology) (entries : List Entry) (sent : Sent) → IsGood grid entries → is_inside grid sent.from ≡ true → list_all (is_inside grid) sent.to ≡ true
    → has_twice (targets_in grid sent) ≡ false → IsFormed (Send sent) → IsGood grid (entries ++ Send sent ∷ [])
good_push grid entries sent good from to once formed =
    let hauls_are = filter_map-append (haul_in grid) entries (Send sent ∷ []) in
    let words_are = filter_map-append word_in entries (Send sent ∷ []) in
    let hauls = filter_map (haul_in grid) entries in
    let words = filter_map word_in entries in
    record {
      size = good.size;
      faultless = ap (first_fault (tile_count grid) 0) hauls_are ∙ faultless_push (tile_count grid) 0 hauls (haul_of grid sent) good.faultless (haul_faultless grid sent from to formed.0 once);
      as_many = omega (arith, good.as_many, ap length hauls_are, ap length words_are, length-append hauls (haul_of grid sent ∷ []), length-append words (sent.word ∷ []));
      small = subst (All (λ word. word < 2 ^ 32)) (sym words_are)
          (All-append (λ word. word < 2 ^ 32) words (sent.word ∷ []) good.small (All-cons (λ word. word < 2 ^ 32) sent.word [] formed.1 (All-nil (λ word. word < 2 ^ 32))));
    }

-- a line without a fault: what its entry adds
first_entry : (line : List (List ℕ)) (o : Option Entry) → line_entry line ≡ o → form_fault [] o ≡ None → IsGoodSoFar (entries_of (line ∷ []))
first_entry line None is e = absurd (none-some BadLine (sym e))
first_entry line (Some (Grid columns rows)) is e =
    subst IsGoodSoFar (ap (λ o. cons_option o []) (sym is)) (inr (good_begun columns rows (grid_fine [] columns rows e).0))
first_entry line (Some (Send sent)) is e =
    let inside = send_fine [] sent e in
    let column = and_parts (ltb sent.from.x 0) (ltb sent.from.y 0) inside.0 in
    let low = ltb-true sent.from.x 0 column.0 in absurd (omega (arith, low))

later_entry : (entries : List Entry) (line : List (List ℕ)) → 0 < length entries → IsGood (grid_of entries) entries → (o : Option Entry) → line_entry line ≡ o → form_fault entries o ≡ None
    → IsGoodSoFar (entries ++ entries_of (line ∷ []))
later_entry entries line begun good None is e = absurd (none-some BadLine (sym e))
later_entry entries line begun good (Some (Grid columns rows)) is e = let none = (grid_fine entries columns rows e).1 in let some = lt-ltb 0 (length entries) begun in absurd (cc (none, some))
later_entry entries line begun good (Some (Send sent)) is e =
    let fine = send_fine entries sent e in
    let pushed = good_push (grid_of entries) entries sent good fine.0 fine.1 fine.2 (line_formed line (Send sent) is) in
    subst (λ more. IsGoodSoFar (entries ++ more)) (ap (λ o. cons_option o []) (sym is))
    (inr (subst (λ grid. IsGood grid (entries ++ Send sent ∷ [])) (sym (grid_kept entries (Send sent ∷ []) begun)) pushed))

grid_first : (b : Bool) (line : List (List ℕ)) → is_grid line ≡ b → 0 < length line → line_fault [] line ≡ None → IsGoodSoFar (entries_of (line ∷ []))
grid_first true line is some e = first_entry line (line_entry line) refl (sym (first_line line some is) ∙ e)
grid_first false line is some e = absurd (none-some Missing (sym e ∙ missing_line line some is))

next_told : (entries : List Entry) (line : List (List ℕ)) → 0 < length line → IsGoodSoFar entries → line_fault entries line ≡ None → IsGoodSoFar (entries ++ entries_of (line ∷ []))
next_told [] line some good e = grid_first (is_grid line) line refl some e
next_told (first ∷ entries) line some good e =
    ⊎_elim
    (λ (none : first ∷ entries ≡ []). absurd (cc none))
    (λ (so : IsGood (grid_of (first ∷ entries)) (first ∷ entries)).
    let begun : 0 < length (first ∷ entries) = omega arith in later_entry (first ∷ entries) line begun so (line_entry line) refl (sym (later_line (first ∷ entries) line begun some) ∙ e))
    good

next_line : (entries : List Entry) (line : List (List ℕ)) → IsGoodSoFar entries → line_fault entries line ≡ None → IsGoodSoFar (entries ++ entries_of (line ∷ []))
next_line entries line good e =
    ⊎_elim
    (λ (some : 0 < length line). next_told entries line some good e)
    (λ (none : length line ≤ 0).
    let same : entries ++ entries_of (line ∷ []) ≡ entries = ap (λ o. entries ++ cons_option o []) (blank_entry line (omega (arith, none))) ∙ append-nil entries in
    subst IsGoodSoFar (sym same) good)
    (cases_lt 0 (length line))

good_upto : (lines : List (List (List ℕ))) (k : ℕ) → k ≤ length lines → AreFaultless (place_fault lines) k → IsGoodSoFar (entries_of (take k lines))
good_upto lines zero l faultless = inl refl
good_upto lines (suc k) l faultless =
    let there : k < length lines = omega arith in
    let next : suc k ≡ k + 1 = omega arith in
    let before = good_upto lines k (omega arith) (λ j below. faultless j (omega arith)) in
    let none = sym (fault_of_line lines k there) ∙ faultless k (omega arith) in
    subst IsGoodSoFar (sym (ap (λ n. entries_of (take n lines)) next ∙ entries_more lines k there)) (next_line (entries_of (take k lines)) (get_or lines k []) before none)

size_is : (cols rows : ℕ) → is_size cols rows ≡ true → IsSize cols rows
size_is cols rows e =
    let both = and_parts (is_within 1 MAX_SIZE cols) (is_within 1 MAX_SIZE rows) e in
    let wide = and_parts (leb 1 cols) (leb cols MAX_SIZE) both.0 in
    let high = and_parts (leb 1 rows) (leb rows MAX_SIZE) both.1 in
    record { some_cols = leb-true 1 cols wide.0; most_cols = leb-true cols MAX_SIZE wide.1; some_rows = leb-true 1 rows high.0; most_rows = leb-true rows MAX_SIZE high.1 }

plan_valid : (entries : List Entry) → IsGood (grid_of entries) entries → IsPlan (plan_of entries)
unfolding plan_of
plan_valid entries good =
    let grid = grid_of entries in
    record {
      lawful = record { size = size_is grid.cols grid.rows good.size; faultless = good.faultless };
      as_many = good.as_many;
      sends = All-from_recursion (IsSending (tile_count grid)) _ (all_sendings (tile_count grid) 0 (filter_map (haul_in grid) entries) (filter_map word_in entries) good.faultless good.small);
    }

some_grid : (b : Bool) → cond b None (Some Missing) ≡ None → b ≡ true
some_grid true e = refl
some_grid false e = absurd (none-some Missing (sym e))

entries_some : (lines : List (List (List ℕ))) → end_fault lines ≡ None → are_some (entries_of lines) ≡ true
unfolding end_fault
entries_some lines e = some_grid (are_some (entries_of lines)) e

pub faultless_valid : (lines : List (List (List ℕ))) → AreFaultless (place_fault lines) (length lines + 1) → IsPlan (plan_of (entries_of lines))
faultless_valid lines faultless =
    let all = length lines in
    let whole : entries_of (take all lines) ≡ entries_of lines = ap entries_of (take-length lines) in
    let ended : end_fault lines ≡ None = sym (fault_at_end lines all (omega arith)) ∙ faultless all (omega arith) in
    let some = entries_some lines ended in
    ⊎_elim
    (λ (none : entries_of lines ≡ []). absurd (let empty = ap are_some none in cc some))
    (λ (good : IsGood (grid_of (entries_of lines)) (entries_of lines)). plan_valid (entries_of lines) good)
    (subst IsGoodSoFar whole (good_upto lines all (omega arith) (λ k below. faultless k (omega arith))))
