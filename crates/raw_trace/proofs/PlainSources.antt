-- What is told of the lines of a text is of the bytes of a trace alone.
use Rattle.std.proofs.Common.{◌≡◌, ℕ, ◌+◌, Bool, true, false, cond, ◌&&◌, ◌||◌, List, [], ◌∷◌, ◌++◌, codes, length, Option, Some, None, refl, ap, ◌∙◌, subst, arith}
use Rattle.std.specs.Prelude.{nat_le, ◌==◌, decimal, slice_index, slice_index_or}
use Rattle.std.specs.List.{list_all, flat_map, range_with_len}
use Rattle.std.proofs.lemmas.Bool.{and_parts, eqb-true, leb-true}
use Rattle.std.proofs.lemmas.List.Folds.{list_all-append}
use Rattle.raw_grid.specs.Topology.{Topology, tile_count}
use Rattle.raw_model.specs.Program.{ProgramSet}
use Rattle.raw_asm.specs.Names.{label_of, is_letter, is_decimal, are_name_bytes, is_name}
use Rattle.raw_set_text.specs.Listing.{listing}
use Rattle.raw_lines.specs.declared.kind.ProgramKind.{ProgramKind}
use Rattle.raw_lines.specs.declared.kind.ProgramKind.TheVariants.{Tile, Switch}
use Rattle.raw_lines.specs.Sections.{sections_in, part_for}
use Rattle.raw_lines.specs.Places.{place_in, size_at, label_named, label_at}
use Rattle.raw_lines.specs.Lines.{told_of, label_line, label_lines, number_line, numbers_of_line, number_lines, processor_of, labels_of, numbers_of, all_labels, all_numbers, sources_text}
use Rattle.raw_trace.specs.Bytes.{is_trace_byte, IsTraceText}
use Rattle.raw_trace.proofs.Plain.{both, each, or_first, or_second, digit, number, listed}

module _ (b : ℕ) where
  capital : (nat_le 65 b && nat_le b 90) ≡ true → is_trace_byte b ≡ true
  capital is = or_second (nat_le 97 b && nat_le b 122) _ (or_second (nat_le 48 b && nat_le b 58) _ (or_first (nat_le 65 b && nat_le b 90) _ is))

  small : (nat_le 97 b && nat_le b 122) ≡ true → is_trace_byte b ≡ true
  small is = or_first (nat_le 97 b && nat_le b 122) _ is

  line_below : (b == 95) ≡ true → is_trace_byte b ≡ true
  line_below is = let same : 95 ≡ b = omega (arith, eqb-true b 95 is) in subst (λ x. is_trace_byte x ≡ true) same refl

  figure : is_decimal b ≡ true → is_trace_byte b ≡ true
  figure is = let parts = and_parts (nat_le 48 b) (nat_le b 57) is in digit b (leb-true 48 b parts.0) (leb-true b 57 parts.1)

  of_four : (x y z w : Bool) → (x ≡ true → is_trace_byte b ≡ true) → (y ≡ true → is_trace_byte b ≡ true) → (z ≡ true → is_trace_byte b ≡ true) → (w ≡ true → is_trace_byte b ≡ true)
      → (((x || y) || z) || w) ≡ true → is_trace_byte b ≡ true
  of_four true y z w f g h i is = f refl
  of_four false true z w f g h i is = g refl
  of_four false false true w f g h i is = h refl
  of_four false false false w f g h i is = i is

  name_byte : (is_letter b || is_decimal b) ≡ true → is_trace_byte b ≡ true
  name_byte is = of_four (nat_le 65 b && nat_le b 90) (nat_le 97 b && nat_le b 122) (b == 95) (is_decimal b) capital small line_below figure is

name_bytes : (bytes : List ℕ) → are_name_bytes bytes ≡ true → IsTraceText bytes
name_bytes [] is = refl
name_bytes (b ∷ bytes) is =
    let parts = and_parts (is_letter b || is_decimal b) (are_name_bytes bytes) is in
    ap (λ x. x && list_all is_trace_byte bytes) (name_byte b parts.0) ∙ name_bytes bytes parts.1

name_told : (name : List ℕ) → is_name name ≡ true → IsTraceText name
unfolding is_name
name_told name is = name_bytes name (and_parts (is_letter (slice_index name 0)) (are_name_bytes name) is).1

named_told : (p i : ℕ) (name : List ℕ) (b : Bool) → is_name name ≡ b → IsTraceText (label_line p i (cond b (Some name) None))
named_told p i name true is = let told = name_told name is in simp (list_all-append is_trace_byte, number, told)
named_told p i name false is = refl

label_told : (p i : ℕ) (label : Option (List ℕ)) → IsTraceText (label_line p i (label_named label))
label_told p i None = refl
label_told p i (Some name) = named_told p i name (is_name name) refl

number_told : (p from k i : ℕ) → IsTraceText (number_line p from k i)
number_told p from k i = simp (list_all-append is_trace_byte, number)

module _ (kind : ProgramKind) (p : ℕ) where
  labels_told : (lines : List (List (List ℕ))) → IsTraceText (label_lines kind p lines)
  labels_told lines = each (λ k. label_line p (place_in kind lines k) (label_at lines k)) (λ k. label_told p (place_in kind lines k) (label_of (slice_index_or lines k []))) (range_with_len 0 (length lines))

  numbers_told : (from : ℕ) (lines : List (List (List ℕ))) → IsTraceText (number_lines kind p from lines)
  numbers_told from lines =
      each (numbers_of_line kind p from lines)
      (λ k. each (λ j. number_line p from k (place_in kind lines k + j)) (λ j. number_told p from k (place_in kind lines k + j)) (range_with_len 0 (size_at kind lines k)))
      (range_with_len 0 (length lines))

part_told : (tell : ℕ → List (List (List ℕ)) → List ℕ) → ((from : ℕ) (lines : List (List (List ℕ))) → IsTraceText (tell from lines)) → (part : Option (ℕ × List (List (List ℕ))))
    → IsTraceText (told_of tell part)
part_told tell is None = refl
part_told tell is (Some part) = is part.0 part.1

module _ (kind : ProgramKind) (topo : Topology) (lines : List (List (List ℕ))) where
  all_labels_told : IsTraceText (all_labels kind topo lines)
  all_labels_told =
      each (labels_of kind topo lines (sections_in lines))
      (λ t. part_told (λ from part. label_lines kind (processor_of kind topo t) part) (λ from part. labels_told kind (processor_of kind topo t) part) (part_for lines (sections_in lines) kind topo t))
      (range_with_len 0 (tile_count topo))

  all_numbers_told : IsTraceText (all_numbers kind topo lines)
  all_numbers_told =
      each (numbers_of kind topo lines (sections_in lines))
      (λ t. part_told (number_lines kind (processor_of kind topo t)) (numbers_told kind (processor_of kind topo t)) (part_for lines (sections_in lines) kind topo t))
      (range_with_len 0 (tile_count topo))

sources_told : (topo : Topology) (lines : List (List (List ℕ))) → IsTraceText (sources_text topo lines)
unfolding sources_text
sources_told topo lines =
    let labels = all_labels Tile topo lines ++ all_labels Switch topo lines in
    let numbers = all_numbers Tile topo lines in
    both (labels ++ numbers) (all_numbers Switch topo lines)
    (both labels numbers (both (all_labels Tile topo lines) (all_labels Switch topo lines) (all_labels_told Tile topo lines) (all_labels_told Switch topo lines)) (all_numbers_told Tile topo lines))
    (all_numbers_told Switch topo lines)

pub sources_plain : (set : ProgramSet) (lines : List (List (List ℕ))) → IsTraceText (listing set ++ sources_text set.topo lines)
sources_plain set lines = both (listing set) (sources_text set.topo lines) (listed set) (sources_told set.topo lines)
