-- Where the lines of the head stand in its bytes.
use Rattle.std.proofs.Common.{◌≡◌, ℕ, ◌+◌, ◌-◌, ◌<◌, ◌≤◌, false, not, List, [], ◌∷◌, ◌++◌, length, take, drop, get_or, Option, refl, sym, ap, subst, ◌∙◌, inl, inr, arith, append_assoc, append-nil, length-append, length-drop, ⊎_elim}
use Rattle.std.specs.Prelude.{slice_range}
use Rattle.std.specs.List.{list_all}
use Rattle.std.specs.Io.KnownBytes.{IsAtEnd}
use Rattle.std.proofs.Math.Seq.{take-add}
use Rattle.std.proofs.lemmas.Bool.{cases_lt}
use Rattle.std.proofs.lemmas.Bool.Decides.{nat_tests}
use Rattle.std.proofs.lemmas.List.{take-append-drop, take_more, take_rest, get_or-drop}
use Rattle.std.proofs.lemmas.List.Folds.{list_all-append}
use Rattle.raw_text.specs.Lines.{is_newline, lines_of}
use Rattle.raw_live_text.specs.declared.fault.LineFault.{LineFault}
use Rattle.raw_live_text.specs.declared.head.HeadEnd.{HeadEnd}
use Rattle.raw_live_text.specs.declared.head.HeadEnd.TheVariants.{Open, Mark, Fault}
use Rattle.raw_live_text.specs.declared.head.LinePlace.{LinePlace}
use Rattle.raw_live_text.specs.Feeding.{whole_lines}
use Rattle.raw_live_text.specs.Heads.{line_end, head_of, IsMarked, IsUnmarked, Begins, StandsAt, MarkAt}
use Rattle.raw_live_text.proofs.Pieces.{empty_is, lines_without, line_behind, closed_behind, whole_with, lines_with_line, whole_open, lines_open}
use Rattle.raw_live_text.proofs.HeadLines.{fault_stays, head_push, empty_open, end_marks, faultless}

module _ (word : List ℕ) where
  -- the line that begins behind whole lines, as it ends the head
  module _ (front line : List ℕ) (number : ℕ) (b : Begins word front line number) where
    lines_front : lines_of front ≡ whole_lines front
    lines_front = lines_without front b.closed

    open_front : head_of word 1 (lines_of front) ≡ Open
    open_front = ap (head_of word 1) lines_front ∙ b.unended

    count_front : number ≡ length (lines_of front) + 1
    count_front = b.counted ∙ ap (λ l. length l + 1) (sym lines_front)

    -- the next line begins behind the newline
    pub next_begins : line_end word number line ≡ Open → Begins word (front ++ (line ++ 10 ∷ [])) [] (number + 1)
    next_begins e =
        let whole = line_behind line b.free front b.closed in record {
          closed = closed_behind line b.free front b.closed;
          unended = ap (head_of word 1) whole ∙ head_push word number (whole_lines front) line b.unended b.counted ∙ e;
          counted = omega (arith, b.counted, ap length whole, length-append (whole_lines front) (line ∷ []));
          free = refl;
        }

    pub open_line : head_of word 1 (whole_lines (front ++ line)) ≡ Open
    open_line = ap (head_of word 1) (whole_open line b.free front b.closed) ∙ b.unended

    mark_first : (k : ℕ) → line_end word number line ≡ Mark k → head_of word 1 (lines_of front ++ line ∷ []) ≡ Mark (length (lines_of front) + 1)
    mark_first k e = head_push word number (lines_of front) line open_front count_front ∙ end_marks word number line k e ∙ ap Mark count_front

    some_line : (end : HeadEnd) → line_end word number line ≡ end → (Open ≡ end → ⊥) → 0 < length line
    some_line end e differs =
        ⊎_elim {C = 0 < length line}
        (λ (some : 0 < length line). some)
        (λ none. absurd (differs (empty_open word number line (omega (arith, none)) ∙ e)))
        (cases_lt 0 (length line))

    module _ (bytes rest : List ℕ) (is : bytes ≡ front ++ (line ++ 10 ∷ rest)) where
      more_is : (more : List ℕ) → bytes ++ more ≡ front ++ (line ++ 10 ∷ (rest ++ more))
      more_is more = ap (λ l. l ++ more) is ∙ append_assoc front (line ++ 10 ∷ rest) more ∙ ap (λ l. front ++ l) (append_assoc line (10 ∷ rest) more)

      pub marks : (left : Option (List ℕ)) (k : ℕ) → line_end word number line ≡ Mark k → IsMarked word left bytes front rest
      marks left k e = record {
        mark = line;
        first = mark_first k e;
        before = open_front;
        faultless = faultless word 1 (lines_of front) open_front;
        behind = inl (record {
          is = is ∙ sym (append_assoc front line (10 ∷ rest));
          lines = λ more. ap lines_of (more_is more) ∙ lines_with_line line b.free front b.closed (rest ++ more) ∙ ap (λ l. l ++ line ∷ lines_of (rest ++ more)) (sym lines_front);
          whole = λ more. ap whole_lines (more_is more) ∙ whole_with line b.free front b.closed (rest ++ more) ∙ ap (λ l. l ++ line ∷ whole_lines (rest ++ more)) (sym lines_front);
        });
        size = omega (arith, ap length is, length-append front (line ++ 10 ∷ rest), length-append line (10 ∷ rest));
      }

      pub faults : (k : ℕ) (kind : LineFault) → line_end word number line ≡ Fault k kind → head_of word 1 (whole_lines bytes) ≡ Fault k kind
      faults k kind e =
          ap (λ l. head_of word 1 (whole_lines l)) is ∙ ap (head_of word 1) (whole_with line b.free front b.closed rest ∙ sym (append_assoc (whole_lines front) (line ∷ []) (whole_lines rest)))
          ∙ fault_stays word 1 k kind (whole_lines front ++ line ∷ []) (whole_lines rest) (head_push word number (whole_lines front) line b.unended b.counted ∙ e)

    -- the line is the last, and no newline ends it
    module _ (bytes : List ℕ) (is : bytes ≡ front ++ line) where
      pub last_marks : (left : Option (List ℕ)) (k : ℕ) → IsAtEnd left → line_end word number line ≡ Mark k → IsMarked word left bytes front []
      last_marks left k end e = record {
        mark = line;
        first = mark_first k e;
        before = open_front;
        faultless = faultless word 1 (lines_of front) open_front;
        behind = inr (
          end,
          record {
            is = is;
            none = refl;
            lines = ap lines_of is ∙ lines_open line b.free front b.closed (some_line (Mark k) e (λ no. grind (arith, no))) ∙ ap (λ l. l ++ line ∷ []) (sym lines_front);
            whole = ap whole_lines is ∙ whole_open line b.free front b.closed ∙ sym lines_front;
          },
        );
        size = omega (arith, ap length is, length-append front line);
      }

      pub last_faults : (k : ℕ) (kind : LineFault) → line_end word number line ≡ Fault k kind → head_of word 1 (lines_of bytes) ≡ Fault k kind
      last_faults k kind e =
          ap (λ l. head_of word 1 (lines_of l)) is ∙ ap (head_of word 1) (lines_open line b.free front b.closed (some_line (Fault k kind) e (λ no. grind (arith, no))))
          ∙ head_push word number (whole_lines front) line b.unended b.counted ∙ e

      last_unended : line_end word number line ≡ Open → head_of word 1 (lines_of bytes) ≡ Open
      last_unended e =
          ⊎_elim {C = head_of word 1 (lines_of bytes) ≡ Open}
          (λ (some : 0 < length line). ap (λ l. head_of word 1 (lines_of l)) is ∙ ap (head_of word 1) (lines_open line b.free front b.closed some) ∙ head_push word number (whole_lines front) line b.unended b.counted ∙ e)
          (λ none. ap (λ l. head_of word 1 (lines_of l)) (is ∙ ap (λ l. front ++ l) (empty_is line (omega (arith, none))) ∙ append-nil front) ∙ open_front)
          (cases_lt 0 (length line))

      pub last_open : (left : Option (List ℕ)) → IsAtEnd left → line_end word number line ≡ Open → IsUnmarked word left bytes bytes
      last_open left end e = record { end = end; all = refl; lines = last_unended e; faultless = faultless word 1 (lines_of bytes) (last_unended e) }

  -- the places of the line
  module _ (bytes : List ℕ) where
    take_range : (start seen : ℕ) → start ≤ seen → take seen bytes ≡ take start bytes ++ slice_range bytes start seen
    take_range start seen le =
        let whole : seen ≡ start + (seen - start) = omega (arith, le) in
        ap (λ n. take n bytes) whole ∙ take-add start (seen - start) bytes

    range_more : (start at : ℕ) → start ≤ at → at < length bytes → slice_range bytes start (at + 1) ≡ slice_range bytes start at ++ get_or bytes at 0 ∷ []
    range_more start at le lt =
        let one : at + 1 - start ≡ (at - start) + 1 = omega (arith, le) in
        let whole : start + (at - start) ≡ at = omega (arith, le) in
        ap (λ n. take n (drop start bytes)) one ∙ take_more (drop start bytes) (at - start) 0 (omega (arith, length-drop start bytes, le, lt))
        ∙ ap (λ x. slice_range bytes start at ++ x ∷ []) (get_or-drop start bytes (at - start) 0 ∙ ap (λ n. get_or bytes n 0) whole)

    no_range : (at : ℕ) → slice_range bytes at at ≡ []
    no_range at = let none : at - at ≡ 0 = omega arith in ap (λ n. take n (drop at bytes)) none

    -- the bytes up to the newline at this place
    take_line : (start at : ℕ) → start ≤ at → at < length bytes → get_or bytes at 0 ≡ 10 → take (at + 1) bytes ≡ take start bytes ++ (slice_range bytes start at ++ 10 ∷ [])
    take_line start at le lt e =
        take_more bytes at 0 lt ∙ ap (λ x. take at bytes ++ x ∷ []) e ∙ ap (λ l. l ++ 10 ∷ []) (take_range start at le) ∙ append_assoc (take start bytes) (slice_range bytes start at) (10 ∷ [])

    cut_line : (start at : ℕ) → start ≤ at → at < length bytes → get_or bytes at 0 ≡ 10 → bytes ≡ take start bytes ++ (slice_range bytes start at ++ 10 ∷ drop (at + 1) bytes)
    cut_line start at le lt e =
        sym (take-append-drop (at + 1) bytes) ∙ ap (λ l. l ++ drop (at + 1) bytes) (take_line start at le lt e) ∙ append_assoc (take start bytes) (slice_range bytes start at ++ 10 ∷ []) (drop (at + 1) bytes)
        ∙ ap (λ l. take start bytes ++ l) (append_assoc (slice_range bytes start at) (10 ∷ []) (drop (at + 1) bytes))

    module _ (at : ℕ) (place : LinePlace) (lt : at < length bytes) (s : StandsAt word bytes at place) where
      pub byte_inside : (get_or bytes at 0 ≡ 10 → ⊥) → StandsAt word bytes (at + 1) place
      byte_inside e =
          let inside : is_newline (get_or bytes at 0) ≡ false = grind (arith, nat_tests) in
          record {
            within = omega (arith, s.within);
            few = s.few;
            begins = record {
              closed = s.begins.closed;
              unended = s.begins.unended;
              counted = s.begins.counted;
              free = ap (list_all (λ b. not (is_newline b))) (range_more place.start at s.within lt) ∙ list_all-append (λ b. not (is_newline b)) (slice_range bytes place.start at) (get_or bytes at 0 ∷ []) ∙ rw (s.begins.free, inside) refl;
            };
          }

      module _ (e : get_or bytes at 0 ≡ 10) where
        pub line_on : line_end word place.number (slice_range bytes place.start at) ≡ Open → StandsAt word bytes (at + 1) (record { start = at + 1; number = place.number + 1 })
        line_on goes = record {
          within = omega arith;
          few = omega (arith, s.few, s.within);
          begins = subst (λ l. Begins word (take (at + 1) bytes) l (place.number + 1)) (sym (no_range (at + 1)))
              (subst (λ l. Begins word l [] (place.number + 1)) (sym (take_line place.start at s.within lt e)) (next_begins (take place.start bytes) (slice_range bytes place.start at) place.number s.begins goes));
        }

        pub line_marks : (k : ℕ) → line_end word place.number (slice_range bytes place.start at) ≡ Mark k → MarkAt word bytes at place.start (at + 1)
        line_marks k end = record {
          order = omega (arith, s.within);
          later = omega arith;
          within = omega (arith, lt);
          marked = λ left. marks (take place.start bytes) (slice_range bytes place.start at) place.number s.begins bytes (drop (at + 1) bytes) (cut_line place.start at s.within lt e) left k end;
        }

        pub line_faults : (k : ℕ) (kind : LineFault) → line_end word place.number (slice_range bytes place.start at) ≡ Fault k kind → head_of word 1 (whole_lines bytes) ≡ Fault k kind
        line_faults k kind end = faults (take place.start bytes) (slice_range bytes place.start at) place.number s.begins bytes (drop (at + 1) bytes) (cut_line place.start at s.within lt e) k kind end

    -- all bytes were seen
    module _ (place : LinePlace) (s : StandsAt word bytes (length bytes) place) where
      last_begins : Begins word (take place.start bytes) (drop place.start bytes) place.number
      last_begins = subst (λ l. Begins word (take place.start bytes) l place.number) (take_rest bytes place.start) s.begins

      all_is : bytes ≡ take place.start bytes ++ drop place.start bytes
      all_is = sym (take-append-drop place.start bytes)

      pub end_marks_at : (left : Option (List ℕ)) (k : ℕ) → IsAtEnd left → line_end word place.number (drop place.start bytes) ≡ Mark k → IsMarked word left bytes (take place.start bytes) []
      end_marks_at left k end e = last_marks (take place.start bytes) (drop place.start bytes) place.number last_begins bytes all_is left k end e

      pub end_faults_at : (k : ℕ) (kind : LineFault) → line_end word place.number (drop place.start bytes) ≡ Fault k kind → head_of word 1 (lines_of bytes) ≡ Fault k kind
      end_faults_at k kind e = last_faults (take place.start bytes) (drop place.start bytes) place.number last_begins bytes all_is k kind e

      pub end_open_at : (left : Option (List ℕ)) → IsAtEnd left → line_end word place.number (drop place.start bytes) ≡ Open → IsUnmarked word left bytes bytes
      end_open_at left end e = last_open (take place.start bytes) (drop place.start bytes) place.number last_begins bytes all_is left end e

      pub none_ends : head_of word 1 (whole_lines bytes) ≡ Open
      none_ends = ap (λ l. head_of word 1 (whole_lines l)) all_is ∙ open_line (take place.start bytes) (drop place.start bytes) place.number last_begins

  -- the last line, as a part of the bytes
  pub tail_end : (bytes all : List ℕ) (place : LinePlace) (end : HeadEnd) → all ≡ bytes → line_end word place.number (slice_range all place.start (length all)) ≡ end → line_end word place.number (drop place.start bytes) ≡ end
  tail_end bytes all place end same e =
      ap (line_end word place.number) (sym (take_rest bytes place.start) ∙ ap (λ l. slice_range l place.start (length l)) (sym same)) ∙ e
