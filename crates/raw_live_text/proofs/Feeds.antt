-- Lines fed one after another.
use Rattle.std.proofs.Common.{◌≡◌, ℕ, ◌+◌, ◌<◌, ◌==◌, if◌then◌else◌, true, false, List, [], ◌∷◌, ◌++◌, length, take, drop, get_or, Option, Some, None, Result, Ok, Err, refl, sym, ap, subst, ◌∙◌, append_assoc, append-nil, arith, ⊎_elim}
use Rattle.std.proofs.lemmas.Bool.{cases_lt}
use Rattle.std.proofs.lemmas.List.{take-append-drop, take_more}
use Rattle.raw_text.specs.Lines.{lines_of}
use Rattle.raw_queue.specs.declared.item.Item.{Item}
use Rattle.raw_queue.specs.declared.item.Item.TheVariants as item
use Rattle.raw_live_text.specs.declared.intake.Intake.{Intake}
use Rattle.raw_live_text.specs.declared.progress.Progress.{Progress}
use Rattle.raw_live_text.specs.declared.fault.LineFault.{LineFault}
use Rattle.raw_live_text.specs.declared.fault.LineFault.TheVariants.{OverLimit}
use Rattle.raw_live_text.specs.declared.put.Said.{Said}
use Rattle.raw_live_text.specs.declared.put.Said.TheVariants.{Nothing, Word, Fault}
use Rattle.raw_live_text.specs.declared.stop.Stop.{Stop}
use Rattle.raw_live_text.specs.declared.stop.Stop.TheVariants.{At, Memory}
use Rattle.raw_live_text.specs.Puts.{says}
use Rattle.raw_live_text.specs.Feeding.{Fed, open_at, faulty_at, with_said, unless_faulty, after_line, after_lines, fed, whole_lines, last_piece, BeginsItems, Handled, IntakeStands, StandsAfter}
use Rattle.raw_live_text.proofs.Judging.{says_nothing}
use Rattle.raw_live_text.proofs.Pieces.{whole_end, last_end, whole_in, last_in, whole_grows, lines_without, lines_with}

pub begins_same : (xs : List Item) → BeginsItems xs xs
begins_same xs = record { rest = []; is = sym (append-nil xs) }

pub begins_over : (xs ys zs : List Item) → BeginsItems xs ys → BeginsItems ys zs → BeginsItems xs zs
begins_over xs ys zs a b = record { rest = a.rest ++ b.rest; is = b.is ∙ ap (λ l. l ++ b.rest) a.is ∙ append_assoc xs a.rest b.rest }

module _ (intake : Intake) where
  after_append : (s : Fed) (xs ys : List (List ℕ)) → after_lines intake s (xs ++ ys) ≡ after_lines intake (after_lines intake s xs) ys
  after_append s [] ys = refl
  after_append s (x ∷ xs) ys = after_append (after_line intake s x) xs ys

  pub fed_append : (xs ys : List (List ℕ)) → fed intake (xs ++ ys) ≡ after_lines intake (fed intake xs) ys
  unfolding fed
  fed_append xs ys = after_append (open_at intake.line []) xs ys

  -- behind a fault nothing changes
  stays : (s : Fed) (fault : ℕ × LineFault) (line : List ℕ) → s.fault ≡ Some fault → after_line intake s line ≡ s
  unfolding after_line
  stays s fault line e = ap (λ f. unless_faulty f (with_said intake s.number s.items (says intake line)) s) e

  pub stays_faulty : (s : Fed) (fault : ℕ × LineFault) (lines : List (List ℕ)) → s.fault ≡ Some fault → after_lines intake s lines ≡ s
  stays_faulty s fault [] e = refl
  stays_faulty s fault (line ∷ lines) e = ap (λ z. after_lines intake z lines) (stays s fault line e) ∙ stays_faulty s fault lines e

  pub fed_none : fed intake [] ≡ open_at intake.line []
  unfolding fed
  fed_none = refl

  pub fed_stays : (fault : ℕ × LineFault) (front back : List (List ℕ)) → (fed intake front).fault ≡ Some fault → fed intake (front ++ back) ≡ fed intake front
  fed_stays fault front back e = fed_append front back ∙ stays_faulty (fed intake front) fault back e

  -- items are only added
  said_grows : (number : ℕ) (items : List Item) (said : Said) → BeginsItems items (with_said intake number items said).items
  said_grows number items Nothing = begins_same items
  said_grows number items (Word port word) =
      elim (length items == intake.room) as (λ b. BeginsItems items (if b then faulty_at number items OverLimit else open_at (number + 1) (items ++ item.Word port word ∷ [])).items) [
        | true ↦ begins_same items
        | false ↦ record { rest = item.Word port word ∷ []; is = refl }
      ]
  said_grows number items (Fault kind) = begins_same items

  unless_grows : (fault : Option (ℕ × LineFault)) (next s : Fed) → BeginsItems s.items next.items → BeginsItems s.items (unless_faulty fault next s).items
  unless_grows None next s h = h
  unless_grows (Some fault) next s h = begins_same s.items

  pub line_grows : (s : Fed) (line : List ℕ) → BeginsItems s.items (after_line intake s line).items
  unfolding after_line
  line_grows s line = unless_grows s.fault (with_said intake s.number s.items (says intake line)) s (said_grows s.number s.items (says intake line))

  pub lines_grow : (s : Fed) (lines : List (List ℕ)) → BeginsItems s.items (after_lines intake s lines).items
  lines_grow s [] = begins_same s.items
  lines_grow s (line ∷ lines) = begins_over s.items (after_line intake s line).items (after_lines intake (after_line intake s line) lines).items (line_grows s line) (lines_grow (after_line intake s line) lines)

  pub fed_grows : (xs ys : List (List ℕ)) → BeginsItems (fed intake xs).items (fed intake (xs ++ ys)).items
  fed_grows xs ys = subst (λ (s : Fed). BeginsItems (fed intake xs).items s.items) (sym (fed_append xs ys)) (lines_grow (fed intake xs) ys)

  pub handled_of : (to to' : Fed) (number : ℕ) (items : List Item) (r : Result (Unit {0}) Stop) → to' ≡ to → Handled to number items r → Handled to' number items r
  handled_of to to' number items r e h = subst (λ (s : Fed). Handled s number items r) (sym e) h

  -- a stop stays one, whatever follows
  pub stopped_lines : (s : Fed) (lines : List (List ℕ)) (number : ℕ) (items : List Item) (stop : Stop) → Handled s number items (Err stop) → Handled (after_lines intake s lines) number items (Err stop)
  stopped_lines s lines number items (At line kind) h = handled_of s (after_lines intake s lines) number items (Err (At line kind)) (stays_faulty s (line, kind) lines h.0) h
  stopped_lines s lines number items Memory h = begins_over items s.items (after_lines intake s lines).items h (lines_grow s lines)
  stopped_lines s lines number items _ h = absurd h

  pub stopped_on : (front back : List ℕ) (number : ℕ) (items : List Item) (stop : Stop) → Handled (fed intake (whole_lines front)) number items (Err stop)
      → Handled (fed intake (whole_lines (front ++ back))) number items (Err stop)
  stopped_on front back number items stop h =
      let more = whole_grows front back in
      handled_of _ _ number items (Err stop) (ap (fed intake) more.1 ∙ fed_append (whole_lines front) more.0) (stopped_lines (fed intake (whole_lines front)) more.0 number items stop h)

  -- what a line says is handed on
  pub said_line : (number : ℕ) (items : List Item) (said : Said) (line given : List ℕ) (now : ℕ) (got : List Item) (r : Result (Unit {0}) Stop) → given ≡ line → said ≡ says intake given
      → Handled (with_said intake number items said) now got r → Handled (after_line intake (open_at number items) line) now got r
  unfolding after_line
  said_line number items said line given now got r same is h =
      handled_of _ _ now got r (ap (with_said intake number items) (ap (says intake) (sym same) ∙ sym is)) h

  -- a byte that ends a line
  pub byte_end : (bytes : List ℕ) (next : ℕ) (old new : Progress) (items now : List Item) (r : Result (Unit {0}) Stop) → next ≡ 10 → IntakeStands intake bytes old items → new.line.items ≡ []
      → Handled (after_line intake (open_at old.number items) old.line.items) new.number now r → StandsAfter intake (bytes ++ next ∷ []) new now r
  byte_end bytes next old new items now r e s fresh h =
      let to : fed intake (whole_lines (bytes ++ next ∷ [])) ≡ after_line intake (open_at old.number items) old.line.items =
      ap (fed intake) (whole_end bytes next e) ∙ fed_append (whole_lines bytes) (last_piece bytes ∷ []) ∙ ap (λ z. after_line intake z (last_piece bytes)) s.lines ∙ ap (after_line intake (open_at old.number items)) s.last in
      by_result r (handled_of _ _ new.number now r to h)
    where
      by_result : (r : Result (Unit {0}) Stop) → Handled (fed intake (whole_lines (bytes ++ next ∷ []))) new.number now r → StandsAfter intake (bytes ++ next ∷ []) new now r
      by_result (Ok x) h = record { lines = h; last = last_end bytes next e ∙ sym fresh }
      by_result (Err stop) h = h

  -- a byte in a line
  pub byte_in : (bytes : List ℕ) (next : ℕ) (old new : Progress) (items now : List Item) → (next ≡ 10 → ⊥) → IntakeStands intake bytes old items → new.number ≡ old.number → now ≡ items
      → new.line.items ≡ old.line.items ++ next ∷ [] → IntakeStands intake (bytes ++ next ∷ []) new now
  byte_in bytes next old new items now e s same_number same_items grown = record {
    lines = ap (fed intake) (whole_in bytes next e) ∙ s.lines ∙ ap (λ n. open_at n items) (sym same_number) ∙ ap (open_at new.number) (sym same_items);
    last = last_in bytes next e ∙ ap (λ l. l ++ next ∷ []) s.last ∙ sym grown;
  }

  -- want of memory at a byte
  pub byte_memory : (bytes : List ℕ) (next : ℕ) (old new : Progress) (items : List Item) → IntakeStands intake bytes old items → StandsAfter intake (bytes ++ next ∷ []) new items (Err Memory)
  byte_memory bytes next old new items s =
      let more = whole_grows bytes (next ∷ []) in
      let same : (fed intake (whole_lines bytes)).items ≡ items = ap (λ (z : Fed). z.items) s.lines in
      let g = fed_grows (whole_lines bytes) more.0 in
      record { rest = g.rest; is = ap (λ l. (fed intake l).items) more.1 ∙ g.is ∙ ap (λ l. l ++ g.rest) same }

  -- a stop at a byte is one at the piece
  pub stops_at : (bytes piece : List ℕ) (n number : ℕ) (items : List Item) (stop : Stop) → n < length piece
      → Handled (fed intake (whole_lines ((bytes ++ take n piece) ++ get_or piece n 0 ∷ []))) number items (Err stop) → Handled (fed intake (whole_lines (bytes ++ piece))) number items (Err stop)
  stops_at bytes piece n number items stop within h =
      let front = (bytes ++ take n piece) ++ get_or piece n 0 ∷ [] in
      let is : bytes ++ piece ≡ front ++ drop (n + 1) piece =
      ap (λ l. bytes ++ l) (sym (take-append-drop (n + 1) piece) ∙ ap (λ l. l ++ drop (n + 1) piece) (take_more piece n 0 within))
      ∙ sym (append_assoc bytes (take n piece ++ get_or piece n 0 ∷ []) (drop (n + 1) piece)) ∙ ap (λ l. l ++ drop (n + 1) piece) (sym (append_assoc bytes (take n piece) (get_or piece n 0 ∷ []))) in
      handled_of _ _ number items (Err stop) (ap (λ l. fed intake (whole_lines l)) is) (stopped_on front (drop (n + 1) piece) number items stop h)

  -- one byte more of a piece
  pub goes_on : (bytes piece : List ℕ) (n : ℕ) (so_far : Progress) (items : List Item) → n < length piece
      → IntakeStands intake ((bytes ++ take n piece) ++ get_or piece n 0 ∷ []) so_far items → IntakeStands intake (bytes ++ take (n + 1) piece) so_far items
  goes_on bytes piece n so_far items within s =
      subst (λ l. IntakeStands intake l so_far items) (append_assoc bytes (take n piece) (get_or piece n 0 ∷ []) ∙ ap (λ l. bytes ++ l) (sym (take_more piece n 0 within))) s

  -- what the lines put, once the last is taken as it is
  pub record Last (to whole : Fed) : Type 0 where
    pub items : whole.items ≡ to.items
    pub fault : whole.fault ≡ to.fault

  empty_line : (number : ℕ) (items : List Item) (line : List ℕ) → length line ≡ 0 → after_line intake (open_at number items) line ≡ open_at (number + 1) items
  unfolding after_line
  empty_line number items line none = ap (with_said intake number items) (says_nothing intake line none)

  pub at_last : (bytes : List ℕ) (so_far : Progress) (items : List Item) → IntakeStands intake bytes so_far items
      → Last (after_line intake (open_at so_far.number items) so_far.line.items) (fed intake (lines_of bytes))
  at_last bytes so_far items s =
      let line = so_far.line.items in
      ⊎_elim {C = Last (after_line intake (open_at so_far.number items) line) (fed intake (lines_of bytes))}
      (λ (some : 0 < length line).
      let e = ap (fed intake) (lines_with bytes (omega (arith, ap length s.last, some))) ∙ fed_append (whole_lines bytes) (last_piece bytes ∷ []) ∙ ap (λ z. after_line intake z (last_piece bytes)) s.lines ∙ ap (after_line intake (open_at so_far.number items)) s.last in
      record { items = ap (λ (z : Fed). z.items) e; fault = ap (λ (z : Fed). z.fault) e })
      (λ none.
      let e = ap (fed intake) (lines_without bytes (omega (arith, ap length s.last, none))) ∙ s.lines in
      let w = empty_line so_far.number items line (omega (arith, none)) in
      record { items = ap (λ (z : Fed). z.items) e ∙ sym (ap (λ (z : Fed). z.items) w); fault = ap (λ (z : Fed). z.fault) e ∙ sym (ap (λ (z : Fed). z.fault) w) })
      (cases_lt 0 (length line))
