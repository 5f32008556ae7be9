-- The reading, piece by piece.
use Rattle.std.proofs.Common.{◌≡◌, ◌⊎◌, ℕ, ◌+◌, ◌≤◌, List, [], ◌++◌, length, take, drop, Option, Result, Ok, Err, refl, sym, ap, subst, ◌∙◌, inl, inr, arith, append_assoc, append-nil, length-append}
use Rattle.std.proofs.KnownBytes.{Consumes-trans, Consumes-nil, Consumes-kept}
use Rattle.std.proofs.Math.Seq.{take-append-add}
use Rattle.std.proofs.lemmas.List.{take-append-drop, take-take, length-take-le}
use Rattle.std.specs.Io.KnownBytes.{Consumes, Keeps, IsAtEnd}
use Rattle.raw_io.specs.Causes.{Rose}
use Rattle.raw_io.specs.Sights.{SourceSight}
use Rattle.raw_text.specs.Lines.{lines_of}
use Rattle.raw_queue.specs.declared.item.Item.{Item}
use Rattle.raw_live_text.specs.declared.intake.Intake.{Intake}
use Rattle.raw_live_text.specs.declared.progress.Progress.{Progress}
use Rattle.raw_live_text.specs.declared.stop.Stop.{Stop}
use Rattle.raw_live_text.specs.declared.stop.Stop.TheVariants.{At, Read, TooLong, Memory}
use Rattle.raw_live_text.specs.declared.reader.TheConstants.{PIECE}
use Rattle.raw_live_text.specs.Feeding.{Fed, open_at, after_line, fed, whole_lines, last_piece, BeginsItems, Handled, IntakeStands, ReadAs, StopsInPiece, Reads, EndedWith, ReadsAll}
use Rattle.raw_live_text.proofs.Pieces.{whole_grows, lines_more}
use Rattle.raw_live_text.proofs.Feeds.{begins_same, begins_over, fed_grows, handled_of, stopped_on, at_last, Last}

-- where nothing was read yet
pub begins : (intake : Intake) (so_far : Progress) (items : List Item) → items ≡ [] → so_far.number ≡ intake.line → so_far.line.items ≡ [] → IntakeStands intake [] so_far items
unfolding fed whole_lines last_piece
begins intake so_far items none number line = record { lines = ap (λ n. open_at n []) (sym number) ∙ ap (open_at so_far.number) (sym none); last = sym line }

module _ (intake : Intake) (rest : List ℕ) (most : ℕ) (old new : SourceSight) where
  whole_begin : (bytes : List ℕ) → BeginsItems (fed intake (whole_lines bytes)).items (fed intake (lines_of bytes)).items
  whole_begin bytes = let more = lines_more bytes in
      let g = fed_grows intake (whole_lines bytes) more.0 in record { rest = g.rest; is = ap (λ l. (fed intake l).items) more.1 ∙ g.is }

  -- a stop at whole lines
  stops_as : (bytes : List ℕ) (number : ℕ) (items : List Item) (stop : Stop) → Handled (fed intake (whole_lines (rest ++ bytes))) number items (Err stop) → ReadAs old new intake rest most bytes items (Err stop)
  stops_as bytes number items (At line kind) h = inl h
  stops_as bytes number items Memory h = begins_over _ _ _ h (whole_begin (rest ++ bytes))
  stops_as bytes number items _ h = absurd h

  -- a stop at what was read before
  pub stops_early : (number : ℕ) (items : List Item) (stop : Stop) → new ≡ old → Handled (fed intake (whole_lines rest)) number items (Err stop) → Reads old new intake rest most items (Err stop)
  stops_early number items stop same h = record {
    bytes = [];
    taken = rw same (Consumes-nil old.left);
    counted = rw same (omega arith);
    prompt = inl refl;
    bounded = omega arith;
    meant = stops_as [] number items stop (handled_of intake _ _ number items (Err stop) (ap (λ l. fed intake (whole_lines l)) (append-nil rest)) h);
  }

  -- behind lines without a fault nothing more was read
  nothing_more : (bytes : List ℕ) (so_far : Progress) (items : List Item) → IntakeStands intake (rest ++ bytes) so_far items → StopsInPiece intake rest bytes
  nothing_more bytes so_far items s = record { front = bytes; piece = []; is = sym (append-nil bytes); short = omega arith; faultless = ap (λ (z : Fed). z.fault) s.lines }

  -- a call failed, and gave nothing
  pub fails : (left : Option (List ℕ)) (bytes : List ℕ) (so_far : Progress) (items : List Item) → Consumes old.left left bytes → Keeps left new.left → new.given ≡ old.given + length bytes → Rose old.faults new.faults
      → length bytes ≤ most → IntakeStands intake (rest ++ bytes) so_far items → Reads old new intake rest most items (Err Read)
  fails left bytes so_far items taken kept counted rose few s = record {
    bytes = bytes;
    taken = Consumes-kept _ _ _ _ taken kept;
    counted = counted;
    prompt = inr (nothing_more bytes so_far items s);
    bounded = omega (arith, few);
    meant = (few, rose, (ap (λ (z : Fed). z.fault) s.lines, ap (λ (z : Fed). z.items) s.lines));
  }

  module _ (left : Option (List ℕ)) (buf : List ℕ) (given within : ℕ) (bytes : List ℕ) (taken : Consumes old.left left bytes) (more : Consumes left new.left (take given buf)) (room : given ≤ length buf)
      (short : given ≤ PIECE) (within_most : length bytes + given ≤ most + 1) (counted : new.given ≡ old.given + (length bytes + given)) (fits : within ≤ given)
      (before : Progress) (put : List Item) (stood : IntakeStands intake (rest ++ bytes) before put) where
    cut : take given buf ≡ take within buf ++ drop within (take given buf)
    cut = sym (take-append-drop within (take given buf)) ∙ ap (λ l. l ++ drop within (take given buf)) (take-take within given buf fits)

    count : length (bytes ++ take given buf) ≡ length bytes + given
    count = rw (length-append, length-take-le) refl

    in_piece : StopsInPiece intake rest (bytes ++ take given buf)
    in_piece = record {
      front = bytes;
      piece = take given buf;
      is = refl;
      short = omega (arith, length-append bytes (take given buf), count, short);
      faultless = ap (λ (z : Fed). z.fault) stood.lines;
    }

    at_most : length (bytes ++ take given buf) ≤ most + 1
    at_most = omega (arith, count, within_most)

    -- a stop at a piece, of which a front was handed on
    pub stops : (number : ℕ) (items : List Item) (stop : Stop) → Handled (fed intake (whole_lines ((rest ++ bytes) ++ take within buf))) number items (Err stop) → Reads old new intake rest most items (Err stop)
    stops number items stop h =
        let is : rest ++ (bytes ++ take given buf) ≡ ((rest ++ bytes) ++ take within buf) ++ drop within (take given buf) =
        sym (append_assoc rest bytes (take given buf)) ∙ ap (λ l. (rest ++ bytes) ++ l) cut ∙ sym (append_assoc (rest ++ bytes) (take within buf) (drop within (take given buf))) in record {
          bytes = bytes ++ take given buf;
          taken = Consumes-trans _ _ _ _ _ taken more;
          counted = rw count counted;
          prompt = inr in_piece;
          bounded = at_most;
          meant = stops_as (bytes ++ take given buf) number items stop (handled_of intake _ _ number items (Err stop) (ap (λ l. fed intake (whole_lines l)) is) (stopped_on intake ((rest ++ bytes) ++ take within buf) (drop within (take given buf)) number items stop h));
        }

    pub too_long : (so_far : Progress) (items : List Item) → length bytes + within ≡ most → length bytes + given ≡ most + 1 → IntakeStands intake ((rest ++ bytes) ++ take within buf) so_far items
        → Reads old new intake rest most items (Err TooLong)
    too_long so_far items full over s =
        let front : take most (bytes ++ take given buf) ≡ bytes ++ take within buf =
        ap (λ n. take n (bytes ++ take given buf)) (sym full) ∙ take-append-add bytes (take given buf) within ∙ ap (λ l. bytes ++ l) (take-take within given buf fits) in
        let is = ap (λ l. fed intake (whole_lines l)) (ap (λ l. rest ++ l) front ∙ sym (append_assoc rest bytes (take within buf))) ∙ s.lines in record {
          bytes = bytes ++ take given buf;
          taken = Consumes-trans _ _ _ _ _ taken more;
          counted = rw count counted;
          prompt = inr in_piece;
          bounded = at_most;
          meant = (count ∙ over, (ap (λ (z : Fed). z.fault) is, ap (λ (z : Fed). z.items) is));
        }

  -- the last line, once the source is at its end
  finish_as : (bytes : List ℕ) (so_far : Progress) (items : List Item) (number : ℕ) (now : List Item) (r : Result (Unit {0}) Stop) → IsAtEnd new.left → length bytes ≤ most
      → Last intake (after_line intake (open_at so_far.number items) so_far.line.items) (fed intake (lines_of (rest ++ bytes)))
      → Handled (after_line intake (open_at so_far.number items) so_far.line.items) number now r → ReadAs old new intake rest most bytes now r
  finish_as bytes so_far items number now (Ok x) end few l h = (end, few, (l.fault ∙ ap (λ (z : Fed). z.fault) h, l.items ∙ ap (λ (z : Fed). z.items) h))
  finish_as bytes so_far items number now (Err (At line kind)) end few l h = inr (end, l.fault ∙ h.0, l.items ∙ h.1)
  finish_as bytes so_far items number now (Err Memory) end few l h = record { rest = h.rest; is = l.items ∙ h.is }
  finish_as bytes so_far items number now _ end few l h = absurd h

  pub finishes : (left : Option (List ℕ)) (bytes : List ℕ) (so_far : Progress) (items : List Item) (number : ℕ) (now : List Item) (r : Result (Unit {0}) Stop)
      → Consumes old.left left bytes → Consumes left new.left [] → new.given ≡ old.given + length bytes → IsAtEnd new.left → length bytes ≤ most → IntakeStands intake (rest ++ bytes) so_far items
      → Handled (after_line intake (open_at so_far.number items) so_far.line.items) number now r → Reads old new intake rest most now r
  finishes left bytes so_far items number now r taken none counted end few s h = record {
    bytes = bytes;
    taken = subst (Consumes old.left new.left) (append-nil bytes) (Consumes-trans _ _ _ _ _ taken none);
    counted = counted;
    prompt = inr (nothing_more bytes so_far items s);
    bounded = omega (arith, few);
    meant = finish_as bytes so_far items number now r end few (at_last intake (rest ++ bytes) so_far items s) h;
  }

  front_begins : (bytes : List ℕ) → BeginsItems (fed intake (whole_lines (rest ++ take most bytes))).items (fed intake (whole_lines (rest ++ bytes))).items
  front_begins bytes =
      let is : rest ++ bytes ≡ (rest ++ take most bytes) ++ drop most bytes = ap (λ l. rest ++ l) (sym (take-append-drop most bytes)) ∙ sym (append_assoc rest (take most bytes) (drop most bytes)) in
      let more = whole_grows (rest ++ take most bytes) (drop most bytes) in
      let g = fed_grows intake (whole_lines (rest ++ take most bytes)) more.0 in
      record { rest = g.rest; is = ap (λ l. (fed intake l).items) (ap whole_lines is ∙ more.1) ∙ g.is }

  -- want of memory for the end
  gives_up : (words : List Item) (r : Result (Unit {0}) Stop) → Reads old new intake rest most words r → Reads old new intake rest most words (Err Memory)
  gives_up words (Ok x) h = record { bytes = h.bytes; taken = h.taken; counted = h.counted; prompt = h.prompt; bounded = h.bounded; meant = subst (λ l. BeginsItems words l) (sym h.meant.2.1) (begins_same words) }
  gives_up words (Err (At line kind)) h = record {
    bytes = h.bytes;
    taken = h.taken;
    counted = h.counted;
    prompt = h.prompt;
    bounded = h.bounded;
    meant = elim h.meant [
      | inl w ↦ subst (λ l. BeginsItems l (fed intake (lines_of (rest ++ h.bytes))).items) w.1 (whole_begin (rest ++ h.bytes))
      | inr w ↦ subst (λ l. BeginsItems words l) (sym w.2) (begins_same words)
    ];
  }
  gives_up words (Err Read) h = record { bytes = h.bytes; taken = h.taken; counted = h.counted; prompt = h.prompt; bounded = h.bounded; meant = subst (λ l. BeginsItems l (fed intake (lines_of (rest ++ h.bytes))).items) h.meant.2.1 (whole_begin (rest ++ h.bytes)) }
  gives_up words (Err TooLong) h = record { bytes = h.bytes; taken = h.taken; counted = h.counted; prompt = h.prompt; bounded = h.bounded; meant = begins_over _ _ _ (subst (λ l. BeginsItems l (fed intake (whole_lines (rest ++ h.bytes))).items) h.meant.1.1 (front_begins h.bytes)) (whole_begin (rest ++ h.bytes)) }
  gives_up words (Err Memory) h = h

  pub ends : (words items : List Item) (read result : Result (Unit {0}) Stop) → Reads old new intake rest most words read → EndedWith words items result → (result ≡ read) ⊎ (result ≡ Err Memory) → ReadsAll old new intake rest most items result
  ends words items read result h e same = record {
    words = words;
    reads = elim same [
      | inl is ↦ subst (λ r. Reads old new intake rest most words r) (sym is) h
      | inr is ↦ subst (λ r. Reads old new intake rest most words r) (sym is) (gives_up words read h)
    ];
    ended = e;
  }
