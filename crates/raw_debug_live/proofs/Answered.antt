-- The answers behind one byte more, and at the end.
use Rattle.std.proofs.Common.{◌≡◌, ℕ, ◌<◌, List, [], ◌∷◌, ◌++◌, length, Result, Ok, Err, refl, sym, ap, ◌∙◌, subst, arith, append-nil, length-take}
use Rattle.std.specs.Prelude.{OnOk, is_err, true, false}
use Rattle.std.specs.Io.KnownBytes.{Appends}
use Rattle.std.proofs.KnownBytes.{Appends-nil}
use Rattle.raw_io.specs.Sights.{Sight, SourceSight}
use Rattle.raw_io.specs.Writing.{Writes}
use Rattle.raw_io.specs.declared.Failed.{Failed}
use Rattle.raw_text.specs.Lines.{lines_of}
use Rattle.raw_model.specs.Program.{ProgramSet}
use Rattle.raw_state_text.proofs.Sections.{Begun, last_part}
use Rattle.raw_live_text.specs.Feeding.{whole_lines, last_piece}
use Rattle.raw_live_text.proofs.Pieces.{whole_end, last_end, whole_in, last_in, lines_without, lines_with}
use Rattle.raw_debug.specs.Commands.{LabelPlaces}
use Rattle.raw_debug.specs.Script.{Spot, first_spot}
use Rattle.raw_debug.specs.Live.{Session, line_answer, line_spot, answers, spot_after}
use Rattle.raw_debug.proofs.Replaying.{more_answers}
use Rattle.raw_debug_live.specs.declared.answering.Halt.{Halt}
use Rattle.raw_debug_live.specs.declared.line.LineStart.{LineStart}
use Rattle.raw_debug_live.specs.declared.line.TheConstants.{HELD}
use Rattle.raw_debug_live.specs.Bytes.{held}
use Rattle.raw_debug_live.specs.Answering.{At, AtAfter, FailsIn, Finished, Answers}
use Rattle.raw_debug_live.proofs.Holding.{same_answer, same_spot}

-- one line more
more_text : (labels : LabelPlaces) (set : ProgramSet) (spot : Spot) (lines : List (List ℕ)) (line : List ℕ)
    → answers labels set spot (lines ++ line ∷ []) ≡ answers labels set spot lines ++ line_answer labels set (spot_after labels set spot lines) line
more_text labels set spot lines line =
    more_answers labels set spot lines (line ∷ []) ∙ ap (λ text. answers labels set spot lines ++ text) (append-nil (line_answer labels set (spot_after labels set spot lines) line))

more_spot : (labels : LabelPlaces) (set : ProgramSet) (spot : Spot) (lines : List (List ℕ)) (line : List ℕ)
    → spot_after labels set spot (lines ++ line ∷ []) ≡ line_spot labels set (spot_after labels set spot lines) line
more_spot labels set spot [] line = refl
more_spot labels set spot (first ∷ lines) line = more_spot labels set (line_spot labels set spot first) lines line

module _ (labels : LabelPlaces) (set : ProgramSet) (bytes : List ℕ) (before mid : Sight) (debugger : Session) (line : LineStart) (at : At labels set bytes before mid debugger line) where
  -- a byte of the line that is not whole
  pub goes_on : (next : ℕ) → (next ≡ 10 → ⊥) → (longer : LineStart)
      → ((piece : List ℕ) → line.bytes.items ≡ held piece → longer.bytes.items ≡ held (piece ++ next ∷ []))
      → At labels set (bytes ++ next ∷ []) before mid debugger longer
  goes_on next other longer pushed =
      let same = whole_in bytes next other in
      record {
        set_is = at.set_is;
        spot = at.spot ∙ ap (spot_after labels set first_spot) (sym same);
        piece = pushed (last_piece bytes) at.piece ∙ ap held (sym (last_in bytes next other));
        put = subst (λ lines. Appends before.bytes mid.bytes (answers labels set first_spot lines)) (sym same) at.put;
        later = at.later;
      }

  -- the answer to the line that is held, behind those before it
  module _ (lines : List (List ℕ)) (is : lines ≡ whole_lines bytes ++ last_piece bytes ∷ []) (new : Sight) (r : Result (Unit {0}) Failed) (text : List ℕ)
      (given : text ≡ line.bytes.items) (told : Writes mid new (line_answer labels debugger.set debugger.spot text) r) where
    answer_is : line_answer labels debugger.set debugger.spot text ≡ line_answer labels set (spot_after labels set first_spot (whole_lines bytes)) (last_piece bytes)
    answer_is =
        ap (line_answer labels debugger.set debugger.spot) (given ∙ at.piece)
        ∙ ap (λ g. line_answer labels g debugger.spot (held (last_piece bytes))) at.set_is
        ∙ ap (λ s. line_answer labels set s (held (last_piece bytes))) at.spot
        ∙ same_answer labels set (spot_after labels set first_spot (whole_lines bytes)) (last_piece bytes)

    pub whole_told : Writes before new (answers labels set first_spot lines) r
    whole_told =
        let whole = answers labels set first_spot lines in
        let rest = line_answer labels debugger.set debugger.spot text in
        let begun : Begun before mid rest whole = record {
          text = answers labels set first_spot (whole_lines bytes);
          appended = at.put;
          joined = ap (λ t. answers labels set first_spot (whole_lines bytes) ++ t) answer_is ∙ sym (more_text labels set first_spot (whole_lines bytes) (last_piece bytes))
              ∙ ap (answers labels set first_spot) (sym is);
          later = at.later;
        } in
        last_part before mid new rest rest whole r begun refl told

  -- the byte that ends the line
  pub ended : (next : ℕ) → next ≡ 10 → (new : Sight) (moved : Session) (cleared : LineStart) (r : Result (Unit {0}) Failed) (text : List ℕ) → text ≡ line.bytes.items
      → Writes mid new (line_answer labels debugger.set debugger.spot text) r → moved.set ≡ debugger.set
      → OnOk r (moved.spot ≡ line_spot labels debugger.set debugger.spot text) → cleared.bytes.items ≡ []
      → AtAfter labels set (bytes ++ next ∷ []) before new moved cleared r
  ended next is new moved cleared (Ok x) text given told same spot empty =
      let lines = whole_end bytes next is in
      let whole = whole_told (whole_lines (bytes ++ next ∷ [])) lines new (Ok x) text given told in
      record {
        set_is = same ∙ at.set_is;
        spot = spot ∙ ap (line_spot labels debugger.set debugger.spot) (given ∙ at.piece)
            ∙ ap (λ g. line_spot labels g debugger.spot (held (last_piece bytes))) at.set_is
            ∙ ap (λ s. line_spot labels set s (held (last_piece bytes))) at.spot
            ∙ same_spot labels set (spot_after labels set first_spot (whole_lines bytes)) (last_piece bytes)
            ∙ sym (more_spot labels set first_spot (whole_lines bytes) (last_piece bytes))
            ∙ ap (spot_after labels set first_spot) (sym lines);
        piece = empty ∙ sym (ap held (last_end bytes next is));
        put = whole.ok;
        later = whole.count;
      }
  ended next is new moved cleared (Err e) text given told same spot empty =
      let whole = whole_told (whole_lines (bytes ++ next ∷ [])) (whole_end bytes next is) new (Err e) text given told in
      record { front = whole.front; fault = whole.fault }

  -- the end, where no line is left, and where one is
  no_piece : length line.bytes.items ≡ 0 → length (last_piece bytes) ≡ 0
  no_piece none = let size = length-take HELD (last_piece bytes) in let held_size = ap length at.piece in omega (arith, none, size, held_size)

  pub ends_without : length line.bytes.items ≡ 0 → Finished labels set bytes before mid (Ok tt)
  ends_without none = record {
    put = subst (λ lines. Appends before.bytes mid.bytes (answers labels set first_spot lines)) (sym (lines_without bytes (no_piece none))) at.put;
    later = at.later;
  }

  pub ends_with : 0 < length line.bytes.items → (new : Sight) (r : Result (Unit {0}) Failed) (text : List ℕ) → text ≡ line.bytes.items
      → Writes mid new (line_answer labels debugger.set debugger.spot text) r → Finished labels set bytes before new r
  ends_with some new (Ok x) text given told =
      let size = length-take HELD (last_piece bytes) in
      let held_size = ap length at.piece in
      let whole = whole_told (lines_of bytes) (lines_with bytes (omega (arith, some, size, held_size))) new (Ok x) text given told in
      record { put = whole.ok; later = whole.count }
  ends_with some new (Err e) text given told =
      let size = length-take HELD (last_piece bytes) in
      let held_size = ap length at.piece in
      let whole = whole_told (lines_of bytes) (lines_with bytes (omega (arith, some, size, held_size))) new (Err e) text given told in
      record { front = whole.front; fault = whole.fault }

-- before the first byte
pub begins : (labels : LabelPlaces) (set : ProgramSet) (before : Sight) (debugger : Session) (line : LineStart) → debugger.set ≡ set → debugger.spot ≡ first_spot → line.bytes.items ≡ []
    → At labels set [] before before debugger line
unfolding whole_lines last_piece
begins labels set before debugger line same first empty = record {
  set_is = same;
  spot = first;
  piece = empty;
  put = Appends-nil before.bytes;
  later = omega arith;
}

-- an answer that failed
pub fails_in : (labels : LabelPlaces) (set : ProgramSet) (bytes : List ℕ) (before now : Sight) (debugger : Session) (line : LineStart) (r : Result (Unit {0}) Failed) → is_err r ≡ true
    → AtAfter labels set bytes before now debugger line r → FailsIn before now (answers labels set first_spot (whole_lines bytes))
fails_in labels set bytes before now debugger line (Ok x) err after = absurd (cc err)
fails_in labels set bytes before now debugger line (Err e) err after = after

-- and one that did not
pub goes_in : (labels : LabelPlaces) (set : ProgramSet) (bytes : List ℕ) (before now : Sight) (debugger : Session) (line : LineStart) (r : Result (Unit {0}) Failed) → is_err r ≡ false
    → AtAfter labels set bytes before now debugger line r → At labels set bytes before now debugger line
goes_in labels set bytes before now debugger line (Ok x) err after = after
goes_in labels set bytes before now debugger line (Err e) err after = absurd (cc err)

-- what was answered with the labels and the set of another name
pub answers_of : (old new : SourceSight) (before now : Sight) (labels own_labels : LabelPlaces) (set own : ProgramSet) (most : ℕ) (r : Result (Unit {0}) Halt)
    → own_labels ≡ labels → own ≡ set → Answers old new before now own_labels own most r → Answers old new before now labels set most r
answers_of old new before now labels own_labels set own most r same same_set answers =
    subst (λ l. Answers old new before now l set most r) same (subst (λ s. Answers old new before now own_labels s most r) same_set answers)
