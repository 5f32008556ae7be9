-- What is read of a turn is the turn: where no line tells it, the last line of a wait or a stop does.
use Rattle.std.proofs.Common.{◌≡◌, ℕ, zero, suc, ◌+◌, ◌-◌, ◌<◌, Bool, true, false, not, cond, eqb, List, [], ◌∷◌, Option, Some, None, refl, sym, ap, ◌∙◌, arith}
use Rattle.std.specs.Prelude.{slice_get}
use Rattle.std.specs.List.{filter, last_or}
use Rattle.std.proofs.lemmas.Bool.{eq-eqb, ne_eqb, eqb-true, false≢true}
use Rattle.std.proofs.lemmas.List.Elements.{filter-append}
use Rattle.raw_grid.specs.Topology.{proc_count}
use Rattle.raw_network.specs.Network.{event_of}
use Rattle.raw_model.specs.Program.{ProgramSet, IsSet}
use Rattle.raw_model.specs.Local.{Local}
use Rattle.raw_model.specs.Machine.{machine_of}
use Rattle.raw_model.specs.Start.{MachineState}
use Rattle.raw_model.specs.Rest.{stopped}
use Rattle.raw_model.specs.Waits.{first_wait}
use Rattle.raw_model.specs.StateTexts.{mark_of, local_mark}
use Rattle.raw_model.proofs.Awaited.{none_where_stopped}
use Rattle.raw_state_text.specs.Parts.{mark_by}
use Rattle.raw_state_text.proofs.MarkTexts.{mark_is}
use Rattle.raw_serial.specs.declared.turn.Turn.{Turn}
use Rattle.raw_serial.specs.declared.turn.Turn.TheVariants.{Fired, Stalled, Stopped, Waits}
use Rattle.raw_serial.specs.Turns.{turn_by}
use Rattle.raw_clock.specs.Clock.{machine_at, clock, turn_in, is_fired, owes}
use Rattle.raw_trace.specs.Lines.{Line, Waiting, Stopping, turn_line, is_told, turn_before, turn_lines, trace_lines}
use Rattle.raw_trace.specs.Reading.{is_standstill, lines_of, lines_before, either_line}
use Rattle.raw_trace.specs.Laws.{local_at, IsPosition, IsTurnRead}
use Rattle.raw_trace.proofs.Lists.{last_or-append}
use Rattle.raw_trace.proofs.Places.{history, history_is, before_is, in_is, own_turns}
use Rattle.raw_trace.proofs.Next.{next_local}
use Rattle.raw_trace.proofs.Told.{lines_more}

-- what a turn says of its parts
pub stopped_stops : (stops owing : Bool) (wait : Option ℕ) → Stopped ≡ turn_by stops owing wait → stops ≡ true
stopped_stops true owing wait e = refl
stopped_stops false true wait e = absurd (cc e)
stopped_stops false false None e = absurd (cc e)
stopped_stops false false (Some w) e = absurd (cc e)

-- marks are alike where the local states and the first waits are
pub same_mark : (g : ProgramSet) (s t : MachineState) (p : ℕ) (o : Option Local) → slice_get s.locals p ≡ o → slice_get t.locals p ≡ o
    → first_wait g s p ≡ first_wait g t p → mark_of g s p ≡ mark_of g t p
unfolding mark_of
same_mark g s t p None here there wait = ap (local_mark g s p) here ∙ sym (ap (local_mark g t p) there)
same_mark g s t p (Some l) here there wait =
    mark_is g s p l here ∙ ap (λ w. mark_by g p w l) wait ∙ sym (mark_is g t p l there)

-- the turn is a wait or a stop
abbrev IsIdle : Turn → Type 0
IsIdle Stopped = Unit {0}
IsIdle (Waits wire) = Unit {0}
IsIdle _ = ⊥

module _ (set : ProgramSet) (valid : IsSet set) (p : ℕ) (below : p < proc_count set.topo) where
  abbrev turn : ℕ → Turn
  turn k = turn_in set (clock set k) p

  -- the line of the turn in cycle k, whether it is told or not
  abbrev line : ℕ → Line
  line k = turn_line set (clock set k) p (turn k)

  -- a processor that is stopped has the mark that it had
  pub same_stop : (k : ℕ) → Stopped ≡ turn k → Stopped ≡ turn (suc k) → mark_of set (machine_at (clock set k)) p ≡ mark_of set (machine_at (clock set (suc k))) p
  same_stop k now next =
      let s = machine_at (clock set k) in
      let t = machine_at (clock set (suc k)) in
      let stop : stopped set s p ≡ true = stopped_stops (stopped set s p) (owes set (clock set k) p) (first_wait set s p) now in
      let still : stopped set t p ≡ true = stopped_stops (stopped set t p) (owes set (clock set (suc k)) p) (first_wait set t p) next in
      let same : local_at set (suc k) p ≡ local_at set k p =
      next_local set valid k p below ∙ ap (λ turn. cond (is_fired turn) (event_of (machine_of set) s p).after (local_at set k p)) (sym now) in
      same_mark set s t p (local_at set k p) refl same (none_where_stopped set s p stop ∙ sym (none_where_stopped set t p still))

  -- a turn that is not told is as the one before it
  same_line : (k : ℕ) (next now : Turn) → next ≡ turn (suc k) → now ≡ turn k → is_told next (Some now) ≡ false → IsIdle now × (line k ≡ line (suc k))
  same_line k Fired now a b off = absurd (false≢true (sym off))
  same_line k Stalled now a b off = absurd (false≢true (sym off))
  same_line k Stopped Fired a b off = absurd (false≢true (sym off))
  same_line k Stopped Stalled a b off = absurd (false≢true (sym off))
  same_line k Stopped (Waits wire) a b off = absurd (false≢true (sym off))
  same_line k Stopped Stopped a b off = (
    tt,
    ap (turn_line set (clock set k) p) (sym b) ∙ ap (Stopping p) (same_stop k b a) ∙ ap (turn_line set (clock set (suc k)) p) a,
  )
  same_line k (Waits wire) Fired a b off = absurd (false≢true (sym off))
  same_line k (Waits wire) Stalled a b off = absurd (false≢true (sym off))
  same_line k (Waits wire) Stopped a b off = absurd (false≢true (sym off))
  same_line k (Waits wire) (Waits earlier) a b off =
      let same : wire.0 ≡ earlier.0 = eqb-true wire.0 earlier.0 (by_test (eqb wire.0 earlier.0) off) in (
        tt,
        ap (turn_line set (clock set k) p) (sym b) ∙ ap (Waiting p) (sym same) ∙ ap (turn_line set (clock set (suc k)) p) a,
      )
    where
      by_test : (b : Bool) → not b ≡ false → b ≡ true
      by_test true e = refl
      by_test false e = absurd (false≢true (sym e))

  idle_line : (k : ℕ) (now : Turn) → IsIdle now → is_standstill (turn_line set (clock set k) p now) ≡ true
  idle_line k Stopped idle = refl
  idle_line k (Waits wire) idle = refl
  idle_line k _ idle = absurd idle

  module _ (first : ℕ) where
    abbrev lines : ℕ → List Line
    lines m = history set first p m

    abbrev last_idle : ℕ → Option Line
    last_idle m = last_or None (filter is_standstill (lines m))

    -- whether the turn is told
    abbrev told_at : ℕ → Bool
    told_at k = is_told (turn k) (turn_before set first k p)

    before_next : (m : ℕ) → turn_before set first (first + suc m) p ≡ Some (turn (first + m))
    before_next m =
        let back : first + suc m - 1 ≡ first + m = omega arith in
        ap (λ b. cond b None (Some (turn_in set (clock set (first + suc m - 1)) p))) (ne_eqb (first + suc m) first (λ e. absurd (omega (arith, e))))
        ∙ ap (λ k. Some (turn k)) back

    before_first : turn_before set first (first + 0) p ≡ None
    before_first = let same : first + 0 ≡ first = omega arith in ap (λ b. cond b None (Some (turn_in set (clock set (first + 0 - 1)) p))) (eq-eqb (first + 0) first same)

    always_told : (now : Turn) → is_told now None ≡ true
    always_told Fired = refl
    always_told _ = refl

    -- behind the lines of a cycle in which it waits or is stopped, the last such line tells that turn
    idle_told : (m : ℕ) (b : Bool) → told_at (first + m) ≡ b → (b ≡ false → last_idle m ≡ Some (line (first + m)))
        → IsIdle (turn (first + m)) → last_idle (suc m) ≡ Some (line (first + m))
    idle_told m b is untold idle =
        ap (λ xs. last_or None (filter is_standstill xs)) (lines_more set valid p below first m)
        ∙ ap (last_or None) (filter-append is_standstill (lines m) (turn_lines set first (first + m) p))
        ∙ last_or-append None (filter is_standstill (lines m)) (filter is_standstill (turn_lines set first (first + m) p))
        ∙ ap (λ d. last_or (last_idle m) (filter is_standstill (cond d (line (first + m) ∷ []) []))) is
        ∙ by_test b untold
      where
        by_test : (b : Bool) → (b ≡ false → last_idle m ≡ Some (line (first + m)))
            → last_or (last_idle m) (filter is_standstill (cond b (line (first + m) ∷ []) [])) ≡ Some (line (first + m))
        by_test true untold = ap (λ d. last_or (last_idle m) (cond d (line (first + m) ∷ []) [])) (idle_line (first + m) (turn (first + m)) idle)
        by_test false untold = untold refl

    -- a turn that is not told is told by the last line of a wait or a stop
    untold_read : (m : ℕ) → told_at (first + m) ≡ false → last_idle m ≡ Some (line (first + m))
    untold_read zero off = absurd (false≢true (sym off ∙ ap (is_told (turn (first + 0))) before_first ∙ always_told (turn (first + 0))))
    untold_read (suc m) off =
        let more : first + suc m ≡ suc (first + m) = omega arith in
        let next : is_told (turn (suc (first + m))) (Some (turn (first + m))) ≡ false =
        ap (λ k. is_told (turn k) (Some (turn (first + m)))) (sym more) ∙ sym (ap (is_told (turn (first + suc m))) (before_next m)) ∙ off in
        let same = same_line (first + m) (turn (suc (first + m))) (turn (first + m)) refl refl next in
        idle_told m (told_at (first + m)) refl (untold_read m) same.0 ∙ ap Some (same.1 ∙ sym (ap line more))

    turn_told : (m : ℕ) (b : Bool) → told_at (first + m) ≡ b
        → either_line (slice_get (cond b (line (first + m) ∷ []) []) 0) (last_idle m) ≡ Some (line (first + m))
    turn_told m true is = refl
    turn_told m false is = untold_read m is

    pub turn_read : (n past k : ℕ) → IsPosition n first past k → IsTurnRead set k p (trace_lines set n first past)
    turn_read n past k is =
        let later = is.later in
        let same : first + (k - first) ≡ k = omega (arith, later) in
        ap (λ xs. either_line (slice_get (lines_of p xs) 0) (last_or None (filter is_standstill (lines_of p (lines_before k (trace_lines set n first past))))))
        (in_is set first n past k is)
        ∙ ap (λ xs. either_line (slice_get xs 0) (last_or None (filter is_standstill (lines_of p (lines_before k (trace_lines set n first past))))))
        (own_turns set first p k below)
        ∙ ap (λ xs. either_line (slice_get (turn_lines set first k p) 0) (last_or None (filter is_standstill (lines_of p xs)))) (before_is set first n past k is)
        ∙ ap (λ xs. either_line (slice_get (turn_lines set first k p) 0) (last_or None (filter is_standstill xs))) (history_is set first p (k - first) below)
        ∙ ap (λ j. either_line (slice_get (turn_lines set first j p) 0) (last_idle (k - first))) (sym same)
        ∙ turn_told (k - first) (told_at (first + (k - first))) refl
        ∙ ap (λ j. Some (line j)) same
