-- Each lost cycle has one root.
use Rattle.std.proofs.Common.{◌≡◌, ℕ, zero, suc, ◌+◌, ◌<◌, Bool, true, false, ◌&&◌, Option, Some, None, refl, sym, ap, ◌∙◌, arith}
use Rattle.std.specs.Prelude.{option_map}
use Rattle.std.specs.List.{count_by, range_with_len}
use Rattle.raw_grid.specs.Topology.{proc_count}
use Rattle.raw_grid.specs.Wires.{producer_of, consumer_of}
use Rattle.raw_model.specs.Program.{ProgramSet, IsSet}
use Rattle.raw_serial.specs.declared.turn.Turn.{Turn}
use Rattle.raw_serial.specs.declared.turn.Turn.TheVariants.{Fired, Stalled, Stopped, Waits}
use Rattle.raw_pace.specs.Path.{far_end}
use Rattle.raw_clock.specs.Clock.{ClockState, clock, turn_in, is_fired, is_stalled, is_stop}
use Rattle.raw_clock.proofs.Counting.{one_if, count_more}
use Rattle.raw_clock.proofs.Spending.{law_spent}
use Rattle.raw_steady.specs.Steady.{root_at, root, root_turn, is_wait, at_fired, at_stalled, at_stopped, at_none, SharesAddUp}

none_some : (w : ℕ) → None ≡ Some w → ⊥
none_some w e = cc

same_some : (v w : ℕ) → Some v ≡ Some w → v ≡ w
same_some v w e = cc

-- a root does not wait
root_rests : (set : ProgramSet) (c : ClockState) (n p r : ℕ) → root set c n p ≡ Some r → is_wait (turn_in set c r) ≡ false
root_rests set c zero p r e = absurd (none_some r e)
root_rests set c (suc n) p r e = by_turn (turn_in set c p) refl e (λ q f. root_rests set c n q r f)
  where
    by_turn : (t : Turn) → turn_in set c p ≡ t
        → root_at t p (λ w. root set c n (far_end (producer_of set.topo) (consumer_of set.topo) p w)) ≡ Some r
        → ((q : ℕ) → root set c n q ≡ Some r → is_wait (turn_in set c r) ≡ false) → is_wait (turn_in set c r) ≡ false
    by_turn (Waits w) is e rest = rest (far_end (producer_of set.topo) (consumer_of set.topo) p w.0) e
    by_turn Fired is e rest = ap (λ q. is_wait (turn_in set c q)) (sym (same_some p r e)) ∙ ap is_wait is
    by_turn Stalled is e rest = ap (λ q. is_wait (turn_in set c q)) (sym (same_some p r e)) ∙ ap is_wait is
    by_turn Stopped is e rest = ap (λ q. is_wait (turn_in set c q)) (sym (same_some p r e)) ∙ ap is_wait is

true_false : true ≡ false → ⊥
true_false e = cc

-- of four kinds a root is one
four : (b : Bool) (o : Option Turn) → ((t : Turn) → o ≡ Some t → is_wait t ≡ false)
    → one_if (b && at_fired o) + one_if (b && at_stalled o) + one_if (b && at_stopped o) + one_if (b && at_none o) ≡ one_if b
four false o rests = refl
four true None rests = refl
four true (Some Fired) rests = refl
four true (Some Stalled) rests = refl
four true (Some Stopped) rests = refl
four true (Some (Waits w)) rests = absurd (true_false (rests (Waits w) refl))

-- and so is a turn, of four others
pub one_kind : (t : Turn) → one_if (is_fired t) + one_if (is_stalled t) + one_if (is_stop t) + one_if (is_wait t) ≡ 1
one_kind Fired = refl
one_kind Stalled = refl
one_kind Stopped = refl
one_kind (Waits w) = refl

module _ (f g h i j : ℕ → Bool) where
  four_counts : ((k : ℕ) → one_if (f k) + one_if (g k) + one_if (h k) + one_if (i k) ≡ one_if (j k)) → (n : ℕ)
      → count_by f (range_with_len 0 n) + count_by g (range_with_len 0 n) + count_by h (range_with_len 0 n) + count_by i (range_with_len 0 n) ≡ count_by j (range_with_len 0 n)
  four_counts one zero = refl
  four_counts one (suc n) =
      let now = one (0 + n) in
      omega (arith, four_counts one n, now, count_more f 0 n, count_more g 0 n, count_more h 0 n, count_more i 0 n, count_more j 0 n)

  all_counts : ((k : ℕ) → one_if (f k) + one_if (g k) + one_if (h k) + one_if (i k) ≡ 1) → (n : ℕ)
      → count_by f (range_with_len 0 n) + count_by g (range_with_len 0 n) + count_by h (range_with_len 0 n) + count_by i (range_with_len 0 n) ≡ n
  all_counts one zero = refl
  all_counts one (suc n) =
      let now = one (0 + n) in
      omega (arith, all_counts one n, now, count_more f 0 n, count_more g 0 n, count_more h 0 n, count_more i 0 n)

module _ (set : ProgramSet) (valid : IsSet set) (n p : ℕ) (below : p < proc_count set.topo) where
  abbrev turn : ℕ → Turn
  turn = λ k. turn_in set (clock set k) p

  abbrev at : ℕ → Option Turn
  at = λ k. root_turn set (clock set k) p

  rests : (k : ℕ) (t : Turn) → at k ≡ Some t → is_wait t ≡ false
  rests k t e = by (root set (clock set k) (suc (proc_count set.topo)) p) refl e
    where
      by : (o : Option ℕ) → root set (clock set k) (suc (proc_count set.topo)) p ≡ o → option_map (λ r. turn_in set (clock set k) r) o ≡ Some t → is_wait t ≡ false
      by None is f = absurd (no_turn f)
        where
          no_turn : None ≡ Some t → ⊥
          no_turn e = cc
      by (Some r) is f =
          let same : turn_in set (clock set k) r ≡ t = cc in
          sym (ap is_wait same) ∙ root_rests set (clock set k) (suc (proc_count set.topo)) p r is

  pub shares_add_up : SharesAddUp set n p
  shares_add_up =
      let once = (law_spent set valid n p below).once in
      let all = all_counts (λ k. is_fired (turn k)) (λ k. is_stalled (turn k)) (λ k. is_stop (turn k)) (λ k. is_wait (turn k)) (λ k. false) (λ k. one_kind (turn k)) n in
      let parts =
      four_counts (λ k. is_wait (turn k) && at_fired (at k)) (λ k. is_wait (turn k) && at_stalled (at k)) (λ k. is_wait (turn k) && at_stopped (at k)) (λ k. is_wait (turn k) && at_none (at k))
      (λ k. is_wait (turn k)) (λ k. four (is_wait (turn k)) (at k) (rests k)) n in
      omega (arith, once, all, parts)
