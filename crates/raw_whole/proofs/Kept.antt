-- What is kept, and one cycle more.
use Rattle.std.proofs.Common.{◌≡◌, ℕ, zero, suc, ◌+◌, ◌-◌, ◌<◌, ◌≤◌, ◌==◌, Bool, true, false, cond, ltb, List, [], ◌∷◌, ◌++◌, length, get_or, refl, sym, ap, ◌∙◌, subst, arith, ⊎_elim, append-nil, Some}
use Rattle.std.specs.Prelude.{slice_get, slice_set}
use Rattle.std.specs.List.{filter, range_with_len}
use Rattle.std.proofs.lemmas.Bool.{cases_eq, eq-eqb, eqb-true, lt-ltb, false≢true}
use Rattle.std.proofs.lemmas.List.{length-set, length-map}
use Rattle.std.proofs.lemmas.List.FromFn.{length-range_with_len}
use Rattle.std.proofs.lemmas.Option.{slice_get_within}
use Rattle.raw_grid.specs.Topology.{proc_count}
use Rattle.raw_grid.specs.Wires.{wires_of}
use Rattle.raw_model.specs.Program.{ProgramSet, IsSet}
use Rattle.raw_serial.specs.declared.turn.Turn.{Turn}
use Rattle.raw_serial.specs.declared.turn.Turn.TheVariants.{Fired}
use Rattle.raw_clock.specs.Clock.{clock, turn_in, passed_in, IsOver}
use Rattle.raw_trace.specs.Reading.{last_word}
use Rattle.raw_trace.specs.Whole.{one_more, pieces, spread, same_turn, turns_of, turn_pieces, distances, sent_in, sending, distance_pieces}
use Rattle.raw_trace.proofs.Lists.{last_word-append}
use Rattle.raw_trace.proofs.Pieces.{spread_pieces, pieces_push, few_times, distances_more, length-distances, last_below}
use Rattle.raw_trace.proofs.Whole.{same_is, pieces_more, sending_more, passed_more, sending_over}
use Rattle.raw_whole.specs.declared.turns.Turns.{Turns}
use Rattle.raw_whole.specs.declared.sends.Sends.{Sends}
use Rattle.raw_whole.specs.declared.gathering.Whole.{Whole}
use Rattle.raw_whole.specs.Kept.{IsTurnsKept, AreTurnsKept, AreNoTurns, IsSendsKept, AreSendsKept, AreNoSends, IsNoted, IsWhole}
use Rattle.raw_whole.proofs.Lists.{put_same, put_other}

-- ---- turns

-- a piece has no more cycles than there are
pub few_turns : (set : ProgramSet) (p cycles i : ℕ) → (get_or (pieces same_turn (turns_of set p cycles)) i (Fired, 0)).1 ≤ cycles
few_turns set p cycles i =
    let few = few_times (pieces same_turn (turns_of set p cycles)) i Fired in
    let all = ap length (spread_pieces same_turn same_is (turns_of set p cycles)) in
    let long : length (turns_of set p cycles) ≡ length (range_with_len 0 cycles) = length-map (range_with_len 0 cycles) (λ k. turn_in set (clock set k) p) in
    let range = length-range_with_len 0 cycles in
    omega (arith, few, all, long, range)

-- the turns of the first processors were noted
pub record AreTurnsNoted (set : ProgramSet) (cycles p : ℕ) (all : List Turns) : Type 0 where
  pub each : length all ≡ proc_count set.topo
  pub below : (q : ℕ) (kept : Turns) → q < p → slice_get all q ≡ Some kept → IsTurnsKept set (suc cycles) q kept
  pub above : (q : ℕ) (kept : Turns) → p ≤ q → slice_get all q ≡ Some kept → IsTurnsKept set cycles q kept

pub turns_noted : (set : ProgramSet) (cycles p : ℕ) (all : List Turns) (old new : Turns) (turn : Turn) → AreTurnsNoted set cycles p all
    → slice_get all p ≡ Some old → turn ≡ turn_in set (clock set cycles) p → new.pieces.items ≡ one_more same_turn old.pieces.items turn
    → AreTurnsNoted set cycles (p + 1) (slice_set all p new)
turns_noted set cycles p all old new turn are here is more = record {
  each = length-set all p new ∙ are.each;
  below = λ q kept below at.
      ⊎_elim
      (λ (same : q ≡ p).
      let put : new ≡ kept = put_same all p new kept (subst (λ r. slice_get (slice_set all p new) r ≡ Some kept) same at) in
      subst (λ r. IsTurnsKept set (suc cycles) r kept) (sym same)
      (subst (IsTurnsKept set (suc cycles) p) put
      (more
      ∙ ap (λ ps. one_more same_turn ps turn) (are.above p old (omega arith) here)
      ∙ ap (one_more same_turn (pieces same_turn (turns_of set p cycles))) is
      ∙ sym (pieces_more set p cycles))))
      (λ (ne : q ≡ p → ⊥). are.below q kept (omega (arith, below, ne)) (sym (put_other all p q new ne) ∙ at))
      (cases_eq q p);
  above = λ q kept above at. are.above q kept (omega (arith, above)) (sym (put_other all p q new (λ e. absurd (omega (arith, e, above)))) ∙ at);
}

pub none_turns : (set : ProgramSet) (all : List Turns) → AreNoTurns (proc_count set.topo) all → AreTurnsKept set 0 all
none_turns set all none = record { each = none.each; kept = λ p kept here. none.none p kept here }

-- ---- sends

eqb_is : (a b : ℕ) → (a == b) ≡ true → a ≡ b
eqb_is a b e = eqb-true a b e

few_filtered : (f : ℕ → Bool) (a n : ℕ) → length (filter f (range_with_len a n)) ≤ n
few_filtered f a zero = omega arith
few_filtered f a (suc n) = let rest = few_filtered f (a + 1) n in by_test (f a) rest
  where
    by_test : (b : Bool) → length (filter f (range_with_len (a + 1) n)) ≤ n
        → length (cond b (a ∷ filter f (range_with_len (a + 1) n)) (filter f (range_with_len (a + 1) n))) ≤ suc n
    by_test true rest = omega (arith, rest)
    by_test false rest = omega (arith, rest)

-- a piece has no more distances than there are cycles
pub few_sends : (set : ProgramSet) (w cycles i : ℕ) → (get_or (pieces (λ a b. a == b) (distances (sending set w cycles))) i (0, 0)).1 ≤ cycles
few_sends set w cycles i =
    let few = few_times (pieces (λ a b. a == b) (distances (sending set w cycles))) i 0 in
    let all = ap length (spread_pieces (λ a b. a == b) eqb_is (distances (sending set w cycles))) in
    let long = length-distances 0 (sending set w cycles) in
    let filtered = few_filtered (λ k. ltb 0 (length (sent_in set w k))) 0 cycles in
    omega (arith, few, all, long, filtered)

pub last_within : (set : ProgramSet) (w cycles : ℕ) → last_word 0 (sending set w cycles) ≤ cycles
last_within set w cycles = let last = last_below (λ k. ltb 0 (length (sent_in set w k))) 0 cycles 0 (omega arith) in omega (arith, last)

module _ (set : ProgramSet) (valid : IsSet set) (w : ℕ) (within : w < length (wires_of set.topo)) (k : ℕ) where
  none_more : (many : ℕ) → length (sent_in set w k) ≡ many → many ≡ 0 → sending set w (suc k) ≡ sending set w k
  none_more many is none =
      sending_more set w k
      ∙ ap (λ n. sending set w k ++ cond (ltb 0 n) (k ∷ []) []) (is ∙ none)
      ∙ append-nil (sending set w k)

  one_more_sent : (many : ℕ) → length (sent_in set w k) ≡ many → 0 < many → sending set w (suc k) ≡ sending set w k ++ k ∷ []
  one_more_sent many is some =
      sending_more set w k
      ∙ ap (λ n. sending set w k ++ cond (ltb 0 n) (k ∷ []) []) is
      ∙ ap (λ b. sending set w k ++ cond b (k ∷ []) []) (lt-ltb 0 many some)

  pub sends_next : (old new : Sends) (passed : ℕ) → IsSendsKept set k w old → passed ≡ passed_in set (suc k) w
      → IsNoted (old.passed == passed) k passed old new → IsSendsKept set (suc k) w new
  sends_next old new passed are is noted = by_test (old.passed == passed) refl noted
    where
      by_test : (b : Bool) → (old.passed == passed) ≡ b → IsNoted b k passed old new → IsSendsKept set (suc k) w new
      by_test true same noted =
          let alike = eqb_is old.passed passed same in
          let before = are.passed in
          let more = passed_more set valid w k within in
          let none : length (sent_in set w k) ≡ 0 = omega (arith, alike, before, more, is) in
          let still = none_more (length (sent_in set w k)) refl none in
          subst (IsSendsKept set (suc k) w) (sym noted)
          (record {
            pieces = are.pieces ∙ ap (λ ks. pieces (λ a b. a == b) (distances ks)) (sym still);
            last = are.last ∙ ap (last_word 0) (sym still);
            passed = alike ∙ is;
          })
      by_test false same noted =
          let differ : old.passed ≡ passed → ⊥ = λ e. false≢true (sym same ∙ eq-eqb old.passed passed e) in
          let before = are.passed in
          let more = passed_more set valid w k within in
          let some : 0 < length (sent_in set w k) = omega (arith, differ, before, more, is) in
          let next = one_more_sent (length (sent_in set w k)) refl some in
          let ks = sending set w k in
          record {
            pieces =
                noted.pieces
                ∙ ap (λ ps. one_more (λ a b. a == b) ps (k - old.last)) are.pieces
                ∙ ap (λ b. one_more (λ a b. a == b) (pieces (λ a b. a == b) (distances ks)) (k - b)) are.last
                ∙ sym (pieces_push (λ a b. a == b) (distances ks) (k - last_word 0 ks))
                ∙ ap (pieces (λ a b. a == b)) (sym (distances_more 0 ks k))
                ∙ ap (λ js. pieces (λ a b. a == b) (distances js)) (sym next);
            last = noted.last ∙ sym (last_word-append 0 ks (k ∷ [])) ∙ ap (last_word 0) (sym next);
            passed = noted.passed ∙ is;
          }

-- the sends on the first wires were noted
pub record AreSendsNoted (set : ProgramSet) (cycles w : ℕ) (all : List Sends) : Type 0 where
  pub each : length all ≡ length (wires_of set.topo)
  pub below : (v : ℕ) (kept : Sends) → v < w → slice_get all v ≡ Some kept → IsSendsKept set (suc cycles) v kept
  pub above : (v : ℕ) (kept : Sends) → w ≤ v → slice_get all v ≡ Some kept → IsSendsKept set cycles v kept

pub sends_noted : (set : ProgramSet) → IsSet set → (cycles w : ℕ) → w < length (wires_of set.topo) → (all : List Sends) (old new : Sends) (passed : ℕ)
    → AreSendsNoted set cycles w all → slice_get all w ≡ Some old → passed ≡ passed_in set (suc cycles) w
    → IsNoted (old.passed == passed) cycles passed old new → AreSendsNoted set cycles (w + 1) (slice_set all w new)
sends_noted set valid cycles w within all old new passed are here is noted = record {
  each = length-set all w new ∙ are.each;
  below = λ v kept below at.
      ⊎_elim
      (λ (same : v ≡ w).
      let put : new ≡ kept = put_same all w new kept (subst (λ r. slice_get (slice_set all w new) r ≡ Some kept) same at) in
      subst (λ r. IsSendsKept set (suc cycles) r kept) (sym same)
      (subst (IsSendsKept set (suc cycles) w) put
      (sends_next set valid w within cycles old new passed (are.above w old (omega arith) here) is noted)))
      (λ (ne : v ≡ w → ⊥). are.below v kept (omega (arith, below, ne)) (sym (put_other all w v new ne) ∙ at))
      (cases_eq v w);
  above = λ v kept above at. are.above v kept (omega (arith, above)) (sym (put_other all w v new (λ e. absurd (omega (arith, e, above)))) ∙ at);
}

pub none_sends : (set : ProgramSet) (all : List Sends) → AreNoSends (length (wires_of set.topo)) all → AreSendsKept set 0 all
none_sends set all none = record {
  each = none.each;
  kept = λ w kept here. record { pieces = none.none w kept here; last = none.last w kept here; passed = none.passed w kept here };
}

-- ---- all cycles

pub all_kept : (set : ProgramSet) → IsSet set → (n : ℕ) (whole : Whole) → IsOver set (clock set n)
    → AreTurnsKept set (suc n) whole.turns.items → AreSendsKept set (suc n) whole.sends.items → IsWhole set n whole
all_kept set valid n whole over turns sends = record {
  each = turns.each;
  turns = turns.kept;
  each_wire = sends.each;
  sends = λ w kept here.
      let within : w < length (wires_of set.topo) = let inside = slice_get_within whole.sends.items w kept here in omega (arith, inside, sends.each) in
      (sends.kept w kept here).pieces ∙ ap (λ ks. pieces (λ a b. a == b) (distances ks)) (sending_over set valid n w within over);
}
