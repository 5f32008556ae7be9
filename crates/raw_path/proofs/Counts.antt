-- The steps in an account of whose turns none goes on.
use Rattle.std.proofs.Common.{◌≡◌, ℕ, zero, suc, ◌+◌, ◌-◌, ◌<◌, ◌≤◌, false, Some, refl, sym, ap, ◌∙◌, arith}
use Rattle.std.specs.Prelude.{slice_get, slice_index, slice_index_or}
use Rattle.std.proofs.lemmas.Option.{slice_get-get_or}
use Rattle.raw_grid.specs.Topology.{proc_count}
use Rattle.raw_model.specs.Program.{ProgramSet}
use Rattle.raw_serial.specs.declared.turn.Turn.{Turn}
use Rattle.raw_serial.specs.declared.turn.Turn.TheVariants.{Fired, Stalled, Stopped, Waits}
use Rattle.raw_clock.specs.declared.account.Account.{Account}
use Rattle.raw_clock.specs.declared.tally.Spent.{Spent}
use Rattle.raw_clock.specs.Clock.{clock, turn_in, is_fired, goes, spent}
use Rattle.raw_clock.specs.Account.{IsAccount}
use Rattle.raw_clock.proofs.Counting.{one_if, count_more}

-- a turn that does not go on is no step
no_step : (t : Turn) → goes t ≡ false → is_fired t ≡ false
no_step Fired off = off
no_step Stalled off = refl
no_step Stopped off = refl
no_step (Waits w) off = refl

module _ (set : ProgramSet) (p : ℕ) where
  -- cycles without a step add none
  still : (from d : ℕ) → ((k : ℕ) → from ≤ k → k < from + d → is_fired (turn_in set (clock set k) p) ≡ false)
      → spent set (from + d) p is_fired ≡ spent set from p is_fired
  still from zero none = let same : from + zero ≡ from = omega arith in ap (λ k. spent set k p is_fired) same
  still from (suc d) none =
      let next : from + suc d ≡ suc (from + d) = omega arith in
      let whole : 0 + (from + d) ≡ from + d = omega arith in
      let off : is_fired (turn_in set (clock set (0 + (from + d))) p) ≡ false =
      ap (λ k. is_fired (turn_in set (clock set k) p)) whole ∙ none (from + d) (omega arith) (omega arith) in
      let more = count_more (λ k. is_fired (turn_in set (clock set k) p)) 0 (from + d) in
      let nothing : one_if (is_fired (turn_in set (clock set (0 + (from + d))) p)) ≡ 0 = ap (λ b. one_if b) off in
      let rest = still from d (λ k low high. none k low (omega (arith, high))) in
      let named = ap (λ k. spent set k p is_fired) next in
      omega (arith, named, more, nothing, rest)

module _ (set : ProgramSet) (n : ℕ) (a : Account) (is : IsAccount set n a) (over : (p : ℕ) (turn : Turn) → slice_get a.turns.items p ≡ Some turn → goes turn ≡ false) where
  -- the steps of a processor
  pub steps_at : (p : ℕ) (s : Spent) → p < proc_count set.topo → s ≡ slice_index_or a.tally.spent.items p s → s.fired ≡ spent set n p is_fired
  steps_at p s below at =
      let each = is.counted.each in
      let turns = is.each in
      let from = slice_index a.since.items p in
      let here : slice_get a.tally.spent.items p ≡ Some s = slice_get-get_or a.tally.spent.items p s (omega (arith, each, below)) ∙ ap Some (sym at) in
      let turn = slice_index_or a.turns.items p Stopped in
      let noted : slice_get a.turns.items p ≡ Some turn = slice_get-get_or a.turns.items p Stopped (omega (arith, turns, below)) in
      let off = no_step turn (over p turn noted) in
      let early = is.before p in
      let whole : from + (n - from) ≡ n = omega (arith, early) in
      (is.counted.spent p s here).fired
      ∙ sym (still set p from (n - from) (λ k low high. ap is_fired (is.steady p k turn noted low (omega (arith, high, whole))) ∙ off))
      ∙ ap (λ k. spent set k p is_fired) whole
