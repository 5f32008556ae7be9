-- What is counted of cycles, where a turn is counted once its processor has another one.
use Rattle.std.proofs.Common.{◌≡◌, ℕ, ◌+◌, ◌-◌, ◌<◌, ◌≤◌, List, length, replicate, get_or, Some, sym, ap, ◌∙◌, subst, ⊎_elim, arith}
use Rattle.std.specs.Prelude.{slice_get, slice_index, slice_index_or}
use Rattle.std.proofs.lemmas.Bool.{cases_eq}
use Rattle.std.proofs.lemmas.List.{length-set, length-replicate, get_or-set_same, get_or-set_other, get_or-replicate}
use Rattle.std.proofs.lemmas.Option.{slice_get-get_or, slice_get_within, get_or_from_slice_get, same_Some}
use Rattle.std.proofs.lemmas.Grind.{get_or_default_zero}
use Rattle.raw_grid.specs.Topology.{proc_count}
use Rattle.raw_model.specs.Program.{ProgramSet, IsSet}
use Rattle.raw_serial.specs.declared.turn.Turn.{Turn}
use Rattle.raw_serial.specs.declared.turn.Turn.TheVariants.{Fired, Stopped}
use Rattle.raw_clock.specs.declared.tally.Tally.{Tally}
use Rattle.raw_clock.specs.declared.account.Account.{Account}
use Rattle.raw_clock.specs.Clock.{clock, turn_in}
use Rattle.raw_clock.specs.Tally.{IsTallyBy, IsTally, IsNoted}
use Rattle.raw_clock.specs.Account.{IsAccount}
use Rattle.raw_clock.proofs.Tallying.{put_at, at_ends, note_more, tally_alike}
use Rattle.raw_clock.proofs.Telling.{zeros_at, AreClockTurns}

-- among turns of steps alone none is stopped
pub none_stopped : (turns : List Turn) (n p : ℕ) → turns ≡ replicate n Fired → p < n → slice_get turns p ≡ Some Stopped → ⊥
none_stopped turns n p are below is =
    fired_stopped (sym (get_or-replicate n p Fired Fired below) ∙ ap (λ xs. get_or xs p Fired) (sym are) ∙ get_or_from_slice_get turns p Stopped Fired is)
  where
    fired_stopped : Fired ≡ Stopped → ⊥
    fired_stopped e = cc e

module _ (g : ProgramSet) (valid : IsSet g) (n : ℕ) where
  -- nothing is counted yet
  pub first_account : (a : Account) (turn : Turn) → n ≡ 0 → length a.turns.items ≡ proc_count g.topo → a.since.items ≡ replicate (proc_count g.topo) 0
      → IsTally g 0 a.tally → IsAccount g n a
  first_account a turn start each since tally =
      let none = zeros_at a.since.items (proc_count g.topo) since in
      record {
        each = each;
        each_since = ap length since ∙ length-replicate {A = ℕ} (proc_count g.topo) 0;
        before = λ p. omega (arith, none p);
        steady = λ p k turn here low high. absurd (omega (arith, start, high));
        counted = tally_alike g valid (λ p. 0) (λ p. slice_index a.since.items p) a.tally (λ p below. sym (none p)) tally;
      }

  -- all is counted
  pub all_counted : (a : Account) → IsAccount g n a → ((p : ℕ) → p < proc_count g.topo → slice_index a.since.items p ≡ n) → IsTally g n a.tally
  all_counted a is all = tally_alike g valid (λ p. slice_index a.since.items p) (λ p. n) a.tally all is.counted

  -- one cycle more, of which the turns are noted
  pub next_account : (a : Account) → IsAccount g n a → AreClockTurns g n a.turns.items → IsAccount g (n + 1) a
  next_account a is are =
      record {
        each = is.each;
        each_since = is.each_since;
        before = λ p. omega (arith, is.before p);
        steady =
            λ p k turn here low high.
            ⊎_elim
            (λ (last : n ≡ k).
            subst (λ j. turn_in g (clock g j) p ≡ turn) last
            (same_Some (turn_in g (clock g n) p) turn (sym (are p (omega (arith, slice_get_within a.turns.items p turn here, is.each))) ∙ here)))
            (λ (ne : n ≡ k → ⊥). is.steady p k turn here low (omega (arith, high, ne)))
            (cases_eq n k);
        counted = is.counted;
      }

  module _ (a : Account) (is : IsAccount g n a) (p : ℕ) (below : p < proc_count g.topo) where
    there : p < length a.since.items
    there = omega (arith, is.each_since, below)

    then_here : slice_index (put_at a.since.items p n) p ≡ n
    then_here = get_or-set_same a.since.items p n 0 there

    then_other : (q : ℕ) → (p ≡ q → ⊥) → slice_index (put_at a.since.items p n) q ≡ slice_index a.since.items q
    then_other q ne = get_or-set_other a.since.items p q n 0 (λ e. ne (sym e))

    -- the numbers that are read
    pub since_is : (x : ℕ) → x ≡ slice_index_or a.since.items p x → x ≡ slice_index a.since.items p
    since_is x at = at ∙ get_or_default_zero a.since.items p x there

    pub turn_is : (turn : Turn) → turn ≡ slice_index_or a.turns.items p turn → slice_get a.turns.items p ≡ Some turn
    turn_is turn at = slice_get-get_or a.turns.items p turn (omega (arith, is.each, below)) ∙ ap Some (sym at)

    -- the cycles since which the processor has its turn are counted
    pub counted_since : (turn : Turn) (t : Tally) → slice_get a.turns.items p ≡ Some turn → slice_index a.since.items p < n
        → IsNoted g.topo p turn (n - slice_index a.since.items p) a.tally t → IsTallyBy g (λ q. slice_index (put_at a.since.items p n) q) t
    counted_since turn t here less did =
        note_more g valid a.since.items n p there (is.before p) turn (λ k low high. is.steady p k turn here low high) a.tally t below
        (at_ends g valid (slice_index a.since.items p) p below turn (sym (is.steady p (slice_index a.since.items p) turn here (omega arith) less)))
        is.counted did

    -- or there are none
    pub counted_none : n ≤ slice_index a.since.items p → IsTallyBy g (λ q. slice_index (put_at a.since.items p n) q) a.tally
    counted_none none =
        tally_alike g valid (λ q. slice_index a.since.items q) (λ q. slice_index (put_at a.since.items p n) q) a.tally
        (λ q within.
        ⊎_elim
        (λ (same : p ≡ q). subst (λ r. slice_index a.since.items r ≡ slice_index (put_at a.since.items p n) r) same (omega (arith, none, is.before p, then_here)))
        (λ (ne : p ≡ q → ⊥). sym (then_other q ne))
        (cases_eq p q))
        is.counted

    pub counted_more : (b : Account) → b.turns.items ≡ a.turns.items → b.since.items ≡ put_at a.since.items p n
        → IsTallyBy g (λ q. slice_index (put_at a.since.items p n) q) b.tally → IsAccount g n b
    counted_more b turns since tally =
        record {
          each = ap length turns ∙ is.each;
          each_since = ap length since ∙ length-set a.since.items p n ∙ is.each_since;
          before =
              λ q.
              ⊎_elim
              (λ (same : p ≡ q). subst (λ r. slice_index b.since.items r ≤ n) same (let now = ap (λ xs. slice_index xs p) since in omega (arith, now, then_here)))
              (λ (ne : p ≡ q → ⊥). let now = ap (λ xs. slice_index xs q) since in omega (arith, now, then_other q ne, is.before q))
              (cases_eq p q);
          steady =
              λ q k turn here low high.
              ⊎_elim
              (λ (same : p ≡ q).
              let now : slice_index b.since.items q ≡ n =
              subst (λ r. slice_index b.since.items r ≡ n) same (ap (λ xs. slice_index xs p) since ∙ then_here) in
              absurd (omega (arith, now, low, high)))
              (λ (ne : p ≡ q → ⊥).
              let now = ap (λ xs. slice_index xs q) since in
              is.steady q k turn (sym (ap (λ xs. slice_get xs q) turns) ∙ here) (omega (arith, now, then_other q ne, low)) high)
              (cases_eq p q);
          counted = subst (λ xs. IsTallyBy g (λ q. slice_index xs q) b.tally) (sym since) tally;
        }
