-- A machine that is stepped by the clock, with its account and what passed on its wires.
use Rattle.std.proofs.Common.{◌≡◌, ℕ, suc, ◌+◌, ◌*◌, ◌<◌, ◌≤◌, List, length, replicate, Some, sym, ◌∙◌, subst, arith}
use Rattle.std.specs.Prelude.{slice_index}
use Rattle.std.proofs.lemmas.Option.{same_Some}
use Rattle.raw_grid.specs.Topology.{proc_count}
use Rattle.raw_grid.specs.Wires.{wires_of}
use Rattle.raw_model.specs.Program.{ProgramSet, IsSet}
use Rattle.raw_serial.specs.declared.turn.Turn.TheVariants.{Fired, Stopped}
use Rattle.raw_serial.specs.Running.{Running, turn_of}
use Rattle.raw_serial.specs.Fresh.{IsFresh}
use Rattle.raw_clock.specs.declared.account.Account.{Account}
use Rattle.raw_clock.specs.Account.{IsAccount}
use Rattle.raw_clock.specs.Clock.{clock_turns}
use Rattle.raw_clock.specs.Engine.{HasTaken, StaysStopped, OnlyTilesOwe, AreTurns, IsCycle}
use Rattle.raw_clock.specs.Values.{HaveSent, AreFewMore}
use Rattle.raw_clock.proofs.Telling.{turns_told, fresh_told, cycle_told, none_sent, zeros}
use Rattle.raw_clock.proofs.Accounting.{next_account, none_stopped}
use Rattle.raw_clock.proofs.Stopping.{stays_stopped}
use Rattle.raw_whole.specs.Kept.{AreTurnsIn}

-- after k cycles
pub record IsStepped (g : ProgramSet) (k : ℕ) (m : Running) (a : Account) (passed : List ℕ) : Type 0 where
  pub same : m.set ≡ g
  pub taken : HasTaken g m (clock_turns g k)
  pub account : IsAccount g k a
  pub sent : HaveSent g (clock_turns g k) passed
  pub few : (w : ℕ) → slice_index passed w ≤ 2560 * k
  pub stopped : (p : ℕ) → p < proc_count g.topo → StaysStopped m a.turns.items p

module _ (g : ProgramSet) (valid : IsSet g) where
  pub first_stepped : (m : Running) (a : Account) (passed : List ℕ) → m.set ≡ g → IsFresh g m → IsAccount g 0 a
      → a.turns.items ≡ replicate (proc_count g.topo) Fired → passed ≡ replicate (length (wires_of g.topo)) 0 → IsStepped g 0 m a passed
  first_stepped m a passed same fresh account turns none = record {
    same = same;
    taken = fresh_told g valid m fresh;
    account = account;
    sent = none_sent g valid passed none;
    few = zeros passed _ none;
    stopped = λ p below is. absurd (none_stopped a.turns.items (proc_count g.topo) p turns below is);
  }

  module _ (k : ℕ) (m n : Running) (a b : Account) (before after : List ℕ) (was : IsStepped g k m a before) (set : n.set ≡ m.set)
      (cycle : IsCycle m n before after) (account : IsAccount m.set k b) (turns : AreTurns m b.turns.items) (tiles : OnlyTilesOwe m)
      (few : AreFewMore 2560 before after) where
    both : HasTaken g n (clock_turns g (suc k)) × HaveSent g (clock_turns g (suc k)) after
    both = cycle_told g m n k before after was.same was.taken was.sent cycle

    -- the turns of the cycle,
    pub turns_in : AreTurnsIn g k b.turns.items
    turns_in = turns_told g valid m k was.taken tiles b.turns.items turns

    pub account_in : IsAccount g k b
    account_in = subst (λ h. IsAccount h k b) was.same account

    -- what passed,
    pub sent_in : HaveSent g (clock_turns g (suc k)) after
    sent_in = both.1

    -- and one cycle more
    pub next_stepped : IsStepped g (k + 1) n b after
    next_stepped =
        let next : suc k ≡ k + 1 = omega arith in
        record {
          same = set ∙ was.same;
          taken = subst (λ j. HasTaken g n (clock_turns g j)) next both.0;
          account = next_account g valid k b account_in turns_in;
          sent = subst (λ j. HaveSent g (clock_turns g j) after) next both.1;
          few = λ w. omega (arith, few w, was.few w);
          stopped = λ p below is.
              stays_stopped g valid m n k p below was.taken both.0
              (same_Some (turn_of m p) Stopped (sym (turns p (subst (λ (h : ProgramSet). p < proc_count h.topo) (sym was.same) below)) ∙ is));
        }
