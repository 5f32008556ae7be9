-- Steps that a machine takes, one list after another.
use Rattle.std.proofs.Common.{◌≡◌, ℕ, ◌+◌, ◌≤◌, Bool, true, false, cond, List, [], ◌∷◌, ◌++◌, length, refl, sym, ap, ◌∙◌, subst, append-nil, append_assoc, length-append, arith}
use Rattle.std.specs.Prelude.{slice_index, slice_set}
use Rattle.std.proofs.Math.Logic.{∥∥₁_map, ∥∥₁_map₂}
use Rattle.raw_network.specs.Network.{count_of}
use Rattle.raw_network.proofs.Wires.{count_here}
use Rattle.raw_network.proofs.Steps.{lawful-append, end_of-append}
use Rattle.raw_model.specs.Program.{ProgramSet}
use Rattle.raw_model.specs.Machine.{machine_of}
use Rattle.raw_model.specs.Start.{MachineState}
use Rattle.raw_model.specs.Rest.{enabled, stopped, IsLawfulFrom, end_from}
use Rattle.raw_serial.specs.Running.{Running, IsRunBy, IsStep, TakesNone, stalled_once}
use Rattle.raw_serial.specs.Leading.{LeadsBy, Leads, HasTaken, HasRun, HasRunFor, past_stalls}
use Rattle.raw_serial.proofs.Fields.{read_same}
use Rattle.raw_serial.proofs.Owing.{put_less, one_less, owing_less, count_append}

-- a machine that has passed over stall turns owes no more
past_less : (m : Running) (p q : ℕ) → slice_index (past_stalls m p).owed q ≤ slice_index m.owed q
past_less m p q = by_test (stopped m.set m.state p)
  where
    by_test : (b : Bool) → slice_index (cond b m.owed (slice_set m.owed p 0)) q ≤ slice_index m.owed q
    by_test true = omega arith
    by_test false = put_less m.owed p 0 (omega arith) q

past_run : (m : Running) (p : ℕ) (steps : List ℕ) → IsRunBy m steps → IsRunBy (past_stalls m p) steps
past_run m p steps run = owing_less m (past_stalls m p).owed steps (past_less m p) run

-- a machine that has done nothing
pub none_taken : (m : Running) → HasTaken m m []
none_taken m =
    record {
      set = refl;
      led = record { lawful = tt; there = refl };
      run = λ earlier r. subst (IsRunBy m) (sym (append-nil earlier)) r;
      owed = λ p none. omega arith;
    }

-- a machine that only owes less, as one that has taken a stall turn or has passed over stall turns
less_taken : (old new : Running) (owed : List ℕ) → new ≡ record old { owed = owed } → ((q : ℕ) → slice_index owed q ≤ slice_index old.owed q)
    → HasTaken old new []
less_taken old new owed is less =
    record {
      set = ap (λ (m : Running). m.set) is;
      led = record { lawful = tt; there = sym (ap (λ (m : Running). m.state) is) };
      run = λ earlier r.
          subst (IsRunBy new) (sym (append-nil earlier))
          (subst (λ (m : Running). IsRunBy m earlier) (sym is) (owing_less old owed earlier less r));
      owed = λ q none. subst (λ (m : Running). slice_index m.owed q ≤ slice_index old.owed q) (sym is) (less q);
    }

pub stall_taken : (old new : Running) (p : ℕ) → new ≡ stalled_once old p → HasTaken old new []
stall_taken old new p is = less_taken old new (stalled_once old p).owed is (one_less old.owed p)

pub past_taken : (old new : Running) (p : ℕ) → new ≡ past_stalls old p → HasTaken old new []
past_taken old new p is = less_taken old new (past_stalls old p).owed is (past_less old p)

-- a machine that has taken a step, past the stall turns of its processor
pub step_taken : (old new : Running) (p : ℕ) → enabled old.set old.state p ≡ true → IsStep (past_stalls old p) new p → HasTaken old new (p ∷ [])
step_taken old new p on one =
    record {
      set = one.set;
      led = record { lawful = (on, tt); there = sym one.state };
      run = λ earlier r. one.run earlier (past_run old p earlier r);
      owed = λ q (none : TakesNone q (p ∷ [])).
          let same = read_same new.owed (past_stalls old p).owed q 0
          (one.other_owed q (λ (is : q ≡ p). absurd (omega (arith, none, ap (λ k. count_of k (p ∷ [])) is, count_here p [])))) in
          omega (arith, same, past_less old p q);
    }

-- where one list leads to, and another from there
pub led_after : (set : ProgramSet) (s t u : MachineState) (xs ys : List ℕ) → LeadsBy set s t xs → LeadsBy set t u ys → LeadsBy set s u (xs ++ ys)
led_after set s t u xs ys first second =
    record {
      lawful = lawful-append (machine_of set) s xs ys first.lawful (subst (λ x. IsLawfulFrom set x ys) (sym first.there) second.lawful);
      there = end_of-append (machine_of set) s xs ys ∙ ap (λ x. end_from set x ys) first.there ∙ second.there;
    }

-- one list of steps after another
pub then_taken : (a b d : Running) (xs ys : List ℕ) → HasTaken a b xs → HasTaken b d ys → HasTaken a d (xs ++ ys)
then_taken a b d xs ys first second =
    record {
      set = second.set ∙ first.set;
      led = led_after a.set a.state b.state d.state xs ys first.led (subst (λ set. LeadsBy set b.state d.state ys) first.set second.led);
      run = λ earlier r. subst (IsRunBy d) (append_assoc earlier xs ys) (second.run (earlier ++ xs) (first.run earlier r));
      owed = λ p (none : TakesNone p (xs ++ ys)).
          let both = count_append p xs ys in
          let before : TakesNone p xs = omega (arith, none, both) in
          let after : TakesNone p ys = omega (arith, none, both) in
          let x = first.owed p before in
          let y = second.owed p after in
          omega arith;
    }

-- some list of steps, and another after it
pub run_none_taken : (m : Running) → HasRun m m
run_none_taken m = ∣ ([], none_taken m) ∣₁

-- a list of so many steps is one
pub run_some : (a b : Running) (count : ℕ) → HasRunFor a b count → HasRun a b
run_some a b count ran =
    ∥∥₁_map ran (λ (r : (steps : List ℕ) × (length steps ≡ count) × HasTaken a b steps). (r.0, r.2))

-- a list of so many steps, and another of so many after it
pub run_for_then : (a b d : Running) (m n : ℕ) → HasRunFor a b m → HasRunFor b d n → HasRunFor a d (m + n)
run_for_then a b d m n first second =
    ∥∥₁_map₂ first second
    (λ (x : (steps : List ℕ) × (length steps ≡ m) × HasTaken a b steps) (y : (steps : List ℕ) × (length steps ≡ n) × HasTaken b d steps). (
      x.0 ++ y.0,
      length-append x.0 y.0 ∙ ap (λ k. k + length y.0) x.1 ∙ ap (λ k. m + k) y.1,
      then_taken a b d x.0 y.0 x.2 y.2,
    ))

pub run_then : (a b d : Running) → HasRun a b → HasRun b d → HasRun a d
run_then a b d first second =
    ∥∥₁_map₂ first second
    (λ (x : (steps : List ℕ) × HasTaken a b steps) (y : (steps : List ℕ) × HasTaken b d steps). (
      x.0 ++ y.0,
      then_taken a b d x.0 y.0 x.1 y.1,
    ))

-- the state is one that a lawful list leads to
pub run_leads : (old new : Running) → HasRun old new → Leads old.set old.state new.state
run_leads old new ran = ∥∥₁_map ran (λ (r : (steps : List ℕ) × HasTaken old new steps). (r.0, r.1.led))
