-- A step that takes nothing from a wire and sends nothing lets no other processor be enabled.
use Rattle.std.proofs.Common.{◌≡◌, ℕ, ◌+◌, ◌<◌, ◌≤◌, true, false, List, [], ◌∷◌, length, Option, Some, None, refl, sym, ap, ap₂, ◌∙◌, subst, ⊎_elim, arith}
use Rattle.std.specs.Prelude.{slice_get}
use Rattle.std.proofs.lemmas.Bool.{cases_lt}
use Rattle.raw_network.specs.Network.{Sent, count_of, is_ready, step_from, taken, appended, fronts}
use Rattle.raw_network.specs.Runs.{sent_on}
use Rattle.raw_network.specs.Wired.{SendsOnce}
use Rattle.raw_network.proofs.Wires.{sent_here}
use Rattle.raw_network.proofs.Kth.{local_other}
use Rattle.raw_grid.specs.Topology.{proc_count}
use Rattle.raw_model.specs.Program.{ProgramSet}
use Rattle.raw_model.specs.Local.{Local}
use Rattle.raw_model.specs.Machine.{takes, row, machine_of}
use Rattle.raw_model.specs.Start.{MachineState}
use Rattle.raw_model.specs.Rest.{enabled, step}
use Rattle.raw_debug.specs.declared.walk.Walk.{Walk}
use Rattle.raw_serial.specs.Within.{IsWithin}
use Rattle.raw_debug.specs.Walking.{AtDone, NoneElse, HasStepped, HasPassed, HasGone}
use Rattle.raw_debug.proofs.Walks.{stepped_later}

-- where no wire gets a value, there are none
none_sent : (ms : List Sent) → ((w : ℕ) → length (sent_on w ms) ≤ 0) → ms ≡ []
none_sent [] none = refl
none_sent (m ∷ ms) none = let few = none m.wire in let here = ap length (sent_here m.wire m ms refl) in absurd (omega (arith, few, here))

module _ (set : ProgramSet) (once : SendsOnce (machine_of set)) (s : MachineState) (p : ℕ) (within : IsWithin set s p) where
  pub wires_stay : (step set s p).wires ≡ s.wires
  unfolding machine_of
  wires_stay = from (slice_get s.locals p) refl
    where
      from : (o : Option Local) → slice_get s.locals p ≡ o → (step_from (machine_of set) s p o).wires ≡ s.wires
      from None here = refl
      from (Some l) here =
          let none = within l here in
          let values = fronts (takes set p l) s.wires in
          let nothing = none_sent (row set p l values).sent (λ w. subst (λ ws. length (sent_on w (row set p l values).sent) ≤ count_of w ws) none.sends (once.sent_named p l values w)) in
          ap₂ (λ ms ws. appended ms (taken ws s.wires)) nothing none.takes

  -- each other processor is enabled after the step where it was before
  pub stays_enabled : (q : ℕ) → (q ≡ p → ⊥) → enabled set (step set s p) q ≡ enabled set s q
  stays_enabled q ne = ap₂ (λ o wires. is_ready (machine_of set) q o wires) (local_other (machine_of set) s p q ne) wires_stay

module _ (old mid new : Walk) (first : mid.machine.set ≡ old.machine.set) (second : new.machine.set ≡ mid.machine.set) (passed : HasPassed old mid)
    (once : SendsOnce (machine_of mid.machine.set)) (p : ℕ) (by : HasStepped mid new p) (last : old.next ≡ p + 1) where
  before_none : (q : ℕ) → q < proc_count mid.machine.set.topo → (q ≡ p → ⊥) → enabled mid.machine.set mid.machine.state q ≡ false
  before_none q there ne =
      ⊎_elim
      (λ (low : q < p). by.before q (omega (arith, passed.next)) low)
      (λ (high : p ≤ q).
      subst (λ g. enabled g mid.machine.state q ≡ false) (sym first)
      (subst (λ s. enabled old.machine.set s q ≡ false) (sym passed.stays)
      (passed.none q (omega (arith, last, behind high)) (subst (λ (g : ProgramSet). q < proc_count g.topo) first there))))
      (cases_lt q p)
    where
      behind : p ≤ q → p < q
      behind high = ⊎_elim (λ (l : p < q). l) (λ (g : q ≤ p). absurd (ne (omega (arith, g, high)))) (cases_lt p q)

  -- the one that stepped in this sweep and the one before it is alone where its step was within
  pub alone_again : IsWithin mid.machine.set mid.machine.state p → NoneElse new.machine.set new.machine.state new.next
  alone_again within = record {
    some = omega (arith, by.next);
    others = λ q there ne.
        let other : q ≡ p → ⊥ = λ e. ne (omega (arith, e, by.next)) in
        subst (λ g. enabled g new.machine.state q ≡ false) (sym second)
        (subst (λ s. enabled mid.machine.set s q ≡ false) (sym by.stepped)
        (stays_enabled mid.machine.set once mid.machine.state p within q other
        ∙ before_none q (subst (λ (g : ProgramSet). q < proc_count g.topo) second there) other));
  }

-- A walk whose next step, if there is one, is that of the processor whose turn was last.
module _ (old new : Walk) (same : new.machine.set ≡ old.machine.set) (turn : new.next ≡ old.next) (kept : new.passing ≡ old.passing) (p : ℕ) (last : old.next ≡ p + 1)
    (none : NoneElse old.machine.set old.machine.state old.next) where
  passed : HasPassed old (record old { next = 0 })
  passed = record {
    none = λ q low high. none.others q high (λ e. absurd (omega (arith, e, low)));
    stays = refl;
    next = refl;
    passing = refl;
  }

  goes : p < proc_count old.machine.set.topo → enabled old.machine.set old.machine.state p ≡ true → new.machine.state ≡ step old.machine.set old.machine.state p
      → HasStepped (record old { next = 0 }) new p
  goes there ready stepped = record {
    from = omega arith;
    there = there;
    before = λ q low high. none.others q (omega (arith, high, there)) (λ e. absurd (omega (arith, e, last, high)));
    ready = ready;
    stepped = stepped;
    next = turn ∙ last;
    passing = kept;
  }

  -- it takes a step
  pub goes_alone : SendsOnce (machine_of old.machine.set) → p < proc_count old.machine.set.topo → enabled old.machine.set old.machine.state p ≡ true
      → new.machine.state ≡ step old.machine.set old.machine.state p → (new.alone ≡ true → IsWithin old.machine.set old.machine.state p)
      → (done : List ℕ) → AtDone old done → HasGone old new p done
  goes_alone once there ready stepped within done at =
      let by = goes there ready stepped in
      stepped_later old (record old { next = 0 }) new refl same passed p by
      (λ e. alone_again old (record old { next = 0 }) new refl same passed once p by last (within e)) done at
