-- Several steps of the processor that is alone, each of which touches no wire, and what is seen of them.
use Rattle.std.proofs.Common.{◌≡◌, ℕ, zero, suc, ◌+◌, ◌-◌, ◌<◌, ◌≤◌, Bool, true, false, Option, Some, None, List, [], ◌∷◌, ◌++◌, length, refl, sym, ap, ◌∙◌, subst, arith}
use Rattle.std.specs.Prelude.{◌&&◌, ◌==◌, not, is_some, replicate, slice_get}
use Rattle.std.proofs.lemmas.Bool.{eq-eqb, eqb-true}
use Rattle.std.proofs.lemmas.Option.{slice_get_past}
use Rattle.raw_network.specs.Network.{values_on}
use Rattle.raw_network.specs.Wired.{IsWired, SendsOnce}
use Rattle.raw_grid.specs.Topology.{proc_count}
use Rattle.raw_grid.specs.Wires.{producer_of, consumer_of}
use Rattle.raw_model.specs.Program.{ProgramSet, IsSet}
use Rattle.raw_model.specs.Machine.{machine_of}
use Rattle.raw_model.specs.Start.{MachineState, Fits}
use Rattle.raw_model.specs.Rest.{enabled, step, passed_on, end_from, IsLawfulFrom}
use Rattle.raw_model.specs.Laws.{received_on}
use Rattle.raw_model.proofs.Fitting.{step_fits}
use Rattle.raw_serial.specs.Running.{Running}
use Rattle.raw_serial.specs.Within.{register_in, state_behind, HasRunWithin}
use Rattle.raw_serial.proofs.Alone.{behind_more}
use Rattle.raw_debug.specs.declared.command.Aim.{Aim}
use Rattle.raw_debug.specs.declared.command.Aim.TheVariants.{Sends, SendsAny, Sets, SetsAny}
use Rattle.raw_debug.specs.declared.walk.Walk.{Walk}
use Rattle.raw_debug.specs.Walking.{AtDone, NoneElse, HasGone, IsUnderWay, HasGoneOn}
use Rattle.raw_debug.specs.Stops.{is_of, is_stop, sight_of, shows, IsSeenIn, OnlyLast}
use Rattle.raw_debug.specs.Debugging.{IsPossibleAim}
use Rattle.raw_debug.proofs.Walks.{moved_at, gone_done, moment_within}
use Rattle.raw_debug.proofs.Standing.{passes_at}
use Rattle.raw_debug.proofs.Alone.{wires_stay, goes_alone}
use Rattle.raw_debug.proofs.Searching.{met}

pub not_some : {X : Type 0} (o : Option X) → is_some o ≡ false → o ≡ None
not_some None e = refl
not_some (Some x) e = absurd (cc e)

-- each of several steps of one processor is enabled
lawful_at : (set : ProgramSet) (s : MachineState) (p n : ℕ) → IsLawfulFrom set s (replicate n p) → (i : ℕ) → i < n
    → enabled set (end_from set s (replicate i p)) p ≡ true
lawful_at set s p zero lawful i less = absurd (omega (arith, less))
lawful_at set s p (suc n) lawful zero less = lawful.0
lawful_at set s p (suc n) lawful (suc i) less = lawful_at set (step set s p) p n lawful.1 i (omega (arith, less))

not_both : (b x : Bool) → (b ≡ true → x ≡ false) → (b && x) ≡ false
not_both true x off = off refl
not_both false x off = refl

both_alike : (b x y : Bool) → (b ≡ true → x ≡ y) → (b && x) ≡ (b && y)
both_alike true x y alike = alike refl
both_alike false x y alike = refl

never_both : (b : Bool) → (b && not b) ≡ false
never_both true = refl
never_both false = refl

-- where what is to be seen stays, nothing was done
unseen : (t s : MachineState) (p register : ℕ) (aim : Aim) → IsSeenIn aim register → sight_of t p aim ≡ sight_of s p aim
    → shows t p aim (sight_of s p aim) ≡ false
unseen t s p register (Sends wire value) seen same =
    ap (is_of value) (slice_get_past (values_on t.wires wire.0) (length (values_on s.wires wire.0)) (omega (arith, same)))
unseen t s p register (SendsAny wire) seen same =
    ap is_some (slice_get_past (values_on t.wires wire.0) (length (values_on s.wires wire.0)) (omega (arith, same)))
unseen t s p register (Sets own value) seen same =
    ap (λ before. (register_in own (slice_get t.locals p) == value) && not (before == value)) (sym same)
    ∙ never_both (register_in own (slice_get t.locals p) == value)
unseen t s p register (SetsAny own) seen same =
    ap not (eq-eqb (register_in own (slice_get t.locals p)) (register_in own (slice_get s.locals p)) same)
unseen t s p register aim seen same = absurd seen

module _ (old : Walk) (new : Running) (p register n : ℕ) (run : HasRunWithin old.machine new p register n) (valid : IsSet old.machine.set)
    (alone : old.alone ≡ true) (last : old.next ≡ p + 1) (there : p < proc_count old.machine.set.topo) (once : SendsOnce (machine_of old.machine.set))
    (way : IsUnderWay old) where
  abbrev behind : ℕ → MachineState
  behind i = state_behind old.machine p i

  -- the walk after so many of the steps, and behind all of them
  abbrev stage : ℕ → Walk
  stage i = record old { machine = record old.machine { state = behind i }; moment = old.moment + i }

  abbrev after : Walk
  after = record old { machine = new; moment = old.moment + n }

  ready : (i : ℕ) → i < n → enabled old.machine.set (behind i) p ≡ true
  ready i less = lawful_at old.machine.set old.machine.state p n run.taken.led.lawful i less

  gone : (i : ℕ) → i < n → (done : List ℕ) → AtDone (stage i) done → HasGone (stage i) (stage (suc i)) p done
  gone i less done is =
      goes_alone (stage i) (stage (suc i)) refl refl refl p last (is.alone alone) once there (ready i less) (behind_more old.machine p i) (λ e. run.within i less) done is

  ways : (i : ℕ) → i ≤ n → IsUnderWay (stage i)
  ways zero few = (way.0, record { at = record { place = way.1.at.place; passing = way.1.at.passing; alone = way.1.at.alone }; many = omega (arith, way.1.many) })
  ways (suc i) few =
      let before = ways i (omega (arith, few)) in
      (before.0 ++ p ∷ [], gone_done (stage i) (stage (suc i)) refl p before.0 (gone i (omega (arith, few)) before.0 before.1.at) (omega arith) before.1)

  same_wires : (i : ℕ) → i ≤ n → (behind i).wires ≡ old.machine.state.wires
  same_wires zero few = refl
  same_wires (suc i) few =
      ap (λ (s : MachineState). s.wires) (behind_more old.machine p i)
      ∙ wires_stay old.machine.set once (behind i) p (run.within i (omega (arith, few))) ∙ same_wires i (omega (arith, few))

  under_way : IsUnderWay after
  under_way =
      let before = ways n (omega arith) in
      let set = run.taken.set in
      let state = run.taken.led.there in (
        before.0,
        record {
          at = record {
            place = moved_at old.machine.set new.set (behind n) new.state old.next old.next before.0 set (sym state) refl before.1.at.place;
            passing = passes_at old.machine.set new.set (behind n) new.state old.passing.ends old.passing.ends set (sym state) refl before.1.at.passing;
            alone = λ on. subst (λ g. NoneElse g new.state old.next) (sym set) (subst (λ s. NoneElse old.machine.set s old.next) state (before.1.at.alone on));
          };
          many = before.1.many;
        },
      )

  pub has_gone : (moment : ℕ) → 0 < n → n ≤ moment - old.moment → HasGoneOn old after moment
  has_gone moment some few =
      let before = ways n (omega arith) in
      record {
        set = run.taken.set;
        under_way = under_way;
        later = omega (arith, some);
        upto = λ less. omega (arith, less, few);
        within = moment_within (stage n) valid before.0 before.1;
      }

  module _ (fits : Fits old.machine.set old.machine.state)
      (wired : IsWired (machine_of old.machine.set) (producer_of old.machine.set.topo) (consumer_of old.machine.set.topo))
      (queue : (s : MachineState) (h : List ℕ) (w : ℕ) → IsLawfulFrom old.machine.set s h → w < length s.wires
      → values_on s.wires w ++ passed_on old.machine.set s h w ≡ received_on old.machine.set s h w ++ values_on (end_from old.machine.set s h).wires w)
      (q : ℕ) where
    fits_at : (i : ℕ) → i ≤ n → Fits old.machine.set (behind i)
    fits_at zero few = fits
    fits_at (suc i) few =
        subst (Fits old.machine.set) (sym (behind_more old.machine p i))
        (step_fits old.machine.set valid (behind i) p (fits_at i (omega (arith, few))) (ready i (omega (arith, few))))

    -- what is to be seen stays up to the last step
    sights : (aim : Aim) → p ≡ q → IsSeenIn aim register → (i : ℕ) → i < n → sight_of (behind i) q aim ≡ sight_of old.machine.state q aim
    sights (Sends wire value) own seen i less = ap (λ ws. length (values_on ws wire.0)) (same_wires i (omega (arith, less)))
    sights (SendsAny wire) own seen i less = ap (λ ws. length (values_on ws wire.0)) (same_wires i (omega (arith, less)))
    sights (Sets other value) own seen i less =
        subst (λ m. register_in other (slice_get (behind i).locals m) ≡ register_in other (slice_get old.machine.state.locals m)) own
        (subst (λ r. register_in r (slice_get (behind i).locals p) ≡ register_in r (slice_get old.machine.state.locals p)) seen (run.held i less))
    sights (SetsAny other) own seen i less =
        subst (λ m. register_in other (slice_get (behind i).locals m) ≡ register_in other (slice_get old.machine.state.locals m)) own
        (subst (λ r. register_in r (slice_get (behind i).locals p) ≡ register_in r (slice_get old.machine.state.locals p)) seen (run.held i less))
    sights aim own seen i less = absurd seen

    module _ (aim : Aim) (possible : IsPossibleAim old.machine.set q aim) where
      stop : (i : ℕ) → i < n → is_stop old.machine.set q aim (old.moment + i) ≡ ((p == q) && shows (behind (suc i)) q aim (sight_of (behind i) q aim))
      stop i less =
          let before = ways i (omega (arith, less)) in
          met (stage i) (stage (suc i)) valid refl before.0 before.1 p (gone i less before.0 before.1.at) (omega arith) wired once queue
          (fits_at i (omega (arith, less))) q aim possible

      module _ (some : 0 < n) (seen : p ≡ q → IsSeenIn aim register) where
        other : (i k : ℕ) → old.moment + i ≡ k → suc i < n → is_stop old.machine.set q aim k ≡ false
        other i k is less =
            subst (λ j. is_stop old.machine.set q aim j ≡ false) is
            (stop i (omega (arith, less)) ∙ not_both (p == q) (shows (behind (suc i)) q aim (sight_of (behind i) q aim))
            (λ on.
            let own = eqb-true p q on in
            unseen (behind (suc i)) (behind i) q register aim (seen own)
            (sights aim own (seen own) (suc i) less ∙ sym (sights aim own (seen own) i (omega (arith, less))))))

        end : (m k : ℕ) → m ≡ n → k + 1 ≡ old.moment + n
            → is_stop old.machine.set q aim k ≡ ((p == q) && shows new.state q aim (sight_of old.machine.state q aim))
        end zero k all is = absurd (omega (arith, all, some))
        end (suc i) k all is =
            let here : old.moment + i ≡ k = omega (arith, all, is) in
            subst (λ j. is_stop old.machine.set q aim j ≡ ((p == q) && shows new.state q aim (sight_of old.machine.state q aim))) here
            (stop i (omega (arith, all))
            ∙ ap (λ s. (p == q) && shows s q aim (sight_of (behind i) q aim)) (ap behind all ∙ run.taken.led.there)
            ∙ both_alike (p == q) (shows new.state q aim (sight_of (behind i) q aim)) (shows new.state q aim (sight_of old.machine.state q aim))
            (λ on. let own = eqb-true p q on in ap (shows new.state q aim) (sights aim own (seen own) i (omega (arith, all)))))

        pub only_last : OnlyLast old after p q aim
        only_last = record {
          others = λ k low high. other (k - old.moment) k (omega (arith, low)) (omega (arith, low, high));
          last = λ k is. end n k refl is;
        }
