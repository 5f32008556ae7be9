-- Steps of other processors, which leave what is to be seen, and a walk that stays before or behind its steps.
use Rattle.std.proofs.Common.{◌≡◌, ℕ, ◌+◌, ◌<◌, ◌≤◌, false, List, [], ◌∷◌, ◌++◌, length, refl, sym, ap, ◌∙◌, subst, ⊎_elim, arith}
use Rattle.std.specs.Prelude.{◌&&◌, ◌==◌, slice_get}
use Rattle.std.proofs.lemmas.Bool.{cases_lt, ne_eqb}
use Rattle.raw_network.specs.Network.{values_on}
use Rattle.raw_network.specs.Wired.{IsWired, SendsOnce}
use Rattle.raw_network.proofs.Kth.{local_other}
use Rattle.raw_grid.specs.Wires.{producer_of, consumer_of}
use Rattle.raw_model.specs.Program.{IsSet}
use Rattle.raw_model.specs.Machine.{machine_of}
use Rattle.raw_model.specs.Start.{MachineState, Fits}
use Rattle.raw_model.specs.Rest.{end, passed_on, end_from, IsLawfulFrom, IsQuiet}
use Rattle.raw_model.specs.Laws.{received_on}
use Rattle.raw_model.specs.Serial.{serial}
use Rattle.raw_serial.specs.Within.{register_in}
use Rattle.raw_debug.specs.declared.command.Aim.{Aim}
use Rattle.raw_debug.specs.declared.command.Aim.TheVariants.{Pc, Sends, SendsAny, Stores, StoresAny, Sets, SetsAny}
use Rattle.raw_debug.specs.declared.walk.Walk.{Walk}
use Rattle.raw_debug.specs.Walking.{AtDone, HasGone, IsUnderWay, HasGoneOn, HasStayed, HasEnded}
use Rattle.raw_debug.specs.Stops.{is_stop, word_in, sight_of, shows, IsLocal, OnlyLast, GoesPast}
use Rattle.raw_debug.specs.Debugging.{IsPossibleAim}
use Rattle.raw_debug.proofs.Walks.{gone_done, rests_done, moment_within, moment_at_rest}
use Rattle.raw_debug.proofs.Searching.{met}

-- what is to be seen of a processor is the same where its local state is
sight_alike : (t s : MachineState) (p : ℕ) (aim : Aim) → IsLocal aim → slice_get t.locals p ≡ slice_get s.locals p → sight_of t p aim ≡ sight_of s p aim
sight_alike t s p (Pc pc) local same = refl
sight_alike t s p (Sends wire value) local same = absurd local
sight_alike t s p (SendsAny wire) local same = absurd local
sight_alike t s p (Stores address word) local same = ap (word_in address) same
sight_alike t s p (StoresAny address) local same = ap (word_in address) same
sight_alike t s p (Sets register value) local same = ap (register_in register) same
sight_alike t s p (SetsAny register) local same = ap (register_in register) same

-- One step.
module _ (old new : Walk) (valid : IsSet old.machine.set) (same : new.machine.set ≡ old.machine.set) (way : IsUnderWay old) where
  module _ (rests : (done : List ℕ) → AtDone old done → AtDone new done × IsQuiet new.machine.set new.machine.state) (moment : new.moment ≡ old.moment) where
    -- there is none
    pub has_stayed : HasStayed old new
    has_stayed =
        let rest = rests way.0 way.1.at in
        record {
          set = same;
          under_way = (way.0, rests_done old new same way.0 rest.0 moment way.1);
          state = sym rest.0.place.there ∙ ap (λ g. end g way.0) same ∙ way.1.at.place.there;
          moment = moment;
        }

    pub has_ended : HasEnded old new
    has_ended =
        let rest = rests way.0 way.1.at in
        let has = rests_done old new same way.0 rest.0 moment way.1 in
        record {
          set = same;
          under_way = (way.0, has);
          moment = moment;
          end = moment_at_rest new (subst IsSet (sym same) valid) way.0 has rest.1 ∙ ap (λ g. length (serial g)) same;
        }

  module _ (q : ℕ) (by : (done : List ℕ) → AtDone old done → HasGone old new q done) (one : new.moment ≡ old.moment + 1) where
    pub one_gone : (moment : ℕ) → HasGoneOn old new moment
    one_gone moment =
        let has = gone_done old new same q way.0 (by way.0 way.1.at) one way.1 in
        let within = moment_within new (subst IsSet (sym same) valid) (way.0 ++ q ∷ []) has in
        let long = ap (λ g. length (serial g)) same in
        record {
          set = same;
          under_way = (way.0 ++ q ∷ [], has);
          later = omega (arith, one);
          upto = λ less. omega (arith, less, one);
          within = omega (arith, within, long);
        }

    pub one_past : (wired : IsWired (machine_of old.machine.set) (producer_of old.machine.set.topo) (consumer_of old.machine.set.topo))
        → SendsOnce (machine_of old.machine.set)
        → ((s : MachineState) (h : List ℕ) (w : ℕ) → IsLawfulFrom old.machine.set s h → w < length s.wires
        → values_on s.wires w ++ passed_on old.machine.set s h w ≡ received_on old.machine.set s h w ++ values_on (end_from old.machine.set s h).wires w)
        → Fits old.machine.set old.machine.state → (p : ℕ) (aim : Aim) → IsPossibleAim old.machine.set p aim → GoesPast old new q p aim
    one_past wired once queue fits p aim possible =
        let gone = by way.0 way.1.at in
        let stop = met old new valid same way.0 way.1 q gone one wired once queue fits p aim possible in
        record {
          seen = record {
            others = λ k low high. absurd (omega (arith, low, high, one));
            last = λ k is.
                let here : old.moment ≡ k = omega (arith, is, one) in
                subst (λ j. is_stop old.machine.set p aim j ≡ ((q == p) && shows new.machine.state p aim (sight_of old.machine.state p aim))) here stop;
          };
          same = λ ne local.
              sight_alike new.machine.state old.machine.state p aim local
              (ap (λ (s : MachineState). slice_get s.locals p) gone.stepped ∙ local_other (machine_of old.machine.set) old.machine.state q p (λ e. ne (sym e)));
        }

-- Further steps, where the last one before them was one of another processor.
module _ (old mid new : Walk) (q r p moment : ℕ) (aim : Aim) (gone : HasGoneOn old mid moment) (on : HasGoneOn mid new moment) where
  pub goes_further : mid.moment < moment → HasGoneOn old new moment
  goes_further less =
      let long = ap (λ g. length (serial g)) gone.set in
      record {
        set = on.set ∙ gone.set;
        under_way = on.under_way;
        later = omega (arith, gone.later, on.later);
        upto = λ before. on.upto less;
        within = omega (arith, on.within, long);
      }

  module _ (first : GoesPast old mid q p aim) (second : GoesPast mid new r p aim) (other : q ≡ p → ⊥) (local : IsLocal aim) where
    others : (k : ℕ) → old.moment ≤ k → k + 1 < new.moment → is_stop old.machine.set p aim k ≡ false
    others k low high =
        ⊎_elim
        (λ (before : k + 1 < mid.moment). first.seen.others k low before)
        (λ (behind : mid.moment ≤ k + 1).
        ⊎_elim
        (λ (last : k < mid.moment).
        first.seen.last k (omega (arith, last, behind)) ∙ ap (λ b. b && shows mid.machine.state p aim (sight_of old.machine.state p aim)) (ne_eqb q p other))
        (λ (later : mid.moment ≤ k). ap (λ g. is_stop g p aim k) (sym gone.set) ∙ second.seen.others k later high)
        (cases_lt k mid.moment))
        (cases_lt (k + 1) mid.moment)

    pub past_further : GoesPast old new r p aim
    past_further = record {
      seen = record {
        others = others;
        last = λ k is.
            ap (λ g. is_stop g p aim k) (sym gone.set) ∙ second.seen.last k is
            ∙ ap (λ b. (r == p) && shows new.machine.state p aim b) (first.same other local);
      };
      same = λ ne near. second.same ne near ∙ first.same other local;
    }

-- A walk that stayed, and then went on.
module _ (old mid new : Walk) (stays : HasStayed old mid) where
  pub goes_then : (moment : ℕ) → HasGoneOn mid new moment → HasGoneOn old new moment
  goes_then moment gone =
      let long = ap (λ g. length (serial g)) stays.set in
      record {
        set = gone.set ∙ stays.set;
        under_way = gone.under_way;
        later = omega (arith, gone.later, stays.moment);
        upto = λ less. gone.upto (omega (arith, less, stays.moment));
        within = omega (arith, gone.within, long);
      }

  pub ends_then : HasEnded mid new → HasEnded old new
  ends_then ended = record {
    set = ended.set ∙ stays.set;
    under_way = ended.under_way;
    moment = ended.moment ∙ stays.moment;
    end = ended.end ∙ ap (λ g. length (serial g)) stays.set;
  }

  pub seen_then : (q p : ℕ) (aim : Aim) → OnlyLast mid new q p aim → OnlyLast old new q p aim
  seen_then q p aim seen = record {
    others = λ k low high. ap (λ g. is_stop g p aim k) (sym stays.set) ∙ seen.others k (omega (arith, low, stays.moment)) high;
    last = λ k is.
        ap (λ g. is_stop g p aim k) (sym stays.set) ∙ seen.last k is
        ∙ ap (λ s. (q == p) && shows new.machine.state p aim (sight_of s p aim)) stays.state;
  }

-- A walk that went on, and then stayed.
module _ (old mid new : Walk) (stays : HasStayed mid new) where
  pub stays_then : (moment : ℕ) → HasGoneOn old mid moment → HasGoneOn old new moment
  stays_then moment gone = record {
    set = stays.set ∙ gone.set;
    under_way = stays.under_way;
    later = omega (arith, gone.later, stays.moment);
    upto = λ less. let upto = gone.upto less in omega (arith, upto, stays.moment);
    within = omega (arith, gone.within, stays.moment);
  }

  pub still_seen : (q p : ℕ) (aim : Aim) → OnlyLast old mid q p aim → OnlyLast old new q p aim
  still_seen q p aim seen = record {
    others = λ k low high. seen.others k low (omega (arith, high, stays.moment));
    last = λ k is.
        seen.last k (is ∙ stays.moment)
        ∙ ap (λ s. (q == p) && shows s p aim (sight_of old.machine.state p aim)) (sym stays.state);
  }
