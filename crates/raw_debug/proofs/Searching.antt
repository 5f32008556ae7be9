-- The first step of the serial order that does what is aimed at.
use Rattle.std.proofs.Common.{◌≡◌, ℕ, zero, suc, ◌+◌, ◌-◌, ◌<◌, ◌≤◌, Bool, true, false, List, [], ◌∷◌, ◌++◌, length, Option, Some, None, take, refl, sym, ap, ap₂, ◌∙◌, subst, ⊎_elim, arith, append_assoc, length-append}
use Rattle.std.specs.Prelude.{◌&&◌, ◌==◌, not, slice_get}
use Rattle.std.specs.List.{find, list_any, range_with_len}
use Rattle.std.specs.Option.{option_map, option_or, option_to_list}
use Rattle.std.proofs.Math.Seq.{get_or-append_seam}
use Rattle.std.proofs.lemmas.Bool.{cases_eq, cases_lt, eqb-true}
use Rattle.std.proofs.lemmas.Option.{slice_get-get_or}
use Rattle.raw_network.specs.Network.{values_on}
use Rattle.raw_network.specs.Wired.{IsWired, SendsOnce}
use Rattle.raw_grid.specs.Wires.{wires_of, producer_of, consumer_of}
use Rattle.raw_model.specs.Program.{ProgramSet, IsSet}
use Rattle.raw_model.specs.Machine.{machine_of}
use Rattle.raw_model.specs.Start.{MachineState, start, Fits}
use Rattle.raw_model.specs.Rest.{enabled, step, passed_on, end_from, IsLawfulFrom}
use Rattle.raw_model.specs.Laws.{received_on}
use Rattle.raw_model.specs.Serial.{serial}
use Rattle.raw_debug.specs.declared.command.Aim.{Aim}
use Rattle.raw_debug.specs.declared.command.Aim.TheVariants.{Pc, Sends, SendsAny, Stores, StoresAny, Sets, SetsAny}
use Rattle.raw_debug.specs.declared.walk.Walk.{Walk}
use Rattle.raw_debug.specs.Walking.{state_after, sent_by, HasDone, HasGone}
use Rattle.raw_serial.specs.Within.{register_in}
use Rattle.raw_debug.specs.Stops.{has_pc, has_word, word_in, has_value, does, is_of, is_stop, stop_after, last_up_to, sight_of, shows}
use Rattle.raw_debug.specs.Debugging.{IsPossibleAim}
use Rattle.raw_debug.proofs.Walks.{rest_of, front_is, state_is, gone_done}
use Rattle.raw_debug.proofs.Growing.{shown, one_value, some_value}

-- the first number of a range that passes a test
pub find_first : (test : ℕ → Bool) (a n k : ℕ) → a ≤ k → k < a + n → ((j : ℕ) → a ≤ j → j < k → test j ≡ false) → test k ≡ true
    → find test (range_with_len a n) ≡ Some k
find_first test a zero k le lt none here = absurd (omega (arith, le, lt))
find_first test a (suc n) k le lt none here =
    ⊎_elim
    (λ (e : a ≡ k). let passes : test a ≡ true = subst (λ j. test j ≡ true) (sym e) here in rw passes (ap Some e))
    (λ (ne : a ≡ k → ⊥).
    let less : a < k = by_order ne in
    rw (none a (omega arith) less) (find_first test (a + 1) n k (omega (arith, less)) (omega (arith, lt)) (λ j low high. none j (omega (arith, low)) high) here))
    (cases_eq a k)
  where
    by_order : (a ≡ k → ⊥) → a < k
    by_order ne = ⊎_elim (λ (l : a < k). l) (λ (g : k ≤ a). absurd (ne (omega (arith, g, le)))) (cases_lt a k)

-- none passes it
pub find_none : (test : ℕ → Bool) (a n : ℕ) → ((j : ℕ) → a ≤ j → j < a + n → test j ≡ false) → find test (range_with_len a n) ≡ None
find_none test a zero none = refl
find_none test a (suc n) none =
    rw (none a (omega arith) (omega arith)) (find_none test (a + 1) n (λ j low high. none j (omega (arith, low)) (omega (arith, high))))

module _ (set : ProgramSet) (p : ℕ) (aim : Aim) (moment k : ℕ) (le : moment ≤ k)
    (none : (j : ℕ) → moment ≤ j → j < k → is_stop set p aim j ≡ false) where
  pub stops : k < length (serial set) → is_stop set p aim k ≡ true → stop_after set moment p aim ≡ Some (k + 1)
  unfolding stop_after
  stops lt here =
      let behind : suc k ≡ k + 1 = omega arith in
      ap (option_map suc) (find_first (is_stop set p aim) moment (length (serial set) - moment) k le (omega (arith, le, lt)) none here) ∙ ap Some behind

  pub stops_nowhere : k ≡ length (serial set) → stop_after set moment p aim ≡ None
  unfolding stop_after
  stops_nowhere end =
      ap (option_map suc) (find_none (is_stop set p aim) moment (length (serial set) - moment) (λ j low high. none j low (omega (arith, high, end, le))))

-- what a step does is seen of the states before and behind it
module _ (set : ProgramSet) (wired : IsWired (machine_of set) (producer_of set.topo) (consumer_of set.topo)) (once : SendsOnce (machine_of set))
    (queue : (s : MachineState) (h : List ℕ) (w : ℕ) → IsLawfulFrom set s h → w < length s.wires
    → values_on s.wires w ++ passed_on set s h w ≡ received_on set s h w ++ values_on (end_from set s h).wires w)
    (s t : MachineState) (fits : Fits set s) (p : ℕ) (ready : enabled set s p ≡ true) (is : t ≡ step set s p) where
  pub sent_is : (w : ℕ) → w < length (wires_of set.topo)
      → passed_on set s (p ∷ []) w ≡ option_to_list (slice_get (values_on t.wires w) (length (values_on s.wires w)))
  sent_is w there = shown set wired once p w s t is (queue s (p ∷ []) w (ready, tt) (omega (arith, there, fits.wires)))

  pub does_is : (aim : Aim) → IsPossibleAim set p aim → does set s p aim ≡ shows t p aim (sight_of s p aim)
  does_is (Pc pc) possible = ap (λ (u : MachineState). has_pc pc (slice_get u.locals p)) (sym is)
  does_is (Sends wire value) possible =
      ap (list_any (λ v. v == value)) (sent_is wire.0 possible.0) ∙ one_value value (slice_get (values_on t.wires wire.0) (length (values_on s.wires wire.0)))
  does_is (SendsAny wire) possible =
      ap (list_any (λ v. true)) (sent_is wire.0 possible.0) ∙ some_value (slice_get (values_on t.wires wire.0) (length (values_on s.wires wire.0)))
  does_is (Stores address word) possible =
      ap (λ (u : MachineState). has_word address word (slice_get u.locals p) && not (has_word address word (slice_get s.locals p))) (sym is)
  does_is (StoresAny address) possible =
      ap (λ (u : MachineState). not (word_in address (slice_get u.locals p) == word_in address (slice_get s.locals p))) (sym is)
  does_is (Sets register value) possible =
      ap (λ (u : MachineState). has_value register value (slice_get u.locals p) && not (has_value register value (slice_get s.locals p))) (sym is)
  does_is (SetsAny register) possible =
      ap (λ (u : MachineState). not (register_in register (slice_get u.locals p) == register_in register (slice_get s.locals p))) (sym is)

-- The next step of a walk, which has taken these steps.
module _ (walk new : Walk) (valid : IsSet walk.machine.set) (same : new.machine.set ≡ walk.machine.set) (done : List ℕ) (has : HasDone walk done) (q : ℕ)
    (gone : HasGone walk new q done) (one : new.moment ≡ walk.moment + 1) where
  next_is : slice_get (serial walk.machine.set) walk.moment ≡ Some q
  next_is =
      let later = gone_done walk new same q done gone one has in
      let (rest, is) = rest_of new (subst IsSet (sym same) valid) (done ++ q ∷ []) later in
      let whole : serial walk.machine.set ≡ done ++ q ∷ rest = ap serial (sym same) ∙ is ∙ append_assoc done (q ∷ []) rest in
      let parts = length-append done (q ∷ rest) in
      ap (λ n. slice_get (serial walk.machine.set) n) has.many ∙ ap (λ xs. slice_get xs (length done)) whole
      ∙ slice_get-get_or (done ++ q ∷ rest) (length done) 0 (omega (arith, parts)) ∙ ap Some (get_or-append_seam done q rest 0)

  module _ (wired : IsWired (machine_of walk.machine.set) (producer_of walk.machine.set.topo) (consumer_of walk.machine.set.topo))
      (once : SendsOnce (machine_of walk.machine.set))
      (queue : (s : MachineState) (h : List ℕ) (w : ℕ) → IsLawfulFrom walk.machine.set s h → w < length s.wires
      → values_on s.wires w ++ passed_on walk.machine.set s h w ≡ received_on walk.machine.set s h w ++ values_on (end_from walk.machine.set s h).wires w)
      (fits : Fits walk.machine.set walk.machine.state) where
    -- what it sends on a wire
    pub sends_next : (w : ℕ) → w < length (wires_of walk.machine.set.topo)
        → passed_on walk.machine.set walk.machine.state (q ∷ []) w ≡ option_to_list (slice_get (values_on new.machine.state.wires w) (length (values_on walk.machine.state.wires w)))
    sends_next w there = sent_is walk.machine.set wired once queue walk.machine.state new.machine.state fits q gone.ready gone.stepped w there

    module _ (p : ℕ) (aim : Aim) (possible : IsPossibleAim walk.machine.set p aim) where
      own : q ≡ p → does walk.machine.set walk.machine.state p aim ≡ shows new.machine.state p aim (sight_of walk.machine.state p aim)
      own e =
          let set = walk.machine.set in
          does_is set wired once queue walk.machine.state new.machine.state fits p
          (subst (λ r. enabled set walk.machine.state r ≡ true) e gone.ready) (subst (λ r. new.machine.state ≡ step set walk.machine.state r) e gone.stepped)
          aim possible

      -- whether it is a stop
      pub met : is_stop walk.machine.set p aim walk.moment ≡ ((q == p) && shows new.machine.state p aim (sight_of walk.machine.state p aim))
      met =
          let set = walk.machine.set in
          ap (λ o. is_of p o && does set (state_after set walk.moment) p aim) next_is
          ∙ ap (λ s. (q == p) && does set s p aim) (sym (state_is walk valid done has))
          ∙ by_test (q == p) (λ e. own (eqb-true q p e))
        where
          by_test : (b : Bool) → (b ≡ true → does walk.machine.set walk.machine.state p aim ≡ shows new.machine.state p aim (sight_of walk.machine.state p aim))
              → (b && does walk.machine.set walk.machine.state p aim) ≡ (b && shows new.machine.state p aim (sight_of walk.machine.state p aim))
          by_test true alike = alike refl
          by_test false alike = refl

-- before the first step nothing was sent
pub sent_start : (set : ProgramSet) (moment w : ℕ) → moment ≡ 0 → sent_by set moment w ≡ []
unfolding sent_by
sent_start set moment w is = ap (λ n. passed_on set (start set) (take n (serial set)) w) is

-- what was sent with one step more
pub sent_next : (walk new : Walk) → IsSet walk.machine.set → (same : new.machine.set ≡ walk.machine.set) (done : List ℕ) → HasDone walk done
    → (q : ℕ) → HasGone walk new q done → new.moment ≡ walk.moment + 1
    → ((set : ProgramSet) (s : MachineState) (front rest : List ℕ) (w : ℕ)
    → passed_on set s (front ++ rest) w ≡ passed_on set s front w ++ passed_on set (end_from set s front) rest w)
    → (w : ℕ) → sent_by new.machine.set new.moment w ≡ sent_by walk.machine.set walk.moment w ++ passed_on walk.machine.set walk.machine.state (q ∷ []) w
unfolding sent_by
sent_next walk new valid same done has q gone one passed w =
    let set = walk.machine.set in
    let later = gone_done walk new same q done gone one has in
    ap (λ steps. passed_on new.machine.set (start new.machine.set) steps w) (front_is new (subst IsSet (sym same) valid) (done ++ q ∷ []) later)
    ∙ ap (λ g. passed_on g (start g) (done ++ q ∷ []) w) same
    ∙ passed set (start set) done (q ∷ []) w
    ∙ ap₂ (λ steps s. passed_on set (start set) steps w ++ passed_on set s (q ∷ []) w) (sym (front_is walk valid done has)) has.at.place.there

-- before the first step there is none
pub none_before : (of : ProgramSet) (p n : ℕ) (aim : Aim) → n ≡ 0 → last_up_to of n p aim ≡ None
unfolding last_up_to
none_before of p n aim is = rw is refl

-- what a look over one part of the way more found, and what was found before, together
pub found_so_far : (of own : ProgramSet) (p from to at : ℕ) (aim : Aim) (found before both : Option ℕ) → own ≡ of → at ≡ to
    → last_up_to own to p aim ≡ option_or found (last_up_to own from p aim) → last_up_to of from p aim ≡ before → both ≡ option_or found before
    → last_up_to of at p aim ≡ both
found_so_far of own p from to at aim found before both same there look earlier joined =
    ap (λ n. last_up_to of n p aim) there ∙ ap (λ g. last_up_to g to p aim) (sym same) ∙ look ∙ ap (λ g. option_or found (last_up_to g from p aim)) same
    ∙ ap (option_or found) earlier ∙ sym joined
