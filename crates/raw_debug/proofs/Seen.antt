-- Searches for a step that does what is aimed at, over several steps at a time of which only the last may be one.
use Rattle.std.proofs.Common.{◌≡◌, ℕ, zero, suc, ◌+◌, ◌-◌, ◌<◌, ◌≤◌, Bool, true, false, Option, Some, None, length, refl, sym, ap, ◌∙◌, ⊎_elim, arith}
use Rattle.std.specs.Prelude.{◌&&◌, ◌==◌, if◌then◌else◌}
use Rattle.std.specs.Option.{option_or}
use Rattle.std.proofs.lemmas.Bool.{cases_lt}
use Rattle.raw_model.specs.Program.{ProgramSet}
use Rattle.raw_model.specs.Serial.{serial}
use Rattle.raw_debug.specs.declared.command.Aim.{Aim}
use Rattle.raw_debug.specs.declared.walk.Walk.{Walk}
use Rattle.raw_debug.specs.Walking.{IsUnderWay, HasGoneOn, HasEnded}
use Rattle.raw_debug.specs.Stops.{is_stop, stop_after, latest, last_up_to, sight_of, shows, OnlyLast}
use Rattle.raw_debug.proofs.Searching.{stops, stops_nowhere}

-- on the way from a moment, behind which no step was a stop
pub record Searches (of : ProgramSet) (from p : ℕ) (aim : Aim) (walk : Walk) : Type 0 where
  pub same : walk.machine.set ≡ of
  pub under_way : IsUnderWay walk
  pub later : from ≤ walk.moment
  pub none : (j : ℕ) → from ≤ j → j < walk.moment → is_stop of p aim j ≡ false

-- On the way from a moment, up to where the latest step that does what is aimed at is this one, or was found before.
pub record Looks (of : ProgramSet) (from p : ℕ) (aim : Aim) (walk : Walk) (found : Option ℕ) : Type 0 where
  pub same : walk.machine.set ≡ of
  pub under_way : IsUnderWay walk
  pub latest : last_up_to of walk.moment p aim ≡ option_or found (last_up_to of from p aim)

-- the first moment of a look
pub looks_here : (of : ProgramSet) (p : ℕ) (aim : Aim) (walk : Walk) → walk.machine.set ≡ of → IsUnderWay walk → Looks of walk.moment p aim walk None
looks_here of p aim walk same way = record { same = same; under_way = way; latest = refl }

-- where no number of a stretch passes a test, the latest one is that before it
latest_before : (test : ℕ → Bool) (a d : ℕ) → ((k : ℕ) → a ≤ k → k < a + d → test k ≡ false) → latest test (a + d) ≡ latest test a
latest_before test a zero none = let same : a + 0 ≡ a = omega arith in ap (latest test) same
latest_before test a (suc d) none =
    let more : a + suc d ≡ suc (a + d) = omega arith in
    ap (latest test) more
    ∙ ap (λ b. if b then Some (suc (a + d)) else latest test (a + d)) (none (a + d) (omega arith) (omega arith))
    ∙ latest_before test a d (λ k low high. none k low (omega (arith, high)))

noted : (b : Bool) (n : ℕ) (found before : Option ℕ) (old : Option ℕ) → old ≡ option_or found before
    → (if b then Some n else old) ≡ option_or (if b then Some n else found) before
noted true n found before old is = refl
noted false n found before old is = is

module _ (of : ProgramSet) (from p : ℕ) (aim : Aim) (walk new : Walk) (same : walk.machine.set ≡ of) (to : ℕ) (gone : HasGoneOn walk new to) (q : ℕ)
    (seen : OnlyLast walk new q p aim) where
  others : (k : ℕ) → walk.moment ≤ k → k + 1 < new.moment → is_stop of p aim k ≡ false
  others k low high = ap (λ g. is_stop g p aim k) (sym same) ∙ seen.others k low high

  last : (k : ℕ) → k + 1 ≡ new.moment → is_stop of p aim k ≡ ((q == p) && shows new.machine.state p aim (sight_of walk.machine.state p aim))
  last k is = ap (λ g. is_stop g p aim k) (sym same) ∙ seen.last k is

  -- A search that goes on: the last step is none, or it is one.
  module _ (search : Searches of from p aim walk) where
    none_but : (j : ℕ) → from ≤ j → j + 1 < new.moment → is_stop of p aim j ≡ false
    none_but j low high =
        ⊎_elim (λ (before : j < walk.moment). search.none j low before) (λ (at : walk.moment ≤ j). others j at high) (cases_lt j walk.moment)

    pub searches_on : ((q == p) && shows new.machine.state p aim (sight_of walk.machine.state p aim)) ≡ false → Searches of from p aim new
    searches_on off = record {
      same = gone.set ∙ same;
      under_way = gone.under_way;
      later = omega (arith, search.later, gone.later);
      none = λ j low high.
          ⊎_elim
          (λ (before : j + 1 < new.moment). none_but j low before)
          (λ (at : new.moment ≤ j + 1). last j (omega (arith, at, high)) ∙ off)
          (cases_lt (j + 1) new.moment);
    }

    stops_at : (k : ℕ) → k + 1 ≡ new.moment → ((q == p) && shows new.machine.state p aim (sight_of walk.machine.state p aim)) ≡ true
        → stop_after of from p aim ≡ Some new.moment
    stops_at k is on =
        let long = ap (λ g. length (serial g)) same in
        stops of p aim from k (omega (arith, search.later, gone.later, is)) (λ j low high. none_but j low (omega (arith, high, is)))
        (omega (arith, gone.within, is, long)) (last k is ∙ on)
        ∙ ap Some is

    pub stops_here : ((q == p) && shows new.machine.state p aim (sight_of walk.machine.state p aim)) ≡ true → stop_after of from p aim ≡ Some new.moment
    stops_here on = stops_at (new.moment - 1) (omega (arith, gone.later)) on

  -- A look that goes on.
  module _ (found : Option ℕ) (look : Looks of from p aim walk found) where
    next_latest : (b : Bool) (d : ℕ) → suc (walk.moment + d) ≡ new.moment
        → b ≡ ((q == p) && shows new.machine.state p aim (sight_of walk.machine.state p aim))
        → last_up_to of new.moment p aim ≡ (if b then Some new.moment else last_up_to of walk.moment p aim)
    unfolding last_up_to
    next_latest b d is met =
        ap (latest (is_stop of p aim)) (sym is)
        ∙ ap (λ c. if c then Some (suc (walk.moment + d)) else latest (is_stop of p aim) (walk.moment + d))
        (last (walk.moment + d) (omega (arith, is)) ∙ sym met)
        ∙ ap (λ n. if b then Some n else latest (is_stop of p aim) (walk.moment + d)) is
        ∙ ap (λ o. if b then Some new.moment else o)
        (latest_before (is_stop of p aim) walk.moment d (λ k low high. others k low (omega (arith, high, is))))

    pub looks_on : (b : Bool) (later : Option ℕ) → b ≡ ((q == p) && shows new.machine.state p aim (sight_of walk.machine.state p aim))
        → later ≡ (if b then Some new.moment else found) → Looks of from p aim new later
    looks_on b later met is = record {
      same = gone.set ∙ same;
      under_way = gone.under_way;
      latest = next_latest b (new.moment - walk.moment - 1) (omega (arith, gone.later)) met
          ∙ noted b new.moment found (last_up_to of from p aim) (last_up_to of walk.moment p aim) look.latest
          ∙ ap (λ o. option_or o (last_up_to of from p aim)) (sym is);
    }

-- There is no next step.
pub ends_here : (of : ProgramSet) (from p : ℕ) (aim : Aim) (walk new : Walk) → Searches of from p aim walk → HasEnded walk new → stop_after of from p aim ≡ None
ends_here of from p aim walk new search ended =
    let long = ap (λ g. length (serial g)) search.same in
    stops_nowhere of p aim from walk.moment search.later search.none (omega (arith, ended.end, ended.moment, long))
