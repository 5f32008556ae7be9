-- How a set comes to rest, whatever run it takes.
use Rattle.std.proofs.Common.{◌≡◌, ℕ, zero, suc, List, [], ◌∷◌, Option, Some, None, Ok, Err, refl, sym, ap, ◌∙◌, subst}
use Rattle.std.specs.Prelude.{Result, IfOk}
use Rattle.std.proofs.Math.Logic.{∥∥₁_elim}
use Rattle.std.proofs.Math.Nat.{ℕ_set}
use mathlib.Core.List.{is_set}
use Rattle.raw_model.specs.Program.{ProgramSet, IsSet}
use Rattle.raw_model.specs.Start.{MachineState, start}
use Rattle.raw_model.specs.Rest.{IsQuiet, IsRun, end}
use Rattle.raw_model.specs.Serial.{serial}
use Rattle.raw_model.specs.Waits.{waits_for}
use Rattle.raw_model.specs.Outcomes.{Outcome, Done, Deadlock, Trapped, Limit, Stuck, outcome}
use Rattle.raw_model.proofs.Orders.{same_rest}
use Rattle.raw_model.proofs.Sweeping.{serial_rests}
use Rattle.raw_serial.specs.Leading.{Leads, LeadsBy}
use Rattle.raw_outcome.specs.declared.ends.Outcome.{Outcome as Answer}
use Rattle.raw_outcome.specs.declared.ends.Outcome.TheVariants as answer
use Rattle.raw_outcome.specs.Told.{told}
use Rattle.raw_flow.specs.Flows.{Dataflow}
use Rattle.raw_term.specs.declared.verdict.Verdict.{Verdict}
use Rattle.raw_term.specs.declared.verdict.Verdict.TheVariants.{Rests}
use Rattle.raw_term.specs.TermMachine.{TermState, numbered}
use Rattle.raw_term.specs.declared.place.Place.{Place}
use Rattle.raw_term.specs.Seen.{miscount, seen, terms_seen}
use Rattle.raw_term.specs.Verdicts.{TermRun, ran, first_run, IsOfCounts, IsSaid, IsOfRest, RestsAs, EachRestIsAlike}
use Rattle.raw_prove.specs.Runs.{going, IsOutcomeOf}

-- an outcome as a list of numbers, and back
abbrev code_of : Outcome → List ℕ
code_of Done = []
code_of (Deadlock p ps) = 0 ∷ p ∷ ps
code_of (Trapped p) = 1 ∷ p ∷ []
code_of (Limit p) = 2 ∷ p ∷ []
code_of (Stuck p) = 3 ∷ p ∷ []

abbrev by_kind : ℕ → ℕ → List ℕ → Outcome
by_kind zero p ps = Deadlock p ps
by_kind (suc zero) p ps = Trapped p
by_kind (suc (suc zero)) p ps = Limit p
by_kind (suc (suc (suc n))) p ps = Stuck p

abbrev of_code : List ℕ → Outcome
of_code (k ∷ p ∷ ps) = by_kind k p ps
of_code _ = Done

there_and_back : (o : Outcome) → of_code (code_of o) ≡ o
there_and_back Done = refl
there_and_back _ = refl

-- counts as a list of numbers, and back
abbrev counts_code : Option (ℕ × ℕ) → List ℕ
counts_code None = []
counts_code (Some counts) = counts.0 ∷ counts.1 ∷ []

abbrev counts_of : List ℕ → Option (ℕ × ℕ)
counts_of (k ∷ n ∷ rest) = Some (k, n)
counts_of _ = None

counts_again : (o : Option (ℕ × ℕ)) → counts_of (counts_code o) ≡ o
counts_again None = refl
counts_again (Some counts) = refl

module _ (set : ProgramSet) (valid : IsSet set) (s : MachineState) (quiet : IsQuiet set s) (how : Answer) (tells : told (waits_for set s) how ≡ outcome set s)
    (steps : List ℕ) (run : IsRun set steps) where
  abbrev Tells : MachineState → Type 0
  Tells t = told (waits_for set t) how ≡ outcome set t

  pub led_end : (h : List ℕ) → LeadsBy set (start set) s h → s ≡ end set steps
  led_end h led =
      sym led.there
      ∙ sym (same_rest set valid (start set) h steps (record { lawful = led.lawful; quiet = subst (IsQuiet set) (sym led.there) quiet }) (record { lawful = run.lawful; quiet = run.quiet }))

  pub each_tells : Leads set (start set) s → Tells (end set steps)
  each_tells leads =
      let one : Outcome = told (waits_for set (end set steps)) how in
      let other : Outcome = outcome set (end set steps) in
      let same : code_of one ≡ code_of other = ∥∥₁_elim leads (is_set ℕ_set _ _) (λ led. ap code_of (subst Tells (led_end led.0 led.1) tells)) in
      sym (there_and_back one) ∙ ap of_code same ∙ there_and_back other

  pub same_seen : (places : List Place) → Leads set (start set) s → seen places s ≡ seen places (end set steps)
  same_seen places leads = ∥∥₁_elim leads (is_set ℕ_set _ _) (λ led. ap (seen places) (led_end led.0 led.1))

  pub same_miscount : (places : List Place) → Leads set (start set) s → miscount places s.locals ≡ miscount places (end set steps).locals
  same_miscount places leads =
      let one : Option (ℕ × ℕ) = miscount places s.locals in
      let other : Option (ℕ × ℕ) = miscount places (end set steps).locals in
      let same : counts_code one ≡ counts_code other = ∥∥₁_elim leads (is_set ℕ_set _ _) (λ led. ap (λ (t : MachineState). counts_code (miscount places t.locals)) (led_end led.0 led.1)) in
      sym (counts_again one) ∙ ap counts_of same ∙ counts_again other

-- so a run with terms that rests has the outcome of the set
pub rested_tells : (set : ProgramSet) → IsSet set → EachRestIsAlike → (n steps : ℕ) (s : TermState) (how : Answer) → ran (numbered set) n (first_run set) ≡ going s steps → IsQuiet (numbered set) s.state → IsOutcomeOf set how
    → told (waits_for (numbered set) s.state) how ≡ outcome (numbered set) s.state
rested_tells set valid alike n steps s how there quiet is =
    let run : IsRun set (serial set) = serial_rests set valid in
    let r : TermRun = ran (numbered set) n (first_run set) in
    let at : r.at ≡ s = ap (λ (k : TermRun). k.at) there in
    let rests : RestsAs set r.at (end set (serial set)) =
    alike set n (serial set) valid run (ap (λ (k : TermRun). k.broken) there) (subst (λ (t : TermState). IsQuiet (numbered set) t.state) (sym at) quiet) in
    let own : RestsAs set s (end set (serial set)) = subst (λ (t : TermState). RestsAs set t (end set (serial set))) at rests in
    ap (λ (f : ℕ → Option ℕ). told f how) own.waits ∙ is (serial set) run ∙ sym own.rests

pub done_of : {E : Type 0} (set : ProgramSet) (s : TermState) (flow : Dataflow) (places : List Place) (how : Answer) → told (waits_for (numbered set) s.state) how ≡ outcome (numbered set) s.state → how ≡ answer.Done
    → (result : Result Verdict E) → IfOk result (IsOfCounts (miscount places s.state.locals) s flow (terms_seen places s.state)) → IfOk result (IsOfRest (numbered set) flow places s)
done_of set s flow places how tells done (Err e) h = tt
done_of set s flow places how tells done (Ok verdict) h = record { how = how; tells = tells; is = subst (λ (k : Answer). IsSaid k s flow places verdict) (sym done) h }

pub rest_of : (set : ProgramSet) (s : TermState) (flow : Dataflow) (places : List Place) (how : Answer) → told (waits_for (numbered set) s.state) how ≡ outcome (numbered set) s.state → (how ≡ answer.Done → ⊥)
    → IsOfRest (numbered set) flow places s (Rests how)
rest_of set s flow places how tells other = record { how = how; tells = tells; is = by how other } where
  by : (k : Answer) → (k ≡ answer.Done → ⊥) → IsSaid k s flow places (Rests k)
  by answer.Done h = absurd (h refl)
  by (answer.Deadlock least many) h = refl
  by (answer.Trapped p) h = refl
  by (answer.Limit p) h = refl
  by (answer.Stuck p) h = refl
