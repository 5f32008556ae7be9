-- What is done at a depth is done at each greater one.
use Rattle.std.proofs.Common.{◌≡◌, ℕ, ◌<◌, ◌≤◌, Bool, true, false, cond, not, length, get_or, List, [], ◌⊎◌, Option, Some, None, refl, sym, ap, ◌∙◌, subst, inl, inr, ⊎_elim, arith}
use Rattle.std.specs.Prelude.{slice_get, slice_index_or, option_map}
use Rattle.std.proofs.lemmas.Bool.{eq-eqb, ne_eqb, false≢true}
use Rattle.std.proofs.lemmas.Option.{same_Some, slice_get_within, slice_get_cases, slice_get-get_or, get_or_from_slice_get}
use Rattle.raw_network.specs.Waits.{wait_of}
use Rattle.raw_grid.specs.declared.parts.ProcKind.TheVariants as proc
use Rattle.raw_grid.specs.Topology.{kind_at}
use Rattle.raw_grid.specs.Wires.{producer_of, consumer_of}
use Rattle.raw_grid.proofs.WireLaws.{ends_apart}
use Rattle.raw_cycle.specs.Cycles.{WaitsRound, NoCycle}
use Rattle.raw_deeper.specs.Deeper.{IsStopped, WaitsForValue}
use Rattle.raw_model.specs.Program.{ProgramSet, IsSet}
use Rattle.raw_model.specs.Local.{Local, Tile, Switch, Source, Sink, PortLocal}
use Rattle.raw_model.specs.Machine.{is_stopped, machine_of}
use Rattle.raw_model.specs.Start.{MachineState, Fits}
use Rattle.raw_model.specs.Rest.{IsRun, end, is_stopped_at, is_trapped, is_at_limit}
use Rattle.raw_model.specs.Waits.{inputs_at, outputs_at, first_wait, other_end, waits_for}
use Rattle.raw_model.specs.Outcomes.Outcome.{Done, Deadlock, Trapped, Limit, Stuck}
use Rattle.raw_model.specs.Outcomes.{Outcome, outcome, IsOutcome, NoneIs, is_unhalted}
use Rattle.raw_model.proofs.Awaited.{none_where_enabled, none_where_stopped}
use Rattle.raw_model.proofs.Resting.{outcome_says}
use Rattle.raw_depth.specs.Depth.{at_depth, is_source}
use Rattle.raw_depth.proofs.Ports.{IsSwitchPlace}
use Rattle.raw_depth.proofs.Locals.{halted_ended, unhalted_untrapped, unhalted_unlimited, fits_at, at_switch, sink_waits, source_waits}
use Rattle.raw_depth.proofs.Resting.{AreHeldIn, stays_as}
use Rattle.raw_depth.proofs.Rounds.{next_on, among_here}

-- there is a local state, and it is not that of a source
abbrev is_lasting : Option Local → Bool
is_lasting None = false
is_lasting (Some l) = not (is_source l)

-- a local state that passes no test passes it where it is read
none_at : (test : Local → Bool) (s : MachineState) → NoneIs test s → (p : ℕ) (l : Local) → slice_get s.locals p ≡ Some l → test l ≡ false
none_at test s none p l here =
    subst (λ x. test x ≡ false) (get_or_from_slice_get s.locals p l l here) (none p l (slice_get_within s.locals p l here))

module _ (set : ProgramSet) (valid : IsSet set) (h : List ℕ) (short : IsRun set h) (done : outcome set (end set h) ≡ Done) where
  abbrev s : MachineState
  s = end set h

  fits : Fits set s
  fits = fits_at set h valid short.lawful

  facts : IsOutcome set s Done
  facts = subst (IsOutcome set s) done (outcome_says set s valid)

  pub no_cycle : NoCycle (waits_for set s)
  no_cycle = facts.0

  unhalted_at : (p : ℕ) (l : Local) → slice_get s.locals p ≡ Some l → is_unhalted l ≡ false
  unhalted_at p l here = none_at is_unhalted s facts.3 p l here

  abbrev lasting : ℕ → Bool
  lasting q = is_lasting (slice_get s.locals q)

  switch_lasting : (q : ℕ) → IsSwitchPlace set.topo q → lasting q ≡ true
  switch_lasting q is = let there = at_switch set valid s fits q is in ap is_lasting there.1

  stopped_is : (q : ℕ) (l : Local) → slice_get s.locals q ≡ Some l → is_stopped set q l ≡ true → IsStopped (machine_of set) s q
  unfolding machine_of
  stopped_is q l here stop = record { l = l; here = here; stopped = stop }

  -- a sink that is not full waits for a value of a switch
  sink_held : (q : ℕ) (l : PortLocal) → slice_get s.locals q ≡ Some (Sink l) → (b : Bool) → is_stopped set q (Sink l) ≡ b
      → IsStopped (machine_of set) s q
      ⊎ ((w : ℕ) × WaitsForValue (machine_of set) (producer_of set.topo) (consumer_of set.topo) (inputs_at set.topo) (outputs_at set.topo) lasting s q w)
  sink_held q l here true is = inl (stopped_is q (Sink l) here is)
  sink_held q l here false is = from (first_wait set s q) refl
    where
      from : (o : Option ℕ) → first_wait set s q ≡ o
          → IsStopped (machine_of set) s q
          ⊎ ((w : ℕ) × WaitsForValue (machine_of set) (producer_of set.topo) (consumer_of set.topo) (inputs_at set.topo) (outputs_at set.topo) lasting s q w)
      from None e =
          let may = (none_where_enabled set s q (slice_get_within s.locals q (Sink l) here) (ap (is_stopped_at set q) here ∙ is)).0 e in
          absurd (false≢true (sym (short.quiet q) ∙ may))
      from (Some w) e =
          let fed = sink_waits set valid s fits q w l here e in
          inr (w, record { waits = e; takes = fed.0; on = switch_lasting (producer_of set.topo w) fed.1 })

  held : AreHeldIn set lasting s
  held q on = by_local (slice_get s.locals q) refl on
    where
      by_local : (o : Option Local) → slice_get s.locals q ≡ o → is_lasting o ≡ true
          → IsStopped (machine_of set) s q
          ⊎ ((w : ℕ) × WaitsForValue (machine_of set) (producer_of set.topo) (consumer_of set.topo) (inputs_at set.topo) (outputs_at set.topo) lasting s q w)
      by_local None here on = absurd (cc on)
      by_local (Some (Tile l)) here on =
          inl (stopped_is q (Tile l) here (rw (halted_ended l.mark (unhalted_at q (Tile l) here)) refl))
      by_local (Some (Switch l)) here on =
          inl (stopped_is q (Switch l) here (rw (halted_ended l.mark (unhalted_at q (Switch l) here)) refl))
      by_local (Some (Source l)) here on = absurd (cc on)
      by_local (Some (Sink l)) here on = sink_held q l here (is_stopped set q (Sink l)) refl

  module _ (d : ℕ) (le : set.depth ≤ d) (g : List ℕ) (long : IsRun (at_depth set d) g) where
    abbrev t : MachineState
    t = end (at_depth set d) g

    -- all but the sources stay as they are
    pub same_local : (p : ℕ) (l : Local) → slice_get s.locals p ≡ Some l → is_source l ≡ false → slice_get t.locals p ≡ Some l
    same_local p l here no' =
        let on : lasting p ≡ true = ap is_lasting here ∙ ap not no' in
        (stays_as set d valid le h g short long lasting held p on).local ∙ here

    module _ (deep : IsSet (at_depth set d)) where
      fits' : Fits (at_depth set d) t
      fits' = fits_at (at_depth set d) g deep long.lawful

      -- at greater depth too each tile and each switch has halted
      halted : (p : ℕ) (l : Local) → slice_get t.locals p ≡ Some l → is_source l ≡ false → is_unhalted l ≡ false
      halted p l now no' =
          ⊎_elim
          (λ found. by_local found.0 found.2)
          (λ past.
          let within = slice_get_within t.locals p l now in
          let many = fits.processors in let many' = fits'.processors in
          absurd (omega (arith, past.0)))
          (slice_get_cases s.locals p).1
        where
          not_source : (l : Local) → is_source l ≡ false → kind_at set.topo p ≡ Some proc.Source → slice_get t.locals p ≡ Some l → ⊥
          not_source (Tile l) no' kind now = let a = (fits'.locals p (Tile l) now).0 in cc (a, kind)
          not_source (Switch l) no' kind now = let a = (fits'.locals p (Switch l) now).0 in cc (a, kind)
          not_source (Source l) no' kind now = cc no'
          not_source (Sink l) no' kind now = let a = (fits'.locals p (Sink l) now).0 in cc (a, kind)

          as_it_was : (m : Local) → slice_get s.locals p ≡ Some m → is_source m ≡ false → is_unhalted l ≡ false
          as_it_was m here on =
              let same : m ≡ l = same_Some m l (sym (same_local p m here on) ∙ now) in
              subst (λ x. is_unhalted x ≡ false) same (unhalted_at p m here)

          by_local : (m : Local) → slice_get s.locals p ≡ Some m → is_unhalted l ≡ false
          by_local (Tile m) here = as_it_was (Tile m) here refl
          by_local (Switch m) here = as_it_was (Switch m) here refl
          by_local (Source m) here = absurd (not_source l no' (fits.locals p (Source m) here).0 now)
          by_local (Sink m) here = as_it_was (Sink m) here refl

      all_halted : (p : ℕ) (l : Local) → slice_get t.locals p ≡ Some l → is_unhalted l ≡ false
      all_halted p (Tile l) now = halted p (Tile l) now refl
      all_halted p (Switch l) now = halted p (Switch l) now refl
      all_halted p _ now = refl

      -- a tile or a switch waits for none, and a port for a switch at most
      ended_waits : (q : ℕ) (l : Local) → slice_get t.locals q ≡ Some l → is_stopped (at_depth set d) q l ≡ true → first_wait (at_depth set d) t q ≡ None
      ended_waits q l now stop = none_where_stopped (at_depth set d) t q (ap (is_stopped_at (at_depth set d) q) now ∙ stop)

      switch_waits : (q : ℕ) → IsSwitchPlace set.topo q → waits_for (at_depth set d) t q ≡ None
      switch_waits q is =
          let there = at_switch (at_depth set d) deep t fits' q is in
          ap (option_map (other_end set.topo q))
          (ended_waits q (Switch there.0) there.1 (rw (halted_ended there.0.mark (all_halted q (Switch there.0) there.1)) refl))

      waits_switch : (q r : ℕ) → waits_for (at_depth set d) t q ≡ Some r → IsSwitchPlace set.topo r
      waits_switch q r waits = by_wait (first_wait (at_depth set d) t q) refl waits
        where
          by_wait : (o : Option ℕ) → first_wait (at_depth set d) t q ≡ o → option_map (other_end set.topo q) o ≡ Some r → IsSwitchPlace set.topo r
          by_wait None e f = absurd (cc f)
          by_wait (Some w) e f = ⊎_elim (λ found. by_local found.0 found.2) (λ past. absurd (not_there past.1)) (slice_get_cases t.locals q).1
            where
              not_there : slice_get t.locals q ≡ None → ⊥
              not_there none =
                  let no' : None ≡ Some w =
                  sym (ap (λ o. wait_of (machine_of (at_depth set d)) (inputs_at set.topo) (outputs_at set.topo) t.wires q o) none) ∙ e in
                  cc no'

              ended : (l : Local) → slice_get t.locals q ≡ Some l → is_stopped (at_depth set d) q l ≡ true → ⊥
              ended l now stop = let none = ended_waits q l now stop in cc (none, e)

              is_other : other_end set.topo q w ≡ r
              is_other = same_Some (other_end set.topo q w) r f

              by_local : (l : Local) → slice_get t.locals q ≡ Some l → IsSwitchPlace set.topo r
              by_local (Tile l) now = absurd (ended (Tile l) now (rw (halted_ended l.mark (all_halted q (Tile l) now)) refl))
              by_local (Switch l) now = absurd (ended (Switch l) now (rw (halted_ended l.mark (all_halted q (Switch l) now)) refl))
              by_local (Source l) now =
                  let reads = source_waits (at_depth set d) deep t fits' q w l now e in
                  let apart : consumer_of set.topo w ≡ q → ⊥ = λ same. ends_apart set.topo w valid.topology (reads.0 ∙ sym same) in
                  let other : other_end set.topo q w ≡ consumer_of set.topo w =
                  ap (λ b. cond b (producer_of set.topo w) (consumer_of set.topo w)) (ne_eqb (consumer_of set.topo w) q apart) in
                  subst (IsSwitchPlace set.topo) (sym other ∙ is_other) reads.1
              by_local (Sink l) now =
                  let fed = sink_waits (at_depth set d) deep t fits' q w l now e in
                  let other : other_end set.topo q w ≡ producer_of set.topo w =
                  ap (λ b. cond b (producer_of set.topo w) (consumer_of set.topo w)) (eq-eqb (consumer_of set.topo w) q fed.0) in
                  subst (IsSwitchPlace set.topo) (sym other ∙ is_other) fed.1

      none_round : (p : ℕ) (ps : List ℕ) → WaitsRound (waits_for (at_depth set d) t) p p ps → ⊥
      none_round p ps round =
          let first = next_on (waits_for (at_depth set d) t) p ps round p (among_here p ps) in
          let second = next_on (waits_for (at_depth set d) t) p ps round first.0 first.2 in
          let none = switch_waits first.0 (waits_switch p first.0 first.1) in
          let some = second.1 in
          cc (none, some)

      none_first : (test : Local → Bool) → ((p : ℕ) (l : Local) → slice_get t.locals p ≡ Some l → test l ≡ false) → (p : ℕ) → p < length t.locals
          → ((d : Local) → test (slice_index_or t.locals p d) ≡ true) → ⊥
      none_first test none p within passes =
          let d : Local = Source (record { done = 0; got = [] }) in
          false≢true (sym (none p (get_or t.locals p d) (slice_get-get_or t.locals p d within)) ∙ passes d)

      pub still_done : outcome (at_depth set d) t ≡ Done
      still_done = by (outcome (at_depth set d) t) (outcome_says (at_depth set d) t deep)
        where
          by : (o : Outcome) → IsOutcome (at_depth set d) t o → o ≡ Done
          by Done is = refl
          by (Deadlock p ps) is = absurd (none_round p ps is.cycle.waits)
          by (Trapped p) is = absurd (none_first is_trapped (λ q l now. unhalted_untrapped l (all_halted q l now)) p is.1.there is.1.passes)
          by (Limit p) is = absurd (none_first (is_at_limit (at_depth set d)) (λ q l now. unhalted_unlimited (at_depth set d) l (all_halted q l now)) p is.2.there is.2.passes)
          by (Stuck p) is = absurd (none_first is_unhalted (λ q l now. all_halted q l now) p is.3.there is.3.passes)
