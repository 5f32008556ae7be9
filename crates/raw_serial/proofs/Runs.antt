-- The list of steps that a machine is run by, one step longer.
use Rattle.std.proofs.Common.{◌≡◌, ◌≢◌, ℕ, ◌+◌, ◌<◌, Bool, true, false, List, [], ◌∷◌, ◌++◌, refl, sym, ap, ◌∙◌, subst, ⊎_elim, arith, append-nil}
use Rattle.std.specs.Prelude.{◌==◌, slice_index, slice_index_or}
use Rattle.std.specs.List.{filter_map}
use Rattle.std.specs.Option.{option_to_list}
use Rattle.std.proofs.lemmas.Bool.{cases_eq, ne_eqb}
use Rattle.std.proofs.lemmas.List.Elements.{filter_map-append}
use Rattle.raw_network.specs.Network.{Network, State, Event, event_of}
use Rattle.raw_network.specs.Runs.{with_first, events_of, touches}
use Rattle.raw_network.proofs.Steps.{lawful-push, end_of-push, events_of-append, touches-push}
use Rattle.raw_grid.specs.Topology.{tile_count}
use Rattle.raw_model.specs.Program.{ProgramSet}
use Rattle.raw_model.specs.Local.{Local}
use Rattle.raw_model.specs.Machine.{machine_of}
use Rattle.raw_model.specs.Start.{MachineState, start}
use Rattle.raw_model.specs.Rest.{step, enabled}
use Rattle.raw_model.specs.Cache.{StandsFor, touches_of, misses, stream_of}
use Rattle.raw_network.proofs.Wires.{count_there}
use Rattle.raw_processor.specs.Touching.{owed_after}
use Rattle.raw_serial.specs.Running.{Running, OwesLast, IsRunBy}
use Rattle.raw_serial.proofs.Owing.{owes_own, owes_on}

none_first : {L : Type 0} (b : Bool) (e : Event L) → b ≡ false → filter_map (λ e. e.touched) (with_first b e []) ≡ []
none_first true e is = absurd (cc is)
none_first false e is = refl

-- what a processor touched, with one more step of another
touches-push_other : {L : Type 0} (net : Network L) (s : State L) (ps : List ℕ) (p q : ℕ) → q ≢ p
    → touches net s (ps ++ p ∷ []) q ≡ touches net s ps q
touches-push_other net s ps p q other =
    ap (filter_map (λ e. e.touched)) (events_of-append net s ps (p ∷ []) q)
    ∙ filter_map-append (λ e. e.touched) (events_of net s ps q) _
    ∙ ap (λ more. touches net s ps q ++ more) (none_first (p == q) _ (ne_eqb p q (λ e. other (sym e))))
    ∙ append-nil (touches net s ps q)

-- the address that the next step of a processor touches, as a list
abbrev pub next_touch : ProgramSet → MachineState → ℕ → List ℕ
next_touch g s p = option_to_list (event_of (machine_of g) s p).touched

-- what a step does to the caches and counts: those of the processor that steps take its touch, the others stay
pub record AreCounted (old new : Running) (p : ℕ) : Type 0 where
  pub stands : p < tile_count old.set.topo → (earlier : List ℕ) → StandsFor (slice_index_or old.caches p []) earlier
      → StandsFor (slice_index_or new.caches p []) (earlier ++ next_touch old.set old.state p)
  pub missed : p < tile_count old.set.topo → (earlier : List ℕ) → StandsFor (slice_index_or old.caches p []) earlier
      → misses (earlier ++ next_touch old.set old.state p) + slice_index old.missed p ≡ misses earlier + slice_index new.missed p
  pub other_caches : (t : ℕ) → t ≢ p → slice_index_or new.caches t [] ≡ slice_index_or old.caches t []
  pub other_misses : (t : ℕ) → t ≢ p → slice_index new.missed t ≡ slice_index old.missed t
  pub owed : p < tile_count old.set.topo → slice_index new.owed p ≡ owed_after (stream_of old.set p) (slice_index old.missed p) (slice_index new.missed p)
  pub other_owed : (t : ℕ) → t ≢ p → slice_index new.owed t ≡ slice_index old.owed t

module _ (old new : Running) (p : ℕ) (stepped : new.state ≡ step old.set old.state p)
    (on : enabled old.set old.state p ≡ true) (counted : AreCounted old new p) (steps : List ℕ) (run : IsRunBy old steps) where
  abbrev net : Network Local
  net = machine_of old.set

  abbrev touched : ℕ → List ℕ
  touched t = touches_of old.set (start old.set) steps t

  abbrev touched_then : ℕ → List ℕ
  touched_then t = touches_of old.set (start old.set) (steps ++ p ∷ []) t

  own_touches : touched_then p ≡ touched p ++ next_touch old.set old.state p
  own_touches = touches-push net (start old.set) steps p ∙ ap (λ s. touched p ++ next_touch old.set s p) run.there

  stands_then : (t : ℕ) → t < tile_count old.set.topo → StandsFor (slice_index_or new.caches t []) (touched_then t)
  stands_then t within =
      ⊎_elim
      (λ is.
      let front = subst (λ q. q < tile_count old.set.topo) is within in
      subst (λ q. StandsFor (slice_index_or new.caches q []) (touched_then q)) (sym is)
      (subst (StandsFor (slice_index_or new.caches p [])) (sym own_touches) (counted.stands front (touched p) (run.stands p front))))
      (λ other.
      subst (λ cache. StandsFor cache (touched_then t)) (sym (counted.other_caches t other))
      (subst (StandsFor (slice_index_or old.caches t [])) (sym (touches-push_other net (start old.set) steps p t other)) (run.stands t within)))
      (cases_eq t p)

  missed_then : (t : ℕ) → t < tile_count old.set.topo → slice_index new.missed t ≡ misses (touched_then t)
  missed_then t within =
      ⊎_elim
      (λ is.
      let front = subst (λ q. q < tile_count old.set.topo) is within in
      let more = counted.missed front (touched p) (run.stands p front) in
      let before = run.missed p front in
      let now = ap misses own_touches in
      subst (λ q. slice_index new.missed q ≡ misses (touched_then q)) (sym is) (omega arith))
      (λ other. counted.other_misses t other ∙ run.missed t within ∙ ap misses (sym (touches-push_other net (start old.set) steps p t other)))
      (cases_eq t p)

  owed_then : (t : ℕ) → t < tile_count old.set.topo → OwesLast old.set (steps ++ p ∷ []) t (slice_index new.owed t)
  owed_then t within =
      ⊎_elim
      (λ is.
      let front = subst (λ q. q < tile_count old.set.topo) is within in
      subst (λ q. OwesLast old.set (steps ++ p ∷ []) q (slice_index new.owed q)) (sym is)
      (owes_own old.set steps p (slice_index new.owed p)
      (counted.owed front
      ∙ ap (λ n. owed_after (stream_of old.set p) n (slice_index new.missed p)) (run.missed p front)
      ∙ ap (λ n. owed_after (stream_of old.set p) (misses (touched p)) n) (missed_then p front))))
      (λ other.
      owes_on old.set steps (p ∷ []) t (slice_index old.owed t) (slice_index new.owed t) (count_there t p [] (λ e. other (sym e)))
      (ap misses (touches-push_other net (start old.set) steps p t other)) (let same = counted.other_owed t other in omega arith) (run.owed t within))
      (cases_eq t p)

  -- the new machine is run by one more step, where its set is the old one
  pub pushed : IsRunBy (record { set = old.set; state = new.state; caches = new.caches; missed = new.missed; owed = new.owed }) (steps ++ p ∷ [])
  pushed =
      record {
        lawful = lawful-push net (start old.set) steps p run.lawful (subst (λ s. enabled old.set s p ≡ true) (sym run.there) on);
        there = end_of-push net (start old.set) steps p ∙ ap (λ s. step old.set s p) run.there ∙ sym stepped;
        stands = stands_then;
        missed = missed_then;
        owed = owed_then;
      }
