-- The machine of a fabric that is closed.
use Rattle.std.proofs.Common.{◌≡◌, ℕ, zero, suc, ◌+◌, ◌*◌, ◌%◌, ◌<◌, ◌≤◌, List, [], ◌∷◌, ◌++◌, Option, Some, None, map, length, refl, sym, ap, ◌∙◌, subst, ⊎_elim, arith, ext_get_or, append-nil}
use Rattle.std.specs.Prelude.{slice_get, slice_index, slice_index_or}
use Rattle.std.proofs.lemmas.Bool.{cases_lt}
use Rattle.std.proofs.lemmas.List.{length-map, map-append, get_or_past}
use Rattle.std.proofs.lemmas.List.Elements.{filter_map-append}
use Rattle.std.specs.List.{concat, filter_map, cons_option}
use Rattle.std.specs.Option.{option_to_list}
use Rattle.raw_network.specs.Network.{Network, State, Event, event_of, count_of}
use Rattle.raw_network.specs.Laws.{of_worker}
use Rattle.raw_network.specs.Runs.{end_of, events_of, touches}
use Rattle.raw_network.proofs.Steps.{end_of-append, lawful-append, events_of-append}
use Rattle.raw_network.proofs.Erased.{events_here, length-events_of}
use Rattle.raw_grid.specs.Topology.{tile_count}
use Rattle.raw_model.specs.Program.{ProgramSet, IsSet}
use Rattle.raw_model.specs.Local.{Local}
use Rattle.raw_model.specs.Machine.{machine_of}
use Rattle.raw_model.specs.Start.{MachineState, start}
use Rattle.raw_model.specs.Rest.{IsLawfulFrom, end_from, step}
use Rattle.raw_model.specs.Cache.{HeldLines, StandsFor, touches_of, misses, stream_of}
use Rattle.raw_model.specs.Serial.{IsJoined}
use Rattle.raw_processor.specs.declared.processor.Processor.{Processor}
use Rattle.raw_processor.specs.Processor.{local_of, cache_of, misses_of, owed_of}
use Rattle.arrayvec.specs.ArrayVec.{ArrayVec}
use Rattle.std.proofs.Math.Logic.{∥∥₁_map}
use Rattle.raw_serial.specs.declared.parts.Parts.{Parts}
use Rattle.raw_serial.specs.Fresh.{AreAllEnds}
use Rattle.raw_serial.specs.Taken.{IsWhole}
use Rattle.raw_processor.specs.Touching.{owed_after}
use Rattle.raw_serial.specs.Running.{Running, IsRunBy, IsReached, TakesNone, TakesLastBehind, OwesLast, misses_in}
use Rattle.raw_serial.specs.Parts.{running_of}
use Rattle.raw_serial.proofs.Fields.{field_at}
use Rattle.raw_serial.proofs.Owing.{count_append, last_later, owes_on}
use Rattle.raw_fabric_rule.specs.Views.{About, View}
use Rattle.raw_fabric_rule.specs.ByEnds.{procs, wires, local, nobody}
use Rattle.raw_fabric_rule.specs.Rule.{steps_of, touches_by_step}
use Rattle.raw_fabric_rule.specs.Closing.{IsClosed, wire_of}
use Rattle.raw_steps.specs.declared.log.PassLog.{PassLog}
use Rattle.raw_steps.specs.Taking.{numbers}
use Rattle.raw_serial.specs.Leading.{HasTaken}
use Rattle.raw_steps.specs.Weaving.{steps_in}
use Rattle.raw_fabric.specs.Opened.{machine_before}
use Rattle.raw_fabric.specs.declared.pass.Pass.{Pass}
use Rattle.raw_fabric.specs.Closed.{IsClosedTo, AreGathered, AreKept, AreHeld, HasUnit}
use Rattle.raw_fabric.proofs.Places.{there}

-- what a processor touched in one list of steps after another
touches-append : {L : Type 0} (net : Network L) (s : State L) (ps qs : List ℕ) (p : ℕ) → touches net s (ps ++ qs) p ≡ touches net s ps p ++ touches net (end_of net s ps) qs p
touches-append net s ps qs p =
    ap (filter_map (λ e. e.touched)) (events_of-append net s ps qs p)
    ∙ filter_map-append (λ e. e.touched) (events_of net s ps p) (events_of net (end_of net s ps) qs p)

-- ---- what each step touched
-- all of it is what was touched
join_each : {X : Type 0} (f : X → Option ℕ) (xs : List X) → concat (map (λ x. option_to_list (f x)) xs) ≡ filter_map f xs
join_each f [] = refl
join_each f (x ∷ xs) = by_case (f x) (join_each f xs)
  where
    by_case : (o : Option ℕ) → concat (map (λ x. option_to_list (f x)) xs) ≡ filter_map f xs
        → option_to_list o ++ concat (map (λ x. option_to_list (f x)) xs) ≡ cons_option o (filter_map f xs)
    by_case None rest = rest
    by_case (Some a) rest = ap (λ l. a ∷ l) rest

joined_touches : (set : ProgramSet) (s : MachineState) (steps : List ℕ) (p : ℕ) → concat (touches_by_step set s steps p) ≡ touches_of set s steps p
joined_touches set s steps p = join_each (λ (e : Event Local). e.touched) (events_of (machine_of set) s steps p)

no_list : {X : Type 0} (xs : List X) → length xs ≡ 0 → xs ≡ []
no_list [] e = refl
no_list (x ∷ xs) e = absurd (omega (arith, e))

no_events : (set : ProgramSet) (s : MachineState) (steps : List ℕ) (p : ℕ) → TakesNone p steps → events_of (machine_of set) s steps p ≡ []
no_events set s steps p none = no_list (events_of (machine_of set) s steps p) (length-events_of (machine_of set) s steps p ∙ none)

-- no step touches nothing
no_touches : (set : ProgramSet) (s : MachineState) (steps : List ℕ) (p : ℕ) → TakesNone p steps → touches_by_step set s steps p ≡ []
no_touches set s steps p none = ap (map (λ (e : Event Local). option_to_list e.touched)) (no_events set s steps p none)

-- the last step is the last one that touched
last_touches : (set : ProgramSet) (s : MachineState) (steps : List ℕ) (p : ℕ) (front : List ℕ) → TakesLastBehind p steps front
    → (own : List ℕ) × (touches_by_step set s steps p ≡ touches_by_step set s front p ++ own ∷ [])
last_touches set s steps p front last =
    let net = machine_of set in
    let f = λ (e : Event Local). option_to_list e.touched in
    let at = end_of net s front in
    let event = event_of net at p in (
      f event,
      ap (λ l. touches_by_step set s l p) last.parts
          ∙ ap (map f)
          (events_of-append net s front (p ∷ last.rest) p
          ∙ ap (λ es. events_of net s front p ++ es) (events_here net at p last.rest ∙ ap (λ es. event ∷ es) (no_events set (step set at p) last.rest p last.none_later)))
          ∙ map-append f (events_of net s front p) (event ∷ []),
    )

module _ (about : About) (words : List ℕ) (v : View) (s : MachineState) (processors : List Processor) (queues : List (List ℕ)) (logs : List PassLog)
    (valid : IsSet about.set) (pos : 0 < about.workers) (closed : IsClosed about words v s) (g : AreGathered about 0 v processors logs) (long : length queues ≡ wires about.set)
    (read : (w : ℕ) → w < wires about.set → slice_index_or queues w [] ≡ wire_of about.set words w) where
  -- the machine that is made
  abbrev made : Running
  made = running_of about.set processors queues

  unit_at : (p : ℕ) → p < procs about.set → (x : Processor) × (slice_get processors p ≡ Some x) × HasUnit about v p x
  unit_at p lt = let all = g.processors_all in let x = there processors p (omega arith) in (x.0, x.1, g.units_are p x.0 x.1 (omega arith))

  pub unit_of : (p : ℕ) (x : Processor) → slice_get processors p ≡ Some x → HasUnit about v p x
  unit_of p x e = g.units_are p x e (omega arith)

  local_at : (p : ℕ) (x : Processor) → slice_get processors p ≡ Some x → local s p ≡ local_of x
  local_at p x e = let h = unit_of p x e in closed.locals p h.unit h.has ∙ h.is.local_is

  locals_are : map local_of processors ≡ s.locals
  locals_are =
      let a = closed.locals_all in
      let b = g.processors_all in
      let m = length-map processors local_of in
      ext_get_or nobody (map local_of processors) s.locals (m ∙ b ∙ sym a)
      (λ p lt.
      let x = unit_at p (omega arith) in
      field_at local_of processors p x.0 nobody x.1 ∙ sym (local_at p x.0 x.1))

  wires_are : queues ≡ s.wires
  wires_are =
      let d = closed.wires_all in
      ext_get_or [] queues s.wires (long ∙ sym d) (λ w lt. let lt' : w < wires about.set = omega arith in read w lt' ∙ sym (closed.wires_are w lt').1)

  pub same_state : made.state ≡ s
  same_state = λ i. record { locals = locals_are i; wires = wires_are i }

  tile_within : (t : ℕ) → t < tile_count about.set.topo → t < procs about.set
  unfolding procs
  tile_within t inside = omega arith

  -- ---- what the caches stand for
  module _ (earlier : List ℕ) (run : IsRunBy (machine_before about) earlier) where
    abbrev all : List ℕ
    all = earlier ++ closed.history

    touched_all : (t : ℕ) → touches_of about.set (start about.set) all t ≡ touches_of about.set (start about.set) earlier t ++ touches_of about.set about.opened closed.history t
    touched_all t =
        touches-append (machine_of about.set) (start about.set) earlier closed.history t
        ∙ ap (λ k. touches_of about.set (start about.set) earlier t ++ touches_of about.set k closed.history t) run.there

    -- the touches of a tile, its cache, and how often it missed
    module _ (t : ℕ) (x : Processor) (at : slice_get processors t ≡ Some x) (inside : t < tile_count about.set.topo) where
      by_step : (unit_of t x at).unit.touches ≡ touches_by_step about.set about.opened closed.history t
      by_step = let h = unit_of t x at in sym (closed.touches t h.unit h.has)

      since : concat (unit_of t x at).unit.touches ≡ touches_of about.set about.opened closed.history t
      since = ap concat by_step ∙ joined_touches about.set about.opened closed.history t

      cache_is : slice_index_or made.caches t [] ≡ cache_of x
      cache_is = field_at cache_of processors t x [] at

      missed_is : slice_index made.missed t ≡ misses_of x
      missed_is = field_at misses_of processors t x 0 at

      abbrev before : List ℕ
      before = touches_of about.set (start about.set) earlier t

      same_touches : before ++ concat (unit_of t x at).unit.touches ≡ touches_of about.set (start about.set) all t
      same_touches = ap (λ l. before ++ l) since ∙ sym (touched_all t)

      stands_now : StandsFor (slice_index_or made.caches t []) (touches_of about.set (start about.set) all t)
      stands_now =
          let c = (unit_of t x at).is.counts_touches in
          subst (λ (c : List HeldLines). StandsFor c (touches_of about.set (start about.set) all t)) (sym cache_is)
          (subst (StandsFor (cache_of x)) same_touches (c.stands before (run.stands t inside)))

      missed_now : slice_index made.missed t ≡ misses (touches_of about.set (start about.set) all t)
      missed_now =
          let c = (unit_of t x at).is.counts_touches in
          let a = c.missed_is before (run.stands t inside) in
          let b : slice_index about.missed t ≡ misses before = run.missed t inside in
          let d : misses (before ++ concat (unit_of t x at).unit.touches) ≡ misses (touches_of about.set (start about.set) all t) = ap misses same_touches in
          let e = missed_is in
          omega arith

      owed_is : slice_index made.owed t ≡ owed_of x
      owed_is = field_at owed_of processors t x 0 at

      -- where it took no step since the opening, it owes what it owed then or less
      module _ (none : TakesNone t closed.history) where
        no_step : (unit_of t x at).unit.touches ≡ []
        no_step = by_step ∙ no_touches about.set about.opened closed.history t none

        few_owed : slice_index made.owed t ≤ slice_index about.owed t
        few_owed = let few = (unit_of t x at).is.owes.none no_step in let is = owed_is in omega arith

        no_miss : misses_in about.set all t ≡ misses_in about.set earlier t
        no_miss = ap misses (sym same_touches ∙ ap (λ l. before ++ concat l) no_step ∙ append-nil before)

      -- and where it took its last one behind these steps, what that one cost
      last_now : (front : List ℕ) → TakesLastBehind t closed.history front
          → slice_index made.owed t ≤ owed_after (stream_of about.set t) (misses_in about.set (earlier ++ front) t) (misses_in about.set all t)
      last_now front last =
          let step = last_touches about.set about.opened closed.history t front last in
          let few = (unit_of t x at).is.owes.last (touches_by_step about.set about.opened front t) step.0 (by_step ∙ step.1) before (run.stands t inside) (run.missed t inside) in
          let then : misses (before ++ concat (touches_by_step about.set about.opened front t)) ≡ misses_in about.set (earlier ++ front) t =
          ap misses (ap (λ l. before ++ l) (joined_touches about.set about.opened front t)
          ∙ ap (λ k. before ++ touches_of about.set k front t) (sym run.there)
          ∙ sym (touches-append (machine_of about.set) (start about.set) earlier front t)) in
          subst (λ (q : ℕ × ℕ). slice_index made.owed t ≤ owed_after (stream_of about.set t) q.0 q.1) (λ i. (then i, ap misses same_touches i))
          (let is = owed_is in omega (arith, is, few))

      owes_now : OwesLast about.set all t (slice_index made.owed t)
      owes_now =
          by_number (count_of t closed.history) refl
        where
          by_number : (n : ℕ) → count_of t closed.history ≡ n → OwesLast about.set all t (slice_index made.owed t)
          by_number zero none =
              owes_on about.set earlier closed.history t (slice_index about.owed t) (slice_index made.owed t) none (no_miss none) (few_owed none) (run.owed t inside)
          by_number (suc n) some = record {
            none = λ (e : TakesNone t all). absurd (omega (arith, e, some, count_append t earlier closed.history));
            last = λ front last.
                let later = last_later t earlier closed.history front (omega (arith, some)) last in
                subst (λ l. slice_index made.owed t ≤ owed_after (stream_of about.set t) (misses_in about.set l t) (misses_in about.set all t)) (sym later.1)
                (last_now later.0 later.2);
          }

    run_all : IsRunBy made all
    run_all = record {
      lawful = lawful-append (machine_of about.set) (start about.set) earlier closed.history run.lawful (subst (λ k. IsLawfulFrom about.set k closed.history) (sym run.there) closed.lawful);
      there = end_of-append (machine_of about.set) (start about.set) earlier closed.history ∙ ap (λ k. end_from about.set k closed.history) run.there ∙ closed.ends ∙ sym same_state;
      stands = λ t inside. let x = unit_at t (tile_within t inside) in stands_now t x.0 x.1 inside;
      missed = λ t inside. let x = unit_at t (tile_within t inside) in missed_now t x.0 x.1 inside;
      owed = λ t inside. let x = unit_at t (tile_within t inside) in owes_now t x.0 x.1 inside;
    }

  -- a processor that took no step since the opening owes no more than then
  kept_owed : (p : ℕ) → TakesNone p closed.history → slice_index made.owed p ≤ slice_index about.owed p
  kept_owed p none =
      ⊎_elim
      (λ (there : p < procs about.set).
      let x = unit_at p there in
      let h = unit_of p x.0 x.1 in
      let few = h.is.owes.none (sym (closed.touches p h.unit h.has) ∙ no_touches about.set about.opened closed.history p none) in
      let is = field_at owed_of processors p x.0 0 x.1 in
      omega (arith, few, is))
      (λ (past : procs about.set ≤ p).
      let is = get_or_past (map owed_of processors) p 0 (let many = length-map processors owed_of in let all = g.processors_all in omega arith) in
      omega (arith, is))
      (cases_lt p (procs about.set))

  pub has_taken : HasTaken (machine_before about) made closed.history
  has_taken = record {
    set = refl;
    led = record { lawful = closed.lawful; there = closed.ends ∙ sym same_state };
    run = run_all;
    owed = kept_owed;
  }

  -- ---- the logs
  joined : IsJoined closed.history (steps_in logs)
  joined =
      let many : length (steps_in logs) ≡ about.workers = length-map logs (λ (log : PassLog). numbers log.steps.items) ∙ g.logs_all in
      record {
        some_log = omega arith;
        each = λ w lt.
            let all = g.logs_all in
            let l = there logs w (omega arith) in
            let h = g.logs_are w l.0 l.1 (omega arith) in
            let own = h.1 in
            let is : numbers l.0.steps.items ≡ steps_of about.workers w closed.history = sym own.log_is ∙ closed.logs own.at own.part own.part_at ∙ ap (λ k. steps_of about.workers k closed.history) own.worker_is in
            ap (λ n. of_worker (λ p. p % n) w closed.history) many
            ∙ sym is
            ∙ sym (field_at (λ (log : PassLog). numbers log.steps.items) logs w l.0 [] l.1);
      }

  pub closed_to : IsClosedTo about made logs
  closed_to = record {
    history = closed.history;
    taken = has_taken;
    joined = joined;
    in_order = λ w log e. (g.logs_are w log e (omega arith)).0;
  }

  -- ---- the parts of the machine
  pub whole_of : (parts : Parts) → AreAllEnds about.set.topo parts.ends.items → parts.processors.items ≡ processors → map (λ (queue : ArrayVec ℕ). queue.items) parts.wires.items ≡ queues → IsReached (machine_before about) → IsWhole about.set parts
  unfolding procs
  whole_of parts all own values reached = record {
    ends = all;
    each = ap length own ∙ g.processors_all;
    kept = λ p x e. (unit_of p x (ap (λ l. slice_get l p) (sym own) ∙ e)).is.kept;
    reached = subst IsReached (λ i. running_of about.set (sym own i) (sym values i))
        (∥∥₁_map reached (λ (r : (steps : List ℕ) × IsRunBy (machine_before about) steps). (r.0 ++ closed.history, run_all r.0 r.1)));
  }

  pub held_in : (n : ℕ) (passes : List Pass) → AreKept n passes processors logs → AreHeld n passes made logs
  held_in n passes kept = record {
    logs_are = kept.logs_are;
    locals = λ k j pass x e at. field_at local_of processors (k + j * n) x nobody (kept.processors_are k j pass x e at);
    missed = λ k j pass x e at. field_at misses_of processors (k + j * n) x 0 (kept.processors_are k j pass x e at);
    owed = λ k j pass x e at. field_at owed_of processors (k + j * n) x 0 (kept.processors_are k j pass x e at);
  }
