-- The line that is told of a turn in the middle of a cycle is that of the clock.
use Rattle.std.proofs.Common.{◌≡◌, ℕ, ◌+◌, ◌<◌, ◌≤◌, Bool, true, false, cond, List, [], ◌∷◌, ◌++◌, Option, Some, None, refl, sym, ap, ◌∙◌, subst, ⊎_elim, arith, append-nil}
use Rattle.std.specs.Prelude.{slice_get, slice_index}
use Rattle.std.specs.Option.{option_to_list}
use Rattle.std.proofs.lemmas.Bool.{cases_lt, lt-ltb, le-ltb, eq-eqb, ne_eqb}
use Rattle.raw_network.specs.Network.{Event, is_enabled, event_of, event_from}
use Rattle.raw_network.proofs.Steps.{end_of-push}
use Rattle.raw_network.proofs.Kth.{lawful_front}
use Rattle.raw_network.specs.Runs.{touches}
use Rattle.raw_grid.specs.declared.parts.ProcKind.TheVariants as proc
use Rattle.raw_grid.specs.Topology.{tile_count, proc_count}
use Rattle.raw_model.specs.Program.{ProgramSet, IsSet}
use Rattle.raw_model.specs.Local.{Local, Tile}
use Rattle.raw_model.specs.Machine.{machine_of}
use Rattle.raw_model.specs.Start.{MachineState, Fits, IsFit, start}
use Rattle.raw_model.specs.Rest.{stopped}
use Rattle.raw_model.specs.Waits.{first_wait}
use Rattle.raw_model.specs.Cache.{touches_of, misses, is_miss, stream_of}
use Rattle.raw_model.specs.StateTexts.{mark_of}
use Rattle.raw_model.proofs.Awaited.{none_where_stopped}
use Rattle.raw_serial.specs.declared.turn.Turn.{Turn}
use Rattle.raw_serial.specs.declared.turn.Turn.TheVariants.{Fired, Stalled, Stopped, Waits}
use Rattle.raw_serial.specs.Running.{Running}
use Rattle.raw_serial.specs.Told.{missed_by, missed_at}
use Rattle.raw_serial.proofs.Placed.{placed}
use Rattle.raw_lockstep.specs.Stalls.{without_stalls, touched_by}
use Rattle.raw_lockstep.proofs.Stalling.{without_unpaid, untouched, law_steps_of_turns, touched_here}
use Rattle.raw_clock.specs.Clock.{cost_of, clocked, machine_at, first_clock, steps_of, clock, clock_turns, turn_in, goes}
use Rattle.raw_clock.specs.Clock.{owes as owes_turn}
use Rattle.raw_clock.specs.Engine.{clock_by, HasTaken}
use Rattle.raw_clock.proofs.Turning.{goes_is}
use Rattle.raw_clock.proofs.Telling.{turn_told, state_told, begun, fired_owes}
use Rattle.raw_clock.proofs.Clocking.{clock_fits, clock_length}
use Rattle.raw_trace.specs.Parts.{pc_of}
use Rattle.raw_trace.specs.Firing.{entries_from, step_entries, miss_cost}
use Rattle.raw_trace.specs.Lines.{Fires, Stopping, firing_entries, next_pc, turn_line, is_told, told_line}
use Rattle.raw_explore.specs.Engine.{Took, IsTurnStill, HasTurn, line_by, lines_by}
use Rattle.raw_trace.proofs.Turns.{stopped_stops, same_mark}
use Rattle.raw_explore.proofs.Mid.{turn_taken, owes_mid, touched_mid, machine_mid, stopped_mid, enabled_mid, turn_mid, event_mid}
use Rattle.raw_processor.proofs.Counting.{misses_push}

-- only a tile touches
untouching : (g : ProgramSet) (wires : List (List ℕ)) (p : ℕ) (o : Option Local) → tile_count g.topo ≤ p
    → ((l : Local) → o ≡ Some l → IsFit g p l) → (event_from (machine_of g) wires p o).touched ≡ None
unfolding machine_of
untouching g wires p (Some (Tile l)) past fits =
    let tile : p < tile_count g.topo = placed g.topo p proc.Tile (fits (Tile l) refl).0 in absurd (omega (arith, tile, past))
untouching g wires p _ past fits = refl

-- the cost of a touch, if it misses
abbrev cost : List ℕ → List ℕ → Option ℕ → Option ℕ
cost stream touched None = None
cost stream touched (Some address) = cond (is_miss touched address) (Some (slice_index stream (misses touched))) None

-- it is told by two counts of misses, that before the touch and that behind it
by_counts : (stream touched : List ℕ) (o : Option ℕ) (before after : ℕ) → before ≡ misses touched
    → after ≡ misses (touched ++ option_to_list o) → missed_by stream before after ≡ cost stream touched o
by_counts stream touched None before after is was =
    ap (λ b. cond b None (Some (slice_index stream before))) (eq-eqb before after (is ∙ sym (was ∙ ap misses (append-nil touched))))
by_counts stream touched (Some address) before after is was = by_test (is_miss touched address) (was ∙ misses_push touched address)
  where
    by_test : (b : Bool) → after ≡ cond b (misses touched + 1) (misses touched)
        → missed_by stream before after ≡ cond b (Some (slice_index stream (misses touched))) None
    by_test true e =
        ap (λ c. cond c None (Some (slice_index stream before))) (ne_eqb before after (λ same. absurd (omega (arith, same, e, is))))
        ∙ ap (λ k. Some (slice_index stream k)) is
    by_test false e = ap (λ c. cond c None (Some (slice_index stream before))) (eq-eqb before after (is ∙ sym e))

module _ (g : ProgramSet) (valid : IsSet g) where
  missed_told : (m : Running) (ts : List ℕ) → HasTaken g m ts → (t : ℕ) → t < tile_count g.topo → slice_index m.missed t ≡ misses (touched_by (clock_by g ts) t)
  missed_told m ts has t within =
      has.run.missed t (subst (λ (h : ProgramSet). t < tile_count h.topo) (sym has.same) within)
      ∙ ap (λ h. misses (touches_of h (start h) (steps_of g (first_clock g) ts) t)) has.same
      ∙ ap misses
      (sym
      ((law_steps_of_turns (machine_of g) (cost_of g) (first_clock g) ts has.lawful).touched t
      ∙ ap (λ xs. xs ++ touches (machine_of g) (without_stalls (first_clock g)) (steps_of g (first_clock g) ts) t) (untouched (start g) t)
      ∙ ap (λ s. touches (machine_of g) s (steps_of g (first_clock g) ts) t) (without_unpaid (start g))))

  module _ (m n : Running) (k i : ℕ) (has : HasTaken g m (clock_turns g k ++ begun g valid (clock_turns g k) i)) (below : i < proc_count g.topo)
      (none : tile_count g.topo ≤ i → slice_index m.owed i ≡ 0) where
    abbrev ts : List ℕ
    ts = clock_turns g k

    -- the clock before the cycle, and before the turn
    abbrev mid : List ℕ
    mid = ts ++ begun g valid ts i

    state_is : m.state ≡ machine_at (clock_by g mid)
    state_is = state_told g valid m mid has

    fits : Fits g (machine_at (clock g k))
    fits = clock_fits g valid ts (lawful_front (clocked g) (first_clock g) ts (begun g valid ts i) has.lawful)

    -- the turn of the machine, where it does not wait
    pub turn_there : (turn : Turn) → turn ≡ turn_in g (clock g k) i → HasTurn m i turn
    turn_there turn is = subst (IsTurnStill turn) (sym (turn_told g valid m mid has i none)) (turn_mid g valid ts i below turn is)

    mark_there : Stopped ≡ turn_in g (clock g k) i → mark_of m.set m.state i ≡ mark_of g (machine_at (clock g k)) i
    unfolding mark_of
    mark_there is =
        let c = clock g k in
        let stop : stopped g (machine_at c) i ≡ true =
        stopped_stops (stopped g (machine_at c) i) (owes_turn g c i) (first_wait g (machine_at c) i) is in
        let later : stopped g (machine_at (clock_by g mid)) i ≡ true = stopped_mid g valid ts i ∙ stop in
        ap (λ h. mark_of h m.state i) has.same
        ∙ ap (λ s. mark_of g s i) state_is
        ∙ same_mark g (machine_at (clock_by g mid)) (machine_at c) i (slice_get (machine_at c).locals i) (machine_mid g valid ts i) refl
        (none_where_stopped g (machine_at (clock_by g mid)) i later ∙ sym (none_where_stopped g (machine_at c) i stop))

    module _ (is : Fired ≡ turn_in g (clock g k) i) (took : Took true m n i) where
      free : owes_turn g (clock g k) i ≡ false
      free = fired_owes (stopped g (machine_at (clock g k)) i) (owes_turn g (clock g k) i) (first_wait g (machine_at (clock g k)) i) is

      on : is_enabled (clocked g) (clock g k) i ≡ true
      on = sym (goes_is g (clock g k) i (omega (arith, below, clock_length g valid ts))) ∙ ap goes (sym is)

      same_event : event_of (machine_of m.set) m.state i ≡ event_of (machine_of g) (machine_at (clock g k)) i
      same_event =
          ap (λ h. event_of (machine_of h) m.state i) has.same
          ∙ ap (λ s. event_of (machine_of g) s i) state_is
          ∙ event_mid g valid ts i on free has.lawful

      missed_now : i < tile_count g.topo → slice_index n.missed i
          ≡ misses (touched_by (clock g k) i ++ option_to_list (event_of (machine_of g) (machine_at (clock g k)) i).touched)
      missed_now tile =
          let now = turn_taken g valid m n mid i has none (enabled_mid g valid ts i on) below took.0 took.1 in
          missed_told n (mid ++ i ∷ []) now i tile
          ∙ ap misses
          (ap (λ c. touched_by c i) (end_of-push (clocked g) (first_clock g) mid i)
          ∙ touched_here (machine_of g) (cost_of g) (clock_by g mid) i
          ∙ ap (λ b. touched_by (clock_by g mid) i ++ cond b [] (option_to_list (event_of (machine_of g) (machine_at (clock_by g mid)) i).touched)) (owes_mid g valid ts i ∙ free)
          ∙ ap (λ xs. xs ++ option_to_list (event_of (machine_of g) (machine_at (clock_by g mid)) i).touched) (touched_mid g valid ts i)
          ∙ ap (λ e. touched_by (clock g k) i ++ option_to_list e.touched) (event_mid g valid ts i on free has.lawful))

      same_cost : (o : Option ℕ) → (tile_count g.topo ≤ i → o ≡ None)
          → (i < tile_count g.topo → slice_index n.missed i ≡ misses (touched_by (clock g k) i ++ option_to_list o))
          → missed_at g i (slice_index m.missed i) (slice_index n.missed i) ≡ miss_cost g i (touched_by (clock g k) i) o
      same_cost o off now =
          ⊎_elim
          (λ (tile : i < tile_count g.topo).
          ap (λ b. cond b (missed_by (stream_of g i) (slice_index m.missed i) (slice_index n.missed i)) None) (lt-ltb i (tile_count g.topo) tile)
          ∙ by_counts (stream_of g i) (touched_by (clock g k) i) o (slice_index m.missed i) (slice_index n.missed i)
          (missed_told m mid has i tile ∙ ap misses (touched_mid g valid ts i)) (now tile)
          ∙ cost_is o)
          (λ (past : tile_count g.topo ≤ i).
          ap (λ b. cond b (missed_by (stream_of g i) (slice_index m.missed i) (slice_index n.missed i)) None) (le-ltb i (tile_count g.topo) past)
          ∙ ap (miss_cost g i (touched_by (clock g k) i)) (sym (off past)))
          (cases_lt i (tile_count g.topo))
        where
          cost_is : (o : Option ℕ) → cost (stream_of g i) (touched_by (clock g k) i) o ≡ miss_cost g i (touched_by (clock g k) i) o
          cost_is None = refl
          cost_is (Some address) = refl

      entries_told : step_entries m.set m.state i (missed_at m.set i (slice_index m.missed i) (slice_index n.missed i)) ≡ firing_entries g (clock g k) i
      unfolding firing_entries
      entries_told =
          ap (λ h. entries_from h i (slice_get m.state.locals i) (event_of (machine_of m.set) m.state i) (missed_at h i (slice_index m.missed i) (slice_index n.missed i))) has.same
          ∙ ap (λ e. entries_from g i (slice_get m.state.locals i) e (missed_at g i (slice_index m.missed i) (slice_index n.missed i))) same_event
          ∙ ap (λ o. entries_from g i o (event_of (machine_of g) (machine_at (clock g k)) i) (missed_at g i (slice_index m.missed i) (slice_index n.missed i)))
          (ap (λ (s : MachineState). slice_get s.locals i) state_is ∙ machine_mid g valid ts i)
          ∙ ap (λ miss. entries_from g i (slice_get (machine_at (clock g k)).locals i) (event_of (machine_of g) (machine_at (clock g k)) i) miss)
          (same_cost (event_of (machine_of g) (machine_at (clock g k)) i).touched
          (λ past. untouching g (machine_at (clock g k)).wires i (slice_get (machine_at (clock g k)).locals i) past (λ l e. fits.locals i l e)) missed_now)

    -- the line of the turn
    line_told : (turn : Turn) → turn ≡ turn_in g (clock g k) i → Took (goes turn) m n i → line_by m n i turn ≡ turn_line g (clock g k) i turn
    line_told Fired is took =
        ap (λ (e : Event Local). Fires i (pc_of e.after) (step_entries m.set m.state i (missed_at m.set i (slice_index m.missed i) (slice_index n.missed i)))) (same_event is took)
        ∙ ap (λ es. Fires i (next_pc g (clock g k) i) es) (entries_told is took)
    line_told Stalled is took = refl
    line_told Stopped is took = ap (λ mark. Stopping i mark) (mark_there is)
    line_told (Waits wire) is took = refl

    pub lines_told : (turn : Turn) (before : Option Turn) → turn ≡ turn_in g (clock g k) i → Took (goes turn) m n i
        → lines_by m n i turn before ≡ told_line g (clock g k) i (turn_in g (clock g k) i) before
    lines_told turn before is took =
        ap (λ line. cond (is_told turn before) (line ∷ []) []) (line_told turn is took)
        ∙ ap (λ t. told_line g (clock g k) i t before) is
