-- What is read of the lines of a processor is its state before each cycle.
use Rattle.std.proofs.Common.{◌≡◌, ℕ, zero, suc, ◌+◌, ◌*◌, ◌<◌, Bool, true, false, cond, List, [], ◌∷◌, ◌++◌, length, map, get_or, Option, Some, refl, sym, ap, ◌∙◌, arith, append_assoc, append-nil}
use Rattle.std.specs.Prelude.{slice_get, slice_index, sum}
use Rattle.std.specs.List.{flat_map, filter, range_with_len}
use Rattle.std.specs.Option.{option_to_list}
use Rattle.std.proofs.lemmas.Grind.{flat_map-append}
use Rattle.std.proofs.lemmas.List.{length-append}
use Rattle.std.proofs.lemmas.List.Elements.{filter-append}
use Rattle.std.proofs.lemmas.List.Sums.{sum_by-append}
use Rattle.std.proofs.lemmas.Option.{slice_get-get_or}
use Rattle.raw_network.specs.Network.{Event, event_from}
use Rattle.raw_grid.specs.declared.parts.PortKind.{PortKind}
use Rattle.raw_grid.specs.declared.parts.PortKind.TheVariants as kind
use Rattle.raw_grid.specs.declared.parts.PortPlace.{PortPlace}
use Rattle.raw_grid.specs.Topology.{proc_count}
use Rattle.raw_model.specs.declared.limits.TheConstants.{MEMORY_WORDS}
use Rattle.raw_model.specs.Program.{ProgramSet, IsSet, TileProgram}
use Rattle.raw_model.specs.Local.{Local, Tile, Switch, Source, Sink, TileLocal}
use Rattle.raw_model.specs.TileTable.{word_at}
use Rattle.raw_model.specs.Machine.{machine_of}
use Rattle.raw_model.specs.Start.{MachineState, IsFit, start, first_tile, first_switch, first_port}
use Rattle.raw_model.specs.Cache.{misses}
use Rattle.raw_model.proofs.Starting.{start_fits}
use Rattle.raw_model.specs.Parts.{memory_of, count_in}
use Rattle.raw_lockstep.specs.Stalls.{touched_by}
use Rattle.raw_lockstep.proofs.Stalling.{without_unpaid}
use Rattle.raw_serial.specs.declared.turn.Turn.{Turn}
use Rattle.raw_serial.specs.declared.turn.Turn.TheVariants.{Fired, Stalled, Stopped, Waits}
use Rattle.raw_clock.specs.Clock.{ClockState, machine_at, clock, turn_in, is_fired}
use Rattle.raw_trace.specs.declared.entry.Entry.{Entry}
use Rattle.raw_trace.specs.Parts.{pc_of, regs_of}
use Rattle.raw_trace.specs.Firing.{entries_from, miss_cost}
use Rattle.raw_trace.specs.Standing.{state_entries}
use Rattle.raw_trace.specs.Lines.{Line, state_line, firing_entries, next_pc, turn_line, is_told, turn_before, told_line, turn_lines}
use Rattle.raw_trace.specs.Reading.{is_firing, pc_told, entries_in, register_told, word_told, count_told, misses_told, told, last_word}
use Rattle.raw_trace.specs.Laws.{local_at, given_memory, IsRead}
use Rattle.raw_trace.proofs.Lists.{each_append, each_map, last_word-append, more_each}
use Rattle.raw_trace.proofs.Places.{history, history_is, all_before}
use Rattle.raw_trace.proofs.Next.{fits_at, next_local, next_touched}
use Rattle.raw_trace.proofs.Firings.{fired_register, fired_word, fired_count, fired_misses, counted_more}
use Rattle.raw_trace.proofs.States.{state_register, state_word, state_count, state_misses, state_none, standing_entries, standing_firing, standing_pc}

-- what the line of a turn tells, if there is one
cond_none : {X : Type 0} (f : List Line → List X) (b : Bool) (line : Line) → f [] ≡ [] → f (line ∷ []) ≡ [] → f (cond b (line ∷ []) []) ≡ []
cond_none f true line none one = one
cond_none f false line none one = none

module _ (set : ProgramSet) (c : ClockState) (p : ℕ) where
  pub turn_entries : (turn : Turn) (before : Option Turn) → flat_map entries_in (told_line set c p turn before) ≡ cond (is_fired turn) (firing_entries set c p) []
  turn_entries Fired before = append-nil (firing_entries set c p)
  turn_entries Stalled before = refl
  turn_entries Stopped before = cond_none (flat_map entries_in) (is_told Stopped before) (turn_line set c p Stopped) refl refl
  turn_entries (Waits wire) before = cond_none (flat_map entries_in) (is_told (Waits wire) before) (turn_line set c p (Waits wire)) refl refl

  turn_pc : (turn : Turn) (before : Option Turn) → flat_map pc_told (told_line set c p turn before) ≡ cond (is_fired turn) (next_pc set c p ∷ []) []
  turn_pc Stopped before = cond_none (flat_map pc_told) (is_told Stopped before) (turn_line set c p Stopped) refl refl
  turn_pc (Waits wire) before = cond_none (flat_map pc_told) (is_told (Waits wire) before) (turn_line set c p (Waits wire)) refl refl
  turn_pc _ before = refl

  turn_firings : (turn : Turn) (before : Option Turn) → length (filter is_firing (told_line set c p turn before)) ≡ cond (is_fired turn) 1 0
  turn_firings Stopped before = ap length (cond_none (filter is_firing) (is_told Stopped before) (turn_line set c p Stopped) refl refl)
  turn_firings (Waits wire) before = ap length (cond_none (filter is_firing) (is_told (Waits wire) before) (turn_line set c p (Waits wire)) refl refl)
  turn_firings _ before = refl

-- what a firing tells is what the step of a processor with this local state tells
pub entries_are : (set : ProgramSet) (c : ClockState) (p : ℕ)
    → firing_entries set c p
    ≡ entries_from set p (slice_get (machine_at c).locals p) (event_from (machine_of set) (machine_at c).wires p (slice_get (machine_at c).locals p))
    (miss_cost set p (touched_by c p) (event_from (machine_of set) (machine_at c).wires p (slice_get (machine_at c).locals p)).touched)
unfolding firing_entries
entries_are set c p = refl

pub told-append : (g : Entry → List ℕ) (xs ys : List Line) → told g (xs ++ ys) ≡ told g xs ++ told g ys
told-append g xs ys = ap (flat_map g) (flat_map-append entries_in xs ys) ∙ flat_map-append g (flat_map entries_in xs) (flat_map entries_in ys)

flat_cond : (g : Entry → List ℕ) (b : Bool) (es : List Entry) → flat_map g (cond b es []) ≡ cond b (flat_map g es) []
flat_cond g true es = refl
flat_cond g false es = refl

pub turn_told : (set : ProgramSet) (c : ClockState) (p : ℕ) (g : Entry → List ℕ) (turn : Turn) (before : Option Turn)
    → told g (told_line set c p turn before) ≡ cond (is_fired turn) (flat_map g (firing_entries set c p)) []
turn_told set c p g turn before = ap (flat_map g) (turn_entries set c p turn before) ∙ flat_cond g (is_fired turn) (firing_entries set c p)

-- at the start the pc of each processor is 0
pub start_pc : (set : ProgramSet) (p : ℕ) (l : Local) → slice_get (start set).locals p ≡ Some l → pc_of (Some l) ≡ 0
unfolding start
start_pc set p l here =
    let AtZero : Local → Type 0 = λ l. pc_of (Some l) ≡ 0 in
    let switches = map (λ (tile : TileProgram). Switch (first_switch tile.switch)) set.tiles in
    let ports = map (λ (place : PortPlace). first_port place.kind) set.topo.places in
    each_append AtZero (map (λ (tile : TileProgram). Tile (first_tile tile)) set.tiles) (switches ++ ports)
    (each_map AtZero (λ (tile : TileProgram). Tile (first_tile tile)) (λ tile. refl) set.tiles)
    (each_append AtZero switches ports
    (each_map AtZero (λ (tile : TileProgram). Switch (first_switch tile.switch)) (λ tile. refl) set.tiles)
    (each_map AtZero (λ (place : PortPlace). first_port place.kind) (λ place. port place.kind) set.topo.places))
    p l here
  where
    port : (k : PortKind) → pc_of (Some (first_port k)) ≡ 0
    port kind.Source = refl
    port kind.Sink = refl

-- a processor that is no tile had no memory at the start
bare : (set : ProgramSet) (p : ℕ) (first now : Local) → IsFit set p first → IsFit set p now → ((l : TileLocal) → Some now ≡ Some (Tile l) → ⊥) → memory_of (Some first) ≡ []
bare set p (Tile f) (Tile l) one two none = absurd (none l refl)
bare set p (Tile f) (Switch l) one two none = absurd (cc (sym one.0 ∙ two.0))
bare set p (Tile f) (Source l) one two none = absurd (cc (sym one.0 ∙ two.0))
bare set p (Tile f) (Sink l) one two none = absurd (cc (sym one.0 ∙ two.0))
bare set p (Switch f) now one two none = refl
bare set p (Source f) now one two none = refl
bare set p (Sink f) now one two none = refl

-- the local state that stands at a place where there is one
pub some_at : (locals : List Local) (p : ℕ) → p < length locals → (l : Local) × (slice_get locals p ≡ Some l)
some_at locals p lt = let d = Sink (record { done = 0; got = [] }) in (get_or locals p d, slice_get-get_or locals p d lt)

module _ (set : ProgramSet) (valid : IsSet set) (p : ℕ) (below : p < proc_count set.topo) where
  pub some_local : (k : ℕ) → (l : Local) × (local_at set k p ≡ Some l)
  some_local k = let many = (fits_at set valid k).processors in some_at (machine_at (clock set k)).locals p (omega (arith, below, many))

  first_local : (l : Local) × (slice_get (start set).locals p ≡ Some l)
  first_local = let many = (start_fits set valid).processors in some_at (start set).locals p (omega (arith, below, many))

  is_bare : (k : ℕ) → ((l : TileLocal) → local_at set k p ≡ Some (Tile l) → ⊥) → given_memory set p ≡ []
  is_bare k none =
      let first = first_local in
      let now = some_local k in
      ap memory_of first.1
      ∙ bare set p first.0 now.0 ((start_fits set valid).locals p first.0 first.1) ((fits_at set valid k).locals p now.0 now.1)
      (λ l e. none l (now.1 ∙ e))

  abbrev turn : ℕ → Turn
  turn k = turn_in set (clock set k) p

  abbrev before : ℕ → Event Local
  before k = event_from (machine_of set) (machine_at (clock set k)).wires p (local_at set k p)

  -- a processor that has taken no steps has the pc 0
  stepped : (k : ℕ) (l : Local) → count_in (event_from (machine_of set) (machine_at (clock set k)).wires p (Some l)).after ≡ 0 → ⊥
  stepped k l none = let more = counted_more set (machine_at (clock set k)).wires p l in absurd (omega (arith, more, none))

  zero_pc : (k : ℕ) → count_in (local_at set k p) ≡ 0 → pc_of (local_at set k p) ≡ 0
  zero_pc zero none =
      let first = first_local in
      ap (λ (s : MachineState). pc_of (slice_get s.locals p)) (without_unpaid (start set)) ∙ ap pc_of first.1 ∙ start_pc set p first.0 first.1
  zero_pc (suc k) none = by_test (λ none. zero_pc k none) (is_fired (turn k)) (next_local set valid k p below)
    where
      by_test : (count_in (local_at set k p) ≡ 0 → pc_of (local_at set k p) ≡ 0) → (b : Bool)
          → local_at set (suc k) p ≡ cond b (before k).after (local_at set k p) → pc_of (local_at set (suc k) p) ≡ 0
      by_test earlier true is =
          let now = some_local k in
          absurd (stepped k now.0 (sym (ap count_in (is ∙ ap (λ o. (event_from (machine_of set) (machine_at (clock set k)).wires p o).after) now.1)) ∙ none))
      by_test earlier false is = ap pc_of is ∙ earlier (sym (ap count_in is) ∙ none)

  module _ (first : ℕ) where
    abbrev lines : ℕ → List Line
    lines m = history set first p m

    -- one cycle more
    pub lines_more : (m : ℕ) → lines (suc m) ≡ lines m ++ turn_lines set first (first + m) p
    lines_more m =
        let more : suc m ≡ m + 1 = omega arith in
        let state = state_line set (clock set first) p in
        ap (λ n. state ++ flat_map (λ j. turn_lines set first j p) (range_with_len first n)) more
        ∙ ap (λ xs. state ++ xs) (more_each (λ j. turn_lines set first j p) first m)
        ∙ sym (append_assoc state (flat_map (λ j. turn_lines set first j p) (range_with_len first m)) (turn_lines set first (first + m) p))

    lines_first : lines 0 ≡ state_line set (clock set first) p
    lines_first = append-nil (state_line set (clock set first) p)

    told_first : (g : Entry → List ℕ) → told g (lines 0) ≡ flat_map g (state_entries set (machine_at (clock set first)) p (misses (touched_by (clock set first) p)))
    told_first g = ap (told g) lines_first ∙ ap (flat_map g) (standing_entries p (pc_of (local_at set first p)) _)

    told_more : (g : Entry → List ℕ) (m : ℕ) → told g (lines (suc m)) ≡ told g (lines m) ++ cond (is_fired (turn (first + m))) (flat_map g (firing_entries set (clock set (first + m)) p)) []
    told_more g m =
        ap (told g) (lines_more m)
        ∙ told-append g (lines m) (turn_lines set first (first + m) p)
        ∙ ap (λ xs. told g (lines m) ++ xs) (turn_told set (clock set (first + m)) p g (turn (first + m)) (turn_before set first (first + m) p))

    -- the next cycle's state, by its turn
    next_is : (m : ℕ) → local_at set (first + suc m) p ≡ cond (is_fired (turn (first + m))) (before (first + m)).after (local_at set (first + m) p)
    next_is m =
        let more : first + suc m ≡ suc (first + m) = omega arith in
        ap (λ k. local_at set k p) more ∙ next_local set valid (first + m) p below

    -- what is told of one cell, by the last word
    last_read : (g : Entry → List ℕ) (value : Option Local → ℕ) (d : ℕ) → last_word d (told g (lines 0)) ≡ value (local_at set first p)
        → ((k : ℕ) → last_word (value (local_at set k p)) (flat_map g (firing_entries set (clock set k) p)) ≡ value (before k).after)
        → (m : ℕ) → last_word d (told g (lines m)) ≡ value (local_at set (first + m) p)
    last_read g value d start step zero =
        let same : first + 0 ≡ first = omega arith in
        start ∙ sym (ap (λ k. value (local_at set k p)) same)
    last_read g value d start step (suc m) =
        ap (last_word d) (told_more g m)
        ∙ last_word-append d (told g (lines m)) _
        ∙ ap (λ v. last_word v (cond (is_fired (turn (first + m))) (flat_map g (firing_entries set (clock set (first + m)) p)) [])) (last_read g value d start step m)
        ∙ by_test (is_fired (turn (first + m)))
        ∙ sym (ap value (next_is m))
      where
        by_test : (b : Bool) → last_word (value (local_at set (first + m) p)) (cond b (flat_map g (firing_entries set (clock set (first + m)) p)) [])
            ≡ value (cond b (before (first + m)).after (local_at set (first + m) p))
        by_test true = step (first + m)
        by_test false = refl

    registers_read : (r m : ℕ) → last_word 0 (told (register_told r) (lines m)) ≡ slice_index (regs_of (local_at set (first + m) p)) r
    registers_read r m =
        last_read (register_told r) (λ o. slice_index (regs_of o) r) 0
        (ap (last_word 0) (told_first (register_told r)) ∙ state_register set (machine_at (clock set first)) p (misses (touched_by (clock set first) p)) r)
        (λ k.
        ap (λ es. last_word (slice_index (regs_of (local_at set k p)) r) (flat_map (register_told r) es)) (entries_are set (clock set k) p)
        ∙ fired_register set (machine_at (clock set k)).wires p (local_at set k p) _ r)
        m

    words_read : (i m : ℕ) → i < MEMORY_WORDS
        → last_word (word_at (given_memory set p) (4 * i)) (told (word_told (4 * i)) (lines m)) ≡ word_at (memory_of (local_at set (first + m) p)) (4 * i)
    words_read i m within =
        last_read (word_told (4 * i)) (λ o. word_at (memory_of o) (4 * i)) (word_at (given_memory set p) (4 * i))
        (ap (last_word (word_at (given_memory set p) (4 * i))) (told_first (word_told (4 * i)))
        ∙ state_word set (machine_at (clock set first)) p (misses (touched_by (clock set first) p)) i within (is_bare first))
        (λ k.
        ap (λ es. last_word (word_at (memory_of (local_at set k p)) (4 * i)) (flat_map (word_told (4 * i)) es)) (entries_are set (clock set k) p)
        ∙ fired_word set (machine_at (clock set k)).wires p (local_at set k p) _ i)
        m

    pc_read : (m : ℕ) → last_word 0 (flat_map pc_told (lines m)) ≡ pc_of (local_at set (first + m) p)
    pc_read zero =
        let same : first + 0 ≡ first = omega arith in
        ap (λ xs. last_word 0 (flat_map pc_told xs)) lines_first
        ∙ standing_pc p (pc_of (local_at set first p)) _
        (λ none. zero_pc first (state_none set (machine_at (clock set first)) p (misses (touched_by (clock set first) p)) none))
        ∙ sym (ap (λ k. pc_of (local_at set k p)) same)
    pc_read (suc m) =
        ap (λ xs. last_word 0 (flat_map pc_told xs)) (lines_more m)
        ∙ ap (last_word 0) (flat_map-append pc_told (lines m) (turn_lines set first (first + m) p))
        ∙ last_word-append 0 (flat_map pc_told (lines m)) (flat_map pc_told (turn_lines set first (first + m) p))
        ∙ ap (λ v. last_word v (flat_map pc_told (turn_lines set first (first + m) p))) (pc_read m)
        ∙ ap (last_word (pc_of (local_at set (first + m) p))) (turn_pc set (clock set (first + m)) p (turn (first + m)) (turn_before set first (first + m) p))
        ∙ by_test (is_fired (turn (first + m)))
        ∙ sym (ap pc_of (next_is m))
      where
        by_test : (b : Bool) → last_word (pc_of (local_at set (first + m) p)) (cond b (next_pc set (clock set (first + m)) p ∷ []) [])
            ≡ pc_of (cond b (before (first + m)).after (local_at set (first + m) p))
        by_test true = refl
        by_test false = refl

    counts_told : (m : ℕ) → sum (told count_told (lines m)) ≡ count_in (local_at set first p)
    counts_told zero = ap sum (told_first count_told) ∙ state_count set (machine_at (clock set first)) p (misses (touched_by (clock set first) p))
    counts_told (suc m) =
        ap sum
        (told_more count_told m
        ∙ ap (λ xs. told count_told (lines m) ++ cond (is_fired (turn (first + m))) xs [])
        (ap (flat_map count_told) (entries_are set (clock set (first + m)) p) ∙ fired_count set (machine_at (clock set (first + m))).wires p (local_at set (first + m) p) _)
        ∙ ap (λ xs. told count_told (lines m) ++ xs) (by_test (is_fired (turn (first + m))) [])
        ∙ append-nil (told count_told (lines m)))
        ∙ counts_told m
      where
        by_test : (b : Bool) (xs : List ℕ) → cond b xs xs ≡ xs
        by_test true xs = refl
        by_test false xs = refl

    firings_told : (m : ℕ) → count_in (local_at set first p) + length (filter is_firing (lines m)) ≡ count_in (local_at set (first + m) p)
    firings_told zero =
        let same : first + 0 ≡ first = omega arith in
        let none = ap length (ap (filter is_firing) lines_first ∙ standing_firing p (pc_of (local_at set first p)) _) in
        let there = ap (λ k. count_in (local_at set k p)) same in
        omega (arith, none, there)
    firings_told (suc m) =
        let k = first + m in
        let more = ap (λ xs. length (filter is_firing xs)) (lines_more m) in
        let both = ap length (filter-append is_firing (lines m) (turn_lines set first k p)) in
        let long = length-append (filter is_firing (lines m)) (filter is_firing (turn_lines set first k p)) in
        let one = turn_firings set (clock set k) p (turn k) (turn_before set first k p) in
        let step = by_test (is_fired (turn k)) (next_is m) in
        let earlier = firings_told m in
        omega (arith, more, both, long, one, step, earlier)
      where
        by_test : (b : Bool) → local_at set (first + suc m) p ≡ cond b (before (first + m)).after (local_at set (first + m) p)
            → count_in (local_at set (first + m) p) + cond b 1 0 ≡ count_in (local_at set (first + suc m) p)
        by_test true is =
            let now = some_local (first + m) in
            let there = ap count_in now.1 in
            let behind = ap count_in (is ∙ ap (λ o. (event_from (machine_of set) (machine_at (clock set (first + m))).wires p o).after) now.1) in
            let one = counted_more set (machine_at (clock set (first + m))).wires p now.0 in
            omega (arith, there, behind, one)
        by_test false is = let same = ap count_in is in omega (arith, same)

    misses_read : (m : ℕ) → sum (told misses_told (lines m)) ≡ misses (touched_by (clock set (first + m)) p)
    misses_read zero =
        let same : first + 0 ≡ first = omega arith in
        ap sum (told_first misses_told) ∙ state_misses set (machine_at (clock set first)) p (misses (touched_by (clock set first) p))
        ∙ sym (ap (λ k. misses (touched_by (clock set k) p)) same)
    misses_read (suc m) =
        let k = first + m in
        let more : first + suc m ≡ suc (first + m) = omega arith in
        ap sum (told_more misses_told m)
        ∙ sum_by-append (λ x. x) (told misses_told (lines m)) _
        ∙ ap (λ n. n + sum (cond (is_fired (turn k)) (flat_map misses_told (firing_entries set (clock set k) p)) [])) (misses_read m)
        ∙ by_test (is_fired (turn k))
        ∙ sym (ap misses (ap (λ j. touched_by (clock set j) p) more ∙ next_touched set valid k p below))
      where
        by_test : (b : Bool) → misses (touched_by (clock set (first + m)) p) + sum (cond b (flat_map misses_told (firing_entries set (clock set (first + m)) p)) [])
            ≡ misses (touched_by (clock set (first + m)) p ++ cond b (option_to_list (before (first + m)).touched) [])
        by_test true =
            ap (λ es. misses (touched_by (clock set (first + m)) p) + sum (flat_map misses_told es)) (entries_are set (clock set (first + m)) p)
            ∙ sym (fired_misses set (machine_at (clock set (first + m))).wires p (local_at set (first + m) p) (touched_by (clock set (first + m)) p))
        by_test false =
            let same = ap misses (append-nil (touched_by (clock set (first + m)) p)) in omega (arith, same)

    -- all of it, of the lines before the cycle that comes m behind the first
    pub processor_read : (m k : ℕ) → first + m ≡ k → IsRead set k p (all_before set first m)
    processor_read m k is =
        let own = history_is set first p m below in
        record {
          pc = ap (λ xs. last_word 0 (flat_map pc_told xs)) own ∙ pc_read m ∙ ap (λ j. pc_of (local_at set j p)) is;
          registers = λ r. ap (λ xs. last_word 0 (told (register_told r) xs)) own ∙ registers_read r m ∙ ap (λ j. slice_index (regs_of (local_at set j p)) r) is;
          memory =
              λ i within.
              ap (λ xs. last_word (word_at (given_memory set p) (4 * i)) (told (word_told (4 * i)) xs)) own ∙ words_read i m within
              ∙ ap (λ j. word_at (memory_of (local_at set j p)) (4 * i)) is;
          count =
              ap (λ xs. sum (told count_told xs) + length (filter is_firing xs)) own
              ∙ ap (λ n. n + length (filter is_firing (lines m))) (counts_told m) ∙ firings_told m ∙ ap (λ j. count_in (local_at set j p)) is;
          missed = ap (λ xs. sum (told misses_told xs)) own ∙ misses_read m ∙ ap (λ j. misses (touched_by (clock set j) p)) is;
        }
