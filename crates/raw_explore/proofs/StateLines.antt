-- The line of a processor in a state: its parts, and when there is none.
use Rattle.std.proofs.Common.{◌≡◌, ℕ, ◌*◌, ◌<◌, ◌≤◌, cond, eqb, List, [], ◌∷◌, ◌++◌, length, map, Option, Some, None, refl, sym, ap, ◌∙◌, ⊎_elim, arith, append-nil}
use Rattle.std.specs.Prelude.{slice_get, slice_index, IsSomeAnd, codes, decimal}
use Rattle.std.specs.List.{flat_map, range_with_len}
use Rattle.std.proofs.lemmas.Bool.{cases_eq, cases_lt, eq-eqb, ne_eqb}
use Rattle.std.proofs.lemmas.Grind.{flat_map-append}
use Rattle.raw_network.specs.Network.{values_on, count_of}
use Rattle.raw_network.specs.Runs.{touches}
use Rattle.raw_grid.specs.declared.parts.ProcKind.TheVariants as proc
use Rattle.raw_grid.specs.Topology.{tile_count, proc_count}
use Rattle.raw_grid.specs.Wires.{wires_of, producer_of, consumer_of}
use Rattle.raw_model.specs.declared.limits.TheConstants.{MEMORY_WORDS}
use Rattle.raw_model.specs.Program.{ProgramSet, IsSet}
use Rattle.raw_model.specs.Local.{Local, Tile, Switch, Source, Sink, steps_of}
use Rattle.raw_model.specs.Machine.{machine_of}
use Rattle.raw_model.specs.TileTable.{word_at}
use Rattle.raw_model.specs.Start.{MachineState, start, IsFit}
use Rattle.raw_model.specs.Cache.{misses}
use Rattle.raw_model.proofs.Wired.{wired}
use Rattle.raw_model.proofs.Starting.{start_fits}
use Rattle.raw_model.specs.Parts.{memory_of, count_in}
use Rattle.raw_lockstep.specs.Stalls.{without_stalls, touched_by}
use Rattle.raw_lockstep.proofs.Stalling.{without_unpaid, untouched, law_steps_of_turns}
use Rattle.raw_processor.specs.declared.processor.Processor.{Processor}
use Rattle.raw_processor.specs.declared.processor.Processor.TheVariants as a
use Rattle.raw_processor.specs.Processor.{local_of, misses_of}
use Rattle.raw_serial.specs.Running.{Running}
use Rattle.raw_serial.proofs.Placed.{placed}
use Rattle.raw_clock.specs.Clock.{cost_of, machine_at, first_clock, clock, clock_turns, clock_steps}
use Rattle.raw_clock.proofs.Telling.{state_told}
use Rattle.raw_clock.proofs.Stopping.{apart}
use Rattle.raw_trace.specs.declared.entry.Entry.{Entry}
use Rattle.raw_trace.specs.declared.entry.Entry.TheVariants as entry
use Rattle.raw_trace.specs.Parts.{regs_of, pc_of}
use Rattle.raw_trace.specs.Standing.{count_entries, held_entries, register_entry, word_entry, memory_entries, misses_entries, state_entries}
use Rattle.raw_trace.specs.Lines.{standing, state_line}
use Rattle.raw_trace.specs.Text.{entry_text, line_text}
use Rattle.raw_explore.specs.Engine.{IsAt}
use Rattle.raw_trace.proofs.Lists.{flat_flat, none_of}
use Rattle.raw_trace.proofs.Told.{some_at}
use Rattle.raw_explore.proofs.Untouched.{counted, touches_none, touches_never, sent_none, row_counts, other_row, IsOther, IsClear, start_clear, start_empty}

pub count_is : (o : Option Local) (n : ℕ) → IsSomeAnd o (λ l. n ≡ steps_of l) → n ≡ count_in o
count_is None n is = absurd is
count_is (Some l) n is = is

module _ (set : ProgramSet) (s : MachineState) (p missed : ℕ) where
  abbrev local : Option Local
  local = slice_get s.locals p

  abbrev wires : List ℕ
  wires = range_with_len 0 (length (wires_of set.topo))

  abbrev registers : List ℕ
  registers = range_with_len 0 (length (regs_of local))

  abbrev given : List ℕ
  given = memory_of (slice_get (start set).locals p)

  some_first : (n : ℕ) → n ≡ count_in local → 0 < n → count_entries (count_in local) ≡ entry.Count n ∷ []
  some_first n is some =
      ap (λ b. cond b [] (entry.Count (count_in local) ∷ [])) (ne_eqb (count_in local) 0 (λ e. absurd (omega (arith, e, is, some))))
      ∙ ap (λ k. entry.Count k ∷ []) (sym is)

  -- the texts of its entries, where it has taken steps
  pub state_text : (n : ℕ) → n ≡ count_in local → 0 < n
      → flat_map entry_text (state_entries set s p missed)
      ≡ entry_text (entry.Count n)
      ++ (flat_map (λ w. flat_map entry_text (held_entries set s p w)) wires
      ++ (flat_map (λ r. flat_map entry_text (register_entry (regs_of local) r)) registers
      ++ (flat_map entry_text (memory_entries given local)
      ++ flat_map entry_text (misses_entries missed))))
  unfolding state_entries
  state_text n is some =
      let held = flat_map (held_entries set s p) wires in
      let regs = flat_map (register_entry (regs_of local)) registers in
      let memory = memory_entries given local in
      let last = misses_entries missed in
      ap (λ es. flat_map entry_text (es ++ (held ++ (regs ++ (memory ++ last))))) (some_first n is some)
      ∙ ap (λ xs. entry_text (entry.Count n) ++ xs)
      (flat_map-append entry_text held (regs ++ (memory ++ last))
      ∙ ap (λ xs. xs ++ flat_map entry_text (regs ++ (memory ++ last))) (flat_flat entry_text (held_entries set s p) wires)
      ∙ ap (λ xs. flat_map (λ w. flat_map entry_text (held_entries set s p w)) wires ++ xs)
      (flat_map-append entry_text regs (memory ++ last)
      ∙ ap (λ xs. xs ++ flat_map entry_text (memory ++ last)) (flat_flat entry_text (register_entry (regs_of local)) registers)
      ∙ ap (λ xs. flat_map (λ r. flat_map entry_text (register_entry (regs_of local) r)) registers ++ xs)
      (flat_map-append entry_text memory last)))

  -- and some there are
  some_entries : (n : ℕ) → n ≡ count_in local → 0 < n → 0 < length (state_entries set s p missed)
  unfolding state_entries
  some_entries n is some =
      let rest = flat_map (held_entries set s p) wires ++ (flat_map (register_entry (regs_of local)) registers ++ (memory_entries given local ++ misses_entries missed)) in
      let long = ap (λ es. length (es ++ rest)) (some_first n is some) in
      omega (arith, long)

  memory_same : (l : Local) → memory_entries (memory_of (Some l)) (Some l) ≡ []
  memory_same (Tile l) =
      none_of (word_entry l.memory l.memory)
      (λ i. ap (λ b. cond b [] (entry.Stored (4 * i) (word_at l.memory (4 * i)) ∷ [])) (eq-eqb (word_at l.memory (4 * i)) (word_at l.memory (4 * i)) refl))
      (range_with_len 0 MEMORY_WORDS)
  memory_same (Switch l) = refl
  memory_same (Source l) = refl
  memory_same (Sink l) = refl

  held_none : (w : ℕ) → (producer_of set.topo w ≡ p → values_on s.wires w ≡ []) → held_entries set s p w ≡ []
  held_none w none =
      ⊎_elim
      (λ (own : producer_of set.topo w ≡ p).
      ap (λ b. cond b (map (entry.Sent w) (values_on s.wires w)) []) (eq-eqb (producer_of set.topo w) p own) ∙ ap (map (entry.Sent w)) (none own))
      (λ (ne : producer_of set.topo w ≡ p → ⊥). ap (λ b. cond b (map (entry.Sent w) (values_on s.wires w)) []) (ne_eqb (producer_of set.topo w) p ne))
      (cases_eq (producer_of set.topo w) p)

  -- nothing is told of a processor in the state of the start
  entries_none : (l : Local) → local ≡ Some l → slice_get (start set).locals p ≡ Some l → steps_of l ≡ 0 → IsClear l
      → ((w : ℕ) → producer_of set.topo w ≡ p → values_on s.wires w ≡ []) → missed ≡ 0 → state_entries set s p missed ≡ []
  unfolding state_entries
  entries_none l here first zero_steps clear empty zero_missed =
      let regs = flat_map (register_entry (regs_of local)) registers in
      let memory = memory_entries given local in
      ap (λ k. count_entries k ++ (flat_map (held_entries set s p) wires ++ (regs ++ (memory ++ misses_entries missed)))) (ap count_in here ∙ zero_steps)
      ∙ ap (λ xs. xs ++ (regs ++ (memory ++ misses_entries missed))) (none_of (held_entries set s p) (λ w. held_none w (empty w)) wires)
      ∙ ap (λ xs. xs ++ (memory ++ misses_entries missed))
      (none_of (register_entry (regs_of local))
      (λ r. ap (λ v. cond (eqb v 0) [] (entry.Register r v ∷ [])) (ap (λ o. slice_index (regs_of o) r) here ∙ clear r)) registers)
      ∙ ap (λ xs. xs ++ misses_entries missed)
      (ap (λ o. memory_entries (memory_of o) local) first ∙ ap (memory_entries (memory_of (Some l))) here ∙ memory_same l)
      ∙ ap misses_entries zero_missed

-- the texts of what a processor holds, said of its local state
pub registers_text : (regs : List ℕ) (x : Local) (o : Option Local) → regs ≡ regs_of (Some x) → o ≡ Some x
    → flat_map (λ r. flat_map entry_text (register_entry regs r)) (range_with_len 0 (length regs))
    ≡ flat_map (λ r. flat_map entry_text (register_entry (regs_of o) r)) (range_with_len 0 (length (regs_of o)))
registers_text regs x o is here =
    ap (λ rs. flat_map (λ r. flat_map entry_text (register_entry rs r)) (range_with_len 0 (length rs))) (is ∙ ap regs_of (sym here))

pub memory_text : (x y : Local) (o first : Option Local) → o ≡ Some x → first ≡ Some y
    → flat_map entry_text (memory_entries (memory_of (Some y)) (Some x)) ≡ flat_map entry_text (memory_entries (memory_of first) o)
memory_text x y o first here there =
    ap (λ z. flat_map entry_text (memory_entries (memory_of z) (Some x))) (sym there)
    ∙ ap (λ z. flat_map entry_text (memory_entries (memory_of first) z)) (sym here)

-- a line of entries
line_some : (p pc : ℕ) (es : List Entry) → 0 < length es
    → flat_map line_text (standing p pc es) ≡ (decimal p ++ codes " " ++ decimal pc) ++ (flat_map entry_text es ++ codes "\n")
line_some p pc [] some = absurd (omega (arith, some))
line_some p pc (e ∷ es) some = append-nil _

misses_nothing : misses [] ≡ 0
unfolding misses
misses_nothing = refl

misses_none : (x : Processor) → IsOther (local_of x) → misses_of x ≡ 0
misses_none (a.Tile tile) is = absurd is
misses_none _ is = refl

other_of : (g : ProgramSet) (p : ℕ) (l : Local) → IsFit g p l → tile_count g.topo ≤ p → IsOther l
other_of g p (Tile l) fit past = let tile : p < tile_count g.topo = placed g.topo p proc.Tile fit.0 in absurd (omega (arith, tile, past))
other_of g p _ fit past = tt

module _ (m : Running) (valid : IsSet m.set) (k p : ℕ) (at : IsAt m k) (below : p < proc_count m.set.topo) where
  abbrev g : ProgramSet
  g = m.set

  abbrev steps : List ℕ
  steps = clock_steps g k

  state_is : m.state ≡ machine_at (clock g k)
  state_is = state_told g valid m (clock_turns g k) at

  touched_is : touched_by (clock g k) p ≡ touches (machine_of g) (start g) steps p
  touched_is =
      (law_steps_of_turns (machine_of g) (cost_of g) (first_clock g) (clock_turns g k) at.lawful).touched p
      ∙ ap (λ xs. xs ++ touches (machine_of g) (without_stalls (first_clock g)) steps p) (untouched (start g) p)
      ∙ ap (λ s. touches (machine_of g) s steps p) (without_unpaid (start g))

  first_is : (l : Local) × (slice_get (start g).locals p ≡ Some l)
  first_is = let many = (start_fits g valid).processors in some_at (start g).locals p (omega (arith, below, many))

  missed_is : (x : Processor) → slice_get m.state.locals p ≡ Some (local_of x) → IsFit g p (local_of x) → slice_index m.missed p ≡ misses_of x
      → slice_index m.missed p ≡ misses (touched_by (clock g k) p)
  missed_is x here fit is =
      ⊎_elim
      (λ (tile : p < tile_count g.topo). at.run.missed p tile ∙ ap misses (sym touched_is))
      (λ (past : tile_count g.topo ≤ p).
      is ∙ misses_none x (other_of g p (local_of x) fit past)
      ∙ sym
      (ap misses
      (touched_is
      ∙ touches_never (machine_of g) IsOther (other_row g) (start g) steps p first_is.0 first_is.1
      (other_of g p first_is.0 ((start_fits g valid).locals p first_is.0 first_is.1) past))
      ∙ misses_nothing))
      (cases_lt p (tile_count g.topo))

  -- the text of the line of a processor that has taken steps
  pub told_some : (x : Processor) → slice_get m.state.locals p ≡ Some (local_of x) → IsFit g p (local_of x) → slice_index m.missed p ≡ misses_of x
      → (n : ℕ) → IsSomeAnd (slice_get m.state.locals p) (λ l. n ≡ steps_of l) → 0 < n
      → flat_map line_text (state_line g (clock g k) p)
      ≡ (decimal p ++ codes " " ++ decimal (pc_of (Some (local_of x))))
      ++ (flat_map entry_text (state_entries g m.state p (slice_index m.missed p)) ++ codes "\n")
  told_some x here fit is n count some =
      ap (λ s. flat_map line_text (standing p (pc_of (slice_get s.locals p)) (state_entries g s p (misses (touched_by (clock g k) p))))) (sym state_is)
      ∙ ap (λ missed. flat_map line_text (standing p (pc_of (slice_get m.state.locals p)) (state_entries g m.state p missed))) (sym (missed_is x here fit is))
      ∙ ap (λ o. flat_map line_text (standing p (pc_of o) (state_entries g m.state p (slice_index m.missed p)))) here
      ∙ line_some p (pc_of (Some (local_of x))) (state_entries g m.state p (slice_index m.missed p))
      (some_entries g m.state p (slice_index m.missed p) n (count_is (slice_get m.state.locals p) n count) some)

  -- nothing is told of one that has taken none
  pub told_none : (n : ℕ) → IsSomeAnd (slice_get m.state.locals p) (λ l. n ≡ steps_of l) → n ≡ 0
      → flat_map line_text (state_line g (clock g k) p) ≡ []
  told_none n count zero_is = by_local (slice_get m.state.locals p) refl count
    where
      by_local : (o : Option Local) → slice_get m.state.locals p ≡ o → IsSomeAnd o (λ l. n ≡ steps_of l)
          → flat_map line_text (state_line g (clock g k) p) ≡ []
      by_local None here is = absurd is
      by_local (Some l) here is =
          let first = first_is.1 in
          let there = at.run.there in
          let all = counted (machine_of g) steps_of (row_counts g) (start g) steps p first_is.0 l first (ap (λ s. slice_get s.locals p) there ∙ here) in
          let none : count_of p steps ≡ 0 = omega (arith, all, is, zero_is) in
          let same : slice_get (machine_at (clock g k)).locals p ≡ Some first_is.0 =
          ap (λ s. slice_get s.locals p) (sym state_is ∙ sym there) ∙ apart (machine_of g) (start g) steps p none ∙ first in
          let steps_zero : steps_of first_is.0 ≡ 0 = omega (arith, all, is, zero_is) in
          let empty : (w : ℕ) → producer_of g.topo w ≡ p → values_on (machine_at (clock g k)).wires w ≡ [] =
          λ w own.
          ap (λ s. values_on s.wires w) (sym state_is ∙ sym there)
          ∙ sent_none (machine_of g) (producer_of g.topo) (consumer_of g.topo) (wired g valid.topology) (start g) steps p w own none (start_empty g w) in
          let quiet : misses (touched_by (clock g k) p) ≡ 0 =
          ap misses (touched_is ∙ touches_none (machine_of g) (start g) steps p none) ∙ misses_nothing in
          ap (λ es. flat_map line_text (standing p (pc_of (slice_get (machine_at (clock g k)).locals p)) es))
          (entries_none g (machine_at (clock g k)) p (misses (touched_by (clock g k) p)) first_is.0 same first steps_zero (start_clear g p first_is.0 first) empty quiet)
