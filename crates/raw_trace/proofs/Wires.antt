-- What is read of a wire is what it holds before each cycle, and what a sink has got.
use Rattle.std.proofs.Common.{◌≡◌, ℕ, zero, suc, ◌+◌, ◌<◌, Bool, true, false, cond, List, [], ◌∷◌, ◌++◌, length, take, drop, Option, Some, None, refl, sym, ap, ◌∙◌, subst, arith, append_assoc, append-nil, ◌-◌, ◌*◌}
use Rattle.std.specs.List.{flat_map, range_with_len}
use Rattle.std.specs.Option.{option_to_list}
use Rattle.std.proofs.Math.Seq.{take-append_seam, drop-append_seam}
use Rattle.std.proofs.lemmas.Bool.{eq-eqb, ne_eqb}
use Rattle.std.proofs.lemmas.List.{length-append}
use Rattle.raw_network.specs.Network.{Event, fronts, values_on, count_of, event_from}
use Rattle.raw_network.specs.Runs.{sent_on}
use Rattle.raw_network.specs.Laws.{got_on}
use Rattle.raw_network.proofs.Wires.{count_none, sent_none}
use Rattle.raw_grid.specs.declared.parts.Net.{Net}
use Rattle.raw_grid.specs.declared.parts.Net.TheVariants.{One, Two}
use Rattle.raw_grid.specs.declared.parts.ProcKind.TheVariants as proc
use Rattle.raw_grid.specs.Ends.{tile_end}
use Rattle.raw_grid.specs.Topology.{Topology, IsTopology, tile_count, kind_at}
use Rattle.raw_grid.specs.Wires.{wires_of, input_wire, producer_of, consumer_of}
use Rattle.raw_grid.proofs.NoWire.{port_input}
use Rattle.raw_grid.proofs.WireLaws.{input_is, consumer_few, producer_few}
use Rattle.raw_model.specs.Program.{ProgramSet, IsSet}
use Rattle.raw_model.specs.Local.{Local, Sink, PortLocal}
use Rattle.raw_model.specs.Machine.{machine_of, port_inputs}
use Rattle.raw_model.specs.Start.{IsFit}
use Rattle.raw_model.specs.Cache.{misses}
use Rattle.raw_model.proofs.Wired.{wired}
use Rattle.raw_model.specs.Parts.{got_of}
use Rattle.raw_serial.proofs.Placed.{placed}
use Rattle.raw_lockstep.specs.Stalls.{touched_by}
use Rattle.raw_clock.specs.Clock.{machine_at, clock, turn_in, is_fired}
use Rattle.raw_trace.specs.declared.entry.Entry.{Entry}
use Rattle.raw_trace.specs.Parts.{pc_of}
use Rattle.raw_trace.specs.Standing.{state_entries}
use Rattle.raw_trace.specs.Lines.{Line, Begins, state_line, firing_entries, turn_before, turn_lines, cycle_lines}
use Rattle.raw_trace.specs.Reading.{entries_in, sent_told, taken_told, told, read_wire, read_got}
use Rattle.raw_trace.specs.Laws.{local_at}
use Rattle.raw_trace.proofs.Lists.{flat_flat, nil_of, none_of, only_one, more_each}
use Rattle.raw_trace.proofs.Places.{procs, all_states, all_turns, all_before}
use Rattle.raw_trace.proofs.Next.{fits_at, next_local, next_wire, length-got}
use Rattle.raw_trace.proofs.Firings.{fired_sent, fired_taken, got_more}
use Rattle.raw_trace.proofs.States.{state_sent, state_taken, standing_entries}
use Rattle.raw_trace.proofs.Told.{entries_are, told-append, turn_told, some_local}

-- what is told of lines that are joined
told_flat : (g : Entry → List ℕ) (f : ℕ → List Line) (qs : List ℕ) → told g (flat_map f qs) ≡ flat_map (λ q. told g (f q)) qs
told_flat g f qs = ap (flat_map g) (flat_flat entries_in f qs) ∙ flat_flat g (λ q. flat_map entries_in (f q)) qs

-- a wire that leads to a sink is the one from which the sink takes
none_from : (o : Option ℕ) → ((v : ℕ) → o ≡ Some v → ⊥) → o ≡ None
none_from None none = refl
none_from (Some v) none = absurd (none v refl)

by_net : (t : Topology) (p w i : ℕ) (net : Net) → ((j v : ℕ) → input_wire t p j ≡ Some v → j ≡ tile_end net) → input_wire t p i ≡ Some w → port_inputs t p ≡ w ∷ []
by_net t p w i One only own =
    let at : i ≡ 4 = only i w own in
    ap (λ o. option_to_list o ++ option_to_list (input_wire t p 9)) (sym (ap (input_wire t p) at) ∙ own)
    ∙ ap (λ o. w ∷ option_to_list o) (none_from (input_wire t p 9) (λ v e. let same : 9 ≡ 4 = only 9 v e in absurd (omega (arith, same))))
by_net t p w i Two only own =
    let at : i ≡ 9 = only i w own in
    ap (λ o. option_to_list o ++ option_to_list (input_wire t p 9)) (none_from (input_wire t p 4) (λ v e. let same : 4 ≡ 9 = only 4 v e in absurd (omega (arith, same))))
    ∙ ap option_to_list (sym (ap (input_wire t p) at) ∙ own)

sink_inputs : (t : Topology) → IsTopology t → (p w : ℕ) → w < length (wires_of t) → kind_at t p ≡ Some proc.Sink → consumer_of t w ≡ p → port_inputs t p ≡ w ∷ []
sink_inputs t valid p w within kind to =
    let port = placed t p proc.Sink kind in
    let k = p - 2 * tile_count t in
    let number : 2 * tile_count t + k ≡ p = let behind = port.behind in omega (arith, behind) in
    let found = input_is t w valid within in
    by_net t p w found.0 port.place.net
    (λ j v e. (port_input t k port.place port.here j v valid (ap (λ q. input_wire t q j) number ∙ e)).1)
    (sym (ap (λ q. input_wire t q found.0) to) ∙ found.2)

-- a local state that fits a sink is that of one
sink_is : (set : ProgramSet) (p : ℕ) (l : Local) → IsFit set p l → kind_at set.topo p ≡ Some proc.Sink → (s : PortLocal) × (l ≡ Sink s)
sink_is set p (Sink l) fit kind = (l, refl)
sink_is set p _ fit kind = absurd (cc (sym fit.0 ∙ kind))

module _ (set : ProgramSet) (valid : IsSet set) (first w : ℕ) (within : w < length (wires_of set.topo)) where
  abbrev p : ℕ
  p = producer_of set.topo w

  abbrev q : ℕ
  q = consumer_of set.topo w

  abbrev values : ℕ → List ℕ
  values k = values_on (machine_at (clock set k)).wires w

  abbrev event : ℕ → ℕ → Event Local
  event k r = event_from (machine_of set) (machine_at (clock set k)).wires r (local_at set k r)

  p_below : p < procs set first
  p_below = producer_few set.topo w valid.topology within

  q_below : q < procs set first
  q_below = consumer_few set.topo w valid.topology within

  -- the producer alone sends on it
  abbrev sent_by : ℕ → List ℕ
  sent_by k = cond (is_fired (turn_in set (clock set k) p)) (sent_on w (event k p).sent) []

  turn_sent : (k r : ℕ) → told (sent_told w) (turn_lines set first k r) ≡ cond (is_fired (turn_in set (clock set k) r)) (sent_on w (event k r).sent) []
  turn_sent k r =
      turn_told set (clock set k) r (sent_told w) (turn_in set (clock set k) r) (turn_before set first k r)
      ∙ ap (λ xs. cond (is_fired (turn_in set (clock set k) r)) xs [])
      (ap (flat_map (sent_told w)) (entries_are set (clock set k) r) ∙ fired_sent set (machine_at (clock set k)).wires r (local_at set k r) _ w)

  cond_nil : (b : Bool) (xs : List ℕ) → xs ≡ [] → cond b xs [] ≡ []
  cond_nil true xs e = e
  cond_nil false xs e = refl

  other_sent : (k r : ℕ) → (r ≡ p → ⊥) → sent_on w (event k r).sent ≡ []
  other_sent k r ne = by_local (local_at set k r)
    where
      by_local : (o : Option Local) → sent_on w (event_from (machine_of set) (machine_at (clock set k)).wires r o).sent ≡ []
      by_local None = refl
      by_local (Some l) =
          let net = machine_of set in
          sent_none (producer_of set.topo) r w _ ((wired set valid.topology).sent_own r l (fronts (net.takes r l) (machine_at (clock set k)).wires)) (λ e. ne (sym e))

  cycle_sent : (k : ℕ) → told (sent_told w) (all_turns set first k) ≡ sent_by k
  cycle_sent k =
      told_flat (sent_told w) (turn_lines set first k) (range_with_len 0 (procs set first))
      ∙ only_one (λ r. told (sent_told w) (turn_lines set first k r)) p 0 (procs set first) (omega arith) (omega (arith, p_below))
      (λ r ne. turn_sent k r ∙ cond_nil (is_fired (turn_in set (clock set k) r)) (sent_on w (event k r).sent) (other_sent k r ne))
      ∙ turn_sent k p

  -- the consumer alone takes from it
  abbrev got_by : ℕ → List ℕ
  got_by k = cond (is_fired (turn_in set (clock set k) q)) (got_on w (event k q).from (event k q).took) []

  cond_length : (b : Bool) (xs ys : List ℕ) → length xs ≡ length ys → length (cond b xs []) ≡ length (cond b ys [])
  cond_length true xs ys e = e
  cond_length false xs ys e = refl

  turn_takes : (k r : ℕ) → told (taken_told w) (turn_lines set first k r) ≡ cond (is_fired (turn_in set (clock set k) r)) (flat_map (taken_told w) (firing_entries set (clock set k) r)) []
  turn_takes k r = turn_told set (clock set k) r (taken_told w) (turn_in set (clock set k) r) (turn_before set first k r)

  many_taken : (k r : ℕ) → length (flat_map (taken_told w) (firing_entries set (clock set k) r)) ≡ count_of w (event k r).from
  many_taken k r =
      ap (λ es. length (flat_map (taken_told w) es)) (entries_are set (clock set k) r) ∙ fired_taken set (machine_at (clock set k)).wires r (local_at set k r) _ w

  many_got : (k r : ℕ) → length (got_on w (event k r).from (event k r).took) ≡ count_of w (event k r).from
  many_got k r = by_local (local_at set k r)
    where
      by_local : (o : Option Local)
          → length (got_on w (event_from (machine_of set) (machine_at (clock set k)).wires r o).from (event_from (machine_of set) (machine_at (clock set k)).wires r o).took)
          ≡ count_of w (event_from (machine_of set) (machine_at (clock set k)).wires r o).from
      by_local None = refl
      by_local (Some l) = let net = machine_of set in length-got w (net.takes r l) (machine_at (clock set k)).wires

  other_takes : (k r : ℕ) → (r ≡ q → ⊥) → count_of w (event k r).from ≡ 0
  other_takes k r ne = by_local (local_at set k r)
    where
      by_local : (o : Option Local) → count_of w (event_from (machine_of set) (machine_at (clock set k)).wires r o).from ≡ 0
      by_local None = refl
      by_local (Some l) =
          let net = machine_of set in
          count_none (consumer_of set.topo) r w (net.takes r l) ((wired set valid.topology).takes_own r l) (λ e. ne (sym e))

  cycle_takes : (k : ℕ) → length (told (taken_told w) (all_turns set first k)) ≡ length (got_by k)
  cycle_takes k =
      ap length
      (told_flat (taken_told w) (turn_lines set first k) (range_with_len 0 (procs set first))
      ∙ only_one (λ r. told (taken_told w) (turn_lines set first k r)) q 0 (procs set first) (omega arith) (omega (arith, q_below))
      (λ r ne.
      turn_takes k r
      ∙ cond_nil (is_fired (turn_in set (clock set k) r)) (flat_map (taken_told w) (firing_entries set (clock set k) r))
      (nil_of (flat_map (taken_told w) (firing_entries set (clock set k) r)) (many_taken k r ∙ other_takes k r ne)))
      ∙ turn_takes k q)
      ∙ cond_length (is_fired (turn_in set (clock set k) q)) (flat_map (taken_told w) (firing_entries set (clock set k) q)) (got_on w (event k q).from (event k q).took)
      (many_taken k q ∙ sym (many_got k q))

  -- one cycle's lines more
  abbrev lines : ℕ → List Line
  lines m = all_before set first m

  told_more : (g : Entry → List ℕ) (m : ℕ) → told g (lines (suc m)) ≡ told g (lines m) ++ told g (all_turns set first (first + m))
  told_more g m =
      let more : suc m ≡ m + 1 = omega arith in
      let cycles = flat_map (cycle_lines set first) (range_with_len first m) in
      ap (λ n. told g (Begins first ∷ (all_states set first ++ flat_map (cycle_lines set first) (range_with_len first n)))) more
      ∙ ap (λ xs. told g (Begins first ∷ (all_states set first ++ xs))) (more_each (cycle_lines set first) first m)
      ∙ ap (λ xs. told g (Begins first ∷ xs)) (sym (append_assoc (all_states set first) cycles (cycle_lines set first (first + m))))
      ∙ told-append g (lines m) (cycle_lines set first (first + m))

  told_first : (g : Entry → List ℕ) → told g (lines 0) ≡ flat_map (λ r. flat_map g (state_entries set (machine_at (clock set first)) r (misses (touched_by (clock set first) r)))) (range_with_len 0 (procs set first))
  told_first g =
      ap (told g) (append-nil (all_states set first))
      ∙ told_flat g (state_line set (clock set first)) (range_with_len 0 (procs set first))
      ∙ each (range_with_len 0 (procs set first))
    where
      each : (rs : List ℕ) → flat_map (λ r. told g (state_line set (clock set first) r)) rs
          ≡ flat_map (λ r. flat_map g (state_entries set (machine_at (clock set first)) r (misses (touched_by (clock set first) r)))) rs
      each [] = refl
      each (r ∷ rs) =
          ap (λ xs. flat_map g xs ++ flat_map (λ r. told g (state_line set (clock set first) r)) rs) (standing_entries r (pc_of (local_at set first r)) _)
          ∙ ap (λ xs. flat_map g (state_entries set (machine_at (clock set first)) r (misses (touched_by (clock set first) r))) ++ xs) (each rs)

  first_sent : told (sent_told w) (lines 0) ≡ values first
  first_sent =
      let entries = λ (r : ℕ). state_entries set (machine_at (clock set first)) r (misses (touched_by (clock set first) r)) in
      let is = λ (r : ℕ). state_sent set (machine_at (clock set first)) r (misses (touched_by (clock set first) r)) w within in
      told_first (sent_told w)
      ∙ only_one (λ r. flat_map (sent_told w) (entries r)) p 0 (procs set first) (omega arith) (omega (arith, p_below))
      (λ r ne. is r ∙ ap (λ b. cond b (values first) []) (ne_eqb p r (λ e. ne (sym e))))
      ∙ is p
      ∙ ap (λ b. cond b (values first) []) (eq-eqb p p refl)

  first_taken : told (taken_told w) (lines 0) ≡ []
  first_taken =
      told_first (taken_told w)
      ∙ none_of (λ r. flat_map (taken_told w) (state_entries set (machine_at (clock set first)) r (misses (touched_by (clock set first) r))))
      (λ r. state_taken set (machine_at (clock set first)) r (misses (touched_by (clock set first) r)) w) (range_with_len 0 (procs set first))

  -- what was taken stands before what the wire holds
  record IsSplit (m : ℕ) : Type 0 where
    taken : List ℕ
    sent_is : told (sent_told w) (lines m) ≡ taken ++ values (first + m)
    many : length (told (taken_told w) (lines m)) ≡ length taken
    got : kind_at set.topo q ≡ Some proc.Sink → port_inputs set.topo q ≡ w ∷ [] → got_of (local_at set first q) ++ taken ≡ got_of (local_at set (first + m) q)

  got_next : (k : ℕ) → kind_at set.topo q ≡ Some proc.Sink → port_inputs set.topo q ≡ w ∷ [] → got_of (local_at set k q) ++ got_by k ≡ got_of (local_at set (suc k) q)
  got_next k kind inputs =
      let now = some_local set valid q q_below k in
      let sink = sink_is set q now.0 ((fits_at set valid k).locals q now.0 now.1) kind in
      let here : local_at set k q ≡ Some (Sink sink.0) = now.1 ∙ ap Some sink.1 in
      by_test sink.0 here (is_fired (turn_in set (clock set k) q)) ∙ sym (ap got_of (next_local set valid k q q_below))
    where
      by_test : (l : PortLocal) → local_at set k q ≡ Some (Sink l) → (b : Bool)
          → got_of (local_at set k q) ++ cond b (got_on w (event k q).from (event k q).took) [] ≡ got_of (cond b (event k q).after (local_at set k q))
      by_test l here true =
          ap (λ o. got_of o ++ got_on w (event_from (machine_of set) (machine_at (clock set k)).wires q o).from (event_from (machine_of set) (machine_at (clock set k)).wires q o).took) here
          ∙ sym (got_more set (machine_at (clock set k)).wires q l w inputs)
          ∙ sym (ap (λ o. got_of (event_from (machine_of set) (machine_at (clock set k)).wires q o).after) here)
      by_test l here false = append-nil (got_of (local_at set k q))

  split : (m : ℕ) → IsSplit m
  split zero =
      let same : first + 0 ≡ first = omega arith in
      record {
        taken = [];
        sent_is = first_sent ∙ sym (ap values same);
        many = ap length first_taken;
        got = λ kind inputs. append-nil (got_of (local_at set first q)) ∙ sym (ap (λ k. got_of (local_at set k q)) same);
      }
  split (suc m) =
      let k = first + m in
      let more : first + suc m ≡ suc (first + m) = omega arith in
      let was = split m in
      let long = length-append was.taken (got_by k) in
      let both = length-append (told (taken_told w) (lines m)) (told (taken_told w) (all_turns set first k)) in
      let all = ap length (told_more (taken_told w) m) in
      let one = cycle_takes k in
      let earlier = was.many in
      record {
        taken = was.taken ++ got_by k;
        sent_is =
            told_more (sent_told w) m
            ∙ ap (λ xs. xs ++ told (sent_told w) (all_turns set first k)) was.sent_is
            ∙ ap (λ xs. (was.taken ++ values k) ++ xs) (cycle_sent k)
            ∙ append_assoc was.taken (values k) (sent_by k)
            ∙ ap (λ xs. was.taken ++ xs) (next_wire set valid k w p q within refl refl p_below q_below)
            ∙ sym (append_assoc was.taken (got_by k) (values (suc k)))
            ∙ sym (ap (λ j. (was.taken ++ got_by k) ++ values j) more);
        many = omega (arith, long, both, all, one, earlier);
        got =
            λ kind inputs.
            sym (append_assoc (got_of (local_at set first q)) was.taken (got_by k))
            ∙ ap (λ xs. xs ++ got_by k) (was.got kind inputs)
            ∙ got_next k kind inputs
            ∙ sym (ap (λ j. got_of (local_at set j q)) more);
      }

  pub wire_read : (m k : ℕ) → first + m ≡ k → read_wire w (lines m) ≡ values k
  wire_read m k is =
      let s = split m in
      ap (λ xs. drop (length (told (taken_told w) (lines m))) xs) s.sent_is
      ∙ ap (λ n. drop n (s.taken ++ values (first + m))) s.many
      ∙ drop-append_seam s.taken (values (first + m))
      ∙ ap values is

  got_read : (m k : ℕ) → first + m ≡ k → kind_at set.topo q ≡ Some proc.Sink → port_inputs set.topo q ≡ w ∷ []
      → got_of (local_at set first q) ++ read_got w (lines m) ≡ got_of (local_at set k q)
  got_read m k is kind inputs =
      let s = split m in
      ap (λ xs. got_of (local_at set first q) ++ xs)
      (ap (λ xs. take (length (told (taken_told w) (lines m))) xs) s.sent_is
      ∙ ap (λ n. take n (s.taken ++ values (first + m))) s.many
      ∙ take-append_seam s.taken (values (first + m)))
      ∙ s.got kind inputs
      ∙ ap (λ j. got_of (local_at set j q)) is

  pub sink_read : (m k r : ℕ) → first + m ≡ k → q ≡ r → kind_at set.topo r ≡ Some proc.Sink → port_inputs set.topo r ≡ w ∷ []
      → got_of (local_at set first r) ++ read_got w (lines m) ≡ got_of (local_at set k r)
  sink_read m k r is own =
      subst
      (λ r. kind_at set.topo r ≡ Some proc.Sink → port_inputs set.topo r ≡ w ∷ [] → got_of (local_at set first r) ++ read_got w (lines m) ≡ got_of (local_at set k r))
      own (got_read m k is)

pub got_of_sink : (set : ProgramSet) → IsSet set → (first m k p w : ℕ) → first + m ≡ k → w < length (wires_of set.topo) → kind_at set.topo p ≡ Some proc.Sink
    → consumer_of set.topo w ≡ p → got_of (local_at set first p) ++ read_got w (all_before set first m) ≡ got_of (local_at set k p)
got_of_sink set valid first m k p w is within kind to =
    sink_read set valid first w within m k p is to kind (sink_inputs set.topo valid.topology p w within kind to)
