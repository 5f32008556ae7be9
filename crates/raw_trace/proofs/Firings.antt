-- What the line of a firing tells of registers, memory, wires, steps and misses.
use Rattle.std.proofs.Common.{◌≡◌, ℕ, suc, ◌+◌, ◌*◌, Bool, true, false, cond, eqb, List, [], ◌∷◌, ◌++◌, length, map, Option, Some, None, refl, sym, ap, ◌∙◌, arith, append-nil}
use Rattle.std.specs.Prelude.{slice_index, sum}
use Rattle.std.specs.List.{flat_map}
use Rattle.std.specs.Option.{option_to_list}
use Rattle.std.proofs.lemmas.Bool.{eq-eqb}
use Rattle.raw_network.specs.Network.{Sent, Event, fronts, values_on, count_of, event_from}
use Rattle.raw_network.specs.Runs.{sent_on}
use Rattle.raw_network.specs.Laws.{got_on}
use Rattle.raw_model.specs.Program.{ProgramSet}
use Rattle.raw_model.specs.Local.{Local, Tile, Switch, Source, Sink, TileLocal, SwitchLocal, PortLocal, steps_of}
use Rattle.raw_model.specs.TileTable.{word_at, next_instruction}
use Rattle.raw_model.specs.SwitchTable.{next_instruction as next_switch_instruction}
use Rattle.raw_model.specs.Machine.{machine_of, tile_code, switch_code, first_operand, second_operand, given_to, takes, port_inputs}
use Rattle.raw_model.specs.Cache.{is_miss, misses, stream_of}
use Rattle.raw_model.proofs.Finite.{tile_counts, switch_counts}
use Rattle.raw_model.specs.Parts.{memory_of, count_in, got_of}
use Rattle.raw_trace.specs.declared.entry.Entry.{Entry}
use Rattle.raw_trace.specs.declared.entry.Entry.TheVariants as entry
use Rattle.raw_trace.specs.Parts.{regs_of, is_faulted}
use Rattle.raw_trace.specs.Firing.{written_register, stores_next, sent_entry, register_entries, access_entries, miss_entries, entries_with, entries_from, miss_cost}
use Rattle.raw_trace.specs.Reading.{register_told, word_told, sent_told, taken_told, count_told, misses_told, last_word}
use Rattle.raw_trace.proofs.Lists.{five_parts, first_left, second_left, third_left, fourth_left, fifth_left}
use Rattle.raw_trace.proofs.Changes.{effect_told, switch_told}
use Rattle.raw_processor.proofs.Counting.{misses_push}

-- parts of a line of which nothing is told
module _ (g : Entry → List ℕ) where
  taken_gone : ((w : ℕ) → g (entry.Taken w) ≡ []) → (ws : List ℕ) → flat_map g (map entry.Taken ws) ≡ []
  taken_gone nothing [] = refl
  taken_gone nothing (w ∷ ws) = ap (λ xs. xs ++ flat_map g (map entry.Taken ws)) (nothing w) ∙ taken_gone nothing ws

  sent_gone : ((w x : ℕ) → g (entry.Sent w x) ≡ []) → (ms : List Sent) → flat_map g (map sent_entry ms) ≡ []
  sent_gone nothing [] = refl
  sent_gone nothing (m ∷ ms) = ap (λ xs. xs ++ flat_map g (map sent_entry ms)) (nothing m.wire m.value) ∙ sent_gone nothing ms

  register_gone : ((r x : ℕ) → g (entry.Register r x) ≡ []) → (regs : List ℕ) (o : Option ℕ) → flat_map g (register_entries regs o) ≡ []
  register_gone nothing regs None = refl
  register_gone nothing regs (Some r) = ap (λ xs. xs ++ []) (nothing r (slice_index regs r))

  access_gone : ((a : ℕ) → g (entry.Loaded a) ≡ []) → ((a x : ℕ) → g (entry.Stored a x) ≡ []) → (store : Bool) (memory : List ℕ) (o : Option ℕ)
      → flat_map g (access_entries store memory o) ≡ []
  access_gone load nothing store memory None = refl
  access_gone load nothing true memory (Some a) = ap (λ xs. xs ++ []) (nothing _ _)
  access_gone load nothing false memory (Some a) = ap (λ xs. xs ++ []) (load _)

  miss_gone : ((t : ℕ) → g (entry.Missed t) ≡ []) → (o : Option ℕ) → flat_map g (miss_entries o) ≡ []
  miss_gone nothing None = refl
  miss_gone nothing (Some t) = ap (λ xs. xs ++ []) (nothing t)

-- the values sent on a wire, and how many are taken from one
sent_part : (w : ℕ) (ms : List Sent) → flat_map (sent_told w) (map sent_entry ms) ≡ sent_on w ms
sent_part w [] = refl
sent_part w (m ∷ ms) = by_test (eqb m.wire w) ∙ ap (λ xs. cond (eqb m.wire w) (m.value ∷ xs) xs) (sent_part w ms)
  where
    by_test : (b : Bool) → cond b (m.value ∷ []) [] ++ flat_map (sent_told w) (map sent_entry ms)
        ≡ cond b (m.value ∷ flat_map (sent_told w) (map sent_entry ms)) (flat_map (sent_told w) (map sent_entry ms))
    by_test true = refl
    by_test false = refl

taken_part : (w : ℕ) (ws : List ℕ) → length (flat_map (taken_told w) (map entry.Taken ws)) ≡ count_of w ws
taken_part w [] = refl
taken_part w (v ∷ ws) = by_test (eqb v w) ∙ ap (λ n. cond (eqb v w) (suc n) n) (taken_part w ws)
  where
    by_test : (b : Bool) → length (cond b (v ∷ []) [] ++ flat_map (taken_told w) (map entry.Taken ws))
        ≡ cond b (suc (length (flat_map (taken_told w) (map entry.Taken ws)))) (length (flat_map (taken_told w) (map entry.Taken ws)))
    by_test true = refl
    by_test false = refl

module _ (set : ProgramSet) (p : ℕ) (l : Local) (e : Event Local) (miss : Option ℕ) where
  abbrev regs : List ℕ
  regs = regs_of e.after

  abbrev written : Option ℕ
  written = cond (is_faulted e.after) None (written_register set p l)

  only_registers : (r : ℕ) → flat_map (register_told r) (entries_with set p l e miss) ≡ flat_map (register_told r) (register_entries regs written)
  only_registers r =
      five_parts (register_told r) (map entry.Taken e.from) (map sent_entry e.sent) (register_entries regs written) (access_entries (stores_next set p l) (memory_of e.after) e.touched) (miss_entries miss)
      ∙ third_left _ _ _ _ _
      (taken_gone (register_told r) (λ w. refl) e.from) (sent_gone (register_told r) (λ w x. refl) e.sent)
      (access_gone (register_told r) (λ a. refl) (λ a x. refl) (stores_next set p l) (memory_of e.after) e.touched) (miss_gone (register_told r) (λ t. refl) miss)

  only_words : (at : ℕ) → flat_map (word_told at) (entries_with set p l e miss) ≡ flat_map (word_told at) (access_entries (stores_next set p l) (memory_of e.after) e.touched)
  only_words at =
      five_parts (word_told at) (map entry.Taken e.from) (map sent_entry e.sent) (register_entries regs written) (access_entries (stores_next set p l) (memory_of e.after) e.touched) (miss_entries miss)
      ∙ fourth_left _ _ _ _ _
      (taken_gone (word_told at) (λ w. refl) e.from) (sent_gone (word_told at) (λ w x. refl) e.sent)
      (register_gone (word_told at) (λ r x. refl) regs written) (miss_gone (word_told at) (λ t. refl) miss)

  only_sent : (w : ℕ) → flat_map (sent_told w) (entries_with set p l e miss) ≡ sent_on w e.sent
  only_sent w =
      five_parts (sent_told w) (map entry.Taken e.from) (map sent_entry e.sent) (register_entries regs written) (access_entries (stores_next set p l) (memory_of e.after) e.touched) (miss_entries miss)
      ∙ second_left _ _ _ _ _
      (taken_gone (sent_told w) (λ v. refl) e.from) (register_gone (sent_told w) (λ r x. refl) regs written)
      (access_gone (sent_told w) (λ a. refl) (λ a x. refl) (stores_next set p l) (memory_of e.after) e.touched) (miss_gone (sent_told w) (λ t. refl) miss)
      ∙ sent_part w e.sent

  only_taken : (w : ℕ) → length (flat_map (taken_told w) (entries_with set p l e miss)) ≡ count_of w e.from
  only_taken w =
      ap length
      (five_parts (taken_told w) (map entry.Taken e.from) (map sent_entry e.sent) (register_entries regs written) (access_entries (stores_next set p l) (memory_of e.after) e.touched) (miss_entries miss)
      ∙ first_left _ _ _ _ _
      (sent_gone (taken_told w) (λ v x. refl) e.sent) (register_gone (taken_told w) (λ r x. refl) regs written)
      (access_gone (taken_told w) (λ a. refl) (λ a x. refl) (stores_next set p l) (memory_of e.after) e.touched) (miss_gone (taken_told w) (λ t. refl) miss))
      ∙ taken_part w e.from

  no_count : flat_map count_told (entries_with set p l e miss) ≡ []
  no_count =
      five_parts count_told (map entry.Taken e.from) (map sent_entry e.sent) (register_entries regs written) (access_entries (stores_next set p l) (memory_of e.after) e.touched) (miss_entries miss)
      ∙ fifth_left _ _ _ _ _
      (taken_gone count_told (λ w. refl) e.from) (sent_gone count_told (λ w x. refl) e.sent) (register_gone count_told (λ r x. refl) regs written)
      (access_gone count_told (λ a. refl) (λ a x. refl) (stores_next set p l) (memory_of e.after) e.touched)
      ∙ miss_gone count_told (λ t. refl) miss

  only_misses : flat_map misses_told (entries_with set p l e miss) ≡ flat_map misses_told (miss_entries miss)
  only_misses =
      five_parts misses_told (map entry.Taken e.from) (map sent_entry e.sent) (register_entries regs written) (access_entries (stores_next set p l) (memory_of e.after) e.touched) (miss_entries miss)
      ∙ fifth_left _ _ _ _ _
      (taken_gone misses_told (λ w. refl) e.from) (sent_gone misses_told (λ w x. refl) e.sent) (register_gone misses_told (λ r x. refl) regs written)
      (access_gone misses_told (λ a. refl) (λ a x. refl) (stores_next set p l) (memory_of e.after) e.touched)

-- a touch that misses is told once
misses_more : (set : ProgramSet) (p : ℕ) (touched : List ℕ) (o : Option ℕ)
    → misses (touched ++ option_to_list o) ≡ misses touched + sum (flat_map misses_told (miss_entries (miss_cost set p touched o)))
misses_more set p touched None = let same = ap misses (append-nil touched) in omega (arith, same)
misses_more set p touched (Some address) = misses_push touched address ∙ by_test (is_miss touched address)
  where
    by_test : (b : Bool) → cond b (misses touched + 1) (misses touched)
        ≡ misses touched + sum (flat_map misses_told (miss_entries (cond b (Some (slice_index (stream_of set p) (misses touched))) None)))
    by_test true = refl
    by_test false = let none : misses touched + 0 ≡ misses touched = omega arith in sym none

module _ (set : ProgramSet) (wires : List (List ℕ)) (p : ℕ) where
  -- the step of a processor with this local state
  abbrev pub event_by : Option Local → Event Local
  event_by o = event_from (machine_of set) wires p o

  tile_registers : (l : TileLocal) (r : ℕ)
      → last_word (slice_index l.regs r)
      (flat_map (register_told r) (register_entries (regs_of (event_by (Some (Tile l))).after) (cond (is_faulted (event_by (Some (Tile l))).after) None (written_register set p (Tile l)))))
      ≡ slice_index (regs_of (event_by (Some (Tile l))).after) r
  unfolding machine_of
  tile_registers l r =
      let values = fronts (takes set p (Tile l)) wires in
      let next = next_instruction (tile_code set p) l in
      (effect_told next (length (tile_code set p)) l (first_operand next l.regs values) (second_operand next l.regs values)).registers r

  tile_words : (l : TileLocal) (i : ℕ)
      → last_word (word_at l.memory (4 * i))
      (flat_map (word_told (4 * i)) (access_entries (stores_next set p (Tile l)) (memory_of (event_by (Some (Tile l))).after) (event_by (Some (Tile l))).touched))
      ≡ word_at (memory_of (event_by (Some (Tile l))).after) (4 * i)
  unfolding machine_of
  tile_words l i =
      let values = fronts (takes set p (Tile l)) wires in
      let next = next_instruction (tile_code set p) l in
      (effect_told next (length (tile_code set p)) l (first_operand next l.regs values) (second_operand next l.regs values)).memory i

  switch_registers : (l : SwitchLocal) (r : ℕ)
      → last_word (slice_index l.regs r)
      (flat_map (register_told r) (register_entries (regs_of (event_by (Some (Switch l))).after) (cond (is_faulted (event_by (Some (Switch l))).after) None (written_register set p (Switch l)))))
      ≡ slice_index (regs_of (event_by (Some (Switch l))).after) r
  unfolding machine_of
  switch_registers l r =
      let next = next_switch_instruction (switch_code set p) l in
      switch_told next (length (switch_code set p)) l (given_to set.topo p next (fronts (takes set p (Switch l)) wires)) r

  -- its registers and its memory
  pub fired_register : (o : Option Local) (miss : Option ℕ) (r : ℕ)
      → last_word (slice_index (regs_of o) r) (flat_map (register_told r) (entries_from set p o (event_by o) miss)) ≡ slice_index (regs_of (event_by o).after) r
  unfolding machine_of
  fired_register None miss r = refl
  fired_register (Some (Tile l)) miss r = ap (last_word (slice_index l.regs r)) (only_registers set p (Tile l) (event_by (Some (Tile l))) miss r) ∙ tile_registers l r
  fired_register (Some (Switch l)) miss r = ap (last_word (slice_index l.regs r)) (only_registers set p (Switch l) (event_by (Some (Switch l))) miss r) ∙ switch_registers l r
  fired_register (Some (Source l)) miss r = ap (last_word 0) (only_registers set p (Source l) (event_by (Some (Source l))) miss r)
  fired_register (Some (Sink l)) miss r = ap (last_word 0) (only_registers set p (Sink l) (event_by (Some (Sink l))) miss r)

  pub fired_word : (o : Option Local) (miss : Option ℕ) (i : ℕ)
      → last_word (word_at (memory_of o) (4 * i)) (flat_map (word_told (4 * i)) (entries_from set p o (event_by o) miss)) ≡ word_at (memory_of (event_by o).after) (4 * i)
  unfolding machine_of
  fired_word None miss i = refl
  fired_word (Some (Tile l)) miss i = ap (last_word (word_at l.memory (4 * i))) (only_words set p (Tile l) (event_by (Some (Tile l))) miss (4 * i)) ∙ tile_words l i
  fired_word (Some (Switch l)) miss i = ap (last_word (word_at [] (4 * i))) (only_words set p (Switch l) (event_by (Some (Switch l))) miss (4 * i))
  fired_word (Some (Source l)) miss i = ap (last_word (word_at [] (4 * i))) (only_words set p (Source l) (event_by (Some (Source l))) miss (4 * i))
  fired_word (Some (Sink l)) miss i = ap (last_word (word_at [] (4 * i))) (only_words set p (Sink l) (event_by (Some (Sink l))) miss (4 * i))

  -- what it sends and takes
  pub fired_sent : (o : Option Local) (miss : Option ℕ) (w : ℕ) → flat_map (sent_told w) (entries_from set p o (event_by o) miss) ≡ sent_on w (event_by o).sent
  fired_sent None miss w = refl
  fired_sent (Some l) miss w = only_sent set p l (event_by (Some l)) miss w

  pub fired_taken : (o : Option Local) (miss : Option ℕ) (w : ℕ) → length (flat_map (taken_told w) (entries_from set p o (event_by o) miss)) ≡ count_of w (event_by o).from
  fired_taken None miss w = refl
  fired_taken (Some l) miss w = only_taken set p l (event_by (Some l)) miss w

  -- one step, and a miss where it misses
  pub fired_count : (o : Option Local) (miss : Option ℕ) → flat_map count_told (entries_from set p o (event_by o) miss) ≡ []
  fired_count None miss = refl
  fired_count (Some l) miss = no_count set p l (event_by (Some l)) miss

  pub fired_misses : (o : Option Local) (touched : List ℕ)
      → misses (touched ++ option_to_list (event_by o).touched)
      ≡ misses touched + sum (flat_map misses_told (entries_from set p o (event_by o) (miss_cost set p touched (event_by o).touched)))
  fired_misses None touched = misses_more set p touched None
  fired_misses (Some l) touched =
      misses_more set p touched (event_by (Some l)).touched
      ∙ ap (λ xs. misses touched + sum xs) (sym (only_misses set p l (event_by (Some l)) (miss_cost set p touched (event_by (Some l)).touched)))

  pub counted_more : (l : Local) → count_in (event_by (Some l)).after ≡ steps_of l + 1
  unfolding machine_of
  counted_more (Tile l) =
      let values = fronts (takes set p (Tile l)) wires in
      let next = next_instruction (tile_code set p) l in
      tile_counts next (length (tile_code set p)) l (first_operand next l.regs values) (second_operand next l.regs values)
  counted_more (Switch l) =
      let next = next_switch_instruction (switch_code set p) l in
      switch_counts next (length (switch_code set p)) l (given_to set.topo p next (fronts (takes set p (Switch l)) wires))
  counted_more (Source l) = refl
  counted_more (Sink l) = refl

  -- what a sink takes it gets
  pub got_more : (l : PortLocal) (w : ℕ) → port_inputs set.topo p ≡ w ∷ []
      → got_of (event_by (Some (Sink l))).after ≡ l.got ++ got_on w (event_by (Some (Sink l))).from (event_by (Some (Sink l))).took
  unfolding machine_of
  got_more l w is =
      ap (λ ws. l.got ++ slice_index (fronts ws wires) 0 ∷ []) is
      ∙ sym
      (ap (λ ws. l.got ++ got_on w ws (fronts ws wires)) is
      ∙ ap (λ b. l.got ++ cond b (slice_index (values_on wires w) 0 ∷ []) []) (eq-eqb w w refl))
