-- What the line of a processor in a state tells of registers, memory, wires, steps and misses.
use Rattle.std.proofs.Common.{◌≡◌, ℕ, zero, suc, ◌+◌, ◌*◌, ◌<◌, ◌≤◌, Bool, true, false, cond, eqb, List, [], ◌∷◌, ◌++◌, length, map, Option, Some, None, refl, sym, ap, ◌∙◌, ⊎_elim, arith, append-nil}
use Rattle.std.specs.Prelude.{slice_get, slice_index, sum}
use Rattle.std.specs.List.{flat_map, filter, range_with_len}
use Rattle.std.proofs.lemmas.Bool.{cases_lt, eq-eqb, ne_eqb, eqb-true}
use Rattle.std.proofs.lemmas.List.{get_or_past}
use Rattle.raw_network.specs.Network.{values_on}
use Rattle.raw_grid.specs.Wires.{wires_of, producer_of}
use Rattle.raw_model.specs.declared.limits.TheConstants.{MEMORY_WORDS}
use Rattle.raw_model.specs.Program.{ProgramSet}
use Rattle.raw_model.specs.Local.{Local, Tile, Switch, Source, Sink, TileLocal}
use Rattle.raw_model.specs.TileTable.{word_at}
use Rattle.raw_model.specs.Start.{MachineState, start}
use Rattle.raw_model.specs.Parts.{memory_of, count_in}
use Rattle.raw_trace.specs.declared.entry.Entry.{Entry}
use Rattle.raw_trace.specs.declared.entry.Entry.TheVariants as entry
use Rattle.raw_trace.specs.Parts.{regs_of}
use Rattle.raw_trace.specs.Standing.{count_entries, held_entries, register_entry, word_entry, memory_entries, misses_entries, state_entries}
use Rattle.raw_trace.specs.Lines.{standing}
use Rattle.raw_trace.specs.Reading.{is_firing, pc_told, entries_in, register_told, word_told, sent_told, taken_told, count_told, misses_told, last_word}
use Rattle.raw_trace.proofs.Lists.{flat_flat, none_of, only_one, five_parts, first_left, second_left, third_left, fourth_left, fifth_left}

-- parts of a state of which nothing is told
module _ (g : Entry → List ℕ) where
  cond_gone : (b : Bool) (e : Entry) → g e ≡ [] → flat_map g (cond b [] (e ∷ [])) ≡ []
  cond_gone true e nothing = refl
  cond_gone false e nothing = ap (λ xs. xs ++ []) nothing

  count_gone : ((n : ℕ) → g (entry.Count n) ≡ []) → (n : ℕ) → flat_map g (count_entries n) ≡ []
  count_gone nothing n = cond_gone (eqb n 0) (entry.Count n) (nothing n)

  misses_gone : ((n : ℕ) → g (entry.Misses n) ≡ []) → (n : ℕ) → flat_map g (misses_entries n) ≡ []
  misses_gone nothing n = cond_gone (eqb n 0) (entry.Misses n) (nothing n)

  map_gone : (w : ℕ) → ((x : ℕ) → g (entry.Sent w x) ≡ []) → (xs : List ℕ) → flat_map g (map (entry.Sent w) xs) ≡ []
  map_gone w nothing [] = refl
  map_gone w nothing (x ∷ xs) = ap (λ ys. ys ++ flat_map g (map (entry.Sent w) xs)) (nothing x) ∙ map_gone w nothing xs

  wire_gone : (set : ProgramSet) (s : MachineState) (p w : ℕ) → ((x : ℕ) → g (entry.Sent w x) ≡ []) → flat_map g (held_entries set s p w) ≡ []
  wire_gone set s p w nothing = by_test (eqb (producer_of set.topo w) p)
    where
      by_test : (b : Bool) → flat_map g (cond b (map (entry.Sent w) (values_on s.wires w)) []) ≡ []
      by_test true = map_gone w nothing (values_on s.wires w)
      by_test false = refl

  held_gone : (set : ProgramSet) (s : MachineState) (p : ℕ) → ((w x : ℕ) → g (entry.Sent w x) ≡ []) → (ws : List ℕ) → flat_map g (flat_map (held_entries set s p) ws) ≡ []
  held_gone set s p nothing ws = flat_flat g (held_entries set s p) ws ∙ none_of (λ w. flat_map g (held_entries set s p w)) (λ w. wire_gone set s p w (nothing w)) ws

  registers_gone : ((r x : ℕ) → g (entry.Register r x) ≡ []) → (regs : List ℕ) (rs : List ℕ) → flat_map g (flat_map (register_entry regs) rs) ≡ []
  registers_gone nothing regs rs =
      flat_flat g (register_entry regs) rs
      ∙ none_of (λ r. flat_map g (register_entry regs r)) (λ r. cond_gone (eqb (slice_index regs r) 0) (entry.Register r (slice_index regs r)) (nothing r (slice_index regs r))) rs

  word_gone : (given memory : List ℕ) (i : ℕ) → g (entry.Stored (4 * i) (word_at memory (4 * i))) ≡ [] → flat_map g (word_entry given memory i) ≡ []
  word_gone given memory i nothing = cond_gone (eqb (word_at memory (4 * i)) (word_at given (4 * i))) (entry.Stored (4 * i) (word_at memory (4 * i))) nothing

  memory_gone : ((a x : ℕ) → g (entry.Stored a x) ≡ []) → (given : List ℕ) (o : Option Local) → flat_map g (memory_entries given o) ≡ []
  memory_gone nothing given (Some (Tile l)) =
      flat_flat g (word_entry given l.memory) (range_with_len 0 MEMORY_WORDS)
      ∙ none_of (λ i. flat_map g (word_entry given l.memory i)) (λ i. word_gone given l.memory i (nothing (4 * i) (word_at l.memory (4 * i)))) (range_with_len 0 MEMORY_WORDS)
  memory_gone nothing given _ = refl

-- a register that is told, and one that is not
one_register : (regs : List ℕ) (r : ℕ) → last_word 0 (flat_map (register_told r) (register_entry regs r)) ≡ slice_index regs r
one_register regs r = by_test (eqb (slice_index regs r) 0) refl
  where
    by_test : (b : Bool) → eqb (slice_index regs r) 0 ≡ b → last_word 0 (flat_map (register_told r) (cond b [] (entry.Register r (slice_index regs r) ∷ []))) ≡ slice_index regs r
    by_test true is = sym (eqb-true (slice_index regs r) 0 is)
    by_test false is = ap (λ b. last_word 0 (cond b (slice_index regs r ∷ []) [] ++ [])) (eq-eqb r r refl)

other_register : (regs : List ℕ) (r q : ℕ) → (q ≡ r → ⊥) → flat_map (register_told r) (register_entry regs q) ≡ []
other_register regs r q ne = cond_gone (register_told r) (eqb (slice_index regs q) 0) (entry.Register q (slice_index regs q)) (ap (λ b. cond b (slice_index regs q ∷ []) []) (ne_eqb q r ne))

all_registers : (regs : List ℕ) (r : ℕ) → last_word 0 (flat_map (register_told r) (flat_map (register_entry regs) (range_with_len 0 (length regs)))) ≡ slice_index regs r
all_registers regs r =
    let each = λ (q : ℕ). flat_map (register_told r) (register_entry regs q) in
    ap (last_word 0) (flat_flat (register_told r) (register_entry regs) (range_with_len 0 (length regs)))
    ∙ ⊎_elim
    (λ (within : r < length regs).
    ap (last_word 0) (only_one each r 0 (length regs) (omega arith) (omega (arith, within)) (λ q ne. other_register regs r q ne)) ∙ one_register regs r)
    (λ (past : length regs ≤ r).
    ap (last_word 0) (past_all 0 (length regs) (omega (arith, past))) ∙ sym (get_or_past regs r 0 past))
    (cases_lt r (length regs))
  where
    past_all : (a n : ℕ) → a + n ≤ r → flat_map (λ q. flat_map (register_told r) (register_entry regs q)) (range_with_len a n) ≡ []
    past_all a zero le = refl
    past_all a (suc n) le =
        ap (λ xs. xs ++ flat_map (λ q. flat_map (register_told r) (register_entry regs q)) (range_with_len (a + 1) n))
        (other_register regs r a (λ e. absurd (omega (arith, e, le))))
        ∙ past_all (a + 1) n (omega (arith, le))

-- a word of a memory, which is told where it is not the given one
one_word : (given memory : List ℕ) (i : ℕ) → last_word (word_at given (4 * i)) (flat_map (word_told (4 * i)) (word_entry given memory i)) ≡ word_at memory (4 * i)
one_word given memory i = by_test (eqb (word_at memory (4 * i)) (word_at given (4 * i))) refl
  where
    by_test : (b : Bool) → eqb (word_at memory (4 * i)) (word_at given (4 * i)) ≡ b
        → last_word (word_at given (4 * i)) (flat_map (word_told (4 * i)) (cond b [] (entry.Stored (4 * i) (word_at memory (4 * i)) ∷ []))) ≡ word_at memory (4 * i)
    by_test true is = sym (eqb-true (word_at memory (4 * i)) (word_at given (4 * i)) is)
    by_test false is = ap (λ b. last_word (word_at given (4 * i)) (cond b (word_at memory (4 * i) ∷ []) [] ++ [])) (eq-eqb (4 * i) (4 * i) refl)

all_words : (given memory : List ℕ) (i : ℕ) → i < MEMORY_WORDS
    → last_word (word_at given (4 * i)) (flat_map (word_told (4 * i)) (flat_map (word_entry given memory) (range_with_len 0 MEMORY_WORDS))) ≡ word_at memory (4 * i)
all_words given memory i within =
    ap (last_word (word_at given (4 * i)))
    (flat_flat (word_told (4 * i)) (word_entry given memory) (range_with_len 0 MEMORY_WORDS)
    ∙ only_one (λ j. flat_map (word_told (4 * i)) (word_entry given memory j)) i 0 MEMORY_WORDS (omega arith) (omega (arith, within))
    (λ j ne. word_gone (word_told (4 * i)) given memory j (ap (λ b. cond b (word_at memory (4 * j) ∷ []) []) (ne_eqb (4 * j) (4 * i) (λ e. ne (omega (arith, e)))))))
    ∙ one_word given memory i

-- the values on a wire
own_values : (w : ℕ) (xs : List ℕ) → flat_map (sent_told w) (map (entry.Sent w) xs) ≡ xs
own_values w [] = refl
own_values w (x ∷ xs) = ap (λ b. cond b (x ∷ []) [] ++ flat_map (sent_told w) (map (entry.Sent w) xs)) (eq-eqb w w refl) ∙ ap (λ ys. x ∷ ys) (own_values w xs)

module _ (set : ProgramSet) (s : MachineState) (p missed : ℕ) where
  abbrev local : Option Local
  local = slice_get s.locals p

  abbrev regs : List ℕ
  regs = regs_of local

  abbrev given : List ℕ
  given = memory_of (slice_get (start set).locals p)

  abbrev wires : List ℕ
  wires = range_with_len 0 (length (wires_of set.topo))

  abbrev registers : List ℕ
  registers = range_with_len 0 (length regs)

  parts : (g : Entry → List ℕ) → flat_map g (state_entries set s p missed)
      ≡ flat_map g (count_entries (count_in local))
      ++ (flat_map g (flat_map (held_entries set s p) wires)
      ++ (flat_map g (flat_map (register_entry regs) registers)
      ++ (flat_map g (memory_entries given local) ++ flat_map g (misses_entries missed))))
  unfolding state_entries
  parts g = five_parts g (count_entries (count_in local)) (flat_map (held_entries set s p) wires) (flat_map (register_entry regs) registers) (memory_entries given local) (misses_entries missed)

  pub state_register : (r : ℕ) → last_word 0 (flat_map (register_told r) (state_entries set s p missed)) ≡ slice_index regs r
  state_register r =
      ap (last_word 0)
      (parts (register_told r)
      ∙ third_left _ _ _ _ _
      (count_gone (register_told r) (λ n. refl) (count_in local)) (held_gone (register_told r) set s p (λ w x. refl) wires)
      (memory_gone (register_told r) (λ a x. refl) given local) (misses_gone (register_told r) (λ n. refl) missed))
      ∙ all_registers regs r

  words_left : (at : ℕ) → flat_map (word_told at) (state_entries set s p missed) ≡ flat_map (word_told at) (memory_entries given local)
  words_left at =
      parts (word_told at)
      ∙ fourth_left _ _ _ _ _
      (count_gone (word_told at) (λ n. refl) (count_in local)) (held_gone (word_told at) set s p (λ w x. refl) wires)
      (registers_gone (word_told at) (λ r x. refl) regs registers) (misses_gone (word_told at) (λ n. refl) missed)

  -- the memory of a tile; nothing else has one, at the start or later
  pub state_word : (i : ℕ) → i < MEMORY_WORDS → (((l : TileLocal) → local ≡ Some (Tile l) → ⊥) → given ≡ [])
      → last_word (word_at given (4 * i)) (flat_map (word_told (4 * i)) (state_entries set s p missed)) ≡ word_at (memory_of local) (4 * i)
  state_word i within bare =
      ap (last_word (word_at given (4 * i))) (words_left (4 * i)) ∙ by_local local bare
    where
      by_local : (o : Option Local) → (((l : TileLocal) → o ≡ Some (Tile l) → ⊥) → given ≡ [])
          → last_word (word_at given (4 * i)) (flat_map (word_told (4 * i)) (memory_entries given o)) ≡ word_at (memory_of o) (4 * i)
      by_local None bare = ap (λ m. word_at m (4 * i)) (bare (λ l e. cc e))
      by_local (Some (Tile l)) bare = all_words given l.memory i within
      by_local (Some (Switch l)) bare = ap (λ m. word_at m (4 * i)) (bare (λ l e. cc e))
      by_local (Some (Source l)) bare = ap (λ m. word_at m (4 * i)) (bare (λ l e. cc e))
      by_local (Some (Sink l)) bare = ap (λ m. word_at m (4 * i)) (bare (λ l e. cc e))

  pub state_sent : (w : ℕ) → w < length (wires_of set.topo)
      → flat_map (sent_told w) (state_entries set s p missed) ≡ cond (eqb (producer_of set.topo w) p) (values_on s.wires w) []
  state_sent w within =
      parts (sent_told w)
      ∙ second_left _ _ _ _ _
      (count_gone (sent_told w) (λ n. refl) (count_in local)) (registers_gone (sent_told w) (λ r x. refl) regs registers)
      (memory_gone (sent_told w) (λ a x. refl) given local) (misses_gone (sent_told w) (λ n. refl) missed)
      ∙ flat_flat (sent_told w) (held_entries set s p) wires
      ∙ only_one (λ v. flat_map (sent_told w) (held_entries set s p v)) w 0 (length (wires_of set.topo)) (omega arith) (omega (arith, within))
      (λ v ne. wire_gone (sent_told w) set s p v (λ x. ap (λ b. cond b (x ∷ []) []) (ne_eqb v w ne)))
      ∙ by_test (eqb (producer_of set.topo w) p)
    where
      by_test : (b : Bool) → flat_map (sent_told w) (cond b (map (entry.Sent w) (values_on s.wires w)) []) ≡ cond b (values_on s.wires w) []
      by_test true = own_values w (values_on s.wires w)
      by_test false = refl

  pub state_taken : (w : ℕ) → flat_map (taken_told w) (state_entries set s p missed) ≡ []
  state_taken w =
      parts (taken_told w)
      ∙ first_left _ _ _ _ _
      (held_gone (taken_told w) set s p (λ v x. refl) wires) (registers_gone (taken_told w) (λ r x. refl) regs registers)
      (memory_gone (taken_told w) (λ a x. refl) given local) (misses_gone (taken_told w) (λ n. refl) missed)
      ∙ count_gone (taken_told w) (λ n. refl) (count_in local)

  pub state_count : sum (flat_map count_told (state_entries set s p missed)) ≡ count_in local
  state_count =
      ap sum
      (parts count_told
      ∙ first_left _ _ _ _ _
      (held_gone count_told set s p (λ v x. refl) wires) (registers_gone count_told (λ r x. refl) regs registers)
      (memory_gone count_told (λ a x. refl) given local) (misses_gone count_told (λ n. refl) missed))
      ∙ one_count (count_in local) (eqb (count_in local) 0) refl
    where
      one_count : (n : ℕ) (b : Bool) → eqb n 0 ≡ b → sum (flat_map count_told (cond b [] (entry.Count n ∷ []))) ≡ n
      one_count n true is = sym (eqb-true n 0 is)
      one_count n false is = omega arith

  pub state_misses : sum (flat_map misses_told (state_entries set s p missed)) ≡ missed
  state_misses =
      ap sum
      (parts misses_told
      ∙ fifth_left _ _ _ _ _
      (count_gone misses_told (λ n. refl) (count_in local)) (held_gone misses_told set s p (λ v x. refl) wires)
      (registers_gone misses_told (λ r x. refl) regs registers) (memory_gone misses_told (λ a x. refl) given local))
      ∙ one_count missed (eqb missed 0) refl
    where
      one_count : (n : ℕ) (b : Bool) → eqb n 0 ≡ b → sum (flat_map misses_told (cond b [] (entry.Misses n ∷ []))) ≡ n
      one_count n true is = sym (eqb-true n 0 is)
      one_count n false is = omega arith

  -- nothing is told only of a processor that has taken no steps
  pub state_none : state_entries set s p missed ≡ [] → count_in local ≡ 0
  unfolding state_entries
  state_none none = by_test _ (count_in local) (eqb (count_in local) 0) refl none
    where
      by_test : (rest : List Entry) (n : ℕ) (b : Bool) → eqb n 0 ≡ b → cond b [] (entry.Count n ∷ []) ++ rest ≡ [] → n ≡ 0
      by_test rest n true is e = eqb-true n 0 is
      by_test rest n false is e = absurd (cc e)

-- the line that tells them
pub standing_entries : (p pc : ℕ) (es : List Entry) → flat_map entries_in (standing p pc es) ≡ es
standing_entries p pc [] = refl
standing_entries p pc (e ∷ es) = append-nil (e ∷ es)

pub standing_firing : (p pc : ℕ) (es : List Entry) → filter is_firing (standing p pc es) ≡ []
standing_firing p pc [] = refl
standing_firing p pc (e ∷ es) = refl

pub standing_pc : (p pc : ℕ) (es : List Entry) → (es ≡ [] → pc ≡ 0) → last_word 0 (flat_map pc_told (standing p pc es)) ≡ pc
standing_pc p pc [] none = sym (none refl)
standing_pc p pc (e ∷ es) none = refl
