-- Where the lines of a trace stand: those before a cycle, those of a cycle, and those of a processor.
use Rattle.std.proofs.Common.{◌≡◌, ℕ, zero, suc, ◌+◌, ◌-◌, ◌<◌, ◌≤◌, Bool, true, false, cond, eqb, List, [], ◌∷◌, ◌++◌, refl, sym, ap, ◌∙◌, ⊎_elim, arith}
use Rattle.std.specs.Prelude.{Option}
use Rattle.std.specs.List.{filter, flat_map, range_with_len, AllByRecursion}
use Rattle.std.proofs.lemmas.Bool.{cases_eq, eq-eqb, ne_eqb, false≢true}
use Rattle.std.proofs.lemmas.List.Elements.{filter-append}
use Rattle.raw_grid.specs.Topology.{proc_count}
use Rattle.raw_model.specs.Program.{ProgramSet}
use Rattle.raw_serial.specs.declared.turn.Turn.{Turn}
use Rattle.raw_serial.specs.declared.turn.Turn.TheVariants.{Fired}
use Rattle.raw_clock.specs.Clock.{ClockState, clock, turn_in}
use Rattle.raw_trace.specs.declared.entry.Entry.{Entry}
use Rattle.raw_trace.specs.Lines.{Line, Begins, Cycle, standing, state_line, turn_line, is_told, turn_before, told_line, turn_lines, cycle_lines, positions, trace_lines}
use Rattle.raw_trace.specs.Reading.{is_heading, heads, lines_before, up_to_next, lines_in, tells_of, lines_of}
use Rattle.raw_trace.specs.Laws.{IsPosition}
use Rattle.raw_trace.proofs.Lists.{filter_flat, only_one}

-- no line of these heads a cycle
abbrev pub AreWithin : List Line → Type 0
AreWithin lines = AllByRecursion (λ line. is_heading line ≡ false) lines

within_append : (xs ys : List Line) → AreWithin xs → AreWithin ys → AreWithin (xs ++ ys)
within_append [] ys front back = back
within_append (x ∷ xs) ys front back = (front.0, within_append xs ys front.1 back)

within_each : (f : ℕ → List Line) → ((q : ℕ) → AreWithin (f q)) → (qs : List ℕ) → AreWithin (flat_map f qs)
within_each f each [] = tt
within_each f each (q ∷ qs) = within_append (f q) (flat_map f qs) (each q) (within_each f each qs)

within_cond : (b : Bool) (line : Line) → is_heading line ≡ false → AreWithin (cond b (line ∷ []) [])
within_cond true line is = (is, tt)
within_cond false line is = tt

heads_none : (k : ℕ) (line : Line) → is_heading line ≡ false → heads k line ≡ false
heads_none k (Cycle j) is = absurd (false≢true (sym is))
heads_none k _ is = refl

-- lines that head no cycle are passed over
before_past : (k : ℕ) (xs ys : List Line) → AreWithin xs → lines_before k (xs ++ ys) ≡ xs ++ lines_before k ys
before_past k [] ys are = refl
before_past k (x ∷ xs) ys are =
    ap (λ b. cond b [] (x ∷ lines_before k (xs ++ ys))) (heads_none k x are.0) ∙ ap (λ zs. x ∷ zs) (before_past k xs ys are.1)

in_past : (k : ℕ) (xs ys : List Line) → AreWithin xs → lines_in k (xs ++ ys) ≡ lines_in k ys
in_past k [] ys are = refl
in_past k (x ∷ xs) ys are =
    ap (λ b. cond b (up_to_next (xs ++ ys)) (lines_in k (xs ++ ys))) (heads_none k x are.0) ∙ in_past k xs ys are.1

up_past : (xs ys : List Line) → AreWithin xs → up_to_next (xs ++ ys) ≡ xs ++ up_to_next ys
up_past [] ys are = refl
up_past (x ∷ xs) ys are = ap (λ b. cond b [] (x ∷ up_to_next (xs ++ ys))) are.0 ∙ ap (λ zs. x ∷ zs) (up_past xs ys are.1)

-- a line that is chosen by one test and told by another
filter_cond : (t : Line → Bool) (b c : Bool) (line : Line) → t line ≡ c → filter t (cond b (line ∷ []) []) ≡ cond c (cond b (line ∷ []) []) []
filter_cond t true c line is = ap (λ d. cond d (line ∷ []) []) is
filter_cond t false true line is = refl
filter_cond t false false line is = refl

standing_within : (p pc : ℕ) (es : List Entry) → AreWithin (standing p pc es)
standing_within p pc [] = tt
standing_within p pc (e ∷ es) = (refl, tt)

standing_of : (p q pc : ℕ) (es : List Entry) → filter (tells_of p) (standing q pc es) ≡ cond (eqb q p) (standing q pc es) []
standing_of p q pc [] = by_test (eqb q p) []
  where
    by_test : (b : Bool) (lines : List Line) → lines ≡ cond b lines lines
    by_test true lines = refl
    by_test false lines = refl
standing_of p q pc (e ∷ es) = refl

module _ (set : ProgramSet) (c : ClockState) (p q : ℕ) where
  turn_within : (turn : Turn) → is_heading (turn_line set c q turn) ≡ false
  turn_within Fired = refl
  turn_within _ = refl

  turn_of_one : (turn : Turn) → tells_of p (turn_line set c q turn) ≡ eqb q p
  turn_of_one Fired = refl
  turn_of_one _ = refl

  pub told_within : (turn : Turn) (before : Option Turn) → AreWithin (told_line set c q turn before)
  told_within turn before = within_cond (is_told turn before) (turn_line set c q turn) (turn_within turn)

  pub told_of : (turn : Turn) (before : Option Turn) → lines_of p (told_line set c q turn before) ≡ cond (eqb q p) (told_line set c q turn before) []
  told_of turn before = filter_cond (tells_of p) (is_told turn before) (eqb q p) (turn_line set c q turn) (turn_of_one turn)

-- what one processor has of lines that are told of each
own_lines : (f : ℕ → List Line) (p n : ℕ) → p < n → ((q : ℕ) → lines_of p (f q) ≡ cond (eqb q p) (f q) []) → lines_of p (flat_map f (range_with_len 0 n)) ≡ f p
own_lines f p n below each =
    filter_flat (tells_of p) f (range_with_len 0 n)
    ∙ only_one (λ q. lines_of p (f q)) p 0 n (omega arith) (omega (arith, below)) (λ q ne. each q ∙ ap (λ b. cond b (f q) []) (ne_eqb q p ne))
    ∙ each p
    ∙ ap (λ b. cond b (f p) []) (eq-eqb p p refl)

module _ (set : ProgramSet) (first : ℕ) where
  abbrev pub procs : ℕ
  procs = proc_count set.topo

  abbrev pub all_states : List Line
  all_states = flat_map (state_line set (clock set first)) (range_with_len 0 procs)

  abbrev pub all_turns : ℕ → List Line
  all_turns k = flat_map (turn_lines set first k) (range_with_len 0 procs)

  turns_within : (k : ℕ) → AreWithin (all_turns k)
  turns_within k = within_each (turn_lines set first k) (λ q. told_within set (clock set k) q q (turn_in set (clock set k) q) (turn_before set first k q)) (range_with_len 0 procs)

  states_within : AreWithin all_states
  states_within = within_each (state_line set (clock set first)) (λ q. standing_within q _ _) (range_with_len 0 procs)

  before_cycles : (k a n : ℕ) → a ≤ k → k < a + n
      → lines_before k (flat_map (cycle_lines set first) (range_with_len a n)) ≡ flat_map (cycle_lines set first) (range_with_len a (k - a))
  before_cycles k a zero low high = absurd (omega (arith, low, high))
  before_cycles k a (suc n) low high =
      let later = flat_map (cycle_lines set first) (range_with_len (a + 1) n) in
      ⊎_elim
      (λ (here : a ≡ k).
      let none : k - a ≡ 0 = omega (arith, here) in
      ap (λ b. cond b [] (Cycle a ∷ lines_before k (all_turns a ++ later))) (eq-eqb a k here)
      ∙ sym (ap (λ m. flat_map (cycle_lines set first) (range_with_len a m)) none))
      (λ (ne : a ≡ k → ⊥).
      let more : k - a ≡ suc (k - (a + 1)) = omega (arith, low, ne) in
      ap (λ b. cond b [] (Cycle a ∷ lines_before k (all_turns a ++ later))) (ne_eqb a k ne)
      ∙ ap (λ zs. Cycle a ∷ zs)
      (before_past k (all_turns a) later (turns_within a)
      ∙ ap (λ zs. all_turns a ++ zs) (before_cycles k (a + 1) n (omega (arith, low, ne)) (omega (arith, high))))
      ∙ sym (ap (λ m. flat_map (cycle_lines set first) (range_with_len a m)) more))
      (cases_eq a k)

  next_heads : (a n : ℕ) → up_to_next (flat_map (cycle_lines set first) (range_with_len a n)) ≡ []
  next_heads a zero = refl
  next_heads a (suc n) = refl

  in_cycles : (k a n : ℕ) → a ≤ k → k < a + n → lines_in k (flat_map (cycle_lines set first) (range_with_len a n)) ≡ all_turns k
  in_cycles k a zero low high = absurd (omega (arith, low, high))
  in_cycles k a (suc n) low high =
      let later = flat_map (cycle_lines set first) (range_with_len (a + 1) n) in
      ⊎_elim
      (λ (here : a ≡ k).
      ap (λ b. cond b (up_to_next (all_turns a ++ later)) (lines_in k (all_turns a ++ later))) (eq-eqb a k here)
      ∙ up_past (all_turns a) later (turns_within a)
      ∙ ap (λ zs. all_turns a ++ zs) (next_heads (a + 1) n)
      ∙ append-none (all_turns a)
      ∙ ap all_turns here)
      (λ (ne : a ≡ k → ⊥).
      ap (λ b. cond b (up_to_next (all_turns a ++ later)) (lines_in k (all_turns a ++ later))) (ne_eqb a k ne)
      ∙ in_past k (all_turns a) later (turns_within a)
      ∙ in_cycles k (a + 1) n (omega (arith, low, ne)) (omega (arith, high)))
      (cases_eq a k)
    where
      append-none : (xs : List Line) → xs ++ [] ≡ xs
      append-none [] = refl
      append-none (x ∷ xs) = ap (λ zs. x ∷ zs) (append-none xs)

  -- the lines of processor p: that of the state, and those of its turns in so many cycles
  abbrev pub history : ℕ → ℕ → List Line
  history p m = state_line set (clock set first) p ++ flat_map (λ j. turn_lines set first j p) (range_with_len first m)

  -- all lines
  abbrev pub all_before : ℕ → List Line
  all_before m = Begins first ∷ (all_states ++ flat_map (cycle_lines set first) (range_with_len first m))

  own_states : (p : ℕ) → p < procs → lines_of p all_states ≡ state_line set (clock set first) p
  own_states p below = own_lines (state_line set (clock set first)) p procs below (λ q. standing_of p q _ _)

  pub own_turns : (p k : ℕ) → p < procs → lines_of p (all_turns k) ≡ turn_lines set first k p
  own_turns p k below =
      own_lines (turn_lines set first k) p procs below
      (λ q. told_of set (clock set k) p q (turn_in set (clock set k) q) (turn_before set first k q))

  own_cycles : (p : ℕ) → p < procs → (ks : List ℕ) → lines_of p (flat_map (cycle_lines set first) ks) ≡ flat_map (λ j. turn_lines set first j p) ks
  own_cycles p below [] = refl
  own_cycles p below (k ∷ ks) =
      filter-append (tells_of p) (all_turns k) (flat_map (cycle_lines set first) ks)
      ∙ ap (λ zs. zs ++ lines_of p (flat_map (cycle_lines set first) ks)) (own_turns p k below)
      ∙ ap (λ zs. turn_lines set first k p ++ zs) (own_cycles p below ks)

  pub history_is : (p m : ℕ) → p < procs → lines_of p (all_before m) ≡ history p m
  history_is p m below =
      filter-append (tells_of p) all_states (flat_map (cycle_lines set first) (range_with_len first m))
      ∙ ap (λ zs. zs ++ lines_of p (flat_map (cycle_lines set first) (range_with_len first m))) (own_states p below)
      ∙ ap (λ zs. state_line set (clock set first) p ++ zs) (own_cycles p below (range_with_len first m))

  module _ (n past k : ℕ) (is : IsPosition n first past k) where
    pub before_is : lines_before k (trace_lines set n first past) ≡ all_before (k - first)
    unfolding trace_lines
    before_is =
        ap (λ zs. Begins first ∷ zs)
        (before_past k all_states (flat_map (cycle_lines set first) (range_with_len first (positions n first past))) states_within
        ∙ ap (λ zs. all_states ++ zs) (before_cycles k first (positions n first past) is.later is.within))

    pub in_is : lines_in k (trace_lines set n first past) ≡ all_turns k
    unfolding trace_lines
    in_is =
        in_past k all_states (flat_map (cycle_lines set first) (range_with_len first (positions n first past))) states_within
        ∙ in_cycles k first (positions n first past) is.later is.within
