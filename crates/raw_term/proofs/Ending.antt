-- A state of the machine with terms that stands for one of the machine has its outcome, and at the places of a claim the terms of the words
-- there.
use Rattle.std.proofs.Common.{◌≡◌, ℕ, suc, ◌+◌, Bool, true, false, not, ◌&&◌, ◌<◌, cond, List, [], ◌∷◌, ◌++◌, length, Option, Some, None, refl, ap, ◌∙◌}
use Rattle.std.specs.Prelude.{slice_get, slice_index, map, ◌==◌, nat_lt, nat_le}
use Rattle.std.proofs.lemmas.Bool.{ltb-true}
use Rattle.std.specs.List.{find, flat_map, position, prefix_len}
use Rattle.std.specs.Option.{option_map, option_or}
use Rattle.std.proofs.Math.Path.{fun_ext}
use Rattle.raw_network.specs.Network.{values_on, count_of}
use Rattle.raw_network.specs.Waits.{wait_of, first_unmet, lacks_values, lacks_room, either_first}
use Rattle.raw_tile_isa.specs.Words.{EachGivesWords}
use Rattle.raw_grid.specs.Topology.{proc_count}
use Rattle.raw_cycle.specs.Cycles.{the_cycle as cycle_of_waits}
use Rattle.raw_model.specs.Program.{ProgramSet, PortProgram}
use Rattle.raw_model.specs.declared.limits.TheConstants.{MEMORY_WORDS}
use Rattle.raw_model.specs.Local.{Local}
use Rattle.raw_model.specs.Machine.{machine_of, takes, sends, is_stopped, is_ended, tile_code, port_program, capacity_of}
use Rattle.raw_model.specs.Start.{MachineState}
use Rattle.raw_model.specs.Rest.{is_trap, is_trapped, is_at_limit}
use Rattle.raw_model.specs.Outcomes.{outcome, first_of, is_halted_mark, is_unhalted}
use Rattle.raw_model.specs.Waits.{waits_for, other_end, inputs_at, outputs_at}
use Rattle.raw_model.specs.Parts.{got_by, got_of, memory_of, received}
use Rattle.raw_term.specs.declared.place.Place.{Place}
use Rattle.raw_term.specs.declared.place.Place.TheVariants.{Received, Memory}
use Rattle.raw_term.specs.Seen.{claimed_of, miscount_of, miscount_from, miscount, word_seen, word_of_bytes, seen, terms_seen}
use Rattle.raw_term.specs.TermMachine.{TermState}
use Rattle.raw_term.proofs.Terms.{Holds, term_values}
use Rattle.raw_term.proofs.Image.{Pairs, AlikeLocals, AlikeAt, local_at, wire_at, pairs_length}
use Rattle.raw_term.proofs.SwitchImage.{pairs_at}
use Rattle.raw_term.proofs.TileTerms.{none_holds}
use Rattle.raw_term.proofs.Rows.{AlikeLocal, each_kind, IsLawfulIns}
use Rattle.raw_term.proofs.Steps.{TermsStand, takes_same, sends_same, stopped_same}

-- the first places at which tests pass that agree
module _ {L M : Type 0} (R : L → M → Type 0) (f : L → Bool) (g : M → Bool) (same : (l : L) (m : M) → R l m → f l ≡ g m) where
  prefix_same : (ls : List L) (ms : List M) → AlikeLocals R ls ms → prefix_len (λ x. not (f x)) ls ≡ prefix_len (λ x. not (g x)) ms
  prefix_same [] [] h = refl
  prefix_same [] (m ∷ ms) h = absurd h
  prefix_same (l ∷ ls) [] h = absurd h
  prefix_same (l ∷ ls) (m ∷ ms) h = ap (λ b. cond (not b) (1 + prefix_len (λ x. not (f x)) ls) 0) (same l m h.0) ∙ ap (λ n. cond (not (g m)) (1 + n) 0) (prefix_same ls ms h.1)

  many_same : (ls : List L) (ms : List M) → AlikeLocals R ls ms → length ls ≡ length ms
  many_same [] [] h = refl
  many_same [] (m ∷ ms) h = absurd h
  many_same (l ∷ ls) [] h = absurd h
  many_same (l ∷ ls) (m ∷ ms) h = ap suc (many_same ls ms h.1)

  position_same : (ls : List L) (ms : List M) → AlikeLocals R ls ms → position f ls ≡ position g ms
  position_same ls ms h =
      ap (λ n. cond (nat_lt n (length ls)) (Some n) None) (prefix_same ls ms h) ∙ ap (λ n. cond (nat_lt (prefix_len (λ x. not (g x)) ms) n) (Some (prefix_len (λ x. not (g x)) ms)) None) (many_same ls ms h)

find_same : (f g : ℕ → Bool) → ((w : ℕ) → f w ≡ g w) → (us : List ℕ) → find f us ≡ find g us
find_same f g same [] = refl
find_same f g same (u ∷ us) = ap (λ b. cond b (Some u) (find f us)) (same u) ∙ ap (λ o. cond (g u) (Some u) o) (find_same f g same us)

-- tests of marks
trapped_same : (values : List ℕ) (l m : Local) → AlikeLocal values l m → is_trapped l ≡ is_trapped m
trapped_same values =
    each_kind values (λ l m. is_trapped l ≡ is_trapped m) (λ l m h. ap (λ k. is_trap k.mark) h.rest) (λ l m h. ap (λ k. is_trap k.mark) h.0) (λ l m h. refl) (λ l m h. refl)

unhalted_same : (values : List ℕ) (l m : Local) → AlikeLocal values l m → is_unhalted l ≡ is_unhalted m
unhalted_same values =
    each_kind values (λ l m. is_unhalted l ≡ is_unhalted m) (λ l m h. ap (λ k. not (is_halted_mark k.mark)) h.rest) (λ l m h. ap (λ k. not (is_halted_mark k.mark)) h.0) (λ l m h. refl) (λ l m h. refl)

pairs_append : (H : ℕ → ℕ → Type 0) (xs ys us vs : List ℕ) → Pairs H xs ys → Pairs H us vs → Pairs H (xs ++ us) (ys ++ vs)
pairs_append H [] [] us vs h g = g
pairs_append H [] (y ∷ ys) us vs h g = absurd h
pairs_append H (x ∷ xs) [] us vs h g = absurd h
pairs_append H (x ∷ xs) (y ∷ ys) us vs h g = (h.0, pairs_append H xs ys us vs h.1 g)

got_stands : (values : List ℕ) (l m : Local) → AlikeLocal values l m → Pairs (Holds values) (got_by l) (got_by m)
got_stands values = each_kind values (λ l m. Pairs (Holds values) (got_by l) (got_by m)) (λ l m h. tt) (λ l m h. tt) (λ l m h. tt) (λ l m h. h.1)

all_got : (values : List ℕ) (ls ms : List Local) → AlikeLocals (AlikeLocal values) ls ms → Pairs (Holds values) (flat_map got_by ls) (flat_map got_by ms)
all_got values [] [] h = tt
all_got values [] (m ∷ ms) h = absurd h
all_got values (l ∷ ls) [] h = absurd h
all_got values (l ∷ ls) (m ∷ ms) h = pairs_append (Holds values) (got_by l) (got_by m) (flat_map got_by ls) (flat_map got_by ms) (got_stands values l m h.0) (all_got values ls ms h.1)

-- ---- the places of a claim

-- sinks have as many terms as words
miscount_alike : (values : List ℕ) (claimed : ℕ) (l m : Local) → AlikeLocal values l m → miscount_of l claimed ≡ miscount_of m claimed
miscount_alike values claimed =
    each_kind values (λ l m. miscount_of l claimed ≡ miscount_of m claimed) (λ l m h. refl) (λ l m h. refl) (λ l m h. refl)
    (λ l m h. ap (λ n. cond (n == claimed) None (Some (n, claimed))) (pairs_length (Holds values) l.got m.got h.1))

counts_alike : (values : List ℕ) (places : List Place) (p : ℕ) (ls ms : List Local) → AlikeLocals (AlikeLocal values) ls ms → miscount_from places p ls ≡ miscount_from places p ms
counts_alike values places p [] [] h = refl
counts_alike values places p [] (m ∷ ms) h = absurd h
counts_alike values places p (l ∷ ls) [] h = absurd h
counts_alike values places p (l ∷ ls) (m ∷ ms) h =
    ap (λ o. option_or o (miscount_from places (p + 1) ls)) (miscount_alike values (claimed_of places p) l m h.0)
    ∙ ap (λ o. option_or (miscount_of m (claimed_of places p)) o) (counts_alike values places (p + 1) ls ms h.1)

either_alike : (H : ℕ → ℕ → Type 0) (b : Bool) (xs ys us vs : List ℕ) → Pairs H xs ys → Pairs H us vs → Pairs H (cond b xs us) (cond b ys vs)
either_alike H true xs ys us vs h g = h
either_alike H false xs ys us vs h g = g

-- at each place is the term of the word there
module _ (values : List ℕ) (none : Holds values 0 0) where
  got_alike : (number : ℕ) (l m : Local) → AlikeLocal values l m → Holds values (slice_index (got_of (Some l)) number) (slice_index (got_of (Some m)) number)
  got_alike number =
      each_kind values (λ l m. Holds values (slice_index (got_of (Some l)) number) (slice_index (got_of (Some m)) number)) (λ l m h. none) (λ l m h. none) (λ l m h. none)
      (λ l m h. pairs_at (Holds values) none l.got m.got h.1 number)

  got_at : (number : ℕ) (o q : Option Local) → AlikeAt (AlikeLocal values) o q → Holds values (slice_index (got_of o) number) (slice_index (got_of q) number)
  got_at number None None h = none
  got_at number None (Some m) h = absurd h
  got_at number (Some l) None h = absurd h
  got_at number (Some l) (Some m) h = got_alike number l m h

  memory_alike : (number : ℕ) → number < MEMORY_WORDS → (l m : Local) → AlikeLocal values l m → Holds values (slice_index (memory_of (Some l)) number) (word_of_bytes (memory_of (Some m)) number)
  memory_alike number lt =
      each_kind values (λ l m. Holds values (slice_index (memory_of (Some l)) number) (word_of_bytes (memory_of (Some m)) number)) (λ l m h. h.core.words number lt) (λ l m h. none) (λ l m h. none)
      (λ l m h. none)

  memory_at : (number : ℕ) → number < MEMORY_WORDS → (o q : Option Local) → AlikeAt (AlikeLocal values) o q → Holds values (slice_index (memory_of o) number) (word_of_bytes (memory_of q) number)
  memory_at number lt None None h = none
  memory_at number lt None (Some m) h = absurd h
  memory_at number lt (Some l) None h = absurd h
  memory_at number lt (Some l) (Some m) h = memory_alike number lt l m h

  within : (number x y : ℕ) (b : Bool) → nat_lt number MEMORY_WORDS ≡ b → (number < MEMORY_WORDS → Holds values x y) → Holds values (cond b x 0) (cond b y 0)
  within number x y true e h = h (ltb-true number MEMORY_WORDS e)
  within number x y false e h = none

  place_alike : (ls ms : List Local) → AlikeLocals (AlikeLocal values) ls ms → (place : Place) → Holds values (word_seen slice_index ls place) (word_seen word_of_bytes ms place)
  place_alike ls ms h (Received sink number) = got_at number (slice_get ls sink.0) (slice_get ms sink.0) (local_at (AlikeLocal values) ls ms h sink.0)
  place_alike ls ms h (Memory tile number) =
      within number (slice_index (memory_of (slice_get ls tile.0)) number) (word_of_bytes (memory_of (slice_get ms tile.0)) number) (nat_lt number MEMORY_WORDS) refl
      (λ lt. memory_at number lt (slice_get ls tile.0) (slice_get ms tile.0) (local_at (AlikeLocal values) ls ms h tile.0))

  places_alike : (ls ms : List Local) → AlikeLocals (AlikeLocal values) ls ms → (places : List Place) → Pairs (Holds values) (map (word_seen slice_index ls) places) (map (word_seen word_of_bytes ms) places)
  places_alike ls ms h [] = tt
  places_alike ls ms h (place ∷ places) = (place_alike ls ms h place, places_alike ls ms h places)

module _ (each : EachGivesWords) (inputs : List ℕ) (set_ : ProgramSet) (nums words : List PortProgram) (lawful : (p : ℕ) (i : ℕ) → IsLawfulIns (slice_get (tile_code set_ p) i))
    (room : (p : ℕ) → capacity_of (port_program (record set_ { ports = nums }) p) ≡ capacity_of (port_program (record set_ { ports = words }) p))
    (s : TermState) (t : MachineState) (h : TermsStand each inputs set_ nums words lawful room s t) where
  abbrev numbers : ProgramSet
  numbers = record set_ { ports = nums }

  abbrev machine : ProgramSet
  machine = record set_ { ports = words }

  abbrev V : List ℕ
  V = term_values inputs s.nodes

  pub miscount_stands : (places : List Place) → miscount places s.state.locals ≡ miscount places t.locals
  miscount_stands places = ap (λ o. cond (length places == 0) None o) (counts_alike V places 0 s.state.locals t.locals h.alike.locals)

  pub seen_stands : (places : List Place) → Pairs (Holds V) (terms_seen places s.state) (seen places t)
  seen_stands places =
      either_alike (Holds V) (length places == 0) (received s.state) (received t) (map (word_seen slice_index s.state.locals) places) (map (word_seen word_of_bytes t.locals) places)
      (all_got V s.state.locals t.locals h.alike.locals) (places_alike V (none_holds inputs s.nodes h.terms) s.state.locals t.locals h.alike.locals places)

  limit_same : (l m : Local) → AlikeLocal V l m → is_at_limit numbers l ≡ is_at_limit machine m
  limit_same =
      each_kind V (λ l m. is_at_limit numbers l ≡ is_at_limit machine m)
      (λ l m g. ap (λ k. not (is_ended k.mark) && (k.count == set_.limit)) g.rest)
      (λ l m g. ap (λ k. not (is_ended k.mark) && (k.count == set_.limit)) g.0)
      (λ l m g. refl)
      (λ l m g. refl)

  many_on : (w : ℕ) → length (values_on s.state.wires w) ≡ length (values_on t.wires w)
  many_on w = pairs_length (Holds V) (values_on s.state.wires w) (values_on t.wires w) (wire_at (Holds V) s.state.wires t.wires h.alike.wires w)

  unmet_same : (inputs_ outputs from to : List ℕ) → first_unmet set_.depth inputs_ outputs from to s.state.wires ≡ first_unmet set_.depth inputs_ outputs from to t.wires
  unmet_same inputs_ outputs from to =
      ap (λ o. either_first o (find (lacks_room set_.depth to s.state.wires) outputs))
      (find_same (lacks_values from s.state.wires) (lacks_values from t.wires) (λ w. ap (λ n. nat_lt n (count_of w from)) (many_on w)) inputs_)
      ∙ ap (λ o. either_first (find (lacks_values from t.wires) inputs_) o)
      (find_same (lacks_room set_.depth to s.state.wires) (lacks_room set_.depth to t.wires) (λ w. ap (λ n. nat_lt 0 (count_of w to) && nat_le set_.depth n) (many_on w)) outputs)

  wait_same : (p : ℕ) (o q : Option Local) → AlikeAt (AlikeLocal V) o q
      → wait_of (machine_of numbers) (inputs_at set_.topo) (outputs_at set_.topo) s.state.wires p o ≡ wait_of (machine_of machine) (inputs_at set_.topo) (outputs_at set_.topo) t.wires p q
  unfolding machine_of
  wait_same p None None g = refl
  wait_same p None (Some m) g = absurd g
  wait_same p (Some l) None g = absurd g
  wait_same p (Some l) (Some m) g =
      let ins : List ℕ = inputs_at set_.topo p in
      let outs : List ℕ = outputs_at set_.topo p in
      ap (λ b. cond b None (first_unmet set_.depth ins outs (takes numbers p l) (sends numbers p l) s.state.wires)) (stopped_same each inputs set_ nums words lawful room V h.fed p l m g)
      ∙ ap (λ o. cond (is_stopped machine p m) None o)
      (ap (λ us. first_unmet set_.depth ins outs us (sends numbers p l) s.state.wires) (takes_same each inputs set_ nums words lawful room V h.fed p l m g)
      ∙ ap (λ us. first_unmet set_.depth ins outs (takes machine p m) us s.state.wires) (sends_same each inputs set_ nums words lawful room V h.fed p l m g)
      ∙ unmet_same ins outs (takes machine p m) (sends machine p m))

  pub waits_same : waits_for numbers s.state ≡ waits_for machine t
  waits_same = fun_ext (λ p. ap (λ o. option_map (other_end set_.topo p) o) (wait_same p (slice_get s.state.locals p) (slice_get t.locals p) (local_at (AlikeLocal V) s.state.locals t.locals h.alike.locals p)))

  pub outcome_stands : outcome numbers s.state ≡ outcome machine t
  unfolding outcome
  outcome_stands =
      let ls : List Local = s.state.locals in
      let ms : List Local = t.locals in
      ap (λ f. first_of (cycle_of_waits f (proc_count set_.topo)) (position is_trapped ls) (position (is_at_limit numbers) ls) (position is_unhalted ls)) waits_same
      ∙ ap (λ o. first_of (cycle_of_waits (waits_for machine t) (proc_count set_.topo)) o (position (is_at_limit numbers) ls) (position is_unhalted ls))
      (position_same (AlikeLocal V) is_trapped is_trapped (trapped_same V) ls ms h.alike.locals)
      ∙ ap (λ o. first_of (cycle_of_waits (waits_for machine t) (proc_count set_.topo)) (position is_trapped ms) o (position is_unhalted ls))
      (position_same (AlikeLocal V) (is_at_limit numbers) (is_at_limit machine) limit_same ls ms h.alike.locals)
      ∙ ap (λ o. first_of (cycle_of_waits (waits_for machine t) (proc_count set_.topo)) (position is_trapped ms) (position (is_at_limit machine) ms) o)
      (position_same (AlikeLocal V) is_unhalted is_unhalted (unhalted_same V) ls ms h.alike.locals)
