-- The compiled set of a stream is a set for it, and meets it.
use Rattle.std.proofs.Common.{◌≡◌, ℕ, zero, suc, ◌+◌, ◌-◌, ◌*◌, ◌<◌, ◌≤◌, List, [], ◌∷◌, ◌++◌, length, map, take, drop, refl, sym, ap, ◌∙◌, subst, ⊎_elim, arith}
use Rattle.std.specs.List.{flat_map, range_with_len}
use Rattle.std.proofs.Math.Nat.{suc-mul}
use Rattle.std.proofs.lemmas.Bool.{cases_lt}
use Rattle.std.proofs.lemmas.List.{length-append, length-map, take-append-drop}
use Rattle.raw_grid.specs.Topology.{proc_count}
use Rattle.raw_model.specs.Program.{ProgramSet, PortProgram, IsSet}
use Rattle.raw_model.specs.Start.{MachineState, Fits, start}
use Rattle.raw_model.specs.Rest.{IsRun, IsLawfulFrom, end, end_from}
use Rattle.raw_model.specs.Outcomes.{outcome}
use Rattle.raw_model.specs.Serial.{serial}
use Rattle.raw_model.specs.Parts.{received}
use Rattle.raw_model.specs.Fed.{fed}
use Rattle.raw_codegen.specs.Limits.{AreShort}
use Rattle.raw_flow.specs.Flows.{AreInputs, outs_of}
use Rattle.raw_flow.specs.Ports.{picked}
use Rattle.raw_flow.specs.Compiled as flow
use Rattle.raw_flow.specs.Compiled.{compiled_at}
use Rattle.raw_flow.specs.Right.{words_at_sink}
use Rattle.raw_stream.specs.Streams.{Stream, AreNamed, due_at, due_to}
use Rattle.raw_stream.specs.Unrolled.{width, first, word_count, place, due_places, all_rows, unrolled, EachUnrolledIsRows}
use Rattle.raw_stream.specs.Kept.{IsStream, due_count}
use Rattle.raw_unroll.specs.Compiled.{in_turn, compiled_stream, EachStreamIsPlaced, EachStreamIsRight, EachStreamIsSet}
use Rattle.raw_unroll.specs.Compiled as unrolled_ports
use Rattle.raw_unroll.proofs.Turns.{turn_of}
use Rattle.raw_term.specs.Claims.{AreWords, IsMetBy}
use Rattle.raw_stream_choice.specs.StreamSets.{stream_topo, source_words, source_program, sink_program, stream_port_programs, stream_set, IsSetForStream}
use Rattle.raw_stream_choice.specs.Choice.{IsCompilable, EachCompiledMeets}
use Rattle.raw_stream_choice.proofs.Words.{dropped, taken_long, set_fed, each_has_its_words}
use Rattle.raw_stream_choice.proofs.Twins.{none_wide}
use Rattle.raw_stream_choice.proofs.Sinks.{same_each, received_by_sinks}

-- how many values a sink is due of rows
due_long : (s : Stream) (nodes : List ℕ) (m r : ℕ) → length (flat_map (λ r. map (place s r) nodes) (range_with_len r m)) ≡ m * length nodes
due_long s nodes zero r = omega arith
due_long s nodes (suc m) r =
    length-append (map (place s r) nodes) (flat_map (λ r. map (place s r) nodes) (range_with_len (r + 1) m))
    ∙ omega (arith, length-map nodes (place s r), due_long s nodes m (r + 1), suc-mul m (length nodes))

same_map : {X : Type 0} (f g : ℕ → X) (m a : ℕ) → ((q : ℕ) → a ≤ q → q < a + m → f q ≡ g q) → map f (range_with_len a m) ≡ map g (range_with_len a m)
same_map f g zero a same = refl
same_map f g (suc m) a same =
    ap (λ x. x ∷ map f (range_with_len (a + 1) m)) (same a (omega arith) (omega arith))
    ∙ ap (λ xs. g a ∷ xs) (same_map f g m (a + 1) (λ q low high. same q (omega (arith, low)) (omega (arith, high))))

-- ---- where its words are
module _ (s : Stream) (words : List ℕ) (named : AreNamed s) (each : length words ≡ word_count s) where
  first_below : (k q : ℕ) → first s q ≤ first s (q + k)
  first_below zero q = let same : q + 0 ≡ q = omega arith in rw same (omega arith)
  first_below (suc k) q =
      let later : q + suc k ≡ suc (q + k) = omega arith in
      let more = first_below k q in
      rw later (omega (arith, more))

  taken_at : (q : ℕ) → s.count * width s q ≡ length (source_words s words q)
  taken_at q = ⊎_elim inside outside (cases_lt q (length s.sources)) where
    inside : q < length s.sources → s.count * width s q ≡ length (source_words s words q)
    inside less =
        let rest : ℕ = length s.sources - suc q in
        let all : suc q + rest ≡ length s.sources = omega (arith, less) in
        let below : first s (suc q) ≤ first s (length s.sources) = subst (λ k. first s (suc q) ≤ first s k) all (first_below rest (suc q)) in
        sym (taken_long s words q (omega (arith, below, each)))

    outside : length s.sources ≤ q → s.count * width s q ≡ length (source_words s words q)
    outside above =
        let none : s.count * width s q ≡ 0 = ap (λ n. s.count * n) (none_wide s named q above) ∙ omega arith in
        none ∙ sym (ap (λ n. length (take n (drop (first s q) words))) none)

  -- the words are those of the sources, one behind the other
  parts : (m q : ℕ) → first s (q + m) ≡ length words → flat_map (source_words s words) (range_with_len q m) ≡ drop (first s q) words
  parts zero q all = let same : q + 0 ≡ q = omega arith in sym (nothing_left words (first s q) (sym (ap (first s) same) ∙ all)) where
    nothing_left : (xs : List ℕ) (n : ℕ) → n ≡ length xs → drop n xs ≡ []
    nothing_left [] n e = rw e refl
    nothing_left (x ∷ xs) n e = rw e (nothing_left xs (length xs) refl)
  parts (suc m) q all =
      let n : ℕ = s.count * width s q in
      let left : List ℕ = drop (first s q) words in
      let again : (q + 1) + m ≡ q + suc m = omega arith in
      let next : q + 1 ≡ suc q = omega arith in
      let rest : flat_map (source_words s words) (range_with_len (q + 1) m) ≡ drop n left =
      parts m (q + 1) (ap (first s) again ∙ all) ∙ ap (λ k. drop (first s k) words) next ∙ sym (dropped (first s q) n words) in
      ap (λ xs. take n left ++ xs) rest ∙ take-append-drop n left

  picked_words : (q : ℕ) → q < length s.sources → picked q (in_turn (λ p. s.count * width s p) (length s.sources)) words ≡ source_words s words q
  picked_words q less =
      let all : 0 + length s.sources ≡ length s.sources = omega arith in
      ap (picked q (in_turn (λ p. s.count * width s p) (length s.sources))) (sym (parts (length s.sources) 0 (ap (first s) all ∙ sym each)))
      ∙ turn_of (source_words s words) (λ p. s.count * width s p) taken_at q 0 (length s.sources) (omega arith) (omega (arith, less))

  picked_outs : (q : ℕ) → q < length s.sinks → length (picked q (in_turn (due_count s) (length s.sinks)) (unrolled s).outs) ≡ due_count s q
  picked_outs q less =
      ap length (turn_of (due_places s) (due_count s) (λ p. sym (due_long s (due_at s p) s.count 0)) q 0 (length s.sinks) (omega arith) (omega (arith, less)))
      ∙ due_long s (due_at s q) s.count 0

  same_ports : flow.port_programs (unrolled s) (unrolled_ports.stream_ports s) words ≡ stream_port_programs s words
  same_ports =
      let sources : map (flow.source_program (unrolled_ports.stream_ports s) words) (range_with_len 0 (length s.sources)) ≡ map (source_program s words) (range_with_len 0 (length s.sources)) =
      same_map (flow.source_program (unrolled_ports.stream_ports s) words) (source_program s words) (length s.sources) 0
      (λ q low high. ap (λ xs. let port : PortProgram = record { words = xs; capacity = 0 } in port) (picked_words q (omega (arith, high)))) in
      let sinks : map (flow.sink_program (unrolled s) (unrolled_ports.stream_ports s)) (range_with_len 0 (length s.sinks)) ≡ map (sink_program s) (range_with_len 0 (length s.sinks)) =
      same_map (flow.sink_program (unrolled s) (unrolled_ports.stream_ports s)) (sink_program s) (length s.sinks) 0
      (λ q low high. ap (λ n. let port : PortProgram = record { words = []; capacity = n } in port) (picked_outs q (omega (arith, high)))) in
      λ i. sources i ++ sinks i

  pub compiled_is : IsSetForStream s words (compiled_stream s words)
  unfolding compiled_at
  compiled_is =
      ap (λ ports. let set : ProgramSet = record (compiled_stream s words) { ports = ports } in set) same_ports

-- ---- and what it computes
-- with other words it is the compiled set of those
same_programs : (s : Stream) (words others : List ℕ) → stream_set s others (compiled_stream s words).limit (compiled_stream s words).tiles ≡ stream_set s others (compiled_stream s others).limit (compiled_stream s others).tiles
unfolding compiled_at
same_programs s words others = refl

short_with : (s : Stream) (words others : List ℕ) → AreShort (compiled_stream s words).tiles → AreShort (compiled_stream s others).tiles
unfolding compiled_at
short_with s words others short = short

same_grid : (s : Stream) (words : List ℕ) → (compiled_stream s words).topo ≡ stream_topo s
unfolding compiled_at
same_grid s words = refl

-- laws of streams and of machines
pub record Laws : Type 0 where
  pub placed : EachStreamIsPlaced
  pub right : EachStreamIsRight
  pub sets : EachStreamIsSet
  pub rows : EachUnrolledIsRows
  pub run : (set : ProgramSet) → IsSet set → IsRun set (serial set)
  pub start_fits : (set : ProgramSet) → IsSet set → Fits set (start set)
  pub end_fits : (set : ProgramSet) (s : MachineState) (h : List ℕ) → IsSet set → Fits set s → IsLawfulFrom set s h → Fits set (end_from set s h)

module _ (laws : Laws) (s : Stream) (words : List ℕ) (is : IsStream s) (each : length words ≡ word_count s) (made : IsCompilable s words) where
  module _ (others : List ℕ) (are : AreWords (compiled_stream s words) others) where
    as_many : length others ≡ word_count s
    as_many = are.each ∙ sym (each_has_its_words s words (compiled_stream s words) each (compiled_is s words is.named each)).each ∙ each

    also_inputs : AreInputs (unrolled s) others
    also_inputs = record { each = as_many ∙ sym (laws.placed s is made.few).inputs; words = are.words }

    is_set : IsSet (compiled_stream s others)
    is_set = laws.sets s others is made.few also_inputs (short_with s words others made.short)

    fed_is : fed (compiled_stream s words) others ≡ compiled_stream s others
    fed_is =
        set_fed s words others (compiled_stream s words) each (compiled_is s words is.named each)
        ∙ same_programs s words others
        ∙ sym (compiled_is s others is.named as_many)

    values : (steps : List ℕ) → IsRun (compiled_stream s others) steps → received (end (compiled_stream s others) steps) ≡ outs_of (unrolled s) others
    values steps run =
        let set : ProgramSet = compiled_stream s others in
        let state : MachineState = end set steps in
        let rows : List (List ℕ) = all_rows s others in
        let ended = laws.right s others is made.few also_inputs is_set steps run in
        let fits : Fits set state = laws.end_fits set (start set) steps is_set (laws.start_fits set is_set) run.lawful in
        let topo : set.topo ≡ stream_topo s = same_grid s others in
        let many : length state.locals ≡ 2 * (s.cols * s.rows) + length s.sources + length s.sinks =
        fits.processors ∙ ap proc_count topo ∙ omega (arith, length-append s.sources s.sinks) in
        received_by_sinks s is.sources.kinds set topo state fits many
        ∙ same_each (λ q. words_at_sink (unrolled s) (unrolled_ports.stream_ports s) q state) (λ q. due_to s q rows) (length s.sinks) 0
        (λ q low high. ended.due q (omega (arith, high)))
        ∙ sym (laws.rows s others is.named)

    met_by : IsMetBy (compiled_stream s words) (unrolled s) [] others
    met_by = record {
      valid = subst IsSet (sym fed_is) is_set;
      some = subst (λ (set : ProgramSet). (steps : List ℕ) × IsRun set steps) (sym fed_is) (serial (compiled_stream s others), laws.run (compiled_stream s others) is_set);
      right = λ steps run.
          let over : IsRun (compiled_stream s others) steps = subst (λ (set : ProgramSet). IsRun set steps) fed_is run in
          record {
            done = ap (λ (set : ProgramSet). outcome set (end set steps)) fed_is ∙ (laws.right s others is made.few also_inputs is_set steps over).done;
            counts = refl;
            values = ap (λ (set : ProgramSet). received (end set steps)) fed_is ∙ values steps over;
          };
    }

pub compiled_meets : Laws → EachCompiledMeets
compiled_meets laws s words is each given made = record {
  valid = laws.sets s words is made.few (record { each = each ∙ sym (laws.placed s is made.few).inputs; words = given }) made.short;
  same = compiled_is s words is.named each;
  meets = λ others are. met_by laws s words is each made others are;
}
