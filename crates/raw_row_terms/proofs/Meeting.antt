-- A set of which a stream is proved computes its rows, and meets the flow that it is when it is unrolled.
use Rattle.std.proofs.Common.{◌≡◌, ℕ, zero, suc, ◌+◌, ◌-◌, ◌*◌, ◌^◌, ◌<◌, ◌≤◌, Bool, true, false, cond, not, List, [], ◌∷◌, length, Option, Some, None, refl, sym, ap, ◌∙◌, subst, ⊎_elim, arith}
use Rattle.std.specs.Prelude.{◌==◌, slice_get, slice_index, map}
use Rattle.std.specs.List.{flat_map, range_with_len}
use Rattle.std.proofs.lemmas.List.{length-map}
use Rattle.std.proofs.lemmas.List.FromFn.{length-range_with_len}
use Rattle.std.proofs.lemmas.Option.{slice_get-get_or}
use Rattle.raw_tile_isa.specs.Words.{EachGivesWords}
use Rattle.raw_grid.specs.Topology.{tile_count}
use Rattle.raw_model.specs.Program.{ProgramSet, PortProgram, IsSet}
use Rattle.raw_model.specs.Local.{Local}
use Rattle.raw_model.specs.Start.{MachineState, Fits, start}
use Rattle.raw_model.specs.Rest.{IsQuiet, IsLawfulFrom, end_from}
use Rattle.raw_model.specs.Outcomes.{Done, outcome}
use Rattle.raw_model.specs.Waits.{waits_for}
use Rattle.raw_model.specs.Parts.{got_of, received}
use Rattle.raw_model.specs.Bounds.{all_words}
use Rattle.raw_model.specs.Fed.{fed, fed_ports}
use Rattle.raw_model.specs.Serial.{sweeps}
use Rattle.raw_model.proofs.Fed.{all_at, fed_set}
use Rattle.raw_outcome.specs.declared.ends.Outcome.{Outcome}
use Rattle.raw_outcome.specs.declared.ends.Outcome.TheVariants as answer
use Rattle.raw_outcome.specs.Told.{told}
use Rattle.raw_flow.specs.declared.node.Node.{Node}
use Rattle.raw_flow.specs.declared.node.Node.TheVariants as node
use Rattle.raw_flow.specs.Flows.{values_from, outs_of}
use Rattle.raw_stream.specs.declared.row_node.RowNode.{RowNode}
use Rattle.raw_stream.specs.declared.row_node.RowNode.TheVariants.{Input, Const, Apply, Pre}
use Rattle.raw_stream.specs.Streams.{Stream, AreNamed, valued, next_nodes, first_words, rows_of, due_at, due_to}
use Rattle.raw_stream.specs.Unrolled.{first, word_count, word_place, words_from, row_words, all_rows, unrolled, EachUnrolledIsRows}
use Rattle.raw_stream.specs.Kept.{due_count}
use Rattle.raw_stream.proofs.Places.{word_within}
use Rattle.raw_term.specs.declared.verdict.Verdict.{Verdict}
use Rattle.raw_term.specs.declared.verdict.Verdict.TheVariants.{Proved, TooMany}
use Rattle.raw_term.specs.Terms.{is_within}
use Rattle.raw_term.specs.Classes.{HaveClasses}
use Rattle.raw_term.specs.TermMachine.{TermState, numbered}
use Rattle.raw_term.specs.Claims.{ClaimTerms}
use Rattle.raw_term.specs.Verdicts.{Break, OnInput, OnTable, TermRun, ran, first_run, HasEnded, compared, ByClasses}
use Rattle.raw_term.proofs.Terms.{Holds, AreTerms, term_values}
use Rattle.raw_term.proofs.Image.{Pairs, AlikeWires, AlikeLocals, AlikeAt, local_at, pairs_up, pairs_length}
use Rattle.raw_term.proofs.TileTerms.{none_holds}
use Rattle.raw_term.proofs.Rows.{AlikeLocal, each_kind}
use Rattle.raw_term.proofs.Steps.{TermsStand, IsAt, IsSwept, sweeps_stand, ran_free, quiet_stands}
use Rattle.raw_term.proofs.Start.{fed_room, start_stands}
use Rattle.raw_term.proofs.Ending.{outcome_stands}
use Rattle.raw_term.proofs.Claims.{Laws, lawful_of, cells_of, compared_values, classes_pairs}
use Rattle.raw_row_terms.specs.RowTerms.{placed_row, RowTerms, row_terms, carried_over}
use Rattle.raw_row_terms.specs.RowClaims.{has_words, takes_in_all, misfed, got_at, misgot, numbers_from, row_numbers, first_terms, all_terms, got_in, due_in, compared_within, IsOfTerms, IsOfRows, IsOfRowCounts, IsSaidOfRows, IsOfRowsRun, IsRowsVerdictOfRun, IsRowsVerdictWhere, IsRowsVerdict, HasPortsOf, AreSinksOf, EachRowsProvedAreMet}
use Rattle.raw_row_terms.specs.Right.{IsRightInRows, IsMetInRows, EachRowsProvedAreRight, EachRowsProvedRest}
use Rattle.raw_row_terms.proofs.Placing.{Placed, all_placed, RowsPlaced, rows_placed, pairs_append, rows_many, pairs_due}
use Rattle.raw_row_terms.proofs.Firsts.{constants_follow, known_constants, first_are_words, row_constants}
use Rattle.raw_row_terms.proofs.Counts.{find_none, same_count, words_summed, due_long, pieces_long, each_same, pieces_same}
use Rattle.raw_row_terms.proofs.Received.{received_at}

abbrev IsProof : Verdict → Type 0
IsProof (Proved n) = Unit {0}
IsProof _ = ⊥

-- ---- the terms of the words of rows stand for these words
module _ (s : Stream) (named : AreNamed s) (W inputs : List ℕ) (many : length inputs ≡ word_count s) (has : (i x : ℕ) → slice_get inputs i ≡ Some x → Holds W (1 + i) x) where
  word_held : (r q v : ℕ) → r < s.count → slice_get s.nodes v ≡ Some (Input q) → Holds W (1 + word_place s r q v) (slice_index inputs (word_place s r q v))
  word_held r q v row e =
      let inside = word_within s named r q v row e in
      has (word_place s r q v) (slice_index inputs (word_place s r q v)) (slice_get-get_or inputs (word_place s r q v) 0 (omega (arith, many, inside)))

  row_held : (r : ℕ) → r < s.count → (v : ℕ) (nodes : List RowNode) → ((i : ℕ) (n : RowNode) → slice_get nodes i ≡ Some n → slice_get s.nodes (v + i) ≡ Some n)
      → Pairs (Holds W) (numbers_from s r v nodes) (words_from s inputs r v nodes)
  row_held r row v [] at = tt
  row_held r row v (n ∷ nodes) at = by n refl (row_held r row (v + 1) nodes moved) where
    here : slice_get s.nodes v ≡ Some n
    here = let same : v + 0 ≡ v = omega arith in subst (λ j. slice_get s.nodes j ≡ Some n) same (at 0 n refl)

    moved : (i : ℕ) (k : RowNode) → slice_get nodes i ≡ Some k → slice_get s.nodes (v + 1 + i) ≡ Some k
    moved i k e = let same : v + suc i ≡ v + 1 + i = omega arith in subst (λ j. slice_get s.nodes j ≡ Some k) same (at (suc i) k e)

    by : (m : RowNode) → n ≡ m → Pairs (Holds W) (numbers_from s r (v + 1) nodes) (words_from s inputs r (v + 1) nodes)
        → Pairs (Holds W) (numbers_from s r v (m ∷ nodes)) (words_from s inputs r v (m ∷ nodes))
    by (Input q) e rest = (word_held r q v row (here ∙ ap (λ k. Some k) e), rest)
    by (Const word) e rest = rest
    by (Apply op a b) e rest = rest
    by (Pre a word) e rest = rest

  pub rows_held : (m r : ℕ) → r + m ≤ s.count → AlikeWires (Holds W) (map (row_numbers s) (range_with_len r m)) (map (row_words s inputs) (range_with_len r m))
  rows_held zero r h = tt
  rows_held (suc m) r h = (row_held r (omega (arith, h)) 0 s.nodes whole, rows_held m (r + 1) (omega (arith, h))) where
    whole : (i : ℕ) (n : RowNode) → slice_get s.nodes i ≡ Some n → slice_get s.nodes (0 + i) ≡ Some n
    whole i n e = let same : i ≡ 0 + i = omega arith in subst (λ j. slice_get s.nodes j ≡ Some n) same e

-- ---- what a verdict that a stream is proved says of the run
pub record AreProved (set : ProgramSet) (s : Stream) (order : List ℕ) (r : TermRun) : Type 0 where
  pub free : r.broken ≡ None
  pub rests : IsQuiet (numbered set) r.at.state
  pub done : outcome (numbered set) r.at.state ≡ Done
  pub counts : misgot set s r.at.state ≡ None
  pub outs : (n : ℕ) × IsOfRows set s order r.at (Proved n)

proof_of : (set : ProgramSet) (s : Stream) (order : List ℕ) (n : ℕ) (r : TermRun) → HasEnded (numbered set) r r.broken → IsOfRowsRun set s order r (Proved n) r.broken → AreProved set s order r
proof_of set s order n r ended is = by_break r.broken refl ended is where
  by_counts : r.broken ≡ None → IsQuiet (numbered set) r.at.state → outcome (numbered set) r.at.state ≡ Done → (o : Option ℕ) → misgot set s r.at.state ≡ o → IsOfRowCounts o set s order r.at (Proved n)
      → AreProved set s order r
  by_counts f quiet done None e g = record { free = f; rests = quiet; done = done; counts = e; outs = (n, g) }
  by_counts f quiet done (Some q) e g = absurd (subst IsProof g tt)

  by_rest : r.broken ≡ None → IsQuiet (numbered set) r.at.state → (how : Outcome) → told (waits_for (numbered set) r.at.state) how ≡ outcome (numbered set) r.at.state
      → IsSaidOfRows how set s order r.at (Proved n) → AreProved set s order r
  by_rest f quiet answer.Done tells g = by_counts f quiet (sym tells) (misgot set s r.at.state) refl g
  by_rest f quiet (answer.Deadlock least many) tells g = absurd (subst IsProof g tt)
  by_rest f quiet (answer.Trapped p) tells g = absurd (subst IsProof g tt)
  by_rest f quiet (answer.Limit p) tells g = absurd (subst IsProof g tt)
  by_rest f quiet (answer.Stuck p) tells g = absurd (subst IsProof g tt)

  by_break : (o : Option Break) → r.broken ≡ o → HasEnded (numbered set) r o → IsOfRowsRun set s order r (Proved n) o → AreProved set s order r
  by_break None f quiet g = by_rest f quiet g.how g.tells g.is
  by_break (Some (OnInput p)) f over g = absurd (subst IsProof g tt)
  by_break (Some OnTable) f over g = absurd (subst IsProof g tt)

record IsFedRun (set : ProgramSet) (s : Stream) (order : List ℕ) (n : ℕ) : Type 0 where
  pub counts : misfed set s ≡ None
  pub run : IsRowsVerdictOfRun set s order (Proved n)

fed_run : (set : ProgramSet) (s : Stream) (order : List ℕ) (n : ℕ) → IsRowsVerdict set s order (Proved n) → IsFedRun set s order n
fed_run set s order n verdict = by (misfed set s) refl verdict where
  by : (o : Option ℕ) → misfed set s ≡ o → IsRowsVerdictWhere o set s order (Proved n) → IsFedRun set s order n
  by None e g = record { counts = e; run = g }
  by (Some q) e g = absurd (subst IsProof g tt)

-- the words of all ports are those of the unrolled flow
pub words_are : (set : ProgramSet) (s : Stream) → HasPortsOf set s → misfed set s ≡ None → word_count s ≡ all_words set
words_are set s ports none =
    let from_none : 0 + length set.ports ≡ length set.ports = omega arith in
    let summed : first s (0 + length set.ports) ≡ first s 0 + all_words set = words_summed s set.ports 0 each in
    let whole : word_count s ≡ first s (0 + length set.ports) = ap (first s) (ports.sources ∙ sym from_none) in
    whole ∙ summed ∙ omega arith
  where
    each : (i : ℕ) → i < length set.ports → has_words set i ≡ takes_in_all s (0 + i)
    each i lt =
        let same : i ≡ 0 + i = omega arith in
        ap (has_words set) same ∙ same_count (has_words set (0 + i)) (takes_in_all s (0 + i)) (find_none (λ q. not (has_words set q == takes_in_all s q)) 0 (length set.ports) none i lt)

-- ---- each sink has as many words as it is due
got_counted : (set : ProgramSet) (s : Stream) → HasPortsOf set s → (state : MachineState) → misgot set s state ≡ None → (q : ℕ) → q < length s.sinks → length (got_at set state q) ≡ due_count s q
got_counted set s ports state none q lt =
    let same : q ≡ 0 + q = omega arith in
    let below : q < length set.ports = omega (arith, lt, ports.sinks) in
    let count : length (got_at set state (0 + q)) ≡ due_count s (0 + q) =
    same_count (length (got_at set state (0 + q))) (due_count s (0 + q)) (find_none (λ p. not (length (got_at set state p) == due_count s p)) 0 (length set.ports) none q below) in
    subst (λ p. length (got_at set state p) ≡ due_count s p) (sym same) count

pub as_many : (set : ProgramSet) (s : Stream) (order : List ℕ) → HasPortsOf set s → AreSinksOf s order → (state : MachineState) → misgot set s state ≡ None → (values : List (List ℕ)) → length values ≡ s.count
    → length (got_in set order state) ≡ length (due_in s order values)
as_many set s order ports sinks state none values many =
    pieces_long (got_at set state) (λ q. due_to s q values) (length s.sinks) order sinks.within
    (λ q lt. got_counted set s ports state none q lt ∙ sym (due_long s q values ∙ ap (λ k. k * length (due_at s q)) many))

terms_long : (s : Stream) (nodes : List Node) (carried : List ℕ) (rows : List (List ℕ)) → length (row_terms s nodes carried rows).values ≡ length rows
terms_long s nodes carried [] = refl
terms_long s nodes carried (words ∷ rows) =
    let c : ClaimTerms = placed_row s.nodes nodes carried words in ap suc (terms_long s c.nodes (valued c.numbers (next_nodes s)) rows)

pub terms_counted : (s : Stream) (nodes : List Node) → length (all_terms s nodes).values ≡ s.count
terms_counted s nodes =
    let c : ClaimTerms = first_terms s nodes in
    let all : s.count - 0 ≡ s.count = omega arith in
    terms_long s c.nodes c.numbers (map (row_numbers s) (range_with_len 0 (s.count - 0)))
    ∙ length-map (range_with_len 0 (s.count - 0)) (row_numbers s) ∙ length-range_with_len 0 (s.count - 0) ∙ all

-- ---- terms that are compared with no difference have the same values
module _ (each : EachGivesWords) (inputs : List ℕ) where
  terms_same : (nodes : List Node) (n : ℕ) (cs ds xs ys : List ℕ) → AreTerms inputs nodes → Pairs (Holds (term_values inputs nodes)) cs xs → Pairs (Holds (term_values inputs nodes)) ds ys
      → IsOfTerms nodes cs ds (Proved n) → xs ≡ ys
  terms_same nodes n cs ds xs ys are h g said =
      ⊎_elim
      (λ direct. compared_values each inputs nodes are 0 n cs ds xs ys (as_they_stand direct) h g)
      (λ classes.
      let by : ByClasses nodes cs ds (Proved n) = classes.1 in
      let have : HaveClasses inputs nodes by.table by.classes = by.are inputs are in
      compared_values each inputs by.table have.terms 0 n (map (slice_index by.classes) cs) (map (slice_index by.classes) ds) xs ys by.is
      (classes_pairs each inputs nodes by.table by.classes have by.each cs xs h) (classes_pairs each inputs nodes by.table by.classes have by.each ds ys g))
      said
    where
      as_they_stand : Proved n ≡ compared_within nodes cs ds → Proved n ≡ compared nodes 0 cs ds
      as_they_stand e = by (is_within nodes) e where
        by : (b : Bool) → Proved n ≡ cond b (compared nodes 0 cs ds) TooMany → Proved n ≡ compared nodes 0 cs ds
        by true f = f
        by false f = absurd (subst IsProof f tt)

  got_alike : (values : List ℕ) (o q : Option Local) → AlikeAt (AlikeLocal values) o q → Pairs (Holds values) (got_of o) (got_of q)
  got_alike values None None h = tt
  got_alike values None (Some m) h = absurd h
  got_alike values (Some l) None h = absurd h
  got_alike values (Some l) (Some m) h =
      each_kind values (λ l m. Pairs (Holds values) (got_of (Some l)) (got_of (Some m))) (λ l m g. tt) (λ l m g. tt) (λ l m g. tt) (λ l m g. g.1) l m h

  pieces_alike : (H : ℕ → ℕ → Type 0) (f g : ℕ → List ℕ) → ((q : ℕ) → Pairs H (f q) (g q)) → (order : List ℕ) → Pairs H (flat_map f order) (flat_map g order)
  pieces_alike H f g h [] = tt
  pieces_alike H f g h (q ∷ order) = pairs_append H (f q) (g q) (flat_map f order) (flat_map g order) (h q) (pieces_alike H f g h order)

  -- ---- where a run with terms rests so, each port has received what it is due
  module _ (set : ProgramSet) (s : Stream) (order : List ℕ) (named : AreNamed s) (ports : HasPortsOf set s) (sinks : AreSinksOf s order) (many : length inputs ≡ word_count s) where
    rows_counted : length (all_rows s inputs) ≡ s.count
    rows_counted =
        rows_many s (first_words s) (map (row_words s inputs) (range_with_len 0 s.count)) ∙ length-map (range_with_len 0 s.count) (row_words s inputs) ∙ length-range_with_len 0 s.count

    due_counted : (q : ℕ) → length (due_to s q (all_rows s inputs)) ≡ due_count s q
    due_counted q = due_long s q (all_rows s inputs) ∙ ap (λ k. k * length (due_at s q)) rows_counted

    pub each_due : (at : TermState) (t : MachineState) → AreTerms inputs at.nodes → ((i x : ℕ) → slice_get inputs i ≡ Some x → Holds (term_values inputs at.nodes) (1 + i) x)
        → AlikeLocals (AlikeLocal (term_values inputs at.nodes)) at.state.locals t.locals → misgot set s at.state ≡ None → (n : ℕ) × IsOfRows set s order at (Proved n)
        → (q : ℕ) → q < length s.sinks → got_at set t q ≡ due_to s q (all_rows s inputs)
    each_due at t are has alike counts outs =
        let V : List ℕ = term_values inputs at.nodes in
        let rs : List ℕ = range_with_len 0 (s.count - 0) in
        let all : s.count - 0 ≡ s.count = omega arith in
        let consts : List Node = map (λ (word : ℕ). node.Const word) (first_words s) in
        let C : ClaimTerms = first_terms s at.nodes in
        let one : Placed each inputs at.nodes C (values_from [] 0 [] consts) =
        all_placed each inputs [] [] at.nodes 0 [] [] consts are tt (known_constants (first_words s) (first_are_words s named)) tt in
        let W : List ℕ = term_values inputs C.nodes in
        let carries : Pairs (Holds W) C.numbers (first_words s) = subst (λ xs. Pairs (Holds W) C.numbers xs) (constants_follow [] 0 [] (first_words s)) one.each_is in
        let given : AlikeWires (Holds W) (map (row_numbers s) rs) (map (row_words s inputs) rs) =
        rows_held s named W inputs many (λ i x e. one.keeps (1 + i) x (has i x e)) (s.count - 0) 0 (omega arith) in
        let R : RowTerms = all_terms s at.nodes in
        let made : RowsPlaced each inputs s (row_constants s named) C.nodes R (carried_over s (first_words s) (map (row_words s inputs) rs)) (rows_of s (first_words s) (map (row_words s inputs) rs)) =
        rows_placed each inputs s (row_constants s named) C.nodes C.numbers (first_words s) (map (row_numbers s) rs) (map (row_words s inputs) rs) one.terms carries given in
        let U : List ℕ = term_values inputs R.nodes in
        let got : (q : ℕ) → Pairs (Holds U) (got_at set at.state q) (got_at set t q) = λ q.
        pairs_up (Holds V) (Holds U) (λ v y g. made.keeps v y (one.keeps v y g)) (got_at set at.state q) (got_at set t q)
        (got_alike V (slice_get at.state.locals (2 * tile_count set.topo + q)) (slice_get t.locals (2 * tile_count set.topo + q))
        (local_at (AlikeLocal V) at.state.locals t.locals alike (2 * tile_count set.topo + q))) in
        let each_row : AlikeWires (Holds U) R.values (all_rows s inputs) =
        subst (λ vs. AlikeWires (Holds U) R.values vs) (ap (λ n. rows_of s (first_words s) (map (row_words s inputs) (range_with_len 0 n))) all) made.each_row in
        let due : (q : ℕ) → Pairs (Holds U) (due_to s q R.values) (due_to s q (all_rows s inputs)) =
        pairs_due s (Holds U) (none_holds inputs R.nodes made.terms) R.values (all_rows s inputs) each_row in
        let same : got_in set order t ≡ due_in s order (all_rows s inputs) =
        terms_same R.nodes outs.0 (got_in set order at.state) (due_in s order R.values) (got_in set order t) (due_in s order (all_rows s inputs)) made.terms
        (pieces_alike (Holds U) (got_at set at.state) (got_at set t) got order)
        (pieces_alike (Holds U) (λ q. due_to s q R.values) (λ q. due_to s q (all_rows s inputs)) due order) outs.1 in
        let long : (q : ℕ) → q < length s.sinks → length (got_at set t q) ≡ length (due_to s q (all_rows s inputs)) = λ q lt.
        sym (pairs_length (Holds U) (got_at set at.state q) (got_at set t q) (got q)) ∙ got_counted set s ports at.state counts q lt ∙ sym (due_counted q) in
        each_same s (all_rows s inputs) (got_at set t) order sinks.within sinks.others long same

-- ---- so each sink gets what it is due, with any words
pub rows_are_right : Laws → EachRowsProvedAreRight
rows_are_right laws set s order n valid has_rows ports sinks verdict inputs are =
    let named : AreNamed s = has_rows.named in
    let each : EachGivesWords = laws.words in
    let all = all_at (λ w. w < 2 ^ 32) inputs are.words in
    let numbers : List ℕ = range_with_len 1 (all_words set) in
    let lawful = lawful_of set valid in
    let nums : List PortProgram = fed_ports set.ports numbers in
    let words : List PortProgram = fed_ports set.ports inputs in
    let room = λ (p : ℕ). fed_room set.ports numbers inputs (p - 2 * tile_count set.topo) in
    let machine : ProgramSet = fed set inputs in
    let known : IsFedRun set s order n = fed_run set s order n verdict in
    let sweeps_ : ℕ = known.run.sweeps in
    let r : TermRun = ran (numbered set) sweeps_ (first_run set) in
    let proof : AreProved set s order r = proof_of set s order n r known.run.ended known.run.is in
    let begin : IsAt each inputs set nums words lawful room (first_run set) (start machine) =
    record { free = ran_free each inputs set nums words lawful room sweeps_ (first_run set) proof.free; stands = start_stands each inputs set lawful (cells_of inputs set valid) are.each all } in
    let both : IsSwept each inputs set nums words lawful room 0 r (start machine) (sweeps machine sweeps_ (start machine)) =
    sweeps_stand each inputs set nums words lawful room sweeps_ (first_run set) (start machine) begin proof.free in
    let steps : List ℕ = sweeps machine sweeps_ (start machine) in
    let t : MachineState = end_from machine (start machine) steps in
    let stands : TermsStand each inputs set nums words lawful room r.at t = both.ends.stands in
    let quiet : IsQuiet machine t = quiet_stands each inputs set nums words lawful room r.at t stands proof.rests in
    let is_set : IsSet machine = fed_set set inputs all valid in
    let done : outcome machine t ≡ Done = sym (outcome_stands each inputs set nums words lawful room r.at t stands) ∙ proof.done in
    let many : length inputs ≡ word_count s = are.each ∙ sym (words_are set s ports known.counts) in
    let due : (q : ℕ) → q < length s.sinks → got_at set t q ≡ due_to s q (all_rows s inputs) =
    each_due each inputs set s order named ports sinks many r.at t stands.terms stands.has stands.alike.locals proof.counts proof.outs in
    record {
      valid = is_set;
      some = (steps, record { lawful = both.allowed; quiet = quiet });
      right = λ others run.
          let same : end_from machine (start machine) others ≡ t =
          laws.same_rest machine (start machine) steps others is_set (record { lawful = both.allowed; quiet = quiet }) (record { lawful = run.lawful; quiet = run.quiet }) in
          record {
            done = ap (λ k. outcome machine k) same ∙ done;
            got = λ q lt. ap (λ (k : MachineState). got_at set k q) same ∙ due q (omega (arith, lt, ports.sinks, valid.each_port));
          };
    }

-- ---- and the set meets the unrolled flow
pub record FitLaws : Type 0 where
  pub begins : (set : ProgramSet) → IsSet set → Fits set (start set)
  pub ends : (set : ProgramSet) (s : MachineState) (h : List ℕ) → IsSet set → Fits set s → IsLawfulFrom set s h → Fits set (end_from set s h)

pub rows_are_met : Laws → FitLaws → EachUnrolledIsRows → EachRowsProvedAreMet
rows_are_met laws fit unrolls set s order n valid has_rows ports sinks verdict inputs are =
    let met : IsMetInRows set s inputs = rows_are_right laws set s order n valid has_rows ports sinks verdict inputs are in
    let machine : ProgramSet = fed set inputs in
    record {
      valid = met.valid;
      some = met.some;
      right = λ steps run.
          let t : MachineState = end_from machine (start machine) steps in
          let right : IsRightInRows set s inputs t = met.right steps run in
          let fits : Fits machine t = fit.ends machine (start machine) steps met.valid (fit.begins machine met.valid) run.lawful in
          let values : received t ≡ outs_of (unrolled s) inputs =
          received_at machine t fits (length s.sinks) (ports.sinks ∙ valid.each_port)
          ∙ pieces_same (got_at set t) (λ q. due_to s q (all_rows s inputs)) 0 (length s.sinks) (λ i lt. right.got (0 + i) (omega (arith, lt, ports.sinks, valid.each_port)))
          ∙ sym (unrolls s inputs has_rows.named) in
          record { done = right.done; counts = refl; values = values };
    }

-- the run with terms has come to rest
pub rows_rest : EachRowsProvedRest
rows_rest set s order n verdict =
    let known : IsFedRun set s order n = fed_run set s order n verdict in
    let r : TermRun = ran (numbered set) known.run.sweeps (first_run set) in
    let proof : AreProved set s order r = proof_of set s order n r known.run.ended known.run.is in
    (known.run.sweeps, record { free = proof.free; rests = proof.rests })
