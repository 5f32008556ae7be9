-- A set of which a claim is proved meets it.
use Rattle.std.proofs.Common.{◌≡◌, ℕ, zero, suc, ◌+◌, ◌-◌, ◌*◌, ◌^◌, ◌<◌, ◌≤◌, Bool, true, false, cond, List, [], ◌∷◌, ◌++◌, length, Option, Some, None, refl, sym, ap, ◌∙◌, subst, ⊎_elim, arith}
use Rattle.std.specs.Prelude.{slice_get, slice_index, map, ◌==◌}
use Rattle.std.proofs.lemmas.Bool.{eqb-true}
use Rattle.std.specs.List.{All, range_with_len}
use Rattle.std.proofs.lemmas.Option.{slice_get_within}
use Rattle.raw_tile_isa.specs.Instruction.{Instruction, IsTileIns}
use Rattle.raw_tile_isa.specs.Words.{EachGivesWords}
use Rattle.raw_grid.specs.Topology.{tile_count}
use Rattle.raw_model.specs.Program.{ProgramSet, TileProgram, PortProgram, IsSet, IsTileProgram, IsDataWord}
use Rattle.raw_model.specs.Machine.{tile_code, program_code}
use Rattle.raw_model.specs.Start.{MachineState, start}
use Rattle.raw_model.specs.Rest.{IsQuiet, end_from}
use Rattle.raw_model.specs.Laws.{ComesToRest}
use Rattle.raw_model.specs.Outcomes.{Done, outcome}
use Rattle.raw_model.specs.Waits.{waits_for}
use Rattle.raw_outcome.specs.declared.ends.Outcome.{Outcome}
use Rattle.raw_outcome.specs.declared.ends.Outcome.TheVariants as answer
use Rattle.raw_outcome.specs.Told.{told}
use Rattle.raw_flow.specs.declared.node.Node.{Node}
use Rattle.raw_flow.specs.declared.node.Node.TheVariants.{Input, Const, Apply}
use Rattle.raw_flow.specs.Flows.{Dataflow, with_input, inputs_in, value_of, values_from, values_of, outs_of}
use Rattle.raw_model.proofs.Fed.{AllWords, all_at, fed_set}
use Rattle.raw_term.specs.Terms.{is_within, Numbered}
use Rattle.raw_model.specs.Fed.{fed, fed_ports}
use Rattle.raw_term.specs.TermMachine.{TermState, numbered}
use Rattle.raw_term.specs.declared.place.Place.{Place}
use Rattle.raw_term.specs.Seen.{miscount, seen, terms_seen}
use Rattle.raw_term.specs.Claims.{ClaimTerms, claim_node, claim_from, claim_terms, claimed}
use Rattle.raw_term.specs.declared.verdict.Verdict.{Verdict}
use Rattle.raw_term.specs.declared.verdict.Verdict.TheVariants.{Proved, TooMany, Words, Differs}
use Rattle.raw_term.specs.Verdicts.{Break, OnInput, OnTable, TermRun, ran, first_run, HasEnded, compared, of_words, ByClasses, IsOfWords, IsOfCounts, IsSaid, IsOfRun, IsVerdictOfRun, IsVerdictWhere, IsVerdict, EachProvedIsMet}
use Rattle.raw_model.specs.Serial.{sweeps}
use Rattle.raw_model.specs.Bounds.{all_words}
use Rattle.raw_term.specs.Classes.{HaveClasses}
use Rattle.raw_term.proofs.Terms.{Holds, AreTerms, IsMade, made_keeps, term_values, values_many}
use Rattle.raw_term.proofs.Forms.{word_made, made_is}
use Rattle.raw_term.specs.Same.{is_same}
use Rattle.raw_term.proofs.SameTerms.{same_values}
use Rattle.raw_term.proofs.Image.{Pairs, pairs_up, pairs_push}
use Rattle.raw_term.proofs.SwitchImage.{pairs_at}
use Rattle.raw_term.proofs.TileTerms.{none_holds}
use Rattle.raw_term.proofs.Rows.{IsLawfulIns}
use Rattle.raw_term.proofs.Steps.{TermsStand, IsAt, IsSwept, sweeps_stand, ran_free, quiet_stands}
use Rattle.raw_term.proofs.Start.{HaveCells, fed_room, start_stands}
use Rattle.raw_term.proofs.Ending.{miscount_stands, seen_stands, outcome_stands}

abbrev IsProof : Verdict → Type 0
IsProof (Proved n) = Unit {0}
IsProof _ = ⊥

proved_differs : (n k : ℕ) → Proved n ≡ Differs k → ⊥
proved_differs n k e = subst IsProof e tt

words_same : (n : ℕ) (s : TermState) (flow : Dataflow) (got : List ℕ) → Proved n ≡ of_words s flow got → Proved n ≡ compared (claim_terms s flow).nodes 0 got (claimed s flow)
words_same n s flow got e = by (length got == length flow.outs) (is_within (claim_terms s flow).nodes) e where
  by : (b c : Bool) → Proved n ≡ cond b (cond c (compared (claim_terms s flow).nodes 0 got (claimed s flow)) TooMany) (Words (length got) (length flow.outs)) → Proved n ≡ compared (claim_terms s flow).nodes 0 got (claimed s flow)
  by true true f = f
  by true false f = absurd (subst IsProof f tt)
  by false c f = absurd (subst IsProof f tt)

-- the terms of the nodes of a claim have the values of the nodes
record ClaimMade (inputs : List ℕ) (nodes : List Node) (c : ClaimTerms) (values : List ℕ) : Type 0 where
  pub terms : AreTerms inputs c.nodes
  pub keeps : (v y : ℕ) → Holds (term_values inputs nodes) v y → Holds (term_values inputs c.nodes) v y
  pub each : Pairs (Holds (term_values inputs c.nodes)) c.numbers values

module _ (each : EachGivesWords) (inputs : List ℕ) where
  -- the k-th input is term 1 + k
  abbrev HasInputs : List Node → Type 0
  HasInputs nodes = (i x : ℕ) → slice_get inputs i ≡ Some x → Holds (term_values inputs nodes) (1 + i) x

  abbrev HasWord : Node → Type 0
  HasWord node = (word : ℕ) → node ≡ Const word → word < 2 ^ 32

  there : (xs : List ℕ) (k : ℕ) → k < length xs → slice_get xs k ≡ Some (slice_index xs k)
  there [] k h = absurd (omega arith)
  there (x ∷ xs) zero h = refl
  there (x ∷ xs) (suc k) h = there xs k (omega arith)

  node_made : (nodes : List Node) (k : ℕ) (before done : List ℕ) (node : Node) → AreTerms inputs nodes → HasInputs nodes → HasWord node → with_input node k ≤ length inputs → Pairs (Holds (term_values inputs nodes)) before done
      → IsMade inputs nodes (claim_node nodes k before node) (value_of inputs k done node)
  node_made nodes k before done Input are has small few h = made_keeps inputs nodes are (1 + k) (slice_index inputs k) (has k (slice_index inputs k) (there inputs k (omega arith)))
  node_made nodes k before done (Const word) are has small few h = word_made inputs nodes are word (small word refl)
  node_made nodes k before done (Apply op a b) are has small few h =
      let none = none_holds inputs nodes are in
      made_is inputs nodes are each op (slice_index before a) (slice_index before b) (slice_index done a) (slice_index done b)
      (pairs_at (Holds (term_values inputs nodes)) none before done h a) (pairs_at (Holds (term_values inputs nodes)) none before done h b)

  -- so many inputs with these nodes
  inputs_more : (k : ℕ) (node : Node) (nodes : List Node) → k + inputs_in (node ∷ nodes) ≡ with_input node k + inputs_in nodes
  inputs_more k Input nodes = omega arith
  inputs_more k _ nodes = refl

  claim_made : (nodes : List Node) (k : ℕ) (before done : List ℕ) (more : List Node) → AreTerms inputs nodes → HasInputs nodes → ((v : ℕ) (word : ℕ) → slice_get more v ≡ Some (Const word) → word < 2 ^ 32)
      → k + inputs_in more ≤ length inputs → Pairs (Holds (term_values inputs nodes)) before done → ClaimMade inputs nodes (claim_from nodes k before more) (values_from inputs k done more)
  claim_made nodes k before done [] are has small few h = record { terms = are; keeps = λ v y g. g; each = h }
  claim_made nodes k before done (node ∷ more) are has small few h =
      let r : Numbered = claim_node nodes k before node in
      let x : ℕ = value_of inputs k done node in
      let enough : with_input node k + inputs_in more ≤ length inputs = subst (λ n. n ≤ length inputs) (inputs_more k node more) few in
      let one : IsMade inputs nodes r x = node_made nodes k before done node are has (λ word e. small 0 word (ap (λ n. Some n) e)) (omega (arith, enough)) h in
      let W : List ℕ = term_values inputs r.nodes in
      let pairs : Pairs (Holds W) (before ++ r.number ∷ []) (done ++ x ∷ []) = pairs_push (Holds W) before done r.number x (pairs_up (Holds (term_values inputs nodes)) (Holds W) one.keeps before done h) one.value in
      let rest : ClaimMade inputs r.nodes (claim_from r.nodes (with_input node k) (before ++ r.number ∷ []) more) (values_from inputs (with_input node k) (done ++ x ∷ []) more) =
      claim_made r.nodes (with_input node k) (before ++ r.number ∷ []) (done ++ x ∷ []) more one.terms (λ i y e. one.keeps (1 + i) y (has i y e)) (λ v word e. small (suc v) word e) enough pairs in
      record { terms = rest.terms; keeps = λ v y g. rest.keeps v y (one.keeps v y g); each = rest.each }

  outs_pairs : (H : ℕ → ℕ → Type 0) → H 0 0 → (numbers values outs : List ℕ) → Pairs H numbers values → Pairs H (map (λ v. slice_index numbers v) outs) (map (λ v. slice_index values v) outs)
  outs_pairs H none numbers values [] h = tt
  outs_pairs H none numbers values (v ∷ outs) h = (pairs_at H none numbers values h v, outs_pairs H none numbers values outs h)

  -- terms that are compared with no difference have the same values
  pub compared_values : (nodes : List Node) → AreTerms inputs nodes → (k n : ℕ) (cs ds xs ys : List ℕ) → Proved n ≡ compared nodes k cs ds
      → Pairs (Holds (term_values inputs nodes)) cs xs → Pairs (Holds (term_values inputs nodes)) ds ys → xs ≡ ys
  compared_values nodes are k n [] [] [] [] e h g = refl
  compared_values nodes are k n [] [] [] (y ∷ ys) e h g = absurd g
  compared_values nodes are k n [] [] (x ∷ xs) ys e h g = absurd h
  compared_values nodes are k n [] (d ∷ ds) xs ys e h g = absurd (proved_differs n k e)
  compared_values nodes are k n (c ∷ cs) [] xs ys e h g = absurd (proved_differs n k e)
  compared_values nodes are k n (c ∷ cs) (d ∷ ds) [] ys e h g = absurd h
  compared_values nodes are k n (c ∷ cs) (d ∷ ds) (x ∷ xs) [] e h g = absurd g
  compared_values nodes are k n (c ∷ cs) (d ∷ ds) (x ∷ xs) (y ∷ ys) e h g = by (is_same nodes c d) refl e (λ f. compared_values nodes are (k + 1) n cs ds xs ys f h.1 g.1) where
    by : (b : Bool) → is_same nodes c d ≡ b → Proved n ≡ cond b (compared nodes (k + 1) cs ds) (Differs k) → (Proved n ≡ compared nodes (k + 1) cs ds → xs ≡ ys) → x ∷ xs ≡ y ∷ ys
    by true is f later = ap (λ z. z ∷ xs) (same_values inputs nodes are c d x y is h.0 g.0) ∙ ap (λ zs. y ∷ zs) (later f)
    by false is f later = absurd (proved_differs n k f)

  -- classes have the values of their terms
  pub classes_pairs : (nodes table : List Node) (classes : List ℕ) → HaveClasses inputs nodes table classes → length classes ≡ length nodes → (cs xs : List ℕ)
      → Pairs (Holds (term_values inputs nodes)) cs xs → Pairs (Holds (term_values inputs table)) (map (slice_index classes) cs) xs
  classes_pairs nodes table classes have many [] [] h = tt
  classes_pairs nodes table classes have many [] (x ∷ xs) h = absurd h
  classes_pairs nodes table classes have many (c ∷ cs) [] h = absurd h
  classes_pairs nodes table classes have many (c ∷ cs) (x ∷ xs) h =
      let values = values_many inputs nodes 0 [] in
      (have.each c x (omega (arith, many, values, slice_get_within (term_values inputs nodes) c x h.0)) h.0, classes_pairs nodes table classes have many cs xs h.1)

  pub outs_same : (s : TermState) (flow : Dataflow) (got words : List ℕ) → AreTerms inputs s.nodes → HasInputs s.nodes → ((v word : ℕ) → slice_get flow.nodes v ≡ Some (Const word) → word < 2 ^ 32) → inputs_in flow.nodes ≡ length inputs
      → Pairs (Holds (term_values inputs s.nodes)) got words → (n : ℕ) × IsOfWords s flow got (Proved n) → words ≡ outs_of flow inputs
  unfolding values_of
  outs_same s flow got words are has small many h e =
      let c : ClaimTerms = claim_from s.nodes 0 [] flow.nodes in
      let claim : ClaimMade inputs s.nodes c (values_from inputs 0 [] flow.nodes) = claim_made s.nodes 0 [] [] flow.nodes are has small (omega (arith, many)) tt in
      let W : List ℕ = term_values inputs c.nodes in
      let lifted : Pairs (Holds W) got words = pairs_up (Holds (term_values inputs s.nodes)) (Holds W) claim.keeps got words h in
      let wanted : Pairs (Holds W) (claimed s flow) (outs_of flow inputs) = outs_pairs (Holds W) (none_holds inputs c.nodes claim.terms) c.numbers (values_from inputs 0 [] flow.nodes) flow.outs claim.each in
      ⊎_elim
      (λ direct. compared_values c.nodes claim.terms 0 e.0 got (claimed s flow) words (outs_of flow inputs) (words_same e.0 s flow got direct) lifted wanted)
      (λ said.
      let by : ByClasses c.nodes got (claimed s flow) (Proved e.0) = said.1 in
      let have : HaveClasses inputs c.nodes by.table by.classes = by.are inputs claim.terms in
      compared_values by.table have.terms 0 e.0 (map (slice_index by.classes) got) (map (slice_index by.classes) (claimed s flow)) words (outs_of flow inputs) by.is
      (classes_pairs c.nodes by.table by.classes have by.each got words lifted) (classes_pairs c.nodes by.table by.classes have by.each (claimed s flow) (outs_of flow inputs) wanted))
      e.1

-- the instructions of a set
pub lawful_of : (set : ProgramSet) → IsSet set → (p i : ℕ) → IsLawfulIns (slice_get (tile_code set p) i)
lawful_of set is p i = by_tile (slice_get set.tiles p) refl where
  by_ins : (code : List Instruction) → All IsTileIns code → (o : Option Instruction) → slice_get code i ≡ o → IsLawfulIns o
  by_ins code all None e = tt
  by_ins code all (Some ins) e = all_at IsTileIns code all i ins e

  by_tile : (o : Option TileProgram) → slice_get set.tiles p ≡ o → IsLawfulIns (slice_get (program_code o) i)
  by_tile None e = tt
  by_tile (Some tile) e = by_ins tile.code (all_at IsTileProgram set.tiles is.tile_programs p tile e).instructions (slice_get tile.code i) refl

pub cells_of : (inputs : List ℕ) (set : ProgramSet) → IsSet set → HaveCells inputs set.tiles
cells_of inputs set is t tile e i cell f = all_at IsDataWord tile.cells (all_at IsTileProgram set.tiles is.tile_programs t tile e).cells i cell f

-- the laws below: what operations make are words, and all lists that come to rest end alike
pub record Laws : Type 0 where
  pub words : EachGivesWords
  pub same_rest : (set : ProgramSet) (s : MachineState) (h g : List ℕ) → IsSet set → ComesToRest set s h → ComesToRest set s g → end_from set s g ≡ end_from set s h

-- what a verdict that a claim is proved says of the run
pub record IsProved (set : ProgramSet) (flow : Dataflow) (places : List Place) (r : TermRun) : Type 0 where
  pub free : r.broken ≡ None
  pub rests : IsQuiet (numbered set) r.at.state
  pub done : outcome (numbered set) r.at.state ≡ Done
  pub counts : miscount places r.at.state.locals ≡ None
  pub outs : (n : ℕ) × IsOfWords r.at flow (terms_seen places r.at.state) (Proved n)

-- where a run that has ended says that a claim is proved
pub proof_of : (set : ProgramSet) (flow : Dataflow) (places : List Place) (n : ℕ) (r : TermRun) → HasEnded (numbered set) r r.broken
    → IsOfRun (numbered set) flow places r (Proved n) r.broken → IsProved set flow places r
proof_of set flow places n r ended is = by_break r.broken refl ended is where
  by_counts : r.broken ≡ None → IsQuiet (numbered set) r.at.state → outcome (numbered set) r.at.state ≡ Done → (counts : Option (ℕ × ℕ)) → miscount places r.at.state.locals ≡ counts
      → IsOfCounts counts r.at flow (terms_seen places r.at.state) (Proved n) → IsProved set flow places r
  by_counts f quiet done None e g = record { free = f; rests = quiet; done = done; counts = e; outs = (n, g) }
  by_counts f quiet done (Some counts) e g = absurd (subst IsProof g tt)

  by_rest : r.broken ≡ None → IsQuiet (numbered set) r.at.state → (how : Outcome) → told (waits_for (numbered set) r.at.state) how ≡ outcome (numbered set) r.at.state
      → IsSaid how r.at flow places (Proved n) → IsProved set flow places r
  by_rest f quiet answer.Done tells g = by_counts f quiet (sym tells) (miscount places r.at.state.locals) refl g
  by_rest f quiet (answer.Deadlock least many) tells g = absurd (subst IsProof g tt)
  by_rest f quiet (answer.Trapped p) tells g = absurd (subst IsProof g tt)
  by_rest f quiet (answer.Limit p) tells g = absurd (subst IsProof g tt)
  by_rest f quiet (answer.Stuck p) tells g = absurd (subst IsProof g tt)

  by_break : (o : Option Break) → r.broken ≡ o → HasEnded (numbered set) r o → IsOfRun (numbered set) flow places r (Proved n) o → IsProved set flow places r
  by_break None f quiet g = by_rest f quiet g.how g.tells g.is
  by_break (Some (OnInput p)) f over g = absurd (subst IsProof g tt)
  by_break (Some OnTable) f over g = absurd (subst IsProof g tt)

-- the inputs of a claim that is proved are as many as the words
pub same_inputs : (set : ProgramSet) (flow : Dataflow) (places : List Place) (n : ℕ) → IsVerdict set flow places (Proved n) → (inputs_in flow.nodes ≡ all_words set) × IsVerdictOfRun set flow places (Proved n)
same_inputs set flow places n verdict = by (inputs_in flow.nodes == all_words set) refl verdict where
  by : (b : Bool) → (inputs_in flow.nodes == all_words set) ≡ b → IsVerdictWhere b set flow places (Proved n) → (inputs_in flow.nodes ≡ all_words set) × IsVerdictOfRun set flow places (Proved n)
  by true is g = (eqb-true (inputs_in flow.nodes) (all_words set) is, g)
  by false is g = absurd (subst IsProof g tt)

pub verdict_is_met : Laws → EachProvedIsMet
verdict_is_met laws set flow places n valid constants verdict inputs are =
    let each : EachGivesWords = laws.words in
    let all : AllWords inputs = all_at (λ w. w < 2 ^ 32) inputs are.words in
    let numbers : List ℕ = range_with_len 1 (all_words set) in
    let lawful = lawful_of set valid in
    let nums : List PortProgram = fed_ports set.ports numbers in
    let words : List PortProgram = fed_ports set.ports inputs in
    let room = λ (p : ℕ). fed_room set.ports numbers inputs (p - 2 * tile_count set.topo) in
    let machine : ProgramSet = fed set inputs in
    let known = same_inputs set flow places n verdict in
    let sweeps_ : ℕ = known.1.sweeps in
    let r : TermRun = ran (numbered set) sweeps_ (first_run set) in
    let proof : IsProved set flow places r = proof_of set flow places n r known.1.ended known.1.is in
    let first : IsAt each inputs set nums words lawful room (first_run set) (start machine) =
    record { free = ran_free each inputs set nums words lawful room sweeps_ (first_run set) proof.free; stands = start_stands each inputs set lawful (cells_of inputs set valid) are.each all } in
    let both : IsSwept each inputs set nums words lawful room 0 r (start machine) (sweeps machine sweeps_ (start machine)) =
    sweeps_stand each inputs set nums words lawful room sweeps_ (first_run set) (start machine) first proof.free in
    let steps : List ℕ = sweeps machine sweeps_ (start machine) in
    let t : MachineState = end_from machine (start machine) steps in
    let stands : TermsStand each inputs set nums words lawful room r.at t = both.ends.stands in
    let quiet : IsQuiet machine t = quiet_stands each inputs set nums words lawful room r.at t stands proof.rests in
    let is_set : IsSet machine = fed_set set inputs all valid in
    let done : outcome machine t ≡ Done = sym (outcome_stands each inputs set nums words lawful room r.at t stands) ∙ proof.done in
    let counts : miscount places t.locals ≡ None = sym (miscount_stands each inputs set nums words lawful room r.at t stands places) ∙ proof.counts in
    let values : seen places t ≡ outs_of flow inputs =
    outs_same each inputs r.at flow (terms_seen places r.at.state) (seen places t) stands.terms stands.has constants (known.0 ∙ sym are.each)
    (seen_stands each inputs set nums words lawful room r.at t stands places) proof.outs in
    record {
      valid = is_set;
      some = (steps, record { lawful = both.allowed; quiet = quiet });
      right = λ others run.
          let same : end_from machine (start machine) others ≡ t =
          laws.same_rest machine (start machine) steps others is_set (record { lawful = both.allowed; quiet = quiet }) (record { lawful = run.lawful; quiet = run.quiet }) in
          record {
            done = ap (λ k. outcome machine k) same ∙ done;
            counts = ap (λ (k : MachineState). miscount places k.locals) same ∙ counts;
            values = ap (λ (k : MachineState). seen places k) same ∙ values;
          };
    }
