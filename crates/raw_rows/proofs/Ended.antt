-- A run from the start to a cut, through kernels and to rest.
use Rattle.std.proofs.Common.{◌≡◌, ℕ, zero, suc, ◌+◌, ◌-◌, ◌*◌, ◌<◌, ◌≤◌, false, List, [], ◌∷◌, ◌++◌, length, map, take, drop, Option, Some, None, refl, sym, ap, ◌∙◌, subst, arith}
use Rattle.std.specs.Prelude.{slice_get}
use Rattle.std.specs.List.{range_with_len}
use Rattle.std.proofs.lemmas.List.{take-append-drop, length-drop, append-nil}
use Rattle.std.proofs.Math.ListN.{drop_of_length-le}
use Rattle.std.proofs.lemmas.Option.{slice_get_within}
use Rattle.raw_tile_isa.specs.Words.{EachGivesWords}
use Rattle.raw_grid.specs.Topology.{tile_count}
use Rattle.raw_model.specs.Program.{ProgramSet, PortProgram, IsSet}
use Rattle.raw_model.specs.Local.{Local}
use Rattle.raw_model.specs.Machine.{words_of, capacity_of}
use Rattle.raw_model.specs.Start.{MachineState, start}
use Rattle.raw_model.specs.Rest.{end_from, IsQuiet, IsLawfulFrom}
use Rattle.raw_model.specs.Outcomes.{is_unhalted, NoneIs}
use Rattle.raw_flow.specs.declared.node.Node.{Node}
use Rattle.raw_flow.specs.Flows.{values_from}
use Rattle.raw_term.specs.TermMachine.{TermState}
use Rattle.raw_stream.specs.Streams.{Stream, AreNamed, first_words, rows_of}
use Rattle.raw_row_terms.specs.RowTerms.{carried_over, AreWordNodes}
use Rattle.raw_row_terms.proofs.Firsts.{known_constants, first_are_words, row_constants}
use Rattle.raw_rows.specs.Kernels.{room_for, run_port, run_ports, Cut, unknown, known, start_cut, AreRows, fed_by, fed_rows, open_rows, begun, along, run_set, roomy_set, passed, Leads, RestsSeeing, HasDue}
use Rattle.raw_rows.proofs.Ports.{roomy_more}
use Rattle.raw_rows.proofs.Opening.{known_is}
use Rattle.raw_rows.proofs.Led.{StandsAt, Rested, rested}
use Rattle.raw_rows.proofs.Kernels.{take_take, Reaches, Passes, passes, reach, kernels, then_reaches, lawful_append, end_append, frame_at, before_long, seen_small, seen_wide, seen_long, fed_rooms}
use Rattle.raw_rows.proofs.Beginning.{start_constants, start_stands_at}

none_given : (s : Stream) (qs : List ℕ) (i : ℕ) → words_of (slice_get (map (run_port s []) qs) i) ≡ []
none_given s [] i = refl
none_given s (q ∷ qs) zero = refl
none_given s (q ∷ qs) (suc i) = none_given s qs i

has_port : (ports : List PortProgram) (q n : ℕ) → n < capacity_of (slice_get ports q) → q < length ports
has_port ports q n h = by (slice_get ports q) refl h where
  by : (o : Option PortProgram) → slice_get ports q ≡ o → n < capacity_of o → q < length ports
  by None e g = absurd (omega (arith, g))
  by (Some port) e g = slice_get_within ports q port e

module _ (each : EachGivesWords) (set_ : ProgramSet) (s : Stream) (valid : IsSet set_) (named : AreNamed s) (ports : length s.sources ≤ length set_.ports) (all : List (List ℕ)) (are : AreRows s all)
    (room : (q : ℕ) → room_for s q all ≤ capacity_of (slice_get set_.ports q)) where
  abbrev x : MachineState
  x = start (fed_rows set_ s all)

  -- steps that come to rest, with what each sink is due but for the last words; where the run with terms has halted, so have they
  pub record ComesToRest (lacks : List ℕ) (at : TermState) : Type 0 where
    pub steps : List ℕ
    pub lawful : IsLawfulFrom (fed_rows set_ s all) x steps
    pub quiet : IsQuiet (fed_rows set_ s all) (end_from (fed_rows set_ s all) x steps)
    pub due : HasDue s (tile_count set_.topo) (rows_of s (first_words s) all) lacks (end_from (fed_rows set_ s all) x steps)
    pub halted : NoneIs is_unhalted at.state → (p : ℕ) (l : Local) → slice_get (end_from (fed_rows set_ s all) x steps).locals p ≡ Some l → is_unhalted l ≡ false

  -- from a cut
  from_cut : (cut : Cut) → AreWordNodes cut.at.nodes → (b used : ℕ) → (there : Reaches each set_ s valid named ports all are room x cut b used)
      → (carried : List Node) → AreWordNodes carried → values_from (carried_over s (first_words s) (take b all)) 0 [] carried ≡ carried_over s (first_words s) (take b all)
      → (ending lacks : List ℕ) (m limit : ℕ) → (rests : RestsSeeing set_ s limit carried cut ending lacks m) → cut.window ≤ m → length all ≡ b + m → used + limit ≤ set_.limit → ComesToRest lacks rests.at
  from_cut cut constants b used there carried carried_words are_c ending lacks m limit rests sees long few =
      let rows : List (List ℕ) = take m (drop b all) in
      let many_rows : length rows ≡ m = seen_long each set_ s valid named ports all are room b m (omega (arith, long)) in
      let z : MachineState = end_from (fed_rows set_ s all) x there.steps in
      let at : StandsAt each set_ s valid cut (take b all) (take cut.window rows) used z = subst (λ ws. StandsAt each set_ s valid cut (take b all) ws used z) (sym (take_take cut.window m (drop b all) sees)) there.stands in
      let nothing : drop m (drop b all) ≡ [] = drop_of_length-le (drop b all) (omega (arith, length-drop b all, long)) in
      let seen : RestsSeeing set_ s limit carried cut ending lacks (length rows) = record {
        at = rests.at;
        goes = subst (λ k. along (run_set set_ s limit (open_rows s k)) (begun s carried k cut) ending ≡ Some rests.at) (sym many_rows) rests.goes;
        quiet = subst (λ k. IsQuiet (roomy_set set_ s limit (open_rows s k)) rests.at.state) (sym many_rows) rests.quiet;
        due = subst (λ k. HasDue s (tile_count set_.topo) (passed s carried rests.at (open_rows s k)).values lacks rests.at.state) (sym many_rows) rests.due;
      } in
      let last : Rested each set_ s valid (take b all) rows (before_long each set_ s valid named ports all are room b) (seen_wide each set_ s valid named ports all are room b m) (seen_small each set_ s valid named ports all are room b m) (row_constants s named) limit carried carried_words
      are_c set_.limit (fed_by s all 0 set_.ports) z ending lacks rests.at =
      rested each set_ s valid (take b all) rows (before_long each set_ s valid named ports all are room b) (seen_wide each set_ s valid named ports all are room b m) (seen_small each set_ s valid named ports all are room b m) (row_constants s named) limit carried carried_words
      are_c cut constants ending lacks seen used z at set_.limit (fed_by s all 0 set_.ports)
      (λ p. words_of (slice_get (run_ports s (length set_.ports) (drop m (drop b all))) (p - 2 * tile_count set_.topo)))
      (frame_at each set_ s valid named ports all are room b m limit used few)
      (λ p. ap (λ xs. words_of (slice_get (run_ports s (length set_.ports) xs) (p - 2 * tile_count set_.topo))) nothing ∙ none_given s (range_with_len 0 (length set_.ports)) (p - 2 * tile_count set_.topo))
      (λ p k h. roomy_more s rows 0 (length set_.ports) (p - 2 * tile_count set_.topo) (has_port set_.ports (p - 2 * tile_count set_.topo) k (subst (λ c. k < c) (fed_rooms s all set_.ports 0 (p - 2 * tile_count set_.topo)) h))) in
      let whole : take b all ++ rows ≡ all = ap (λ ws. take b all ++ ws) (sym (append-nil rows) ∙ ap (λ ws. rows ++ ws) (sym nothing) ∙ take-append-drop m (drop b all)) ∙ take-append-drop b all in
      let e : MachineState = end_from (fed_rows set_ s all) z ending in
      let ends : e ≡ end_from (fed_rows set_ s all) x (there.steps ++ ending) = end_append each set_ s valid named ports all are room there.steps ending x in
      record {
        steps = there.steps ++ ending;
        lawful = lawful_append each set_ s valid named ports all are room there.steps ending x there.lawful last.lawful;
        quiet = subst (λ k. IsQuiet (fed_rows set_ s all) k) ends last.quiet;
        due = subst (λ k. HasDue s (tile_count set_.topo) (rows_of s (first_words s) all) lacks k) ends (subst (λ rs. HasDue s (tile_count set_.topo) (rows_of s (first_words s) rs) lacks e) whole last.due);
        halted = λ none. subst (λ (k : MachineState). (p : ℕ) (l : Local) → slice_get k.locals p ≡ Some l → is_unhalted l ≡ false) ends (last.halted none);
      }

  -- through n kernels
  pub comes_to_rest : (cut : Cut) → AreWordNodes cut.at.nodes → (opening : List ℕ) (first_rows first_limit : ℕ) → Leads set_ s first_limit (known s) (start_cut set_) opening first_rows cut
      → (kernel : List ℕ) (r limit n : ℕ) → ((j : ℕ) → j < n → Passes each set_ s valid named ports all are room cut cut limit (unknown s) kernel r (first_rows + j * r))
      → (carried : List Node) → AreWordNodes carried → values_from (carried_over s (first_words s) (take (first_rows + n * r) all)) 0 [] carried ≡ carried_over s (first_words s) (take (first_rows + n * r) all)
      → (ending lacks : List ℕ) (m last_limit : ℕ) → (rests : RestsSeeing set_ s last_limit carried cut ending lacks m) → cut.window ≤ m → length all ≡ first_rows + n * r + m
      → first_limit + n * limit + last_limit ≤ set_.limit → ComesToRest lacks rests.at
  comes_to_rest cut constants opening first_rows first_limit leads kernel r limit n each_passes carried carried_words are_c ending lacks m last_limit rests sees long few =
      let rows_same : 0 + first_rows ≡ first_rows = omega arith in
      let limit_same : 0 + first_limit ≡ first_limit = omega arith in
      let from_start : Reaches each set_ s valid named ports all are room x cut (0 + first_rows) (0 + first_limit) =
      reach each set_ s valid named ports all are room (start_cut set_) cut first_limit (known s) opening first_rows (known_constants (first_words s) (first_are_words s named)) (start_constants each set_ s valid) constants (omega arith) 0 0
      (passes each set_ s valid named ports all are room (start_cut set_) cut first_limit (known s) opening first_rows 0 leads) (known_is s (first_words s) refl) (omega (arith, long, sees)) (omega (arith, few)) x (start_stands_at each set_ s valid all) in
      let opens : Reaches each set_ s valid named ports all are room x cut first_rows first_limit =
      subst (λ k. Reaches each set_ s valid named ports all are room x cut k first_limit) rows_same (subst (λ k. Reaches each set_ s valid named ports all are room x cut (0 + first_rows) k) limit_same from_start) in
      let more : Reaches each set_ s valid named ports all are room (end_from (fed_rows set_ s all) x opens.steps) cut (first_rows + n * r) (first_limit + n * limit) =
      kernels each set_ s valid named ports all are room cut limit r kernel n first_rows first_limit constants each_passes (omega (arith, long, sees)) (omega (arith, few)) (end_from (fed_rows set_ s all) x opens.steps) opens.stands in
      from_cut cut constants (first_rows + n * r) (first_limit + n * limit)
      (then_reaches each set_ s valid named ports all are room x cut cut first_rows (first_rows + n * r) first_limit (first_limit + n * limit) opens more) carried carried_words are_c ending lacks m last_limit rests sees long few
