-- A run with terms that leads from one cut to another leads the machine from the one to the other, behind any rows.
use Rattle.std.proofs.Common.{◌≡◌, ℕ, zero, suc, ◌+◌, ◌-◌, ◌*◌, ◌<◌, ◌≤◌, false, List, [], ◌∷◌, ◌++◌, length, map, take, drop, Option, Some, None, refl, sym, ap, ◌∙◌, subst, arith, append_assoc, length-append}
use Rattle.std.specs.Prelude.{slice_get, slice_index}
use Rattle.std.specs.List.{range_with_len}
use Rattle.std.specs.Option.{option_map}
use Rattle.std.proofs.Math.Path.{fun_ext}
use Rattle.std.proofs.lemmas.List.{take-append-drop}
use Rattle.std.proofs.lemmas.Option.{slice_get-map}
use Rattle.raw_tile_isa.specs.Words.{EachGivesWords}
use Rattle.raw_grid.specs.Topology.{tile_count}
use Rattle.raw_model.specs.Program.{ProgramSet, PortProgram, IsSet}
use Rattle.raw_model.specs.Local.{Local, Tile, Switch, Sink}
use Rattle.raw_model.specs.Machine.{tile_code, port_program, words_of, capacity_of}
use Rattle.raw_model.specs.Start.{MachineState}
use Rattle.raw_model.specs.Rest.{IsLawfulFrom, end_from, IsQuiet}
use Rattle.raw_model.specs.Outcomes.{is_unhalted, NoneIs}
use Rattle.raw_model.proofs.Fed.{all_at}
use Rattle.raw_flow.specs.declared.node.Node.{Node}
use Rattle.raw_flow.specs.Flows.{values_from}
use Rattle.raw_stream.specs.Streams.{Stream, plain_nodes, valued, first_words, due_to, rows_of}
use Rattle.raw_term.specs.Claims.{ClaimTerms}
use Rattle.raw_term.specs.TermMachine.{TermState}
use Rattle.raw_term.proofs.Terms.{Holds, AreTerms, same_value, some_is, none_some, term_values}
use Rattle.raw_term.proofs.Image.{Pairs, AlikeWires, AlikeLocals, AlikeAt, local_at, locals_up, pairs_up, wires_up, pairs_length, alike_up}
use Rattle.raw_term.proofs.SwitchImage.{pairs_at}
use Rattle.raw_term.proofs.TileTerms.{none_holds}
use Rattle.raw_term.proofs.Rows.{AlikeLocal, each_kind, IsLawfulIns}
use Rattle.raw_term.proofs.Steps.{TermsStand, local_up, quiet_stands}
use Rattle.raw_term.proofs.Claims.{lawful_of}
use Rattle.raw_row_terms.specs.RowTerms.{placed, RowTerms, row_terms, carried_over, AreWordNodes, AllWords}
use Rattle.raw_row_terms.proofs.Placing.{Placed, all_placed, RowsPlaced, rows_placed, pairs_append, rows_many, pairs_due}
use Rattle.raw_rows.specs.Given.{row_width, given_by}
use Rattle.raw_rows.specs.Noted.{noted_at}
use Rattle.raw_rows.specs.Kernels.{joined, room_for, run_port, run_ports, Cut, renumbered, placed_cut, open_nodes, open_rows, carried_in, begun, passed, AtBoth, AtEach, IsLater, Arrives, LeadsNoting, RestsSeeing, HasDue, roomy_port}
use Rattle.raw_rows.proofs.Frames.{Framed, FramedState, each_framed, Frame, RunFramed, run_framed, quiet_framed}
use Rattle.raw_rows.proofs.Inputs.{AreWide, pairs_joined}
use Rattle.raw_rows.proofs.Locals.{IsValued, locals_placed, wires_placed, wires_back, rebased, IsSplit, AtRebased, at_arrives}
use Rattle.raw_rows.proofs.Along.{AreSome, GoesAlong, noting_stands, along_stands}
use Rattle.raw_rows.proofs.Ports.{words_append, rooms_append, words_few, rooms_few, due_room, carried_append, given_append, due_append, pairs_given, pairs_port, rows_same, rows_take, rows_drop, rooms_same, roomy_words, roomy_same}
use Rattle.raw_rows.proofs.Opening.{Opened, opened, open_terms, open_inputs}

-- each local state by its number
abbrev imap : (ℕ → Local → Local) → List Local → List Local
imap f [] = []
imap f (m ∷ ms) = f 0 m ∷ imap (λ p. f (suc p)) ms

get_imap : (f : ℕ → Local → Local) (ms : List Local) (p : ℕ) → slice_get (imap f ms) p ≡ option_map (f p) (slice_get ms p)
get_imap f [] p = refl
get_imap f (m ∷ ms) zero = refl
get_imap f (m ∷ ms) (suc p) = get_imap (λ q. f (suc q)) ms p

-- a part of a run that begins with more rows and a higher limit
frame_up : (set_ : ProgramSet) (small : ℕ) (few more : List PortProgram) (used : ℕ) (sent had : ℕ → List ℕ)
    → ((p : ℕ) → length (words_of (port_program (record set_ { limit = 0; ports = few }) p)) ≤ length (words_of (port_program (record set_ { limit = small; ports = more }) p)))
    → ((p : ℕ) → capacity_of (port_program (record set_ { limit = 0; ports = few }) p) ≤ capacity_of (port_program (record set_ { limit = small; ports = more }) p))
    → (t x : MachineState) → FramedState set_ 0 few used sent had t x → FramedState set_ small more used sent had t x
frame_up set_ small few more used sent had longer wider t x h = record { each = λ p. by p (slice_get t.locals p) (slice_get x.locals p) (h.each p); wires = h.wires } where
  one : (p : ℕ) (l m : Local) → Framed set_ 0 few used sent had p l m → Framed set_ small more used sent had p l m
  one p =
      each_framed set_ 0 few used sent had (λ q l m. Framed set_ small more used sent had q l m) p
      (λ l m g. (g.0, g.1, omega (arith, g.2)))
      (λ l m g. (g.0, g.1, omega (arith, g.2)))
      (λ l m g. (g.0, g.1, omega (arith, g.2, longer p)))
      (λ l m g. (g.0, g.1, omega (arith, g.2, wider p)))

  by : (p : ℕ) (o q : Option Local) → AtBoth (Framed set_ 0 few used sent had) p o q → AtBoth (Framed set_ small more used sent had) p o q
  by p None None g = tt
  by p None (Some m) g = absurd g
  by p (Some l) None g = absurd g
  by p (Some l) (Some m) g = one p l m g

-- the values of the nodes of a cut
abbrev pub cut_values : List ℕ → List (List ℕ) → Cut → List ℕ
cut_values carried rows cut = values_from (carried ++ joined rows) 0 [] cut.at.nodes

-- what is behind a part of a list of values
pub record IsBehind (zs ys : List ℕ) (many : ℕ) : Type 0 where
  pub rest : List ℕ
  pub is : zs ≡ ys ++ rest
  pub length_is : length rest ≡ many

pairs_split : (W xs last ys zs : List ℕ) → Pairs (Holds W) (xs ++ last) zs → Pairs (Holds W) xs ys → IsBehind zs ys (length last)
pairs_split W [] last [] zs h g = record { rest = zs; is = refl; length_is = sym (pairs_length (Holds W) last zs h) }
pairs_split W [] last (y ∷ ys) zs h g = absurd g
pairs_split W (x ∷ xs) last [] zs h g = absurd g
pairs_split W (x ∷ xs) last (y ∷ ys) [] h g = absurd h
pairs_split W (x ∷ xs) last (y ∷ ys) (z ∷ zs) h g =
    let more : IsBehind zs ys (length last) = pairs_split W xs last ys zs h.1 g.1 in
    record { rest = more.rest; is = ap (λ w. w ∷ zs) (same_value [] W x z y h.0 g.0) ∙ ap (λ ws. y ∷ ws) more.is; length_is = more.length_is }

module _ (each : EachGivesWords) (set_ : ProgramSet) (s : Stream) (valid : IsSet set_) where
  -- what sources have sent and sinks have got of these rows
  abbrev pub sent_of : List (List ℕ) → ℕ → List ℕ
  sent_of rows p = given_by s (p - 2 * tile_count set_.topo) rows

  abbrev pub had_of : List ℕ → List (List ℕ) → ℕ → List ℕ
  had_of carried rows p = due_to s (p - 2 * tile_count set_.topo) (rows_of s carried rows)

  -- a state of the machine stands at a cut, with these rows behind it and in sight; no processor has counted more than `used`
  pub record StandsAt (cut : Cut) (before window : List (List ℕ)) (used : ℕ) (x : MachineState) : Type 0 where
    pub part : MachineState
    pub locals : AtEach (IsValued (cut_values (carried_over s (first_words s) before) window cut)) cut.at.state.locals part.locals
    pub wires : part.wires ≡ map (valued (cut_values (carried_over s (first_words s) before) window cut)) cut.at.state.wires
    pub framed : FramedState set_ 0 (run_ports s (length set_.ports) window) used (sent_of before) (had_of (first_words s) before) part x

  -- steps that lead the machine to a cut
  pub record LedTo (large : ℕ) (many : List PortProgram) (x : MachineState) (steps : List ℕ) (cut : Cut) (before window : List (List ℕ)) (used : ℕ) : Type 0 where
    pub lawful : IsLawfulFrom (record set_ { limit = large; ports = many }) x steps
    pub stands : StandsAt cut before window used (end_from (record set_ { limit = large; ports = many }) x steps)

  module _ (before rows : List (List ℕ)) (long : length (carried_over s (first_words s) before) ≡ length (first_words s)) (wide : AreWide (row_width s) rows)
      (small : AllWords (carried_over s (first_words s) before ++ joined rows)) (constants : AreWordNodes (plain_nodes s)) where
    abbrev c : List ℕ
    c = carried_over s (first_words s) before

    abbrev inputs : List ℕ
    inputs = c ++ joined rows

    abbrev V : List Node → List ℕ
    V nodes = term_values inputs nodes

    abbrev ns : List (List ℕ)
    ns = open_rows s (length rows)

    abbrev qs : List ℕ
    qs = range_with_len 0 (length set_.ports)

    abbrev few : List PortProgram
    few = run_ports s (length set_.ports) rows

    abbrev nums : List PortProgram
    nums = run_ports s (length set_.ports) ns

    abbrev lawful : (p : ℕ) (i : ℕ) → IsLawfulIns (slice_get (tile_code set_ p) i)
    lawful = lawful_of set_ valid

    module _ (limit : ℕ) (carried : List Node) (carried_words : AreWordNodes carried) (are_c : values_from c 0 [] carried ≡ c) where
      open_start : Opened each s c rows long wide small carried carried_words are_c (open_nodes s (length rows))
      open_start = opened each s c rows long wide small carried carried_words are_c (open_nodes s (length rows)) (open_terms each s c rows long wide small) (open_inputs each s c rows long wide small)

      abbrev C0 : ClaimTerms
      C0 = carried_in s (open_nodes s (length rows)) carried

      rows_long : length ns ≡ length rows
      rows_long = rows_same s (Holds (V C0.nodes)) ns rows open_start.each_row

      abbrev room : (p : ℕ) → capacity_of (port_program (record set_ { limit = limit; ports = nums }) p) ≡ capacity_of (port_program (record set_ { limit = limit; ports = few }) p)
      room = λ p. rooms_same s ns rows rows_long qs (p - 2 * tile_count set_.topo)

      abbrev S : TermState → MachineState → Type 0
      S = TermsStand each inputs (record set_ { limit = limit }) nums few lawful room

      -- a cut in a table that has the terms of what is carried and of rows
      cut_placed : (cut : Cut) → AreWordNodes cut.at.nodes → (nodes : List Node) (cs carries : List ℕ) (xs window : List (List ℕ)) → AreTerms inputs nodes → Pairs (Holds (V nodes)) cs carries → AlikeWires (Holds (V nodes)) xs window
          → Placed each inputs nodes (placed nodes (cs ++ joined xs) cut.at.nodes) (cut_values carries window cut)
      cut_placed cut words nodes cs carries xs window are h g =
          all_placed each inputs (cs ++ joined xs) (carries ++ joined window) nodes 0 [] [] cut.at.nodes are (pairs_append (Holds (V nodes)) cs carries (joined xs) (joined window) h (pairs_joined (Holds (V nodes)) xs window g)) words tt

      -- a state at a cut stands for the state with terms with which the run begins
      begun_stands : (from : Cut) → AreWordNodes from.at.nodes → (used : ℕ) (x : MachineState) → (at : StandsAt from before (take from.window rows) used x) → S (begun s carried (length rows) from) at.part
      begun_stands from words used x at =
          let a = cut_placed from words C0.nodes C0.numbers c (take from.window ns) (take from.window rows) open_start.terms open_start.carries (rows_take s (Holds (V C0.nodes)) from.window ns rows open_start.each_row) in
          let A : ClaimTerms = placed C0.nodes (C0.numbers ++ joined (take from.window ns)) from.at.nodes in
          let W : List ℕ = V A.nodes in
          let VA : List ℕ = cut_values c (take from.window rows) from in
          record {
            terms = a.terms;
            has = λ i y e. a.keeps (1 + i) y (open_start.keeps (1 + i) y (open_inputs each s c rows long wide small i y e));
            fed = λ p. pairs_port s (Holds W) ns rows (wires_up (Holds (V C0.nodes)) (Holds W) a.keeps ns rows open_start.each_row) qs (p - 2 * tile_count set_.topo);
            alike = record {
              locals = locals_placed W VA A.numbers (none_holds inputs A.nodes a.terms) a.each_is from.at.state.locals at.part.locals at.locals;
              wires = subst (λ ws. AlikeWires (Holds W) (map (valued A.numbers) from.at.state.wires) ws) (sym at.wires) (wires_placed W VA A.numbers (none_holds inputs A.nodes a.terms) a.each_is from.at.state.wires);
            };
          }

      split_at : (r : ℕ) (p used : ℕ) → IsSplit set_ s limit few (run_ports s (length set_.ports) (drop r rows)) used (sent_of before) (had_of (first_words s) before) (sent_of (take r rows)) (had_of c (take r rows)) p
      split_at r p used =
          let q : ℕ = p - 2 * tile_count set_.topo in
          let whole : take r rows ++ drop r rows ≡ rows = take-append-drop r rows in
          let none : 0 + q ≡ q = omega arith in
          record {
            words =
                let all : length (words_of (slice_get (map (run_port s rows) qs) q)) ≡ length (words_of (slice_get (map (run_port s (take r rows)) qs) q)) + length (words_of (slice_get (map (run_port s (drop r rows)) qs) q)) =
                ap (λ xs. length (words_of (slice_get (map (run_port s xs) qs) q))) (sym whole) ∙ ap length (words_append s (take r rows) (drop r rows) qs q)
                ∙ length-append (words_of (slice_get (map (run_port s (take r rows)) qs) q)) (words_of (slice_get (map (run_port s (drop r rows)) qs) q)) in
                let first : length (words_of (slice_get (map (run_port s (take r rows)) qs) q)) ≤ length (given_by s q (take r rows)) =
                subst (λ j. length (words_of (slice_get (map (run_port s (take r rows)) qs) q)) ≤ length (given_by s j (take r rows))) none (words_few s (take r rows) 0 (length set_.ports) q) in
                omega (arith, all, first);
            room =
                let all : capacity_of (slice_get (map (run_port s rows) qs) q) ≡ capacity_of (slice_get (map (run_port s (take r rows)) qs) q) + capacity_of (slice_get (map (run_port s (drop r rows)) qs) q) =
                ap (λ xs. capacity_of (slice_get (map (run_port s xs) qs) q)) (sym whole) ∙ rooms_append s (take r rows) (drop r rows) qs q in
                let first : capacity_of (slice_get (map (run_port s (take r rows)) qs) q) ≤ room_for s q (take r rows) =
                subst (λ j. capacity_of (slice_get (map (run_port s (take r rows)) qs) q) ≤ room_for s j (take r rows)) none (rooms_few s (take r rows) 0 (length set_.ports) q) in
                let due : length (due_to s q (rows_of s c (take r rows))) ≡ room_for s q (take r rows) = due_room s (rows_of s c (take r rows)) (take r rows) (rows_many s c (take r rows)) q in
                omega (arith, all, first, due);
          }

      -- the ports of a part of the rows have no more words and no more places
      longer : (w : ℕ) (p : ℕ) → length (words_of (port_program (record set_ { limit = 0; ports = run_ports s (length set_.ports) (take w rows) }) p)) ≤ length (words_of (port_program (record set_ { limit = limit; ports = few }) p))
      longer w p =
          let q : ℕ = p - 2 * tile_count set_.topo in
          let all : length (words_of (slice_get (map (run_port s rows) qs) q)) ≡ length (words_of (slice_get (map (run_port s (take w rows)) qs) q)) + length (words_of (slice_get (map (run_port s (drop w rows)) qs) q)) =
          ap (λ xs. length (words_of (slice_get (map (run_port s xs) qs) q))) (sym (take-append-drop w rows)) ∙ ap length (words_append s (take w rows) (drop w rows) qs q)
          ∙ length-append (words_of (slice_get (map (run_port s (take w rows)) qs) q)) (words_of (slice_get (map (run_port s (drop w rows)) qs) q)) in
          omega (arith, all)

      wider : (w : ℕ) (p : ℕ) → capacity_of (port_program (record set_ { limit = 0; ports = run_ports s (length set_.ports) (take w rows) }) p) ≤ capacity_of (port_program (record set_ { limit = limit; ports = few }) p)
      wider w p =
          let q : ℕ = p - 2 * tile_count set_.topo in
          let all : capacity_of (slice_get (map (run_port s rows) qs) q) ≡ capacity_of (slice_get (map (run_port s (take w rows)) qs) q) + capacity_of (slice_get (map (run_port s (drop w rows)) qs) q) =
          ap (λ xs. capacity_of (slice_get (map (run_port s xs) qs) q)) (sym (take-append-drop w rows)) ∙ rooms_append s (take w rows) (drop w rows) qs q in
          omega (arith, all)

      -- a state at a cut, as the start of a part of the run that sees all these rows
      framed_from : (from : Cut) (used : ℕ) (x : MachineState) → (at : StandsAt from before (take from.window rows) used x) → FramedState set_ limit few used (sent_of before) (had_of (first_words s) before) at.part x
      framed_from from used x at =
          frame_up set_ limit (run_ports s (length set_.ports) (take from.window rows)) few used (sent_of before) (had_of (first_words s) before) (longer from.window) (wider from.window) at.part x at.framed

      -- a run that has arrived at a cut stands there
      arrived : (to : Cut) → AreWordNodes to.at.nodes → (at : TermState) (t x : MachineState) → S at t → (r used : ℕ)
          → Arrives set_ s (take r ns) (passed s carried at (take r ns)).values at.state (placed_cut (passed s carried at (take r ns)).nodes (passed s carried at (take r ns)).carried (drop r ns) to).state
          → FramedState set_ limit few used (sent_of before) (had_of (first_words s) before) t x → StandsAt to (before ++ take r rows) (drop r rows) (used + limit) x
      arrived to words at t x h r used is frame =
          let table : Opened each s c rows long wide small carried carried_words are_c at.nodes = opened each s c rows long wide small carried carried_words are_c at.nodes h.terms h.has in
          let C1 : ClaimTerms = carried_in s at.nodes carried in
          let R : RowTerms = row_terms s C1.nodes C1.numbers (take r ns) in
          let rows_are : RowsPlaced each inputs s constants C1.nodes R (carried_over s c (take r rows)) (rows_of s c (take r rows)) =
          rows_placed each inputs s constants C1.nodes C1.numbers c (take r ns) (take r rows) table.terms table.carries (rows_take s (Holds (V C1.nodes)) r ns rows table.each_row) in
          let seen : AlikeWires (Holds (V R.nodes)) ns rows = wires_up (Holds (V C1.nodes)) (Holds (V R.nodes)) rows_are.keeps ns rows table.each_row in
          let B : ClaimTerms = placed R.nodes (R.carried ++ joined (drop r ns)) to.at.nodes in
          let b : Placed each inputs R.nodes B (cut_values (carried_over s c (take r rows)) (drop r rows) to) =
          cut_placed to words R.nodes R.carried (carried_over s c (take r rows)) (drop r ns) (drop r rows) rows_are.terms rows_are.carries (rows_drop s (Holds (V R.nodes)) r ns rows seen) in
          let U : List ℕ = V B.nodes in
          let VB : List ℕ = cut_values (carried_over s c (take r rows)) (drop r rows) to in
          let none : Holds U 0 0 = none_holds inputs B.nodes b.terms in
          let keeps : (v y : ℕ) → Holds (V at.nodes) v y → Holds U v y = λ v y g. b.keeps v y (rows_are.keeps v y (table.keeps v y g)) in
          let alike : AlikeLocals (AlikeLocal U) at.state.locals t.locals = locals_up (AlikeLocal (V at.nodes)) (AlikeLocal U) (local_up (V at.nodes) U keeps) at.state.locals t.locals h.alike.locals in
          let wires_alike : AlikeWires (Holds U) at.state.wires t.wires = wires_up (Holds (V at.nodes)) (Holds U) keeps at.state.wires t.wires h.alike.wires in
          let given : ℕ → List ℕ = sent_of (take r rows) in
          let due : ℕ → List ℕ = had_of c (take r rows) in
          let later : List PortProgram = run_ports s (length set_.ports) (drop r rows) in
          let part : MachineState = record { locals = imap (rebased given due) t.locals; wires = t.wires } in
          let each_at : (p : ℕ) → AtRebased set_ s limit few later used (sent_of before) (had_of (first_words s) before) given due VB p (slice_get to.at.state.locals p) (slice_get t.locals p) (slice_get x.locals p) = λ p.
          at_arrives set_ s limit few later used (sent_of before) (had_of (first_words s) before) given due U VB B.numbers none b.each_is (take r ns) R.values p
          (slice_get at.state.locals p) (slice_get to.at.state.locals p) (slice_get t.locals p) (slice_get x.locals p)
          (local_at (AlikeLocal U) at.state.locals t.locals alike p)
          (subst (λ o. AtBoth (IsLater s (tile_count set_.topo) (take r ns) R.values) p (slice_get at.state.locals p) o) (slice_get-map (renumbered B.numbers) to.at.state.locals p) (is.locals p))
          (pairs_length (Holds (V R.nodes)) (given_by s (p - 2 * tile_count set_.topo) (take r ns)) (given p) (pairs_given s (Holds (V R.nodes)) (take r ns) (take r rows) (rows_take s (Holds (V R.nodes)) r ns rows seen) (p - 2 * tile_count set_.topo)))
          (pairs_due s (Holds U) none R.values (rows_of s c (take r rows)) (wires_up (Holds (V R.nodes)) (Holds U) b.keeps R.values (rows_of s c (take r rows)) rows_are.each_row) (p - 2 * tile_count set_.topo))
          (split_at r p used)
          (frame.each p) in
          let here : AtEach (IsValued VB) to.at.state.locals part.locals = λ p. subst (λ o. AtBoth (IsValued VB) p (slice_get to.at.state.locals p) o) (sym (get_imap (rebased given due) t.locals p)) (each_at p).values in
          let framed : FramedState set_ 0 later (used + limit) (λ p. sent_of before p ++ given p) (λ p. had_of (first_words s) before p ++ due p) part x = record {
            each = λ p. subst (λ o. AtBoth (Framed set_ 0 later (used + limit) (λ p. sent_of before p ++ given p) (λ p. had_of (first_words s) before p ++ due p)) p o (slice_get x.locals p)) (sym (get_imap (rebased given due) t.locals p)) (each_at p).framed;
            wires = frame.wires;
          } in
          let carried_same : carried_over s c (take r rows) ≡ carried_over s (first_words s) (before ++ take r rows) = sym (carried_append s (first_words s) before (take r rows)) in
          let sent_same : (λ (p : ℕ). sent_of before p ++ given p) ≡ sent_of (before ++ take r rows) = fun_ext (λ p. sym (given_append s before (take r rows) (p - 2 * tile_count set_.topo))) in
          let had_same : (λ (p : ℕ). had_of (first_words s) before p ++ due p) ≡ had_of (first_words s) (before ++ take r rows) = fun_ext (λ p. sym (due_append s (first_words s) before (take r rows) (p - 2 * tile_count set_.topo))) in
          record {
            part = part;
            locals = subst (λ k. AtEach (IsValued (cut_values k (drop r rows) to)) to.at.state.locals part.locals) carried_same here;
            wires = subst (λ k. t.wires ≡ map (valued (cut_values k (drop r rows) to)) to.at.state.wires) carried_same
                (wires_back U VB B.numbers none b.each_is to.at.state.wires t.wires (subst (λ ws. AlikeWires (Holds U) ws t.wires) is.wires wires_alike));
            framed = subst (λ g. FramedState set_ 0 later (used + limit) (sent_of (before ++ take r rows)) g part x) had_same
                (subst (λ g. FramedState set_ 0 later (used + limit) g (λ p. had_of (first_words s) before p ++ due p) part x) sent_same framed);
          }

      -- These terms name these of the inputs; so nodes over them, placed in the table of a state, have their values.
      abbrev pub Name : List ℕ → List ℕ → Type 0
      Name ins vals = (nodes : List Node) → ((i x : ℕ) → slice_get inputs i ≡ Some x → Holds (V nodes) (1 + i) x) → Pairs (Holds (V nodes)) ins vals

      abbrev pub looking : List ℕ → List Node → TermState → TermState
      looking ins looks t = record { nodes = (placed t.nodes ins looks).nodes; state = t.state }

      looks_placed : (ins vals : List ℕ) (looks : List Node) → AreWordNodes looks → Name ins vals → (at : TermState) (t : MachineState) → S at t → Placed each inputs at.nodes (placed at.nodes ins looks) (values_from vals 0 [] looks)
      looks_placed ins vals looks words name at t h = all_placed each inputs ins vals at.nodes 0 [] [] looks h.terms (name at.nodes h.has) words tt

      looking_stands : (ins vals : List ℕ) (looks : List Node) → AreWordNodes looks → Name ins vals → (at : TermState) (t : MachineState) → S at t → S (looking ins looks at) t
      looking_stands ins vals looks words name at t h =
          let one : Placed each inputs at.nodes (placed at.nodes ins looks) (values_from vals 0 [] looks) = looks_placed ins vals looks words name at t h in
          let U : List ℕ = V at.nodes in
          let W : List ℕ = V (placed at.nodes ins looks).nodes in
          record {
            terms = one.terms;
            has = λ i x e. one.keeps (1 + i) x (h.has i x e);
            fed = λ p. pairs_up (Holds U) (Holds W) one.keeps (words_of (port_program (record set_ { limit = limit; ports = nums }) p)) (words_of (port_program (record set_ { limit = limit; ports = few }) p)) (h.fed p);
            alike = alike_up (AlikeLocal U) (AlikeLocal W) (Holds U) (Holds W) (local_up U W one.keeps) one.keeps at.state t h.alike;
          }

      -- each of these terms is that of one of these nodes, and its value is not 0
      abbrev pub AreLooked : List ℕ → List ℕ → List Node → List Node → List ℕ → Type 0
      AreLooked ins vals looks nodes terms =
          (i : ℕ) → i < length terms → (k : ℕ) × (slice_index (placed nodes ins looks).numbers k ≡ slice_index terms i) × (slice_index (values_from vals 0 [] looks) k ≡ 0 → ⊥)

      looked_some : (ins vals : List ℕ) (looks : List Node) → AreWordNodes looks → Name ins vals → (at : TermState) (t : MachineState) → S at t → (terms : List ℕ) → AreLooked ins vals looks at.nodes terms
          → AreSome (V (placed at.nodes ins looks).nodes) terms
      looked_some ins vals looks words name at t h terms some i lt =
          let one : Placed each inputs at.nodes (placed at.nodes ins looks) (values_from vals 0 [] looks) = looks_placed ins vals looks words name at t h in
          let W : List ℕ = V (placed at.nodes ins looks).nodes in
          let it = some i lt in
          let x : ℕ = slice_index (values_from vals 0 [] looks) it.0 in (
            x,
            subst (λ c. Holds W c x) it.1 (pairs_at (Holds W) (none_holds inputs (placed at.nodes ins looks).nodes one.terms) (placed at.nodes ins looks).numbers (values_from vals 0 [] looks) one.each_is it.0),
            it.2,
          )

      -- a list of steps that leads from one cut to another leads the machine there, where no term that it notes is 0
      pub led : (r : ℕ) (from to : Cut) → AreWordNodes from.at.nodes → AreWordNodes to.at.nodes → (ins vals : List ℕ) (looks : List Node) → AreWordNodes looks → Name ins vals
          → (steps terms : List ℕ) → LeadsNoting set_ s limit carried (looking ins looks (begun s carried (length rows) from)) steps r to (length rows) terms
          → AreLooked ins vals looks (begun s carried (length rows) from).nodes terms
          → (used : ℕ) (x : MachineState) → StandsAt from before (take from.window rows) used x → (large : ℕ) (many : List PortProgram) (later : ℕ → List ℕ)
          → Frame set_ limit large few many used (sent_of before) (had_of (first_words s) before) later → LedTo large many x steps to (before ++ take r rows) (drop r rows) (used + limit)
      led r from to from_words to_words ins vals looks words name steps terms leads some used x at large many later frame =
          let start : TermState = begun s carried (length rows) from in
          let stands : S start at.part = begun_stands from from_words used x at in
          let go : GoesAlong each inputs (record set_ { limit = limit }) nums few lawful room at.part steps leads.at =
          noting_stands each inputs (record set_ { limit = limit }) nums few lawful room steps (noted_at (looking ins looks start) []) at.part (noted_at leads.at terms) (looking_stands ins vals looks words name start at.part stands) leads.goes
          (looked_some ins vals looks words name start at.part stands terms some) in
          let run : RunFramed set_ limit large few many used (sent_of before) (had_of (first_words s) before) later frame at.part x steps =
          run_framed set_ limit large few many used (sent_of before) (had_of (first_words s) before) later frame steps at.part x (framed_from from used x at) go.allowed in
          record {
            lawful = run.lawful;
            stands = arrived to to_words leads.at (end_from (record set_ { limit = limit; ports = few }) at.part steps) (end_from (record set_ { limit = large; ports = many }) x steps) go.ends r used leads.arrives run.ends;
          }

      -- what a run with terms that has come to rest leaves in its sinks
      pub record Rested (large : ℕ) (many : List PortProgram) (x : MachineState) (steps : List ℕ) (lacks : List ℕ) (at : TermState) : Type 0 where
        pub lawful : IsLawfulFrom (record set_ { limit = large; ports = many }) x steps
        pub quiet : IsQuiet (record set_ { limit = large; ports = many }) (end_from (record set_ { limit = large; ports = many }) x steps)
        pub due : HasDue s (tile_count set_.topo) (rows_of s (first_words s) (before ++ rows)) lacks (end_from (record set_ { limit = large; ports = many }) x steps)
        pub halted : NoneIs is_unhalted at.state → (p : ℕ) (l : Local) → slice_get (end_from (record set_ { limit = large; ports = many }) x steps).locals p ≡ Some l → is_unhalted l ≡ false

      -- where the run with terms has halted, so has the machine
      halted_left : (at : TermState) (t x : MachineState) → S at t → (used : ℕ) → FramedState set_ limit few used (sent_of before) (had_of (first_words s) before) t x → NoneIs is_unhalted at.state
          → (p : ℕ) (l : Local) → slice_get x.locals p ≡ Some l → is_unhalted l ≡ false
      halted_left at t x h used frame none p l is =
          by (slice_get at.state.locals p) (slice_get t.locals p) (slice_get x.locals p) refl (local_at (AlikeLocal (V at.nodes)) at.state.locals t.locals h.alike.locals p) (frame.each p) is
        where
          by : (k m q : Option Local) → slice_get at.state.locals p ≡ k → AlikeAt (AlikeLocal (V at.nodes)) k m → AtBoth (Framed set_ limit few used (sent_of before) (had_of (first_words s) before)) p m q → q ≡ Some l → is_unhalted l ≡ false
          by k m None e a f i = none_some l i
          by k None (Some q) e a f i = absurd f
          by None (Some m) (Some q) e a f i = absurd a
          by (Some k) (Some m) (Some q) e a f i =
              let one : is_unhalted k ≡ is_unhalted m =
              each_kind (V at.nodes) (λ k m. is_unhalted k ≡ is_unhalted m) (λ k m g. ap (λ j. is_unhalted (Tile j)) g.rest) (λ k m g. ap (λ j. is_unhalted (Switch j)) g.0) (λ k m g. refl) (λ k m g. refl) k m a in
              let two : is_unhalted m ≡ is_unhalted q =
              each_framed set_ limit few used (sent_of before) (had_of (first_words s) before) (λ p m q. is_unhalted m ≡ is_unhalted q) p
              (λ m q g. sym (ap (λ j. is_unhalted (Tile j)) g.0)) (λ m q g. sym (ap (λ j. is_unhalted (Switch j)) g.0)) (λ m q g. refl) (λ m q g. refl) m q f in
              ap is_unhalted (sym (some_is q l i)) ∙ sym two ∙ sym one ∙ all_at (λ j. is_unhalted j ≡ false) at.state.locals none p k e

      due_left : (lacks : List ℕ) (at : TermState) (t x : MachineState) → S at t → (used : ℕ) → HasDue s (tile_count set_.topo) (passed s carried at ns).values lacks at.state
          → FramedState set_ limit few used (sent_of before) (had_of (first_words s) before) t x → HasDue s (tile_count set_.topo) (rows_of s (first_words s) (before ++ rows)) lacks x
      due_left lacks at t x h used has frame p m is =
          let table : Opened each s c rows long wide small carried carried_words are_c at.nodes = opened each s c rows long wide small carried carried_words are_c at.nodes h.terms h.has in
          let C1 : ClaimTerms = carried_in s at.nodes carried in
          let R : RowTerms = row_terms s C1.nodes C1.numbers ns in
          let rows_are : RowsPlaced each inputs s constants C1.nodes R (carried_over s c rows) (rows_of s c rows) =
          rows_placed each inputs s constants C1.nodes C1.numbers c ns rows table.terms table.carries table.each_row in
          let W : List ℕ = V R.nodes in
          let keeps : (v y : ℕ) → Holds (V at.nodes) v y → Holds W v y = λ v y g. rows_are.keeps v y (table.keeps v y g) in
          let q : ℕ = p - 2 * tile_count set_.topo in
          let due : Pairs (Holds W) (due_to s q R.values) (due_to s q (rows_of s c rows)) = pairs_due s (Holds W) (none_holds inputs R.nodes rows_are.terms) R.values (rows_of s c rows) rows_are.each_row q in
          at_sink W q (slice_get at.state.locals p) (slice_get t.locals p) refl
          (local_at (AlikeLocal (V at.nodes)) at.state.locals t.locals h.alike.locals p) (subst (λ o. AtBoth (Framed set_ limit few used (sent_of before) (had_of (first_words s) before)) p (slice_get t.locals p) o) is (frame.each p)) keeps due
        where
          at_sink : (W : List ℕ) (q : ℕ) (k l : Option Local) → slice_get at.state.locals p ≡ k → AlikeAt (AlikeLocal (V at.nodes)) k l → AtBoth (Framed set_ limit few used (sent_of before) (had_of (first_words s) before)) p l (Some (Sink m))
              → ((v y : ℕ) → Holds (V at.nodes) v y → Holds W v y) → Pairs (Holds W) (due_to s (p - 2 * tile_count set_.topo) (passed s carried at ns).values) (due_to s (p - 2 * tile_count set_.topo) (rows_of s c rows))
              → (last : List ℕ) × (due_to s (p - 2 * tile_count set_.topo) (rows_of s (first_words s) (before ++ rows)) ≡ m.got ++ last) × (length last ≤ slice_index lacks (p - 2 * tile_count set_.topo))
          at_sink W q (Some (Sink k)) (Some (Sink l)) e a f keeps due =
              let told = has p k e in
              let got : Pairs (Holds W) k.got l.got = pairs_up (Holds (V at.nodes)) (Holds W) keeps k.got l.got a.1 in
              let behind : IsBehind (due_to s (p - 2 * tile_count set_.topo) (rows_of s c rows)) l.got (length told.0) =
              pairs_split W k.got told.0 l.got (due_to s (p - 2 * tile_count set_.topo) (rows_of s c rows)) (subst (λ xs. Pairs (Holds W) xs (due_to s (p - 2 * tile_count set_.topo) (rows_of s c rows))) told.1 due) got in (
                behind.rest,
                due_append s (first_words s) before rows (p - 2 * tile_count set_.topo) ∙ ap (λ xs. had_of (first_words s) before p ++ xs) behind.is ∙ sym (append_assoc (had_of (first_words s) before p) l.got behind.rest)
                    ∙ ap (λ xs. xs ++ behind.rest) (sym f.1),
                omega (arith, behind.length_is, told.2),
              )
          at_sink W q (Some (Sink k)) None e a f keeps due = absurd a
          at_sink W q (Some (Sink k)) (Some _) e a f keeps due = absurd a
          at_sink W q (Some _) (Some (Sink l)) e a f keeps due = absurd a
          at_sink W q (Some _) (Some _) e a f keeps due = absurd f
          at_sink W q (Some _) None e a f keeps due = absurd a
          at_sink W q None (Some _) e a f keeps due = absurd a
          at_sink W q None None e a f keeps due = absurd f

      abbrev wide_ports : List (List ℕ) → List PortProgram
      wide_ports xs = map (roomy_port s xs) qs

      roomy_stands : (at : TermState) (t : MachineState) → S at t
          → TermsStand each inputs (record set_ { limit = limit + 1 }) (wide_ports ns) (wide_ports rows) lawful (λ p. roomy_same s ns rows rows_long qs (p - 2 * tile_count set_.topo)) at t
      roomy_stands at t h = record {
        terms = h.terms;
        has = h.has;
        fed = λ p.
            let q : ℕ = p - 2 * tile_count set_.topo in
            let H : ℕ → ℕ → Type 0 = Holds (V at.nodes) in
            subst (λ xs. Pairs H xs (words_of (slice_get (wide_ports rows) q))) (sym (roomy_words s ns qs q))
            (subst (λ xs. Pairs H (words_of (slice_get (map (run_port s ns) qs) q)) xs) (sym (roomy_words s rows qs q)) (h.fed p));
        alike = h.alike;
      }

      pub rested : (from : Cut) → AreWordNodes from.at.nodes → (steps : List ℕ) (lacks : List ℕ) → (rests : RestsSeeing set_ s limit carried from steps lacks (length rows))
          → (used : ℕ) (x : MachineState) → StandsAt from before (take from.window rows) used x → (large : ℕ) (many : List PortProgram) (later : ℕ → List ℕ)
          → Frame set_ limit large few many used (sent_of before) (had_of (first_words s) before) later → ((p : ℕ) → later p ≡ [])
          → ((p n : ℕ) → n < capacity_of (port_program (record set_ { limit = large; ports = many }) p) → capacity_of (port_program (record set_ { limit = limit; ports = few }) p) < capacity_of (port_program (record set_ { limit = limit + 1; ports = wide_ports rows }) p))
          → Rested large many x steps lacks rests.at
      rested from from_words steps lacks rests used x at large many later frame none_later more_room =
          let go : GoesAlong each inputs (record set_ { limit = limit }) nums few lawful room at.part steps rests.at =
          along_stands each inputs (record set_ { limit = limit }) nums few lawful room steps (begun s carried (length rows) from) at.part rests.at (begun_stands from from_words used x at) rests.goes in
          let run : RunFramed set_ limit large few many used (sent_of before) (had_of (first_words s) before) later frame at.part x steps =
          run_framed set_ limit large few many used (sent_of before) (had_of (first_words s) before) later frame steps at.part x (framed_from from used x at) go.allowed in
          let t : MachineState = end_from (record set_ { limit = limit; ports = few }) at.part steps in
          let quiet : IsQuiet (record set_ { limit = limit + 1; ports = wide_ports rows }) t =
          quiet_stands each inputs (record set_ { limit = limit + 1 }) (wide_ports ns) (wide_ports rows) lawful (λ p. roomy_same s ns rows rows_long qs (p - 2 * tile_count set_.topo)) rests.at t (roomy_stands rests.at t go.ends) rests.quiet in
          record {
            lawful = run.lawful;
            quiet = quiet_framed set_ limit large few many used (sent_of before) (had_of (first_words s) before) later frame (wide_ports rows) (λ p. roomy_words s rows qs (p - 2 * tile_count set_.topo)) more_room none_later t (end_from (record set_ { limit = large; ports = many }) x steps) run.ends quiet;
            due = due_left lacks rests.at t (end_from (record set_ { limit = large; ports = many }) x steps) go.ends used rests.due run.ends;
            halted = halted_left rests.at t (end_from (record set_ { limit = large; ports = many }) x steps) go.ends used run.ends;
          }
