-- A set of which there is a proof of all rows computes them.
use Rattle.std.proofs.Common.{◌≡◌, ℕ, ◌+◌, ◌-◌, ◌*◌, ◌^◌, ◌<◌, ◌≤◌, false, cond, List, [], ◌∷◌, ◌++◌, length, map, take, drop, Option, Some, None, refl, sym, ap, ◌∙◌, subst, ⊎_elim, arith}
use Rattle.std.specs.Prelude.{slice_get, nat_lt, option_map, not, ◌==◌}
use Rattle.std.specs.List.{flat_map, range_with_len}
use Rattle.std.proofs.Math.Nat.{suc-mul, mul-le-mul_right}
use Rattle.std.proofs.lemmas.Bool.{le-ltb}
use Rattle.std.proofs.lemmas.List.{append-nil, length-append, length-map, length-take-le, nil_from_length}
use Rattle.std.proofs.lemmas.List.FromFn.{length-range_with_len}
use Rattle.std.proofs.lemmas.Option.{slice_get_cases}
use Rattle.raw_tile_isa.specs.Words.{EachGivesWords}
use Rattle.raw_grid.specs.declared.parts.PortKind.{PortKind}
use Rattle.raw_grid.specs.declared.parts.PortKind.TheVariants as kind
use Rattle.raw_grid.specs.declared.parts.PortPlace.{PortPlace}
use Rattle.raw_grid.specs.declared.parts.ProcKind.TheVariants as proc
use Rattle.raw_grid.specs.Topology.{Topology, tile_count, port_proc, kind_at}
use Rattle.raw_model.specs.Program.{ProgramSet, PortProgram, IsSet, IsOfKind}
use Rattle.raw_model.specs.Local.{Local, Tile, Switch, Source, Sink}
use Rattle.raw_model.specs.Machine.{words_of, capacity_of}
use Rattle.raw_model.specs.Start.{MachineState, Fits, start}
use Rattle.raw_model.specs.Rest.{IsRun, end_from}
use Rattle.raw_model.specs.Outcomes.{Done, outcome, is_unhalted}
use Rattle.raw_model.specs.Parts.{got_of, received}
use Rattle.raw_model.specs.Fed.{fed}
use Rattle.raw_model.proofs.Fed.{all_at, fed_set}
use Rattle.raw_depth.proofs.Locals.{fits_at}
use Rattle.raw_flow.specs.declared.node.Node.{Node}
use Rattle.raw_flow.specs.declared.node.Node.TheVariants as node
use Rattle.raw_flow.specs.Flows.{values_from, outs_of}
use Rattle.raw_term.specs.Claims.{AreWords}
use Rattle.raw_term.proofs.Terms.{Holds, get_left, none_some}
use Rattle.raw_term.proofs.Image.{Pairs}
use Rattle.raw_term.proofs.Claims.{Laws}
use Rattle.raw_stream.specs.Streams.{Stream, AreNamed, first_words, rows_of, due_at, due_to}
use Rattle.raw_stream.specs.Unrolled.{width, row_words, all_rows, unrolled, EachUnrolledIsRows}
use Rattle.raw_stream.specs.Kept.{due_count}
use Rattle.raw_stream.proofs.Lists.{get_right}
use Rattle.raw_row_terms.specs.RowTerms.{carried_over, AreWordNodes, AllWords}
use Rattle.raw_row_terms.specs.RowClaims.{has_words, takes_in_all, misfed, got_at, HasPortsOf}
use Rattle.raw_row_terms.specs.Right.{IsRightInRows, IsMetInRows}
use Rattle.raw_row_terms.proofs.Placing.{rows_many}
use Rattle.raw_row_terms.proofs.Firsts.{known_constants}
use Rattle.raw_row_terms.proofs.Counts.{find_none, same_count, due_long, pieces_same}
use Rattle.raw_row_terms.proofs.Received.{received_at}
use Rattle.raw_row_terms.proofs.Meeting.{words_are}
use Rattle.raw_rows.specs.Given.{given_by}
use Rattle.raw_rows.specs.Kernels.{joined, room_for, unknown, fed_by, fed_rows, HasDue, AreRows}
use Rattle.raw_rows.specs.Lengths.{with_counters, counted, counter_terms, LengthProof, counters_at, last_carried, IsLengthProof, EachLengthIsMet, EachLengthMeets}
use Rattle.raw_rows.proofs.Inputs.{words_held}
use Rattle.raw_rows.proofs.Opening.{next_as_many, unknown_constants}
use Rattle.raw_rows.proofs.Kernels.{each_append, Passes, carried_long, before_words}
use Rattle.raw_rows.proofs.Counters.{with_named, with_carried, with_due, with_width, with_given, counted_long, then_known}
use Rattle.raw_rows.proofs.Feeding.{are_rows, all_fed}
use Rattle.raw_rows.proofs.Ended.{ComesToRest, comes_to_rest}
use Rattle.raw_rows.proofs.Halting.{halted_done}

-- as many places as are due of rows
room_counted : (s : Stream) (q : ℕ) (rows : List (List ℕ)) → room_for s q rows ≡ length rows * length (due_at s q)
room_counted s q [] = omega arith
room_counted s q (words ∷ rows) =
    length-append (due_at s q) (flat_map (λ (words : List ℕ). due_at s q) rows) ∙ omega (arith, room_counted s q rows, suc-mul (length rows) (length (due_at s q)))

-- what a port is
port_kind : (topo : Topology) (q : ℕ) (place : PortPlace) → slice_get topo.places q ≡ Some place → kind_at topo (2 * tile_count topo + q) ≡ Some (port_proc place.kind)
port_kind topo q place is =
    let n : ℕ = tile_count topo in
    let p : ℕ = 2 * n + q in
    let left : p - 2 * n ≡ q = omega arith in
    let rest : Option _ = option_map (λ (it : PortPlace). port_proc it.kind) (slice_get topo.places (p - 2 * n)) in
    ap (λ b. cond b (Some proc.Tile) (cond (nat_lt p (2 * n)) (Some proc.Switch) rest)) (le-ltb p n (omega arith))
    ∙ ap (λ b. cond b (Some proc.Switch) rest) (le-ltb p (2 * n) (omega arith))
    ∙ ap (λ j. option_map (λ (it : PortPlace). port_proc it.kind) (slice_get topo.places j)) left
    ∙ ap (option_map (λ (it : PortPlace). port_proc it.kind)) is

module _ (set_ : ProgramSet) (s : Stream) (w : LengthProof) (valid : IsSet set_) (named : AreNamed s) (ports : HasPortsOf set_ s) (counts : misfed set_ s ≡ None) (proof : IsLengthProof set_ s w)
    (room : (q : ℕ) → due_count s q ≤ capacity_of (slice_get set_.ports q)) (steps : w.first_limit + w.kernels * w.limit + w.last_limit ≤ set_.limit) (inputs : List ℕ) (are : AreWords set_ inputs) where
  abbrev with : Stream
  with = with_counters s w.counters

  abbrev rows : List (List ℕ)
  rows = map (row_words s inputs) (range_with_len 0 s.count)

  small : AllWords inputs
  small = all_at (λ (x : ℕ). x < 2 ^ 32) inputs are.words

  rows_long : length rows ≡ s.count
  rows_long = length-map (range_with_len 0 s.count) (row_words s inputs) ∙ length-range_with_len 0 s.count

  with_names : AreNamed with
  with_names = with_named s named w.counters proof.counters

  with_rows : AreRows with rows
  with_rows i words e =
      let row = are_rows s inputs small 0 s.count i words e in
      record { many = row.many ∙ sym (with_width s named w.counters proof.counters); small = row.small }

  with_ports : length with.sources ≤ length set_.ports
  with_ports = omega (arith, ports.sources)

  with_room : (q : ℕ) → room_for with q rows ≤ capacity_of (slice_get set_.ports q)
  with_room q = let many : room_for with q rows ≡ due_count s q = room_counted with q rows ∙ ap (λ n. n * length (due_at s q)) rows_long in omega (arith, many, room q)

  same_ports : (k : ℕ) (its : List PortProgram) → fed_by s rows k its ≡ fed_by with rows k its
  same_ports k [] = refl
  same_ports k (port ∷ its) =
      ap (λ xs. record port { words = xs } ∷ fed_by s rows (k + 1) its) (sym (with_given s named w.counters proof.counters k rows)) ∙ ap (λ ps. record port { words = given_by with k rows } ∷ ps) (same_ports (k + 1) its)

  -- the set that is fed with the words is the one that is fed with the rows
  same_set : fed set_ inputs ≡ fed_rows set_ with rows
  same_set =
      ap (λ ps. record set_ { ports = ps })
      (all_fed s inputs set_.ports (omega (arith, ports.sources)) (are.each ∙ sym (words_are set_ s ports counts)) each_port ∙ same_ports 0 set_.ports)
    where
      each_port : (i : ℕ) → i < length set_.ports → length (words_of (slice_get set_.ports i)) ≡ s.count * width s i
      each_port i lt =
          let same : 0 + i ≡ i = omega arith in
          subst (λ j. has_words set_ j ≡ takes_in_all s j) same
          (same_count (has_words set_ (0 + i)) (takes_in_all s (0 + i)) (find_none (λ q. not (has_words set_ q == takes_in_all s q)) 0 (length set_.ports) counts i lt))

  -- what is carried behind so many rows
  module _ (b : ℕ) (within : b ≤ s.count) where
    abbrev own : List ℕ
    own = carried_over s (first_words s) (take b rows)

    own_long : length own ≡ length (first_words s)
    own_long = carried_long s (first_words s) (take b rows) (next_as_many s) refl

    carried_is : carried_over with (first_words with) (take b rows) ≡ own ++ counted s w.counters b
    carried_is = with_carried s named w.counters proof.counters (take b rows) ∙ ap (λ n. own ++ counted s w.counters n) (length-take-le b rows (omega (arith, within, rows_long)))

    -- the terms of counters name them
    counters_named : (more W : List ℕ) → ((i x : ℕ) → slice_get (carried_over with (first_words with) (take b rows) ++ more) i ≡ Some x → Holds W (1 + i) x) → Pairs (Holds W) (counter_terms s w.counters) (counted s w.counters b)
    counters_named more W has =
        let D : List ℕ = counted s w.counters b in
        let has' : (i x : ℕ) → slice_get ((own ++ D) ++ more) i ≡ Some x → Holds W (1 + i) x = subst (λ xs. (i x : ℕ) → slice_get (xs ++ more) i ≡ Some x → Holds W (1 + i) x) carried_is has in
        subst (λ n. Pairs (Holds W) (range_with_len (1 + length (first_words s)) n) D) (counted_long s named w.counters proof.counters b)
        (words_held W D (1 + length (first_words s)) (λ i x e. let same : 1 + (length own + i) ≡ 1 + length (first_words s) + i = omega (arith, own_long) in
        subst (λ j. Holds W j x) same (has' (length own + i) x (get_left (own ++ D) more (length own + i) x (get_right own D i x e)))))

  -- the j-th kernel
  kernel_passes : (each : EachGivesWords) (j : ℕ) → j < w.kernels → Passes each set_ with valid with_names with_ports rows with_rows with_room w.cut w.cut w.limit (unknown with) w.kernel w.rows (w.first_rows + j * w.rows)
  kernel_passes each j lt = record {
    ins = counter_terms s w.counters;
    vals = counters_at s w j;
    looks = w.looks;
    words = proof.looks;
    name = λ W has. counters_named (w.first_rows + j * w.rows) within (joined (take (w.rows + w.cut.window) (drop (w.first_rows + j * w.rows) rows))) W has;
    terms = proof.steady.terms;
    leads = proof.steady.leads;
    some = λ i below. let it = proof.steady.counted i below in (it.place, it.is, it.some j lt);
  }
    where
      within : w.first_rows + j * w.rows ≤ s.count
      within = let less : j * w.rows ≤ w.kernels * w.rows = mul-le-mul_right w.rows (omega (arith, lt)) in omega (arith, less, proof.count)

  -- what is carried into the ending
  last_is : values_from (carried_over with (first_words with) (take (w.first_rows + w.kernels * w.rows) rows)) 0 [] (last_carried s w) ≡ carried_over with (first_words with) (take (w.first_rows + w.kernels * w.rows) rows)
  last_is =
      let b : ℕ = w.first_rows + w.kernels * w.rows in
      let within : b ≤ s.count = omega (arith, proof.count) in
      subst (λ c. values_from c 0 [] (last_carried s w) ≡ c) (sym (carried_is b within)) (then_known (own b within) (counted s w.counters b) (length (first_words s)) (own_long b within))

  last_words : (each : EachGivesWords) → AreWordNodes (last_carried s w)
  last_words each v word e =
      each_append (λ (n : Node). (x : ℕ) → n ≡ node.Const x → x < 2 ^ 32) (unknown s) (map (λ (x : ℕ). node.Const x) D)
      (λ i n f x g. unknown_constants (length (first_words s)) i x (f ∙ ap (λ m. Some m) g)) (λ i n f x g. known_constants D counters_small i x (f ∙ ap (λ m. Some m) g)) v (node.Const word) e word refl
    where
      b : ℕ
      b = w.first_rows + w.kernels * w.rows

      D : List ℕ
      D = counters_at s w w.kernels

      counters_small : AllWords (counters_at s w w.kernels)
      counters_small i x f =
          let c : ℕ = w.first_rows + w.kernels * w.rows in
          let within : c ≤ s.count = omega (arith, proof.count) in
          let all : AllWords (own c within ++ counted s w.counters c) = subst AllWords (carried_is c within) (before_words each set_ with valid with_names with_ports rows with_rows with_room c) in
          all (length (own c within) + i) x (get_right (own c within) (counted s w.counters c) i x f)

  -- a run that comes to rest with all that is due, halted
  module _ (t : MachineState) (fits : Fits (fed set_ inputs) t) (due : HasDue with (tile_count set_.topo) (rows_of with (first_words with) rows) [] t) where
    values_many : length (all_rows s inputs) ≡ s.count
    values_many = rows_many s (first_words s) rows ∙ rows_long

    nothing : (q : ℕ) → capacity_of (slice_get set_.ports q) ≡ 0 → due_to s q (all_rows s inputs) ≡ []
    nothing q none =
        let many : length (due_to s q (all_rows s inputs)) ≡ due_count s q = due_long s q (all_rows s inputs) ∙ ap (λ n. n * length (due_at s q)) values_many in
        nil_from_length (due_to s q (all_rows s inputs)) (omega (arith, many, room q, none))

    no_room : (q : ℕ) (place : PortPlace) → slice_get set_.topo.places q ≡ Some place → place.kind ≡ kind.Source → capacity_of (slice_get set_.ports q) ≡ 0
    no_room q place is source = by (slice_get set_.ports q) refl where
      of_kind : (k : PortKind) (port : PortProgram) → k ≡ kind.Source → IsOfKind k port → port.capacity ≡ 0
      of_kind kind.Source port e h = h
      of_kind kind.Sink port e h = absurd (cc e)

      by : (o : Option PortProgram) → slice_get set_.ports q ≡ o → capacity_of o ≡ 0
      by None e = refl
      by (Some port) e = of_kind place.kind port source (valid.port_kinds q place port is e)

    source_kind : (k : PortKind) → Some (port_proc k) ≡ Some proc.Source → k ≡ kind.Source
    source_kind kind.Source e = refl
    source_kind kind.Sink e = absurd (cc e)

    not_tile : (k : PortKind) → Some (port_proc k) ≡ Some proc.Tile → ⊥
    not_tile kind.Source e = cc e
    not_tile kind.Sink e = cc e

    not_switch : (k : PortKind) → Some (port_proc k) ≡ Some proc.Switch → ⊥
    not_switch kind.Source e = cc e
    not_switch kind.Sink e = cc e

    pub got_all : (q : ℕ) → q < length set_.topo.places → got_at set_ t q ≡ due_to s q (all_rows s inputs)
    got_all q below = ⊎_elim (λ found. by found.0 found.2 (slice_get t.locals p) refl) (λ past. absurd (omega (arith, past.0, below))) (slice_get_cases set_.topo.places q).1 where
      p : ℕ
      p = 2 * tile_count set_.topo + q

      at_sink : (got last : List ℕ) → due_to with (2 * tile_count set_.topo + q - 2 * tile_count set_.topo) (rows_of with (first_words with) rows) ≡ got ++ last → length last ≤ 0 → got ≡ due_to s q (all_rows s inputs)
      at_sink got last is few =
          let place : 2 * tile_count set_.topo + q - 2 * tile_count set_.topo ≡ q = omega arith in
          let none : last ≡ [] = nil_from_length last (omega (arith, few)) in
          sym (append-nil got) ∙ ap (λ xs. got ++ xs) (sym none) ∙ sym is ∙ ap (λ j. due_to with j (rows_of with (first_words with) rows)) place ∙ with_due s named w.counters proof.counters rows q

      by : (place : PortPlace) → slice_get set_.topo.places q ≡ Some place → (o : Option Local) → slice_get t.locals (2 * tile_count set_.topo + q) ≡ o → got_of o ≡ due_to s q (all_rows s inputs)
      by place there None e = sym (nothing q (no_room q place there (absurd (none_there e)))) where
        none_there : slice_get t.locals (2 * tile_count set_.topo + q) ≡ None → ⊥
        none_there f = ⊎_elim (λ found. none_some found.0 (sym f ∙ found.2)) (λ past. omega (arith, past.0, fits.processors, below)) (slice_get_cases t.locals (2 * tile_count set_.topo + q)).1
      by place there (Some (Tile l)) e = absurd (not_tile place.kind (sym (port_kind set_.topo q place there) ∙ (fits.locals (2 * tile_count set_.topo + q) (Tile l) e).0))
      by place there (Some (Switch l)) e = absurd (not_switch place.kind (sym (port_kind set_.topo q place there) ∙ (fits.locals (2 * tile_count set_.topo + q) (Switch l) e).0))
      by place there (Some (Source l)) e = sym (nothing q (no_room q place there (source_kind place.kind (sym (port_kind set_.topo q place there) ∙ (fits.locals (2 * tile_count set_.topo + q) (Source l) e).0))))
      by place there (Some (Sink l)) e = let last = due (2 * tile_count set_.topo + q) l e in at_sink l.got last.0 last.1 (omega (arith, last.2))

pub lengths_are_met : Laws → EachLengthIsMet
lengths_are_met laws set_ s w valid has_rows ports counts proof enough inputs are =
    let each : EachGivesWords = laws.words in
    let named : AreNamed s = has_rows.named in
    let whole : ProgramSet = fed set_ inputs in
    let is_set : IsSet whole = fed_set set_ inputs (small set_ s w valid named ports counts proof enough.room enough.steps inputs are) valid in
    let same : whole ≡ fed_rows set_ (with_counters s w.counters) (rows set_ s w valid named ports counts proof enough.room enough.steps inputs are) = same_set set_ s w valid named ports counts proof enough.room enough.steps inputs are in
    let it : ComesToRest each set_ (with_counters s w.counters) valid (with_names set_ s w valid named ports counts proof enough.room enough.steps inputs are) (with_ports set_ s w valid named ports counts proof enough.room enough.steps inputs are)
    (rows set_ s w valid named ports counts proof enough.room enough.steps inputs are) (with_rows set_ s w valid named ports counts proof enough.room enough.steps inputs are) (with_room set_ s w valid named ports counts proof enough.room enough.steps inputs are) [] proof.ends.rests.at =
    comes_to_rest each set_ (with_counters s w.counters) valid (with_names set_ s w valid named ports counts proof enough.room enough.steps inputs are) (with_ports set_ s w valid named ports counts proof enough.room enough.steps inputs are)
    (rows set_ s w valid named ports counts proof enough.room enough.steps inputs are) (with_rows set_ s w valid named ports counts proof enough.room enough.steps inputs are) (with_room set_ s w valid named ports counts proof enough.room enough.steps inputs are)
    w.cut proof.constants w.opening w.first_rows w.first_limit proof.opens w.kernel w.rows w.limit w.kernels (kernel_passes set_ s w valid named ports counts proof enough.room enough.steps inputs are each)
    (last_carried s w) (last_words set_ s w valid named ports counts proof enough.room enough.steps inputs are each) (last_is set_ s w valid named ports counts proof enough.room enough.steps inputs are) w.ending [] w.last_rows w.last_limit proof.ends.rests proof.window
    (rows_long set_ s w valid named ports counts proof enough.room enough.steps inputs are ∙ sym proof.count) enough.steps in
    let run : IsRun whole it.steps = subst (λ (g : ProgramSet). IsRun g it.steps) (sym same) (record { lawful = it.lawful; quiet = it.quiet }) in
    let x : MachineState = start whole in
    let t : MachineState = end_from whole x it.steps in
    let there : end_from (fed_rows set_ (with_counters s w.counters) (rows set_ s w valid named ports counts proof enough.room enough.steps inputs are)) (start (fed_rows set_ (with_counters s w.counters) (rows set_ s w valid named ports counts proof enough.room enough.steps inputs are))) it.steps ≡ t =
    ap (λ (g : ProgramSet). end_from g (start g) it.steps) (sym same) in
    let fits : Fits whole t = fits_at whole it.steps is_set run.lawful in
    let done : outcome whole t ≡ Done =
    halted_done whole is_set t fits (subst (λ (k : MachineState). (p : ℕ) (l : Local) → slice_get k.locals p ≡ Some l → is_unhalted l ≡ false) there (it.halted proof.ends.halted)) in
    let got : (q : ℕ) → q < length set_.topo.places → got_at set_ t q ≡ due_to s q (all_rows s inputs) =
    got_all set_ s w valid named ports counts proof enough.room enough.steps inputs are t fits
    (subst (λ k. HasDue (with_counters s w.counters) (tile_count set_.topo) (rows_of (with_counters s w.counters) (first_words (with_counters s w.counters)) (rows set_ s w valid named ports counts proof enough.room enough.steps inputs are)) [] k) there it.due) in
    record {
      valid = is_set;
      some = (it.steps, run);
      right = λ others other.
          let ends : end_from whole x others ≡ t = laws.same_rest whole x it.steps others is_set (record { lawful = run.lawful; quiet = run.quiet }) (record { lawful = other.lawful; quiet = other.quiet }) in
          record { done = ap (λ k. outcome whole k) ends ∙ done; got = λ q lt. ap (λ (k : MachineState). got_at set_ k q) ends ∙ got q lt };
    }

-- and meets the unrolled flow
pub lengths_meet : Laws → EachUnrolledIsRows → EachLengthMeets
lengths_meet laws unrolls set_ s w valid has_rows ports counts proof enough inputs are =
    let met : IsMetInRows set_ s inputs = lengths_are_met laws set_ s w valid has_rows ports counts proof enough inputs are in
    let whole : ProgramSet = fed set_ inputs in
    record {
      valid = met.valid;
      some = met.some;
      right = λ others run.
          let t : MachineState = end_from whole (start whole) others in
          let right : IsRightInRows set_ s inputs t = met.right others run in
          let values : received t ≡ outs_of (unrolled s) inputs =
          received_at whole t (fits_at whole others met.valid run.lawful) (length s.sinks) (ports.sinks ∙ valid.each_port)
          ∙ pieces_same (got_at set_ t) (λ q. due_to s q (all_rows s inputs)) 0 (length s.sinks) (λ i lt. right.got (0 + i) (omega (arith, lt, ports.sinks, valid.each_port)))
          ∙ sym (unrolls s inputs has_rows.named) in
          record { done = right.done; counts = refl; values = values };
    }
