-- What the turns of tiles, switches and ports make of them.
use Rattle.std.proofs.Common.{◌≡◌, ℕ, ◌+◌, ◌<◌, ◌≤◌, Bool, true, false, List, [], ◌∷◌, ◌++◌, length, drop, cond, ◌&&◌, inl, Option, Some, None, Ok, Err, refl, sym, ap, ap₂, ◌∙◌, subst, arith}
use Rattle.std.specs.Prelude.{slice_index, slice_index_or, nat_le, is_some, IsSomeAnd, Result, IfErr}
use Rattle.std.specs.Option.{option_to_list, option_map, IfSome}
use Rattle.std.specs.List.{All}
use Rattle.std.proofs.lemmas.List.{length_push}
use Rattle.std.proofs.lemmas.List.Elements.{All-nil, All-cons, All-append}
use Rattle.raw_network.specs.Network.{Sent, Row, count_of, values_on, fronts, taken, appended}
use Rattle.raw_network.specs.Runs.{sent_on}
use Rattle.raw_tile_isa.specs.Instruction.{Instruction, uses, is_rs, reads_rt, is_network, destination_register}
use Rattle.raw_switch_isa.specs.Instruction.{SwitchInstruction}
use Rattle.raw_grid.specs.declared.parts.WireId.{WireId}
use Rattle.raw_grid.specs.Wires.{wires_of, output_wire}
use Rattle.raw_model.specs.declared.marks.Mark.TheVariants.{Trapped}
use Rattle.raw_model.specs.declared.marks.Cause.TheVariants.{Pc}
use Rattle.raw_model.specs.Program.{ProgramSet}
use Rattle.raw_model.specs.Local.{Local, Tile, Switch, Source, Sink, TileLocal, SwitchLocal, PortLocal}
use Rattle.raw_model.specs.TileTable.{TileEffect, stops, next_instruction}
use Rattle.raw_model.specs.SwitchTable.{switch_row}
use Rattle.raw_model.specs.SwitchTable.{next_instruction as next_switch_instruction}
use Rattle.raw_model.specs.Machine.{machine_of, takes, sends, row, is_stopped, port_program, words_of, tile_code, switch_code, first_operand, second_operand, given_to, sent_to, tile_sends, tile_network_row, switch_network_row}
use Rattle.raw_tile.specs.declared.fire.TileOut.{TileOut}
use Rattle.raw_tile.specs.declared.fire.TileGiven.{TileGiven}
use Rattle.raw_tile.specs.Given.{IsGivenFor, values_of, out_of}
use Rattle.raw_processor.specs.declared.end_wires.EndWires.{EndWires}
use Rattle.raw_processor.specs.Ends.{AreEndsOf}
use Rattle.raw_processor.specs.Given.{sent_out}
use Rattle.raw_serial.specs.Needs.{IsTaken, IsKept, unmet_of, sent_by_source}
use Rattle.raw_serial.specs.declared.turn.Turn.{Turn as SerialTurn}
use Rattle.raw_serial.specs.declared.turn.Turn.TheVariants as serial
use Rattle.raw_serial.specs.Turns.{IsTurn as IsSerialTurn}
use Rattle.raw_serial.proofs.Ports.{source_sent}
use Rattle.raw_serial.proofs.Stepping.{output_there, met_by, put_there, put_room, fired_needs, turn_unmet}
use Rattle.raw_flow.specs.declared.node.Node.{Node}
use Rattle.raw_term.specs.Terms.{Overflows}
use Rattle.raw_term.specs.TermRows.{TileTerms, SwitchTerms, term_effect, term_switch}
use Rattle.raw_term.specs.TermMachine.{TermRow, tile_term_row, switch_term_row, numbered}
use Rattle.raw_term.specs.Tiles.{IsRow}
use Rattle.raw_term.specs.Tiles.{IsFired as IsRowFired}
use Rattle.raw_term.specs.Switches.{IsControl}
use Rattle.raw_prove.specs.Turns.{ready, IsAfter, IsIdle, IsFired, IsHung, IsOver, operand_by}
use Rattle.raw_prove.proofs.Written.{row_sent, sent_short}
use Rattle.raw_prove.proofs.Ready.{ready_met, ready_stopped, ready_unmet, ready_tile, ready_switch, sink_stops, once, room_by}

-- the operands of a row: the values given, or what the registers hold
pub first_is : (ins : Instruction) (given : TileGiven) (regs : List ℕ) → IsGivenFor (Some ins) given
    → operand_by (uses is_rs ins.op) given.a (slice_index regs ins.rs) ≡ first_operand (Some ins) regs (values_of given)
first_is ins given regs g = by (uses is_rs ins.op) (is_network ins.rs) given.a g.first where
  by : (reads network : Bool) (a : Option ℕ) → is_some a ≡ (reads && network)
      → operand_by reads a (slice_index regs ins.rs) ≡ cond reads (cond network (slice_index (option_to_list a ++ option_to_list given.b) 0) (slice_index regs ins.rs)) 0
  by true true (Some v) s = refl
  by true true None s = absurd (cc s)
  by true false (Some v) s = absurd (cc s)
  by true false None s = refl
  by false network a s = refl

-- the values that are left for rt
abbrev left : Bool → Bool → Option ℕ → Option ℕ → List ℕ
left reads network a b = cond reads (cond network (drop 1 (option_to_list a ++ option_to_list b)) (option_to_list a ++ option_to_list b)) (option_to_list a ++ option_to_list b)

pub second_is : (ins : Instruction) (given : TileGiven) (regs : List ℕ) → IsGivenFor (Some ins) given
    → operand_by (reads_rt ins.op) given.b (slice_index regs ins.rt) ≡ second_operand (Some ins) regs (values_of given)
second_is ins given regs g = by (reads_rt ins.op) (is_network ins.rt) given.b g.second (uses is_rs ins.op) (is_network ins.rs) given.a g.first where
  left_is : (reads network : Bool) (a b : Option ℕ) → is_some a ≡ (reads && network) → left reads network a b ≡ option_to_list b
  left_is true true (Some v) b s = refl
  left_is true true None b s = absurd (cc s)
  left_is true false (Some v) b s = absurd (cc s)
  left_is true false None b s = refl
  left_is false network (Some v) b s = absurd (cc s)
  left_is false network None b s = refl

  by : (reads network : Bool) (b : Option ℕ) → is_some b ≡ (reads && network) → (reads_a network_a : Bool) (a : Option ℕ) → is_some a ≡ (reads_a && network_a)
      → operand_by reads b (slice_index regs ins.rt) ≡ cond reads (cond network (slice_index (left reads_a network_a a b) 0) (slice_index regs ins.rt)) 0
  by true true (Some v) s ra na a t = sym (ap (λ vs. slice_index vs 0) (left_is ra na a (Some v) t))
  by true true None s ra na a t = absurd (cc s)
  by true false (Some v) s ra na a t = absurd (cc s)
  by true false None s ra na a t = refl
  by false network b s ra na a t = refl

-- the row of a tile, of its program and the values that it takes
abbrev pub effect_with : List Node → List Instruction → TileLocal → List ℕ → Option TileTerms
effect_with nodes code l values =
    term_effect nodes (next_instruction code l) (length code) l (first_operand (next_instruction code l) l.regs values) (second_operand (next_instruction code l) l.regs values)

none_is : {A : Type 0} (x : A) → Some x ≡ None → ⊥
none_is x e = cc e

module _ (set : ProgramSet) (p : ℕ) (es : EndWires) (old : TileLocal) (before : List Node) (wires left : List (List ℕ)) (code : List Instruction) (values : List ℕ)
    (are : AreEndsOf set.topo p es) (is_code : code ≡ tile_code set p) (going : is_stopped set p (Tile old) ≡ false) (took : IsTaken set p (Tile old) wires left values) where
  tile_ready : ready (numbered set) p (Tile old) wires ≡ true
  tile_ready = ready_tile set p wires old ∙ ready_met set p (Tile old) wires going took.met

  same_effect : effect_with before code old values ≡ effect_with before (tile_code set p) old (fronts (takes set p (Tile old)) wires)
  same_effect = ap₂ (λ (c : List Instruction) (vs : List ℕ). effect_with before c old vs) is_code took.values

  -- what is sent, by the wires at its ends
  out_sent : (effect : TileEffect) (out : TileOut) → out_of effect ≡ out → sent_out es out ≡ (tile_network_row set.topo p effect).sent
  out_sent effect out is =
      ap (λ (o : TileOut). sent_out es o) (sym is)
      ∙ ap (λ w. sent_to w effect.sent1 ++ sent_to (slice_index_or es.outputs 9 None) effect.sent2) (are.outputs 4 (omega arith))
      ∙ ap (λ w. sent_to (output_wire set.topo p 4) effect.sent1 ++ sent_to w effect.sent2) (are.outputs 9 (omega arith))

  module _ (nodes : List Node) (new : TileLocal) (later : List (List ℕ)) (out : TileOut) (is_later : later ≡ appended (sent_out es out) left) where
    after_row : (t : TileTerms) → IsRow t nodes new out → IsAfter (numbered set) p (Tile old) wires nodes (Tile new) later (tile_term_row set.topo p t)
    after_row t row = record {
      nodes_are = row.nodes_are;
      next_is = ap Tile row.next_is;
      wires_are = sym (is_later ∙ ap₂ (λ (ms : List Sent) (ws : List (List ℕ)). appended ms ws) (out_sent t.effect out row.out_is) took.rest);
    }

    by_row : (o : Option TileTerms) → IsRowFired before old o nodes new (Some out)
        → IsSomeAnd (option_map (tile_term_row set.topo p) o) (IsAfter (numbered set) p (Tile old) wires nodes (Tile new) later)
    by_row None h = absurd (none_is out h.0)
    by_row (Some t) h = after_row t h.0

    pub tile_fired : IsRowFired before old (effect_with before code old values) nodes new (Some out)
        → IsFired (numbered set) p before (Tile old) wires nodes (Tile new) later
    tile_fired h = record {
      may = tile_ready;
      does = by_row (effect_with before (tile_code set p) old (fronts (takes set p (Tile old)) wires))
          (subst (λ (o : Option TileTerms). IsRowFired before old o nodes new (Some out)) same_effect h);
    }

  none_row : (o : Option TileTerms) (nodes : List Node) (new : TileLocal) → IsRowFired before old o nodes new None → option_map (tile_term_row set.topo p) o ≡ None
  none_row None nodes new h = refl
  none_row (Some t) nodes new h = absurd (cc h.1)

  pub tile_hung : (nodes : List Node) (new : TileLocal) → IsRowFired before old (effect_with before code old values) nodes new None → IsHung (numbered set) p before (Tile old) wires
  tile_hung nodes new h = record {
    may = tile_ready;
    wants = none_row (effect_with before (tile_code set p) old (fronts (takes set p (Tile old)) wires)) nodes new
        (subst (λ (o : Option TileTerms). IsRowFired before old o nodes new None) same_effect h);
  }

  over_row : (o : Option TileTerms) → IsSomeAnd o (λ t. Overflows t.nodes) → IsSomeAnd (option_map (tile_term_row set.topo p) o) (λ (r : TermRow). Overflows r.nodes)
  over_row None h = h
  over_row (Some t) h = h

  pub tile_over : IsSomeAnd (effect_with before code old values) (λ t. Overflows t.nodes) → IsOver (numbered set) p before (Tile old) wires
  tile_over h = record {
    may = tile_ready;
    over = over_row (effect_with before (tile_code set p) old (fronts (takes set p (Tile old)) wires))
        (subst (λ (o : Option TileTerms). IsSomeAnd o (λ t. Overflows t.nodes)) same_effect h);
  }

  -- the wires that it sends to are there, and have room
  to_there : (n : ℕ) (o v : Option ℕ) → IfSome o (λ w. w < n) → All (λ (m : Sent). m.wire < n) (sent_to o v)
  to_there n None v h = All-nil (λ (m : Sent). m.wire < n)
  to_there n (Some w) None h = All-nil (λ (m : Sent). m.wire < n)
  to_there n (Some w) (Some v) h = All-cons (λ (m : Sent). m.wire < n) (record { wire = w; value = v }) [] h (All-nil (λ (m : Sent). m.wire < n))

  pub tile_there : (n : ℕ) (out : TileOut) → n ≡ length (wires_of set.topo) → All (λ (m : Sent). m.wire < n) (sent_out es out)
  tile_there n out many =
      All-append (λ (m : Sent). m.wire < n) (sent_to (slice_index_or es.outputs 4 None) out.sent1) (sent_to (slice_index_or es.outputs 9 None) out.sent2)
      (to_there n (slice_index_or es.outputs 4 None) out.sent1 (output_there set.topo p es are n many 4 (omega arith)))
      (to_there n (slice_index_or es.outputs 9 None) out.sent2 (output_there set.topo p es are n many 9 (omega arith)))

  effect_short : (o : Option Instruction) (size a b : ℕ) (t : TileTerms) (w : ℕ) → term_effect before o size old a b ≡ Some t
      → length (sent_on w (tile_network_row set.topo p t.effect).sent) ≤ count_of w (tile_sends set.topo p o)
  effect_short None size a b t w e =
      let same : ◌≡◌ {A = TileTerms} (record { nodes = before; effect = stops old (Trapped Pc) }) t = cc e in
      subst (λ (k : TileTerms). length (sent_on w (tile_network_row set.topo p k.effect).sent) ≤ count_of w (tile_sends set.topo p None)) same
      (sent_short set.topo p w (stops old (Trapped Pc)) None (inl (record { sent1 = refl; sent2 = refl })))
  effect_short (Some ins) size a b t w e = sent_short set.topo p w t.effect (destination_register ins) (row_sent before ins size old a b t e)

  out_short : (o : Option TileTerms) (nodes : List Node) (new : TileLocal) (out : TileOut) (w : ℕ) → effect_with before (tile_code set p) old values ≡ o → IsRowFired before old o nodes new (Some out)
      → length (sent_on w (sent_out es out)) ≤ count_of w (sends set p (Tile old))
  out_short None nodes new out w e h = absurd (none_is out h.0)
  out_short (Some t) nodes new out w e h =
      subst (λ (ms : List Sent). length (sent_on w ms) ≤ count_of w (sends set p (Tile old))) (sym (out_sent t.effect out h.0.out_is))
      (effect_short (next_instruction (tile_code set p) old) (length (tile_code set p)) _ _ t w e)

  pub tile_room : (nodes : List Node) (new : TileLocal) (out : TileOut) → IsRowFired before old (effect_with before code old values) nodes new (Some out) → set.depth ≤ 7 → (w : ℕ)
      → 0 < length (sent_on w (sent_out es out)) → length (values_on left w) + length (sent_on w (sent_out es out)) ≤ 8
  tile_room nodes new out h deep w some =
      let h' : IsRowFired before old (effect_with before (tile_code set p) old values) nodes new (Some out) =
      subst (λ (c : List Instruction). IsRowFired before old (effect_with before c old values) nodes new (Some out)) is_code h in
      subst (λ (ws : List (List ℕ)). length (values_on ws w) + length (sent_on w (sent_out es out)) ≤ 8) (sym took.rest)
      (room_by set.depth (sends set p (Tile old)) (takes set p (Tile old)) wires (sent_out es out) w took.room deep (once set p (Tile old) wires w)
      (out_short (effect_with before (tile_code set p) old values) nodes new out w refl h') some)

module _ (set : ProgramSet) (p : ℕ) (old : SwitchLocal) (before : List Node) (wires left : List (List ℕ)) (code : List SwitchInstruction) (given : List (Option ℕ)) (values : List ℕ)
    (is_code : code ≡ switch_code set p) (going : is_stopped set p (Switch old) ≡ false) (took : IsTaken set p (Switch old) wires left values)
    (is_given : given ≡ given_to set.topo p (next_switch_instruction (switch_code set p) old) values) where
  abbrev row_of_it : Row Local
  row_of_it = switch_network_row set.topo p (switch_row (switch_code set p) old (given_to set.topo p (next_switch_instruction (switch_code set p) old) (fronts (takes set p (Switch old)) wires)))

  switch_is_ready : ready (numbered set) p (Switch old) wires ≡ true
  switch_is_ready = ready_switch set p wires old ∙ ready_met set p (Switch old) wires going took.met

  abbrev next_of : List SwitchInstruction → List (Option ℕ) → Option SwitchTerms
  next_of c g = term_switch before (next_switch_instruction c old) (length c) old g

  abbrev next_is : Option SwitchTerms
  next_is = next_of (switch_code set p) (given_to set.topo p (next_switch_instruction (switch_code set p) old) (fronts (takes set p (Switch old)) wires))

  same_next : next_of code given ≡ next_is
  same_next =
      ap₂ (λ (c : List SwitchInstruction) (g : List (Option ℕ)). next_of c g) is_code
      (is_given ∙ ap (given_to set.topo p (next_switch_instruction (switch_code set p) old)) took.values)

  false_is_true : true ≡ false → ⊥
  false_is_true e = cc e

  switch_by_row : (nodes : List Node) (new : SwitchLocal) (later : List (List ℕ)) → appended row_of_it.sent (taken (takes set p (Switch old)) wires) ≡ later → (o : Option SwitchTerms) → IsControl before old o true nodes new
      → IsSomeAnd (option_map (switch_term_row row_of_it) o) (IsAfter (numbered set) p (Switch old) wires nodes (Switch new) later)
  switch_by_row nodes new later is_later None h = absurd (false_is_true h.0)
  switch_by_row nodes new later is_later (Some t) h = record { nodes_are = h.1; next_is = ap Switch h.2; wires_are = is_later }

  pub switch_fired : (nodes : List Node) (new : SwitchLocal) (later : List (List ℕ)) → later ≡ appended (row set p (Switch old) values).sent left → IsControl before old (next_of code given) true nodes new
      → IsFired (numbered set) p before (Switch old) wires nodes (Switch new) later
  switch_fired nodes new later is_later h = record {
    may = switch_is_ready;
    does = switch_by_row nodes new later
        (sym (is_later ∙ ap₂ (λ (vs : List ℕ) (ws : List (List ℕ)). appended (row set p (Switch old) vs).sent ws) took.values took.rest))
        next_is (subst (λ (o : Option SwitchTerms). IsControl before old o true nodes new) same_next h);
  }

  switch_none : (nodes : List Node) (new : SwitchLocal) (o : Option SwitchTerms) → IsControl before old o false nodes new → option_map (switch_term_row row_of_it) o ≡ None
  switch_none nodes new None h = refl
  switch_none nodes new (Some t) h = absurd (false_is_true (sym h.0))

  pub switch_hung : (nodes : List Node) (new : SwitchLocal) → IsControl before old (next_of code given) false nodes new → IsHung (numbered set) p before (Switch old) wires
  switch_hung nodes new h = record {
    may = switch_is_ready;
    wants = switch_none nodes new next_is (subst (λ (o : Option SwitchTerms). IsControl before old o false nodes new) same_next h);
  }

  switch_over_row : (o : Option SwitchTerms) → IsSomeAnd o (λ t. Overflows t.nodes) → IsSomeAnd (option_map (switch_term_row row_of_it) o) (λ (r : TermRow). Overflows r.nodes)
  switch_over_row None h = h
  switch_over_row (Some t) h = h

  pub switch_over : IsSomeAnd (next_of code given) (λ t. Overflows t.nodes) → IsOver (numbered set) p before (Switch old) wires
  switch_over h = record {
    may = switch_is_ready;
    over = switch_over_row next_is (subst (λ (o : Option SwitchTerms). IsSomeAnd o (λ t. Overflows t.nodes)) same_next h);
  }

-- a source, whose next word has the number that follows those of the words before it
module _ (set : ProgramSet) (p : ℕ) (es : EndWires) (l : PortLocal) (before : List Node) (wires : List (List ℕ)) (number : ℕ) (are : AreEndsOf set.topo p es)
    (many : length (words_of (port_program (numbered set) p)) ≡ length (words_of (port_program set p)))
    (is_number : number ≡ slice_index (words_of (port_program (numbered set) p)) l.done) where
  source_out : sent_by_source es number ≡ (row (numbered set) p (Source l) []).sent
  source_out = source_sent (numbered set) p es (words_of (port_program (numbered set) p)) (words_of (port_program (numbered set) p)) l number are refl is_number

  module _ (going : is_stopped set p (Source l) ≡ false) (none : unmet_of set p (Source l) wires ≡ None) where
    going_so : is_stopped (numbered set) p (Source l) ≡ false
    going_so = ap (λ n. nat_le n l.done) many ∙ going

    source_taken : IsTaken (numbered set) p (Source l) wires wires []
    source_taken = record { met = none; room = (met_by (numbered set) p (Source l) wires none).1; values = refl; rest = refl }

    pub source_there : (n : ℕ) → n ≡ length (wires_of set.topo) → All (λ (m : Sent). m.wire < n) (sent_by_source es number)
    source_there n all = put_there (numbered set) p (Source l) [] n (sent_by_source es number) source_out all

    pub source_room : set.depth ≤ 7 → (w : ℕ) → 0 < length (sent_on w (sent_by_source es number)) → length (values_on wires w) + length (sent_on w (sent_by_source es number)) ≤ 8
    source_room deep = put_room (numbered set) p (Source l) [] wires wires (sent_by_source es number) source_out deep source_taken

    pub source_fired : (next : PortLocal) (later : List (List ℕ)) → next ≡ record l { done = l.done + 1 } → later ≡ appended (sent_by_source es number) wires
        → IsFired (numbered set) p before (Source l) wires before (Source next) later
    source_fired next later is_next is_later = record {
      may = ready_met (numbered set) p (Source l) wires going_so none;
      does = record {
        nodes_are = refl;
        next_is = ap Source (sym is_next);
        wires_are = sym (is_later ∙ ap (λ (ms : List Sent). appended ms wires) source_out);
      };
    }

-- a sink, by its turn in the serial machine
module _ (set : ProgramSet) (p : ℕ) (l : PortLocal) (before : List Node) (wires : List (List ℕ)) where
  pub sink_fired : (next : PortLocal) (later : List (List ℕ)) → IsSerialTurn set p false serial.Fired (Sink l) (Sink next) wires later
      → IsFired (numbered set) p before (Sink l) wires before (Sink next) later
  unfolding machine_of
  sink_fired next later turn =
      let parts = fired_needs set p (Sink l) wires turn.answer in
      record {
        may = ready_met (numbered set) p (Sink l) wires (sink_stops set p wires l ∙ parts.0) parts.1;
        does = record { nodes_are = refl; next_is = sym turn.local; wires_are = sym turn.wires };
      }

  still : (turn : SerialTurn) (next : PortLocal) (later : List (List ℕ)) → (turn ≡ serial.Fired → ⊥) → IsSerialTurn set p false turn (Sink l) (Sink next) wires later → (Sink next ≡ Sink l) × (later ≡ wires)
  still serial.Fired next later other turn = absurd (other refl)
  still turn next later other is = (is.local, is.wires)

  pub sink_idle : (turn : SerialTurn) (next : PortLocal) (later : List (List ℕ)) → (turn ≡ serial.Fired → ⊥) → IsSerialTurn set p false turn (Sink l) (Sink next) wires later
      → IsIdle (numbered set) p before (Sink l) wires before (Sink next) later
  unfolding machine_of
  sink_idle turn next later other is =
      let same = still turn next later other is in
      record {
        waits = by (is_stopped set p (Sink l)) (unmet_of set p (Sink l) wires) refl refl;
        nodes_stay = refl;
        local_stays = same.0;
        wires_stay = same.1;
      }
    where
      by : (b : Bool) (o : Option ℕ) → is_stopped set p (Sink l) ≡ b → unmet_of set p (Sink l) wires ≡ o → ready (numbered set) p (Sink l) wires ≡ false
      by true o e f = ready_stopped (numbered set) p (Sink l) wires (sink_stops set p wires l ∙ e)
      by false (Some w) e f = ready_unmet (numbered set) p (Sink l) wires w f
      by false None e f = absurd (other (is.answer ∙ sym (turn_unmet set p (Sink l) wires false None e refl f)))

-- a source that may not step
module _ (set : ProgramSet) (p : ℕ) (l : PortLocal) (before : List Node) (wires : List (List ℕ))
    (many : length (words_of (port_program (numbered set) p)) ≡ length (words_of (port_program set p))) where
  stays_idle : ready (numbered set) p (Source l) wires ≡ false → IsIdle (numbered set) p before (Source l) wires before (Source l) wires
  stays_idle e = record { waits = e; nodes_stay = refl; local_stays = refl; wires_stay = refl }

  pub source_stopped_idle : nat_le (length (words_of (port_program set p))) l.done ≡ true → IsIdle (numbered set) p before (Source l) wires before (Source l) wires
  source_stopped_idle e = stays_idle (ready_stopped (numbered set) p (Source l) wires (ap (λ n. nat_le n l.done) many ∙ e))

  pub source_unmet_idle : (w : ℕ) → unmet_of set p (Source l) wires ≡ Some w → IsIdle (numbered set) p before (Source l) wires before (Source l) wires
  source_unmet_idle w e = stays_idle (ready_unmet (numbered set) p (Source l) wires w e)

-- a tile or a switch that may not step
pub tile_idle : (set : ProgramSet) (p : ℕ) (l : TileLocal) (before : List Node) (wires : List (List ℕ)) → ready set p (Tile l) wires ≡ false → IsIdle (numbered set) p before (Tile l) wires before (Tile l) wires
tile_idle set p l before wires e = record { waits = ready_tile set p wires l ∙ e; nodes_stay = refl; local_stays = refl; wires_stay = refl }

pub switch_waits : (set : ProgramSet) (p : ℕ) (l : SwitchLocal) (before : List Node) (wires later : List (List ℕ)) → ready set p (Switch l) wires ≡ false → later ≡ wires
    → IsIdle (numbered set) p before (Switch l) wires before (Switch l) later
switch_waits set p l before wires later e stays = record { waits = ready_switch set p wires l ∙ e; nodes_stay = refl; local_stays = refl; wires_stay = stays }

pub switch_idle : (set : ProgramSet) (p : ℕ) (l : SwitchLocal) (before : List Node) (wires : List (List ℕ)) → ready set p (Switch l) wires ≡ false → IsIdle (numbered set) p before (Switch l) wires before (Switch l) wires
switch_idle set p l before wires e = switch_waits set p l before wires wires e refl

-- what a fired sink keeps, and one that waits
same_sink : (k l : PortLocal) → Sink k ≡ Sink l → k ≡ l
same_sink k l e = cc e

pub sink_kept : (set : ProgramSet) (p : ℕ) (l next : PortLocal) (wires later : List (List ℕ)) → IsSerialTurn set p false serial.Fired (Sink l) (Sink next) wires later → length l.got ≡ l.done → length next.got ≡ next.done
unfolding machine_of
sink_kept set p l next wires later turn e =
    let v : ℕ = slice_index (fronts (takes set p (Sink l)) wires) 0 in
    let same : next ≡ record { done = l.done + 1; got = l.got ++ v ∷ [] } = same_sink next (record { done = l.done + 1; got = l.got ++ v ∷ [] }) turn.local in
    subst (λ (k : PortLocal). length k.got ≡ k.done) (sym same) (omega (arith, e, length_push l.got v))

pub sink_same : (set : ProgramSet) (p : ℕ) (l next : PortLocal) (wires later : List (List ℕ)) (turn : SerialTurn) → (turn ≡ serial.Fired → ⊥) → IsSerialTurn set p false turn (Sink l) (Sink next) wires later → next ≡ l
sink_same set p l next wires later turn other is = same_sink next l (still set p l [] wires turn next later other is).0

-- the row of the instruction, with its operands
pub effects_same : (nodes : List Node) (size : ℕ) (l : TileLocal) (ins : Instruction) (o : Option Instruction) (given : TileGiven) (a b : ℕ) → o ≡ Some ins → IsGivenFor o given
    → a ≡ operand_by (uses is_rs ins.op) given.a (slice_index l.regs ins.rs) → b ≡ operand_by (reads_rt ins.op) given.b (slice_index l.regs ins.rt)
    → term_effect nodes (Some ins) size l a b ≡ term_effect nodes o size l (first_operand o l.regs (values_of given)) (second_operand o l.regs (values_of given))
effects_same nodes size l ins o given a b e g ea eb = subst Is (sym e) here g where
  Is : Option Instruction → Type 0
  Is k = IsGivenFor k given → term_effect nodes (Some ins) size l a b ≡ term_effect nodes k size l (first_operand k l.regs (values_of given)) (second_operand k l.regs (values_of given))

  here : Is (Some ins)
  here h = ap₂ (term_effect nodes (Some ins) size l) (ea ∙ first_is ins given l.regs h) (eb ∙ second_is ins given l.regs h)

-- a tile that lacks something
pub tile_not_taken : (set : ProgramSet) (p : ℕ) (l : TileLocal) (before : List Node) (wires later : List (List ℕ)) (result : Result TileGiven WireId) → ((given : TileGiven) → result ≡ Ok given → ⊥)
    → IfErr result (λ wire. IsKept set p (Tile l) wires later wire.0) → IsIdle (numbered set) p before (Tile l) wires before (Tile l) later
tile_not_taken set p l before wires later (Ok given) other kept = absurd (other given refl)
tile_not_taken set p l before wires later (Err wire) other kept =
    record { waits = ready_tile set p wires l ∙ ready_unmet set p (Tile l) wires wire.0 kept.unmet; nodes_stay = refl; local_stays = refl; wires_stay = kept.rest }
