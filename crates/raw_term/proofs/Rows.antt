-- Rows of all processors on terms do on their values what the rows of the machine do.
use Rattle.std.proofs.Common.{◌≡◌, ℕ, ◌+◌, ◌*◌, ◌/◌, ◌^◌, ◌<◌, cond, List, [], ◌∷◌, length, set, drop, Option, Some, None, refl, sym, ap, subst, arith}
use Rattle.std.specs.Prelude.{slice_index, slice_get, ◌==◌, map, unwrap_or}
use Rattle.std.specs.Option.{option_map}
use Rattle.raw_network.specs.Network.{Sent, Row}
use Rattle.raw_tile_isa.specs.Instruction.{Instruction, IsTileIns, is_network, uses, is_rs, is_imm, is_sh, reads_rt}
use Rattle.raw_tile_isa.specs.Words.{word_sub, EachGivesWords}
use Rattle.raw_switch_isa.specs.declared.table.SwitchOp.{SwitchOp}
use Rattle.raw_switch_isa.specs.declared.table.SwitchOp.TheVariants as switch
use Rattle.raw_switch_isa.specs.Instruction.{SwitchInstruction}
use Rattle.raw_switch_isa.specs.Ends.{ends, move_source}
use Rattle.raw_grid.specs.Topology.{Topology}
use Rattle.raw_grid.specs.Wires.{output_wire}
use Rattle.raw_model.specs.declared.marks.Mark.TheVariants as mark
use Rattle.raw_model.specs.declared.marks.Cause.TheVariants.{Pc}
use Rattle.raw_model.specs.Program.{ProgramSet, PortProgram}
use Rattle.raw_model.specs.Local.{Local, Tile, Switch, Source, Sink, TileLocal, SwitchLocal, PortLocal}
use Rattle.raw_model.specs.TileTable.{TileEffect, stops, following, address_of, word_at, effect_of}
use Rattle.raw_model.specs.SwitchTable.{source_value, control}
use Rattle.raw_model.specs.SwitchTable.{goes as switch_goes, following as switch_following, effect_of as switch_effect_of}
use Rattle.raw_model.specs.Machine.{operand, values_after, first_operand, second_operand, sent_to, tile_network_row, switch_network_row, source_row, sink_row, given_to, port_outputs, port_program, words_of, tile_code, switch_code, row}
use Rattle.raw_flow.specs.declared.node.Node.{Node}
use Rattle.raw_flow.specs.declared.node.Node.TheVariants.{Const}
use Rattle.raw_term.specs.Terms.{word_in, Numbered, with_node}
use Rattle.raw_term.specs.declared.action.Action.{Action}
use Rattle.raw_term.specs.TermRows.{cell_of, action_of, TileTerms, acted, term_effect, SwitchTerms, switch_branch, counted, count_down, term_control, term_switch}
use Rattle.raw_term.specs.TermMachine.{TermRow, tile_term_row, switch_term_row, term_row}
use Rattle.raw_term.proofs.Terms.{Holds, AreTerms, IsMade, some_is, none_some, word_holds, same_value, term_values}
use Rattle.raw_term.proofs.Forms.{word_made}
use Rattle.raw_term.proofs.Image.{Pairs, PairsSent, pairs_up, pairs_rest, pairs_push, pairs_front}
use Rattle.raw_term.proofs.SwitchImage.{given_alike, source_alike, value_alike, pairs_at, pairs_set, sent_append, to_alike, switch_sent}
use Rattle.raw_term.proofs.TileTerms.{coded, AlikeCore, AlikeTile, TileMade, Known, KnownCell, row_is, field_below, either_pairs, either_holds, stops_alike, none_holds, acted_made}

-- a local state with numbers of terms stands for one with words
abbrev pub AlikeLocal : List ℕ → Local → Local → Type 0
AlikeLocal values (Tile l) (Tile m) = AlikeTile values l m
AlikeLocal values (Switch l) (Switch m) = (l ≡ record m { regs = l.regs }) × Pairs (Holds values) l.regs m.regs
AlikeLocal values (Source l) (Source m) = l ≡ m
AlikeLocal values (Sink l) (Sink m) = (l.done ≡ m.done) × Pairs (Holds values) l.got m.got
AlikeLocal values _ _ = ⊥

-- what holds of tiles, of switches, of sources and of sinks that stand for one another holds of all local states that do
pub each_kind : (values : List ℕ) (P : Local → Local → Type 0)
    → ((l m : TileLocal) → AlikeTile values l m → P (Tile l) (Tile m))
    → ((l m : SwitchLocal) → (l ≡ record m { regs = l.regs }) × Pairs (Holds values) l.regs m.regs → P (Switch l) (Switch m))
    → ((l m : PortLocal) → l ≡ m → P (Source l) (Source m))
    → ((l m : PortLocal) → (l.done ≡ m.done) × Pairs (Holds values) l.got m.got → P (Sink l) (Sink m))
    → (l m : Local) → AlikeLocal values l m → P l m
each_kind values P tiles switches sources sinks (Tile l) (Tile m) h = tiles l m h
each_kind values P tiles switches sources sinks (Tile l) (Switch m) h = absurd h
each_kind values P tiles switches sources sinks (Tile l) (Source m) h = absurd h
each_kind values P tiles switches sources sinks (Tile l) (Sink m) h = absurd h
each_kind values P tiles switches sources sinks (Switch l) (Tile m) h = absurd h
each_kind values P tiles switches sources sinks (Switch l) (Switch m) h = switches l m h
each_kind values P tiles switches sources sinks (Switch l) (Source m) h = absurd h
each_kind values P tiles switches sources sinks (Switch l) (Sink m) h = absurd h
each_kind values P tiles switches sources sinks (Source l) (Tile m) h = absurd h
each_kind values P tiles switches sources sinks (Source l) (Switch m) h = absurd h
each_kind values P tiles switches sources sinks (Source l) (Source m) h = sources l m h
each_kind values P tiles switches sources sinks (Source l) (Sink m) h = absurd h
each_kind values P tiles switches sources sinks (Sink l) (Tile m) h = absurd h
each_kind values P tiles switches sources sinks (Sink l) (Switch m) h = absurd h
each_kind values P tiles switches sources sinks (Sink l) (Source m) h = absurd h
each_kind values P tiles switches sources sinks (Sink l) (Sink m) h = sinks l m h

-- a row with terms that does what a row of the machine does
pub record RowMade (inputs : List ℕ) (nodes : List Node) (t : TermRow) (r : Row Local) : Type 0 where
  pub terms : AreTerms inputs t.nodes
  pub keeps : (c y : ℕ) → Holds (term_values inputs nodes) c y → Holds (term_values inputs t.nodes) c y
  pub next : AlikeLocal (term_values inputs t.nodes) t.row.next r.next
  pub sent : PairsSent (Holds (term_values inputs t.nodes)) t.row.sent r.sent
  pub touched : t.row.touched ≡ r.touched

known : (inputs : List ℕ) (nodes : List Node) (a x : ℕ) → Holds (term_values inputs nodes) a x → Known (word_in nodes a) x
known inputs nodes a x h = by (word_in nodes a) refl where
  by : (o : Option ℕ) → word_in nodes a ≡ o → Known o x
  by None e = tt
  by (Some w) e = same_value inputs (term_values inputs nodes) a w x (word_holds inputs nodes a w e) h

pub sent_up : (H G : ℕ → ℕ → Type 0) → ((x y : ℕ) → H x y → G x y) → (ms ns : List Sent) → PairsSent H ms ns → PairsSent G ms ns
sent_up H G up [] [] h = tt
sent_up H G up [] (n ∷ ns) h = absurd h
sent_up H G up (m ∷ ms) [] h = absurd h
sent_up H G up (m ∷ ms) (n ∷ ns) h = (h.0, up m.value n.value h.1, sent_up H G up ms ns h.2)

module _ (H : ℕ → ℕ → Type 0) (none : H 0 0) (rs qs xs ys : List ℕ) (regs : Pairs H rs qs) (given : Pairs H xs ys) where
  operand_alike : (us vs : List ℕ) → Pairs H us vs → (r : ℕ) → H (operand rs us r) (operand qs vs r)
  operand_alike us vs h r = either_holds H (is_network r) (slice_index us 0) (slice_index vs 0) (slice_index rs r) (slice_index qs r) (pairs_at H none us vs h 0) (pairs_at H none rs qs regs r)

  pub first_alike : (o : Option Instruction) → H (first_operand o rs xs) (first_operand o qs ys)
  first_alike None = none
  first_alike (Some ins) = either_holds H (uses is_rs ins.op) (operand rs xs ins.rs) (operand qs ys ins.rs) 0 0 (operand_alike xs ys given ins.rs) none

  pub second_alike : (o : Option Instruction) → H (second_operand o rs xs) (second_operand o qs ys)
  second_alike None = none
  second_alike (Some ins) =
      let us : List ℕ = cond (uses is_rs ins.op) (values_after xs ins.rs) xs in
      let vs : List ℕ = cond (uses is_rs ins.op) (values_after ys ins.rs) ys in
      either_holds H (reads_rt ins.op) (operand rs us ins.rt) (operand qs vs ins.rt) 0 0
      (operand_alike us vs (either_pairs H (uses is_rs ins.op) (values_after xs ins.rs) (values_after ys ins.rs) xs ys
      (either_pairs H (is_network ins.rs) (drop 1 xs) (drop 1 ys) xs ys (pairs_rest H xs ys given) given) given) ins.rt) none

-- a lawful instruction, if there is one
abbrev pub IsLawfulIns : Option Instruction → Type 0
IsLawfulIns None = Unit {0}
IsLawfulIns (Some ins) = IsTileIns ins

module _ (each : EachGivesWords) (inputs : List ℕ) (nodes : List Node) (are : AreTerms inputs nodes) where
  abbrev V : List ℕ
  V = term_values inputs nodes

  module _ (size : ℕ) (m : TileLocal) (rs cs : List ℕ) (core : AlikeCore V rs cs m) (xs ys : List ℕ) (given : Pairs (Holds V) xs ys) where
    module _ (ins : Instruction) (lawful : IsTileIns ins) (t : TileTerms) where
      abbrev a : ℕ
      a = first_operand (Some ins) rs xs

      abbrev b : ℕ
      b = second_operand (Some ins) rs xs

      abbrev x : ℕ
      x = first_operand (Some ins) m.regs ys

      abbrev y : ℕ
      y = second_operand (Some ins) m.regs ys

      cell_known : (o : Option ℕ) → Known o x → KnownCell m (address_of ins x) (cell_of nodes (coded m rs cs) ins o)
      cell_known None k = tt
      cell_known (Some u) k =
          subst (λ v. KnownCell m (address_of ins x) (word_in nodes (slice_index cs (address_of ins v / 4)))) (sym k)
          (by (word_in nodes (slice_index cs (address_of ins x / 4))) refl)
        where
          by : (o : Option ℕ) → word_in nodes (slice_index cs (address_of ins x / 4)) ≡ o → KnownCell m (address_of ins x) o
          by None e = tt
          by (Some w) e =
              λ inside. same_value inputs V (slice_index cs (address_of ins x / 4)) w (word_at m.memory (4 * (address_of ins x / 4)))
              (word_holds inputs nodes (slice_index cs (address_of ins x / 4)) w e) (core.words (address_of ins x / 4) (omega (arith, inside)))

      action_made : (od : Option Action) → action_of ins.op (following m) ins (word_in nodes a) (word_in nodes b) (cell_of nodes (coded m rs cs) ins (word_in nodes a)) ≡ od → option_map (acted nodes size (coded m rs cs) a b) od ≡ Some t
          → TileMade inputs nodes t (effect_of (Some ins) size m x y)
      action_made None is g = none_some t g
      action_made (Some d) is g =
          let none = none_holds inputs nodes are in
          let ha : Holds V a x = first_alike (Holds V) none rs m.regs xs ys core.each given (Some ins) in
          let hb : Holds V b y = second_alike (Holds V) none rs m.regs xs ys core.each given (Some ins) in
          let imm : ins.imm < 2 ^ 16 = field_below (uses is_imm ins.op) (2 ^ 16) ins.imm (omega arith) lawful.imm in
          let sh : ins.sh < 32 = field_below (uses is_sh ins.op) 32 ins.sh (omega arith) lawful.sh in
          let ka = known inputs nodes a x ha in
          let what = row_is each size m ins x y (are.words a x ha) imm sh core.bytes d ins.op (word_in nodes a) (word_in nodes b) (cell_of nodes (coded m rs cs) ins (word_in nodes a)) ka (known inputs nodes b y hb)
          (cell_known (word_in nodes a) ka) is in
          subst (λ k. TileMade inputs nodes k (effect_of (Some ins) size m x y)) (some_is (acted nodes size (coded m rs cs) a b d) t g)
          (acted_made each inputs nodes are size m rs cs core a b x y ha hb (effect_of (Some ins) size m x y) d what)

    effect_made : (o : Option Instruction) (t : TileTerms) → IsLawfulIns o → term_effect nodes o size (coded m rs cs) (first_operand o rs xs) (second_operand o rs xs) ≡ Some t
        → TileMade inputs nodes t (effect_of o size m (first_operand o m.regs ys) (second_operand o m.regs ys))
    effect_made None t lawful e =
        subst (λ k. TileMade inputs nodes k (stops m (mark.Trapped Pc))) (some_is (record { nodes = nodes; effect = stops (coded m rs cs) (mark.Trapped Pc) }) t e)
        (record { terms = are; keeps = λ c v h. h; effect = stops_alike V (none_holds inputs nodes are) size m rs cs core (mark.Trapped Pc) })
    effect_made (Some ins) t lawful e =
        action_made ins lawful t (action_of ins.op (following m) ins (word_in nodes (first_operand (Some ins) rs xs)) (word_in nodes (second_operand (Some ins) rs xs))
        (cell_of nodes (coded m rs cs) ins (word_in nodes (first_operand (Some ins) rs xs)))) refl e

  -- a tile
  tile_made : (topo : Topology) (p : ℕ) (t : TileTerms) (e : TileEffect) → TileMade inputs nodes t e → RowMade inputs nodes (tile_term_row topo p t) (tile_network_row topo p e)
  tile_made topo p t e is =
      let H : ℕ → ℕ → Type 0 = Holds (term_values inputs t.nodes) in
      let none = none_holds inputs t.nodes is.terms in
      record {
        terms = is.terms;
        keeps = is.keeps;
        next = is.effect.next;
        sent = sent_append H none (sent_to (output_wire topo p 4) t.effect.sent1) (sent_to (output_wire topo p 4) e.sent1) (sent_to (output_wire topo p 9) t.effect.sent2) (sent_to (output_wire topo p 9) e.sent2)
            (to_alike H none (output_wire topo p 4) t.effect.sent1 e.sent1 is.effect.sent1) (to_alike H none (output_wire topo p 9) t.effect.sent2 e.sent2 is.effect.sent2);
        touched = is.effect.touched;
      }

  -- a switch: what its instruction leaves
  pub record SwitchMade (t : SwitchTerms) (m : SwitchLocal) : Type 0 where
    pub terms : AreTerms inputs t.nodes
    pub keeps : (c y : ℕ) → Holds V c y → Holds (term_values inputs t.nodes) c y
    pub rest : t.next ≡ record m { regs = t.next.regs }
    pub regs : Pairs (Holds (term_values inputs t.nodes)) t.next.regs m.regs

  module _ (size : ℕ) (m : SwitchLocal) (rs : List ℕ) (regs : Pairs (Holds V) rs m.regs) (ins : SwitchInstruction) (a x : ℕ) (value : Holds V a x) (t : SwitchTerms) where
    abbrev l : SwitchLocal
    l = record m { regs = rs }

    switch_still : (next after : SwitchLocal) → Some (record { nodes = nodes; next = next }) ≡ Some t → next ≡ record after { regs = next.regs } → Pairs (Holds V) next.regs after.regs → SwitchMade t after
    switch_still next after e rest h =
        subst (λ k. SwitchMade k after) (some_is (record { nodes = nodes; next = next }) t e) (record { terms = are; keeps = λ c v g. g; rest = rest; regs = h })

    count_value : (w : ℕ) → word_in nodes (slice_index rs ins.rd) ≡ Some w → w ≡ slice_index m.regs ins.rd
    count_value w e =
        same_value inputs V (slice_index rs ins.rd) w (slice_index m.regs ins.rd) (word_holds inputs nodes (slice_index rs ins.rd) w e) (pairs_at (Holds V) (none_holds inputs nodes are) rs m.regs regs ins.rd)

    branch_made : (o : Option ℕ) (pc : ℕ → ℕ) → word_in nodes (slice_index rs ins.rd) ≡ o → switch_branch nodes size l o pc ≡ Some t → SwitchMade t (switch_goes size m m.regs (pc (slice_index m.regs ins.rd)))
    branch_made None pc is e = none_some t e
    branch_made (Some w) pc is e =
        switch_still (switch_goes size l rs (pc w)) (switch_goes size m m.regs (pc (slice_index m.regs ins.rd))) e (ap (λ v. switch_goes size l rs (pc v)) (count_value w is)) regs

    count_made : (o : Option ℕ) → word_in nodes (slice_index rs ins.rd) ≡ o → count_down nodes size l ins o ≡ Some t
        → SwitchMade t (control switch.Bnezd size m ins x)
    count_made None is e = none_some t e
    count_made (Some w) is e =
        let v : ℕ = slice_index m.regs ins.rd in
        let same : w ≡ v = count_value w is in
        let r : Numbered = with_node nodes (Const (word_sub w 1)) in
        let small : w < 2 ^ 32 = are.words (slice_index rs ins.rd) w (word_holds inputs nodes (slice_index rs ins.rd) w is) in
        let made : IsMade inputs nodes r (word_sub w 1) = word_made inputs nodes are (word_sub w 1) (each w 1 small (omega arith)).sub in
        subst (λ k. SwitchMade k (control switch.Bnezd size m ins x)) (some_is (counted size l ins w r) t e)
        (record {
          terms = made.terms;
          keeps = made.keeps;
          rest = ap (λ u. switch_goes size l (set rs ins.rd r.number) (cond (u == 0) (switch_following l) ins.target)) same;
          regs = pairs_set (Holds (term_values inputs r.nodes)) (none_holds inputs r.nodes made.terms) rs m.regs (pairs_up (Holds V) (Holds (term_values inputs r.nodes)) made.keeps rs m.regs regs) ins.rd r.number (word_sub v 1)
              (subst (λ u. Holds (term_values inputs r.nodes) r.number (word_sub u 1)) same made.value);
        })

    control_made : (o : SwitchOp) → term_control nodes o size l ins a ≡ Some t → SwitchMade t (control o size m ins x)
    control_made switch.Nop e = switch_still (control switch.Nop size l ins a) (control switch.Nop size m ins x) e refl regs
    control_made switch.Jump e = switch_still (control switch.Jump size l ins a) (control switch.Jump size m ins x) e refl regs
    control_made switch.Beqz e = branch_made (word_in nodes (slice_index rs ins.rd)) (λ v. cond (v == 0) ins.target (switch_following m)) refl e
    control_made switch.Bnez e = branch_made (word_in nodes (slice_index rs ins.rd)) (λ v. cond (v == 0) (switch_following m) ins.target) refl e
    control_made switch.Bnezd e = count_made (word_in nodes (slice_index rs ins.rd)) refl e
    control_made switch.Move e =
        switch_still (control switch.Move size l ins a) (control switch.Move size m ins x) e refl (pairs_set (Holds V) (none_holds inputs nodes are) rs m.regs regs ins.rd a x value)
    control_made switch.Halt e = switch_still (control switch.Halt size l ins a) (control switch.Halt size m ins x) e refl regs

  -- a switch with its next instruction
  module _ (topo : Topology) (p size : ℕ) (m : SwitchLocal) (rs : List ℕ) (regs : Pairs (Holds V) rs m.regs) (xs ys : List ℕ) (given : Pairs (Holds V) xs ys) where
    after_made : (o : Option SwitchInstruction) (t : SwitchTerms) → term_switch nodes o size (record m { regs = rs }) (given_to topo p o xs) ≡ Some t → SwitchMade t (switch_effect_of o size m (given_to topo p o ys)).next
    after_made None t e =
        subst (λ k. SwitchMade k (switch_effect_of None size m (given_to topo p None ys)).next)
        (some_is (record { nodes = nodes; next = (switch_effect_of None size (record m { regs = rs }) (given_to topo p None xs)).next }) t e)
        (record { terms = are; keeps = λ c v h. h; rest = refl; regs = regs })
    after_made (Some ins) t e =
        let gs : List (Option ℕ) = given_to topo p (Some ins) xs in
        let hs : List (Option ℕ) = given_to topo p (Some ins) ys in
        let a : ℕ = unwrap_or (source_value rs gs (move_source ins)) 0 in
        let x : ℕ = unwrap_or (source_value m.regs hs (move_source ins)) 0 in
        let none = none_holds inputs nodes are in
        let value : Holds V a x = value_alike (Holds V) none (source_value rs gs (move_source ins)) (source_value m.regs hs (move_source ins))
        (source_alike (Holds V) none rs m.regs gs hs regs (given_alike (Holds V) none topo p ins ends xs ys given) (move_source ins)) in
        control_made size m rs regs ins a x value t ins.op e

    switch_made : (o : Option SwitchInstruction) (t : SwitchTerms) → term_switch nodes o size (record m { regs = rs }) (given_to topo p o xs) ≡ Some t
        → RowMade inputs nodes (switch_term_row (switch_network_row topo p (switch_effect_of o size (record m { regs = rs }) (given_to topo p o xs))) t) (switch_network_row topo p (switch_effect_of o size m (given_to topo p o ys)))
    switch_made o t e =
        let is : SwitchMade t (switch_effect_of o size m (given_to topo p o ys)).next = after_made o t e in
        record {
          terms = is.terms;
          keeps = is.keeps;
          next = (is.rest, is.regs);
          sent = sent_up (Holds V) (Holds (term_values inputs t.nodes)) is.keeps
              (switch_network_row topo p (switch_effect_of o size (record m { regs = rs }) (given_to topo p o xs))).sent (switch_network_row topo p (switch_effect_of o size m (given_to topo p o ys))).sent
              (switch_sent (Holds V) (none_holds inputs nodes are) topo p size o (record m { regs = rs }) m xs ys (record { regs = regs; rest = refl }) given);
          touched = refl;
        }

  -- ports
  source_sent : (wires : List ℕ) (a x : ℕ) → Holds V a x → PairsSent (Holds V) (map (λ w. record { wire = w; value = a }) wires) (map (λ w. record { wire = w; value = x }) wires)
  source_sent [] a x h = tt
  source_sent (w ∷ wires) a x h = (refl, h, source_sent wires a x h)

  source_made : (wires words given : List ℕ) (l m : PortLocal) → l ≡ m → Pairs (Holds V) words given → RowMade inputs nodes (record { nodes = nodes; row = source_row wires words l }) (source_row wires given m)
  source_made wires words given l m e h =
      subst (λ k. RowMade inputs nodes (record { nodes = nodes; row = source_row wires words l }) (source_row wires given k)) e
      (record { terms = are; keeps = λ c v g. g; next = refl; sent = source_sent wires (slice_index words l.done) (slice_index given l.done) (pairs_at (Holds V) (none_holds inputs nodes are) words given h l.done); touched = refl })

  sink_made : (l m : PortLocal) (xs ys : List ℕ) → (l.done ≡ m.done) × Pairs (Holds V) l.got m.got → Pairs (Holds V) xs ys → RowMade inputs nodes (record { nodes = nodes; row = sink_row l xs }) (sink_row m ys)
  sink_made l m xs ys h g = record {
    terms = are;
    keeps = λ c v k. k;
    next = (ap (λ n. n + 1) h.0, pairs_push (Holds V) l.got m.got (slice_index xs 0) (slice_index ys 0) h.1 (pairs_front (Holds V) (none_holds inputs nodes are) xs ys g));
    sent = tt;
    touched = refl;
  }

  -- a processor of a set with the numbers of the inputs in its sources, and of the set with words there
  module _ (set : ProgramSet) (nums words : List PortProgram) (lawful : (p : ℕ) (i : ℕ) → IsLawfulIns (slice_get (tile_code set p) i))
      (fed : (p : ℕ) → Pairs (Holds V) (words_of (port_program (record set { ports = nums }) p)) (words_of (port_program (record set { ports = words }) p))) where
    abbrev numbers : ProgramSet
    numbers = record set { ports = nums }

    abbrev machine : ProgramSet
    machine = record set { ports = words }

    tile_row_made : (p : ℕ) (l m : TileLocal) (xs ys : List ℕ) (t : TermRow) → AlikeTile V l m → Pairs (Holds V) xs ys → term_row numbers nodes p (Tile l) xs ≡ Some t → RowMade inputs nodes t (row machine p (Tile m) ys)
    tile_row_made p l m xs ys t h given e = by (term_effect nodes o size (coded m l.regs l.memory) a b) refl (subst (λ k. term_row numbers nodes p (Tile k) xs ≡ Some t) h.rest e) where
      o : Option Instruction
      o = slice_get (tile_code set p) m.pc

      size : ℕ
      size = length (tile_code set p)

      a : ℕ
      a = first_operand o l.regs xs

      b : ℕ
      b = second_operand o l.regs xs

      by : (q : Option TileTerms) → term_effect nodes o size (coded m l.regs l.memory) a b ≡ q → option_map (tile_term_row set.topo p) q ≡ Some t → RowMade inputs nodes t (row machine p (Tile m) ys)
      by None is g = none_some t g
      by (Some k) is g =
          subst (λ r. RowMade inputs nodes r (row machine p (Tile m) ys)) (some_is (tile_term_row set.topo p k) t g)
          (tile_made set.topo p k (effect_of o size m (first_operand o m.regs ys) (second_operand o m.regs ys)) (effect_made size m l.regs l.memory h.core xs ys given o k (lawful p m.pc) is))

    switch_row_made : (p : ℕ) (l m : SwitchLocal) (xs ys : List ℕ) (t : TermRow) → (l ≡ record m { regs = l.regs }) × Pairs (Holds V) l.regs m.regs → Pairs (Holds V) xs ys → term_row numbers nodes p (Switch l) xs ≡ Some t
        → RowMade inputs nodes t (row machine p (Switch m) ys)
    switch_row_made p l m xs ys t h given e = by (term_switch nodes o size (record m { regs = l.regs }) (given_to set.topo p o xs)) refl (subst (λ k. term_row numbers nodes p (Switch k) xs ≡ Some t) h.0 e) where
      o : Option SwitchInstruction
      o = slice_get (switch_code set p) m.pc

      size : ℕ
      size = length (switch_code set p)

      by : (q : Option SwitchTerms) → term_switch nodes o size (record m { regs = l.regs }) (given_to set.topo p o xs) ≡ q
          → option_map (switch_term_row (switch_network_row set.topo p (switch_effect_of o size (record m { regs = l.regs }) (given_to set.topo p o xs)))) q ≡ Some t → RowMade inputs nodes t (row machine p (Switch m) ys)
      by None is g = none_some t g
      by (Some k) is g =
          subst (λ r. RowMade inputs nodes r (row machine p (Switch m) ys)) (some_is (switch_term_row (switch_network_row set.topo p (switch_effect_of o size (record m { regs = l.regs }) (given_to set.topo p o xs))) k) t g)
          (switch_made set.topo p size m l.regs h.1 xs ys given o k is)

    pub row_made : (p : ℕ) (l m : Local) (xs ys : List ℕ) (t : TermRow) → AlikeLocal V l m → Pairs (Holds V) xs ys → term_row numbers nodes p l xs ≡ Some t → RowMade inputs nodes t (row machine p m ys)
    row_made p l m xs ys t h given e =
        each_kind V (λ l m. term_row numbers nodes p l xs ≡ Some t → RowMade inputs nodes t (row machine p m ys))
        (λ l m h e. tile_row_made p l m xs ys t h given e)
        (λ l m h e. switch_row_made p l m xs ys t h given e)
        (λ l m h e. subst (λ r. RowMade inputs nodes r (row machine p (Source m) ys)) (some_is (record { nodes = nodes; row = source_row (port_outputs set.topo p) (words_of (port_program numbers p)) l }) t e)
        (source_made (port_outputs set.topo p) (words_of (port_program numbers p)) (words_of (port_program machine p)) l m h (fed p)))
        (λ l m h e. subst (λ r. RowMade inputs nodes r (row machine p (Sink m) ys)) (some_is (record { nodes = nodes; row = sink_row l xs }) t e) (sink_made l m xs ys h given))
        l m h e
