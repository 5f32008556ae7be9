-- A branch on a term that is not 0 is a row of the machine.
use Rattle.std.proofs.Common.{length, ◌≡◌, ℕ, zero, suc, false, cond, not, List, set, Option, Some, None, refl, sym, ap, ◌∙◌, subst, arith}
use Rattle.std.specs.Prelude.{slice_index, slice_get, unwrap_or, ◌==◌}
use Rattle.std.proofs.Math.Dec.{eqb-suc-zero}
use Rattle.raw_tile_isa.specs.declared.table.TileOp.{TileOp}
use Rattle.raw_tile_isa.specs.declared.table.TileOp.TheVariants.{Beq, Bne}
use Rattle.raw_tile_isa.specs.Instruction.{Instruction}
use Rattle.raw_tile_isa.specs.Words.{word_add, word_sub, sign_extended, EachGivesWords}
use Rattle.raw_switch_isa.specs.declared.table.SwitchOp.{SwitchOp}
use Rattle.raw_switch_isa.specs.declared.table.SwitchOp.TheVariants as switch
use Rattle.raw_switch_isa.specs.Instruction.{SwitchInstruction}
use Rattle.raw_grid.specs.Topology.{Topology}
use Rattle.raw_grid.specs.Wires.{output_wire}
use Rattle.raw_model.specs.Local.{Local, Tile, Switch, TileLocal, SwitchLocal}
use Rattle.std.specs.Option.{option_map}
use Rattle.raw_switch_isa.specs.Ends.{move_source}
use Rattle.raw_model.specs.Program.{ProgramSet, PortProgram}
use Rattle.raw_model.specs.TileTable.{goes, following, branches, row_effect, effect_of}
use Rattle.raw_model.specs.SwitchTable.{control, source_value}
use Rattle.raw_model.specs.SwitchTable.{goes as switch_goes, following as switch_following, effect_of as switch_effect_of}
use Rattle.raw_model.specs.Machine.{sent_to, tile_network_row, switch_network_row, tile_code, switch_code, first_operand, second_operand, given_to, row}
use Rattle.raw_flow.specs.declared.node.FlowOp.TheVariants as op
use Rattle.raw_flow.specs.declared.node.Node.{Node}
use Rattle.raw_flow.specs.declared.node.Node.TheVariants.{Const}
use Rattle.raw_term.specs.Terms.{word_in, Numbered, with_node, made}
use Rattle.raw_term.specs.TermRows.{TileTerms, SwitchTerms}
use Rattle.raw_term.specs.TermMachine.{TermRow, tile_term_row, switch_term_row}
use Rattle.raw_term.proofs.Terms.{Holds, AreTerms, IsMade, some_is, none_some, word_holds, same_value, term_values}
use Rattle.raw_term.proofs.Forms.{word_made, made_is}
use Rattle.raw_term.proofs.Image.{Pairs, pairs_up}
use Rattle.raw_term.proofs.SwitchImage.{pairs_at, pairs_set, sent_append, to_alike, switch_sent}
use Rattle.raw_term.proofs.TileTerms.{coded, AlikeCore, none_holds}
use Rattle.raw_term.proofs.Rows.{AlikeLocal, each_kind, RowMade, sent_up, first_alike, second_alike}
use Rattle.raw_rows.specs.Noted.{noted_pc, noted_tile, noted_count, noted_switch, NotedRow, noting, noted_tile_row, noted_switch_row, noted_row}

not_zero : (x : ℕ) → (x ≡ 0 → ⊥) → (x == 0) ≡ false
not_zero zero f = absurd (f refl)
not_zero (suc x) f = eqb-suc-zero x

branch_goes : (o : TileOp) (size : ℕ) (m : TileLocal) (ins : Instruction) (x pc : ℕ) → noted_pc o (following m) ins ≡ Some pc → (x ≡ 0 → ⊥) → row_effect o size m ins x 0 ≡ goes size m pc
branch_goes Bne size m ins x pc e f = ap (λ b. branches size m ins (not b)) (not_zero x f) ∙ ap (λ n. goes size m n) (some_is (word_add (following m) (sign_extended ins.imm)) pc e)
branch_goes Beq size m ins x pc e f = ap (λ b. branches size m ins b) (not_zero x f) ∙ ap (λ n. goes size m n) (some_is (following m) pc e)
branch_goes _ size m ins x pc e f = none_some pc e

module _ (each : EachGivesWords) (inputs : List ℕ) (nodes : List Node) (are : AreTerms inputs nodes) where
  abbrev V : List ℕ
  V = term_values inputs nodes

  -- a tile's branch; `a` and `b` are the terms at rs and rt, `x` and `y` their values
  pub noted_tile_made : (topo : Topology) (p size : ℕ) (m : TileLocal) (rs cs : List ℕ) (core : AlikeCore V rs cs m) (ins : Instruction) (b x y : ℕ) (t : TileTerms) → Holds V b y → (x ≡ 0 → ⊥)
      → noted_tile nodes size (coded m rs cs) (word_in nodes b) (noted_pc ins.op (following m) ins) ≡ Some t → RowMade inputs nodes (tile_term_row topo p t) (tile_network_row topo p (row_effect ins.op size m ins x y))
  noted_tile_made topo p size m rs cs core ins b x y t hb some is = by (word_in nodes b) (noted_pc ins.op (following m) ins) refl refl is where
    by : (o q : Option ℕ) → word_in nodes b ≡ o → noted_pc ins.op (following m) ins ≡ q → noted_tile nodes size (coded m rs cs) o q ≡ Some t
        → RowMade inputs nodes (tile_term_row topo p t) (tile_network_row topo p (row_effect ins.op size m ins x y))
    by (Some zero) (Some pc) e f g =
        let zero_is : 0 ≡ y = same_value inputs V b 0 y (word_holds inputs nodes b 0 e) hb in
        let none : Holds V 0 0 = none_holds inputs nodes are in
        let H : ℕ → ℕ → Type 0 = Holds V in
        subst (λ k. RowMade inputs nodes (tile_term_row topo p k) (tile_network_row topo p (row_effect ins.op size m ins x y))) (some_is (record { nodes = nodes; effect = goes size (coded m rs cs) pc }) t g)
        (subst (λ z. RowMade inputs nodes (tile_term_row topo p (record { nodes = nodes; effect = goes size (coded m rs cs) pc })) (tile_network_row topo p (row_effect ins.op size m ins x z))) zero_is
        (subst (λ k. RowMade inputs nodes (tile_term_row topo p (record { nodes = nodes; effect = goes size (coded m rs cs) pc })) (tile_network_row topo p k)) (sym (branch_goes ins.op size m ins x pc f some))
        (record {
          terms = are;
          keeps = λ c v h. h;
          next = record { rest = refl; core = record { each = core.each; many = core.many; size = core.size; bytes = core.bytes; words = core.words } };
          sent = sent_append H none (sent_to (output_wire topo p 4) None) (sent_to (output_wire topo p 4) None) (sent_to (output_wire topo p 9) None) (sent_to (output_wire topo p 9) None)
              (to_alike H none (output_wire topo p 4) None None tt) (to_alike H none (output_wire topo p 9) None None tt);
          touched = refl;
        })))
    by (Some zero) None e f g = none_some t g
    by (Some (suc n)) q e f g = none_some t g
    by None q e f g = none_some t g

  -- a switch's branch on a register with the value v
  pub record SwitchGoes (t : SwitchTerms) (after : SwitchLocal) : Type 0 where
    pub terms : AreTerms inputs t.nodes
    pub keeps : (c v : ℕ) → Holds V c v → Holds (term_values inputs t.nodes) c v
    pub rest : t.next ≡ record after { regs = t.next.regs }
    pub regs : Pairs (Holds (term_values inputs t.nodes)) t.next.regs after.regs

  pub noted_switch_made : (o : SwitchOp) (size : ℕ) (m : SwitchLocal) (rs : List ℕ) → Pairs (Holds V) rs m.regs → (ins : SwitchInstruction) (value : ℕ) (t : SwitchTerms) → (slice_index m.regs ins.rd ≡ 0 → ⊥)
      → noted_switch nodes o size (record m { regs = rs }) ins ≡ Some t → SwitchGoes t (control o size m ins value)
  noted_switch_made switch.Beqz size m rs regs ins value t some is =
      let to : control switch.Beqz size m ins value ≡ switch_goes size m m.regs (switch_following m) = ap (λ b. switch_goes size m m.regs (cond b ins.target (switch_following m))) (not_zero (slice_index m.regs ins.rd) some) in
      subst (λ k. SwitchGoes k (control switch.Beqz size m ins value)) (some_is (record { nodes = nodes; next = switch_goes size (record m { regs = rs }) rs (switch_following m) }) t is)
      (subst (λ k. SwitchGoes (record { nodes = nodes; next = switch_goes size (record m { regs = rs }) rs (switch_following m) }) k) (sym to) (record { terms = are; keeps = λ c v h. h; rest = refl; regs = regs }))
  noted_switch_made switch.Bnez size m rs regs ins value t some is =
      let to : control switch.Bnez size m ins value ≡ switch_goes size m m.regs ins.target = ap (λ b. switch_goes size m m.regs (cond b (switch_following m) ins.target)) (not_zero (slice_index m.regs ins.rd) some) in
      subst (λ k. SwitchGoes k (control switch.Bnez size m ins value)) (some_is (record { nodes = nodes; next = switch_goes size (record m { regs = rs }) rs ins.target }) t is)
      (subst (λ k. SwitchGoes (record { nodes = nodes; next = switch_goes size (record m { regs = rs }) rs ins.target }) k) (sym to) (record { terms = are; keeps = λ c v h. h; rest = refl; regs = regs }))
  noted_switch_made switch.Bnezd size m rs regs ins value t some is =
      let v : ℕ = slice_index m.regs ins.rd in
      let a : ℕ = slice_index rs ins.rd in
      let holds : Holds V a v = pairs_at (Holds V) (none_holds inputs nodes are) rs m.regs regs ins.rd in
      let k : Numbered = with_node nodes (Const 1) in
      let one : IsMade inputs nodes k 1 = word_made inputs nodes are 1 (omega arith) in
      let r : Numbered = made k.nodes op.Sub a k.number in
      let less : IsMade inputs k.nodes r (word_sub v 1) = made_is inputs k.nodes one.terms each op.Sub a k.number v 1 (one.keeps a v holds) one.value in
      let keeps : (c y : ℕ) → Holds V c y → Holds (term_values inputs r.nodes) c y = λ c y h. less.keeps c y (one.keeps c y h) in
      let to : control switch.Bnezd size m ins value ≡ switch_goes size m (set m.regs ins.rd (word_sub v 1)) ins.target =
      ap (λ b. switch_goes size m (set m.regs ins.rd (word_sub v 1)) (cond b (switch_following m) ins.target)) (not_zero v some) in
      subst (λ j. SwitchGoes j (control switch.Bnezd size m ins value)) (some_is (noted_count size (record m { regs = rs }) ins r) t is)
      (subst (λ j. SwitchGoes (noted_count size (record m { regs = rs }) ins r) j) (sym to)
      (record {
        terms = less.terms;
        keeps = keeps;
        rest = refl;
        regs = pairs_set (Holds (term_values inputs r.nodes)) (none_holds inputs r.nodes less.terms) rs m.regs (pairs_up (Holds V) (Holds (term_values inputs r.nodes)) keeps rs m.regs regs) ins.rd r.number (word_sub v 1) less.value;
      }))
  noted_switch_made _ size m rs regs ins value t some is = none_some t is

  -- the row of a processor
  module _ (set_ : ProgramSet) (p : ℕ) (xs ys : List ℕ) (given : Pairs (Holds V) xs ys) (n : NotedRow) (some : (x : ℕ) → Holds V n.term x → x ≡ 0 → ⊥) where
    tile_noted : (size : ℕ) (m : TileLocal) (rs cs : List ℕ) → AlikeCore V rs cs m → (o : Option Instruction) → noted_tile_row set_.topo p nodes size (coded m rs cs) xs o ≡ Some n
        → RowMade inputs nodes n.row (tile_network_row set_.topo p (effect_of o size m (first_operand o m.regs ys) (second_operand o m.regs ys)))
    tile_noted size m rs cs core None e = none_some n e
    tile_noted size m rs cs core (Some ins) e = by (noted_tile nodes size (coded m rs cs) (word_in nodes (second_operand (Some ins) rs xs)) (noted_pc ins.op (following m) ins)) refl e where
      by : (o : Option TileTerms) → noted_tile nodes size (coded m rs cs) (word_in nodes (second_operand (Some ins) rs xs)) (noted_pc ins.op (following m) ins) ≡ o
          → option_map (λ (t : TileTerms). noting (first_operand (Some ins) rs xs) (tile_term_row set_.topo p t)) o ≡ Some n
          → RowMade inputs nodes n.row (tile_network_row set_.topo p (effect_of (Some ins) size m (first_operand (Some ins) m.regs ys) (second_operand (Some ins) m.regs ys)))
      by None f g = none_some n g
      by (Some t) f g =
          let same : noting (first_operand (Some ins) rs xs) (tile_term_row set_.topo p t) ≡ n = some_is (noting (first_operand (Some ins) rs xs) (tile_term_row set_.topo p t)) n g in
          let none : Holds V 0 0 = none_holds inputs nodes are in
          let ha : Holds V (first_operand (Some ins) rs xs) (first_operand (Some ins) m.regs ys) = first_alike (Holds V) none rs m.regs xs ys core.each given (Some ins) in
          let hb : Holds V (second_operand (Some ins) rs xs) (second_operand (Some ins) m.regs ys) = second_alike (Holds V) none rs m.regs xs ys core.each given (Some ins) in
          subst (λ (k : TermRow). RowMade inputs nodes k (tile_network_row set_.topo p (row_effect ins.op size m ins (first_operand (Some ins) m.regs ys) (second_operand (Some ins) m.regs ys)))) (ap (λ (k : NotedRow). k.row) same)
          (noted_tile_made set_.topo p size m rs cs core ins (second_operand (Some ins) rs xs) (first_operand (Some ins) m.regs ys) (second_operand (Some ins) m.regs ys) t hb
          (some (first_operand (Some ins) m.regs ys) (subst (λ (k : NotedRow). Holds V k.term (first_operand (Some ins) m.regs ys)) same ha)) f)

    switch_noted : (size : ℕ) (m : SwitchLocal) (rs : List ℕ) → Pairs (Holds V) rs m.regs → (o : Option SwitchInstruction) → noted_switch_row set_.topo p nodes size (record m { regs = rs }) xs o ≡ Some n
        → RowMade inputs nodes n.row (switch_network_row set_.topo p (switch_effect_of o size m (given_to set_.topo p o ys)))
    switch_noted size m rs regs None e = none_some n e
    switch_noted size m rs regs (Some ins) e = by (noted_switch nodes ins.op size (record m { regs = rs }) ins) refl e where
      by : (o : Option SwitchTerms) → noted_switch nodes ins.op size (record m { regs = rs }) ins ≡ o
          → option_map (λ (t : SwitchTerms). noting (slice_index rs ins.rd) (switch_term_row (switch_network_row set_.topo p (switch_effect_of (Some ins) size (record m { regs = rs }) (given_to set_.topo p (Some ins) xs))) t)) o ≡ Some n
          → RowMade inputs nodes n.row (switch_network_row set_.topo p (switch_effect_of (Some ins) size m (given_to set_.topo p (Some ins) ys)))
      by None f g = none_some n g
      by (Some t) f g =
          let row_ : TermRow = switch_term_row (switch_network_row set_.topo p (switch_effect_of (Some ins) size (record m { regs = rs }) (given_to set_.topo p (Some ins) xs))) t in
          let same : noting (slice_index rs ins.rd) row_ ≡ n = some_is (noting (slice_index rs ins.rd) row_) n g in
          let none : Holds V 0 0 = none_holds inputs nodes are in
          let held : Holds V (slice_index rs ins.rd) (slice_index m.regs ins.rd) = pairs_at (Holds V) none rs m.regs regs ins.rd in
          let value : ℕ = unwrap_or (source_value m.regs (given_to set_.topo p (Some ins) ys) (move_source ins)) 0 in
          let is : SwitchGoes t (control ins.op size m ins value) =
          noted_switch_made ins.op size m rs regs ins value t (some (slice_index m.regs ins.rd) (subst (λ (k : NotedRow). Holds V k.term (slice_index m.regs ins.rd)) same held)) f in
          subst (λ (k : TermRow). RowMade inputs nodes k (switch_network_row set_.topo p (switch_effect_of (Some ins) size m (given_to set_.topo p (Some ins) ys)))) (ap (λ (k : NotedRow). k.row) same)
          (record {
            terms = is.terms;
            keeps = is.keeps;
            next = (is.rest, is.regs);
            sent = sent_up (Holds V) (Holds (term_values inputs t.nodes)) is.keeps
                (switch_network_row set_.topo p (switch_effect_of (Some ins) size (record m { regs = rs }) (given_to set_.topo p (Some ins) xs))).sent (switch_network_row set_.topo p (switch_effect_of (Some ins) size m (given_to set_.topo p (Some ins) ys))).sent
                (switch_sent (Holds V) none set_.topo p size (Some ins) (record m { regs = rs }) m xs ys (record { regs = regs; rest = refl }) given);
            touched = refl;
          })

    -- where the term that is noted is not 0, it is the machine's row
    pub noted_row_made : (nums words : List PortProgram) (l m : Local) → AlikeLocal V l m → noted_row (record set_ { ports = nums }) nodes p l xs ≡ Some n → RowMade inputs nodes n.row (row (record set_ { ports = words }) p m ys)
    noted_row_made nums words =
        each_kind V (λ l m. noted_row (record set_ { ports = nums }) nodes p l xs ≡ Some n → RowMade inputs nodes n.row (row (record set_ { ports = words }) p m ys))
        (λ l m h e. tile_noted (length (tile_code set_ p)) m l.regs l.memory h.core (slice_get (tile_code set_ p) m.pc) (subst (λ (k : TileLocal). noted_row (record set_ { ports = nums }) nodes p (Tile k) xs ≡ Some n) h.rest e))
        (λ l m h e. switch_noted (length (switch_code set_ p)) m l.regs h.1 (slice_get (switch_code set_ p) m.pc) (subst (λ (k : SwitchLocal). noted_row (record set_ { ports = nums }) nodes p (Switch k) xs ≡ Some n) h.0 e))
        (λ l m h e. none_some n e)
        (λ l m h e. none_some n e)
