-- Worked rows: a set and claims of it: 'addu $24, $24, $24' on one tile, whose switch carries two words to it and their sum back.
use Rattle.std.proofs.Common.{◌≡◌, ◌-◌, ◌^◌, List, [], ◌∷◌, Some, None, refl, inl}
use Rattle.raw_tile_isa.specs.declared.table.TileOp.TheVariants as op
use Rattle.raw_tile_isa.specs.Words.{word_sub, word_mul_low, word_shift_left, word_leading_zeros, places}
use Rattle.raw_tile_isa.specs.Made as tile
use Rattle.raw_switch_isa.specs.Made as switch
use Rattle.raw_switch_isa.specs.Ends.{ends}
use Rattle.raw_grid.specs.Wires.{input_wire, output_wire, wires_of, producer_of, consumer_of}
use Rattle.raw_model.specs.Waits.{inputs_at, outputs_at}
use Rattle.raw_model.specs.Outcomes.{outcome}
use Rattle.raw_outcome.specs.declared.ends.Outcome.TheVariants as answer
use Rattle.raw_grid.specs.declared.parts.Net.TheVariants.{One}
use Rattle.raw_grid.specs.declared.parts.Side.TheVariants.{W}
use Rattle.raw_model.specs.Program.{ProgramSet}
use Rattle.raw_model.specs.Machine.{machine_of}
use Rattle.raw_codegen.specs.Rows.{from_side, to_side}
use Rattle.raw_flow.specs.Ports.{source_place, sink_place}
use Rattle.raw_flow.specs.declared.node.FlowOp.TheVariants.{Add, Sub, Mul, And, Or, Less, ShiftLeft, ShiftRight}
use Rattle.raw_flow.specs.declared.node.Node.{Node}
use Rattle.raw_flow.specs.declared.node.Node.TheVariants.{Input, Const, Apply}
use Rattle.raw_flow.specs.Flows.{Dataflow}
use Rattle.raw_model.specs.declared.marks.Mark.TheVariants as mark
use Rattle.raw_model.specs.declared.marks.Cause.TheVariants.{Misaligned}
use Rattle.raw_model.specs.Parts.{received}
use Rattle.raw_term.specs.declared.action.Action.TheVariants.{Stop, Read, Write}
use Rattle.raw_term.specs.Terms.{made}
use Rattle.raw_term.specs.TermRows.{action_of}
use Rattle.raw_term.specs.TermMachine.{numbered, term_start}
use Rattle.raw_term.specs.declared.verdict.Verdict.TheVariants.{Proved, Hangs, Differs}
use Rattle.raw_term.specs.Verdicts.{TermRun, ran, first_run, of_words, IsOfRest, IsOfRun}

sum_set : ProgramSet
sum_set = record {
  topo = record { cols = 1; rows = 1; places = source_place ∷ sink_place ∷ [] };
  limit = 100;
  depth = 4;
  ports = record { words = 7 ∷ 8 ∷ []; capacity = 0 } ∷ record { words = []; capacity = 1 } ∷ [];
  tiles = record {
    code = tile.registers op.Addu 24 24 24 ∷ tile.halt ∷ [];
    switch = from_side One W ∷ from_side One W ∷ to_side One W ∷ switch.halt ∷ [];
    cells = [];
    misses = [];
  } ∷ [];
  shows = [];
}

-- 'input x', 'input y', 'def s OP ..', 'out s'
sum_claim : Dataflow
sum_claim = record { cols = 1; rows = 1; nodes = Input ∷ Input ∷ Apply Add 1 0 ∷ []; outs = 2 ∷ [] }

other_claim : Dataflow
other_claim = record { cols = 1; rows = 1; nodes = Input ∷ Input ∷ Apply Sub 0 1 ∷ []; outs = 2 ∷ [] }

last : TermRun
last = ran (numbered sum_set) 6 (first_run sum_set)

-- the sink has received the term of the sum, which both orders of its operands have, and that of the difference is another
sum_received : received last.at.state ≡ 3 ∷ []
unfolding last sum_set machine_of term_start input_wire output_wire wires_of ends
sum_received = refl

sum_proved : of_words last.at sum_claim (received last.at.state) ≡ Proved 1
unfolding last sum_set sum_claim machine_of term_start input_wire output_wire wires_of ends
sum_proved = refl

other_unproved : of_words last.at other_claim (received last.at.state) ≡ Differs 0
unfolding last sum_set other_claim machine_of term_start input_wire output_wire wires_of ends word_sub
other_unproved = refl

-- a claim that makes the sum by other operations: x - (0 - y)
turned_claim : Dataflow
turned_claim = record { cols = 1; rows = 1; nodes = Input ∷ Input ∷ Const 0 ∷ Apply Sub 2 1 ∷ Apply Sub 0 3 ∷ []; outs = 4 ∷ [] }

turned_proved : of_words last.at turned_claim (received last.at.state) ≡ Proved 1
unfolding last sum_set turned_claim machine_of term_start input_wire output_wire wires_of ends word_sub word_mul_low
turned_proved = refl

whole_verdict : IsOfRest (numbered sum_set) sum_claim [] last.at (Proved 1)
unfolding last sum_set sum_claim machine_of term_start input_wire output_wire wires_of ends outcome inputs_at outputs_at producer_of consumer_of
whole_verdict = record { how = answer.Done; tells = refl; is = inl refl }

-- 'beq $24, $0, 1' wants the word that the source gives: it is step 2, of the tile
branch_set : ProgramSet
branch_set = record {
  topo = record { cols = 1; rows = 1; places = source_place ∷ sink_place ∷ [] };
  limit = 100;
  depth = 4;
  ports = record { words = 7 ∷ []; capacity = 0 } ∷ record { words = []; capacity = 1 } ∷ [];
  tiles = record {
    code = record { op = op.Beq; rs = 24; rt = 0; rd = 0; sh = 0; imm = 1; target = 0 } ∷ tile.halt ∷ [];
    switch = from_side One W ∷ switch.halt ∷ [];
    cells = [];
    misses = [];
  } ∷ [];
  shows = [];
}

one_input : Dataflow
one_input = record { cols = 1; rows = 1; nodes = Input ∷ []; outs = 0 ∷ [] }

branch_last : TermRun
branch_last = ran (numbered branch_set) 6 (first_run branch_set)

branch_hangs : IsOfRun (numbered branch_set) one_input [] branch_last (Hangs 2 (record { 0 = 0 })) branch_last.broken
unfolding branch_last branch_set one_input machine_of term_start input_wire output_wire wires_of ends
branch_hangs = refl

-- on a table with the word 0 and one input, rules of the normal form: what is made, and whether the table grows
abbrev one_table : List Node
one_table = Const 0 ∷ Input ∷ Const (2 ^ 32 - 1) ∷ []

or_with_ones : made one_table Or 1 2 ≡ record { nodes = one_table; number = 2 }
or_with_ones = refl

less_than_itself : made one_table Less 1 1 ≡ record { nodes = one_table; number = 0 }
less_than_itself = refl

shift_of_none : made one_table ShiftLeft 0 1 ≡ record { nodes = one_table; number = 0 }
shift_of_none = refl

-- x - (2^32 - 1) is x + 1, and x + 1 + (2^32 - 1) is x
sum_of_sum : made (made one_table Sub 1 2).nodes Add (made one_table Sub 1 2).number 2 ≡ record { nodes = Const 0 ∷ Input ∷ Const (2 ^ 32 - 1) ∷ Const 1 ∷ Apply Add 1 3 ∷ []; number = 1 }
unfolding word_sub
sum_of_sum = refl

-- 4 x is x shifted by 2; x below 0 is its highest bit; masks are joined; and x or y is absorbed beside x
four_table : List Node
four_table = Const 0 ∷ Input ∷ Const 4 ∷ []

product_shifts : made four_table Mul 1 2 ≡ record { nodes = Const 0 ∷ Input ∷ Const 4 ∷ Const 2 ∷ Apply ShiftLeft 1 3 ∷ []; number = 4 }
unfolding four_table word_shift_left word_leading_zeros places
product_shifts = refl

sign_shifts : made four_table Less 1 0 ≡ record { nodes = Const 0 ∷ Input ∷ Const 4 ∷ Const 31 ∷ Apply ShiftRight 1 3 ∷ []; number = 4 }
unfolding four_table
sign_shifts = refl

masks_joined : made (Const 0 ∷ Input ∷ Const 4095 ∷ Apply And 1 2 ∷ Const 255 ∷ []) And 3 4
    ≡ record { nodes = Const 0 ∷ Input ∷ Const 4095 ∷ Apply And 1 2 ∷ Const 255 ∷ Apply And 1 4 ∷ []; number = 5 }
masks_joined = refl

absorbed : made (Const 0 ∷ Input ∷ Input ∷ Apply Or 1 2 ∷ []) And 1 3 ≡ record { nodes = Const 0 ∷ Input ∷ Input ∷ Apply Or 1 2 ∷ []; number = 1 }
absorbed = refl

-- 'lb $5, 1($0)' and 'sb $5, 2($0)', with 0x1ff in register 5, where the first word of the memory is 0x00800000
byte_of_word : action_of op.Lb 1 (record { op = op.Lb; rs = 0; rt = 5; rd = 0; sh = 0; imm = 1; target = 0 }) (Some 0) (Some 0) (Some 8388608) ≡ Some (Read 5 1 4294967168)
byte_of_word = refl

byte_in_word : action_of op.Sb 1 (record { op = op.Sb; rs = 0; rt = 5; rd = 0; sh = 0; imm = 2; target = 0 }) (Some 0) (Some 511) (Some 8388608) ≡ Some (Write 2 8453888)
byte_in_word = refl

-- a half word at an odd address traps, whatever is known of the memory; a byte of a word that is not known is wanted
half_at_odd : action_of op.Lh 1 (record { op = op.Lh; rs = 0; rt = 5; rd = 0; sh = 0; imm = 1; target = 0 }) (Some 0) None None ≡ Some (Stop (mark.Trapped Misaligned))
half_at_odd = refl

byte_not_known : action_of op.Lbu 1 (record { op = op.Lbu; rs = 0; rt = 5; rd = 0; sh = 0; imm = 1; target = 0 }) (Some 0) None None ≡ None
byte_not_known = refl
