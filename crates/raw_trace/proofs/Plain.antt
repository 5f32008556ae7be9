-- All texts of which a trace is made are of its bytes alone.
use Rattle.std.proofs.Common.{◌≡◌, ◌≢◌, ℕ, zero, suc, ◌+◌, ◌-◌, ◌*◌, ◌^◌, ◌/◌, ◌%◌, ◌<◌, ◌≤◌, Bool, true, false, cond, ◌&&◌, ◌||◌, List, [], ◌∷◌, ◌++◌, codes, length, map, Option, Some, None, refl, ap, ◌∙◌, subst, arith}
use Rattle.std.specs.Prelude.{nat_lt, nat_le, ◌==◌, slice_get, slice_index, decimal}
use Rattle.std.specs.List.{list_all, flat_map, range_with_len, enumerate_from, AllByRecursion}
use Rattle.std.specs.Fmt.{digit_glyph, digits_onto, digits}
use Rattle.std.proofs.lemmas.Bool.{lt-ltb, le-leb, false≢true}
use Rattle.std.proofs.lemmas.List.Folds.{list_all-append}
use Rattle.raw_text.specs.Number.{hex_digits}
use Rattle.raw_text.specs.Lines.{written_lines, joined}
use Rattle.raw_text.proofs.NumberTexts.{hex_passes}
use Rattle.raw_grid.specs.declared.parts.Net.{Net}
use Rattle.raw_grid.specs.declared.parts.Net.TheVariants.{One, Two}
use Rattle.raw_grid.specs.declared.parts.Side.{Side}
use Rattle.raw_grid.specs.declared.parts.Side.TheVariants.{N}
use Rattle.raw_grid.specs.declared.parts.PortKind.{PortKind}
use Rattle.raw_grid.specs.declared.parts.PortKind.TheVariants as kind
use Rattle.raw_grid.specs.declared.parts.PortPlace.{PortPlace}
use Rattle.raw_grid.specs.Names.{net_text, side_text}
use Rattle.raw_grid.specs.Topology.{Topology, tile_count, proc_count}
use Rattle.raw_grid.specs.Wires.{tiles_of, wires_of}
use Rattle.raw_tile_isa.specs.declared.table.TileOp.{TileOp}
use Rattle.raw_tile_isa.specs.declared.table.TileOp.TheVariants.{Sll}
use Rattle.raw_tile_isa.specs.declared.table.Operand.{Operand}
use Rattle.raw_tile_isa.specs.declared.table.Operand.TheVariants.{Rd, Rs, Rt, Shift, Signed, Unsigned, Branch, Jump, Memory}
use Rattle.raw_tile_isa.specs.Table.{row_of}
use Rattle.raw_tile_isa.specs.Instruction.{Instruction}
use Rattle.raw_tile_asm.specs.Listing.{signed_text, branch_text, operand_text, operand_texts, named_text, listed_lines}
use Rattle.raw_switch_isa.specs.declared.table.SwitchOp.{SwitchOp}
use Rattle.raw_switch_isa.specs.declared.table.SwitchOp.TheVariants.{Nop}
use Rattle.raw_switch_isa.specs.declared.table.SwitchOperand.{SwitchOperand}
use Rattle.raw_switch_isa.specs.declared.table.SwitchOperand.TheVariants as switch_operand
use Rattle.raw_switch_isa.specs.declared.instruction.SwitchSource.{SwitchSource}
use Rattle.raw_switch_isa.specs.declared.instruction.SwitchSource.TheVariants.{Register, Input}
use Rattle.raw_switch_isa.specs.Table.{row_of as switch_row_of}
use Rattle.raw_switch_isa.specs.Instruction.{SwitchInstruction}
use Rattle.raw_switch_isa.specs.Ends.{ends, route_source}
use Rattle.raw_switch_asm.specs.Letters.{sides}
use Rattle.raw_switch_asm.specs.Listing.{network_text, side_letter, end_text, move_text, more_operands, operands_text, source_text, route_text, routed_text, routes_text, line_text as switch_line_text, operand_text as switch_operand_text}
use Rattle.raw_model.specs.declared.marks.Cause.{Cause}
use Rattle.raw_model.specs.declared.marks.Cause.TheVariants.{Misaligned}
use Rattle.raw_model.specs.declared.marks.Mark.{Mark}
use Rattle.raw_model.specs.declared.marks.Mark.TheVariants.{Going, Halted, Trapped}
use Rattle.raw_model.specs.declared.program.DataWord.{DataWord}
use Rattle.raw_model.specs.declared.program.Show.{Show}
use Rattle.raw_model.specs.declared.limits.TheConstants.{DEFAULT_DEPTH}
use Rattle.raw_model.specs.Program.{ProgramSet, TileProgram}
use Rattle.raw_model.specs.Local.{Local, Tile, Switch, Source, Sink}
use Rattle.raw_model.specs.Start.{MachineState}
use Rattle.raw_model.specs.Rest.{stopped}
use Rattle.raw_model.specs.Waits.{first_wait, inputs_at, outputs_at, other_end}
use Rattle.raw_model.specs.Outcomes.{Outcome, outcome, chain, chain_end}
use Rattle.raw_model.specs.Outcomes.Outcome.{Done, Deadlock, Trapped as OutcomeTrapped, Limit, Stuck}
use Rattle.raw_model.specs.Texts.{cause_text}
use Rattle.raw_model.specs.StateTexts.{going_text, program_mark, local_mark, mark_of, wait_line_of, wait_line}
use Rattle.raw_set_text.specs.declared.word.Word.{Word}
use Rattle.raw_set_text.specs.declared.word.Word.TheVariants as word
use Rattle.raw_set_text.specs.Forms.{word_name}
use Rattle.raw_set_text.specs.Listing.{pieces, line_of, hex_text, edge_texts, position_texts, port_line_of, port_line, feed_line, feed_lines, data_line, turns_line, misses_lines, memory_lines, show_line, section_lines, program_lines, depth_lines, placed_ports, first_lines, front_lines, set_lines, listing}
use Rattle.raw_report.specs.Lines.{deadlock_head, trapped_line, limit_line, ends_line}
use Rattle.raw_report.specs.Locals.{trap_text, trap_at}
use Rattle.raw_report.specs.Report.{outcome_lines}
use Rattle.raw_serial.specs.declared.turn.Turn.{Turn}
use Rattle.raw_serial.specs.declared.turn.Turn.TheVariants.{Fired, Stalled, Stopped, Waits}
use Rattle.raw_clock.specs.declared.tally.Spent.{Spent}
use Rattle.raw_clock.specs.Clock.{ClockState, machine_at, clock, turn_in, waited, passed_in, program_steps}
use Rattle.raw_clock_text.specs.Lines.{cycles_line, tile_line, switch_line, source_line, sink_line, port_line_of as spent_port_line_of, wait_line as waited_line, passed_line}
use Rattle.raw_clock_text.specs.Text.{spent_by, tile_text, switch_text, port_text, tile_lines, switch_lines, port_lines, wire_waits, waits_of, wait_lines, passed_text, passed_lines, spending_text, waiting_text, cycles_text}
use Rattle.raw_trace.specs.declared.entry.Entry.{Entry}
use Rattle.raw_trace.specs.declared.entry.Entry.TheVariants as entry
use Rattle.raw_trace.specs.Lines.{Line, standing, state_line, turn_line, is_told, turn_before, turn_lines, cycle_lines, first_told, past_told, positions, trace_lines}
use Rattle.raw_trace.specs.Text.{entry_text, entries_text, line_text, trace_text}
use Rattle.raw_trace.specs.Whole.{times_text, turns_text, turn_pieces, turns_line as processor_line, distances_text, distances_line, distance_pieces, sent_line, whole_text, whole_lines}
use Rattle.raw_trace.specs.Bytes.{is_trace_byte, IsTraceText}

-- ---- texts, put together

pub both : (a b : List ℕ) → IsTraceText a → IsTraceText b → IsTraceText (a ++ b)
both a b pa pb = list_all-append is_trace_byte a b ∙ ap (λ x. x && list_all is_trace_byte b) pa ∙ pb

pub either : (p : Bool) (a b : List ℕ) → IsTraceText a → IsTraceText b → IsTraceText (cond p a b)
either true a b pa pb = pa
either false a b pa pb = pb

one : (b : ℕ) (rest : List ℕ) → is_trace_byte b ≡ true → IsTraceText rest → IsTraceText (b ∷ rest)
one b rest is p = ap (λ x. x && list_all is_trace_byte rest) is ∙ p

pub each : {X : Type 0} (f : X → List ℕ) → ((x : X) → IsTraceText (f x)) → (xs : List X) → IsTraceText (flat_map f xs)
each f is [] = refl
each f is (x ∷ xs) = both (f x) (flat_map f xs) (is x) (each f is xs)

-- lists of texts
all_append : {X : Type 0} (P : X → Type 0) (xs ys : List X) → AllByRecursion P xs → AllByRecursion P ys → AllByRecursion P (xs ++ ys)
all_append P [] ys front back = back
all_append P (x ∷ xs) ys front back = (front.0, all_append P xs ys front.1 back)

all_each : {X Y : Type 0} (P : Y → Type 0) (f : X → List Y) → ((x : X) → AllByRecursion P (f x)) → (xs : List X) → AllByRecursion P (flat_map f xs)
all_each P f is [] = tt
all_each P f is (x ∷ xs) = all_append P (f x) (flat_map f xs) (is x) (all_each P f is xs)

all_map : {X Y : Type 0} (P : Y → Type 0) (f : X → Y) → ((x : X) → P (f x)) → (xs : List X) → AllByRecursion P (map f xs)
all_map P f is [] = tt
all_map P f is (x ∷ xs) = (is x, all_map P f is xs)

all_told : {X : Type 0} (f : X → List ℕ) (xs : List X) → AllByRecursion (λ x. IsTraceText (f x)) xs → IsTraceText (flat_map f xs)
all_told f [] all = refl
all_told f (x ∷ xs) all = both (f x) (flat_map f xs) all.0 (all_told f xs all.1)

abbrev AreTraceTexts : List (List ℕ) → Type 0
AreTraceTexts texts = AllByRecursion IsTraceText texts

put_together : (separator : List ℕ) (tokens : List (List ℕ)) → IsTraceText separator → AreTraceTexts tokens → IsTraceText (joined separator tokens)
put_together separator [] between all = refl
put_together separator (token ∷ tokens) between all = both token (flat_map (λ t. separator ++ t) tokens) all.0 (later tokens all.1)
  where
    later : (tokens : List (List ℕ)) → AreTraceTexts tokens → IsTraceText (flat_map (λ t. separator ++ t) tokens)
    later [] all = refl
    later (t ∷ tokens) all = both (separator ++ t) (flat_map (λ t. separator ++ t) tokens) (both separator t between all.0) (later tokens all.1)

-- ---- numbers

pub or_first : (a b : Bool) → a ≡ true → (a || b) ≡ true
or_first a b e = ap (λ x. x || b) e

pub or_second : (a b : Bool) → b ≡ true → (a || b) ≡ true
or_second true b e = refl
or_second false b e = e

small_letter : (b : ℕ) → 97 ≤ b → b ≤ 102 → is_trace_byte b ≡ true
small_letter b low high =
    or_first (nat_le 97 b && nat_le b 122) _
    (ap (λ t. t && nat_le b 122) (le-leb 97 b low) ∙ le-leb b 122 (omega (arith, high)))

pub digit : (b : ℕ) → 48 ≤ b → b ≤ 57 → is_trace_byte b ≡ true
digit b low high =
    or_second (nat_le 97 b && nat_le b 122) _
    (or_first (nat_le 48 b && nat_le b 58) _ (ap (λ t. t && nat_le b 58) (le-leb 48 b low) ∙ le-leb b 58 (omega (arith, high))))

glyph : (d : ℕ) → d < 10 → is_trace_byte (digit_glyph false d) ≡ true
glyph d small = rw (lt-ltb d 10 small) (digit (48 + d) (omega arith) (omega (arith, small)))

onto : (k n : ℕ) (rest : List ℕ) → IsTraceText rest → IsTraceText (digits_onto k 10 false n rest)
onto zero n rest p = p
onto (suc k) n rest p =
    let more : IsTraceText (digit_glyph false (n % 10) ∷ rest) = one (digit_glyph false (n % 10)) rest (glyph (n % 10) (omega arith)) p in
    either (n / 10 == 0) (digit_glyph false (n % 10) ∷ rest) (digits_onto k 10 false (n / 10) (digit_glyph false (n % 10) ∷ rest)) more
    (onto k (n / 10) (digit_glyph false (n % 10) ∷ rest) more)

pub number : (n : ℕ) → IsTraceText (decimal n)
unfolding digits
number n = onto 64 n [] refl

hexadecimal : (width n : ℕ) → IsTraceText (hex_digits width n)
hexadecimal width n = hex_passes is_trace_byte width n digit small_letter

hex_number : (n : ℕ) → IsTraceText (hex_text n)
hex_number n = both (codes "0x") (hex_digits 8 n) refl (hexadecimal 8 n)

-- ---- the listing of a tile's program

tile_name : (op : TileOp) → IsTraceText (row_of op).name
tile_name Sll = refl
tile_name _ = refl

register : (r : ℕ) → IsTraceText (codes "$" ++ decimal r)
register r = both (codes "$") (decimal r) refl (number r)

signed : (imm : ℕ) → IsTraceText (signed_text imm)
signed imm = either (nat_lt imm (2 ^ 15)) (decimal imm) (codes "-" ++ decimal (2 ^ 16 - imm)) (number imm) (both (codes "-") (decimal (2 ^ 16 - imm)) refl (number (2 ^ 16 - imm)))

branch : (place imm : ℕ) → IsTraceText (branch_text place imm)
branch place imm =
    either (nat_lt imm (2 ^ 15)) (decimal (place + 1 + imm)) _ (number (place + 1 + imm))
    (either (nat_le (2 ^ 16) (place + 1 + imm)) (decimal (place + 1 + imm - 2 ^ 16)) (codes "-" ++ decimal (2 ^ 16 - (place + 1 + imm)))
    (number (place + 1 + imm - 2 ^ 16)) (both (codes "-") (decimal (2 ^ 16 - (place + 1 + imm))) refl (number (2 ^ 16 - (place + 1 + imm)))))

operand : (i : Instruction) (place : ℕ) (o : Operand) → IsTraceText (operand_text i place o)
operand i place Rd = register i.rd
operand i place Rs = register i.rs
operand i place Rt = register i.rt
operand i place Shift = number i.sh
operand i place Signed = signed i.imm
operand i place Unsigned = both (codes "0x") (hex_digits 4 i.imm) refl (hexadecimal 4 i.imm)
operand i place Branch = branch place i.imm
operand i place Jump = number i.target
operand i place Memory =
    both (signed_text i.imm) (codes "(" ++ ((codes "$" ++ decimal i.rs) ++ codes ")")) (signed i.imm)
    (both (codes "(") ((codes "$" ++ decimal i.rs) ++ codes ")") refl (both (codes "$" ++ decimal i.rs) (codes ")") (register i.rs) refl))

named : (name : List ℕ) (operands : List (List ℕ)) → IsTraceText name → AreTraceTexts operands → IsTraceText (named_text name operands)
named name [] is all = is
named name (o ∷ operands) is all =
    both name (32 ∷ joined (codes ", ") (o ∷ operands)) is (one 32 (joined (codes ", ") (o ∷ operands)) refl (put_together (codes ", ") (o ∷ operands) refl all))

tile_listed : (place : ℕ) (code : List Instruction) → AreTraceTexts (listed_lines place code)
tile_listed place [] = tt
tile_listed place (i ∷ code) = (
  named (row_of i.op).name (operand_texts i place) (tile_name i.op) (all_map IsTraceText (operand_text i place) (operand i place) (row_of i.op).operands),
  tile_listed (place + 1) code,
)

-- ---- the listing of a switch's program

switch_name : (op : SwitchOp) → IsTraceText (switch_row_of op).name
switch_name Nop = refl
switch_name _ = refl

side_byte : (n : ℕ) → n < 5 → is_trace_byte (slice_index sides n) ≡ true
side_byte (suc (suc (suc (suc (suc n))))) lt = absurd (omega (arith, lt))
side_byte _ lt = refl

letter : (end : ℕ) → IsTraceText (side_letter end ∷ [])
letter end = one (side_letter end) [] (side_byte (end % 5) (omega arith)) refl

network : (end : ℕ) → IsTraceText (network_text end)
network end = either (nat_lt end 5) (codes "1:") (codes "2:") refl refl

switch_register : (r : ℕ) → IsTraceText (codes "r" ++ decimal r)
switch_register r = both (codes "r") (decimal r) refl (number r)

moved : (src : ℕ) → IsTraceText (move_text src)
moved src =
    either (nat_lt src 4) (codes "r" ++ decimal src) (end_text (src - 4)) (switch_register src)
    (both (network_text (src - 4)) (side_letter (src - 4) ∷ []) (network (src - 4)) (letter (src - 4)))

switch_operand_told : (ins : SwitchInstruction) (o : SwitchOperand) → IsTraceText (switch_operand_text ins o)
switch_operand_told ins switch_operand.Rd = switch_register ins.rd
switch_operand_told ins switch_operand.Src = moved ins.src
switch_operand_told ins switch_operand.Target = number ins.target

more_told : (ins : SwitchInstruction) (os : List SwitchOperand) → IsTraceText (more_operands ins os)
more_told ins os = each (λ o. codes ", " ++ switch_operand_text ins o) (λ o. both (codes ", ") (switch_operand_text ins o) refl (switch_operand_told ins o)) os

operands_told : (ins : SwitchInstruction) (os : List SwitchOperand) → IsTraceText (operands_text ins os)
operands_told ins [] = refl
operands_told ins (o ∷ os) =
    both (codes " ") (switch_operand_text ins o ++ more_operands ins os) refl (both (switch_operand_text ins o) (more_operands ins os) (switch_operand_told ins o) (more_told ins os))

source_told : (source : SwitchSource) → IsTraceText (source_text source)
source_told (Register r) = switch_register r
source_told (Input input) = letter input

routed : (output : ℕ) (o : Option SwitchSource) → IsTraceText (routed_text output o)
routed output None = refl
routed output (Some source) =
    both (codes " ") (route_text output source) refl
    (both (network_text output) (source_text source ++ (62 ∷ side_letter output ∷ [])) (network output)
    (both (source_text source) (62 ∷ side_letter output ∷ []) (source_told source) (one 62 (side_letter output ∷ []) refl (letter output))))

switch_told : (ins : SwitchInstruction) → IsTraceText (switch_line_text ins)
unfolding switch_line_text
switch_told ins =
    both ((switch_row_of ins.op).name ++ operands_text ins (switch_row_of ins.op).operands) (routes_text ins)
    (both (switch_row_of ins.op).name (operands_text ins (switch_row_of ins.op).operands) (switch_name ins.op) (operands_told ins (switch_row_of ins.op).operands))
    (each (λ output. routed_text output (route_source ins output)) (λ output. routed output (route_source ins output)) ends)

-- ---- the listing of a set

net : (n : Net) → IsTraceText (net_text n)
net One = refl
net Two = refl

side : (s : Side) → IsTraceText (side_text s)
side N = refl
side _ = refl

named_word : (w : Word) → IsTraceText (word_name w)
named_word word.Grid = refl
named_word _ = refl

line : (w : Word) (operands : List (List ℕ)) → AreTraceTexts operands → IsTraceText (line_of w operands)
line w operands all = put_together (codes " ") (word_name w ∷ operands) refl (named_word w, all)

edge : (place : PortPlace) → AreTraceTexts (edge_texts place)
edge place = (net place.net, (number place.x, (number place.y, (side place.side, tt))))

position : (columns t : ℕ) → AreTraceTexts (position_texts columns t)
position columns t = (number (t % columns), (number (t / columns), tt))

port_told : (k : PortKind) (place : PortPlace) (capacity : ℕ) → IsTraceText (port_line_of k place capacity)
port_told kind.Source place capacity = line word.Source (edge_texts place) (edge place)
port_told kind.Sink place capacity =
    line word.Sink (edge_texts place ++ decimal capacity ∷ []) (all_append IsTraceText (edge_texts place) (decimal capacity ∷ []) (edge place) (number capacity, tt))

feed : (place : PortPlace) (words : List ℕ) → IsTraceText (feed_line place words)
feed place words =
    line word.Feed (edge_texts place ++ map hex_text words) (all_append IsTraceText (edge_texts place) (map hex_text words) (edge place) (all_map IsTraceText hex_text hex_number words))

data_told : (columns t : ℕ) (cell : DataWord) → IsTraceText (data_line columns t cell)
data_told columns t cell =
    line word.Data (position_texts columns t ++ hex_text cell.address ∷ hex_text cell.word ∷ [])
    (all_append IsTraceText (position_texts columns t) (hex_text cell.address ∷ hex_text cell.word ∷ []) (position columns t) (hex_number cell.address, (hex_number cell.word, tt)))

turns_told : (columns t : ℕ) (turns : List ℕ) → IsTraceText (turns_line columns t turns)
turns_told columns t turns =
    line word.Misses (position_texts columns t ++ map decimal turns)
    (all_append IsTraceText (position_texts columns t) (map decimal turns) (position columns t) (all_map IsTraceText decimal number turns))

memory_told : (columns : ℕ) (tile : ℕ × TileProgram) → AreTraceTexts (memory_lines columns tile)
memory_told columns tile =
    all_append IsTraceText (map (data_line columns tile.0) tile.1.cells) (misses_lines columns tile.0 tile.1.misses)
    (all_map IsTraceText (data_line columns tile.0) (data_told columns tile.0) tile.1.cells)
    (all_map IsTraceText (turns_line columns tile.0) (turns_told columns tile.0) (pieces 16 tile.1.misses))

show_told : (columns : ℕ) (show : Show) → IsTraceText (show_line columns show)
show_told columns show =
    line word.Show (position_texts columns show.tile ++ hex_text show.address ∷ decimal show.words ∷ [])
    (all_append IsTraceText (position_texts columns show.tile) (hex_text show.address ∷ decimal show.words ∷ []) (position columns show.tile) (hex_number show.address, (number show.words, tt)))

section : (w : Word) (columns t : ℕ) (lines : List (List ℕ)) → AreTraceTexts lines → AreTraceTexts (section_lines w columns t lines)
section w columns t [] all = tt
section w columns t (l ∷ lines) all =
    (line w (position_texts columns t) (position columns t), all_append IsTraceText (l ∷ lines) (codes "end" ∷ []) all (refl, tt))

programs : (columns : ℕ) (tile : ℕ × TileProgram) → AreTraceTexts (program_lines columns tile)
programs columns tile =
    all_append IsTraceText (section_lines word.Tile columns tile.0 (listed_lines 0 tile.1.code)) (section_lines word.Switch columns tile.0 (map switch_line_text tile.1.switch))
    (section word.Tile columns tile.0 (listed_lines 0 tile.1.code) (tile_listed 0 tile.1.code))
    (section word.Switch columns tile.0 (map switch_line_text tile.1.switch) (all_map IsTraceText switch_line_text switch_told tile.1.switch))

depth_told : (depth : ℕ) → AreTraceTexts (depth_lines depth)
depth_told depth = by_test (depth == DEFAULT_DEPTH)
  where
    by_test : (b : Bool) → AreTraceTexts (cond b [] (line_of word.Depth (decimal depth ∷ []) ∷ []))
    by_test true = tt
    by_test false = (line word.Depth (decimal depth ∷ []) (number depth, tt), tt)

front : (set : ProgramSet) → AreTraceTexts (front_lines set)
front set =
    let columns = set.topo.cols in
    let tiles = enumerate_from 0 set.tiles in
    let shows = map (show_line columns) set.shows in
    let memories = flat_map (memory_lines columns) tiles in
    let feeds = flat_map feed_lines (placed_ports set) in
    let ports = map port_line (placed_ports set) in
    all_append IsTraceText (first_lines set.topo set.limit) (depth_lines set.depth ++ (ports ++ (feeds ++ (memories ++ shows)))) (
      line word.Grid (decimal set.topo.cols ∷ decimal set.topo.rows ∷ []) (number set.topo.cols, (number set.topo.rows, tt)),
      (line word.Limit (decimal set.limit ∷ []) (number set.limit, tt), tt),
    )
    (all_append IsTraceText (depth_lines set.depth) (ports ++ (feeds ++ (memories ++ shows))) (depth_told set.depth)
    (all_append IsTraceText ports (feeds ++ (memories ++ shows))
    (all_map IsTraceText port_line (λ port. port_told port.0.kind port.0 port.1.capacity) (placed_ports set))
    (all_append IsTraceText feeds (memories ++ shows)
    (all_each IsTraceText feed_lines (λ port. all_map IsTraceText (feed_line port.0) (feed port.0) (pieces 8 port.1.words)) (placed_ports set))
    (all_append IsTraceText memories shows (all_each IsTraceText (memory_lines columns) (memory_told columns) tiles)
    (all_map IsTraceText (show_line columns) (show_told columns) set.shows)))))

pub listed : (set : ProgramSet) → IsTraceText (listing set)
unfolding listing written_lines
listed set =
    all_told (λ l. l ++ 10 ∷ []) (set_lines set)
    (ended (set_lines set)
    (all_append IsTraceText (front_lines set) (flat_map (program_lines set.topo.cols) (enumerate_from 0 set.tiles)) (front set)
    (all_each IsTraceText (program_lines set.topo.cols) (programs set.topo.cols) (enumerate_from 0 set.tiles))))
  where
    ended : (lines : List (List ℕ)) → AreTraceTexts lines → AllByRecursion (λ l. IsTraceText (l ++ 10 ∷ [])) lines
    ended [] all = tt
    ended (l ∷ lines) all = (both l (10 ∷ []) all.0 refl, ended lines all.1)

-- ---- marks, outcomes and counts

cause : (c : Cause) → IsTraceText (cause_text c)
cause Misaligned = refl
cause _ = refl

going : (wait : Option ℕ) → IsTraceText (going_text wait)
going None = refl
going (Some wire) = both (codes "waits ") (decimal wire) refl (number wire)

program : (limit : ℕ) (wait : Option ℕ) (m : Mark) (count : ℕ) → IsTraceText (program_mark limit wait m count)
program limit wait Going count = either (count == limit) (codes "limit") (going_text wait) refl (going wait)
program limit wait Halted count = refl
program limit wait (Trapped c) count = both (codes "trapped ") (cause_text c) refl (cause c)

local_told : (set : ProgramSet) (s : MachineState) (p : ℕ) (o : Option Local) → IsTraceText (local_mark set s p o)
local_told set s p None = refl
local_told set s p (Some (Tile l)) = program set.limit (first_wait set s p) l.mark l.count
local_told set s p (Some (Switch l)) = program set.limit (first_wait set s p) l.mark l.count
local_told set s p (Some (Source l)) = either (stopped set s p) (codes "spent") (going_text (first_wait set s p)) refl (going (first_wait set s p))
local_told set s p (Some (Sink l)) = either (stopped set s p) (codes "full") (going_text (first_wait set s p)) refl (going (first_wait set s p))

mark : (set : ProgramSet) (s : MachineState) (p : ℕ) → IsTraceText (mark_of set s p)
unfolding mark_of
mark set s p = local_told set s p (slice_get s.locals p)

waiting : (set : ProgramSet) (p : ℕ) (wait : Option ℕ) → IsTraceText (wait_line_of set p wait)
waiting set p None = refl
waiting set p (Some wire) = simp (list_all-append is_trace_byte, number)

waits : (set : ProgramSet) (s : MachineState) (p : ℕ) → IsTraceText (wait_line set s p)
unfolding wait_line
waits set s p = waiting set p (first_wait set s p)

trap : (m : Mark) → IsTraceText (trap_text m)
trap (Trapped c) = cause c
trap _ = refl

trap_told : (o : Option Local) → IsTraceText (trap_at o)
trap_told (Some (Tile l)) = trap l.mark
trap_told (Some (Switch l)) = trap l.mark
trap_told _ = refl

ended_told : (set : ProgramSet) (s : MachineState) (o : Outcome) → IsTraceText (outcome_lines set s o)
unfolding outcome_lines deadlock_head trapped_line limit_line ends_line
ended_told set s Done = refl
ended_told set s (Deadlock p ps) =
    both (deadlock_head (length ps + 1)) (flat_map (wait_line set s) (p ∷ ps)) (simp (list_all-append is_trace_byte, number)) (each (wait_line set s) (waits set s) (p ∷ ps))
ended_told set s (OutcomeTrapped p) = simp (list_all-append is_trace_byte, number, trap_told)
ended_told set s (Limit p) = simp (list_all-append is_trace_byte, number)
ended_told set s (Stuck p) =
    both (codes "outcome stuck\n") (flat_map (wait_line set s) (chain set s p) ++ ends_line (chain_end set s p) (mark_of set s (chain_end set s p))) refl
    (both (flat_map (wait_line set s) (chain set s p)) (ends_line (chain_end set s p) (mark_of set s (chain_end set s p)))
    (each (wait_line set s) (waits set s) (chain set s p)) (simp (list_all-append is_trace_byte, number, mark)))

spent_port : (k : PortKind) (place : PortPlace) (s : Spent) → IsTraceText (spent_port_line_of k place s)
unfolding source_line sink_line
spent_port kind.Source place s = simp (list_all-append is_trace_byte, net, number, side)
spent_port kind.Sink place s = simp (list_all-append is_trace_byte, net, number, side)

waited_told : (p wire other cycles : ℕ) → IsTraceText (waited_line p wire other cycles)
unfolding waited_line
waited_told p wire other cycles = either (cycles == 0) [] _ refl (simp (list_all-append is_trace_byte, number))

passed_told : (wire values : ℕ) → IsTraceText (passed_line wire values)
unfolding passed_line
passed_told wire values = either (values == 0) [] _ refl (simp (list_all-append is_trace_byte, number))

tile_spent : (topo : Topology) (t : ℕ) (s : Spent) → IsTraceText (tile_line topo t s)
unfolding tile_line
tile_spent topo t s = simp (list_all-append is_trace_byte, number)

switch_spent : (topo : Topology) (t : ℕ) (s : Spent) → IsTraceText (switch_line topo t s)
unfolding switch_line
switch_spent topo t s = simp (list_all-append is_trace_byte, number)

cycles_first : (n steps : ℕ) → IsTraceText (cycles_line n steps)
unfolding cycles_line
cycles_first n steps = simp (list_all-append is_trace_byte, number)

counts : (set : ProgramSet) (n : ℕ) → IsTraceText (cycles_text set n)
unfolding cycles_text spending_text waiting_text tile_lines switch_lines port_lines wait_lines passed_lines
counts set n =
    let first = outcome_lines set (machine_at (clock set n)) (outcome set (machine_at (clock set n))) in
    let cycles = cycles_line n (program_steps set n) in
    let tiles = flat_map (tile_text set n) (tiles_of set.topo) in
    let switches = flat_map (switch_text set n) (tiles_of set.topo) in
    let ports = flat_map (port_text set n) (enumerate_from (2 * tile_count set.topo) set.topo.places) in
    let waiting = flat_map (waits_of set n) (range_with_len 0 (proc_count set.topo)) in
    let passing = flat_map (passed_text set n) (range_with_len 0 (length (wires_of set.topo))) in
    both (first ++ cycles ++ tiles ++ switches ++ ports) (waiting ++ passing)
    (both (first ++ cycles ++ tiles ++ switches) ports
    (both (first ++ cycles ++ tiles) switches
    (both (first ++ cycles) tiles
    (both first cycles (ended_told set (machine_at (clock set n)) (outcome set (machine_at (clock set n)))) (cycles_first n (program_steps set n)))
    (each (tile_text set n) (λ t. tile_spent set.topo t (spent_by set n t)) (tiles_of set.topo)))
    (each (switch_text set n) (λ t. switch_spent set.topo t (spent_by set n (tile_count set.topo + t))) (tiles_of set.topo)))
    (each (port_text set n) (λ port. spent_port port.1.kind port.1 (spent_by set n port.0)) (enumerate_from (2 * tile_count set.topo) set.topo.places)))
    (both waiting passing
    (each (waits_of set n)
    (λ p. both (flat_map (wire_waits set n p) (inputs_at set.topo p)) (flat_map (wire_waits set n p) (outputs_at set.topo p))
    (each (wire_waits set n p) (λ w. waited_told p w (other_end set.topo p w) (waited set n p w)) (inputs_at set.topo p))
    (each (wire_waits set n p) (λ w. waited_told p w (other_end set.topo p w) (waited set n p w)) (outputs_at set.topo p)))
    (range_with_len 0 (proc_count set.topo)))
    (each (passed_text set n) (λ w. passed_told w (passed_in set n w)) (range_with_len 0 (length (wires_of set.topo)))))

-- ---- the lines of a trace

entry_told : (e : Entry) → IsTraceText (entry_text e)
unfolding entry_text
entry_told (entry.Count n) = number n
entry_told (entry.Taken w) = number w
entry_told (entry.Sent w x) = simp (list_all-append is_trace_byte, number, hexadecimal)
entry_told (entry.Register r x) = simp (list_all-append is_trace_byte, number, hexadecimal)
entry_told (entry.Loaded a) = hexadecimal 1 a
entry_told (entry.Stored a x) = simp (list_all-append is_trace_byte, hexadecimal)
entry_told (entry.Misses n) = number n
entry_told (entry.Missed t) = number t

entries_told : (p pc : ℕ) (es : List Entry) → IsTraceText (entries_text p pc es)
entries_told p pc es =
    both (decimal p ++ codes " " ++ decimal pc) (flat_map entry_text es ++ codes "\n") (simp (list_all-append is_trace_byte, number))
    (both (flat_map entry_text es) (codes "\n") (each entry_text entry_told es) refl)

abbrev IsTold : Line → Type 0
IsTold l = IsTraceText (line_text l)

turn_told : (set : ProgramSet) (c : ClockState) (p : ℕ) (turn : Turn) → IsTold (turn_line set c p turn)
turn_told set c p Fired = entries_told p _ _
turn_told set c p Stalled = both (decimal p) (codes " s\n") (number p) refl
turn_told set c p Stopped = simp (list_all-append is_trace_byte, number, mark)
turn_told set c p (Waits wire) = simp (list_all-append is_trace_byte, number)

chosen : (b : Bool) (l : Line) → IsTold l → AllByRecursion IsTold (cond b (l ∷ []) [])
chosen true l is = (is, tt)
chosen false l is = tt

stands_told : (p pc : ℕ) (es : List Entry) → AllByRecursion IsTold (standing p pc es)
stands_told p pc [] = tt
stands_told p pc (e ∷ es) = (entries_told p pc (e ∷ es), tt)

lines_told : (set : ProgramSet) (n first past : ℕ) → AllByRecursion IsTold (trace_lines set n first past)
unfolding trace_lines
lines_told set n first past = (
  simp (list_all-append is_trace_byte, number),
  all_append IsTold (flat_map (state_line set (clock set first)) (range_with_len 0 (proc_count set.topo))) (flat_map (cycle_lines set first) (range_with_len first (positions n first past)))
      (all_each IsTold (state_line set (clock set first)) (λ p. stands_told p _ _) (range_with_len 0 (proc_count set.topo)))
      (all_each IsTold (cycle_lines set first)
      (λ k. (
        simp (list_all-append is_trace_byte, number),
        all_each IsTold (turn_lines set first k)
            (λ p. chosen (is_told (turn_in set (clock set k) p) (turn_before set first k p)) (turn_line set (clock set k) p (turn_in set (clock set k) p)) (turn_told set (clock set k) p (turn_in set (clock set k) p)))
            (range_with_len 0 (proc_count set.topo)),
      ))
      (range_with_len first (positions n first past))),
)

-- ---- the lines of a whole run

times_told : (times : ℕ) → IsTraceText (times_text times)
times_told times = either (nat_le 2 times) (codes "*" ++ decimal times) [] (both (codes "*") (decimal times) refl (number times)) refl

piece_told : (text : List ℕ) → IsTraceText text → (turn : Turn) (times : ℕ) → IsTraceText (turns_text text turn times)
piece_told text is Fired times = both (codes " f") (times_text times) refl (times_told times)
piece_told text is Stalled times = both (codes " s") (times_text times) refl (times_told times)
piece_told text is Stopped times = both (codes " x ") text refl is
piece_told text is (Waits wire) times =
    both (codes " w" ++ decimal wire.0) (times_text times) (both (codes " w") (decimal wire.0) refl (number wire.0)) (times_told times)

processor_told : (set : ProgramSet) (n p : ℕ) → IsTraceText (processor_line set n p)
processor_told set n p =
    let text = mark_of set (machine_at (clock set n)) p in
    let word : Turn × ℕ → List ℕ = λ piece. turns_text text piece.0 piece.1 in
    both (decimal p) (flat_map word (turn_pieces set n p) ++ codes "\n") (number p)
    (both (flat_map word (turn_pieces set n p)) (codes "\n")
    (each word (λ piece. piece_told text (mark set (machine_at (clock set n)) p) piece.0 piece.1) (turn_pieces set n p)) refl)

distances_told : (piece : ℕ × ℕ) → IsTraceText (distances_text piece)
distances_told piece =
    both (codes " " ++ decimal piece.0) (times_text piece.1) (both (codes " ") (decimal piece.0) refl (number piece.0)) (times_told piece.1)

wire_told : (w : ℕ) (ps : List (ℕ × ℕ)) → IsTraceText (distances_line w ps)
wire_told w [] = refl
wire_told w (p ∷ ps) =
    both (codes "sent " ++ decimal w) (flat_map distances_text (p ∷ ps) ++ codes "\n") (both (codes "sent ") (decimal w) refl (number w))
    (both (flat_map distances_text (p ∷ ps)) (codes "\n") (each distances_text distances_told (p ∷ ps)) refl)

whole_told : (set : ProgramSet) (n : ℕ) → IsTraceText (whole_text set n)
unfolding whole_text
whole_told set n =
    let turns = flat_map (processor_line set n) (range_with_len 0 (proc_count set.topo)) in
    let sends = flat_map (sent_line set n) (range_with_len 0 (length (wires_of set.topo))) in
    both (codes "whole " ++ decimal n ++ codes "\n") (turns ++ sends)
    (both (codes "whole " ++ decimal n) (codes "\n") (both (codes "whole ") (decimal n) refl (number n)) refl)
    (both turns sends (each (processor_line set n) (processor_told set n) (range_with_len 0 (proc_count set.topo)))
    (each (sent_line set n) (λ w. wire_told w (distance_pieces set n w)) (range_with_len 0 (length (wires_of set.topo)))))

pub trace_plain : (front : List ℕ) (set : ProgramSet) (whole : Bool) (n from most : ℕ) → IsTraceText front → IsTraceText (trace_text front set whole n from most)
unfolding trace_text
trace_plain front set whole n from most is =
    let lines = flat_map line_text (trace_lines set n (first_told n from) (past_told n from most)) in
    let rest = lines ++ (codes "counts\n" ++ cycles_text set n) in
    both front (whole_lines whole set n ++ rest) is
    (both (whole_lines whole set n) rest (either whole (whole_text set n) [] (whole_told set n) refl)
    (both lines (codes "counts\n" ++ cycles_text set n)
    (all_told line_text (trace_lines set n (first_told n from) (past_told n from most)) (lines_told set n (first_told n from) (past_told n from most)))
    (both (codes "counts\n") (cycles_text set n) refl (counts set n))))

-- neither '<' nor '&' is one
pub no_markup : (b : ℕ) → is_trace_byte b ≡ true → (b ≢ 60) × (b ≢ 38)
no_markup b is = (
  (λ e. false≢true (subst (λ x. is_trace_byte x ≡ true) e is)),
  (λ e. false≢true (subst (λ x. is_trace_byte x ≡ true) e is)),
)
