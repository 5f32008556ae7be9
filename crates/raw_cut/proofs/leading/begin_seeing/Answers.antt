use Rattle.std.proofs.Common.{◌≡◌, ℕ, ◌+◌, ◌*◌, List, length, map, sym, ap, ap₂, ◌∙◌, arith}
use Rattle.std.proofs.lemmas.List.{length-map}
use Rattle.raw_stream.specs.Streams.{Stream, first_words}
use Rattle.raw_rows.specs.Given.{row_width}
use Rattle.raw_rows.specs.Kernels.{open_rows, begun, run_set}
use Rattle.raw_model.specs.Program.{ProgramSet}
use Rattle.raw_prove.specs.declared.machine.Machine.{Machine}
use Rattle.raw_cut.specs.Cuts.{cut_of}
use Rattle.raw_cut.proofs.Copies.{some_so}
use Rattle.raw_cut.proofs.Decided.{kept_less}
use Rattle.raw_cut.proofs.Inputs.{rows_open, many_rows}
use Rattle.raw_cut.proofs.Facing.{seeing, seeing_is}
use Rattle.raw_cut.proofs.leading.begin_seeing.Goals as goal

pub input_rows-requires : goal.input_rows-requires
input_rows-requires c = omega (arith, c.in-Some-input_count.ensures.value, c.in-Some-input_count.ensures.few)

-- how many rows there are
pub begin_at-requires-clause-rows : goal.begin_at-requires-clause-rows
begin_at-requires-clause-rows c =
    let s : Stream = c.args.stream.now in
    let rows : List (List ℕ) = map (λ row. row.items) c.in_ok-rows.rows.items in
    let m : ℕ = c.args.many in
    let all : c.deref-2.result.now ≡ c.in_ok-rows.rows.items = c.deref-2.ensures.value in
    let opened : rows ≡ open_rows s m =
    rows_open s (1 + c.in-Some.widths.carried) c.in-Some.widths.row m rows c.in_ok-rows.ensures (ap (λ (n : ℕ). 1 + n) c.in-Some.ensures.carried) c.in-Some.ensures.row in
    let many : length c.in_ok-rows.rows.items ≡ m =
    sym (length-map c.in_ok-rows.rows.items (λ row. row.items)) ∙ many_rows rows (1 + c.in-Some.widths.carried) c.in-Some.widths.row m c.in_ok-rows.ensures in
    ap (map (λ row. row.items)) all ∙ opened ∙ ap (open_rows s) (sym (ap length all ∙ many))

pub begin_at-requires-clause-count : goal.begin_at-requires-clause-count
begin_at-requires-clause-count c =
    let rows : List (List ℕ) = map (λ row. row.items) c.in_ok-rows.rows.items in
    let m : ℕ = c.args.many in
    let many : length c.deref-2.result.now ≡ m =
    ap length c.deref-2.ensures.value ∙ sym (length-map c.in_ok-rows.rows.items (λ row. row.items))
    ∙ many_rows rows (1 + c.in-Some.widths.carried) c.in-Some.widths.row m c.in_ok-rows.ensures in
    c.in-Some-input_count.ensures.value ∙ ap₂ (λ (a b : ℕ). a + m * b) c.in-Some.ensures.carried c.in-Some.ensures.row
    ∙ ap (λ (n : ℕ). length (first_words c.args.stream.now) + n * row_width c.args.stream.now) (sym many)

pub returns-in-Some-3-clause-kept : goal.returns-in-Some-3-clause-kept
returns-in-Some-3-clause-kept c = kept_less c.in-Some-2.seen c.in-Some-3.machine (some_so _ c.in_ok-machine.field-0 c.in-Some-3.machine c.in-Some-3.is c.in_ok-machine.ensures.kept)

pub returns-in-Some-3-clause-begins : goal.returns-in-Some-3-clause-begins
returns-in-Some-3-clause-begins c =
    let s : Stream = c.args.stream.now in
    let set : ProgramSet = c.args.set.now in
    let limit : ℕ = c.args.limit in
    let m : ℕ = c.args.many in
    let start : Machine = c.in-Some-3.machine in
    let rows : List (List ℕ) = map (λ row. row.items) c.in_ok-rows.rows.items in
    let opened : rows ≡ open_rows s m =
    rows_open s (1 + c.in-Some.widths.carried) c.in-Some.widths.row m rows c.in_ok-rows.ensures (ap (λ (n : ℕ). 1 + n) c.in-Some.ensures.carried) c.in-Some.ensures.row in
    let many : length c.in_ok-rows.rows.items ≡ m =
    sym (length-map c.in_ok-rows.rows.items (λ row. row.items)) ∙ many_rows rows (1 + c.in-Some.widths.carried) c.in-Some.widths.row m c.in_ok-rows.ensures in
    record {
      sees = some_so _ c.in_ok-seen.field-0 c.in-Some-2.seen c.in-Some-2.is c.in_ok-seen.ensures ∙ ap (λ vs. seeing set s limit (map (λ row. row.items) vs)) c.deref.ensures.value ∙ seeing_is set s limit rows ∙ ap (run_set set s limit) opened;
      rows = opened;
      state = some_so _ c.in_ok-machine.field-0 start c.in-Some-3.is c.in_ok-machine.ensures.state ∙ ap (λ (n : ℕ). begun s c.args.carried.now n (cut_of c.args.from.now)) (ap length c.deref-2.ensures.value ∙ many);
      kept = some_so _ c.in_ok-machine.field-0 start c.in-Some-3.is c.in_ok-machine.ensures.kept;
      many = c.in-Some.ensures.carried;
    }
