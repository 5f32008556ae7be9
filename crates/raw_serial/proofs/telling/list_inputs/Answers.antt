use Rattle.std.proofs.Common.{◌≡◌, ◌+◌, ◌++◌, None, true, length, sym, ap, ◌∙◌, arith, append-nil, append_assoc}
use Rattle.std.specs.Prelude.{slice_index_or}
use Rattle.std.specs.Option.{option_to_list}
use Rattle.raw_switch_isa.specs.Ends.{has_end}
use Rattle.raw_serial.proofs.ByEnds.{left_from, left_at, left_to, left_none}
use Rattle.raw_serial.proofs.telling.list_inputs.Goals as goal

pub ends-init : goal.ends-init
ends-init c =
    let end = c.next_end-end.result in
    let none = ap length c.clear.ensures in
    record {
      whole =
          ap (λ ws. ws ++ left_from c.args.word c.args.wires.now end) c.clear.ensures
          ∙ left_to c.args.word c.args.wires.now 0 end c.next_end-end.ensures.later c.next_end-end.ensures.least;
      few = omega (arith, none);
      there = c.next_end-end.ensures.there;
    }

pub ends-preserved : goal.ends-preserved
ends-preserved c =
    let word = c.args.word in
    let wires = c.args.wires.now in
    let old = c.ends.list.items in
    let n = c.ends.end in
    let later = c.next_end-end-in-ends.ensures.later in
    let on : has_end word n ≡ true = c.ends.invariant.there (omega arith) in
    let own = option_to_list (slice_index_or wires n None) in
    record {
      whole =
          ap (λ ws. c.push_taken.new.list.items ++ ws) (left_to word wires (n + 1) c.next_end-end-in-ends.result later c.next_end-end-in-ends.ensures.least)
          ∙ ap (λ ws. ws ++ left_from word wires (n + 1)) c.push_taken.ensures.items
          ∙ append_assoc old own (left_from word wires (n + 1))
          ∙ ap (λ ws. old ++ ws) (sym (left_at word wires n (omega arith) on))
          ∙ c.ends.invariant.whole;
      few = omega (arith, c.push_taken.ensures.few, c.ends.invariant.few, later);
      there = c.next_end-end-in-ends.ensures.there;
    }

pub returns : goal.returns
returns c =
    let items = c.ends.list.items in
    sym (append-nil items)
    ∙ ap (λ ws. items ++ ws) (sym (left_none c.args.word c.args.wires.now c.ends.end (omega arith)))
    ∙ c.ends.invariant.whole
