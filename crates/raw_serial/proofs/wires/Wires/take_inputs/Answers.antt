use Rattle.std.proofs.Common.{◌≡◌, ℕ, ◌+◌, ◌≤◌, None, true, length, replicate, ap, sym, subst, ◌∙◌, refl, rules, arith}
use Rattle.std.specs.Prelude.{slice_index_or, slice_set}
use Rattle.std.proofs.lemmas.List.{get_or-set_other}
use Rattle.raw_network.specs.Network.{values_on, count_of, fronts, taken}
use Rattle.raw_switch_isa.specs.Ends.{has_end}
use Rattle.raw_processor.proofs.EndLists.{none_yet, handed_done}
use Rattle.raw_serial.proofs.ByEnds.{left_from, left_to, left_none, taken_more, given_more, given_to, enough_here, enough_more}
use Rattle.raw_serial.proofs.wires.Wires.take_inputs.Goals as goal

pub ends-init : goal.ends-init
ends-init c =
    let passed = left_to c.args.inputs c.args.wires.now 0 c.next_end-end.result c.next_end-end.ensures.later c.next_end-end.ensures.least in
    record {
      ten = refl;
      whole = given_to c.args.inputs c.args.wires.now (replicate 10 None) _ c.args.self.now 0 c.next_end-end.result refl c.next_end-end.ensures.later
          c.next_end-end.ensures.least (λ end later. none_yet 10 end) refl;
      rest = ap (λ ws. taken ws c.args.self.now) passed;
      enough = λ v. subst (λ ws. count_of v ws ≤ length (values_on c.args.self.now v)) (sym passed) (c.requires v);
      there = c.next_end-end.ensures.there;
      none = λ end later. none_yet 10 end;
    }

pub take_where-requires : goal.take_where-requires
take_where-requires c =
    enough_here c.args.inputs c.args.wires.now c.ends.self c.ends.end (omega arith) (c.ends.invariant.there (omega arith)) c.ends.invariant.enough

pub ends-preserved : goal.ends-preserved
ends-preserved c =
    let on : has_end c.args.inputs c.ends.end ≡ true = c.ends.invariant.there (omega arith) in
    let none : (end : ℕ) → c.ends.end + 1 ≤ end → slice_index_or (slice_set c.ends.given c.ends.end c.take_where.result) end None ≡ None =
    λ end later. get_or-set_other c.ends.given c.ends.end end c.take_where.result None (λ same. absurd (omega arith)) ∙ c.ends.invariant.none end (omega arith) in
    record {
      ten = search rules;
      whole =
          given_to c.args.inputs c.args.wires.now (slice_set c.ends.given c.ends.end c.take_where.result) _ c.take_where.new.self (c.ends.end + 1) c.next_end-end-in-ends.result
          (search rules) c.next_end-end-in-ends.ensures.later c.next_end-end-in-ends.ensures.least none
          (given_more c.args.inputs c.args.wires.now c.ends.given _ c.ends.self c.take_where.new.self c.ends.end c.take_where.result (omega arith) c.ends.invariant.ten on
          c.take_where.ensures.value c.take_where.ensures.some c.take_where.ensures.rest c.ends.invariant.whole);
      rest =
          ap (λ ws. taken ws c.take_where.new.self) (left_to c.args.inputs c.args.wires.now (c.ends.end + 1) c.next_end-end-in-ends.result c.next_end-end-in-ends.ensures.later c.next_end-end-in-ends.ensures.least)
          ∙ taken_more c.args.inputs c.args.wires.now c.ends.self c.take_where.new.self c.ends.end (omega arith) on c.take_where.ensures.rest
          ∙ c.ends.invariant.rest;
      enough =
          enough_more c.args.inputs c.args.wires.now c.ends.self c.take_where.new.self c.ends.end c.next_end-end-in-ends.result (omega arith) on c.next_end-end-in-ends.ensures.later
          c.next_end-end-in-ends.ensures.least c.take_where.ensures.rest c.ends.invariant.enough;
      there = c.next_end-end-in-ends.ensures.there;
      none = λ end later. none end (omega arith);
    }

pub returns-clause-given : goal.returns-clause-given
returns-clause-given c =
    handed_done c.args.inputs c.args.wires.now c.ends.given (fronts (left_from c.args.inputs c.args.wires.now c.ends.end) c.ends.self) _ c.ends.end 0 (omega arith)
    c.ends.invariant.ten c.ends.invariant.whole

pub returns-clause-rest : goal.returns-clause-rest
returns-clause-rest c =
    sym (ap (λ ws. taken ws c.ends.self) (left_none c.args.inputs c.args.wires.now c.ends.end (omega arith)))
    ∙ c.ends.invariant.rest
