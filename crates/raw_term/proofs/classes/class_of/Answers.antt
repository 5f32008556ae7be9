use Rattle.std.proofs.Common.{rules, ◌≡◌, Some}
use Rattle.std.specs.Prelude.{slice_get}
use Rattle.raw_flow.specs.declared.node.Node.TheVariants.{Apply}
use Rattle.raw_term.proofs.ClassSteps.{made_of, kept_of}
use Rattle.raw_term.proofs.classes.class_of.Goals as goal

pub returns-in_ok-made-in-Some-Apply : goal.returns-in_ok-made-in-Some-Apply
returns-in_ok-made-in-Some-Apply c =
    let node : Some (Apply c.in-Some-Apply.op c.in-Some-Apply.a c.in-Some-Apply.b) ≡ slice_get c.args.table.now c.args.number = search (rules, c.in-Some-Apply.is, c.in-Some-Apply.field-0-is, c.node.ensures) in
    made_of c.law_words.ensures.operations c.args.table.now c.args.classes.now c.args.number c.requires.next c.in-Some-Apply.op c.in-Some-Apply.a c.in-Some-Apply.b c.class_at.result
    c.class_at-in-Some-Apply.result c.class_at.ensures c.class_at-in-Some-Apply.ensures (record { nodes = c.make.new.self; number = c.in_ok-made-in-Some-Apply.made }) node
    c.in_ok-made-in-Some-Apply.ensures.number c.class.result c.class.ensures

pub returns-in_default : goal.returns-in_default
returns-in_default c = kept_of c.args.table.now c.args.classes.now c.args.number c.requires.next c.class-in_default.result c.class-in_default.ensures
