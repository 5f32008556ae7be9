use Rattle.std.proofs.Common.{sym, arith}
use Rattle.raw_image.specs.Answers.{set_with}
use Rattle.raw_image.proofs.ProgramLaws.{all_bytes}
use Rattle.raw_image.proofs.SetLaws.{fault_read, one_fault, image_or_fault}
use Rattle.raw_image.proofs.reader.read_image.Goals as goal

pub set_of-requires : goal.set_of-requires
set_of-requires c = (c.law_reading.ensures.image c.args.bytes.now (set_with c.in-Ok.parts) (all_bytes c.args.bytes.now (λ i. omega (arith, c.type_inv.bytes i))) c.in-Ok.ensures).1.lawful

pub overflow_sub-result : goal.overflow_sub-result
overflow_sub-result c =
    c.law_reading.ensures.within c.args.bytes.now c.in-Err-At.fault (all_bytes c.args.bytes.now (λ i. omega (arith, c.type_inv.bytes i))) (rw c.in-Err-At.field-0-is at c.in-Err-At.ensures)

pub returns-in-Ok-clause-image : goal.returns-in-Ok-clause-image
returns-in-Ok-clause-image c =
    rw c.set_of.ensures (c.law_reading.ensures.image c.args.bytes.now (set_with c.in-Ok.parts) (all_bytes c.args.bytes.now (λ i. omega (arith, c.type_inv.bytes i))) c.in-Ok.ensures)

pub returns-in-Ok-clause-exactly : goal.returns-in-Ok-clause-exactly
returns-in-Ok-clause-exactly c = λ set i. let read = c.law_reading.ensures.read c.args.bytes.now set i in cc (read, c.in-Ok.ensures, c.set_of.ensures)

pub returns-in-Ok-clause-refused : goal.returns-in-Ok-clause-refused
returns-in-Ok-clause-refused c = λ offset kind f. image_or_fault c.args.bytes.now (set_with c.in-Ok.parts) offset kind c.in-Ok.ensures f

pub returns-in-Err-At-clause-cause : goal.returns-in-Err-At-clause-cause
returns-in-Err-At-clause-cause c =
    let read = rw c.in-Err-At.field-0-is at c.in-Err-At.ensures in
    let within = c.law_reading.ensures.within c.args.bytes.now c.in-Err-At.fault (all_bytes c.args.bytes.now (λ i. omega (arith, c.type_inv.bytes i))) read in
    fault_read c.args.bytes.now c.in-Err-At.fault within read

pub returns-in-Err-At-clause-exactly : goal.returns-in-Err-At-clause-exactly
returns-in-Err-At-clause-exactly c = λ set i. let read = c.law_reading.ensures.read c.args.bytes.now set i in absurd (cc (read, rw c.in-Err-At.field-0-is at c.in-Err-At.ensures))

pub returns-in-Err-At-clause-refused : goal.returns-in-Err-At-clause-refused
returns-in-Err-At-clause-refused c = λ offset kind g.
    let read = rw c.in-Err-At.field-0-is at c.in-Err-At.ensures in
    let within = c.law_reading.ensures.within c.args.bytes.now c.in-Err-At.fault (all_bytes c.args.bytes.now (λ i. omega (arith, c.type_inv.bytes i))) read in
    let one = one_fault c.args.bytes.now c.in-Err-At.fault offset kind within read g in
    (sym one.0, sym one.1)
