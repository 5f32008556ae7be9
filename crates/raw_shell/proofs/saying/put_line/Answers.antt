use Rattle.raw_shell.proofs.saying.put_line.Goals as goal

pub returns-in-ReadFault : goal.returns-in-ReadFault
returns-in-ReadFault g c = rw c.in-ReadFault.is c.put_each-in-ReadFault.ensures.written

pub returns-in-TooLong : goal.returns-in-TooLong
returns-in-TooLong g c = rw c.in-TooLong.is c.put_each-in-TooLong.ensures.written
