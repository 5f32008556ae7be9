use Rattle.raw_commands.proofs.commands.run_command.Goals as goal

pub returns-in_ok-set-in-List : goal.returns-in_ok-set-in-List
returns-in_ok-set-in-List g c = rw c.in-List.is (c.put_listing.ensures.list c.args.input.items c.in_ok-set-in-List.ensures.meaning)
