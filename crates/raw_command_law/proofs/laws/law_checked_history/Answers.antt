use Rattle.raw_command_law.proofs.CheckedHistory.{history_is_lawful}
use Rattle.raw_command_law.proofs.laws.law_checked_history.Goals as goal

pub returns : goal.returns
returns c = λ form workers input text ending.
    history_is_lawful c.law_one_input.ensures c.law_read_back.ensures.back c.law_fits.ensures.start_fits c.law_fits.ensures.step_fits
    c.law_sizes.ensures.procs c.law_history.ensures.faultless c.law_history.ensures.head c.law_history.ensures.read_back
    form input text ending
