use Rattle.raw_live.proofs.AtRest.{ran_ended}
use Rattle.raw_live.proofs.engine.run.Goals as goal

pub returns-clause-ran : goal.returns-clause-ran
returns-clause-ran g c =
    ran_ended c.args.engine.now.set c.run_words-ran.new.engine c.run_words-ran.new.words_in.items c.run_words-ran.new.words_out.items c.put_end-ended.new.to.items c.run_words-ran.result c.put_end-ended.result c.run_words-ran.ensures.ran c.put_end-ended.ensures.ended
