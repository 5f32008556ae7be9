use Rattle.std.proofs.Common.{◌≡◌, ◌≤◌, true, sym, subst}
use Rattle.raw_network.specs.Network.{count_of}
use Rattle.raw_model.specs.Start.{start}
use Rattle.raw_model.specs.Serial.{serial}
use Rattle.raw_debug.specs.Walking.{count_at}
use Rattle.raw_debug.specs.Stops.{did, IsNext, IsLatest}
use Rattle.raw_debug.proofs.Stopping.{first_stop, no_stop, next_stop, found_latest, none_latest, last_stop, all_steps, steps_there}
use Rattle.raw_debug.proofs.laws.law_same_stops.Goals as goal

pub returns-clause-first : goal.returns-clause-first
returns-clause-first c = first_stop

pub returns-clause-nowhere : goal.returns-clause-nowhere
returns-clause-nowhere c = no_stop

pub returns-clause-same : goal.returns-clause-same
returns-clause-same c = λ set moment p aim n steps valid lawful stop most.
    let own = (c.law_serial.ensures.run set valid).lawful in
    next_stop set own steps (λ q k. c.law_same_rest.ensures.same_locals set (start set) (serial set) steps valid own lawful q k)
    (λ q i. c.law_same_rest.ensures.same_events set (start set) (serial set) steps valid own lawful q i) moment p aim n stop most

pub returns-clause-from : goal.returns-clause-from
returns-clause-from c = λ set moment p k aim n steps valid lawful is stop most.
    let own = (c.law_serial.ensures.run set valid).lawful in
    subst (λ low. IsNext (λ j. did set steps p aim j ≡ true) low (count_at set p n)) (steps_there set p k moment is)
    (next_stop set own steps (λ q k. c.law_same_rest.ensures.same_locals set (start set) (serial set) steps valid own lawful q k)
    (λ q i. c.law_same_rest.ensures.same_events set (start set) (serial set) steps valid own lawful q i) moment p aim n stop most)

pub returns-clause-steps : goal.returns-clause-steps
returns-clause-steps c = steps_there

pub returns-clause-latest : goal.returns-clause-latest
returns-clause-latest c = found_latest

pub returns-clause-none_before : goal.returns-clause-none_before
returns-clause-none_before c = none_latest

pub returns-clause-same_latest : goal.returns-clause-same_latest
returns-clause-same_latest c = λ set moment p aim n steps valid lawful stop most.
    let own = (c.law_serial.ensures.run set valid).lawful in
    last_stop set own steps (λ q k. c.law_same_rest.ensures.same_locals set (start set) (serial set) steps valid own lawful q k)
    (λ q i. c.law_same_rest.ensures.same_events set (start set) (serial set) steps valid own lawful q i) moment p aim n stop most

pub returns-clause-back_from : goal.returns-clause-back_from
returns-clause-back_from c = λ set moment p k aim n steps valid lawful is stop most.
    let own = (c.law_serial.ensures.run set valid).lawful in
    let count = steps_there set p k moment is in
    subst (λ high. IsLatest (λ j. did set steps p aim j ≡ true) high (count_at set p n)) count
    (last_stop set own steps (λ q k. c.law_same_rest.ensures.same_locals set (start set) (serial set) steps valid own lawful q k)
    (λ q i. c.law_same_rest.ensures.same_events set (start set) (serial set) steps valid own lawful q i) moment p aim n stop
    (subst (λ m. m ≤ count_of p steps) (sym count) most))

pub returns-clause-all_steps : goal.returns-clause-all_steps
returns-clause-all_steps c = λ set moment p n steps valid lawful stop.
    let run = c.law_serial.ensures.run set valid in
    subst (λ m. count_of p steps ≤ m) (sym (all_steps set moment p n stop))
    (c.law_same_rest.ensures.at_most_as_often set (start set) (serial set) steps valid (record { lawful = run.lawful; quiet = run.quiet }) lawful p)
