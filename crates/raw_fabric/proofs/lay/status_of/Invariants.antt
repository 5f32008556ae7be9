use Rattle.std.proofs.Common.{◌≡◌, ◌-◌, ◌≤◌}
use Rattle.raw_fabric_rule.specs.Opening.{sent_before, ends_from}
use Rattle.raw_fabric_rule.specs.Word.{pack}
use Rattle.raw_fabric.proofs.lay.status_of.Given as goal

abbrev pub invariant-ends : goal.invariant-ends
invariant-ends l = record {
  few : l.end ≤ 20;
  packed : l.word ≡ pack (ends_from (sent_before l.machine.set l.machine.state l.p) l.end (20 - l.end));
}

abbrev pub decreases-ends : goal.decreases-ends
decreases-ends l = l.end
