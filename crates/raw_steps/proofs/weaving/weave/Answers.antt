use Rattle.std.proofs.Common.{◌≡◌, ℕ, ◌++◌, List, [], length, take, drop, sym, ap, subst, ◌∙◌, arith}
use Rattle.std.proofs.Math.Seq.{take-append_seam}
use denote.Ref.{Bor}
use Rattle.raw_grid.specs.declared.parts.ProcId.{ProcId}
use Rattle.raw_model.specs.Serial.{IsJoined}
use Rattle.raw_steps.specs.Taking.{numbers}
use Rattle.raw_serial.specs.Leading.{HasTaken}
use Rattle.raw_steps.specs.Weaving.{steps_in, HaveLawfulJoining}
use Rattle.raw_steps.specs.Left.{entries_of, count_in, CanBeWoven, IsWovenOn}
use Rattle.raw_steps.proofs.Fronts.{none_on, on_more, vec_count, is_joined, some_log}
use Rattle.raw_steps.proofs.weaving.weave.Goals as goal

pub rounds-init : goal.rounds-init
rounds-init c =
    let logs = steps_in c.args.logs.now in
    let start = c.args.start.now in
    let all : entries_of c.in_ok-left.left.items ≡ logs = c.in_ok-left.ensures in
    let none = ap numbers c.in_ok-woven.ensures.empty in
    record {
      can =
          record {
            joining = subst (HaveLawfulJoining start.set start.state) (sym all) c.requires.joining;
            room = omega (arith, c.in_ok-woven.ensures.room, ap count_in all, ap length c.in_ok-woven.ensures.empty, c.in_ok-woven.woven.ok.0);
          };
      on =
          subst (λ later. IsWovenOn start start logs later [] (numbers c.in_ok-woven.woven.items)) (sym all)
          (subst (IsWovenOn start start logs logs []) (sym none) (none_on start logs [] (c.law_taken.ensures.none start)));
    }

pub round-requires : goal.round-requires
round-requires c =
    record { can = subst (λ left. CanBeWoven c.rounds.start (entries_of left) c.rounds.woven) (sym c.deref_mut.ensures.value) c.rounds.invariant.can }

same_left : (left later : List (Bor (List ProcId))) (n : ℕ) → length later ≡ length left → n ≡ length left
    → take n (later ++ drop (length later) left) ≡ later
same_left left later n many is =
    let long : n ≡ length later = is ∙ sym many in
    ap (λ k. take k (later ++ drop (length later) left)) long ∙ take-append_seam later (drop (length later) left)

pub rounds-smaller : goal.rounds-smaller
rounds-smaller c =
    let same = same_left c.rounds.left.items c.round.new.left c.rounds.left.len (c.round.auto.left ∙ ap length c.deref_mut.ensures.value) c.rounds.left.ok.0 in
    let old = ap (λ left. count_in (entries_of left)) c.deref_mut.ensures.value in
    let count = vec_count c.rounds.start c.round.new.m (entries_of c.deref_mut.result.now) (entries_of c.round.new.left) c.rounds.woven c.round.new.woven c.round.ensures.on in
    omega (arith, ap (λ left. count_in (entries_of left)) same, c.round.ensures.more c.rounds-test.true, old, count)

pub rounds-preserved : goal.rounds-preserved
rounds-preserved c =
    let same = same_left c.rounds.left.items c.round.new.left c.rounds.left.len (c.round.auto.left ∙ ap length c.deref_mut.ensures.value) c.rounds.left.ok.0 in
    let start = c.args.start.now in
    let new = c.round.new.m in
    let after = numbers c.round.new.woven.items in
    record {
      can = subst (λ left. CanBeWoven new (entries_of left) c.round.new.woven) (sym same) c.round.ensures.can;
      on =
          subst (λ left. IsWovenOn start new (steps_in c.args.logs.now) (entries_of left) [] after) (sym same)
          (on_more c.law_taken.ensures.both start c.rounds.start new (steps_in c.args.logs.now) (entries_of c.rounds.left.items) (entries_of c.round.new.left) []
          (numbers c.rounds.woven.items) after c.rounds.invariant.on
          (subst (λ left. IsWovenOn c.rounds.start new (entries_of left) (entries_of c.round.new.left) (numbers c.rounds.woven.items) after)
          c.deref_mut.ensures.value c.round.ensures.on));
    }

pub returns-clause-joined : goal.returns-clause-joined
returns-clause-joined c =
    let start = c.args.start.now in
    let new = c.round.new.m in
    let logs = steps_in c.args.logs.now in
    let after = numbers c.round.new.woven.items in
    let on =
    on_more c.law_taken.ensures.both start c.rounds.start new logs (entries_of c.rounds.left.items) (entries_of c.round.new.left) []
    (numbers c.rounds.woven.items) after c.rounds.invariant.on
    (subst (λ left. IsWovenOn c.rounds.start new (entries_of left) (entries_of c.round.new.left) (numbers c.rounds.woven.items) after)
    c.deref_mut.ensures.value c.round.ensures.on) in
    subst (λ steps. IsJoined steps logs) (sym on.list)
    (is_joined logs (entries_of c.round.new.left) on.more on.from (some_log start.set start.state logs c.requires.joining) (c.round.ensures.spent c.rounds-test.false))

pub returns-clause-taken : goal.returns-clause-taken
returns-clause-taken c =
    let start = c.args.start.now in
    let new = c.round.new.m in
    let after = numbers c.round.new.woven.items in
    let on =
    on_more c.law_taken.ensures.both start c.rounds.start new (steps_in c.args.logs.now) (entries_of c.rounds.left.items) (entries_of c.round.new.left) []
    (numbers c.rounds.woven.items) after c.rounds.invariant.on
    (subst (λ left. IsWovenOn c.rounds.start new (entries_of left) (entries_of c.round.new.left) (numbers c.rounds.woven.items) after)
    c.deref_mut.ensures.value c.round.ensures.on) in
    subst (λ steps. HasTaken start new steps) (sym on.list) on.taken
