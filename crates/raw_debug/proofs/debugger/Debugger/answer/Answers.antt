use Rattle.std.proofs.Common.{◌≡◌, [], Result, Ok, Err, true, codes, sym, ap, ◌∙◌, refl}
use Rattle.std.specs.Prelude.{OnOk}
use Rattle.raw_state_text.proofs.Sections.{nothing_yet, one_more, last_part, same_text}
use Rattle.raw_debug.specs.Commands.{meant}
use Rattle.raw_debug.specs.Script.{moved_by, is_past}
use Rattle.raw_debug.specs.Live.{Session}
use Rattle.raw_debug.proofs.Following.{not_true}
use Rattle.raw_debug.proofs.Replaying.{nothing_written, past_answer, past_spot}
use Rattle.raw_debug.proofs.debugger.Debugger.answer.Goals as goal

on_ok : {T E P : Type 0} (r : Result T E) → P → OnOk r P
on_ok (Ok x) p = p
on_ok (Err e) p = tt

pub returns : goal.returns
returns g c =
    let old = c.args.self.now in
    let set = old.set in
    let spot = old.spot in
    let tokens = g.L.Tokens.tokens c.args.line.now in
    let meaning = meant c.args.reading tokens in
    let first = g.K.Sink.sight c.args.out.now in
    let mid = g.K.Sink.sight c.follow.new.out in
    let end = g.K.Sink.sight c.put_all-2.new.sink in
    let done = c.in_ok-follow.ensures in
    let past : is_past set meaning ≡ true = not_true (is_past set meaning) (sym done.answer ∙ c.if-branch.false) in
    let text = codes "past-end\n" in
    let nothing = same_text first mid _ [] (Ok c.in_ok-follow.field-0) (nothing_written set spot meaning past) done.writes in
    let begun = one_more first first mid text [] text text (nothing_yet first text) refl c.in_ok-follow.field-0 nothing in
    let put = c.put_all-2.ensures in
    record {
      set = ap (λ (s : Session). s.set) (c.self-2.view_is ∙ done.moved);
      spot = on_ok c.put_all-2.result
          (ap (λ (s : Session). record { moment = s.spot.moment; current = c.self.inside.current }) (c.self-2.view_is ∙ done.moved)
          ∙ ap (λ (s : Session). record { moment = (moved_by set spot meaning).moment; current = s.spot.current }) c.self.view_is
          ∙ past_spot set spot meaning past);
      writes = same_text first end _ _ c.put_all-2.result (sym (past_answer set spot c.args.reading tokens past))
          (last_part first mid end text text text c.put_all-2.result begun refl (record { ok = put.ok; front = put.front; fault = put.fault; count = put.count }));
    }
