use Rattle.std.proofs.Common.{refl}
use Rattle.raw_codegen.proofs.Loading.{load_runs, gives_does}
use Rattle.raw_codegen.proofs.Rows.{load_does, load_sends, store_does, store_takes, send_does, load_plain, store_plain, load_sender, store_taker, send_sender}
use Rattle.raw_codegen.proofs.Straight.{runs_append}
use Rattle.raw_codegen.proofs.SwitchRows.{from_side_passes, to_side_passes}
use Rattle.raw_codegen.proofs.laws.law_rows.Goals as goal

pub returns : goal.returns
returns c = record {
  li = load_runs c.law_load.ensures;
  send = send_does;
  sender = send_sender;
  load_send = load_sends;
  load_sender = load_sender;
  store_take = store_takes;
  store_taker = store_taker;
  load = load_does;
  load_plain = load_plain;
  store = store_does;
  store_plain = store_plain;
  register = λ ins a r x keeps is. gives_does ins a r x x keeps is refl;
  append = runs_append;
  from_side = from_side_passes;
  to_side = to_side_passes;
}
