-- A set of which there is a proof by rows meets the stream for every number of rows.
use Rattle.std.proofs.Common.{◌≡◌, ℕ, ◌+◌, ◌-◌, ◌*◌, ◌/◌, ◌%◌, ◌<◌, length, take, sym, subst, arith}
use Rattle.std.specs.Prelude.{slice_index_or, []}
use Rattle.std.proofs.Math.Nat.{mod-lt}
use Rattle.std.proofs.lemmas.Nat.{div-add-mod'}
use Rattle.raw_tile_isa.specs.Words.{EachGivesWords}
use Rattle.raw_grid.specs.Topology.{tile_count}
use Rattle.raw_model.specs.Start.{MachineState, start}
use Rattle.raw_model.specs.Rest.{end_from}
use Rattle.raw_term.proofs.Claims.{Laws}
use Rattle.raw_stream.specs.Streams.{first_words, rows_of}
use Rattle.raw_row_terms.specs.RowTerms.{carried_over}
use Rattle.raw_rows.specs.Kernels.{unknown, fed_rows, HasDue, EachLiveRowIsMet, kernels_in, EachNumberIsMet}
use Rattle.raw_rows.proofs.Opening.{unknown_is, unknown_constants}
use Rattle.raw_rows.proofs.Kernels.{passes, before_long}
use Rattle.raw_rows.proofs.Ended.{ComesToRest, comes_to_rest}

pub live_rows_are_met : Laws → EachLiveRowIsMet
live_rows_are_met laws set_ s w valid named ports proof n i below all long are fed enough =
    let each : EachGivesWords = laws.words in
    let room = enough.room in
    let rests = proof.rests i below in
    let b : ℕ = w.first_rows + n * w.rows in
    let it : ComesToRest each set_ s valid named ports all are room w.lacks rests.at =
    comes_to_rest each set_ s valid named ports all are room w.cut proof.constants w.opening w.first_rows w.first_limit proof.opens w.kernel w.rows w.limit n
    (λ j lt. passes each set_ s valid named ports all are room w.cut w.cut w.limit (unknown s) w.kernel w.rows (w.first_rows + j * w.rows) proof.steady)
    (unknown s) (unknown_constants (length (first_words s))) (unknown_is s (carried_over s (first_words s) (take b all)) (before_long each set_ s valid named ports all are room b)) (slice_index_or w.endings i []) w.lacks (w.cut.window + i) w.last_limit
    rests (omega arith) long enough.steps in
    record {
      some = (it.steps, record { lawful = it.lawful; quiet = it.quiet });
      right = λ others run.
          let x : MachineState = start (fed_rows set_ s all) in
          let same : end_from (fed_rows set_ s all) x others ≡ end_from (fed_rows set_ s all) x it.steps =
          laws.same_rest (fed_rows set_ s all) x it.steps others fed (record { lawful = it.lawful; quiet = it.quiet }) (record { lawful = run.lawful; quiet = run.quiet }) in
          subst (λ k. HasDue s (tile_count set_.topo) (rows_of s (first_words s) all) w.lacks k) (sym same) it.due;
    }

-- and so for every number of rows from that of the cut on
pub each_number_is_met : Laws → EachNumberIsMet
each_number_is_met laws set_ s w valid named ports some proof all enough_rows are fed enough =
    let d : ℕ = length all - (w.first_rows + w.cut.window) in
    let below : d % w.rows < w.rows = mod-lt d (omega (arith, some)) in
    let parts : d / w.rows * w.rows + d % w.rows ≡ d = div-add-mod' d w.rows in
    live_rows_are_met laws set_ s w valid named ports proof (kernels_in w (length all)) (d % w.rows) below all (omega (arith, parts, enough_rows)) are fed enough
