use Rattle.std.proofs.Common.{◌≡◌, ◌∙◌, ℕ, List, Some, refl, sym, ap, subst}
use Rattle.raw_model.specs.Program.{ProgramSet, IsSet}
use Rattle.raw_stream.specs.Streams.{Stream}
use Rattle.raw_stream_text.specs.Streams.{FedStream}
use Rattle.raw_steady.specs.Count.{cycle_count}
use Rattle.raw_refute.specs.declared.said.Answer.{Answer}
use Rattle.raw_refute.specs.declared.said.Answer.TheVariants.{Proved, ProvedByRows, Refuted, Unproved}
use Rattle.raw_row_terms.specs.RowClaims.{IsClaimOf}
use Rattle.raw_refute.specs.RowAnswers.{IsRowsProof, IsRowsAnswer}
use Rattle.raw_verdict.specs.Text.{answer_text}
use Rattle.raw_shell.specs.Seen.{sink_seen}
use Rattle.raw_command_line.specs.declared.arguments.ReadingCommand.TheVariants.{Prove}
use Rattle.raw_command_line.specs.declared.arguments.Command.TheVariants.{Reads}
use Rattle.raw_row_claim_text.specs.Seats.{IsSeatedAs}
use Rattle.raw_owed.specs.ClaimOutputs.{IsRowsAnswered, IsProveOutputBy}
use Rattle.raw_proof_commands.proofs.row_proved.prove_stream.Goals as goal

-- a set of which a stream is proved is left as it was
same_count : (set left : ProgramSet) (s : Stream) (order words : List ℕ) (said : Answer) → IsRowsAnswer set s order left said
    → answer_text (Some (cycle_count left)) words said ≡ answer_text (Some (cycle_count set)) words said
same_count set left s order words (Proved outs) is = ap (λ (g : ProgramSet). answer_text (Some (cycle_count g)) words (Proved outs)) is.met.stays
same_count set left s order words (ProvedByRows outs) is = refl
same_count set left s order words (Refuted inputs fault) is = refl
same_count set left s order words (Unproved verdict) is = refl

proof_of : (set left : ProgramSet) (s : Stream) (order : List ℕ) (said : Answer) (outs : ℕ) → IsRowsAnswer set s order left said → said ≡ Proved outs → IsRowsProof set s order left outs
proof_of set left s order said outs is e = subst (IsRowsAnswer set s order left) e is

pub answer_rows-requires : goal.answer_rows-requires
answer_rows-requires g c = subst (IsClaimOf c.args.claim.set c.in-Ok.seated.stream) (sym c.deref.ensures.value) c.in-Ok.ensures.claim

pub returns : goal.returns
returns g c = λ input meant.
    let said = c.in-Ok-answer_rows.said in
    let set = c.args.claim.set in
    let s : Stream = c.in-Ok.seated.stream in
    let order = c.deref.result.now in
    let left = c.answer_rows.new.set in
    let words = c.as_bytes.result.now in
    let is = c.in-Ok-answer_rows.ensures in
    let output : List ℕ = answer_text c.in-Ok-cycles_told.cycles words said in
    let owed : IsRowsAnswered input output c.ending_with.result =
    record {
      set = set;
      fed = c.args.claim.input;
      meaning = meant.meaning;
      seated = s;
      order = order;
      seats = subst (IsSeatedAs set.topo c.args.claim.input.stream s) (sym c.deref.ensures.value)
          (subst (λ (fed : FedStream). IsSeatedAs set.topo fed.stream s c.in-Ok.seated.order.items) c.input.view_is c.in-Ok.ensures.seated);
      answer = said;
      left = left;
      says = is;
      takes = λ outs e words are.
          let proof = proof_of set left s order said outs is e in
          let valid : IsSet set = subst IsSet proof.met.stays c.cycles_told.ensures.valid in
          let rests = c.law_rows_right.ensures.rest set s order outs proof.verdict in
          c.law_words.ensures.keeps set rests.0 (cycle_count set) words valid rests.1 are (c.law_count.ensures.has set valid);
      written = c.in-Ok-cycles_told.ensures.told words ∙ same_count set left s order words said is
          ∙ ap (λ (bytes : List ℕ). answer_text (Some (cycle_count set)) bytes said) (c.as_bytes.ensures.value ∙ c.in-Ok-words_told.ensures);
      ended = c.ending_with.ensures;
    } in
    c.ended.ensures (Reads Prove) input output (sink_seen g.K.Sink.sight c.args.out.now c.write_answer.new.out) c.write_answer.ensures
    (subst (λ b. IsProveOutputBy b input output c.ending_with.result) (sym meant.kind) owed)
