use Rattle.std.proofs.Common.{◌≡◌, ◌∙◌, ℕ, List, Some, refl, sym, ap, subst}
use Rattle.raw_model.specs.Program.{ProgramSet, IsSet}
use Rattle.raw_flow.specs.Flows.{Dataflow}
use Rattle.raw_term.specs.declared.place.Place.{Place}
use Rattle.raw_steady.specs.Count.{cycle_count}
use Rattle.raw_refute.specs.declared.said.Answer.{Answer}
use Rattle.raw_refute.specs.declared.said.Answer.TheVariants.{Proved, ProvedByRows, Refuted, Unproved}
use Rattle.raw_refute.specs.Answers.{IsProof, IsAnswer}
use Rattle.raw_verdict.specs.Text.{answer_text}
use Rattle.raw_shell.specs.Seen.{sink_seen}
use Rattle.raw_command_line.specs.declared.arguments.ReadingCommand.TheVariants.{Prove}
use Rattle.raw_command_line.specs.declared.arguments.Command.TheVariants.{Reads}
use Rattle.raw_claim_text.specs.Texts.{ClaimMeaning}
use Rattle.raw_owed.specs.ClaimOutputs.{IsFlowAnswered, IsProveOutputBy}
use Rattle.raw_proof_commands.proofs.proved.prove_flow.Goals as goal

-- a set of which a claim is proved is left as it was
same_count : (set left : ProgramSet) (flow : Dataflow) (places : List Place) (words : List ℕ) (said : Answer) → IsAnswer set flow places left said
    → answer_text (Some (cycle_count left)) words said ≡ answer_text (Some (cycle_count set)) words said
same_count set left flow places words (Proved outs) is = ap (λ (s : ProgramSet). answer_text (Some (cycle_count s)) words (Proved outs)) is.stays
same_count set left flow places words (ProvedByRows outs) is = refl
same_count set left flow places words (Refuted inputs fault) is = refl
same_count set left flow places words (Unproved verdict) is = refl

proof_of : (set left : ProgramSet) (flow : Dataflow) (places : List Place) (said : Answer) (outs : ℕ) → IsAnswer set flow places left said → said ≡ Proved outs → IsProof set flow places left outs
proof_of set left flow places said outs is e = subst (IsAnswer set flow places left) e is

pub returns : goal.returns
returns g c = λ input meant.
    let said = c.in-Ok.said in
    let set = c.args.claim.set in
    let flow = c.args.claim.flow in
    let places = c.deref.result.now in
    let left = c.answer.new.set in
    let words = c.as_bytes.result.now in
    let is = c.in-Ok.ensures in
    let output : List ℕ = answer_text c.in-Ok-cycles_told.cycles words said in
    let owed : IsFlowAnswered input output c.ending_with.result =
    record {
      set = set;
      flow = flow;
      places = places;
      meaning = subst (λ (ps : List Place). ClaimMeaning input set flow ps) (sym c.deref.ensures.value) meant.meaning;
      answer = said;
      left = left;
      says = is;
      takes = λ outs e words are.
          let proof = proof_of set left flow places said outs is e in
          c.law_words.ensures.proved set flow places outs (cycle_count set) words (subst IsSet proof.stays c.cycles_told.ensures.valid)
          proof.verdict are (c.law_count.ensures.has set (subst IsSet proof.stays c.cycles_told.ensures.valid));
      written = c.in-Ok-cycles_told.ensures.told words ∙ same_count set left flow places words said is
          ∙ ap (λ (bytes : List ℕ). answer_text (Some (cycle_count set)) bytes said) (c.as_bytes.ensures.value ∙ c.in-Ok-list_feeds.ensures);
      ended = c.ending_with.ensures;
    } in
    c.ended.ensures (Reads Prove) input output (sink_seen g.K.Sink.sight c.args.out.now c.write_answer.new.out) c.write_answer.ensures
    (subst (λ b. IsProveOutputBy b input output c.ending_with.result) (sym meant.kind) owed)
