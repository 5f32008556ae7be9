-- No set is lost between text and image.
use Rattle.std.proofs.Common.{◌≡◌, ◌∙◌, ℕ, ◌^◌, ◌≤◌, Bool, List, [], ◌++◌, length, take, codes, sym, ap, subst, arith}
use Rattle.raw_model.specs.Program.{ProgramSet, IsSet}
use Rattle.raw_set_text.specs.Texts.{Meaning}
use Rattle.raw_set_text.specs.Listing.{listing}
use Rattle.raw_image.specs.Image.{Image, image, number}
use Rattle.raw_names.specs.Names.{names_text}
use Rattle.raw_command_line.specs.declared.arguments.SetForm.{SetForm}
use Rattle.raw_command_line.specs.declared.arguments.SetForm.TheVariants as set_form
use Rattle.raw_command_line.specs.declared.arguments.TraceOptions.{TraceOptions}
use Rattle.raw_inputs.specs.declared.form.InputForm.{InputForm}
use Rattle.raw_inputs.specs.declared.form.InputForm.TheVariants as form
use Rattle.raw_shell.specs.declared.ending.CommandEnding.{CommandEnding}
use Rattle.raw_shell.specs.Seen.{limit}
use Rattle.raw_inputs.specs.Inputs.{whole, Means, IsOneInput}
use Rattle.raw_owed.specs.Owed.{IsRunOutput, IsCyclesOutput, IsTraceOutput, IsTracedWith, IsDepthsOutput, IsSteadyOutput, IsSetOutput}
use Rattle.raw_command_law.specs.Images.{GivesBack, StandsFor}

-- the output of one input is that of another that means the same set
cycles_of : {a b : SetForm} {lost : Bool} {input other written : List ℕ} {ending : CommandEnding} (run : IsCyclesOutput (record { form = a; lost = lost }) input written ending)
    → Means (whole b) other run.set → IsCyclesOutput (record { form = b; lost = lost }) other written ending
cycles_of run means = record {
  set = run.set;
  meaning = means;
  cycles = run.cycles;
  counted = run.counted;
  run = run.run;
  soonest = run.soonest;
  lost = run.lost;
  written = run.written;
  ended = run.ended;
}

trace_of : {a b : SetForm} {input other written : List ℕ} {ending : CommandEnding} (sources : ProgramSet → List ℕ) (options : TraceOptions)
    (run : IsTracedWith sources (record options { form = a }) input written ending) → Means (whole b) other run.set → IsTracedWith sources (record options { form = b }) other written ending
trace_of sources options run means = record {
  set = run.set;
  meaning = means;
  cycles = run.cycles;
  counted = run.counted;
  run = run.run;
  written = run.written;
  ended = run.ended;
}

depths_of : {a b : SetForm} {input other written : List ℕ} {ending : CommandEnding} (run : IsDepthsOutput a input written ending) → Means (whole b) other run.set
    → IsDepthsOutput b other written ending
depths_of run means = record { set = run.set; meaning = means; cycles = run.cycles; written = run.written; ended = run.ended }

steady_of : {a b : SetForm} {input other written : List ℕ} {ending : CommandEnding} (run : IsSteadyOutput a input written ending) → Means (whole b) other run.set
    → IsSteadyOutput b other written ending
steady_of run means = record {
  set = run.set;
  meaning = means;
  steadiness = run.steadiness;
  says = run.says;
  written = run.written;
  ended = run.ended;
}

set_of : {a b : InputForm} {bytes_of : ProgramSet → List ℕ} {input other written : List ℕ} {ending : CommandEnding} (out : IsSetOutput a bytes_of input written ending)
    → Means b other out.set → IsSetOutput b bytes_of other written ending
set_of out means = record { set = out.set; meaning = means; written = out.written; ended = out.ended }

module _ (one : (form : InputForm) (input : List ℕ) → IsOneInput form input)
    (back : (set : ProgramSet) → IsSet set → Meaning (listing set) set)
    (short : (set : ProgramSet) → IsSet set → length (listing set) ≤ limit)
    (image_back : (set : ProgramSet) → IsSet set → Image (image set) set)
    (image_short : (set : ProgramSet) → IsSet set → length (image set) ≤ 2 ^ 22)
    (second : (bytes : List ℕ) (set : ProgramSet) → Image bytes set → take 8 bytes ≡ codes "RAWT" ++ number 2 → bytes ≡ image set) where
  pub gives_back : (bytes text : List ℕ) (ending : CommandEnding) → IsSetOutput form.Image listing bytes text ending → GivesBack bytes text
  gives_back bytes text ending list =
      let lawful : IsSet list.set = list.meaning.1.lawful in
      let means : Meaning text list.set = subst (λ listed. Meaning listed list.set) (sym list.written) (back list.set lawful) in
      record {
        taken = record {
          short = subst (λ listed. length listed ≤ limit) (sym list.written) (short list.set lawful);
          valid = (list.set, means);
        };
        migrated = λ again next (asm : IsSetOutput form.Text image text again next).
            let same : asm.set ≡ list.set = (one form.Text text).one_set asm.set list.set asm.meaning means in
            let written : again ≡ image list.set = asm.written ∙ ap image same in
            record {
              set = list.set;
              meaning = list.meaning;
              written = written;
              same = λ says. written ∙ sym (second bytes list.set list.meaning says);
            };
      }

  pub stands_for : (text bytes : List ℕ) (ending : CommandEnding) → IsSetOutput form.Text image text bytes ending → StandsFor text bytes
  stands_for text bytes ending asm =
      let lawful : IsSet asm.set = (one form.Text text).lawful asm.set asm.meaning in
      let is_image : Image bytes asm.set = subst (λ written. Image written asm.set) (sym asm.written) (image_back asm.set lawful) in
      let from_image : (set : ProgramSet) → Image bytes set → set ≡ asm.set =
      λ set meaning. (one form.Image bytes).one_set set asm.set meaning is_image in
      let from_text : (set : ProgramSet) → Meaning text set → set ≡ asm.set =
      λ set meaning. (one form.Text text).one_set set asm.set meaning asm.meaning in
      record {
        taken = record {
          short = subst (λ written. length written ≤ limit) (sym asm.written) (omega (arith, image_short asm.set lawful));
          valid = (asm.set, is_image);
        };
        listed = λ again next set (list : IsSetOutput form.Image listing bytes again next) meaning.
            list.written ∙ ap listing (from_image list.set list.meaning ∙ sym (from_text set meaning));
        runs = λ output workers written next. (
          (λ (run : IsRunOutput output set_form.Image bytes written next).
              record {
                set = run.set;
                meaning = subst (Meaning text) (sym (from_image run.set run.meaning)) asm.meaning;
                steps = run.steps;
                run = run.run;
                written = run.written;
                ended = run.ended;
                for_all = run.for_all;
              }),
          (λ (run : IsRunOutput output set_form.Text text written next).
              record {
                set = run.set;
                meaning = subst (Image bytes) (sym (from_text run.set run.meaning)) is_image;
                steps = run.steps;
                run = run.run;
                written = run.written;
                ended = run.ended;
                for_all = run.for_all;
              }),
        );
        cycles = λ lost written next. (
          (λ (run : IsCyclesOutput (record { form = set_form.Image; lost = lost }) bytes written next).
              cycles_of run (subst (Meaning text) (sym (from_image run.set run.meaning)) asm.meaning)),
          (λ (run : IsCyclesOutput (record { form = set_form.Text; lost = lost }) text written next).
              cycles_of run (subst (Image bytes) (sym (from_text run.set run.meaning)) is_image)),
        );
        traces = λ options written next. (
          (λ (run : IsTraceOutput (record options { form = set_form.Image }) bytes written next).
              trace_of (λ set. []) options run (subst (Meaning text) (sym (from_image run.set run.meaning)) asm.meaning)),
          (λ (run : IsTracedWith (λ set. []) (record options { form = set_form.Text }) text written next).
              trace_of (λ set. []) options run (subst (Image bytes) (sym (from_text run.set run.meaning)) is_image)),
        );
        depths = λ written next. (
          (λ (run : IsDepthsOutput set_form.Image bytes written next). depths_of run (subst (Meaning text) (sym (from_image run.set run.meaning)) asm.meaning)),
          (λ (run : IsDepthsOutput set_form.Text text written next). depths_of run (subst (Image bytes) (sym (from_text run.set run.meaning)) is_image)),
        );
        steady = λ written next. (
          (λ (run : IsSteadyOutput set_form.Image bytes written next). steady_of run (subst (Meaning text) (sym (from_image run.set run.meaning)) asm.meaning)),
          (λ (run : IsSteadyOutput set_form.Text text written next). steady_of run (subst (Image bytes) (sym (from_text run.set run.meaning)) is_image)),
        );
        names = λ written next. (
          (λ (run : IsSetOutput form.Image names_text bytes written next). set_of run (subst (Meaning text) (sym (from_image run.set run.meaning)) asm.meaning)),
          (λ (run : IsSetOutput form.Text names_text text written next). set_of run (subst (Image bytes) (sym (from_text run.set run.meaning)) is_image)),
        );
      }
