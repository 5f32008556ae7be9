-- The lines that were read, why one is refused, and what lines without a fault say.
use Rattle.std.proofs.Common.{◌≡◌, ℕ, zero, suc, ◌+◌, ◌<◌, ◌≤◌, Bool, true, false, cond, eqb, List, [], ◌∷◌, ◌++◌, length, get_or, drop, Option, Some, None, Result, Ok, Err, refl, sym, ap, ◌∙◌, subst, arith, append-nil, add-one}
use Rattle.std.specs.Prelude.{IfOk, IfErr, IfSome}
use Rattle.std.specs.Option.{option_to_list}
use Rattle.std.specs.List.{filter_map}
use Rattle.std.proofs.lemmas.Bool.{lt-ltb, le-ltb}
use Rattle.std.proofs.lemmas.Bool.Decides.{nat_tests}
use Rattle.std.proofs.lemmas.List.{take_all}
use Rattle.std.proofs.lemmas.List.Elements.{All-nil}
use Rattle.std.proofs.lemmas.Option.{none-some}
use Rattle.raw_grid.specs.Topology.{Topology}
use Rattle.raw_set_text.specs.declared.kind.SetKind.TheVariants.{Missing, BadLine}
use Rattle.raw_set_text.specs.declared.kind.SetRefusal.{SetRefusal}
use Rattle.raw_flow_text.specs.Building.{Answers}
use Rattle.raw_answer.proofs.Places.{more_faultless}
use Rattle.raw_flow_text.proofs.Causes.{refused_at}
use Rattle.raw_answer.specs.Places.{AreFaultless}
use Rattle.raw_stream_text.specs.Statement.{Statement}
use Rattle.raw_stream_text.specs.Forms.{line_statement}
use Rattle.raw_stream_text.specs.Streams.{FedStream, size_in, count_in, fed_by}
use Rattle.raw_stream_text.specs.Faults.{form_fault, due_word, is_missing, line_fault, end_fault}
use Rattle.raw_stream_text.specs.Meaning.{said_before, said_in, fault_at, IsMeaning, IsCause}
use Rattle.raw_stream_text.proofs.Next.{no_tokens, said_next, said_split}
use Rattle.raw_stream_text.proofs.Sound.{IsWritten, line_written, AreSound, sound_next}

module _ (claimed : Option Topology) (from : ℕ) (lines : List (List (List ℕ))) where
  at_line : (k : ℕ) → k < length lines → fault_at claimed lines k ≡ line_fault claimed (said_in lines) (said_before lines k) (get_or lines k [])
  unfolding fault_at
  at_line k lt = rw (lt-ltb k (length lines) lt) refl

  pub at_end : fault_at claimed lines (length lines) ≡ end_fault claimed (said_in lines)
  unfolding fault_at
  at_end = rw (le-ltb (length lines) (length lines) (omega arith)) refl

  -- one line more
  pub line_passes : (k : ℕ) → k < length lines → AreFaultless (fault_at claimed lines) k → line_fault claimed (said_in lines) (said_before lines k) (get_or lines k []) ≡ None → AreFaultless (fault_at claimed lines) (k + 1)
  line_passes k lt before none = more_faultless (fault_at claimed lines) k before (at_line k lt ∙ none)

  -- a line is refused, or the end
  pub line_refused : (T : Type 0) (k number : ℕ) (refusal : SetRefusal) → number ≡ k + 1 + from → k < length lines → AreFaultless (fault_at claimed lines) k
      → Answers {T = T} (Err refusal) number (line_fault claimed (said_in lines) (said_before lines k) (get_or lines k [])) → IsCause claimed from lines refusal
  line_refused T k number refusal is lt before answers =
      refused_at (fault_at claimed lines) (length lines) T from k number refusal is (omega arith) before (subst (Answers {T = T} (Err refusal) number) (sym (at_line k lt)) answers)

  pub end_refused : {T : Type 0} (result : Result T SetRefusal) (number : ℕ) → number ≡ length lines + 1 + from → AreFaultless (fault_at claimed lines) (length lines) → Answers result number (end_fault claimed (said_in lines))
      → IfErr result (IsCause claimed from lines)
  end_refused (Ok done) number is before answers = tt
  end_refused {T} (Err refusal) number is before answers =
      refused_at (fault_at claimed lines) (length lines) T from (length lines) number refusal is (omega arith) before (subst (Answers {T = T} (Err refusal) number) (sym at_end) answers)

  meant : AreFaultless (fault_at claimed lines) (length lines) → end_fault claimed (said_in lines) ≡ None → IsMeaning claimed lines (fed_by (said_in lines))
  meant before ended = record { faultless = more_faultless (fault_at claimed lines) (length lines) before (at_end ∙ ended); is = refl }

  -- the answer at the end
  pub end_meant : (result : Result FedStream SetRefusal) (number : ℕ) → AreFaultless (fault_at claimed lines) (length lines) → Answers result number (end_fault claimed (said_in lines))
      → IfOk result (λ fed. fed ≡ fed_by (said_in lines)) → IfOk result (IsMeaning claimed lines)
  end_meant (Ok fed) number before answers is = subst (IsMeaning claimed lines) (sym is) (meant before answers)
  end_meant (Err refusal) number before answers is = tt

  -- ---- what lines without a fault say
  by_form : (all said : List Statement) (rest : List Statement) (form : Option Statement) → all ≡ said ++ (option_to_list form ++ rest) → IfSome form IsWritten → AreSound claimed all said
      → form_fault claimed all said form ≡ None → AreSound claimed all (said ++ option_to_list form)
  by_form all said rest None split is are none = absurd (none-some BadLine (sym none))
  by_form all said rest (Some statement) split is are none = sound_next claimed all said statement (rest, split) is are none

  by_test : (all said : List Statement) (rest : List Statement) (form : Option Statement) (missing : Bool) → all ≡ said ++ (option_to_list form ++ rest) → IfSome form IsWritten → AreSound claimed all said
      → cond missing (Some Missing) (form_fault claimed all said form) ≡ None → AreSound claimed all (said ++ option_to_list form)
  by_test all said rest form true split is are none = absurd (none-some Missing (sym none))
  by_test all said rest form false split is are none = by_form all said rest form split is are none

  line_step : (all said : List Statement) (rest : List Statement) (line : List (List ℕ)) → all ≡ said ++ (option_to_list (line_statement line) ++ rest) → AreSound claimed all said
      → line_fault claimed all said line ≡ None → AreSound claimed all (said ++ option_to_list (line_statement line))
  unfolding line_fault
  line_step all said rest [] split are none = rw (no_tokens, append-nil) are
  line_step all said rest (token ∷ tokens) split are none =
      let some : eqb (length (token ∷ tokens)) 0 ≡ false = grind (arith, nat_tests) in
      by_test all said rest (line_statement (token ∷ tokens)) (is_missing (due_word (size_in said) (count_in said)) token) split (line_written (token ∷ tokens)) are (rw some at none)

  none_said : (all : List Statement) → AreSound claimed all []
  none_said all = record {
    sizes = All-nil _;
    counts = All-nil _;
    nodes = λ v node e. absurd (none-some node e);
    outs = All-nil _;
    sources = All-nil _;
    sinks = All-nil _;
    claimed_sources = All-nil _;
    claimed_sinks = All-nil _;
    words = All-nil _;
  }

  sound_before : (k : ℕ) → k ≤ length lines → AreFaultless (fault_at claimed lines) k → AreSound claimed (said_in lines) (said_before lines k)
  sound_before zero l faultless = none_said (said_in lines)
  sound_before (suc k) l faultless =
      let lt : k < length lines = omega (arith, l) in
      let here : line_fault claimed (said_in lines) (said_before lines k) (get_or lines k []) ≡ None = sym (at_line k lt) ∙ faultless k (omega arith) in
      let before = sound_before k (omega (arith, l)) (λ j below. faultless j (omega (arith, below))) in
      let more : said_before lines (suc k) ≡ said_before lines k ++ option_to_list (line_statement (get_or lines k [])) = rw (sym (add-one k)) (said_next lines k lt) in
      subst (AreSound claimed (said_in lines)) (sym more) (line_step (said_in lines) (said_before lines k) (filter_map line_statement (drop (suc k) lines)) (get_or lines k []) (said_split lines k lt) before here)

  pub all_sound : AreFaultless (fault_at claimed lines) (length lines) → AreSound claimed (said_in lines) (said_in lines)
  all_sound faultless =
      let whole : said_before lines (length lines) ≡ said_in lines = ap (filter_map line_statement) (take_all (length lines) lines (omega arith)) in
      subst (AreSound claimed (said_in lines)) whole (sound_before (length lines) (omega arith) faultless)
