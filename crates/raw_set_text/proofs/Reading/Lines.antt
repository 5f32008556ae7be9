-- What the steps of the reader find: the first two lines, a line outside sections, the end of a section.
use Rattle.std.proofs.Common.{◌≡◌, ℕ, ◌+◌, ◌-◌, ◌<◌, ◌≤◌, true, false, not, List, [], ◌∷◌, length, get_or, drop, Option, Some, None, Result, Ok, Err, IfOk, refl, sym, ap, subst, ◌∙◌, arith, length-drop, get_or-drop, length-take-le}
use Rattle.std.specs.List.{before_first, position_or_len}
use Rattle.std.proofs.lemmas.Bool.{lt-ltb, le-ltb}
use Rattle.std.proofs.lemmas.List.Sums.{position_or_len_is, prefix_len-le-length}
use Rattle.raw_set_text.specs.declared.kind.SetKind.{SetKind}
use Rattle.raw_set_text.specs.declared.kind.SetKind.TheVariants.{Missing}
use Rattle.raw_model.specs.Program.{ProgramSet}
use Rattle.raw_set_text.specs.declared.kind.SetRefusal.{SetRefusal}
use Rattle.raw_set_text.specs.declared.refused.LineRefusal.{LineRefusal}
use Rattle.raw_set_text.specs.declared.refused.LineRefusal.TheVariants.{Fault, Memory}
use Rattle.raw_set_text.specs.declared.builder.Builder.{Builder}
use Rattle.raw_set_text.specs.declared.declaration.Declaration.{Declaration}
use Rattle.raw_set_text.specs.declared.declaration.Declaration.TheVariants as declared
use Rattle.raw_set_text.specs.Entry.{Entry, entry_of}
use Rattle.raw_set_text.specs.Forms.{line_entry}
use Rattle.raw_set_text.specs.Faults.{line_fault, entry_fault, form_fault, due_word}
use Rattle.raw_set_text.specs.Entries.{set_of}
use Rattle.raw_set_text.specs.Sections.{is_section, is_end, fault_at, end_fault}
use Rattle.raw_set_text.specs.Meaning.{AreFaultless, IsMeaning, IsCause}
use Rattle.raw_set_text.specs.Answers.{Names, ReadsAs, with_entry}
use Rattle.raw_set_text.specs.Entry.Entry.{Grid, Data, Show}
use Rattle.raw_set_text.proofs.Lawful.Entries.{Formed}
use Rattle.raw_set_text.specs.Reading.{IsAligned, IsRead, BuilderStands, StandsAt, located}
use Rattle.raw_set_text.proofs.Reading.Steps.{blanks, blank_next, entry_next, least_here, least_behind, fault_outside}
use Rattle.raw_set_text.proofs.Reading.Heads.{later_line}

-- the first line from a place on that ends a section
pub end_found : (lines : List (List (List ℕ))) (from place : ℕ) → from ≤ place → place ≤ length lines → ((k : ℕ) → from ≤ k → k < place → is_end (get_or lines k []) ≡ false)
    → (place < length lines → is_end (get_or lines place []) ≡ true) → place ≡ from + length (before_first is_end (drop from lines))
end_found lines from place low high none last =
    let rest = drop from lines in
    let long : length (drop from lines) ≡ length lines - from = length-drop from lines in
    let there : from + (place - from) ≡ place = omega arith in
    let first : position_or_len is_end (drop from lines) ≡ place - from = position_or_len_is is_end (drop from lines) (place - from) [] (omega (arith, long, low, high))
    (λ k lt. ap is_end (get_or-drop from lines k []) ∙ none (from + k) (omega arith) (omega (arith, lt, low)))
    (λ lt. ap is_end (get_or-drop from lines (place - from) [] ∙ ap (λ n. get_or lines n []) there) ∙ last (omega (arith, lt, long, low))) in
    let count : length (before_first is_end (drop from lines)) ≡ position_or_len is_end (drop from lines) =
    length-take-le (position_or_len is_end (drop from lines)) (drop from lines) (prefix_len-le-length (λ line. not (is_end line)) (drop from lines)) in
    omega (arith, first, count, there)

two_entries : (entries : List Entry) → due_word entries ≡ None → 2 ≤ length entries
two_entries (first ∷ second ∷ entries) begun = omega arith
two_entries _ begun = absurd (cc begun)

module _ (lines : List (List (List ℕ))) where
  pub nothing_read : IsRead lines 0 []
  nothing_read = record { within = omega arith; outside = refl; entries_are = refl; faultless = λ k below. absurd (omega (arith, below)) }

  pub blanks_to : (k place : ℕ) (entries : List Entry) → IsRead lines k entries → k ≤ place → place ≤ length lines → ((j : ℕ) → k ≤ j → j < place → length (get_or lines j []) ≡ 0) → IsRead lines place entries
  blanks_to k place entries r low high blank =
      let there : k + (place - k) ≡ place = omega arith in
      subst (λ i. IsRead lines i entries) there (blanks lines k entries (place - k) r (omega arith) (λ j from to. blank j from (omega (arith, to, there))))

  -- a refusal by the fault of the line
  pub cause_of : (k : ℕ) (refusal : LineRefusal) (fault : Option SetKind) → AreFaultless lines k → k < length lines → fault_at lines k ≡ fault → Names refusal fault → IsCause lines (located k refusal)
  cause_of k (Fault kind) fault before lt e answer = (k, omega arith, least_here lines k kind before lt (e ∙ answer))
  cause_of k Memory fault before lt e answer = tt

  pub cause_outside : (k : ℕ) (entries : List Entry) (refusal : LineRefusal) → IsRead lines k entries → k < length lines → Names refusal (line_fault entries (get_or lines k [])) → IsCause lines (located k refusal)
  cause_outside k entries refusal r lt answer = cause_of k refusal (line_fault entries (get_or lines k [])) r.faultless lt (fault_outside lines k entries r.outside r.entries_are) answer

  -- too few lines
  pub few_lines : (entries : List Entry) → IsRead lines (length lines) entries → length entries < 2 → IsCause lines (located (length lines) (Fault Missing))
  unfolding end_fault
  few_lines entries r few =
      (length lines, omega arith, least_behind lines Missing r.faultless (rw (r.outside, r.entries_are, lt-ltb (length entries) 2 few) refl))

  -- all lines are read
  pub meaning_read : (entries : List Entry) → IsRead lines (length lines) entries → due_word entries ≡ None → IsMeaning lines (set_of entries)
  unfolding end_fault
  meaning_read entries r begun = record {
    faultless = r.faultless;
    ended = rw (r.outside, r.entries_are, le-ltb (length entries) 2 (two_entries entries begun)) refl;
    set_is = ap set_of (sym r.entries_are);
  }

  -- a line outside sections, behind the first two
  module _ (k : ℕ) (builder : Builder) (at : StandsAt lines k builder) (lt : k < length lines) where
    pub passes_blank : length (get_or lines k []) ≡ 0 → StandsAt lines (k + 1) builder
    passes_blank none = record { entries = at.entries; read = blank_next lines k at.entries at.read lt none; stands = at.stands }

    pub fault_is : (entry : Option Entry) → 0 < length (get_or lines k []) → line_entry (get_or lines k []) ≡ entry → fault_at lines k ≡ form_fault at.entries entry
    fault_is entry some is = fault_outside lines k at.entries at.read.outside at.read.entries_are ∙ later_line at.entries (get_or lines k []) entry at.stands.begun some is

    pub refused_form : (refusal : LineRefusal) → 0 < length (get_or lines k []) → ReadsAs (Err refusal) (line_entry (get_or lines k [])) → IsCause lines (located k refusal)
    refused_form (Fault kind) some read = (k, omega arith, least_here lines k kind at.read.faultless lt (fault_is None some read.1 ∙ ap Some (sym read.0)))
    refused_form Memory some read = tt

    pub refused_entry : (refusal : LineRefusal) (entry : Entry) → 0 < length (get_or lines k []) → line_entry (get_or lines k []) ≡ Some entry → Names refusal (entry_fault at.entries entry) → IsCause lines (located k refusal)
    refused_entry refusal entry some is answer = cause_of k refusal (entry_fault at.entries entry) at.read.faultless lt (fault_is (Some entry) some is) answer

    pub passes_entry : (new : Builder) (entry : Entry) → 0 < length (get_or lines k []) → line_entry (get_or lines k []) ≡ Some entry → is_section (Some entry) ≡ false
        → entry_fault at.entries entry ≡ None → BuilderStands new (with_entry at.entries entry) → StandsAt lines (k + 1) new
    passes_entry new entry some is plain none stands =
        record {
          entries = with_entry at.entries entry;
          read = entry_next lines k at.entries entry at.read lt is plain (later_line at.entries (get_or lines k []) (Some entry) at.stands.begun some is ∙ none);
          stands = stands;
        }

-- a declaration begins no section
pub plain_entry : (declaration : Declaration) → is_section (Some (entry_of declaration)) ≡ false
plain_entry (declared.Grid columns rows) = refl
plain_entry declaration = refl

-- a line that was read has its address at a word
pub formed_aligned : (entries : List Entry) (entry : Entry) → Formed entries entry → IsAligned entry
formed_aligned entries (Data tile address words) formed = formed.0
formed_aligned entries (Show tile address words) formed = formed.0
formed_aligned entries entry formed = tt

-- a result that is the set which lines mean
pub whole_read : (result : Result ProgramSet SetRefusal) (lines : List (List (List ℕ))) (set : ProgramSet) → IfOk result (λ read. read ≡ set) → IsMeaning lines set → IfOk result (IsMeaning lines)
whole_read (Ok read) lines set same meaning = subst (IsMeaning lines) (sym same) meaning
whole_read (Err refusal) lines set same meaning = tt
