-- What the assembler's answer for a section says of the lines of the set.
use Rattle.std.proofs.Common.{◌≡◌, ◌≢◌, ℕ, ◌+◌, ◌-◌, ◌<◌, ◌≤◌, true, not, List, [], ◌∷◌, ◌++◌, length, get_or, take, drop, Some, None, refl, sym, ap, ◌∙◌, subst, arith, length-drop, length-take-le}
use Rattle.std.specs.Option.{option_map}
use Rattle.std.specs.Result.{result_err}
use Rattle.std.specs.List.{slice_range, before_first, position_or_len}
use Rattle.std.proofs.lemmas.List.{drop-take, take-take}
use Rattle.std.proofs.lemmas.List.Sums.{prefix_len-le-length}
use Rattle.raw_asm.specs.declared.kind.AsmRefusal.{AsmRefusal}
use Rattle.raw_asm.specs.declared.kind.AsmRefusal.TheVariants as asm
use Rattle.raw_asm.specs.Language.{Language}
use Rattle.raw_asm.specs.Section.{line_code, code_upto, IsMeaning as IsSectionMeaning}
use Rattle.raw_asm.specs.Refusal.{IsCause as IsSectionCause}
use Rattle.raw_set_text.specs.declared.kind.SetKind.TheVariants.{Missing, Asm}
use Rattle.raw_set_text.specs.declared.refused.LineRefusal.{LineRefusal}
use Rattle.raw_set_text.specs.declared.refused.LineRefusal.TheVariants.{Fault, Memory}
use Rattle.raw_tile_asm.specs.Language.{tile_language}
use Rattle.raw_switch_asm.specs.Language.{switch_language}
use Rattle.raw_grid.specs.declared.parts.Ends.{Ends}
use Rattle.raw_set_text.specs.declared.declaration.Position.{Position}
use Rattle.raw_set_text.specs.declared.builder.Builder.{Builder}
use Rattle.raw_set_text.specs.Entry.{Entry}
use Rattle.raw_set_text.specs.Entry.Entry.{Tile, Switch}
use Rattle.raw_set_text.specs.Entries.{topology_of}
use Rattle.raw_set_text.specs.Forms.{line_entry}
use Rattle.raw_set_text.specs.Faults.{line_fault, entry_fault}
use Rattle.raw_set_text.specs.Sections.{is_section, is_end, section_of, section_entry, section_fault, wired_at}
use Rattle.raw_set_text.specs.Meaning.{IsCause}
use Rattle.raw_set_text.specs.Answers.{Names}
use Rattle.raw_set_text.specs.Reading.{IsRead, StandsAt, located, of_section}
use Rattle.raw_set_text.proofs.Lawful.Forms.{empty_line}
use Rattle.raw_set_text.proofs.Reading.Heads.{later_line}
use Rattle.raw_set_text.proofs.Reading.Steps.{section_within, least_inside, open_least, section_next, section_least}

-- the lines between a head and the end of its section, as a part of the whole text
pub section_is : (all lines : List (List (List ℕ))) (head end : ℕ) → lines ≡ take (length lines) all → head < length lines → end ≡ head + 1 + length (before_first is_end (drop (head + 1) lines)) → slice_range all (head + 1) end ≡ section_of lines head
section_is all lines head end front lt is =
    let n = position_or_len is_end (drop (head + 1) lines) in
    let m = length lines - (head + 1) in
    let few : n ≤ length (drop (head + 1) lines) = prefix_len-le-length (λ line. not (is_end line)) (drop (head + 1) lines) in
    let count : length (before_first is_end (drop (head + 1) lines)) ≡ n = length-take-le n (drop (head + 1) lines) few in
    let long : length (drop (head + 1) lines) ≡ m = length-drop (head + 1) lines in
    let sum : length lines ≡ head + 1 + m = omega arith in
    let rest : drop (head + 1) lines ≡ take m (drop (head + 1) all) =
    ap (drop (head + 1)) front ∙ ap (λ k. drop (head + 1) (take k all)) sum ∙ drop-take (head + 1) m all in
    let size : end - (head + 1) ≡ n = omega (arith, is, count) in
    ap (λ k. take k (drop (head + 1) all)) size ∙ sym (take-take n m (drop (head + 1) all) (omega (arith, few, long))) ∙ sym (ap (take n) rest)

-- the head of a section behind these entries, and what the lines of the section and its end say
pub record IsHeadAt {I : Type 0} (language : Language I) (lines : List (List (List ℕ))) (head : ℕ) (entries : List Entry) (entry : Entry) (make : List I → Entry) : Type 0 where
  pub read : IsRead lines head entries
  pub here : head < length lines
  pub says : line_entry (get_or lines head []) ≡ Some entry
  pub opens : is_section (Some entry) ≡ true
  pub fine : line_fault entries (get_or lines head []) ≡ None
  pub faults : (j : ℕ) → section_fault entries (section_of lines head) j (Some entry) ≡ option_map Asm (result_err (line_code language (section_of lines head) j))
  pub whole : section_entry entries (section_of lines head) (Some entry) ≡ Some (make (code_upto language (section_of lines head) (length (section_of lines head))))

module _ {I : Type 0} (language : Language I) (lines : List (List (List ℕ))) (head : ℕ) (entries : List Entry) (entry : Entry) (make : List I → Entry) (h : IsHeadAt language lines head entries entry make)
    (all : List (List (List ℕ))) (front : lines ≡ take (length lines) all) (end : ℕ) (there : end ≡ head + 1 + length (section_of lines head)) where
  part : slice_range all (head + 1) end ≡ section_of lines head
  part = section_is all lines head end front h.here there

  none_at : (j : ℕ) → result_err (line_code language (section_of lines head) j) ≡ None → section_fault entries (section_of lines head) j (Some entry) ≡ None
  none_at j e = h.faults j ∙ ap (option_map Asm) e

  refused_inside : (refusal : AsmRefusal) → IsSectionCause language (section_of lines head) (head + 1) refusal → IsCause lines (of_section refusal)
  refused_inside (asm.At line kind) cause =
      let least = cause.2 in
      (head + 1 + cause.0, omega (arith, cause.1), least_inside lines head entries entry h.read h.here h.says h.opens h.fine cause.0 (Asm kind) least.within (λ i below. none_at i (least.before i below)) (h.faults cause.0 ∙ ap (option_map Asm) least.here))
  refused_inside asm.Memory cause = tt

  pub refused_section : (refusal : AsmRefusal) → IsSectionCause language (slice_range all (head + 1) end) (head + 1) refusal → IsCause lines (of_section refusal)
  refused_section refusal cause = refused_inside refusal (subst (λ section. IsSectionCause language section (head + 1) refusal) part cause)

  module _ (code : List I) (read : IsSectionMeaning language (slice_range all (head + 1) end) code) where
    meaning : IsSectionMeaning language (section_of lines head) code
    meaning = subst (λ section. IsSectionMeaning language section code) part read

    each : (j : ℕ) → j < length (section_of lines head) → section_fault entries (section_of lines head) j (Some entry) ≡ None
    each j below = none_at j (meaning.faultless j below)

    is_whole : section_entry entries (section_of lines head) (Some entry) ≡ Some (make code)
    is_whole = h.whole ∙ ap (λ c. Some (make c)) (sym meaning.code)

    within : head + 1 + length (section_of lines head) ≤ length lines
    within = section_within lines head entries entry h.read h.here h.says h.opens

    pub open_section : end ≡ length lines → IsCause lines (located (length lines) (Fault Missing))
    open_section last = (length lines, omega arith, open_least lines head entries entry h.read h.here h.says h.opens h.fine each (make code) is_whole (omega (arith, there, last)))

    pub passed_section : end ≢ length lines → entry_fault entries (make code) ≡ None → IsRead lines (end + 1) (entries ++ make code ∷ [])
    passed_section more none =
        rw there (section_next lines head entries entry h.read h.here h.says h.opens h.fine each (make code) is_whole (omega (arith, there, more, within)) none)

    pub refused_end : end ≢ length lines → (refusal : LineRefusal) → Names refusal (entry_fault entries (make code)) → IsCause lines (located end refusal)
    refused_end more (Fault kind) names =
        (end, omega arith, rw there (section_least lines head entries entry h.read h.here h.says h.opens h.fine each (make code) is_whole kind (omega (arith, there, more, within)) names))
    refused_end more Memory names = tt

-- a line that declares something has a token
pub told : (line : List (List ℕ)) (entry : Entry) → line_entry line ≡ Some entry → 0 < length line
told [] entry is = absurd (cc (empty_line, is))
told (token ∷ tokens) entry is = omega arith

module _ (lines : List (List (List ℕ))) (head : ℕ) (builder : Builder) (tile : Position) (at : StandsAt lines head builder) (here : head < length lines) where
  -- the head of a tile's section
  pub tile_opens : line_entry (get_or lines head []) ≡ Some (Tile tile []) → entry_fault at.entries (Tile tile []) ≡ None → IsHeadAt tile_language lines head at.entries (Tile tile []) (Tile tile)
  tile_opens says free = record {
    read = at.read;
    here = here;
    says = says;
    opens = refl;
    fine = later_line at.entries (get_or lines head []) (Some (Tile tile [])) at.stands.begun (told (get_or lines head []) (Tile tile []) says) says ∙ free;
    faults = λ j. refl;
    whole = refl;
  }

  -- and of a switch's, where its ends with wires are known
  pub switch_opens : line_entry (get_or lines head []) ≡ Some (Switch tile []) → entry_fault at.entries (Switch tile []) ≡ None → (ends : Ends) → ends ≡ wired_at builder.ports.topo tile
      → IsHeadAt (switch_language ends) lines head at.entries (Switch tile []) (Switch tile)
  switch_opens says free ends wired =
      let same : ends ≡ wired_at (topology_of at.entries) tile = wired ∙ ap (λ topo. wired_at topo tile) at.stands.ports.topo in
      let opens : IsHeadAt (switch_language (wired_at (topology_of at.entries) tile)) lines head at.entries (Switch tile []) (Switch tile) = record {
        read = at.read;
        here = here;
        says = says;
        opens = refl;
        fine = later_line at.entries (get_or lines head []) (Some (Switch tile [])) at.stands.begun (told (get_or lines head []) (Switch tile []) says) says ∙ free;
        faults = λ j. refl;
        whole = refl;
      } in
      subst (λ e. IsHeadAt (switch_language e) lines head at.entries (Switch tile []) (Switch tile)) (sym same) opens
