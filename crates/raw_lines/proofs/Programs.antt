-- The lines that programs have mean the programs of the set.
use Rattle.std.proofs.Common.{◌≡◌, ℕ, zero, suc, ◌+◌, ◌-◌, ◌<◌, ◌≤◌, Bool, true, false, cond, List, [], ◌∷◌, ◌++◌, length, get_or, drop, Option, Some, None, find, filter_map, slice_range, refl, sym, ap, subst, ◌∙◌, arith, take_all, length-take-le, length-drop}
use Rattle.std.specs.Prelude.{slice_get}
use Rattle.std.specs.Option.{option_map, option_or}
use Rattle.std.specs.Result.{result_err}
use Rattle.std.proofs.lemmas.Option.{none-some, slice_get_within, get_or_from_slice_get}
use Rattle.std.proofs.lemmas.List.Folds.{find-append}
use Rattle.std.proofs.lemmas.List.Elements.{filter_map-append}
use Rattle.std.proofs.lemmas.List.FromFn.{length-map-range_with_len, get_or-map-range_with_len}
use Rattle.raw_grid.specs.Topology.{tile_count}
use Rattle.raw_model.specs.Program.{ProgramSet, TileProgram}
use Rattle.raw_asm.specs.declared.kind.AsmKind.{AsmKind}
use Rattle.raw_asm.specs.Language.{Language}
use Rattle.raw_asm.specs.Section.{line_code, code_upto, IsMeaning as IsSectionMeaning}
use Rattle.raw_tile_asm.specs.Language.{tile_language}
use Rattle.raw_tile_asm.specs.Lawful.{EachFrontIsLawful as TileLaw}
use Rattle.raw_switch_asm.specs.Language.{switch_language}
use Rattle.raw_switch_asm.specs.Lawful.{EachFrontIsLawful as SwitchLaw}
use Rattle.raw_set_text.specs.declared.kind.SetKind.TheVariants.{Asm}
use Rattle.raw_set_text.specs.Entry.{Entry}
use Rattle.raw_set_text.specs.Entry.Entry.{Tile, Switch}
use Rattle.raw_set_text.specs.Entries.{columns_of, topology_of, is_tile, code_in, switch_in, tile_of, tiles_of, set_of}
use Rattle.raw_set_text.specs.Sections.{wired_at, is_end, head_of, section_of, section_entry, section_fault, listed, declared_outside, head_entry, declared_at, entries_before}
use Rattle.raw_set_text.specs.Meaning.{AreFaultless, IsMeaning}
use Rattle.raw_set_text.proofs.Reading.Lines.{end_found}
use Rattle.raw_set_text.proofs.Reading.Sections.{section_is}
use Rattle.raw_set_text.proofs.Lawful.Lines.{Open, states}
use Rattle.raw_lines.specs.declared.kind.ProgramKind.TheVariants as kind
use Rattle.raw_lines.specs.declared.section.ProgramSection.{ProgramSection}
use Rattle.raw_lines.specs.Sections.{begun, upto, ended_at, sections_before, sections_in, is_for, part_in, part_for}
use Rattle.raw_lines.specs.Laws.{MeanTile, MeanSwitch, Gives, ArePrograms}

no_fault : (o : Option AsmKind) → option_map Asm o ≡ None → o ≡ None
no_fault None e = refl
no_fault (Some one) e = absurd (none-some (Asm one) (sym e))

first_append : {X : Type 0} (xs ys : List X) → slice_get (xs ++ ys) 0 ≡ option_or (slice_get xs 0) (slice_get ys 0)
first_append [] ys = refl
first_append (x ∷ xs) ys = refl

-- a program that entries declare, and the section that a text has for it, where its lines mean it
module _ {I : Type 0} (Mean : List (List (List ℕ)) → List I → Type 0) (lines : List (List (List ℕ))) where
  abbrev pub Agree : Option (List I) → Option ProgramSection → Type 0
  Agree None None = Unit {0}
  Agree (Some code) (Some section) = Mean (slice_range lines section.from section.to) code
  Agree _ _ = ⊥

  agree_or : (a b : Option (List I)) (x y : Option ProgramSection) → Agree a x → Agree b y → Agree (option_or a b) (option_or x y)
  agree_or None b None y first second = second
  agree_or (Some code) b (Some section) y first second = first
  agree_or None b (Some section) y first second = absurd first
  agree_or (Some code) b None y first second = absurd first

  agree_gives : (codes : List (List I)) (section : Option ProgramSection) → Agree (slice_get codes 0) section → Gives Mean (get_or codes 0 []) (option_map (part_in lines) section)
  agree_gives [] None agree = refl
  agree_gives (code ∷ codes) (Some section) agree = agree
  agree_gives [] (Some section) agree = absurd agree
  agree_gives (code ∷ codes) None agree = absurd agree

  module _ (picked : Entry → Option (List I)) (test : ProgramSection → Bool) where
    agree_before : ((k : ℕ) → k < length lines → (head : Option ℕ) → head_of lines k ≡ head → Agree (slice_get (filter_map picked (declared_at lines k (entries_before lines k) head)) 0) (find test (ended_at lines k head)))
        → (k : ℕ) → k ≤ length lines → Agree (slice_get (filter_map picked (entries_before lines k)) 0) (find test (sections_before lines k))
    agree_before step zero within = tt
    agree_before step (suc k) within =
        let entries = entries_before lines k in
        let more = declared_at lines k entries (head_of lines k) in
        let sections = sections_before lines k in
        let last = ended_at lines k (head_of lines k) in
        let codes : slice_get (filter_map picked (entries ++ more)) 0 ≡ option_or (slice_get (filter_map picked entries) 0) (slice_get (filter_map picked more) 0) =
        ap (λ xs. slice_get xs 0) (filter_map-append picked entries more) ∙ first_append (filter_map picked entries) (filter_map picked more) in
        let found : find test (sections ++ last) ≡ option_or (find test sections) (find test last) = find-append test sections last in
        subst (λ s. Agree (slice_get (filter_map picked (entries ++ more)) 0) s) (sym found)
        (subst (λ c. Agree c (option_or (find test sections) (find test last))) (sym codes)
        (agree_or (slice_get (filter_map picked entries) 0) (slice_get (filter_map picked more) 0) (find test sections) (find test last)
        (agree_before step k (omega arith)) (step k (omega arith) (head_of lines k) refl)))

-- what stands outside sections declares no program
tile_outside : (columns t : ℕ) (entry : Option Entry) → filter_map (code_in columns t) (declared_outside entry) ≡ []
tile_outside columns t (Some (Tile tile code)) = refl
tile_outside columns t entry = refl

switch_outside : (columns t : ℕ) (entry : Option Entry) → filter_map (switch_in columns t) (declared_outside entry) ≡ []
switch_outside columns t (Some (Tile tile code)) = refl
switch_outside columns t entry = refl

module _ (tiles : TileLaw) (switches : SwitchLaw) (lines : List (List (List ℕ))) (faultless : AreFaultless lines (length lines)) where
  module _ (k : ℕ) (within : k < length lines) (head : ℕ) (e : head_of lines k ≡ Some head) (is_so : is_end (get_or lines k []) ≡ true) where
    open_here : Open lines k head
    open_here = (states tiles switches lines k (omega (arith, within)) (λ j below. faultless j (omega (arith, below, within)))).open_section head e

    -- the lines of the section that line k ends
    part : slice_range lines (head + 1) k ≡ section_of lines head
    part =
        let below : head < k = open_here.below in
        let unended = open_here.unended in
        section_is lines lines head k (sym (take_all (length lines) lines (omega arith))) (omega (arith, below, within))
        (end_found lines (head + 1) k (omega (arith, below)) (omega (arith, within))
        (λ j low lt. let at : head + 1 + (j - (head + 1)) ≡ j = omega (arith, low) in subst (λ i. is_end (get_or lines i []) ≡ false) at (unended (j - (head + 1)) (omega (arith, lt, low))))
        (λ lt. is_so))

    long : length (section_of lines head) ≡ k - (head + 1)
    long =
        let left = length-drop (head + 1) lines in
        sym (ap length part) ∙ length-take-le (k - (head + 1)) (drop (head + 1) lines) (omega (arith, left, within))

    means : {I : Type 0} (language : Language I)
        → ((i : ℕ) → section_fault (entries_before lines k) (section_of lines head) i (head_entry lines head) ≡ option_map Asm (result_err (line_code language (section_of lines head) i)))
        → IsSectionMeaning language (slice_range lines (head + 1) k) (code_upto language (section_of lines head) (length (section_of lines head)))
    means language faults =
        let free = open_here.free in
        let below : head < k = open_here.below in
        let long_is = long in
        subst (λ section. IsSectionMeaning language section (code_upto language (section_of lines head) (length (section_of lines head)))) (sym part)
        (record { faultless = λ i lt. no_fault _ (sym (faults i) ∙ free i (omega (arith, lt, long_is, below))); code = refl })

    module _ (columns t : ℕ) where
      tile_ended : (entry : Option Entry) → head_entry lines head ≡ entry
          → Agree MeanTile lines (slice_get (filter_map (code_in columns t) (listed (section_entry (entries_before lines k) (section_of lines head) entry))) 0)
          (find (is_for kind.Tile columns t) (upto k (begun head entry)))
      tile_ended (Some (Tile tile code)) is = by (is_tile columns t tile)
        where
          by : (b : Bool)
              → Agree MeanTile lines (slice_get (filter_map (λ (x : Entry). cond b (Some (code_upto tile_language (section_of lines head) (length (section_of lines head)))) None) (Tile tile code ∷ [])) 0)
              (cond b (Some (record { kind = kind.Tile; tile = tile; from = head + 1; to = k })) None)
          by true = means tile_language (λ i. ap (section_fault (entries_before lines k) (section_of lines head) i) is)
          by false = tt
      tile_ended (Some (Switch tile code)) is = tt
      tile_ended entry is = tt

      switch_ended : (entry : Option Entry) → head_entry lines head ≡ entry
          → Agree MeanSwitch lines (slice_get (filter_map (switch_in columns t) (listed (section_entry (entries_before lines k) (section_of lines head) entry))) 0)
          (find (is_for kind.Switch columns t) (upto k (begun head entry)))
      switch_ended (Some (Switch tile code)) is = by (is_tile columns t tile)
        where
          by : (b : Bool)
              → Agree MeanSwitch lines
              (slice_get (filter_map (λ (x : Entry). cond b (Some (code_upto (switch_language (wired_at (topology_of (entries_before lines k)) tile)) (section_of lines head) (length (section_of lines head)))) None) (Switch tile code ∷ [])) 0)
              (cond b (Some (record { kind = kind.Switch; tile = tile; from = head + 1; to = k })) None)
          by true =
              let ends = wired_at (topology_of (entries_before lines k)) tile in
              (ends, means (switch_language ends) (λ i. ap (section_fault (entries_before lines k) (section_of lines head) i) is))
          by false = tt
      switch_ended (Some (Tile tile code)) is = tt
      switch_ended entry is = tt

  module _ (columns t : ℕ) where
    tile_step : (k : ℕ) → k < length lines → (head : Option ℕ) → head_of lines k ≡ head
        → Agree MeanTile lines (slice_get (filter_map (code_in columns t) (declared_at lines k (entries_before lines k) head)) 0) (find (is_for kind.Tile columns t) (ended_at lines k head))
    tile_step k within None e = subst (λ codes. Agree MeanTile lines (slice_get codes 0) None) (sym (tile_outside columns t _)) tt
    tile_step k within (Some head) e = by (is_end (get_or lines k [])) refl
      where
        by : (b : Bool) → is_end (get_or lines k []) ≡ b
            → Agree MeanTile lines (slice_get (filter_map (code_in columns t) (cond b (listed (section_entry (entries_before lines k) (section_of lines head) (head_entry lines head))) [])) 0)
            (find (is_for kind.Tile columns t) (cond b (upto k (begun head (head_entry lines head))) []))
        by true is_so = tile_ended k within head e is_so columns t (head_entry lines head) refl
        by false is_not = tt

    switch_step : (k : ℕ) → k < length lines → (head : Option ℕ) → head_of lines k ≡ head
        → Agree MeanSwitch lines (slice_get (filter_map (switch_in columns t) (declared_at lines k (entries_before lines k) head)) 0) (find (is_for kind.Switch columns t) (ended_at lines k head))
    switch_step k within None e = subst (λ codes. Agree MeanSwitch lines (slice_get codes 0) None) (sym (switch_outside columns t _)) tt
    switch_step k within (Some head) e = by (is_end (get_or lines k [])) refl
      where
        by : (b : Bool) → is_end (get_or lines k []) ≡ b
            → Agree MeanSwitch lines (slice_get (filter_map (switch_in columns t) (cond b (listed (section_entry (entries_before lines k) (section_of lines head) (head_entry lines head))) [])) 0)
            (find (is_for kind.Switch columns t) (cond b (upto k (begun head (head_entry lines head))) []))
        by true is_so = switch_ended k within head e is_so columns t (head_entry lines head) refl
        by false is_not = tt

  -- the program of tile t, as the entries of all lines declare it
  declared_is : (t : ℕ) (program : TileProgram) → slice_get (set_of (entries_before lines (length lines))).tiles t ≡ Some program → program ≡ tile_of (entries_before lines (length lines)) t
  unfolding set_of tiles_of
  declared_is t program e =
      let entries = entries_before lines (length lines) in
      let count = tile_count (topology_of entries) in
      let lt : t < count = omega (arith, slice_get_within _ t program e, length-map-range_with_len (tile_of entries) 0 count) in
      sym (get_or_from_slice_get (tiles_of entries) t program program e) ∙ get_or-map-range_with_len (tile_of entries) 0 count t t program lt (omega arith)

  tile_gives : (t : ℕ) (program : TileProgram) → slice_get (set_of (entries_before lines (length lines))).tiles t ≡ Some program
      → Gives MeanTile program.code (part_for lines (sections_in lines) kind.Tile (set_of (entries_before lines (length lines))).topo t)
  unfolding set_of tile_of topology_of
  tile_gives t program e =
      let entries = entries_before lines (length lines) in
      let columns = columns_of entries in
      subst (λ (p : TileProgram). Gives MeanTile p.code (option_map (part_in lines) (find (is_for kind.Tile columns t) (sections_in lines)))) (sym (declared_is t program e))
      (agree_gives MeanTile lines (filter_map (code_in columns t) entries) (find (is_for kind.Tile columns t) (sections_in lines))
      (agree_before MeanTile lines (code_in columns t) (is_for kind.Tile columns t) (tile_step columns t) (length lines) (omega arith)))

  switch_gives : (t : ℕ) (program : TileProgram) → slice_get (set_of (entries_before lines (length lines))).tiles t ≡ Some program
      → Gives MeanSwitch program.switch (part_for lines (sections_in lines) kind.Switch (set_of (entries_before lines (length lines))).topo t)
  unfolding set_of tile_of topology_of
  switch_gives t program e =
      let entries = entries_before lines (length lines) in
      let columns = columns_of entries in
      subst (λ (p : TileProgram). Gives MeanSwitch p.switch (option_map (part_in lines) (find (is_for kind.Switch columns t) (sections_in lines)))) (sym (declared_is t program e))
      (agree_gives MeanSwitch lines (filter_map (switch_in columns t) entries) (find (is_for kind.Switch columns t) (sections_in lines))
      (agree_before MeanSwitch lines (switch_in columns t) (is_for kind.Switch columns t) (switch_step columns t) (length lines) (omega arith)))

-- so it is of each program of a set that lines mean
pub programs_told : TileLaw → SwitchLaw → (lines : List (List (List ℕ))) (set : ProgramSet) → IsMeaning lines set → ArePrograms lines set
programs_told tiles switches lines set is =
    subst (ArePrograms lines) (sym is.set_is) (record { tiles = tile_gives tiles switches lines is.faultless; switches = switch_gives tiles switches lines is.faultless })
