-- What begins a section.
use Rattle.std.proofs.Common.{◌≡◌, ◌≢◌, ℕ, ◌+◌, ◌==◌, Bool, true, false, cond, List, [], ◌∷◌, length, get_or, drop, Option, Some, None, codes, bytes_eq, find, refl, sym, ap, subst, ◌∙◌, arith, ⊎_elim, length-drop}
use Rattle.std.proofs.lemmas.Bool.{cases_Bool}
use Rattle.std.proofs.lemmas.Bool.Decides.{nat_tests}
use Rattle.std.proofs.lemmas.Option.{none-some, same_Some}
use Rattle.std.proofs.lemmas.Slice.Eq.{bytes_eq-Decides}
use Rattle.raw_set_text.specs.declared.word.Word.{Word}
use Rattle.raw_set_text.specs.declared.word.Word.TheVariants as word
use Rattle.raw_text.specs.Number.{number_of}
use Rattle.raw_grid.specs.declared.parts.PortKind.TheVariants as port
use Rattle.raw_set_text.specs.Entry.{Entry, place_of}
use Rattle.raw_set_text.specs.Entry.Entry.{Grid, Limit, Depth, Port, Feed, Data, Misses, Show, Tile, Switch}
use Rattle.raw_set_text.specs.Forms.{◌>>=◌, word_name, all_words, word_named, number_at, position_at, edge_in, numbers_of, grid_entry, limit_entry, depth_entry, source_entry, sink_entry, feed_entry, data_entry, misses_entry, show_entry, tile_entry, switch_entry, worded_entry, line_entry}
use Rattle.raw_set_text.specs.Sections.{is_section}
use Rattle.raw_set_text.proofs.Lawful.Lists.{if_inv}
use Rattle.raw_set_text.proofs.Lawful.Forms.{bind_inv}
use Rattle.raw_lines.specs.declared.kind.ProgramKind.{ProgramKind}
use Rattle.raw_lines.specs.declared.kind.ProgramKind.TheVariants as kind
use Rattle.raw_lines.specs.declared.section.ProgramSection.{ProgramSection}
use Rattle.raw_lines.specs.Sections.{kind_named, begun, begun_by}

none_begun : (place : ℕ) (entry : Option Entry) → is_section entry ≡ false → begun place entry ≡ None
none_begun place (Some (Tile tile code)) e = absurd (cc e)
none_begun place (Some (Switch tile code)) e = absurd (cc e)
none_begun place entry e = refl

-- the entry is one that begins no section
plain : (other entry : Entry) → Some other ≡ Some entry → is_section (Some other) ≡ false → is_section (Some entry) ≡ false
plain other entry e is = subst (λ (x : Entry). is_section (Some x) ≡ false) (same_Some other entry e) is

module _ (operands : List (List ℕ)) (entry : Entry) where
  grid_plain : grid_entry operands ≡ Some entry → is_section (Some entry) ≡ false
  unfolding grid_entry
  grid_plain e =
      let a = if_inv _ _ entry e in
      let b = bind_inv (number_at operands 0) _ entry a.1 in
      let c = bind_inv (number_at operands 1) _ entry b.2 in
      plain (Grid b.0 c.0) entry c.2 refl

  limit_plain : limit_entry operands ≡ Some entry → is_section (Some entry) ≡ false
  unfolding limit_entry
  limit_plain e = let a = if_inv _ _ entry e in let b = bind_inv (number_at operands 0) _ entry a.1 in plain (Limit b.0) entry b.2 refl

  depth_plain : depth_entry operands ≡ Some entry → is_section (Some entry) ≡ false
  unfolding depth_entry
  depth_plain e = let a = if_inv _ _ entry e in let b = bind_inv (number_at operands 0) _ entry a.1 in plain (Depth b.0) entry b.2 refl

  source_plain : source_entry operands ≡ Some entry → is_section (Some entry) ≡ false
  unfolding source_entry
  source_plain e = let a = if_inv _ _ entry e in let b = bind_inv (edge_in operands) _ entry a.1 in plain (Port (place_of port.Source b.0) 0) entry b.2 refl

  sink_plain : sink_entry operands ≡ Some entry → is_section (Some entry) ≡ false
  unfolding sink_entry
  sink_plain e =
      let a = if_inv _ _ entry e in
      let b = bind_inv (edge_in operands) _ entry a.1 in
      let c = bind_inv (number_at operands 4) _ entry b.2 in
      plain (Port (place_of port.Sink b.0) c.0) entry c.2 refl

  feed_plain : feed_entry operands ≡ Some entry → is_section (Some entry) ≡ false
  unfolding feed_entry
  feed_plain e =
      let a = if_inv _ _ entry e in
      let b = bind_inv (edge_in operands) _ entry a.1 in
      let c = bind_inv (numbers_of (drop 4 operands)) _ entry b.2 in
      plain (Feed (place_of port.Source b.0) c.0) entry c.2 refl

  data_plain : data_entry operands ≡ Some entry → is_section (Some entry) ≡ false
  unfolding data_entry
  data_plain e =
      let a = if_inv _ _ entry e in
      let b = bind_inv (position_at operands 0) _ entry a.1 in
      let c = bind_inv (number_at operands 2) _ entry b.2 in
      let d = bind_inv (numbers_of (drop 3 operands)) _ entry c.2 in
      let f = if_inv _ _ entry d.2 in
      plain (Data b.0 c.0 d.0) entry f.1 refl

  misses_plain : misses_entry operands ≡ Some entry → is_section (Some entry) ≡ false
  unfolding misses_entry
  misses_plain e =
      let a = if_inv _ _ entry e in
      let b = bind_inv (position_at operands 0) _ entry a.1 in
      let c = bind_inv (numbers_of (drop 2 operands)) _ entry b.2 in
      plain (Misses b.0 c.0) entry c.2 refl

  show_plain : show_entry operands ≡ Some entry → is_section (Some entry) ≡ false
  unfolding show_entry
  show_plain e =
      let a = if_inv _ _ entry e in
      let b = bind_inv (position_at operands 0) _ entry a.1 in
      let c = bind_inv (number_at operands 2) _ entry b.2 in
      let d = bind_inv (number_at operands 3) _ entry c.2 in
      let f = if_inv _ _ entry d.2 in
      plain (Show b.0 c.0 d.0) entry f.1 refl

-- an entry that is none of a section begins none
plain_begun : (place : ℕ) (said : Option Entry) → ((entry : Entry) → said ≡ Some entry → is_section (Some entry) ≡ false) → begun place said ≡ None
plain_begun place None is = refl
plain_begun place (Some entry) is = none_begun place (Some entry) (is entry refl)

found_passes : {X : Type 0} (test : X → Bool) (xs : List X) (x : X) → find test xs ≡ Some x → test x ≡ true
found_passes test [] x e = absurd (none-some x e)
found_passes test (y ∷ xs) x e = by (test y) refl e (found_passes test xs x)
  where
    by : (b : Bool) → test y ≡ b → cond b (Some y) (find test xs) ≡ Some x → (find test xs ≡ Some x → test x ≡ true) → test x ≡ true
    by true passes is rest = subst (λ z. test z ≡ true) (same_Some y x is) passes
    by false passes is rest = rest is

named_passes : (token : List ℕ) (w : Word) → word_named token ≡ Some w → bytes_eq token (word_name w) ≡ true
unfolding word_named
named_passes token w e = found_passes (λ x. bytes_eq token (word_name x)) all_words w e

tile_named : word_named (codes "tile") ≡ Some word.Tile
unfolding word_named
tile_named = refl

switch_named : word_named (codes "switch") ≡ Some word.Switch
unfolding word_named
switch_named = refl

module _ (place : ℕ) (token : List ℕ) (operands : List (List ℕ)) where
  other : bytes_eq token (codes "tile") ≡ false → bytes_eq token (codes "switch") ≡ false → (named : Option Word) → word_named token ≡ named
      → begun place (named >>= λ w. worded_entry w operands) ≡ None
  other no_tile no_switch None e = refl
  other no_tile no_switch (Some word.Tile) e = absurd (cc (no_tile, named_passes token word.Tile e))
  other no_tile no_switch (Some word.Switch) e = absurd (cc (no_switch, named_passes token word.Switch e))
  other no_tile no_switch (Some word.Grid) e = plain_begun place (grid_entry operands) (grid_plain operands)
  other no_tile no_switch (Some word.Limit) e = plain_begun place (limit_entry operands) (limit_plain operands)
  other no_tile no_switch (Some word.Depth) e = plain_begun place (depth_entry operands) (depth_plain operands)
  other no_tile no_switch (Some word.Source) e = plain_begun place (source_entry operands) (source_plain operands)
  other no_tile no_switch (Some word.Sink) e = plain_begun place (sink_entry operands) (sink_plain operands)
  other no_tile no_switch (Some word.Feed) e = plain_begun place (feed_entry operands) (feed_plain operands)
  other no_tile no_switch (Some word.Data) e = plain_begun place (data_entry operands) (data_plain operands)
  other no_tile no_switch (Some word.Misses) e = plain_begun place (misses_entry operands) (misses_plain operands)
  other no_tile no_switch (Some word.Show) e = plain_begun place (show_entry operands) (show_plain operands)

  by_word : begun place (word_named token >>= λ w. worded_entry w operands) ≡ begun_by place (kind_named token) operands
  by_word =
      ⊎_elim {C = begun place (word_named token >>= λ w. worded_entry w operands) ≡ begun_by place (kind_named token) operands}
      (λ (tile : bytes_eq token (codes "tile") ≡ true).
      let is : token ≡ codes "tile" = (bytes_eq-Decides token (codes "tile")).0 tile in
      rw (is, tile_named) refl)
      (λ (no_tile : bytes_eq token (codes "tile") ≡ false).
      ⊎_elim {C = begun place (word_named token >>= λ w. worded_entry w operands) ≡ begun_by place (kind_named token) operands}
      (λ (switch : bytes_eq token (codes "switch") ≡ true).
      let is : token ≡ codes "switch" = (bytes_eq-Decides token (codes "switch")).0 switch in
      rw (is, switch_named) refl)
      (λ (no_switch : bytes_eq token (codes "switch") ≡ false).
      let none : kind_named token ≡ None = rw (no_tile, no_switch) refl in
      other no_tile no_switch (word_named token) refl ∙ sym (ap (λ k. begun_by place k operands) none))
      (cases_Bool (bytes_eq token (codes "switch"))))
      (cases_Bool (bytes_eq token (codes "tile")))

-- the section that a line begins, by its first word and the others
pub begun_is : (place : ℕ) (line : List (List ℕ)) → begun place (line_entry line) ≡ begun_by place (kind_named (get_or line 0 [])) (drop 1 line)
unfolding line_entry
begun_is place line = by_word place (get_or line 0 []) (drop 1 line)

-- a head has two operands
none_but_two : (place : ℕ) (named : Option ProgramKind) (operands : List (List ℕ)) → (length operands == 2) ≡ false → begun_by place named operands ≡ None
unfolding tile_entry switch_entry
none_but_two place (Some kind.Tile) operands e = rw e refl
none_but_two place (Some kind.Switch) operands e = rw e refl
none_but_two place None operands e = refl

-- a line that has not three tokens begins none
pub none_but_three : (place : ℕ) (line : List (List ℕ)) → length line ≢ 3 → None ≡ begun place (line_entry line)
none_but_three place line other =
    let long = length-drop 1 line in
    let two : (length (drop 1 line) == 2) ≡ false = grind (arith, nat_tests) in
    sym (begun_is place line ∙ none_but_two place (kind_named (get_or line 0 [])) (drop 1 line) two)

-- the section of a head with two operands, by the numbers that they are
abbrev pub made : ℕ → ProgramKind → Option ℕ → Option ℕ → Option ProgramSection
made place kind (Some x) (Some y) = Some (record { kind = kind; tile = record { x = x; y = y }; from = place + 1; to = place + 1 })
made place kind x y = None

pub head_made : (place : ℕ) (kind : ProgramKind) (operands : List (List ℕ)) → length operands ≡ 2 → (x y : Option ℕ) → number_of (get_or operands 0 []) ≡ x → number_of (get_or operands 1 []) ≡ y
    → begun_by place (Some kind) operands ≡ made place kind x y
unfolding tile_entry switch_entry position_at number_at
head_made place kind.Tile operands two None y ex ey = rw (two, ex) refl
head_made place kind.Tile operands two (Some x) None ex ey = rw (two, ex, ey) refl
head_made place kind.Tile operands two (Some x) (Some y) ex ey = rw (two, ex, ey) refl
head_made place kind.Switch operands two None y ex ey = rw (two, ex) refl
head_made place kind.Switch operands two (Some x) None ex ey = rw (two, ex, ey) refl
head_made place kind.Switch operands two (Some x) (Some y) ex ey = rw (two, ex, ey) refl
