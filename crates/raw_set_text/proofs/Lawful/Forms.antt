-- What the form of a line says of its entry.
use Rattle.std.proofs.Common.{◌≡◌, ℕ, ◌-◌, ◌≤◌, true, ltb, List, [], get_or, drop, Option, Some, None, refl, sym, ap, ◌∙◌, subst, arith}
use Rattle.std.specs.Prelude.{codes}
use Rattle.std.specs.List.{All}
use Rattle.std.proofs.lemmas.Bool.{and_parts, eqb-true, ltb-true}
use Rattle.std.proofs.lemmas.Option.{none-some, same_Some}
use Rattle.std.proofs.lemmas.List.Elements.{All-nil}
use Rattle.std.proofs.lemmas.Slice.Eq.{bytes_eq-Decides}
use Rattle.std.specs.Str.{bytes_eq}
use Rattle.raw_text.specs.Number.{number_of}
use Rattle.raw_text.proofs.NumberBounds.{number_small}
use Rattle.raw_tile_isa.specs.Instruction.{IsTileIns}
use Rattle.raw_switch_isa.specs.declared.limits.TheConstants.{MAX_SWITCH_CODE}
use Rattle.raw_switch_isa.specs.Instruction.{IsSwitchIns}
use Rattle.raw_tile_asm.specs.Lawful.{IsLawful as IsTileCode}
use Rattle.raw_switch_asm.specs.Statement.{are_wired}
use Rattle.raw_grid.specs.declared.parts.PortKind.TheVariants as kind
use Rattle.raw_set_text.specs.declared.word.Word.{Word}
use Rattle.raw_set_text.specs.declared.word.Word.TheVariants as word
use Rattle.raw_set_text.specs.Entry.{Entry, place_of}
use Rattle.raw_set_text.specs.Entry.Entry.{Grid, Limit, Depth, Port, Feed, Data, Misses, Show, Tile, Switch}
use Rattle.raw_set_text.specs.Entries.{topology_of}
use Rattle.raw_set_text.specs.Forms.{◌>>=◌, word_named, number_at, position_at, edge_in, numbers_of, grid_entry, limit_entry, depth_entry, source_entry, sink_entry, feed_entry, data_entry, misses_entry, show_entry, tile_entry, switch_entry, worded_entry, line_entry}
use Rattle.raw_set_text.specs.Sections.{wired_at}
use Rattle.raw_set_text.proofs.Lawful.Lists.{if_inv, all_filter_map}
use Rattle.raw_set_text.proofs.Lawful.Entries.{IsWord, Formed}

-- what is known where an option made of another has a value
pub bind_inv : {A B : Type 0} (o : Option A) (f : A → Option B) (y : B) → (o >>= f) ≡ Some y → (x : A) × (o ≡ Some x) × (f x ≡ Some y)
bind_inv None f y e = absurd (none-some y e)
bind_inv (Some x) f y e = (x, refl, e)

pub numbers_small : (tokens : List (List ℕ)) (ns : List ℕ) → numbers_of tokens ≡ Some ns → All IsWord ns
unfolding numbers_of
numbers_small tokens ns e =
    let found = if_inv _ _ ns e in
    subst (All IsWord) (same_Some _ ns found.1) (all_filter_map (λ (token : List ℕ). Unit {0}) IsWord number_of (λ token n _ f. number_small token n f) tokens (λ k d l. tt))

no_code : IsTileCode []
no_code = record { each = All-nil IsTileIns; few = omega arith }

none_few : 0 ≤ MAX_SWITCH_CODE
none_few = omega arith

not_source : kind.Sink ≡ kind.Source → ⊥
not_source e = cc e

some_words : (n : ℕ) → ltb 0 n ≡ true → 1 ≤ n
some_words n e = omega (arith, ltb-true 0 n e)

module _ (entries : List Entry) (operands : List (List ℕ)) (entry : Entry) where
  -- the entry is this one, which is formed
  is_formed : (other : Entry) → Some other ≡ Some entry → Formed entries other → Formed entries entry
  is_formed other e h = subst (Formed entries) (same_Some other entry e) h

  grid_formed : grid_entry operands ≡ Some entry → Formed entries entry
  unfolding grid_entry
  grid_formed e =
      let a = if_inv _ _ entry e in
      let b = bind_inv (number_at operands 0) _ entry a.1 in
      let c = bind_inv (number_at operands 1) _ entry b.2 in
      is_formed (Grid b.0 c.0) c.2 tt

  limit_formed : limit_entry operands ≡ Some entry → Formed entries entry
  unfolding limit_entry
  limit_formed e = let a = if_inv _ _ entry e in let b = bind_inv (number_at operands 0) _ entry a.1 in is_formed (Limit b.0) b.2 tt

  depth_formed : depth_entry operands ≡ Some entry → Formed entries entry
  unfolding depth_entry
  depth_formed e = let a = if_inv _ _ entry e in let b = bind_inv (number_at operands 0) _ entry a.1 in is_formed (Depth b.0) b.2 tt

  source_formed : source_entry operands ≡ Some entry → Formed entries entry
  unfolding source_entry
  source_formed e = let a = if_inv _ _ entry e in let b = bind_inv (edge_in operands) _ entry a.1 in is_formed (Port (place_of kind.Source b.0) 0) b.2 (λ _. refl)

  sink_formed : sink_entry operands ≡ Some entry → Formed entries entry
  unfolding sink_entry
  sink_formed e =
      let a = if_inv _ _ entry e in
      let b = bind_inv (edge_in operands) _ entry a.1 in
      let c = bind_inv (number_at operands 4) _ entry b.2 in
      is_formed (Port (place_of kind.Sink b.0) c.0) c.2 (λ is. absurd (not_source is))

  feed_formed : feed_entry operands ≡ Some entry → Formed entries entry
  unfolding feed_entry
  feed_formed e =
      let a = if_inv _ _ entry e in
      let b = bind_inv (edge_in operands) _ entry a.1 in
      let c = bind_inv (numbers_of (drop 4 operands)) _ entry b.2 in
      is_formed (Feed (place_of kind.Source b.0) c.0) c.2 (refl, numbers_small (drop 4 operands) c.0 c.1)

  data_formed : data_entry operands ≡ Some entry → Formed entries entry
  unfolding data_entry
  data_formed e =
      let a = if_inv _ _ entry e in
      let b = bind_inv (position_at operands 0) _ entry a.1 in
      let c = bind_inv (number_at operands 2) _ entry b.2 in
      let d = bind_inv (numbers_of (drop 3 operands)) _ entry c.2 in
      let f = if_inv _ _ entry d.2 in
      is_formed (Data b.0 c.0 d.0) f.1 (eqb-true _ 0 f.0, numbers_small (drop 3 operands) d.0 d.1)

  misses_formed : misses_entry operands ≡ Some entry → Formed entries entry
  unfolding misses_entry
  misses_formed e =
      let a = if_inv _ _ entry e in
      let b = bind_inv (position_at operands 0) _ entry a.1 in
      let c = bind_inv (numbers_of (drop 2 operands)) _ entry b.2 in
      is_formed (Misses b.0 c.0) c.2 tt

  show_formed : show_entry operands ≡ Some entry → Formed entries entry
  unfolding show_entry
  show_formed e =
      let a = if_inv _ _ entry e in
      let b = bind_inv (position_at operands 0) _ entry a.1 in
      let c = bind_inv (number_at operands 2) _ entry b.2 in
      let d = bind_inv (number_at operands 3) _ entry c.2 in
      let f = if_inv _ _ entry d.2 in
      let tests = and_parts _ _ f.0 in
      is_formed (Show b.0 c.0 d.0) f.1 (eqb-true _ 0 tests.0, some_words d.0 tests.1)

  tile_formed : tile_entry operands ≡ Some entry → Formed entries entry
  unfolding tile_entry
  tile_formed e =
      let a = if_inv _ _ entry e in
      let b = bind_inv (position_at operands 0) _ entry a.1 in
      is_formed (Tile b.0 []) b.2 no_code

  switch_formed : switch_entry operands ≡ Some entry → Formed entries entry
  unfolding switch_entry
  switch_formed e =
      let a = if_inv _ _ entry e in
      let b = bind_inv (position_at operands 0) _ entry a.1 in
      is_formed (Switch b.0 []) b.2 (record { each = All-nil IsSwitchIns; wired = All-nil (λ ins. are_wired (wired_at (topology_of entries) b.0) ins ≡ true); few = none_few })

  worded_formed : (w : Word) → worded_entry w operands ≡ Some entry → Formed entries entry
  worded_formed word.Grid e = grid_formed e
  worded_formed word.Limit e = limit_formed e
  worded_formed word.Depth e = depth_formed e
  worded_formed word.Source e = source_formed e
  worded_formed word.Sink e = sink_formed e
  worded_formed word.Feed e = feed_formed e
  worded_formed word.Data e = data_formed e
  worded_formed word.Misses e = misses_formed e
  worded_formed word.Show e = show_formed e
  worded_formed word.Tile e = tile_formed e
  worded_formed word.Switch e = switch_formed e

-- the entry of a line has the form that lines give
pub line_formed : (entries : List Entry) (line : List (List ℕ)) (entry : Entry) → line_entry line ≡ Some entry → Formed entries entry
unfolding line_entry
line_formed entries line entry e =
    let found = bind_inv (word_named (get_or line 0 [])) (λ w. worded_entry w (drop 1 line)) entry e in worded_formed entries (drop 1 line) entry found.0 found.2

-- a line that begins with `grid` declares the size
pub grid_line : (line : List (List ℕ)) (entry : Entry) → bytes_eq (get_or line 0 []) (codes "grid") ≡ true → line_entry line ≡ Some entry → (columns : ℕ) × (rows : ℕ) × (entry ≡ Grid columns rows)
unfolding line_entry word_named grid_entry
grid_line line entry e is =
    let named : word_named (get_or line 0 []) ≡ Some word.Grid = ap word_named ((bytes_eq-Decides (get_or line 0 []) (codes "grid")).0 e) in
    let operands = drop 1 line in
    let made : grid_entry operands ≡ Some entry = sym (ap (λ o. o >>= λ w. worded_entry w operands) named) ∙ is in
    let a = if_inv _ _ entry made in
    let b = bind_inv (number_at operands 0) _ entry a.1 in
    let c = bind_inv (number_at operands 1) _ entry b.2 in
    (b.0, c.0, sym (same_Some (Grid b.0 c.0) entry c.2))

-- a line that begins with `limit` declares the limit
pub limit_line : (line : List (List ℕ)) (entry : Entry) → bytes_eq (get_or line 0 []) (codes "limit") ≡ true → line_entry line ≡ Some entry → (limit : ℕ) × (entry ≡ Limit limit)
unfolding line_entry word_named limit_entry
limit_line line entry e is =
    let named : word_named (get_or line 0 []) ≡ Some word.Limit = ap word_named ((bytes_eq-Decides (get_or line 0 []) (codes "limit")).0 e) in
    let operands = drop 1 line in
    let made : limit_entry operands ≡ Some entry = sym (ap (λ o. o >>= λ w. worded_entry w operands) named) ∙ is in
    let a = if_inv _ _ entry made in
    let b = bind_inv (number_at operands 0) _ entry a.1 in
    (b.0, sym (same_Some (Limit b.0) entry b.2))

-- a line without tokens declares nothing
pub empty_line : line_entry [] ≡ None
unfolding line_entry word_named
empty_line = refl
