-- What a set that is being built stands for, with one entry more, and what is wrong with that entry.
use Rattle.std.proofs.Common.{◌≡◌, ℕ, ◌+◌, ◌*◌, ◌<◌, ◌≤◌, Bool, true, false, not, ◌&&◌, ◌||◌, List, [], ◌∷◌, ◌++◌, length, Some, None, Result, Ok, Err, refl, sym, ap, ◌∙◌, subst, arith, leb, append-nil, length-append, ◌⊎◌, inl, inr}
use Rattle.std.specs.Prelude.{nat_lt, sum_by, slice_get, OnOk}
use Rattle.std.specs.Result.{IsErrAnd}
use Rattle.std.specs.List.{filter_map, cons_option}
use Rattle.std.specs.Option.{is_some}
use Rattle.std.proofs.lemmas.Bool.{lt-ltb, le-ltb, le-leb, lt-leb, and_from, and_left, and_right}
use Rattle.std.proofs.lemmas.Result.{err_from_is_err_and}
use Rattle.std.proofs.lemmas.List.Elements.{filter_map-append}
use Rattle.std.proofs.lemmas.List.Sums.{sum_by_push}
use Rattle.raw_model.specs.declared.limits.TheConstants.{MAX_DEPTH, MEMORY_SIZE, MAX_SHOWS, MAX_ALL_SHOWN}
use Rattle.raw_model.specs.Program.{memory_size}
use Rattle.raw_model.specs.declared.program.Show.{Show as Shown}
use Rattle.raw_grid.specs.declared.limits.TheConstants.{MAX_SIZE}
use Rattle.raw_set_text.specs.declared.kind.SetKind.{SetKind}
use Rattle.raw_set_text.specs.declared.kind.SetKind.TheVariants.{BadSize, OffGrid, Repeated, OverLimit}
use Rattle.raw_set_text.specs.declared.refused.LineRefusal.{LineRefusal}
use Rattle.raw_set_text.specs.declared.refused.LineRefusal.TheVariants.{Fault, Memory}
use Rattle.raw_set_text.specs.declared.declaration.Position.{Position}
use Rattle.raw_set_text.specs.declared.builder.Builder.{Builder}
use Rattle.raw_set_text.specs.Entry.{Entry}
use Rattle.raw_set_text.specs.Entry.Entry.{Grid, Limit, Depth, Show}
use Rattle.raw_set_text.specs.Entries.{columns_of, rows_of, topology_of, sizes_of, depths_of, shows_of, limit_in, depth_in, show_in}
use Rattle.raw_set_text.specs.Faults.{entry_fault, fault_if, due_word, tile_in, is_outside, is_bad_size, is_off_grid, is_off_edge, is_double_port, is_undeclared, is_over_limit, shows_in, shown_in, number_of_tile, is_within}
use Rattle.raw_set_text.specs.Answers.{Answers, late_fault, with_entry}
use Rattle.raw_set_text.specs.Building.{PortsStand, TilesStand}
use Rattle.raw_set_text.specs.Reading.{BuilderStands, Adds, IsNumbered}
use Rattle.raw_set_text.proofs.Building.PortsGiven.{filter_map_none, filter_map_some}
use Rattle.raw_set_text.proofs.Building.PortsFaults.{passed_on}
use Rattle.raw_set_text.proofs.Building.TilesLists.{some_head}
use Rattle.raw_set_text.proofs.Building.TilesNext.{columns_kept}

-- behind the grid and the limit no word is due
due_kept : (entries : List Entry) (entry : Entry) → due_word entries ≡ None → due_word (with_entry entries entry) ≡ None
due_kept [] entry e = cc
due_kept (first ∷ []) entry e = refl
due_kept (first ∷ second ∷ rest) entry e = refl

-- what is shown, with one entry more
shows_with : (entries : List Entry) (entry : Entry) → 0 < length (sizes_of entries) → shows_of (with_entry entries entry) ≡ shows_of entries ++ cons_option (show_in (columns_of entries) entry) []
shows_with entries entry sized =
    ap (λ c. filter_map (show_in c) (with_entry entries entry)) (columns_kept entries entry sized) ∙ filter_map-append (show_in (columns_of entries)) entries (entry ∷ [])

shows_same : (entries : List Entry) (entry : Entry) → 0 < length (sizes_of entries) → show_in (columns_of entries) entry ≡ None → shows_of (with_entry entries entry) ≡ shows_of entries
shows_same entries entry sized none =
    shows_with entries entry sized ∙ ap (λ o. shows_of entries ++ cons_option o []) none ∙ append-nil (shows_of entries)

-- a total with one entry more
total_with : (adds : Entry → ℕ) (entries : List Entry) (entry : Entry) (total new : ℕ) → total ≡ sum_by adds entries → new ≡ total + adds entry → new ≡ sum_by adds (with_entry entries entry)
total_with adds entries entry total new before e = omega (arith, sum_by_push adds entries entry, before, e)

-- the numbers of a builder that stay the same
pub record IsSame (old new : Builder) : Type 0 where
  pub limit : new.limit ≡ old.limit
  pub depth : new.depth ≡ old.depth
  pub shows : new.shows.items ≡ old.shows.items
  pub shown : new.shown ≡ old.shown

-- an entry that is no limit, no depth and no `show`
pub record IsPlain (entry : Entry) : Type 0 where
  pub limit : limit_in entry ≡ None
  pub depth : depth_in entry ≡ None
  pub show : (columns : ℕ) → show_in columns entry ≡ None
  pub count : shows_in entry ≡ 0
  pub shown : shown_in entry ≡ 0

pub plain_next : (old new : Builder) (entries : List Entry) (entry : Entry) → BuilderStands old entries → PortsStand new.ports (with_entry entries entry) → TilesStand new.tiles (with_entry entries entry) → IsPlain entry → IsSame old new → BuilderStands new (with_entry entries entry)
plain_next old new entries entry stands ports tiles plain same = record {
  begun = due_kept entries entry stands.begun;
  ports = ports;
  tiles = tiles;
  limit = filter_map_none limit_in entries entry plain.limit ∙ stands.limit ∙ ap (λ n. n ∷ []) (sym same.limit);
  depth = ap (λ depths. slice_get depths 0) (filter_map_none depth_in entries entry plain.depth) ∙ stands.depth ∙ sym same.depth;
  shows = same.shows ∙ stands.shows ∙ sym (shows_same entries entry stands.ports.sized (plain.show (columns_of entries)));
  count = total_with shows_in entries entry _ _ stands.count (omega (arith, ap (λ (xs : List Shown). length xs) same.shows, plain.count));
  shown = total_with shown_in entries entry _ _ stands.shown (omega (arith, same.shown, plain.shown));
}

-- a depth where there was none
pub depth_next : (old new : Builder) (entries : List Entry) (depth : ℕ) → BuilderStands old entries → PortsStand new.ports (with_entry entries (Depth depth)) → TilesStand new.tiles (with_entry entries (Depth depth)) → old.depth ≡ None → new.depth ≡ Some depth → new.limit ≡ old.limit → new.shows.items ≡ old.shows.items → new.shown ≡ old.shown → BuilderStands new (with_entry entries (Depth depth))
depth_next old new entries depth stands ports tiles none some limit shows shown = record {
  begun = due_kept entries (Depth depth) stands.begun;
  ports = ports;
  tiles = tiles;
  limit = filter_map_none limit_in entries (Depth depth) refl ∙ stands.limit ∙ ap (λ n. n ∷ []) (sym limit);
  depth = ap (λ depths. slice_get depths 0) (filter_map_some depth_in entries (Depth depth) depth refl ∙ ap (λ depths. depths ++ depth ∷ []) (no_depths (depths_of entries) (stands.depth ∙ none))) ∙ sym some;
  shows = shows ∙ stands.shows ∙ sym (shows_same entries (Depth depth) stands.ports.sized refl);
  count = total_with shows_in entries (Depth depth) _ _ stands.count (omega (arith, ap (λ (xs : List Shown). length xs) shows));
  shown = total_with shown_in entries (Depth depth) _ _ stands.shown (omega (arith, shown));
}
  where
    no_depths : (depths : List ℕ) → slice_get depths 0 ≡ None → depths ≡ []
    no_depths [] e = refl
    no_depths (d ∷ ds) e = cc

-- one more `show`
pub show_next : (old new : Builder) (entries : List Entry) (tile : Position) (address words : ℕ) (number : ℕ) → BuilderStands old entries → PortsStand new.ports (with_entry entries (Show tile address words)) → TilesStand new.tiles (with_entry entries (Show tile address words)) → number ≡ number_of_tile entries tile → new.shows.items ≡ old.shows.items ++ (record { tile = number; address = address; words = words }) ∷ [] → new.limit ≡ old.limit → new.depth ≡ old.depth → new.shown ≡ old.shown + words → BuilderStands new (with_entry entries (Show tile address words))
show_next old new entries tile address words number stands ports tiles numbered shows limit depth shown =
    let entry = Show tile address words in
    let one : ℕ → List Shown = λ n. (record { tile = n; address = address; words = words }) ∷ [] in
    record {
      begun = due_kept entries entry stands.begun;
      ports = ports;
      tiles = tiles;
      limit = filter_map_none limit_in entries entry refl ∙ stands.limit ∙ ap (λ n. n ∷ []) (sym limit);
      depth = ap (λ depths. slice_get depths 0) (filter_map_none depth_in entries entry refl) ∙ stands.depth ∙ sym depth;
      shows = shows ∙ ap (λ n. old.shows.items ++ one n) numbered ∙ ap (λ xs. xs ++ one (number_of_tile entries tile)) stands.shows ∙ sym (shows_with entries entry stands.ports.sized);
      count = total_with shows_in entries entry _ _ stands.count (ap (λ (xs : List Shown). length xs) shows ∙ length_push old.shows.items (one number));
      shown = total_with shown_in entries entry _ _ stands.shown shown;
    }
  where
    length_push : (xs ys : List Shown) → length (xs ++ ys) ≡ length xs + length ys
    length_push xs ys = length-append xs ys

-- the columns and the rows of the built grid
pub columns_stand : (builder : Builder) (entries : List Entry) → BuilderStands builder entries → builder.ports.topo.cols ≡ columns_of entries
unfolding topology_of
columns_stand builder entries stands = ap (λ topo. topo.cols) stands.ports.topo

pub rows_stand : (builder : Builder) (entries : List Entry) → BuilderStands builder entries → builder.ports.topo.rows ≡ rows_of entries
unfolding topology_of
rows_stand builder entries stands = ap (λ topo. topo.rows) stands.ports.topo

-- an entry of a tile of the grid
pub there_fault : (entries : List Entry) (entry : Entry) → is_bad_size entry ≡ false → is_off_grid entries entry ≡ false → is_off_edge entries entry ≡ false → is_double_port entries entry ≡ false → is_undeclared entries entry ≡ false → entry_fault entries entry ≡ late_fault entries entry
unfolding entry_fault
there_fault entries entry sized there edge double declared = rw (sized, there, edge, double, declared)

-- and of a tile that the grid lacks
off_fault : (entries : List Entry) (entry : Entry) → is_bad_size entry ≡ false → is_off_grid entries entry ≡ true → entry_fault entries entry ≡ Some OffGrid
unfolding entry_fault
off_fault entries entry sized off = rw (sized, off)

-- what the exit of a `?` on the number of a tile returns
pub off_answers : {T : Type 0} (entries : List Entry) (entry : Entry) (tile : Position) (r : Result T LineRefusal) (refusal : LineRefusal) → is_bad_size entry ≡ false → tile_in entry ≡ Some tile → IsErrAnd r (λ given. given ≡ refusal) → IsNumbered entries tile (Err refusal) → Answers r (entry_fault entries entry)
off_answers entries entry tile r refusal sized of_tile gives numbered = passed_on r refusal (entry_fault entries entry) gives (answer refusal numbered)
  where
    answer : (refusal : LineRefusal) → IsNumbered entries tile (Err refusal) → Answers {T = Unit {0}} (Err refusal) (entry_fault entries entry)
    answer (Fault kind) h = off_fault entries entry sized (ap (is_outside (columns_of entries) (rows_of entries)) of_tile ∙ h.0) ∙ ap (λ k. Some k) (sym h.1)
    answer Memory h = tt

-- a call that failed has nothing to stand for
pub fails_ok : {T : Type 0} (r : Result T LineRefusal) (P : Type 0) (refusal : LineRefusal) → IsErrAnd r (λ given. given ≡ refusal) → OnOk r P
fails_ok r P refusal gives = let p = err_from_is_err_and r gives in rw p.1 tt

pub off_adds : {T : Type 0} (builder : Builder) (entry : Entry) (tile : Position) (r : Result T LineRefusal) (refusal : LineRefusal) → is_bad_size entry ≡ false → tile_in entry ≡ Some tile → IsErrAnd r (λ given. given ≡ refusal) → ((entries : List Entry) → BuilderStands builder entries → IsNumbered entries tile (Err refusal)) → Adds builder builder r entry
off_adds builder entry tile r refusal sized of_tile gives numbered = record {
  fault = λ entries stands. off_answers entries entry tile r refusal sized of_tile gives (numbered entries stands);
  stands = λ entries stands. fails_ok r _ refusal gives;
}

-- a refusal with a fault that the entry has
pub refused_adds : (old new : Builder) (entry : Entry) (kind : SetKind) → ((entries : List Entry) → BuilderStands old entries → entry_fault entries entry ≡ Some kind) → Adds {T = Unit {0}} old new (Err (Fault kind)) entry
refused_adds old new entry kind fault = record {
  fault = fault;
  stands = λ entries stands. tt;
}

-- what stands after a call that succeeded
pub on_ok_map : {T : Type 0} {P Q : Type 0} (r : Result T LineRefusal) → OnOk r P → (P → Q) → OnOk r Q
on_ok_map (Ok t) h f = f h
on_ok_map (Err e) h f = tt

-- a column or a row past the grid
pub past_columns : (columns rows : ℕ) (tile : Position) → columns ≤ tile.x → is_outside columns rows (Some tile) ≡ true
past_columns columns rows tile h = ap (λ b. not (b && nat_lt tile.y rows)) (le-ltb tile.x columns h)

pub past_rows : (columns rows : ℕ) (tile : Position) → rows ≤ tile.y → is_outside columns rows (Some tile) ≡ true
past_rows columns rows tile h = ap (λ b. not (nat_lt tile.x columns && b)) (le-ltb tile.y rows h) ∙ ap not (and_right (nat_lt tile.x columns) false refl)

-- the number of a tile of the built grid is the one that entries say
pub tile_numbered : (builder : Builder) (entries : List Entry) (tile : Position) (columns rows : ℕ) → BuilderStands builder entries → columns ≡ builder.ports.topo.cols → rows ≡ builder.ports.topo.rows → tile.x < columns → tile.y < rows → IsNumbered entries tile (Ok (tile.y * columns + tile.x))
tile_numbered builder entries tile columns rows stands wide high x y =
    let is_wide = wide ∙ columns_stand builder entries stands in
    let is_high = high ∙ rows_stand builder entries stands in
    (ap (λ b. not (b && nat_lt tile.y (rows_of entries))) (lt-ltb tile.x (columns_of entries) (subst (λ c. tile.x < c) is_wide x)) ∙ ap not (lt-ltb tile.y (rows_of entries) (subst (λ r. tile.y < r) is_high y)), ap (λ c. tile.y * c + tile.x) is_wide)

pub tile_off : (builder : Builder) (entries : List Entry) (tile : Position) (columns rows : ℕ) → BuilderStands builder entries → columns ≡ builder.ports.topo.cols → rows ≡ builder.ports.topo.rows → (columns ≤ tile.x) ⊎ (rows ≤ tile.y) → is_outside (columns_of entries) (rows_of entries) (Some tile) ≡ true
tile_off builder entries tile columns rows stands wide high (inl x) = past_columns _ (rows_of entries) tile (subst (λ c. c ≤ tile.x) (wide ∙ columns_stand builder entries stands) x)
tile_off builder entries tile columns rows stands wide high (inr y) = past_rows (columns_of entries) _ tile (subst (λ r. r ≤ tile.y) (high ∙ rows_stand builder entries stands) y)

-- a number that is within two others, and one that is not
pub within_both : (least most n : ℕ) → least ≤ n → n ≤ most → is_within least most n ≡ true
within_both least most n low high = and_from _ _ (le-leb least n low) (le-leb n most high)

pub not_within : (least most n : ℕ) → (n < least) ⊎ (most < n) → is_within least most n ≡ false
not_within least most n (inl low) = ap (λ b. b && leb n most) (lt-leb least n low)
not_within least most n (inr high) = ap (λ b. leb least n && b) (lt-leb n most high) ∙ and_right (leb least n) false refl

-- the faults of a depth
pub depth_fault : (builder : Builder) (entries : List Entry) (depth : ℕ) → BuilderStands builder entries → entry_fault entries (Depth depth) ≡ fault_if (is_some builder.depth) Repeated (fault_if (not (is_within 1 MAX_DEPTH depth)) OverLimit None)
depth_fault builder entries depth stands =
    there_fault entries (Depth depth) refl refl refl refl refl
    ∙ ap (λ b. fault_if b Repeated (fault_if (not (is_within 1 MAX_DEPTH depth)) OverLimit None)) (sym (some_head (depths_of entries)) ∙ ap is_some stands.depth)

-- a second limit
pub limit_fault : (builder : Builder) (entries : List Entry) (n : ℕ) → BuilderStands builder entries → entry_fault entries (Limit n) ≡ Some Repeated
limit_fault builder entries n stands =
    there_fault entries (Limit n) refl refl refl refl refl
    ∙ ap (λ (limits : List ℕ). fault_if (nat_lt 0 (length limits)) Repeated (fault_if (is_over_limit entries (Limit n)) OverLimit None)) stands.limit

-- a second grid
pub grid_fault : (entries : List Entry) (columns rows : ℕ) → 0 < length (sizes_of entries) → entry_fault entries (Grid columns rows) ≡ fault_if (not (is_within 1 MAX_SIZE columns && is_within 1 MAX_SIZE rows)) BadSize (Some Repeated)
unfolding entry_fault
grid_fault entries columns rows some =
    ap (λ b. fault_if (not (is_within 1 MAX_SIZE columns && is_within 1 MAX_SIZE rows)) BadSize (fault_if b Repeated None)) (lt-ltb 0 (length (sizes_of entries)) some)

-- two tests of which one fails
pub never_both : (a b : Bool) → (a ≡ false) ⊎ (b ≡ false) → (a && b) ≡ false
never_both a b (inl e) = and_left a b e
never_both a b (inr e) = and_right a b e

-- one of three tests, and none of them
pub any_three : (a b c : Bool) → (a ≡ true) ⊎ ((b ≡ true) ⊎ (c ≡ true)) → (a || b || c) ≡ true
any_three false false false (inl e) = cc
any_three false false false (inr (inl e)) = cc
any_three false false false (inr (inr e)) = cc
any_three a b c h = refl

pub none_three : (a b c : Bool) → a ≡ false → b ≡ false → c ≡ false → (a || b || c) ≡ false
none_three a b c e f g = rw (e, f, g)

-- a `show` is past the memory, or brings the shows or the shown words past their most
abbrev pub is_too_much : Builder → ℕ → ℕ → Bool
is_too_much builder address words = nat_lt MEMORY_SIZE (address + 4 * words) || nat_lt MAX_SHOWS (length builder.shows.items + 1) || nat_lt MAX_ALL_SHOWN (builder.shown + words)

-- the faults of a `show` of a tile of the grid
pub show_fault : (builder : Builder) (entries : List Entry) (tile : Position) (address words : ℕ) → BuilderStands builder entries → is_outside (columns_of entries) (rows_of entries) (Some tile) ≡ false → entry_fault entries (Show tile address words) ≡ fault_if (is_too_much builder address words) OverLimit None
unfolding memory_size
show_fault builder entries tile address words stands there =
    there_fault entries (Show tile address words) refl there refl refl refl
    ∙ ap (λ count. fault_if (nat_lt MEMORY_SIZE (address + 4 * words) || nat_lt MAX_SHOWS (count + 1) || nat_lt MAX_ALL_SHOWN (sum_by shown_in entries + words)) OverLimit None) (sym stands.count)
    ∙ ap (λ shown. fault_if (nat_lt MEMORY_SIZE (address + 4 * words) || nat_lt MAX_SHOWS (length builder.shows.items + 1) || nat_lt MAX_ALL_SHOWN (shown + words)) OverLimit None) (sym stands.shown)

pub too_much : (builder : Builder) (address words : ℕ) → (MEMORY_SIZE < address + 4 * words) ⊎ ((MAX_SHOWS < length builder.shows.items + 1) ⊎ (MAX_ALL_SHOWN < builder.shown + words)) → is_too_much builder address words ≡ true
too_much builder address words (inl h) = any_three (nat_lt MEMORY_SIZE (address + 4 * words)) (nat_lt MAX_SHOWS (length builder.shows.items + 1)) (nat_lt MAX_ALL_SHOWN (builder.shown + words)) (inl (lt-ltb MEMORY_SIZE (address + 4 * words) h))
too_much builder address words (inr (inl h)) = any_three (nat_lt MEMORY_SIZE (address + 4 * words)) (nat_lt MAX_SHOWS (length builder.shows.items + 1)) (nat_lt MAX_ALL_SHOWN (builder.shown + words)) (inr (inl (lt-ltb MAX_SHOWS (length builder.shows.items + 1) h)))
too_much builder address words (inr (inr h)) = any_three (nat_lt MEMORY_SIZE (address + 4 * words)) (nat_lt MAX_SHOWS (length builder.shows.items + 1)) (nat_lt MAX_ALL_SHOWN (builder.shown + words)) (inr (inr (lt-ltb MAX_ALL_SHOWN (builder.shown + words) h)))

pub not_too_much : (builder : Builder) (address words : ℕ) → address + 4 * words ≤ MEMORY_SIZE → length builder.shows.items + 1 ≤ MAX_SHOWS → builder.shown + words ≤ MAX_ALL_SHOWN → is_too_much builder address words ≡ false
not_too_much builder address words memory count shown = none_three (nat_lt MEMORY_SIZE (address + 4 * words)) (nat_lt MAX_SHOWS (length builder.shows.items + 1)) (nat_lt MAX_ALL_SHOWN (builder.shown + words)) (le-ltb MEMORY_SIZE _ memory) (le-ltb MAX_SHOWS _ count) (le-ltb MAX_ALL_SHOWN _ shown)
