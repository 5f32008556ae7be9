-- The tiles of an image: what is read is what is written.
use Rattle.std.proofs.Common.{◌≡◌, ◌⊎◌, ℕ, zero, suc, ◌+◌, ◌^◌, ◌<◌, ◌≤◌, true, List, [], ◌∷◌, ◌++◌, length, Some, Result, Ok, Err, refl, sym, ap, subst, ◌∙◌, append_assoc, arith, ⊎_elim, inl, inr, sum_by, min}
use Rattle.std.specs.Prelude.{slice_get}
use Rattle.std.specs.List.{All, AllPairs, flat_map}
use Rattle.std.proofs.lemmas.Option.{same_Some, none-some}
use Rattle.std.proofs.lemmas.List.Elements.{All-nil, All-push, All-weaker}
use Rattle.std.proofs.lemmas.List.Sums.{sum_by_push}
use Rattle.raw_tile_isa.specs.Instruction.{Instruction, IsTileIns}
use Rattle.raw_tile_isa.specs.declared.limits.TheConstants.{MAX_TILE_CODE}
use Rattle.raw_switch_isa.specs.Instruction.{SwitchInstruction, IsSwitchIns}
use Rattle.raw_switch_isa.specs.declared.limits.TheConstants.{MAX_SWITCH_CODE}
use Rattle.raw_grid.specs.Topology.{Topology, tile_count}
use Rattle.raw_model.specs.declared.limits.TheConstants.{MEMORY_WORDS, MAX_ALL_CODE, MAX_ALL_SWITCH_CODE, MAX_ALL_CELLS, MAX_ALL_MISSES}
use Rattle.raw_model.specs.declared.program.DataWord.{DataWord}
use Rattle.raw_model.specs.Program.{TileProgram, IsTileProgram, IsDataWord, HaveWires, has_wires}
use Rattle.raw_image.specs.declared.refused.Fault.{Fault}
use Rattle.raw_image.specs.declared.tiles.Room.{Room}
use Rattle.raw_image.specs.declared.version.Version.{Version}
use Rattle.raw_image.specs.declared.version.Version.TheVariants as version
use Rattle.raw_image.specs.Fields.{◌>>=◌, list_at}
use Rattle.raw_image.specs.Image.{number, instruction_bytes, switch_bytes, cell_bytes, misses_bytes, tile_bytes}
use Rattle.raw_image.specs.Reading.{count_at, code_at, switch_at, cells_at, misses_at, tile_at, tiles_at, room_behind}
use Rattle.raw_image.proofs.Bytes.{IsBytes, Takes, Takes-none, Takes-as, Sound, step, number_sound, number_again}
use Rattle.raw_image.proofs.Repeats.{list_sound, list_again}
use Rattle.raw_image.proofs.Seams.{all_seam, sum_seam, each_within}
use Rattle.raw_image.proofs.ProgramLaws.{IsWiredIns, AreCells, AreMisses, code_sound, code_again, switch_sound, switch_again, cells_sound, cells_again, few_cells, misses_sound, misses_again}
use Rattle.raw_image.proofs.Promises.{Promises}

-- what a tile may be given where so much room is left
pub record IsTileIn (v : Version) (topo : Topology) (p : ℕ) (room : Room) (tile : TileProgram) : Type 0 where
  pub code : All IsTileIns tile.code
  pub few : length tile.code ≤ min MAX_TILE_CODE room.code
  pub switch : All (IsWiredIns topo p) tile.switch
  pub few_switch : length tile.switch ≤ min MAX_SWITCH_CODE room.switch
  pub cells : All IsDataWord tile.cells
  pub rising : AllPairs (λ (a b : DataWord). a.address < b.address) tile.cells
  pub few_cells : length tile.cells ≤ min MEMORY_WORDS room.cells
  pub misses : AreMisses v room.misses tile.misses

seven : (a b c d e f g : List ℕ) → (((((a ++ b) ++ c) ++ d) ++ e) ++ f) ++ g ≡ (a ++ b) ++ ((c ++ d) ++ ((e ++ f) ++ g))
seven a b c d e f g = simp append_assoc

apart : (a b c d e f g r : List ℕ) → ((a ++ b) ++ ((c ++ d) ++ ((e ++ f) ++ g))) ++ r ≡ a ++ (b ++ (c ++ (d ++ (e ++ (f ++ (g ++ r))))))
apart a b c d e f g r = simp append_assoc

-- the bytes of a tile, by the numbers of its lists
tile_text : (v : Version) (n m k : ℕ) (code : List Instruction) (switch : List SwitchInstruction) (cells : List DataWord) (misses : List ℕ) → length code ≡ n → length switch ≡ m → length cells ≡ k
    → (((((number n ++ flat_map instruction_bytes code) ++ number m) ++ flat_map switch_bytes switch) ++ number k) ++ flat_map cell_bytes cells) ++ misses_bytes v misses ≡ tile_bytes v (record { code = code; switch = switch; cells = cells; misses = misses })
tile_text v n m k code switch cells misses a b c =
    seven (number n) (flat_map instruction_bytes code) (number m) (flat_map switch_bytes switch) (number k) (flat_map cell_bytes cells) (misses_bytes v misses)
    ∙ ap (λ i. (number i ++ flat_map instruction_bytes code) ++ ((number m ++ flat_map switch_bytes switch) ++ ((number k ++ flat_map cell_bytes cells) ++ misses_bytes v misses))) (sym a)
    ∙ ap (λ i. (number (length code) ++ flat_map instruction_bytes code) ++ ((number i ++ flat_map switch_bytes switch) ++ ((number k ++ flat_map cell_bytes cells) ++ misses_bytes v misses))) (sym b)
    ∙ ap (λ i. (number (length code) ++ flat_map instruction_bytes code) ++ ((number (length switch) ++ flat_map switch_bytes switch) ++ ((number i ++ flat_map cell_bytes cells) ++ misses_bytes v misses))) (sym c)

tile_sound : Promises → (v : Version) (topo : Topology) (p : ℕ) (room : Room) (bytes : List ℕ) → IsBytes bytes → Sound bytes (tile_bytes v) (IsTileIn v topo p room) (tile_at v topo p room bytes)
unfolding tile_at
tile_sound promised v topo p room bytes fits =
    let P : TileProgram → List ℕ → Type 0 = λ tile rest. Takes bytes (tile_bytes v tile) rest × IsTileIn v topo p room tile in
    step bytes [] bytes number (λ n. (0 ≤ n) × (n ≤ min MAX_TILE_CODE room.code)) P _ _ (Takes-none bytes fits) (number_sound 0 (min MAX_TILE_CODE room.code) bytes fits) (λ n r1 t1 a.
    step bytes (number n) r1 (flat_map instruction_bytes) (λ xs. (length xs ≡ n) × All IsTileIns xs) P _ _ t1 (code_sound promised n r1 t1.rest_fits) (λ code r2 t2 b.
    step bytes (number n ++ flat_map instruction_bytes code) r2 number (λ m. (0 ≤ m) × (m ≤ min MAX_SWITCH_CODE room.switch)) P _ _ t2 (number_sound 0 (min MAX_SWITCH_CODE room.switch) r2 t2.rest_fits) (λ m r3 t3 c.
    step bytes ((number n ++ flat_map instruction_bytes code) ++ number m) r3 (flat_map switch_bytes) (λ xs. (length xs ≡ m) × All (IsWiredIns topo p) xs) P _ _ t3 (switch_sound topo p m r3 t3.rest_fits) (λ switch r4 t4 d.
    step bytes (((number n ++ flat_map instruction_bytes code) ++ number m) ++ flat_map switch_bytes switch) r4 number (λ k. (0 ≤ k) × (k ≤ min MEMORY_WORDS room.cells)) P _ _ t4 (number_sound 0 (min MEMORY_WORDS room.cells) r4 t4.rest_fits) (λ k r5 t5 e.
    step bytes ((((number n ++ flat_map instruction_bytes code) ++ number m) ++ flat_map switch_bytes switch) ++ number k) r5 (flat_map cell_bytes) (λ xs. (length xs ≡ k) × AreCells xs) P _ _ t5 (cells_sound k r5 t5.rest_fits) (λ cells r6 t6 f.
    step bytes (((((number n ++ flat_map instruction_bytes code) ++ number m) ++ flat_map switch_bytes switch) ++ number k) ++ flat_map cell_bytes cells) r6 (misses_bytes v) (AreMisses v room.misses) P _ _ t6 (misses_sound v room.misses r6 t6.rest_fits) (λ misses r7 t7 g. (
      Takes-as bytes _ (tile_bytes v (record { code = code; switch = switch; cells = cells; misses = misses })) r7 (tile_text v n m k code switch cells misses b.0 d.0 f.0) t7,
      record {
        code = b.1;
        few = omega (arith, a.1, b.0);
        switch = d.1;
        few_switch = omega (arith, c.1, d.0);
        cells = f.1.each;
        rising = f.1.rising;
        few_cells = omega (arith, e.1, f.0);
        misses = g;
      },
    ))))))))

abbrev made : List Instruction → List SwitchInstruction → List DataWord → List ℕ → TileProgram
made code switch cells misses = record { code = code; switch = switch; cells = cells; misses = misses }

tile_again : Promises → (v : Version) (topo : Topology) (p : ℕ) (room : Room) (tile : TileProgram) (rest : List ℕ) → room.misses < 2 ^ 32 → IsTileIn v topo p room tile → tile_at v topo p room (tile_bytes v tile ++ rest) ≡ Ok (tile, rest)
unfolding tile_at
tile_again promised v topo p room tile rest small h =
    let m = misses_bytes v tile.misses ++ rest in
    let c = flat_map cell_bytes tile.cells ++ m in
    let nc = number (length tile.cells) ++ c in
    let s = flat_map switch_bytes tile.switch ++ nc in
    let ns = number (length tile.switch) ++ s in
    let i = flat_map instruction_bytes tile.code ++ ns in
    ap (tile_at v topo p room) (apart (number (length tile.code)) (flat_map instruction_bytes tile.code) (number (length tile.switch)) (flat_map switch_bytes tile.switch) (number (length tile.cells)) (flat_map cell_bytes tile.cells) (misses_bytes v tile.misses) rest)
    ∙ ap (λ r. r >>= λ size. code_at size.0 size.1 >>= λ code. count_at (min MAX_SWITCH_CODE room.switch) code.1 >>= λ switch_size. switch_at topo p switch_size.0 switch_size.1 >>= λ switch. count_at (min MEMORY_WORDS room.cells) switch.1 >>= λ count. cells_at count.0 count.1 >>= λ cells. misses_at v room.misses cells.1 >>= λ misses. Ok (made code.0 switch.0 cells.0 misses.0, misses.1))
    (number_again 0 (min MAX_TILE_CODE room.code) (length tile.code) i (omega (arith, h.few)) (omega arith) h.few)
    ∙ ap (λ r. r >>= λ code. count_at (min MAX_SWITCH_CODE room.switch) code.1 >>= λ switch_size. switch_at topo p switch_size.0 switch_size.1 >>= λ switch. count_at (min MEMORY_WORDS room.cells) switch.1 >>= λ count. cells_at count.0 count.1 >>= λ cells. misses_at v room.misses cells.1 >>= λ misses. Ok (made code.0 switch.0 cells.0 misses.0, misses.1))
    (code_again promised tile.code ns h.code)
    ∙ ap (λ r. r >>= λ switch_size. switch_at topo p switch_size.0 switch_size.1 >>= λ switch. count_at (min MEMORY_WORDS room.cells) switch.1 >>= λ count. cells_at count.0 count.1 >>= λ cells. misses_at v room.misses cells.1 >>= λ misses. Ok (made tile.code switch.0 cells.0 misses.0, misses.1))
    (number_again 0 (min MAX_SWITCH_CODE room.switch) (length tile.switch) s (omega (arith, h.few_switch)) (omega arith) h.few_switch)
    ∙ ap (λ r. r >>= λ switch. count_at (min MEMORY_WORDS room.cells) switch.1 >>= λ count. cells_at count.0 count.1 >>= λ cells. misses_at v room.misses cells.1 >>= λ misses. Ok (made tile.code switch.0 cells.0 misses.0, misses.1))
    (switch_again topo p tile.switch nc h.switch)
    ∙ ap (λ r. r >>= λ count. cells_at count.0 count.1 >>= λ cells. misses_at v room.misses cells.1 >>= λ misses. Ok (made tile.code tile.switch cells.0 misses.0, misses.1))
    (number_again 0 (min MEMORY_WORDS room.cells) (length tile.cells) c (omega (arith, h.few_cells)) (omega arith) h.few_cells)
    ∙ ap (λ r. r >>= λ cells. misses_at v room.misses cells.1 >>= λ misses. Ok (made tile.code tile.switch cells.0 misses.0, misses.1))
    (cells_again tile.cells m h.cells h.rising)
    ∙ ap (λ r. r >>= λ misses. Ok (made tile.code tile.switch tile.cells misses.0, misses.1))
    (misses_again v room.misses tile.misses rest small h.misses)

-- ---- all tiles

-- what the tiles of a grid are given
pub record AreTiles (v : Version) (topo : Topology) (tiles : List TileProgram) : Type 0 where
  pub each : All IsTileProgram tiles
  pub wires : HaveWires topo tiles
  pub held : v ≡ version.One → All (λ (tile : TileProgram). tile.misses ≡ []) tiles
  pub code : sum_by (λ (tile : TileProgram). length tile.code) tiles ≤ MAX_ALL_CODE
  pub switch : sum_by (λ (tile : TileProgram). length tile.switch) tiles ≤ MAX_ALL_SWITCH_CODE
  pub cells : sum_by (λ (tile : TileProgram). length tile.cells) tiles ≤ MAX_ALL_CELLS
  pub misses : sum_by (λ (tile : TileProgram). length tile.misses) tiles ≤ MAX_ALL_MISSES

no_tiles : (v : Version) (topo : Topology) → AreTiles v topo []
no_tiles v topo = record {
  each = All-nil IsTileProgram;
  wires = λ t tile e. absurd (none-some tile e);
  held = λ e. All-nil (λ (tile : TileProgram). tile.misses ≡ []);
  code = omega arith;
  switch = omega arith;
  cells = omega arith;
  misses = omega arith;
}

-- an element of a list with one more
pub got : {A : Type 0} (xs : List A) (x : A) (t : ℕ) (y : A) → slice_get (xs ++ x ∷ []) t ≡ Some y → (slice_get xs t ≡ Some y) ⊎ ((t ≡ length xs) × (x ≡ y))
got [] x zero y e = inr (refl, same_Some x y e)
got [] x (suc t) y e = absurd (none-some y e)
got (z ∷ xs) x zero y e = inl e
got (z ∷ xs) x (suc t) y e = ⊎_elim (λ (h : slice_get xs t ≡ Some y). inl h) (λ (h : (t ≡ length xs) × (x ≡ y)). inr (ap suc h.0, h.1)) (got xs x t y e)

pub got_seam : {A : Type 0} (before : List A) (x : A) (after : List A) → slice_get (before ++ (x ∷ after)) (length before) ≡ Some x
got_seam [] x after = refl
got_seam (b ∷ before) x after = got_seam before x after

more_tiles : (v : Version) (topo : Topology) (tiles : List TileProgram) (tile : TileProgram) → AreTiles v topo tiles → IsTileIn v topo (tile_count topo + length tiles) (room_behind tiles) tile → AreTiles v topo (tiles ++ tile ∷ [])
more_tiles v topo tiles tile h t = record {
  each = All-push IsTileProgram tiles tile h.each (record {
    instructions = t.code;
    few = omega (arith, t.few);
    switch_instructions = All-weaker (IsWiredIns topo (tile_count topo + length tiles)) IsSwitchIns (λ ins w. w.0) tile.switch t.switch;
    few_switch = omega (arith, t.few_switch);
    cells = t.cells;
    rising = t.rising;
    misses = t.misses.each;
  });
  wires = λ k other e.
      ⊎_elim
      (λ (before : slice_get tiles k ≡ Some other). h.wires k other before)
      (λ (last : (k ≡ length tiles) × (tile ≡ other)).
      subst (λ n. All (λ ins. has_wires topo (tile_count topo + n) ins ≡ true) other.switch) (sym last.0)
      (subst (λ (o : TileProgram). All (λ ins. has_wires topo (tile_count topo + length tiles) ins ≡ true) o.switch) last.1
      (All-weaker (IsWiredIns topo (tile_count topo + length tiles)) (λ ins. has_wires topo (tile_count topo + length tiles) ins ≡ true) (λ ins w. w.1) tile.switch t.switch)))
      (got tiles tile k other e);
  held = λ e. All-push (λ (x : TileProgram). x.misses ≡ []) tiles tile (h.held e) (t.misses.held e);
  code = omega (arith, sum_by_push (λ (x : TileProgram). length x.code) tiles tile, t.few, h.code);
  switch = omega (arith, sum_by_push (λ (x : TileProgram). length x.switch) tiles tile, t.few_switch, h.switch);
  cells = omega (arith, sum_by_push (λ (x : TileProgram). length x.cells) tiles tile, t.few_cells, h.cells);
  misses = omega (arith, sum_by_push (λ (x : TileProgram). length x.misses) tiles tile, t.misses.few, h.misses);
}

one_more_tile : (v : Version) (topo : Topology) (before : List TileProgram) (rest : List ℕ) (r : Result (TileProgram × List ℕ) Fault) → AreTiles v topo before → Sound rest (tile_bytes v) (IsTileIn v topo (tile_count topo + length before) (room_behind before)) r → Sound rest (tile_bytes v) (λ x. AreTiles v topo (before ++ x ∷ [])) r
one_more_tile v topo before rest (Ok x) good h = (h.0, more_tiles v topo before x.0 good h.1)
one_more_tile v topo before rest (Err f) good h = h

pub tiles_sound : Promises → (v : Version) (topo : Topology) (bytes : List ℕ) → IsBytes bytes → Sound bytes (flat_map (tile_bytes v)) (λ ts. (length ts ≡ tile_count topo) × AreTiles v topo ts) (tiles_at v topo bytes)
unfolding tiles_at
tiles_sound promised v topo bytes fits =
    list_sound (λ before. tile_at v topo (tile_count topo + length before) (room_behind before)) (tile_bytes v) (AreTiles v topo) (no_tiles v topo)
    (λ before rest ok good. one_more_tile v topo before rest (tile_at v topo (tile_count topo + length before) (room_behind before) rest) good (tile_sound promised v topo (tile_count topo + length before) (room_behind before) rest ok))
    (tile_count topo) bytes fits

tile_within : (v : Version) (topo : Topology) (whole before : List TileProgram) (x : TileProgram) (after : List TileProgram) → before ++ (x ∷ after) ≡ whole → AreTiles v topo whole → IsTileIn v topo (tile_count topo + length before) (room_behind before) x
tile_within v topo whole before x after e h =
    let program = all_seam IsTileProgram whole before x after e h.each in
    let wires = h.wires (length before) x (ap (λ xs. slice_get xs (length before)) (sym e) ∙ got_seam before x after) in
    record {
      code = program.instructions;
      few = omega (arith, program.few, sum_seam (λ (t : TileProgram). length t.code) whole before x after e, h.code);
      switch = λ k d l. (program.switch_instructions k d l, wires k d l);
      few_switch = omega (arith, program.few_switch, sum_seam (λ (t : TileProgram). length t.switch) whole before x after e, h.switch);
      cells = program.cells;
      rising = program.rising;
      few_cells = omega (arith, few_cells x.cells program.cells program.rising, sum_seam (λ (t : TileProgram). length t.cells) whole before x after e, h.cells);
      misses = record {
        few = omega (arith, sum_seam (λ (t : TileProgram). length t.misses) whole before x after e, h.misses);
        each = program.misses;
        held = λ one. all_seam (λ (t : TileProgram). t.misses ≡ []) whole before x after e (h.held one);
      };
    }

pub tiles_again : Promises → (v : Version) (topo : Topology) (tiles : List TileProgram) (rest : List ℕ) → length tiles ≡ tile_count topo → AreTiles v topo tiles → tiles_at v topo (flat_map (tile_bytes v) tiles ++ rest) ≡ Ok (tiles, rest)
unfolding tiles_at
tiles_again promised v topo tiles rest count h =
    let item = λ (before : List TileProgram). tile_at v topo (tile_count topo + length before) (room_behind before) in
    ap (λ n. list_at item n (flat_map (tile_bytes v) tiles ++ rest)) (sym count)
    ∙ list_again item (tile_bytes v) [] tiles rest
    (each_within item (tile_bytes v) tiles
    (λ before x after e next. tile_again promised v topo (tile_count topo + length before) (room_behind before) x next (omega arith) (tile_within v topo tiles before x after e h))
    [] tiles refl)
