-- The programs of a set whose programs are those of a script.
use Rattle.std.proofs.Common.{◌≡◌, ℕ, ◌+◌, ◌-◌, ◌<◌, ◌≤◌, List, [], ◌∷◌, ◌++◌, length, Some, sym, ap, ◌∙◌, subst, arith, append_assoc, length-append}
use Rattle.std.specs.Prelude.{slice_get, option_map}
use Rattle.std.specs.List.{range_with_len}
use Rattle.std.proofs.lemmas.List.FromFn.{length-range_with_len, get_or-range_with_len}
use Rattle.std.proofs.lemmas.List.{length-map}
use Rattle.std.proofs.lemmas.Option.{slice_get-map, slice_get_within, get_or_from_slice_get, slice_get-get_or}
use Rattle.raw_switch_isa.specs.declared.limits.TheConstants.{MAX_SWITCH_CODE}
use Rattle.raw_tile_isa.specs.declared.limits.TheConstants.{MAX_TILE_CODE}
use Rattle.raw_tile_isa.specs.Made as tile
use Rattle.raw_switch_isa.specs.Made as switch
use Rattle.raw_grid.specs.Topology.{tile_count, switch_number}
use Rattle.raw_model.specs.Program.{ProgramSet, IsTileProgram}
use Rattle.raw_model.specs.Machine.{program_code, program_switch, tile_code, switch_code}
use Rattle.raw_codegen.specs.Parts.{Part, tile_part, switch_part, script_program}
use Rattle.raw_codegen.specs.Standing.{IsScript}
use Rattle.raw_codegen.proofs.Parts.{tile_part-append, switch_part-append}

pub at_number : (n t : ℕ) → t < n → slice_get (range_with_len 0 n) t ≡ Some t
at_number n t h =
    let zero_more : 0 + t ≡ t = omega arith in
    slice_get-get_or (range_with_len 0 n) t 0 (rw (length-range_with_len 0 n) h) ∙ ap (λ (k : ℕ). Some k) (get_or-range_with_len 0 n t 0 h ∙ zero_more)

module _ (set : ProgramSet) (all : List Part) (script : IsScript set all) where
  pub tile_there : (t : ℕ) → t < tile_count set.topo → slice_get set.tiles t ≡ Some (script_program all t)
  tile_there t h =
      ap (λ tiles. slice_get tiles t) script.tiles
      ∙ slice_get-map (script_program all) (range_with_len 0 (tile_count set.topo)) t ∙ ap (option_map (script_program all)) (at_number (tile_count set.topo) t h)

  pub tiles_there : length set.tiles ≡ tile_count set.topo
  tiles_there = ap length script.tiles ∙ length-map (range_with_len 0 (tile_count set.topo)) (script_program all) ∙ length-range_with_len 0 (tile_count set.topo)

  lawful : (t : ℕ) → t < tile_count set.topo → IsTileProgram (script_program all t)
  lawful t h =
      let e = tile_there t h in
      subst IsTileProgram (get_or_from_slice_get set.tiles t (script_program all t) (script_program all t) e) (script.valid.tile_programs t (script_program all t) (slice_get_within set.tiles t (script_program all t) e))

  back : (t : ℕ) → switch_number set.topo t - tile_count set.topo ≡ t
  back t = omega arith

  pub codes : (t : ℕ) → t < tile_count set.topo → tile_code set t ≡ tile_part t all ++ tile.halt ∷ []
  codes t h = ap program_code (tile_there t h)

  pub few : (t : ℕ) → t < tile_count set.topo → length (tile_code set t) ≤ MAX_TILE_CODE
  few t h = subst (λ o. length (program_code o) ≤ MAX_TILE_CODE) (sym (tile_there t h)) (lawful t h).few

  pub switch_codes : (t : ℕ) → t < tile_count set.topo → switch_code set (switch_number set.topo t) ≡ switch_part t all ++ switch.halt ∷ []
  switch_codes t h = ap (λ k. program_switch (slice_get set.tiles k)) (back t) ∙ ap program_switch (tile_there t h)

  pub few_switch : (t : ℕ) → t < tile_count set.topo → length (switch_code set (switch_number set.topo t)) ≤ MAX_SWITCH_CODE
  few_switch t h =
      subst (λ k. length (program_switch (slice_get set.tiles k)) ≤ MAX_SWITCH_CODE) (sym (back t))
      (subst (λ o. length (program_switch o) ≤ MAX_SWITCH_CODE) (sym (tile_there t h)) (lawful t h).few_switch)

  -- the program of a tile, and of a switch, where these parts stand in the script
  pub fetch : (t : ℕ) (parts chunk rest : List Part) → t < tile_count set.topo → all ≡ parts ++ (chunk ++ rest)
      → tile_code set t ≡ tile_part t parts ++ (tile_part t chunk ++ (tile_part t rest ++ tile.halt ∷ []))
  fetch t parts chunk rest within e =
      codes t within
      ∙ ap (λ xs. tile_part t xs ++ tile.halt ∷ []) e
      ∙ ap (λ xs. xs ++ tile.halt ∷ []) (tile_part-append t parts (chunk ++ rest) ∙ ap (λ xs. tile_part t parts ++ xs) (tile_part-append t chunk rest))
      ∙ append_assoc (tile_part t parts) (tile_part t chunk ++ tile_part t rest) (tile.halt ∷ [])
      ∙ ap (λ xs. tile_part t parts ++ xs) (append_assoc (tile_part t chunk) (tile_part t rest) (tile.halt ∷ []))

  pub fetch_switch : (t : ℕ) (parts chunk rest : List Part) → t < tile_count set.topo → all ≡ parts ++ (chunk ++ rest)
      → switch_code set (switch_number set.topo t) ≡ switch_part t parts ++ (switch_part t chunk ++ (switch_part t rest ++ switch.halt ∷ []))
  fetch_switch t parts chunk rest within e =
      switch_codes t within
      ∙ ap (λ xs. switch_part t xs ++ switch.halt ∷ []) e
      ∙ ap (λ xs. xs ++ switch.halt ∷ []) (switch_part-append t parts (chunk ++ rest) ∙ ap (λ xs. switch_part t parts ++ xs) (switch_part-append t chunk rest))
      ∙ append_assoc (switch_part t parts) (switch_part t chunk ++ switch_part t rest) (switch.halt ∷ [])
      ∙ ap (λ xs. switch_part t parts ++ xs) (append_assoc (switch_part t chunk) (switch_part t rest) (switch.halt ∷ []))

pub some_behind : {X : Type 0} (xs : List X) (x : X) → 1 ≤ length (xs ++ x ∷ [])
some_behind xs x = omega (arith, length-append xs (x ∷ []))
