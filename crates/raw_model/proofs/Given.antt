-- A value is given for each input that a switch's routes and its move name.
use Rattle.std.proofs.Common.{◌≡◌, ℕ, zero, suc, ◌+◌, ◌-◌, ◌*◌, ◌/◌, ◌<◌, ◌≤◌, Bool, true, false, ◌||◌, cond, eqb, ltb, List, [], ◌∷◌, drop, length, Option, Some, None, is_some, refl, sym, ap, ◌∙◌, subst, arith}
use Rattle.std.specs.Prelude.{slice_get, slice_index, slice_index_or, option_map}
use Rattle.std.specs.List.{All, filter, list_all, list_any}
use Rattle.std.specs.Option.{option_to_list}
use Rattle.raw_grid.specs.declared.parts.PortPlace.{PortPlace}
use Rattle.std.proofs.lemmas.Bool.{and_parts, eq-eqb, eqb-false, ltb-false}
use Rattle.std.proofs.lemmas.Option.{same_Some, slice_get-get_or}
use Rattle.std.proofs.lemmas.List.FromFn.{length-range_with_len, get_or-range_with_len}
use Rattle.std.proofs.lemmas.List.Elements.{All-nil}
use Rattle.std.proofs.lemmas.Map.Keys.{any_passes_from_place}
use Rattle.raw_switch_isa.specs.declared.table.SwitchOp.{SwitchOp}
use Rattle.raw_switch_isa.specs.declared.table.SwitchOp.TheVariants.{Nop, Jump, Beqz, Bnez, Bnezd, Move, Halt}
use Rattle.raw_switch_isa.specs.declared.instruction.SwitchSource.{SwitchSource}
use Rattle.raw_switch_isa.specs.declared.instruction.SwitchSource.TheVariants.{Register, Input}
use Rattle.raw_switch_isa.specs.Table.{uses, is_src}
use Rattle.raw_switch_isa.specs.Instruction.{SwitchInstruction, IsSwitchIns, IsField}
use Rattle.raw_switch_isa.specs.Ends.{ends, coded_source, route_source, coded_move, move_source, is_from_input, is_used_input}
use Rattle.raw_grid.specs.declared.parts.ProcKind.TheVariants as proc
use Rattle.raw_grid.specs.Topology.{Topology, tile_count, port_proc, kind_at}
use Rattle.raw_grid.specs.Wires.{input_wire}
use Rattle.raw_model.specs.Program.{ProgramSet, TileProgram, IsSet, has_wires}
use Rattle.raw_model.specs.Local.{Switch, SwitchLocal}
use Rattle.raw_model.specs.SwitchTable.{source_value, next_instruction}
use Rattle.raw_model.specs.Machine.{program_switch, switch_code, taken_at, given_first, given_at, given_to}
use Rattle.raw_model.specs.Start.{IsFit}
use Rattle.raw_model.specs.Needs.{AreGiven}
use Rattle.raw_model.proofs.Words.{all_at, read_at}
use Rattle.raw_model.proofs.Fitting.{switch_lawful}

-- the end at a place is that place
pub end_at : (k : ℕ) → k < 10 → slice_get ends k ≡ Some k
unfolding ends
end_at k h =
    let within : k < length ends = subst (λ n. k < n) (sym (length-range_with_len 0 10)) h in
    let there = get_or-range_with_len 0 10 k 0 h in
    slice_get-get_or ends k 0 within ∙ ap Some (omega (arith, there))

-- there is a wire
unfoldable pub is_full : List ℕ → Bool
is_full [] = false
is_full (w ∷ ws) = true

pub some_first : (ws values : List ℕ) → is_some (given_first ws values) ≡ is_full ws
unfolding is_full
some_first [] values = refl
some_first (w ∷ ws) values = refl

pub full_by : (used : Bool) (wire : Option ℕ) → (used ≡ true → is_some wire ≡ true) → is_full (cond used (option_to_list wire) []) ≡ used
unfolding is_full
full_by true (Some w) h = refl
full_by true None h = h refl
full_by false wire h = refl

-- a test of all that pass holds at each that passes
pub kept_by : (test : ℕ → Bool) (b : Bool) (x : ℕ) (es : List ℕ) → list_all test (cond b (x ∷ es) es) ≡ true
    → (b ≡ true → test x ≡ true) × (list_all test es ≡ true)
kept_by test true x es h = (λ _. (and_parts _ _ h).0, (and_parts _ _ h).1)
kept_by test false x es h = (λ e. absurd (cc e), h)

pub each_kept : (test passes : ℕ → Bool) (es : List ℕ) (k end : ℕ) → list_all test (filter passes es) ≡ true → slice_get es k ≡ Some end
    → passes end ≡ true → test end ≡ true
each_kept test passes [] k end h e on = absurd (cc)
each_kept test passes (x ∷ es) zero end h e on =
    sym (ap test (same_Some x end e))
    ∙ (kept_by test (passes x) x (filter passes es) h).0 (ap passes (same_Some x end e) ∙ on)
each_kept test passes (x ∷ es) (suc k) end h e on = each_kept test passes es k end (kept_by test (passes x) x (filter passes es) h).1 e on

-- an input that a route names is one of the ten
coded_within : (rsel output code i : ℕ) → code < 7 → output < 10 → coded_source rsel output code ≡ Some (Input i) → i < 10
coded_within rsel output code i small below e = from (eqb code 0) (eqb code 6) refl refl e
  where
    from : (b c : Bool) → eqb code 0 ≡ b → eqb code 6 ≡ c
        → cond b None (cond c (Some (Register rsel)) (Some (Input (5 * (output / 5) + (code - 1))))) ≡ Some (Input i) → i < 10
    from true c some six is = absurd (cc is)
    from false true some six is = absurd (cc is)
    from false false some six is =
        let same : 5 * (output / 5) + (code - 1) ≡ i = cc is in
        let not_six = eqb-false code 6 six in
        let last : code < 6 = omega (arith, small, not_six) in
        omega (arith, same, below, last)

route_within : (ins : SwitchInstruction) → IsSwitchIns ins → (output i : ℕ) → output < 10 → route_source ins output ≡ Some (Input i) → i < 10
route_within ins rules output i below e =
    coded_within ins.rsel output (slice_index ins.routes output) i
    (read_at (λ code. code < 7) ins.routes output 0 (omega arith) rules.codes) below e

-- and so is one that a move names
move_within : (op : SwitchOp) (src i : ℕ) → IsField (uses is_src op) 14 src → coded_move op src ≡ Some (Input i) → i < 10
move_within Move src i few e = from (ltb src 4) e
  where
    from : (b : Bool) → Some (cond b (Register src) (Input (src - 4))) ≡ Some (Input i) → i < 10
    from true is = absurd (cc is)
    from false is =
        let same : src - 4 ≡ i = cc is in
        let below : src < 14 = few in
        omega (arith, same, below)
move_within Nop src i few e = absurd (cc e)
move_within Jump src i few e = absurd (cc e)
move_within Beqz src i few e = absurd (cc e)
move_within Bnez src i few e = absurd (cc e)
move_within Bnezd src i few e = absurd (cc e)
move_within Halt src i few e = absurd (cc e)

from_itself : (i : ℕ) (o : Option SwitchSource) → o ≡ Some (Input i) → is_from_input i o ≡ true
from_itself i o e = ap (is_from_input i) e ∙ eq-eqb i i refl

or_second : (a b : Bool) → b ≡ true → (a || b) ≡ true
or_second true b e = refl
or_second false b e = e

-- an instruction whose inputs have wires
module _ (t : Topology) (p : ℕ) (ins : SwitchInstruction) (values : List ℕ) (rules : IsSwitchIns ins) (have : has_wires t p ins ≡ true) where
  some_given : (es values : List ℕ) (k end : ℕ) → slice_get es k ≡ Some end
      → is_some (slice_index_or (given_at t p ins es values) k None) ≡ is_full (taken_at t p ins end)
  some_given [] values k end e = absurd (cc)
  some_given (x ∷ es) values zero end e =
      some_first (taken_at t p ins x) values ∙ ap (λ i. is_full (taken_at t p ins i)) (same_Some x end e)
  some_given (x ∷ es) values (suc k) end e = some_given es (drop (length (taken_at t p ins x)) values) k end e

  given_there : (i : ℕ) → i < 10 → is_used_input ins i ≡ true → is_some (slice_index_or (given_at t p ins ends values) i None) ≡ true
  given_there i below used =
      some_given ends values i i (end_at i below)
      ∙ full_by (is_used_input ins i) (input_wire t p i)
      (each_kept (λ end. is_some (input_wire t p end)) (is_used_input ins) ends i i (and_parts _ _ have).0 (end_at i below))
      ∙ used

  has_value : (regs : List ℕ) (o : Option SwitchSource) → ((i : ℕ) → o ≡ Some (Input i) → (i < 10) × (is_used_input ins i ≡ true))
      → is_some (source_value regs (given_at t p ins ends values) o) ≡ is_some o
  has_value regs (Some (Input i)) h = let used = h i refl in given_there i used.0 used.1
  has_value regs _ h = refl

  pub are_given : (regs : List ℕ) → AreGiven ins regs (given_at t p ins ends values)
  are_given regs = record {
    routes = λ output below.
        has_value regs (route_source ins output)
        (λ i e. (
          route_within ins rules output i below e,
          or_second (is_from_input i (move_source ins)) _
              (any_passes_from_place (λ output. is_from_input i (route_source ins output)) ends output output (end_at output below)
              (from_itself i (route_source ins output) e)),
        ));
    move =
        has_value regs (move_source ins)
        (λ i e. (
          move_within ins.op ins.src i rules.src e,
          ap (λ b. b || list_any (λ output. is_from_input i (route_source ins output)) ends) (from_itself i (move_source ins) e),
        ));
  }

-- a processor that is a switch stands behind the tiles
behind_tiles : (t : Topology) (p : ℕ) → kind_at t p ≡ Some proc.Switch → tile_count t ≤ p
behind_tiles t p is = from (ltb p (tile_count t)) refl is
  where
    from : (b : Bool) → ltb p (tile_count t) ≡ b
        → cond b (Some proc.Tile) (cond (ltb p (2 * tile_count t)) (Some proc.Switch) (option_map (λ (place : PortPlace). port_proc place.kind) (slice_get t.places (p - 2 * tile_count t)))) ≡ Some proc.Switch
        → tile_count t ≤ p
    from true below e = absurd (cc e)
    from false below e = ltb-false p (tile_count t) below

module _ (set : ProgramSet) (valid : IsSet set) (p : ℕ) where
  wired_code : tile_count set.topo ≤ p → All (λ ins. has_wires set.topo p ins ≡ true) (switch_code set p)
  wired_code behind = from (slice_get set.tiles (p - tile_count set.topo)) refl
    where
      from : (o : Option TileProgram) → slice_get set.tiles (p - tile_count set.topo) ≡ o
          → All (λ ins. has_wires set.topo p ins ≡ true) (program_switch o)
      from None here = All-nil (λ ins. has_wires set.topo p ins ≡ true)
      from (Some tile) here =
          let number : tile_count set.topo + (p - tile_count set.topo) ≡ p = omega (arith, behind) in
          subst (λ q. All (λ ins. has_wires set.topo q ins ≡ true) tile.switch) number (valid.wires (p - tile_count set.topo) tile here)

  pub all_named_given : (l : SwitchLocal) (ins : SwitchInstruction) (values : List ℕ) → IsFit set p (Switch l)
      → next_instruction (switch_code set p) l ≡ Some ins → AreGiven ins l.regs (given_to set.topo p (Some ins) values)
  all_named_given l ins values fit here =
      are_given set.topo p ins values
      (all_at IsSwitchIns (switch_code set p) l.pc ins (switch_lawful set valid p) here)
      (all_at (λ ins. has_wires set.topo p ins ≡ true) (switch_code set p) l.pc ins (wired_code (behind_tiles set.topo p fit.0)) here)
      l.regs
