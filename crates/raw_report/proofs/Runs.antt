-- Lists of steps that come to rest have one report, which is that of a machine that one of them led to.
use Rattle.std.proofs.Common.{◌≡◌, ℕ, zero, suc, ◌+◌, ◌<◌, List, ◌++◌, map, refl, subst, sym, ap, ap₂, ◌∙◌, arith}
use Rattle.std.specs.Prelude.{slice_index}
use Rattle.std.specs.List.{flat_map, range_with_len}
use Rattle.std.proofs.Math.Logic.{∥∥₁_elim}
use Rattle.std.proofs.Math.Nat.{ℕ_set}
use Rattle.std.proofs.Math.Path.{fun_ext}
use Rattle.std.proofs.lemmas.List.FromFn.{get_or-map-range_with_len}
use mathlib.Core.List.{is_set}
use Rattle.raw_grid.specs.Topology.{tile_count}
use Rattle.raw_grid.specs.Wires.{tiles_of}
use Rattle.raw_model.specs.Program.{ProgramSet, IsSet}
use Rattle.raw_model.specs.Start.{MachineState, start}
use Rattle.raw_model.specs.Rest.{IsQuiet, IsRun}
use Rattle.raw_model.specs.Laws.{ComesToRest}
use Rattle.raw_model.specs.Cache.{misses, touches_of}
use Rattle.raw_model.specs.Outcomes.{outcome}
use Rattle.raw_model.proofs.Orders.{same_rest, same_touches}
use Rattle.raw_serial.specs.Running.{Running, IsRunBy, IsReached}
use Rattle.raw_report.specs.Report.{outcome_lines, port_lines, tile_lines, show_lines, switch_lines, wire_lines, stall_line, stall_lines, report, report_of, missed_by}

rests : (set : ProgramSet) (h : List ℕ) → IsRun set h → ComesToRest set (start set) h
rests set h run = record { lawful = run.lawful; quiet = run.quiet }

pub same_report : (set : ProgramSet) (h g : List ℕ) → IsSet set → IsRun set h → IsRun set g → report set g ≡ report set h
unfolding report
same_report set h g valid rh rg =
    ap₂ (report_of set)
    (same_rest set valid (start set) h g (rests set h rh) (rests set g rg))
    (ap (λ missed. map missed (tiles_of set.topo)) (fun_ext (λ tile. ap misses (same_touches set valid (start set) h g (rests set h rh) (rests set g rg) tile))))

-- texts of numbers in turn, by two rules that agree on them
same_texts : (f g : ℕ → List ℕ) (a n : ℕ) → ((t : ℕ) → t < a + n → f t ≡ g t) → flat_map f (range_with_len a n) ≡ flat_map g (range_with_len a n)
same_texts f g a zero same = refl
same_texts f g a (suc n) same = ap₂ (λ x y. x ++ y) (same a (omega arith)) (same_texts f g (a + 1) n (λ t lt. same t (omega (arith, lt))))

same_stalls : (set : ProgramSet) (missed others : List ℕ) → ((t : ℕ) → t < tile_count set.topo → slice_index missed t ≡ slice_index others t)
    → stall_lines set missed ≡ stall_lines set others
unfolding stall_lines
same_stalls set missed others same =
    same_texts (λ tile. stall_line set tile (slice_index missed tile)) (λ tile. stall_line set tile (slice_index others tile)) 0 (tile_count set.topo)
    (λ t lt. ap (stall_line set t) (same t (omega (arith, lt))))

same_report_of : (set : ProgramSet) (s : MachineState) (missed others : List ℕ)
    → ((t : ℕ) → t < tile_count set.topo → slice_index missed t ≡ slice_index others t) → report_of set s missed ≡ report_of set s others
unfolding report_of
same_report_of set s missed others same =
    ap (λ stalls. outcome_lines set s (outcome set s) ++ port_lines set s ++ tile_lines set s ++ show_lines set s ++ switch_lines set s ++ wire_lines set s ++ stalls)
    (same_stalls set missed others same)

module _ (m : Running) (valid : IsSet m.set) (quiet : IsQuiet m.set m.state) (steps : List ℕ) (run : IsRun m.set steps) where
  by_steps : (h : List ℕ) → IsRunBy m h → report m.set steps ≡ report_of m.set m.state m.missed
  unfolding report
  by_steps h by =
      let rests_there : IsRun m.set h = record { lawful = by.lawful; quiet = subst (IsQuiet m.set) (sym by.there) quiet } in
      same_report m.set h steps valid rests_there run
      ∙ ap (λ s. report_of m.set s (missed_by m.set h)) by.there
      ∙ same_report_of m.set m.state (missed_by m.set h) m.missed
      (λ t lt. get_or-map-range_with_len (λ tile. misses (touches_of m.set (start m.set) h tile)) 0 (tile_count m.set.topo) t t 0 lt (omega arith) ∙ sym (by.missed t lt))

  pub report_is : IsReached m → report m.set steps ≡ report_of m.set m.state m.missed
  report_is reached = ∥∥₁_elim reached (is_set ℕ_set _ _) (λ r. by_steps r.0 r.1)
