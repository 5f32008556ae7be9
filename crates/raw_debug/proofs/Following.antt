-- The text of a script, line by line.
use Rattle.std.proofs.Common.{◌≡◌, ℕ, zero, suc, ◌+◌, ◌-◌, ◌*◌, ◌<◌, ◌≤◌, Bool, true, false, not, List, [], ◌∷◌, ◌++◌, length, get_or, drop, Option, None, Some, Result, Ok, Err, refl, sym, ap, ap₂, subst, ◌∙◌, arith}
use Rattle.std.specs.Prelude.{if◌then◌else◌}
use Rattle.std.specs.List.{position}
use Rattle.std.specs.Result.{IsErrAnd}
use Rattle.raw_io.specs.Sights.{Sight}
use Rattle.raw_io.specs.Writing.{Writes}
use Rattle.raw_grid.specs.declared.parts.ProcId.{ProcId}
use Rattle.raw_grid.specs.Topology.{proc_count}
use Rattle.raw_model.specs.Program.{ProgramSet, IsSet}
use Rattle.raw_debug.specs.declared.debugging.DebugRefusal.{DebugRefusal}
use Rattle.raw_debug.specs.declared.debugging.DebugRefusal.TheVariants.{Fault}
use Rattle.raw_debug.specs.Commands.{LabelPlaces, Meaning, led_to, led_by, meaning_of, readings_from, readings, bad_command}
use Rattle.raw_debug.specs.Commands.Meaning.{Blank, Says}
use Rattle.raw_debug.specs.Script.{Spot, first_spot, leads_to, moved, moved_by, is_past, script_text_of, line_text, text_from, script_text, IsRunThrough}
use Rattle.raw_debug.proofs.Readings.{AreLeft, here, left_is, left_after, found, none_more}

-- what is left to write: what the next line writes, and then, where it does not go past the end, what the others write
parts : (set : ProgramSet) (spot : Spot) (reading : Meaning) (others : List Meaning)
    → text_from set spot (reading ∷ others) ≡ line_text set spot reading ++ (if is_past set reading then [] else text_from set (moved_by set spot reading) others)
parts set spot reading others = by_test (is_past set reading) (script_text_of set spot reading) (text_from set (moved_by set spot reading) others)
  where
    by_test : (b : Bool) (text rest : List ℕ) → (if b then [] else text ++ rest) ≡ (if b then [] else text) ++ (if b then [] else rest)
    by_test true text rest = refl
    by_test false text rest = refl

-- where the next line goes past the end nothing is left
past_parts : (set : ProgramSet) (spot : Spot) (reading : Meaning) (others : List Meaning) → is_past set reading ≡ true
    → (if is_past set reading then [] else text_from set (moved_by set spot reading) others) ≡ []
past_parts set spot reading others e = rw e refl

going_parts : (set : ProgramSet) (spot : Spot) (reading : Meaning) (others : List Meaning) → is_past set reading ≡ false
    → (if is_past set reading then [] else text_from set (moved_by set spot reading) others) ≡ text_from set (moved_by set spot reading) others
going_parts set spot reading others e = rw e refl

-- before the first line all of the text is left
pub start_text : (labels : LabelPlaces) (set : ProgramSet) (lines : List (List (List ℕ))) (spot : Spot) (n : ℕ) → spot ≡ first_spot → n ≡ 0
    → script_text labels set lines ≡ text_from set spot (readings_from labels set spot.current (drop n lines))
unfolding script_text
start_text labels set lines spot n is none = rw (is, none) refl

-- the current processor of where a script stands behind a line
moved_to : (spot : Spot) (current : ProcId) (o : Option ℕ) → (moved spot current o).current ≡ current
moved_to spot current None = refl
moved_to spot current (Some moment) = refl

pub moved_current : (set : ProgramSet) (spot : Spot) (reading : Meaning) → (moved_by set spot reading).current ≡ led_by spot.current reading
moved_current set spot (Says command) = moved_to spot (led_to spot.current command) (leads_to set spot command)
moved_current set spot _ = refl

some_tile : (a b : ℕ) → 1 ≤ a → 1 ≤ b → 1 ≤ a * b
some_tile zero b first second = absurd (omega (arith, first))
some_tile (suc a) zero first second = absurd (omega (arith, second))
some_tile (suc a) (suc b) first second = omega arith

-- each set has a processor
pub some_processor : (set : ProgramSet) → IsSet set → 0 < proc_count set.topo
some_processor set valid =
    let some = some_tile set.topo.cols set.topo.rows valid.topology.size.some_cols valid.topology.size.some_rows in
    omega (arith, some)

-- a write that failed, as the answer tells it
pub fault_told : {T : Type 0} (labels : LabelPlaces) (set : ProgramSet) (from : ℕ) (lines : List (List (List ℕ))) (old new : Sight) (r : Result T DebugRefusal)
    → IsErrAnd r (λ refused. refused ≡ Fault) → bad_command labels set lines ≡ None → Writes old new (script_text labels set lines) r
    → IsRunThrough labels set from lines old new r
fault_told labels set from lines old new (Ok x) told good written = absurd told
fault_told labels set from lines old new (Err Fault) told good written =
    record { ok = tt; cause = (good, written.front, written.fault); after = tt; count = written.count }
fault_told labels set from lines old new _ told good written = absurd (cc told)

pub not_true : (b : Bool) → not b ≡ false → b ≡ true
not_true true e = refl
not_true false e = absurd (cc e)

pub not_false : (b : Bool) → not b ≡ true → b ≡ false
not_false true e = absurd (cc e)
not_false false e = refl

-- The next line of a script on a set: what it says was read on the machine's own set, which is the same.
module _ (labels : LabelPlaces) (of own : ProgramSet) (same : own ≡ of) (all : List (List (List ℕ))) (from line : ℕ) (spot : Spot) (at : AreLeft labels of all from line spot.current)
    (there : line < length all) (reading : Meaning) (read : reading ≡ meaning_of labels own spot.current.0 (get_or all line [])) where
  is_here : reading ≡ here labels of all from line spot.current at
  is_here = read ∙ ap (λ set. meaning_of labels set spot.current.0 (get_or all line [])) same

  -- the lines behind it
  abbrev pub behind : List (List (List ℕ))
  behind = drop (line + 1 - from) (drop from all)

  -- what is left to write
  pub rest_is : text_from of spot (readings_from labels of spot.current (drop (line - from) (drop from all)))
      ≡ line_text own spot reading ++ (if is_past of reading then [] else text_from of (moved_by of spot reading) (readings_from labels of (led_by spot.current reading) behind))
  rest_is =
      let next = here labels of all from line spot.current at in
      ap (text_from of spot) (left_is labels of all from line spot.current at there)
      ∙ parts of spot next (readings_from labels of (led_by spot.current next) behind)
      ∙ ap₂ (λ set r. line_text set spot r ++ (if is_past of r then [] else text_from of (moved_by of spot r) (readings_from labels of (led_by spot.current r) behind))) (sym same) (sym is_here)

  pub left_next : AreLeft labels of all from (line + 1) (led_by spot.current reading)
  left_next = subst (λ r. AreLeft labels of all from (line + 1) (led_by spot.current r)) (sym is_here) (left_after labels of all from line spot.current at there)

  -- it goes past the end
  module _ (stops : not (is_past own reading) ≡ false) where
    past : is_past of reading ≡ true
    past = ap (λ set. is_past set reading) (sym same) ∙ not_true (is_past own reading) stops

    pub nothing_left : (if is_past of reading then [] else text_from of (moved_by of spot reading) (readings_from labels of (led_by spot.current reading) behind)) ≡ []
    nothing_left = past_parts of spot reading (readings_from labels of (led_by spot.current reading) behind) past

    pub past_found : ((k : ℕ) → k < line - from → is_past of (get_or (readings labels of (drop from all)) k Blank) ≡ false)
        → position (is_past of) (readings labels of (drop from all)) ≡ Some (line - from)
    past_found none = found labels of all from line spot.current at (is_past of) none there (ap (is_past of) (sym is_here) ∙ past)

  -- it does not
  module _ (goes : not (is_past own reading) ≡ true) where
    going : is_past of reading ≡ false
    going = ap (λ set. is_past set reading) (sym same) ∙ not_false (is_past own reading) goes

    pub others_left : (if is_past of reading then [] else text_from of (moved_by of spot reading) (readings_from labels of (led_by spot.current reading) behind))
        ≡ text_from of (moved_by of spot reading) (readings_from labels of (moved_by of spot reading).current behind)
    others_left =
        going_parts of spot reading (readings_from labels of (led_by spot.current reading) behind) going
        ∙ ap (λ c. text_from of (moved_by of spot reading) (readings_from labels of c behind)) (sym (moved_current of spot reading))

    pub none_past : ((k : ℕ) → k < line - from → is_past of (get_or (readings labels of (drop from all)) k Blank) ≡ false)
        → (k : ℕ) → k < line + 1 - from → is_past of (get_or (readings labels of (drop from all)) k Blank) ≡ false
    none_past none = none_more labels of all from line spot.current at (is_past of) none there (ap (is_past of) (sym is_here) ∙ going)
