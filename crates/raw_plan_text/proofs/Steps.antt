-- What is wrong with a line, step by step, and what the lines up to it declare.
use Rattle.std.proofs.Common.{◌≡◌, ◌∙◌, ◌<◌, ◌≤◌, ◌+◌, ◌++◌, ◌∷◌, ℕ, Bool, true, false, ◌&&◌, cond, List, [], Option, Some, None, length, length-append, get_or, take, drop, refl, sym, ap, arith}
use Rattle.std.specs.Prelude.{◌==◌}
use Rattle.std.specs.List.{list_all, cons_option}
use Rattle.std.proofs.lemmas.Option.{none-some, same_Some}
use Rattle.std.proofs.lemmas.Bool.{lt-ltb, le-ltb}
use Rattle.std.proofs.lemmas.Bool.Decides.{nat_tests}
use Rattle.std.proofs.lemmas.List.{take_more}
use Rattle.std.proofs.lemmas.List.Elements.{filter_map-append}
use Rattle.raw_set_text.specs.declared.kind.SetKind.TheVariants.{Missing, BadSize, OffGrid, Repeated}
use Rattle.raw_grid.specs.Topology.{Topology, without_ports}
use Rattle.raw_route.specs.Refusals.{has_twice}
use Rattle.raw_plan_text.specs.Plans.{HaulPlan}
use Rattle.raw_plan_text.specs.Forms.{Sent, Entry, is_grid, is_send, grid_entry, send_entry, line_entry}
use Rattle.raw_plan_text.specs.Forms.Entry.{Grid, Send}
use Rattle.raw_plan_text.specs.Faults.{grid_of, is_inside, targets_in, is_size, is_off_grid, form_fault, entry_fault, line_fault}
use Rattle.raw_plan_text.specs.Meaning.{entries_of, haul_of, haul_in, word_in, plan_of, fault_at, end_fault, place_fault}
use Rattle.raw_plan_text.specs.Answers.{PlanStands, each_once}

-- the first word of a line decides how it reads
pub grid_line : (line : List (List ℕ)) → is_grid line ≡ true → line_entry line ≡ grid_entry (drop 1 line)
unfolding line_entry
grid_line line e = rw e refl

pub send_line : (line : List (List ℕ)) → is_grid line ≡ false → is_send line ≡ true → line_entry line ≡ send_entry (drop 1 line)
unfolding line_entry
send_line line e f = rw (e, f) refl

pub other_line : (line : List (List ℕ)) → is_grid line ≡ false → is_send line ≡ false → line_entry line ≡ None
unfolding line_entry
other_line line e f = rw (e, f) refl

-- a line without tokens
pub blank_line : (entries : List Entry) (line : List (List ℕ)) → length line ≡ 0 → line_fault entries line ≡ None
unfolding line_fault
blank_line entries line e = rw e refl

pub blank_entry : (line : List (List ℕ)) → length line ≡ 0 → line_entry line ≡ None
unfolding line_entry
blank_entry [] e = refl
blank_entry (token ∷ line) e = absurd (omega arith)

-- the first line with tokens, where it is no grid
pub missing_line : (line : List (List ℕ)) → 0 < length line → is_grid line ≡ false → line_fault [] line ≡ Some Missing
unfolding line_fault
missing_line line some e = let told : (length line == 0) ≡ false = grind (arith, nat_tests) in rw (told, e) refl

-- the first line with tokens, where it is one
pub first_line : (line : List (List ℕ)) → 0 < length line → is_grid line ≡ true → line_fault [] line ≡ form_fault [] (line_entry line)
unfolding line_fault
first_line line some e = let told : (length line == 0) ≡ false = grind (arith, nat_tests) in rw (told, e) refl

-- a later line with tokens
pub later_line : (entries : List Entry) (line : List (List ℕ)) → 0 < length entries → 0 < length line → line_fault entries line ≡ form_fault entries (line_entry line)
unfolding line_fault
later_line [] line begun some = absurd (omega arith)
later_line (first ∷ entries) line begun some = let told : (length line == 0) ≡ false = grind (arith, nat_tests) in rw told refl

never : (b : Bool) → (b && false) ≡ false
never true = refl
never false = refl

once_none : (twice : Bool) (tiles : List ℕ) → cond twice None (Some tiles) ≡ None → twice ≡ true
once_none true tiles e = refl
once_none false tiles e = absurd (none-some tiles (sym e))

pub once_some : (twice : Bool) (tiles others : List ℕ) → cond twice None (Some tiles) ≡ Some others → (twice ≡ false) × (tiles ≡ others)
once_some true tiles others e = absurd (none-some others e)
once_some false tiles others e = (refl, same_Some tiles others e)

-- the faults of entries
pub bad_size : (entries : List Entry) (columns rows : ℕ) → is_size columns rows ≡ false → entry_fault entries (Grid columns rows) ≡ Some BadSize
unfolding entry_fault
bad_size entries columns rows e = rw e refl

pub first_grid : (columns rows : ℕ) → is_size columns rows ≡ true → entry_fault [] (Grid columns rows) ≡ None
unfolding entry_fault
first_grid columns rows e = rw e refl

pub second_grid : (entries : List Entry) (columns rows : ℕ) → 0 < length entries → is_size columns rows ≡ true → entry_fault entries (Grid columns rows) ≡ Some Repeated
unfolding entry_fault
second_grid entries columns rows begun e = rw (e, lt-ltb 0 (length entries) begun) refl

-- a word that is sent, on the grid of the entries
module _ (entries : List Entry) (sent : Sent) (grid : Topology) (same : grid ≡ grid_of entries) where
  pub off_from : is_inside grid sent.from ≡ false → entry_fault entries (Send sent) ≡ Some OffGrid
  unfolding entry_fault
  off_from e = let out : is_inside (grid_of entries) sent.from ≡ false = ap (λ g. is_inside g sent.from) (sym same) ∙ e in rw out refl

  pub off_to : list_all (is_inside grid) sent.to ≡ false → entry_fault entries (Send sent) ≡ Some OffGrid
  unfolding entry_fault
  off_to e =
      let out : list_all (is_inside (grid_of entries)) sent.to ≡ false = ap (λ g. list_all (is_inside g) sent.to) (sym same) ∙ e in
      rw (out, never (is_inside (grid_of entries) sent.from)) refl

  -- on the grid
  module _ (from : is_inside grid sent.from ≡ true) (to : list_all (is_inside grid) sent.to ≡ true) where
    inside : is_off_grid (grid_of entries) (Send sent) ≡ false
    inside =
        let first : is_inside (grid_of entries) sent.from ≡ true = ap (λ g. is_inside g sent.from) (sym same) ∙ from in
        let others : list_all (is_inside (grid_of entries)) sent.to ≡ true = ap (λ g. list_all (is_inside g) sent.to) (sym same) ∙ to in
        rw (first, others) refl

    pub named_twice : each_once (targets_in grid sent) ≡ None → entry_fault entries (Send sent) ≡ Some Repeated
    unfolding entry_fault
    named_twice e =
        let twice : has_twice (targets_in (grid_of entries) sent) ≡ true = ap (λ g. has_twice (targets_in g sent)) (sym same) ∙ once_none (has_twice (targets_in grid sent)) (targets_in grid sent) e in
        rw (inside, twice) refl

    pub send_faultless : (tiles : List ℕ) → each_once (targets_in grid sent) ≡ Some tiles → entry_fault entries (Send sent) ≡ None
    unfolding entry_fault
    send_faultless tiles e =
        let once : has_twice (targets_in (grid_of entries) sent) ≡ false = ap (λ g. has_twice (targets_in g sent)) (sym same) ∙ (once_some (has_twice (targets_in grid sent)) (targets_in grid sent) tiles e).0 in
        rw (inside, once) refl

module _ (lines : List (List (List ℕ))) where
  -- one line more
  pub entries_more : (k : ℕ) → k < length lines → entries_of (take (k + 1) lines) ≡ entries_of (take k lines) ++ entries_of (get_or lines k [] ∷ [])
  entries_more k l = ap entries_of (take_more lines k [] l) ∙ filter_map-append line_entry (take k lines) (get_or lines k [] ∷ [])

  pub fault_of_line : (k : ℕ) → k < length lines → place_fault lines k ≡ line_fault (entries_of (take k lines)) (get_or lines k [])
  unfolding fault_at
  fault_of_line k l = rw (lt-ltb k (length lines) l) refl

  pub fault_at_end : (k : ℕ) → length lines ≤ k → place_fault lines k ≡ end_fault lines
  fault_at_end k l = rw (le-ltb k (length lines) l) refl

-- what is made of entries stands on their grid
pub grid_same : (plan : HaulPlan) (entries : List Entry) → plan ≡ plan_of entries → without_ports plan.cols plan.rows ≡ grid_of entries
unfolding plan_of
grid_same plan [] is = ap (λ p. without_ports p.cols p.rows) is
grid_same plan (Grid columns rows ∷ entries) is = ap (λ p. without_ports p.cols p.rows) is
grid_same plan (Send sent ∷ entries) is = ap (λ p. without_ports p.cols p.rows) is

pub stands_first : (plan : HaulPlan) (columns rows : ℕ) (o : Option Entry) → o ≡ Some (Grid columns rows) → plan ≡ record { cols = columns; rows = rows; hauls = []; words = [] } → PlanStands (Some plan) (cons_option o [])
unfolding plan_of
stands_first plan columns rows o is plan_is = rw is (omega arith, plan_is)

pub grid_kept : (entries more : List Entry) → 0 < length entries → grid_of (entries ++ more) ≡ grid_of entries
grid_kept [] more l = absurd (omega arith)
grid_kept (Grid columns rows ∷ entries) more l = refl
grid_kept (Send sent ∷ entries) more l = refl

pub stands_more : (plan after : HaulPlan) (entries : List Entry) (sent : Sent) (grid : Topology) → grid ≡ grid_of entries → PlanStands (Some plan) entries
    → after ≡ record plan { hauls = plan.hauls ++ haul_of grid sent ∷ []; words = plan.words ++ sent.word ∷ [] } → PlanStands (Some after) (entries ++ Send sent ∷ [])
unfolding plan_of
stands_more plan after entries sent grid same stands is =
    let kept = grid_kept entries (Send sent ∷ []) stands.0 in
    let hauls = filter_map-append (haul_in (grid_of entries)) entries (Send sent ∷ []) in
    let words = filter_map-append word_in entries (Send sent ∷ []) in
    (omega (arith, length-append entries (Send sent ∷ []), stands.0), is ∙ rw (kept, hauls, words, same, stands.1) refl)
