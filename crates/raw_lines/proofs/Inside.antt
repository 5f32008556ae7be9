-- The lines of sections are lines of the text.
use Rattle.std.proofs.Common.{◌≡◌, ℕ, zero, suc, ◌+◌, ◌-◌, ◌<◌, ◌≤◌, Bool, true, false, cond, List, [], ◌∷◌, length, take, drop, get_or, Option, Some, None, refl, sym, ap, subst, ◌∙◌, arith, find, slice_range, take-take}
use Rattle.std.specs.List.{AllByRecursion}
use Rattle.std.proofs.lemmas.List.{drop-take}
use Rattle.std.proofs.lemmas.Option.{none-some, same_Some}
use Rattle.raw_set_text.specs.Entry.{Entry}
use Rattle.raw_set_text.specs.Entry.Entry.{Tile, Switch}
use Rattle.raw_set_text.specs.Forms.{line_entry}
use Rattle.raw_set_text.specs.Sections.{is_section, is_end, head_behind, head_of, head_entry}
use Rattle.raw_set_text.proofs.Listed.Lists.{all_join}
use Rattle.raw_lines.specs.declared.section.ProgramSection.{ProgramSection}
use Rattle.raw_lines.specs.Sections.{begun, upto, ended_at, sections_before, sections_in}

-- the lines of a section are among so many
pub record IsInside (n : ℕ) (section : ProgramSection) : Type 0 where
  pub order : section.from ≤ section.to
  pub within : section.to ≤ n

new_head : (b : Bool) (k head : ℕ) → cond b (Some k) None ≡ Some head → head < suc k
new_head true k head e = let same = same_Some k head e in omega arith
new_head false k head e = absurd (none-some head e)

old_head : (b : Bool) (k old head : ℕ) → old < k → cond b None (Some old) ≡ Some head → head < suc k
old_head true k old head lt e = absurd (none-some head e)
old_head false k old head lt e = let same = same_Some old head e in omega arith

behind_below : (k : ℕ) (line : List (List ℕ)) (old : Option ℕ) → ((h : ℕ) → old ≡ Some h → h < k) → (head : ℕ) → head_behind k line old ≡ Some head → head < suc k
behind_below k line None below head e = new_head (is_section (line_entry line)) k head e
behind_below k line (Some old) below head e = old_head (is_end line) k old head (below old refl) e

head_below : (lines : List (List (List ℕ))) (k head : ℕ) → head_of lines k ≡ Some head → head < k
head_below lines zero head e = absurd (none-some head e)
head_below lines (suc k) head e = behind_below k (get_or lines k []) (head_of lines k) (head_below lines k) head e

module _ (n k head : ℕ) (lt : head < k) (le : k ≤ n) where
  closed_inside : (entry : Option Entry) → AllByRecursion (IsInside n) (upto k (begun head entry))
  closed_inside (Some (Tile tile code)) = (record { order = omega arith; within = le }, tt)
  closed_inside (Some (Switch tile code)) = (record { order = omega arith; within = le }, tt)
  closed_inside entry = tt

  if_inside : (b : Bool) (entry : Option Entry) → AllByRecursion (IsInside n) (cond b (upto k (begun head entry)) [])
  if_inside true entry = closed_inside entry
  if_inside false entry = tt

ended_inside : (lines : List (List (List ℕ))) (n k : ℕ) → k ≤ n → (head : Option ℕ) → head_of lines k ≡ head → AllByRecursion (IsInside n) (ended_at lines k head)
ended_inside lines n k le None e = tt
ended_inside lines n k le (Some head) e = if_inside n k head (head_below lines k head e) le (is_end (get_or lines k [])) (head_entry lines head)

sections_inside : (lines : List (List (List ℕ))) (n k : ℕ) → k ≤ n → AllByRecursion (IsInside n) (sections_before lines k)
sections_inside lines n zero le = tt
sections_inside lines n (suc k) le =
    all_join (IsInside n) (sections_before lines k) (ended_at lines k (head_of lines k)) (sections_inside lines n k (omega arith)) (ended_inside lines n k (omega arith) (head_of lines k) refl)

found : {X : Type 0} (P : X → Type 0) (test : X → Bool) (xs : List X) (x : X) → AllByRecursion P xs → find test xs ≡ Some x → P x
found P test [] x all e = absurd (none-some x e)
found P test (y ∷ xs) x all e = by (test y) e (found P test xs x all.1)
  where
    by : (b : Bool) → cond b (Some y) (find test xs) ≡ Some x → (find test xs ≡ Some x → P x) → P x
    by true is rest = subst P (same_Some y x is) all.0
    by false is rest = rest is

-- a section that was found is a part of the lines
pub found_inside : (lines : List (List (List ℕ))) (test : ProgramSection → Bool) (section : ProgramSection) → find test (sections_in lines) ≡ Some section → IsInside (length lines) section
found_inside lines test section e = found (IsInside (length lines)) test (sections_in lines) section (sections_inside lines (length lines) (length lines) (omega arith)) e

-- the part of a text, as one of its first lines
pub part_is : {X : Type 0} (all : List X) (n a b : ℕ) → a ≤ b → b ≤ n → slice_range all a b ≡ slice_range (take n all) a b
part_is all n a b order within =
    let m = n - a in
    let sum : n ≡ a + m = omega arith in
    let rest : drop a (take n all) ≡ take m (drop a all) = ap (λ k. drop a (take k all)) sum ∙ drop-take a m all in
    sym (take-take (b - a) m (drop a all) (omega arith)) ∙ sym (ap (take (b - a)) rest)

-- the first lines as a part
pub front_is : {X : Type 0} (all : List X) (n : ℕ) → slice_range all 0 n ≡ take n all
front_is all n = let count : n - 0 ≡ n = omega arith in ap (λ k. take k all) count
