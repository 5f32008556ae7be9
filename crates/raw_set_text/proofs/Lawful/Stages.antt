-- How the entries of lines without a fault begin, and that each behind them may stand there.
use Rattle.std.proofs.Common.{◌≡◌, ◌⊎◌, ℕ, ◌≤◌, Bool, true, false, not, cond, eqb, List, [], ◌∷◌, ◌++◌, length, Option, Some, None, refl, sym, ap, ◌∙◌, subst, arith, inl, inr, ⊎_elim}
use Rattle.std.proofs.lemmas.Bool.{cases_Bool, not-false, and_parts, eqb-true, false≢true}
use Rattle.std.proofs.lemmas.Option.{none-some}
use Rattle.std.proofs.lemmas.List.{nil_from_length}
use Rattle.raw_grid.specs.declared.limits.TheConstants.{MAX_SIZE}
use Rattle.raw_grid.specs.Topology.{IsSize}
use Rattle.raw_model.specs.declared.limits.TheConstants.{MAX_STEPS}
use Rattle.raw_model.specs.Program.{IsSet}
use Rattle.raw_set_text.specs.declared.kind.SetKind.{SetKind}
use Rattle.raw_set_text.specs.declared.kind.SetKind.TheVariants.{Missing, BadLine}
use Rattle.raw_set_text.specs.Entry.{Entry}
use Rattle.raw_set_text.specs.Entry.Entry.{Grid, Limit}
use Rattle.raw_set_text.specs.Forms.{line_entry}
use Rattle.raw_set_text.specs.Entries.{set_of}
use Rattle.raw_set_text.specs.Faults.{is_within, due_word, is_missing, form_fault, line_fault}
use Rattle.raw_set_text.specs.Sections.{is_section}
use Rattle.raw_set_text.proofs.Lawful.Entries.{Passes, passes, Follows, whole, Good, start, more, within_parts}
use Rattle.raw_set_text.proofs.Lawful.Forms.{line_formed, grid_line, limit_line}
use Rattle.raw_set_text.proofs.Lawful.Set.{IsLimit, lawful_whole}

-- no entry, the grid alone, or the grid, the limit and entries that each may stand where they do
pub data Stage : List Entry → Type 0 where
  nothing : Stage []
  grid : (columns rows : ℕ) → IsSize columns rows → Stage (Grid columns rows ∷ [])
  both : (columns rows limit : ℕ) (rest : List Entry) → IsSize columns rows → IsLimit limit → Good columns rows limit rest → Stage (whole columns rows limit rest)

-- a line outside sections declares this entry behind these, without a fault
pub record Taken (entries : List Entry) (line : List (List ℕ)) (entry : Entry) : Type 0 where
  pub due : is_missing (due_word entries) line ≡ false
  pub is : line_entry line ≡ Some entry
  pub passes : Passes entries entry

formed : (entries : List Entry) (o : Option Entry) → form_fault entries o ≡ None → (entry : Entry) × (o ≡ Some entry) × Passes entries entry
formed entries None e = absurd (none-some BadLine (sym e))
formed entries (Some entry) e = (entry, refl, passes entries entry e)

unless : (b : Bool) (kind : SetKind) (o : Option SetKind) → cond b (Some kind) o ≡ None → (b ≡ false) × (o ≡ None)
unless true kind o e = absurd (none-some kind (sym e))
unless false kind o e = (refl, e)

-- a line without a fault has no tokens, or declares an entry
pub line_cases : (entries : List Entry) (line : List (List ℕ)) → line_fault entries line ≡ None → (line ≡ []) ⊎ ((entry : Entry) × Taken entries line entry)
unfolding line_fault
line_cases entries line e =
    ⊎_elim
    (λ (yes : eqb (length line) 0 ≡ true). inl (nil_from_length line (eqb-true (length line) 0 yes)))
    (λ (no : eqb (length line) 0 ≡ false).
    let behind : cond (is_missing (due_word entries) line) (Some Missing) (form_fault entries (line_entry line)) ≡ None = rw no at e in
    let parts = unless (is_missing (due_word entries) line) Missing (form_fault entries (line_entry line)) behind in
    let found = formed entries (line_entry line) parts.1 in
    inr (found.0, record { due = parts.0; is = found.1; passes = found.2 }))
    (cases_Bool (eqb (length line) 0))

-- so the entry may stand there
pub follows : (entries : List Entry) (line : List (List ℕ)) (entry : Entry) → Taken entries line entry → Follows entries entry
follows entries line entry h = record { formed = line_formed entries line entry h.is; passes = h.passes }

size_from : (columns rows : ℕ) → Passes [] (Grid columns rows) → IsSize columns rows
size_from columns rows p =
    let both_fit = and_parts (is_within 1 MAX_SIZE columns) (is_within 1 MAX_SIZE rows) (not-false _ p.sized) in
    let column = within_parts 1 MAX_SIZE columns (ap not both_fit.0) in
    let row = within_parts 1 MAX_SIZE rows (ap not both_fit.1) in
    record { some_cols = column.0; most_cols = column.1; some_rows = row.0; most_rows = row.1 }

-- the first entry is the grid
first_is : (line : List (List ℕ)) (entry : Entry) → Taken [] line entry → (columns : ℕ) × (rows : ℕ) × (entry ≡ Grid columns rows)
first_is line entry h = grid_line line entry (not-false _ h.due) h.is

-- the second is the limit
second_is : (first : Entry) (line : List (List ℕ)) (entry : Entry) → Taken (first ∷ []) line entry → (limit : ℕ) × (entry ≡ Limit limit)
second_is first line entry h = limit_line line entry (not-false _ h.due) h.is

-- one entry more
pub stage_next : (entries : List Entry) → Stage entries → (line : List (List ℕ)) (entry : Entry) → Taken entries line entry → Stage (entries ++ entry ∷ [])
stage_next _ nothing line entry h =
    let found = first_is line entry h in
    let size = size_from found.0 found.1 (subst (Passes []) found.2 h.passes) in
    subst (λ x. Stage (x ∷ [])) (sym found.2) (grid found.0 found.1 size)
stage_next _ (grid columns rows size) line entry h =
    let found = second_is (Grid columns rows) line entry h in
    let p : Passes (Grid columns rows ∷ []) (Limit found.0) = subst (Passes (Grid columns rows ∷ [])) found.1 h.passes in
    subst (λ x. Stage (Grid columns rows ∷ x ∷ [])) (sym found.1) (both columns rows found.0 [] size (within_parts 1 MAX_STEPS found.0 p.within) start)
stage_next _ (both columns rows limit rest size steps good) line entry h =
    both columns rows limit (rest ++ entry ∷ []) size steps (more rest entry good (follows (whole columns rows limit rest) line entry h))

-- the head of a section stands behind the grid and the limit
pub section_late : (entries : List Entry) → Stage entries → (line : List (List ℕ)) (entry : Entry) → Taken entries line entry → is_section (Some entry) ≡ true → 2 ≤ length entries
section_late _ nothing line entry h e = let found = first_is line entry h in absurd (false≢true (sym (ap (λ x. is_section (Some x)) found.2) ∙ e))
section_late _ (grid columns rows size) line entry h e =
    let found = second_is (Grid columns rows) line entry h in absurd (false≢true (sym (ap (λ x. is_section (Some x)) found.1) ∙ e))
section_late _ (both columns rows limit rest size steps good) line entry h e = omega arith

-- an entry that may stand behind the grid and the limit
pub stage_more : (entries : List Entry) → Stage entries → (entry : Entry) → 2 ≤ length entries → Follows entries entry → Stage (entries ++ entry ∷ [])
stage_more _ nothing entry late h = absurd (omega (arith, late))
stage_more _ (grid columns rows size) entry late h = absurd (omega (arith, late))
stage_more _ (both columns rows limit rest size steps good) entry late h = both columns rows limit (rest ++ entry ∷ []) size steps (more rest entry good h)

-- with grid and limit they declare a lawful set
pub stage_lawful : (entries : List Entry) → Stage entries → 2 ≤ length entries → IsSet (set_of entries)
stage_lawful _ nothing late = absurd (omega (arith, late))
stage_lawful _ (grid columns rows size) late = absurd (omega (arith, late))
stage_lawful _ (both columns rows limit rest size steps good) late = lawful_whole columns rows limit rest size steps good
