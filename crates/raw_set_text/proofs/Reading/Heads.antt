-- The first two lines with tokens.
use Rattle.std.proofs.Common.{◌≡◌, ℕ, ◌<◌, Bool, true, false, not, List, [], ◌∷◌, length, get_or, drop, Option, Some, None, codes, bytes_eq, Result, Ok, Err, IfOk, refl, sym, ap, ap₂, subst, ◌∙◌, arith}
use Rattle.std.specs.Prelude.{◌==◌, if◌then◌else◌}
use Rattle.std.proofs.lemmas.Bool.Decides.{nat_tests}
use Rattle.std.proofs.lemmas.Slice.Eq.{bytes_eq-Decides}
use Rattle.raw_model.specs.declared.limits.TheConstants.{MAX_STEPS}
use Rattle.raw_set_text.specs.declared.kind.SetKind.TheVariants.{Missing, BadLine, OverLimit}
use Rattle.raw_set_text.specs.declared.word.Word.{Word}
use Rattle.raw_set_text.specs.declared.word.Word.TheVariants as word
use Rattle.raw_set_text.specs.declared.ports.Ports.{Ports}
use Rattle.raw_set_text.specs.declared.refused.LineRefusal.{LineRefusal}
use Rattle.raw_set_text.specs.Entry.{Entry}
use Rattle.raw_set_text.specs.Entry.Entry.{Grid, Limit}
use Rattle.raw_set_text.specs.Forms.{word_name, word_named, grid_entry, limit_entry, line_entry}
use Rattle.raw_set_text.specs.Entries.{topology_of}
use Rattle.raw_set_text.specs.Building.{PortsStand}
use Rattle.raw_set_text.specs.Faults.{due_word, is_within, line_fault, form_fault, entry_fault}

-- a line that begins with another word than is due
pub other_word : (entries : List Entry) (word : Word) (line : List (List ℕ)) → due_word entries ≡ Some word → 0 < length line → bytes_eq (get_or line 0 []) (word_name word) ≡ false → line_fault entries line ≡ Some Missing
unfolding line_fault
other_word entries word line due some other = let e : (length line == 0) ≡ false = grind (arith, nat_tests) in rw (e, due, other) refl

-- a line that begins with the word that is due
pub due_line : (entries : List Entry) (word : Word) (line : List (List ℕ)) (entry : Option Entry) → due_word entries ≡ Some word → 0 < length line → bytes_eq (get_or line 0 []) (word_name word) ≡ true
    → line_entry line ≡ entry → line_fault entries line ≡ form_fault entries entry
unfolding line_fault
due_line entries word line entry due some begins is = let e : (length line == 0) ≡ false = grind (arith, nat_tests) in rw (e, due, begins, is) refl

-- a line behind the first two
pub later_line : (entries : List Entry) (line : List (List ℕ)) (entry : Option Entry) → due_word entries ≡ None → 0 < length line → line_entry line ≡ entry → line_fault entries line ≡ form_fault entries entry
unfolding line_fault
later_line entries line entry due some is = let e : (length line == 0) ≡ false = grind (arith, nat_tests) in rw (e, due, is) refl

grid_named : word_named (codes "grid") ≡ Some word.Grid
unfolding word_named
grid_named = refl

limit_named : word_named (codes "limit") ≡ Some word.Limit
unfolding word_named
limit_named = refl

same_bytes : (xs ys : List ℕ) → bytes_eq xs ys ≡ true → xs ≡ ys
same_bytes xs ys e = (bytes_eq-Decides xs ys).0 e

pub grid_is : (line : List (List ℕ)) → bytes_eq (get_or line 0 []) (codes "grid") ≡ true → line_entry line ≡ grid_entry (drop 1 line)
unfolding line_entry
grid_is line begins = rw (same_bytes (get_or line 0 []) (codes "grid") begins, grid_named) refl

pub limit_is : (line : List (List ℕ)) → bytes_eq (get_or line 0 []) (codes "limit") ≡ true → line_entry line ≡ limit_entry (drop 1 line)
unfolding line_entry
limit_is line begins = rw (same_bytes (get_or line 0 []) (codes "limit") begins, limit_named) refl

over : (b : Bool) → (if not b then Some OverLimit else None) ≡ (if b then None else Some OverLimit)
over true = refl
over false = refl

-- a limit behind the grid is looked at for its range alone
pub limit_fault : (columns rows n : ℕ) → entry_fault (Grid columns rows ∷ []) (Limit n) ≡ (if is_within 1 MAX_STEPS n then None else Some OverLimit)
unfolding entry_fault
limit_fault columns rows n = over (is_within 1 MAX_STEPS n)

-- a grid of no entries and a grid alone
pub grid_line_fault : (line : List (List ℕ)) (columns rows : ℕ) → 0 < length line → bytes_eq (get_or line 0 []) (codes "grid") ≡ true → grid_entry (drop 1 line) ≡ Some (Grid columns rows)
    → line_fault [] line ≡ entry_fault [] (Grid columns rows)
grid_line_fault line columns rows some begins is = due_line [] word.Grid line (Some (Grid columns rows)) refl some begins (grid_is line begins ∙ is)

pub grid_form_fault : (line : List (List ℕ)) → 0 < length line → bytes_eq (get_or line 0 []) (codes "grid") ≡ true → grid_entry (drop 1 line) ≡ None → line_fault [] line ≡ Some BadLine
grid_form_fault line some begins is = due_line [] word.Grid line None refl some begins (grid_is line begins ∙ is)

pub limit_line_fault : (columns rows : ℕ) (line : List (List ℕ)) (n : ℕ) → 0 < length line → bytes_eq (get_or line 0 []) (codes "limit") ≡ true → limit_entry (drop 1 line) ≡ Some (Limit n)
    → line_fault (Grid columns rows ∷ []) line ≡ (if is_within 1 MAX_STEPS n then None else Some OverLimit)
limit_line_fault columns rows line n some begins is =
    due_line (Grid columns rows ∷ []) word.Limit line (Some (Limit n)) refl some begins (limit_is line begins ∙ is) ∙ limit_fault columns rows n

pub limit_form_fault : (columns rows : ℕ) (line : List (List ℕ)) → 0 < length line → bytes_eq (get_or line 0 []) (codes "limit") ≡ true → limit_entry (drop 1 line) ≡ None
    → line_fault (Grid columns rows ∷ []) line ≡ Some BadLine
limit_form_fault columns rows line some begins is = due_line (Grid columns rows ∷ []) word.Limit line None refl some begins (limit_is line begins ∙ is)

-- the grid that is built has the size that was declared
size_is : (ports : Ports) (columns rows : ℕ) → PortsStand ports (Grid columns rows ∷ []) → (ports.topo.cols ≡ columns) × (ports.topo.rows ≡ rows)
unfolding topology_of
size_is ports columns rows stands = (ap (λ topo. topo.cols) stands.topo, ap (λ topo. topo.rows) stands.topo)

pub grid_entry_kept : (result : Result Ports LineRefusal) (columns rows : ℕ) (entry : Option Entry) → entry ≡ Some (Grid columns rows) → IfOk result (λ ports. PortsStand ports (Grid columns rows ∷ []))
    → IfOk result (λ ports. entry ≡ Some (Grid ports.topo.cols ports.topo.rows))
grid_entry_kept (Ok ports) columns rows entry is stands = let size = size_is ports columns rows stands in is ∙ ap₂ (λ c r. Some (Grid c r)) (sym size.0) (sym size.1)
grid_entry_kept (Err refusal) columns rows entry is stands = tt

pub grid_stands_kept : (result : Result Ports LineRefusal) (columns rows : ℕ) → IfOk result (λ ports. PortsStand ports (Grid columns rows ∷ []))
    → IfOk result (λ ports. PortsStand ports (Grid ports.topo.cols ports.topo.rows ∷ []))
grid_stands_kept (Ok ports) columns rows stands =
    let size = size_is ports columns rows stands in
    subst (λ (entry : Entry). PortsStand ports (entry ∷ [])) (ap₂ Grid (sym size.0) (sym size.1)) stands
grid_stands_kept (Err refusal) columns rows stands = tt
