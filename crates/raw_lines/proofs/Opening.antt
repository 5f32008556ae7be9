-- Which section is open behind a line, and which has ended.
use Rattle.std.proofs.Common.{◌≡◌, ℕ, ◌+◌, Bool, true, false, cond, List, [], ◌++◌, get_or, Option, Some, None, is_some, refl, sym, ap, ◌∙◌, add-one}
use Rattle.raw_set_text.specs.Entry.{Entry}
use Rattle.raw_set_text.specs.Entry.Entry.{Tile, Switch}
use Rattle.raw_set_text.specs.Forms.{line_entry}
use Rattle.raw_set_text.specs.Sections.{is_section, is_end, head_behind, head_of, head_entry}
use Rattle.raw_lines.specs.declared.section.ProgramSection.{ProgramSection}
use Rattle.raw_lines.specs.Sections.{begun, upto, ended_at, sections_before}
use Rattle.raw_lines.specs.Reading.{open_behind, ended_by}

-- the section with this head
abbrev pub open_in : List (List (List ℕ)) → Option ℕ → Option ProgramSection
open_in lines None = None
open_in lines (Some head) = begun head (head_entry lines head)

-- the section that is open behind the first k lines
pub record IsOpen (lines : List (List (List ℕ))) (k : ℕ) (open_one : Option ProgramSection) : Type 0 where
  pub section : open_one ≡ open_in lines (head_of lines k)
  pub some : is_some open_one ≡ is_some (head_of lines k)

begun_some : (place : ℕ) (entry : Option Entry) → is_some (begun place entry) ≡ is_section entry
begun_some place (Some (Tile tile code)) = refl
begun_some place (Some (Switch tile code)) = refl
begun_some place entry = refl

outside : (lines : List (List (List ℕ))) (k : ℕ) (entry : Option Entry) → head_entry lines k ≡ entry → begun k entry ≡ open_in lines (cond (is_section entry) (Some k) None)
outside lines k (Some (Tile tile code)) e = sym (ap (begun k) e)
outside lines k (Some (Switch tile code)) e = sym (ap (begun k) e)
outside lines k entry e = refl

going_on : (lines : List (List (List ℕ))) (head : ℕ) (section : ProgramSection) → begun head (head_entry lines head) ≡ Some section → (b : Bool)
    → cond b None (Some section) ≡ open_in lines (cond b None (Some head))
going_on lines head section e true = refl
going_on lines head section e false = sym e

inside : (lines : List (List (List ℕ))) (k : ℕ) (line : List (List ℕ)) (head : ℕ) (one : Option ProgramSection) → begun head (head_entry lines head) ≡ one → is_some one ≡ true
    → open_behind k line one ≡ open_in lines (cond (is_end line) None (Some head))
inside lines k line head None e some = absurd (cc some)
inside lines k line head (Some section) e some = going_on lines head section e (is_end line)

opens : (lines : List (List (List ℕ))) (k : ℕ) (line : List (List ℕ)) (head : Option ℕ) → line ≡ get_or lines k [] → is_some (open_in lines head) ≡ is_some head
    → open_behind k line (open_in lines head) ≡ open_in lines (head_behind k line head)
opens lines k line None is some = outside lines k (line_entry line) (ap line_entry (sym is))
opens lines k line (Some head) is some = inside lines k line head (begun head (head_entry lines head)) refl some

at_head : (b : Bool) (k : ℕ) → b ≡ is_some (cond b (Some k) None)
at_head true k = refl
at_head false k = refl

stays : (b : Bool) (section : ProgramSection) (head : ℕ) → is_some (cond b None (Some section)) ≡ is_some (cond b None (Some head))
stays true section head = refl
stays false section head = refl

somes : (k : ℕ) (line : List (List ℕ)) (one : Option ProgramSection) (head : Option ℕ) → is_some one ≡ is_some head → is_some (open_behind k line one) ≡ is_some (head_behind k line head)
somes k line None None some = begun_some k (line_entry line) ∙ at_head (is_section (line_entry line)) k
somes k line (Some section) (Some head) some = stays (is_end line) section head
somes k line None (Some head) some = absurd (cc some)
somes k line (Some section) None some = absurd (cc some)

-- one line on
pub open_next : (lines : List (List (List ℕ))) (k : ℕ) (line : List (List ℕ)) (old new : Option ProgramSection) → line ≡ get_or lines k [] → IsOpen lines k old → new ≡ open_behind k line old
    → IsOpen lines (k + 1) new
open_next lines k line old new is before now =
    let head = head_of lines k in
    let next : head_of lines (k + 1) ≡ head_behind k line head = ap (head_of lines) (add-one k) ∙ ap (λ l. head_behind k l head) (sym is) in
    let held : is_some (open_in lines head) ≡ is_some head = ap is_some (sym before.section) ∙ before.some in
    record {
      section = now ∙ ap (open_behind k line) before.section ∙ opens lines k line head is held ∙ ap (open_in lines) (sym next);
      some = ap is_some now ∙ somes k line old head before.some ∙ ap is_some (sym next);
    }

ended_inside : (k : ℕ) (line : List (List ℕ)) (one : Option ProgramSection) → is_some one ≡ true → ended_by k line one ≡ cond (is_end line) (upto k one) []
ended_inside k line None some = absurd (cc some)
ended_inside k line (Some section) some = refl

ends : (lines : List (List (List ℕ))) (k : ℕ) (line : List (List ℕ)) (one : Option ProgramSection) (head : Option ℕ) → line ≡ get_or lines k [] → one ≡ open_in lines head → is_some one ≡ is_some head
    → ended_by k line one ≡ ended_at lines k head
ends lines k line one None is same some = ap (ended_by k line) same
ends lines k line one (Some head) is same some =
    ended_inside k line one some ∙ ap (λ s. cond (is_end line) (upto k s) []) same
    ∙ ap (λ l. cond (is_end l) (upto k (begun head (head_entry lines head))) []) is

-- the sections that have ended, one line on
pub sections_next : (lines : List (List (List ℕ))) (k : ℕ) (line : List (List ℕ)) (one : Option ProgramSection) (old new : List ProgramSection) → line ≡ get_or lines k [] → IsOpen lines k one
    → old ≡ sections_before lines k → new ≡ old ++ ended_by k line one → new ≡ sections_before lines (k + 1)
sections_next lines k line one old new is before so_far now =
    now ∙ ap (λ s. s ++ ended_by k line one) so_far ∙ ap (λ s. sections_before lines k ++ s) (ends lines k line one (head_of lines k) is before.section before.some)
    ∙ sym (ap (sections_before lines) (add-one k))
