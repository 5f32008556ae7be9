-- How lines end the head, one after another.
use Rattle.std.proofs.Common.{◌≡◌, ℕ, ◌+◌, if◌then◌else◌, Bool, true, false, List, [], ◌∷◌, ◌++◌, length, Option, Some, None, refl, sym, ap, subst, ◌∙◌, arith}
use Rattle.std.specs.Prelude.{nat_le}
use Rattle.std.specs.Option.{option_or}
use Rattle.std.specs.List.{list_all}
use Rattle.raw_text.specs.Lines.{is_plain, runs_of, tokens_of, line_fault, first_fault}
use Rattle.raw_text.specs.Text.{is_word}
use Rattle.raw_text.specs.declared.limits.TheConstants.{MAX_LINE}
use Rattle.raw_text.specs.declared.lines.TextRefusal.{TextRefusal}
use Rattle.raw_text.specs.declared.lines.TextRefusal.TheVariants.{NotAscii, LineTooLong}
use Rattle.raw_live_text.specs.declared.fault.LineFault.{LineFault}
use Rattle.raw_live_text.specs.declared.fault.LineFault.TheVariants as told
use Rattle.raw_live_text.specs.declared.head.HeadEnd.{HeadEnd}
use Rattle.raw_live_text.specs.declared.head.HeadEnd.TheVariants.{Open, Mark, Fault}
use Rattle.raw_live_text.proofs.Pieces.{empty_is}
use Rattle.raw_live_text.specs.Heads.{IsFaultOf, unless_fault, word_end, line_end, first_end, head_of}

first_assoc : (a b c : HeadEnd) → first_end (first_end a b) c ≡ first_end a (first_end b c)
first_assoc Open b c = refl
first_assoc _ b c = refl

first_none : (a : HeadEnd) → first_end a Open ≡ a
first_none Open = refl
first_none _ = refl

differs : (fault : TextRefusal) → Some fault ≡ None → ⊥
differs fault e = grind (arith, e)

-- the fault of a line that has only such bytes, or is so short
abbrev fault_at : Bool → Bool → ℕ → Option TextRefusal
fault_at plain short number = if plain then (if short then None else Some (LineTooLong number)) else Some (NotAscii number)

renumber_none : (plain short : Bool) (m n : ℕ) → fault_at plain short m ≡ None → fault_at plain short n ≡ None
renumber_none true true m n e = refl
renumber_none true false m n e = absurd (differs _ e)
renumber_none false short m n e = absurd (differs _ e)

renumber_ascii : (plain short : Bool) (m n k : ℕ) → fault_at plain short m ≡ Some (NotAscii k) → fault_at plain short n ≡ Some (NotAscii n)
renumber_ascii true true m n k e = absurd (differs _ (sym e))
renumber_ascii true false m n k e = absurd (grind (arith, e))
renumber_ascii false short m n k e = refl

renumber_long : (plain short : Bool) (m n k : ℕ) → fault_at plain short m ≡ Some (LineTooLong k) → fault_at plain short n ≡ Some (LineTooLong n)
renumber_long true true m n k e = absurd (differs _ (sym e))
renumber_long true false m n k e = refl
renumber_long false short m n k e = absurd (grind (arith, e))

marked_at : (plain short word : Bool) (n k : ℕ) → unless_fault (fault_at plain short n) (if word then Mark n else Open) ≡ Mark k → unless_fault (fault_at plain short n) (if word then Mark n else Open) ≡ Mark n
marked_at true true true n k e = refl
marked_at true true false n k e = absurd (grind (arith, e))
marked_at true false word n k e = absurd (grind (arith, e))
marked_at false short word n k e = absurd (grind (arith, e))

record Faultless (fault : Option TextRefusal) (rest : HeadEnd) : Type 0 where
  none : fault ≡ None
  later : rest ≡ Open

open_at_end : (end rest : HeadEnd) → first_end end rest ≡ Open → rest ≡ Open
open_at_end Open rest e = e
open_at_end _ rest e = absurd (grind (arith, e))

faultless_at : (plain short : Bool) (n : ℕ) (end rest : HeadEnd) → first_end (unless_fault (fault_at plain short n) end) rest ≡ Open → Faultless (fault_at plain short n) rest
faultless_at true true n end rest e = record { none = refl; later = open_at_end end rest e }
faultless_at true false n end rest e = absurd (grind (arith, e))
faultless_at false short n end rest e = absurd (grind (arith, e))

told_here : (line : ℕ) (kind : LineFault) (fault : Option TextRefusal) (later : Option TextRefusal) → fault ≡ Some (NotAscii line) → kind ≡ told.NotAscii → IsFaultOf line kind (option_or fault later)
told_here line kind fault later e same = subst (λ k. IsFaultOf line k (option_or fault later)) (sym same) (ap (λ f. option_or f later) e)

told_long : (line : ℕ) (kind : LineFault) (fault : Option TextRefusal) (later : Option TextRefusal) → fault ≡ Some (LineTooLong line) → kind ≡ told.LineTooLong → IsFaultOf line kind (option_or fault later)
told_long line kind fault later e same = subst (λ k. IsFaultOf line k (option_or fault later)) (sym same) (ap (λ f. option_or f later) e)

same_fault : (m n : ℕ) (a b : LineFault) → Fault m a ≡ Fault n b → (m ≡ n) × (b ≡ a)
same_fault m n a b e = (cc, cc)

later_fault : (number line : ℕ) (word : Bool) (kind : LineFault) (rest : HeadEnd) → first_end (if word then Mark number else Open) rest ≡ Fault line kind → rest ≡ Fault line kind
later_fault number line true kind rest e = absurd (grind (arith, e))
later_fault number line false kind rest e = e

told_at : (plain short word : Bool) (number line : ℕ) (kind : LineFault) (rest : HeadEnd) (later : Option TextRefusal) → (rest ≡ Fault line kind → IsFaultOf line kind later)
    → first_end (unless_fault (fault_at plain short number) (if word then Mark number else Open)) rest ≡ Fault line kind → IsFaultOf line kind (option_or (fault_at plain short number) later)
told_at true true word number line kind rest later next e = next (later_fault number line word kind rest e)
told_at true false word number line kind rest later next e = let same = same_fault number line told.LineTooLong kind e in told_long line kind (Some (LineTooLong number)) later (ap (λ n. Some (LineTooLong n)) same.0) same.1
told_at false short word number line kind rest later next e = let same = same_fault number line told.NotAscii kind e in told_here line kind (Some (NotAscii number)) later (ap (λ n. Some (NotAscii n)) same.0) same.1

module _ (word : List ℕ) where
  pub head_append : (number next : ℕ) (xs ys : List (List ℕ)) → next ≡ number + length xs → head_of word number (xs ++ ys) ≡ first_end (head_of word number xs) (head_of word next ys)
  head_append number next [] ys e = ap (λ n. head_of word n ys) (omega (arith, e))
  head_append number next (x ∷ xs) ys e =
      ap (first_end (line_end word number x)) (head_append (number + 1) next xs ys (omega (arith, e))) ∙ sym (first_assoc (line_end word number x) (head_of word (number + 1) xs) (head_of word next ys))

  pub mark_stays : (number line : ℕ) (xs ys : List (List ℕ)) → head_of word number xs ≡ Mark line → head_of word number (xs ++ ys) ≡ Mark line
  mark_stays number line xs ys e = head_append number (number + length xs) xs ys refl ∙ ap (λ h. first_end h (head_of word (number + length xs) ys)) e

  pub fault_stays : (number line : ℕ) (kind : LineFault) (xs ys : List (List ℕ)) → head_of word number xs ≡ Fault line kind → head_of word number (xs ++ ys) ≡ Fault line kind
  fault_stays number line kind xs ys e = head_append number (number + length xs) xs ys refl ∙ ap (λ h. first_end h (head_of word (number + length xs) ys)) e

  -- one line more
  pub head_push : (number : ℕ) (xs : List (List ℕ)) (line : List ℕ) → head_of word 1 xs ≡ Open → number ≡ length xs + 1 → head_of word 1 (xs ++ line ∷ []) ≡ line_end word number line
  head_push number xs line e count =
      head_append 1 number xs (line ∷ []) (omega (arith, count)) ∙ ap (λ h. first_end h (head_of word number (line ∷ []))) e ∙ first_none (line_end word number line)

  empty_end : (number : ℕ) → Open ≡ line_end word number []
  unfolding line_end runs_of
  empty_end number = refl

  module _ (number : ℕ) (line : List ℕ) where
    pub empty_open : length line ≡ 0 → Open ≡ line_end word number line
    empty_open none = empty_end number ∙ ap (line_end word number) (sym (empty_is line none))

    pub end_by_word : line_fault 1 line ≡ None → word_end word number (tokens_of line) ≡ line_end word number line
    unfolding line_end
    end_by_word none =
        sym (ap (λ f. unless_fault f (word_end word number (tokens_of line))) (renumber_none (list_all is_plain line) (nat_le (length line) MAX_LINE) 1 number none))

    pub end_not_ascii : (k : ℕ) → line_fault 1 line ≡ Some (NotAscii k) → Fault number told.NotAscii ≡ line_end word number line
    unfolding line_end
    end_not_ascii k e =
        sym (ap (λ f. unless_fault f (word_end word number (tokens_of line))) (renumber_ascii (list_all is_plain line) (nat_le (length line) MAX_LINE) 1 number k e))

    pub end_long : (k : ℕ) → line_fault 1 line ≡ Some (LineTooLong k) → Fault number told.LineTooLong ≡ line_end word number line
    unfolding line_end
    end_long k e =
        sym (ap (λ f. unless_fault f (word_end word number (tokens_of line))) (renumber_long (list_all is_plain line) (nat_le (length line) MAX_LINE) 1 number k e))

    pub end_marks : (k : ℕ) → line_end word number line ≡ Mark k → line_end word number line ≡ Mark number
    unfolding line_end
    end_marks k e = marked_at (list_all is_plain line) (nat_le (length line) MAX_LINE) (is_word word (tokens_of line)) number k e

    one_faultless : (rest : HeadEnd) → first_end (line_end word number line) rest ≡ Open → Faultless (line_fault number line) rest
    unfolding line_end
    one_faultless rest e = faultless_at (list_all is_plain line) (nat_le (length line) MAX_LINE) number (word_end word number (tokens_of line)) rest e

  -- lines that do not end the head have no fault of their bytes
  pub faultless : (number : ℕ) (lines : List (List ℕ)) → head_of word number lines ≡ Open → first_fault number lines ≡ None
  faultless number [] e = refl
  faultless number (line ∷ lines) e =
      let one = one_faultless number line (head_of word (number + 1) lines) e in
      rw one.none (faultless (number + 1) lines one.later)

  pub unended_goes_on : (number : ℕ) (front back : List (List ℕ)) → head_of word number front ≡ Open → head_of word number (front ++ back) ≡ head_of word (number + length front) back
  unended_goes_on number front back e = head_append number (number + length front) front back refl ∙ ap (λ h. first_end h (head_of word (number + length front) back)) e

  -- a fault that ends the head is the first fault of the bytes of a line
  pub fault_told : (number line : ℕ) (kind : LineFault) (lines : List (List ℕ)) → head_of word number lines ≡ Fault line kind → IsFaultOf line kind (first_fault number lines)
  unfolding line_end
  fault_told number line kind [] e = absurd (grind (arith, e))
  fault_told number line kind (x ∷ lines) e =
      told_at (list_all is_plain x) (nat_le (length x) MAX_LINE) (is_word word (tokens_of x)) number line kind (head_of word (number + 1) lines) (first_fault (number + 1) lines) (fault_told (number + 1) line kind lines) e
