-- Words put in and put back.
use Rattle.std.proofs.Common.{◌≡◌, ℕ, ◌+◌, ◌≤◌, List, [], ◌∷◌, length, take, drop, refl, sym, ap, ap₂, ◌∙◌, subst, arith, length-drop}
use Rattle.std.specs.Prelude.{sum_by}
use Rattle.std.proofs.lemmas.List.{length-take-le}
use Rattle.std.proofs.lemmas.List.Sums.{sum_by-cons}
use Rattle.std.proofs.lemmas.List.Concat.{length-flat_map}
use Rattle.raw_model.specs.Program.{ProgramSet, PortProgram}
use Rattle.raw_model.specs.Bounds.{all_words}
use Rattle.raw_model.specs.Fed.{fed, fed_ports}
use Rattle.raw_term.proofs.Own.{own_ports}
use Rattle.raw_refute.specs.Answers.{own_words}

abbrev words_in : PortProgram → ℕ
words_in port = length port.words

-- how many words there are among ports
abbrev count_in : List PortProgram → ℕ
count_in ports = sum_by words_in ports

more_in : (port : PortProgram) (ports : List PortProgram) → count_in (port ∷ ports) ≡ length port.words + count_in ports
more_in port ports = sum_by-cons words_in port ports

own_enough : (port : PortProgram) (ports : List PortProgram) (words : List ℕ) → count_in (port ∷ ports) ≤ length words → length (take (length port.words) words) ≡ length port.words
own_enough port ports words h = length-take-le (length port.words) words (omega (arith, h, more_in port ports))

left_enough : (port : PortProgram) (ports : List PortProgram) (words : List ℕ) → count_in (port ∷ ports) ≤ length words → count_in ports ≤ length (drop (length port.words) words)
left_enough port ports words h = omega (arith, h, more_in port ports, length-drop (length port.words) words)

-- words that are put in and then others: the others
pub fed_over : (ports : List PortProgram) (words others : List ℕ) → count_in ports ≤ length words → fed_ports (fed_ports ports words) others ≡ fed_ports ports others
fed_over [] words others h = refl
fed_over (port ∷ ports) words others h =
    ap (λ (n : ℕ). record port { words = take n others } ∷ fed_ports (fed_ports ports (drop (length port.words) words)) (drop n others)) (own_enough port ports words h)
    ∙ ap (λ (more : List PortProgram). record port { words = take (length port.words) others } ∷ more) (fed_over ports (drop (length port.words) words) (drop (length port.words) others) (left_enough port ports words h))

-- as many words as before
pub fed_count : (ports : List PortProgram) (words : List ℕ) → count_in ports ≤ length words → count_in (fed_ports ports words) ≡ count_in ports
fed_count [] words h = refl
fed_count (port ∷ ports) words h =
    more_in (record port { words = take (length port.words) words }) (fed_ports ports (drop (length port.words) words))
    ∙ ap₂ (λ (n m : ℕ). n + m) (own_enough port ports words h) (fed_count ports (drop (length port.words) words) (left_enough port ports words h))
    ∙ sym (more_in port ports)

pub own_each : (set : ProgramSet) → length (own_words set) ≡ all_words set
own_each set = length-flat_map (λ (port : PortProgram). port.words) set.ports

-- its own words change nothing, and undo others
pub own_stays : (set : ProgramSet) → fed set (own_words set) ≡ set
own_stays set = ap (λ (ports : List PortProgram). record set { ports = ports }) (own_ports set.ports)

pub own_again : (set : ProgramSet) (words : List ℕ) → length words ≡ all_words set → fed (fed set words) (own_words set) ≡ set
own_again set words e =
    ap (λ (ports : List PortProgram). record set { ports = ports }) (fed_over set.ports words (own_words set) (omega (arith, e))) ∙ own_stays set

-- a set has as many words as before
pub fed_words : (set : ProgramSet) (words : List ℕ) → length words ≡ all_words set → all_words (fed set words) ≡ all_words set
fed_words set words e = fed_count set.ports words (omega (arith, e))
