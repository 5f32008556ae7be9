-- What lines put are words of 32 bits for the sources that they are judged by.
use Rattle.std.proofs.Common.{◌≡◌, ℕ, ◌+◌, ◌-◌, ◌^◌, ◌<◌, ◌≤◌, ◌==◌, ◌&&◌, if◌then◌else◌, Bool, true, false, List, [], ◌∷◌, ◌++◌, length, get_or, Option, Some, None, refl, ap, ◌∙◌, arith, length-append}
use Rattle.std.specs.Prelude.{slice_get, slice_index_or, codes}
use Rattle.std.specs.List.{position}
use Rattle.std.specs.Option.{option_map, option_and_then}
use Rattle.std.proofs.lemmas.Bool.Decides.{nat_tests}
use Rattle.std.proofs.lemmas.List.Quantifiers.{position-Some}
use Rattle.std.proofs.lemmas.Option.{slice_get-get_or}
use Rattle.raw_text.specs.Number.{number_of}
use Rattle.raw_text.proofs.NumberBounds.{number_small}
use Rattle.raw_text.specs.Lines.{line_fault, tokens_of}
use Rattle.raw_text.specs.declared.lines.TextRefusal.{TextRefusal}
use Rattle.raw_text.specs.declared.lines.TextRefusal.TheVariants.{NotAscii, LineTooLong}
use Rattle.raw_grid.specs.declared.parts.Net.{Net}
use Rattle.raw_grid.specs.declared.parts.Net.TheVariants as net
use Rattle.raw_grid.specs.declared.parts.Side.{Side}
use Rattle.raw_grid.specs.declared.parts.Side.TheVariants as side
use Rattle.std.specs.Str.{bytes_eq}
use Rattle.raw_grid.specs.Names.{net_named, side_named}
use Rattle.raw_grid.specs.declared.parts.PortPlace.{PortPlace}
use Rattle.raw_grid.specs.declared.parts.PortKind.{PortKind}
use Rattle.raw_grid.specs.declared.parts.PortKind.TheVariants as kind
use Rattle.raw_queue.specs.declared.item.Item.{Item}
use Rattle.raw_queue.specs.declared.item.Item.TheVariants as item
use Rattle.raw_live_text.specs.declared.intake.Intake.{Intake}
use Rattle.raw_live_text.specs.declared.put.Put.{Put}
use Rattle.raw_live_text.specs.declared.fault.LineFault.{LineFault}
use Rattle.raw_live_text.specs.declared.fault.LineFault.TheVariants.{OverLimit}
use Rattle.raw_live_text.specs.declared.put.Said.{Said}
use Rattle.raw_live_text.specs.declared.put.Said.TheVariants.{Nothing, Word, Fault}
use Rattle.raw_live_text.specs.Puts.{is_source, is_source_of, operands_of, put_of, source_says, put_says, tokens_say, fault_or, says}
use Rattle.raw_live_text.specs.Feeding.{Fed, open_at, faulty_at, with_said, unless_faulty, after_line, after_lines, fed, AreForSources}

push_for : (intake : Intake) (items : List Item) (port word : ℕ) → AreForSources intake items
    → option_map (λ (place : PortPlace). place.kind) (slice_get intake.places.items (port - intake.first_port)) ≡ Some kind.Source → word < 2 ^ 32 → AreForSources intake (items ++ item.Word port word ∷ [])
push_for intake [] port word are source small = (source, small, tt)
push_for intake (item.Word p w ∷ items) port word are source small = (are.0, are.1, push_for intake items port word are.2 source small)
push_for intake (item.End ∷ items) port word are source small = absurd are

-- the word of a `put` line is one of 32 bits
operands_small : (net : Option Net) (x y : Option ℕ) (side : Option Side) (word : Option ℕ) (put : Put) → ((v : ℕ) → word ≡ Some v → v < 2 ^ 32)
    → option_and_then (λ net. option_and_then (λ x. option_and_then (λ y. option_and_then (λ side. option_and_then (λ word.
    Some (record { net = net; x = x; y = y; side = side; word = word })) word) side) y) x) net ≡ Some put → put.word < 2 ^ 32
operands_small (Some net) (Some x) (Some y) (Some side) (Some word) put small e = small put.word (cc)
operands_small None x y side word put small e = absurd (cc)
operands_small (Some net) None y side word put small e = absurd (cc)
operands_small (Some net) (Some x) None side word put small e = absurd (cc)
operands_small (Some net) (Some x) (Some y) None word put small e = absurd (cc)
operands_small (Some net) (Some x) (Some y) (Some side) None put small e = absurd (cc)

put_by : (tokens : List (List ℕ)) (put : Put) (b : Bool) → (if b then operands_of tokens else None) ≡ Some put → put.word < 2 ^ 32
put_by tokens put true e = operands_small (net_named (slice_index_or tokens 1 [])) (number_of (slice_index_or tokens 2 [])) (number_of (slice_index_or tokens 3 [])) (side_named (slice_index_or tokens 4 [])) (number_of (slice_index_or tokens 5 [])) put (number_small (slice_index_or tokens 5 [])) e
put_by tokens put false e = absurd (cc)

put_small : (tokens : List (List ℕ)) (put : Put) → put_of tokens ≡ Some put → put.word < 2 ^ 32
unfolding put_of
put_small tokens put e = put_by tokens put ((length tokens == 6) && bytes_eq (slice_index_or tokens 0 []) (codes "put")) e

is_source_kind : (k : PortKind) → is_source k ≡ true → k ≡ kind.Source
is_source_kind kind.Source e = refl
is_source_kind kind.Sink e = absurd (cc)

first_true : (a b c d e : Bool) → a && b && c && d && e ≡ true → a ≡ true
first_true true b c d e is = refl
first_true false b c d e is = absurd (cc)

a_place : PortPlace
a_place = record { kind = kind.Source; net = net.One; x = 0; y = 0; side = side.N }

source_place : (put : Put) (place : PortPlace) → is_source_of put place ≡ true → place.kind ≡ kind.Source
unfolding is_source_of
source_place put place e = is_source_kind place.kind (first_true _ _ _ _ _ e)

module _ (intake : Intake) where
  -- what a line says is a word of 32 bits for a source
  abbrev IsFor : Said → Type 0
  IsFor (Word port word) = (option_map (λ (place : PortPlace). place.kind) (slice_get intake.places.items (port - intake.first_port)) ≡ Some kind.Source) × (word < 2 ^ 32)
  IsFor _ = Unit {0}

  kind_at : (put : Put) (i : ℕ) → position (is_source_of put) intake.places.items ≡ Some i → option_map (λ (place : PortPlace). place.kind) (slice_get intake.places.items i) ≡ Some kind.Source
  kind_at put i e =
      let at = position-Some (is_source_of put) intake.places.items i a_place e in
      let there : slice_get intake.places.items i ≡ Some (get_or intake.places.items i a_place) = slice_get-get_or intake.places.items i a_place at.0 in
      ap (option_map (λ (place : PortPlace). place.kind)) there ∙ ap Some (source_place put (get_or intake.places.items i a_place) at.1)

  source_for : (word : ℕ) (put : Put) (found : Option ℕ) → position (is_source_of put) intake.places.items ≡ found → word < 2 ^ 32 → IsFor (source_says intake word found)
  source_for word put None e small = tt
  source_for word put (Some i) e small =
      let at : intake.first_port + i - intake.first_port ≡ i = omega arith in
      (ap (λ n. option_map (λ (place : PortPlace). place.kind) (slice_get intake.places.items n)) at ∙ kind_at put i e, small)

  puts_for : (put : Option Put) → ((p : Put) → put ≡ Some p → p.word < 2 ^ 32) → IsFor (put_says intake put)
  puts_for None small = tt
  puts_for (Some put) small = source_for put.word put (position (is_source_of put) intake.places.items) refl (small put refl)

  tokens_for : (tokens : List (List ℕ)) → IsFor (tokens_say intake tokens)
  tokens_for [] = tt
  tokens_for (token ∷ tokens) = puts_for (put_of (token ∷ tokens)) (put_small (token ∷ tokens))

  fault_for : (fault : Option TextRefusal) (said : Said) → IsFor said → IsFor (fault_or fault said)
  fault_for (Some (NotAscii line)) said h = tt
  fault_for (Some (LineTooLong line)) said h = tt
  fault_for _ said h = h

  says_for : (line : List ℕ) → IsFor (says intake line)
  unfolding says
  says_for line = fault_for (line_fault 1 line) (tokens_say intake (tokens_of line)) (tokens_for (tokens_of line))

  -- what was fed so far
  pub record IsWithin (s : Fed) : Type 0 where
    pub are : AreForSources intake s.items
    pub few : length s.items ≤ intake.room

  said_within : (number : ℕ) (items : List Item) (said : Said) → IsFor said → IsWithin (open_at number items) → IsWithin (with_said intake number items said)
  said_within number items Nothing h s = record { are = s.are; few = s.few }
  said_within number items (Word port word) h s =
      elim (length items == intake.room) as (λ b. (length items == intake.room) ≡ b → IsWithin (if b then faulty_at number items OverLimit else open_at (number + 1) (items ++ item.Word port word ∷ []))) [
        | true ↦ λ full. record { are = s.are; few = s.few }
        | false ↦ λ free. record { are = push_for intake items port word s.are h.0 h.1; few = grind (arith, nat_tests, s.few, length-append items (item.Word port word ∷ [])) }
      ] refl
  said_within number items (Fault fault) h s = record { are = s.are; few = s.few }

  line_within : (s : Fed) (line : List ℕ) → IsWithin s → IsWithin (after_line intake s line)
  unfolding after_line
  line_within s line w = by_fault s.fault
    where
      by_fault : (fault : Option (ℕ × LineFault)) → IsWithin (unless_faulty fault (with_said intake s.number s.items (says intake line)) s)
      by_fault None = said_within s.number s.items (says intake line) (says_for line) (record { are = w.are; few = w.few })
      by_fault (Some fault) = w

  lines_within : (s : Fed) (lines : List (List ℕ)) → IsWithin s → IsWithin (after_lines intake s lines)
  lines_within s [] w = w
  lines_within s (line ∷ lines) w = lines_within (after_line intake s line) lines (line_within s line w)

  pub fed_within : (lines : List (List ℕ)) → IsWithin (fed intake lines)
  unfolding fed
  fed_within lines = lines_within (open_at intake.line []) lines (record { are = tt; few = omega arith })

-- two that say the same judge lines alike
module _ (a b : Intake) (places : a.places.items ≡ b.places.items) (first_port : a.first_port ≡ b.first_port) (room : a.room ≡ b.room) (line : a.line ≡ b.line) where
  source_same : (word : ℕ) (at : Option ℕ) → source_says a word at ≡ source_says b word at
  source_same word None = refl
  source_same word (Some i) = ap (λ n. Word (n + i) word) first_port

  put_same : (put : Option Put) → put_says a put ≡ put_says b put
  put_same None = refl
  put_same (Some put) = ap (λ l. source_says a put.word (position (is_source_of put) l)) places ∙ source_same put.word (position (is_source_of put) b.places.items)

  tokens_same : (tokens : List (List ℕ)) → tokens_say a tokens ≡ tokens_say b tokens
  tokens_same [] = refl
  tokens_same (token ∷ tokens) = put_same (put_of (token ∷ tokens))

  says_same : (bytes : List ℕ) → says a bytes ≡ says b bytes
  unfolding says
  says_same bytes = ap (fault_or (line_fault 1 bytes)) (tokens_same (tokens_of bytes))

  with_same : (number : ℕ) (items : List Item) (said : Said) → with_said a number items said ≡ with_said b number items said
  with_same number items (Word port word) = ap (λ n. if length items == n then faulty_at number items OverLimit else open_at (number + 1) (items ++ item.Word port word ∷ [])) room
  with_same number items _ = refl

  line_same : (s : Fed) (bytes : List ℕ) → after_line a s bytes ≡ after_line b s bytes
  unfolding after_line
  line_same s bytes =
      ap (λ said. unless_faulty s.fault (with_said a s.number s.items said) s) (says_same bytes) ∙ ap (λ next. unless_faulty s.fault next s) (with_same s.number s.items (says b bytes))

  lines_same : (s : Fed) (lines : List (List ℕ)) → after_lines a s lines ≡ after_lines b s lines
  lines_same s [] = refl
  lines_same s (bytes ∷ lines) = ap (λ next. after_lines a next lines) (line_same s bytes) ∙ lines_same (after_line b s bytes) lines

  pub fed_same : (lines : List (List ℕ)) → fed a lines ≡ fed b lines
  unfolding fed
  fed_same lines = ap (λ n. after_lines a (open_at n []) lines) line ∙ lines_same (open_at b.line []) lines
