-- The words that the lines of items say.
use Rattle.std.proofs.Math.Seq.{drop-append_seam}
use Rattle.std.proofs.Common.{◌≡◌, ℕ, suc, ◌-◌, ◌/◌, ◌%◌, ◌^◌, ◌<◌, ◌≤◌, Bool, true, false, not, ◌==◌, if◌then◌else◌, List, [], ◌∷◌, ◌++◌, length, drop, codes, refl, sym, ap, subst, ◌∙◌, append_assoc, arith, ⊎_elim, length-append, eq-eqb, ne_eqb}
use Rattle.std.specs.Prelude.{decimal, slice_index}
use Rattle.std.specs.List.{flat_map, slice_split, list_all, All}
use Rattle.std.specs.Int.{w32, to_be_bytes}
use Rattle.std.specs.Str.{bytes_eq}
use Rattle.std.proofs.lemmas.Bool.{cases_eq, cases_lt, false_from_ne_true}
use Rattle.std.proofs.lemmas.Bool.Decides.{nat_tests}
use Rattle.std.proofs.lemmas.Nat.{from_be_bytes-to_be_bytes_4}
use Rattle.std.proofs.lemmas.List.{get_or_past}
use Rattle.std.proofs.lemmas.List.Concat.{flat_map-append}
use Rattle.std.proofs.lemmas.List.Splits.{slice_split_at, length-slice_split}
use Rattle.std.proofs.lemmas.List.Elements.{All-head, All-tail}
use Rattle.std.proofs.lemmas.Slice.Eq.{bytes_eq-Decides}
use Rattle.std.proofs.lemmas.Option.{same_Some}
use Rattle.hex.specs.Hex.{decode_of, encode_with, lower_digits, IsBytes}
use Rattle.hex.proofs.HexLemmas.{decode_of-encode_lower, length-encode_with}
use Rattle.raw_text.specs.Lines.{is_newline}
use Rattle.raw_text.specs.Number.{number_of}
use Rattle.raw_text.proofs.WrittenLines.{all_fail, all_append}
use Rattle.raw_text.proofs.NumberTexts.{decimal_passes, decimal_read}
use Rattle.raw_network.specs.Laws.{IsPrefix}
use Rattle.raw_model.specs.Texts.{word_text}
use Rattle.raw_model.proofs.Words.{bytes_of_word}
use Rattle.raw_queue.specs.declared.item.Item.{Item}
use Rattle.raw_queue.specs.declared.item.Item.TheVariants.{Word, End}
use Rattle.raw_live_text.specs.Feeding.{but_last, whole_lines}
use Rattle.raw_live_text.proofs.Pieces.{whole_grows}
use Rattle.raw_live.specs.Items.{words_at, got_line, got_text}
use Rattle.raw_model.specs.declared.ending.Ending.{Ending}
use Rattle.raw_model.specs.declared.ending.Ending.TheVariants as ending
use Rattle.raw_live.specs.Ending.{rest_text}
use Rattle.raw_live.specs.Gots.{number_or_0, last_word, got_on, gots, AreSmall}

-- bytes without a newline
abbrev Free : List ℕ → Type 0
Free line = list_all (λ b. not (is_newline b)) line ≡ true

under_first : (part : List ℕ) (parts : List (List ℕ)) → 0 < length parts → but_last (part ∷ parts) ≡ part ∷ but_last parts
under_first part [] some = absurd (omega arith)
under_first part (next ∷ more) some = refl

-- a whole line, and those behind it
line_next : (line rest : List ℕ) → Free line → whole_lines (line ++ 10 ∷ rest) ≡ line ∷ whole_lines rest
unfolding whole_lines
line_next line rest free =
    ap but_last (slice_split_at is_newline line 10 rest (all_fail is_newline line free) refl)
    ∙ under_first line (slice_split is_newline rest) (omega (arith, length-slice_split is_newline rest))

pub gots_next : (line rest : List ℕ) (port : ℕ) → Free line → gots (line ++ 10 ∷ rest) port ≡ got_on port line ++ gots rest port
unfolding gots
gots_next line rest port free = ap (flat_map (got_on port)) (line_next line rest free)

-- what the lines of a front say begins what all say
pub gots_grow : (front back : List ℕ) (port : ℕ) → IsPrefix (gots front port) (gots (front ++ back) port)
unfolding gots
gots_grow front back port = let more = whole_grows front back in
    (flat_map (got_on port) more.0, sym (ap (flat_map (got_on port)) more.1 ∙ flat_map-append (got_on port) (whole_lines front) more.0))

nibble : (d : ℕ) → d < 16 → not (is_newline (slice_index lower_digits d)) ≡ true
nibble (suc (suc (suc (suc (suc (suc (suc (suc (suc (suc (suc (suc (suc (suc (suc (suc d)))))))))))))))) lt = absurd (omega (arith, lt))
nibble _ lt = refl

free_hex : (bytes : List ℕ) → All (λ byte. byte < 256) bytes → Free (encode_with lower_digits bytes)
unfolding encode_with
free_hex [] all = refl
free_hex (b ∷ rest) all =
    let small : b < 256 = All-head (λ byte. byte < 256) b rest all in
    rw (nibble (b / 16) (omega (arith, small)), nibble (b % 16) (omega arith), free_hex rest (All-tail (λ byte. byte < 256) b rest all)) refl

abbrev front : ℕ → List ℕ
front port = codes "got " ++ decimal port ++ codes " "

-- the line of a word without its newline
abbrev body : ℕ → ℕ → List ℕ
body port word = codes "got " ++ decimal port ++ codes " " ++ word_text word

body_front : (port word : ℕ) → body port word ≡ front port ++ word_text word
body_front port word = refl

body_line : (port word : ℕ) → body port word ++ codes "\n" ≡ got_line port word
unfolding got_line
body_line port word = refl

module _ (port word : ℕ) (small_port : port < 2 ^ 32) (small : word < 2 ^ 32) where
  free_word : Free (word_text word)
  unfolding word_text
  free_word = free_hex (to_be_bytes w32 word) (bytes_of_word word)

  digit_free : (b : ℕ) → 48 ≤ b → b ≤ 57 → not (is_newline b) ≡ true
  digit_free b low high = grind (arith, nat_tests)

  free_body : Free (body port word)
  free_body =
      let number = decimal_passes (λ b. not (is_newline b)) port (omega (arith, small_port)) digit_free in
      all_append (λ b. not (is_newline b)) (codes "got " ++ decimal port ++ codes " ") (word_text word)
      (all_append (λ b. not (is_newline b)) (codes "got " ++ decimal port) (codes " ")
      (all_append (λ b. not (is_newline b)) (codes "got ") (decimal port) refl number) refl)
      free_word

  word_long : length (word_text word) ≡ 8
  unfolding word_text
  word_long = length-encode_with lower_digits (to_be_bytes w32 word) ∙ refl

  the_end : drop (length (body port word) - 8) (body port word) ≡ word_text word
  the_end =
      let long : length (body port word) - 8 ≡ length (front port) = omega (arith, ap length (body_front port word), length-append (front port) (word_text word), word_long) in
      ap (λ n. drop n (body port word)) long ∙ ap (drop (length (front port))) (body_front port word) ∙ drop-append_seam (front port) (word_text word)

  are_bytes : IsBytes (to_be_bytes w32 word)
  are_bytes i =
      ⊎_elim {C = slice_index (to_be_bytes w32 word) i < 256}
      (λ within. bytes_of_word word i 0 within)
      (λ past. omega (arith, get_or_past (to_be_bytes w32 word) i 0 past))
      (cases_lt i (length (to_be_bytes w32 word)))

  the_word : last_word (body port word) ≡ word
  unfolding word_text
  the_word = ap (λ l. number_or_0 (decode_of l)) the_end ∙ ap number_or_0 (decode_of-encode_lower (to_be_bytes w32 word) are_bytes) ∙ from_be_bytes-to_be_bytes_4 word small

  got_own : got_on port (body port word) ≡ word ∷ []
  got_own =
      let same : body port word ++ codes "\n" ≡ got_line port (last_word (body port word)) = body_line port word ∙ ap (got_line port) (sym the_word) in
      let test : bytes_eq (body port word ++ codes "\n") (got_line port (last_word (body port word))) ≡ true = (bytes_eq-Decides (body port word ++ codes "\n") (got_line port (last_word (body port word)))).1 same in
      ap (λ b. if b then last_word (body port word) ∷ [] else []) test ∙ ap (λ w. w ∷ []) the_word

-- two numbers with a blank behind each
head_of : List (List ℕ) → List ℕ
head_of [] = []
head_of (part ∷ parts) = part

is_space : ℕ → Bool
is_space b = b == 32

digit_solid : (b : ℕ) → 48 ≤ b → b ≤ 57 → not (is_space b) ≡ true
unfolding is_space
digit_solid b low high = grind (arith, nat_tests)

number_first : (n : ℕ) (rest : List ℕ) → n < 2 ^ 32 → head_of (slice_split is_space (decimal n ++ 32 ∷ rest)) ≡ decimal n
unfolding head_of is_space
number_first n rest small =
    ap head_of (slice_split_at is_space (decimal n) 32 rest (all_fail is_space (decimal n) (decimal_passes (λ b. not (is_space b)) n (omega (arith, small)) digit_solid)) refl)

same_number : (m n : ℕ) (xs ys : List ℕ) → m < 2 ^ 32 → n < 2 ^ 32 → decimal m ++ 32 ∷ xs ≡ decimal n ++ 32 ∷ ys → m ≡ n
same_number m n xs ys small_m small_n e =
    let heads : decimal m ≡ decimal n = sym (number_first m xs small_m) ∙ ap (λ l. head_of (slice_split is_space l)) e ∙ number_first n ys small_n in
    same_Some m n (sym (decimal_read m small_m) ∙ ap number_of heads ∙ decimal_read n small_n)

behind : (port word : ℕ) → drop 4 (got_line port word) ≡ decimal port ++ 32 ∷ (word_text word ++ codes "\n")
unfolding got_line
behind port word = append_assoc (decimal port ++ codes " ") (word_text word) (codes "\n") ∙ append_assoc (decimal port) (codes " ") (word_text word ++ codes "\n")

lines_differ : (port word at other : ℕ) → port < 2 ^ 32 → at < 2 ^ 32 → got_line port word ≡ got_line at other → port ≡ at
lines_differ port word at other small_port small_at e =
    same_number port at (word_text word ++ codes "\n") (word_text other ++ codes "\n") small_port small_at (sym (behind port word) ∙ ap (drop 4) e ∙ behind at other)

got_other : (port word at : ℕ) → port < 2 ^ 32 → word < 2 ^ 32 → at < 2 ^ 32 → (port ≡ at → ⊥) → got_on at (body port word) ≡ []
got_other port word at small_port small small_at ne =
    let test : bytes_eq (body port word ++ codes "\n") (got_line at (last_word (body port word))) ≡ false =
    false_from_ne_true _ (λ yes. ne (lines_differ port word at (last_word (body port word)) small_port small_at
    (sym (body_line port word) ∙ (bytes_eq-Decides (body port word ++ codes "\n") (got_line at (last_word (body port word)))).0 yes))) in
    ap (λ b. if b then last_word (body port word) ∷ [] else []) test

-- the lines of items, and what stands behind them
pub gots_items : (at : ℕ) (items : List Item) (rest : List ℕ) → at < 2 ^ 32 → AreSmall items → gots (got_text items ++ rest) at ≡ words_at at items ++ gots rest at
gots_items at [] rest small_at small = refl
gots_items at (Word port word ∷ items) rest small_at small =
    let line = body port word in
    let own = if port == at then word ∷ [] else [] in
    let on : got_on at line ≡ own = ⊎_elim {C = got_on at line ≡ own}
    (λ same. subst (λ p. got_on p line ≡ (if port == p then word ∷ [] else [])) same (got_own port word small.0 small.1 ∙ ap (λ b. if b then word ∷ [] else []) (sym (eq-eqb port port refl))))
    (λ other. got_other port word at small.0 small.1 small_at other ∙ ap (λ b. if b then word ∷ [] else []) (sym (ne_eqb port at other)))
    (cases_eq port at) in
    ap (λ l. gots l at)
    (append_assoc (got_line port word) (got_text items) rest ∙ ap (λ l. l ++ (got_text items ++ rest)) (sym (body_line port word)) ∙ append_assoc line (codes "\n") (got_text items ++ rest))
    ∙ gots_next line (got_text items ++ rest) at (free_body port word small.0 small.1)
    ∙ ap (λ l. l ++ gots (got_text items ++ rest) at) on
    ∙ ap (λ l. own ++ l) (gots_items at items rest small_at small.2)
    ∙ sym (append_assoc own (words_at at items) (gots rest at))
gots_items at (End ∷ items) rest small_at small = refl

-- the last line is no line of a word
pub gots_rest : (port : ℕ) (ending : Ending) → gots (rest_text ending) port ≡ []
unfolding gots whole_lines got_line
gots_rest port ending.Done = refl
gots_rest port _ = refl
