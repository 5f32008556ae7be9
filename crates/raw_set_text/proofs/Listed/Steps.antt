-- The lines of an entry add it to the entries before them.
use Rattle.std.proofs.Common.{◌≡◌, ℕ, suc, ◌+◌, ◌<◌, true, false, List, [], ◌∷◌, ◌++◌, length, drop, map, All, Some, None, refl, sym, ap, ◌∙◌, subst, arith, add-one, append_assoc, append-nil}
use Rattle.std.specs.Prelude.{codes, ◌==◌, IsTrue}
use Rattle.std.specs.Option.{option_map}
use Rattle.std.specs.List.{before_first, position_or_len, flat_map, AllByRecursion}
use Rattle.std.proofs.lemmas.List.{map-append}
use Rattle.std.proofs.lemmas.Bool.Decides.{nat_tests}
use Rattle.raw_text.specs.Lines.{tokens_of}
use Rattle.raw_text.proofs.WrittenTokens.{token_last}
use Rattle.raw_tile_asm.specs.Listing.{listed_lines}
use Rattle.raw_switch_asm.specs.Listing.{line_text}
use Rattle.raw_switch_asm.specs.Statement.{are_wired}
use Rattle.raw_set_text.specs.declared.word.Word.TheVariants as word
use Rattle.raw_set_text.specs.declared.kind.SetKind.TheVariants.{Asm}
use Rattle.raw_set_text.specs.Entry.{Entry}
use Rattle.raw_set_text.specs.Entry.Entry.{Grid, Limit, Depth, Port, Feed, Data, Misses, Show, Tile, Switch}
use Rattle.raw_set_text.specs.Forms.{word_name, line_entry}
use Rattle.raw_set_text.specs.Entries.{topology_of}
use Rattle.raw_set_text.specs.Faults.{entry_fault, due_word, is_missing, line_fault}
use Rattle.raw_set_text.specs.Sections.{wired_at, is_section, is_end, head_entry, section_of, section_entry, section_fault}
use Rattle.raw_set_text.specs.Listing.{line_of}
use Rattle.raw_set_text.proofs.Listed.Entries.{word_of, operands_of, code_lines, entry_lines}
use Rattle.raw_set_text.proofs.Listed.Tokens.{IsWritable, operands_short, line_tokens}
use Rattle.raw_set_text.proofs.Listed.Reads.{head_of_entry, entry_back}
use Rattle.raw_set_text.proofs.Listed.Places.{ListingStands, at_drop, one_line, head_line, inner_lines, end_line}
use Rattle.raw_set_text.proofs.Listed.Sections.{ListingLaws, tile_lines, tile_means, switch_lines, switch_means}

-- the wires that a switch's program needs behind these entries are there
abbrev pub IsWiredEntry : List Entry → Entry → Type 0
IsWiredEntry entries (Switch tile code) = All (λ ins. IsTrue (are_wired (wired_at (topology_of entries) tile) ins)) code
IsWiredEntry entries _ = Unit {0}

-- an entry may stand behind these
pub record CanFollow (entries : List Entry) (entry : Entry) : Type 0 where
  pub due : is_missing (due_word entries) (word_name (word_of entry) ∷ operands_of entry) ≡ false
  pub head : entry_fault entries (head_of_entry entry) ≡ None
  pub lawful : entry_fault entries entry ≡ None
  pub wired : IsWiredEntry entries entry

-- the tokens of an entry's line
abbrev tokens_line : Entry → List (List ℕ)
tokens_line entry = word_name (word_of entry) ∷ operands_of entry

line_is : (entry : Entry) → IsWritable entry → tokens_of (line_of (word_of entry) (operands_of entry)) ≡ tokens_line entry
line_is entry is = line_tokens (word_of entry) (operands_of entry) (operands_short entry is)

some_tokens : (name : List ℕ) (operands : List (List ℕ)) → (length (name ∷ operands) == 0) ≡ false
some_tokens name operands = grind (arith, nat_tests)

no_fault : (entries : List Entry) (entry : Entry) → IsWritable entry → CanFollow entries entry → line_fault entries (tokens_line entry) ≡ None
unfolding line_fault
no_fault entries entry is can = rw (some_tokens (word_name (word_of entry)) (operands_of entry), can.due, entry_back entry is) can.head

-- an entry of one line
plain_step : (lines rest : List (List (List ℕ))) (entries : List Entry) (entry : Entry) → is_section (Some (head_of_entry entry)) ≡ false → code_lines entry ≡ [] → head_of_entry entry ≡ entry
    → IsWritable entry → CanFollow entries entry → ListingStands lines (map tokens_of (entry_lines entry) ++ rest) entries → ListingStands lines rest (entries ++ entry ∷ [])
plain_step lines rest entries entry plain none same is can s =
    let only : map tokens_of (entry_lines entry) ++ rest ≡ tokens_line entry ∷ rest = rw (none, line_is entry is) refl in
    one_line lines rest (tokens_line entry) entries entry (subst (λ r. ListingStands lines r entries) only s)
    (entry_back entry is ∙ ap Some same) (subst (λ e. is_section (Some e) ≡ false) same plain) (no_fault entries entry is can)

end_tokens : tokens_of (codes "end") ≡ codes "end" ∷ []
end_tokens = token_last (codes "end") (record { some = omega arith; solid = refl })

-- the lines of a section are those before its end
before_end : (code rest : List (List (List ℕ))) (line : List (List ℕ)) → AllByRecursion (λ l. is_end l ≡ false) code → is_end line ≡ true → before_first is_end (code ++ line ∷ rest) ≡ code
before_end [] rest line all ends = rw ends refl
before_end (l ∷ code) rest line all ends =
    let next : 1 + position_or_len is_end (code ++ line ∷ rest) ≡ suc (position_or_len is_end (code ++ line ∷ rest)) = omega arith in
    rw (all.0, next) (ap (λ more. l ∷ more) (before_end code rest line all.1 ends))

-- a section, by what is known of its lines
section_step : (lines code rest : List (List (List ℕ))) (entries : List Entry) (entry : Entry) → is_section (Some (head_of_entry entry)) ≡ true
    → AllByRecursion (λ line. is_end line ≡ false) code
    → ((i : ℕ) → i < length code → section_fault entries code i (Some (head_of_entry entry)) ≡ None)
    → section_entry entries code (Some (head_of_entry entry)) ≡ Some entry
    → IsWritable entry → CanFollow entries entry → ListingStands lines (tokens_line entry ∷ (code ++ (codes "end" ∷ []) ∷ rest)) entries → ListingStands lines rest (entries ++ entry ∷ [])
section_step lines code rest entries entry section goes_on fine gives is can s =
    let behind = code ++ (codes "end" ∷ []) ∷ rest in
    let at = at_drop lines s.k (tokens_line entry) [] behind s.behind in
    let head : head_entry lines s.k ≡ Some (head_of_entry entry) = ap line_entry at.1 ∙ entry_back entry is in
    let section_is : section_of lines s.k ≡ code =
    ap (λ n. before_first is_end (drop n lines)) (add-one s.k) ∙ ap (before_first is_end) at.2 ∙ before_end code rest (codes "end" ∷ []) goes_on refl in
    let inside = head_line lines behind (tokens_line entry) entries (head_of_entry entry) s (entry_back entry is) section (no_fault entries entry is can) in
    let done = inner_lines lines code ((codes "end" ∷ []) ∷ rest) entries s.k (suc s.k) 0 inside (omega arith) goes_on
    (λ i lt. rw (head, section_is) (fine i (omega arith))) in
    end_line lines rest (codes "end" ∷ []) entries entry s.k (suc s.k + length code) done refl (rw (head, section_is) gives) can.lawful

-- the tokens of a section's lines
section_tokens : (head : List ℕ) (line : List (List ℕ)) (code : List (List ℕ)) (rest : List (List (List ℕ))) → tokens_of head ≡ line
    → map tokens_of (head ∷ (code ++ codes "end" ∷ [])) ++ rest ≡ line ∷ (map tokens_of code ++ (codes "end" ∷ []) ∷ rest)
section_tokens head line code rest e =
    rw (e, map-append tokens_of code (codes "end" ∷ []), end_tokens) (ap (λ more. line ∷ more) (append_assoc (map tokens_of code) ((codes "end" ∷ []) ∷ []) rest))

pub entry_step : ListingLaws → (lines rest : List (List (List ℕ))) (entries : List Entry) (entry : Entry)
    → IsWritable entry → CanFollow entries entry → ListingStands lines (map tokens_of (entry_lines entry) ++ rest) entries → ListingStands lines rest (entries ++ entry ∷ [])
entry_step laws lines rest entries (Grid columns rows) is can s = plain_step lines rest entries (Grid columns rows) refl refl refl is can s
entry_step laws lines rest entries (Limit n) is can s = plain_step lines rest entries (Limit n) refl refl refl is can s
entry_step laws lines rest entries (Depth n) is can s = plain_step lines rest entries (Depth n) refl refl refl is can s
entry_step laws lines rest entries (Port place capacity) is can s = plain_step lines rest entries (Port place capacity) refl refl refl is can s
entry_step laws lines rest entries (Feed place words) is can s = plain_step lines rest entries (Feed place words) refl refl refl is can s
entry_step laws lines rest entries (Data tile address words) is can s = plain_step lines rest entries (Data tile address words) refl refl refl is can s
entry_step laws lines rest entries (Misses tile turns) is can s = plain_step lines rest entries (Misses tile turns) refl refl refl is can s
entry_step laws lines rest entries (Show tile address words) is can s = plain_step lines rest entries (Show tile address words) refl refl refl is can s
entry_step laws lines rest entries (Tile tile code) is can s =
    let section = map tokens_of (listed_lines 0 code) in
    let means = tile_means laws code is.1 is.2 in
    section_step lines section rest entries (Tile tile code) refl (tile_lines 0 code (omega (arith, is.1)) is.2).1
    (λ i lt. ap (option_map Asm) (means.faultless i lt)) (ap (λ c. Some (Tile tile c)) (sym means.code)) is can
    (subst (λ r. ListingStands lines r entries) (section_tokens (line_of word.Tile (operands_of (Tile tile code))) (tokens_line (Tile tile code)) (listed_lines 0 code) rest (line_is (Tile tile code) is)) s)
entry_step laws lines rest entries (Switch tile code) is can s =
    let section = map tokens_of (map line_text code) in
    let means = switch_means laws (wired_at (topology_of entries) tile) code is.1 is.2 can.wired in
    section_step lines section rest entries (Switch tile code) refl (switch_lines code is.2).1
    (λ i lt. ap (option_map Asm) (means.faultless i lt)) (ap (λ c. Some (Switch tile c)) (sym means.code)) is can
    (subst (λ r. ListingStands lines r entries) (section_tokens (line_of word.Switch (operands_of (Switch tile code))) (tokens_line (Switch tile code)) (map line_text code) rest (line_is (Switch tile code) is)) s)

-- the lines of many entries
pub entries_step : ListingLaws → (lines rest : List (List (List ℕ))) (more before : List Entry) → AllByRecursion IsWritable more
    → ((front : List Entry) (entry : Entry) (back : List Entry) → more ≡ front ++ entry ∷ back → CanFollow (before ++ front) entry)
    → ListingStands lines (map tokens_of (flat_map entry_lines more) ++ rest) before → ListingStands lines rest (before ++ more)
entries_step laws lines rest [] before all can s = subst (λ e. ListingStands lines rest e) (sym (append-nil before)) s
entries_step laws lines rest (entry ∷ more) before all can s =
    let here : CanFollow before entry = subst (λ e. CanFollow e entry) (append-nil before) (can [] entry more refl) in
    let cut : map tokens_of (flat_map entry_lines (entry ∷ more)) ++ rest ≡ map tokens_of (entry_lines entry) ++ (map tokens_of (flat_map entry_lines more) ++ rest) =
    ap (λ m. m ++ rest) (map-append tokens_of (entry_lines entry) (flat_map entry_lines more)) ∙ append_assoc (map tokens_of (entry_lines entry)) (map tokens_of (flat_map entry_lines more)) rest in
    let next = entry_step laws lines (map tokens_of (flat_map entry_lines more) ++ rest) before entry all.0 here (subst (λ r. ListingStands lines r before) cut s) in
    let later = entries_step laws lines rest more (before ++ entry ∷ []) all.1
    (λ front e back is. subst (λ es. CanFollow es e) (sym (append_assoc before (entry ∷ []) front)) (can (entry ∷ front) e back (ap (λ es. entry ∷ es) is))) next in
    subst (λ es. ListingStands lines rest es) (append_assoc before (entry ∷ []) more) later
