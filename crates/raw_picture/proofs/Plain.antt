-- What a picture says in words is plain, and so needs no escaping.
use Rattle.std.proofs.Common.{◌≡◌, ◌≢◌, ⊎_elim, ℕ, zero, suc, ◌+◌, ◌*◌, ◌/◌, ◌%◌, ◌<◌, Bool, true, false, ◌&&◌, List, [], ◌∷◌, ◌++◌, codes, drop, ◌-◌, Option, Some, None, refl, ap, ◌∙◌, arith}
use Rattle.std.specs.Prelude.{nat_lt, ◌==◌, if◌then◌else◌, slice_get, slice_index, decimal, All}
use Rattle.std.specs.List.{list_all, position}
use Rattle.std.specs.Fmt.{digit_glyph, digits_onto, digits}
use Rattle.std.specs.Int.{w32, to_be_bytes}
use Rattle.std.proofs.lemmas.Bool.Decides.{eqb_tells}
use Rattle.std.proofs.lemmas.List.Folds.{list_all-append}
use Rattle.std.proofs.lemmas.List.Elements.{All-head, All-tail}
use Rattle.hex.specs.Hex.{lower_digits, encode_with}
use Rattle.raw_grid.specs.declared.parts.Net.{Net}
use Rattle.raw_grid.specs.declared.parts.Net.TheVariants.{One, Two}
use Rattle.raw_grid.specs.declared.parts.Side.{Side}
use Rattle.raw_grid.specs.declared.parts.Side.TheVariants.{N}
use Rattle.raw_grid.specs.declared.parts.PortKind.{PortKind}
use Rattle.raw_grid.specs.declared.parts.PortKind.TheVariants as kind
use Rattle.raw_grid.specs.declared.parts.PortPlace.{PortPlace}
use Rattle.raw_grid.specs.Names.{net_text, side_text, kind_text}
use Rattle.raw_grid.specs.Topology.{Topology, tile_count}
use Rattle.raw_model.specs.declared.marks.Cause.{Cause}
use Rattle.raw_model.specs.declared.marks.Cause.TheVariants.{Misaligned}
use Rattle.raw_model.specs.declared.marks.Mark.{Mark}
use Rattle.raw_model.specs.declared.marks.Mark.TheVariants.{Going, Halted, Trapped}
use Rattle.raw_model.specs.Program.{ProgramSet}
use Rattle.raw_model.specs.Local.{Local, Tile, Switch, Source, Sink}
use Rattle.raw_model.specs.Start.{MachineState}
use Rattle.raw_model.specs.Rest.{stopped}
use Rattle.raw_model.specs.Waits.{first_wait}
use Rattle.raw_model.specs.Outcomes.{Outcome}
use Rattle.raw_model.specs.Outcomes.Outcome.{Done, Deadlock, Trapped as OutcomeTrapped, Limit, Stuck}
use Rattle.raw_model.specs.Texts.{word_text, words_text, cause_text}
use Rattle.raw_model.specs.StateTexts.{going_text, program_mark, local_mark, mark_of, outcome_word}
use Rattle.raw_model.proofs.Words.{bytes_of_word}
use Rattle.raw_state_text.specs.Parts.{place_text}
use Rattle.raw_names.specs.Names.{port_name_of, processor_name}
use Rattle.raw_picture.specs.declared.names.Progress.{Progress}
use Rattle.raw_picture.specs.declared.told.Telling.TheVariants.{Sentences}
use Rattle.raw_picture.specs.Plain.{is_plain_byte, IsPlain, escape_byte, escape}
use Rattle.raw_picture.specs.Forms.{labelled}
use Rattle.raw_picture.specs.Names.{wait_text, behind, is_blank, after_first_word, shown_mark}
use Rattle.raw_picture.specs.Told.{say, wait_told, wait_piece, lead, waits_told, told_in, all_waits}
use Rattle.raw_picture.specs.Opening.{grid_text, title_text, set_text}
use Rattle.raw_picture.specs.Boxes.{box_title, done_word, port_title, port_text}
use Rattle.raw_picture.specs.Flows.{wire_text}

-- ---- plain texts, put together

pub both : (a b : List ℕ) → IsPlain a → IsPlain b → IsPlain (a ++ b)
both a b pa pb = list_all-append is_plain_byte a b ∙ ap (λ x. x && list_all is_plain_byte b) pa ∙ pb

either : (p : Bool) (a b : List ℕ) → IsPlain a → IsPlain b → IsPlain (if p then a else b)
either true a b pa pb = pa
either false a b pa pb = pb

one : (b : ℕ) (rest : List ℕ) → is_plain_byte b ≡ true → IsPlain rest → IsPlain (b ∷ rest)
one b rest is p = ap (λ x. x && list_all is_plain_byte rest) is ∙ p

pub second : (a b : Bool) → (a && b) ≡ true → b ≡ true
second true b is = is
second false b is = absurd (cc is)

pub first : (a b : Bool) → (a && b) ≡ true → a ≡ true
first true b is = refl
first false b is = absurd (cc is)

dropped : (n : ℕ) (text : List ℕ) → IsPlain text → IsPlain (drop n text)
dropped zero text p = p
dropped (suc n) [] p = refl
dropped (suc n) (b ∷ rest) p = dropped n rest (second (is_plain_byte b) (list_all is_plain_byte rest) p)

-- ---- numbers and words

glyph : (d : ℕ) → d < 10 → is_plain_byte (digit_glyph false d) ≡ true
glyph (suc (suc (suc (suc (suc (suc (suc (suc (suc (suc d)))))))))) lt = absurd (omega (arith, lt))
glyph _ lt = refl

onto : (k n : ℕ) (rest : List ℕ) → IsPlain rest → IsPlain (digits_onto k 10 false n rest)
onto zero n rest p = p
onto (suc k) n rest p =
    let more : IsPlain (digit_glyph false (n % 10) ∷ rest) = one (digit_glyph false (n % 10)) rest (glyph (n % 10) (omega arith)) p in
    either (n / 10 == 0) (digit_glyph false (n % 10) ∷ rest) (digits_onto k 10 false (n / 10) (digit_glyph false (n % 10) ∷ rest)) more
    (onto k (n / 10) (digit_glyph false (n % 10) ∷ rest) more)

pub plain_number : (n : ℕ) → IsPlain (decimal n)
unfolding digits
plain_number n = onto 64 n [] refl

nibble : (d : ℕ) → d < 16 → is_plain_byte (slice_index lower_digits d) ≡ true
nibble (suc (suc (suc (suc (suc (suc (suc (suc (suc (suc (suc (suc (suc (suc (suc (suc d)))))))))))))))) lt = absurd (omega (arith, lt))
nibble _ lt = refl

in_hex : (bytes : List ℕ) → All (λ byte. byte < 256) bytes → IsPlain (encode_with lower_digits bytes)
unfolding encode_with
in_hex [] all = refl
in_hex (b ∷ rest) all =
    let small : b < 256 = All-head (λ byte. byte < 256) b rest all in
    one (slice_index lower_digits (b / 16)) (slice_index lower_digits (b % 16) ∷ encode_with lower_digits rest) (nibble (b / 16) (omega (arith, small)))
    (one (slice_index lower_digits (b % 16)) (encode_with lower_digits rest) (nibble (b % 16) (omega arith))
    (in_hex rest (All-tail (λ byte. byte < 256) b rest all)))

plain_word : (word : ℕ) → IsPlain (word_text word)
unfolding word_text
plain_word word = in_hex (to_be_bytes w32 word) (bytes_of_word word)

pub plain_words : (words : List ℕ) → IsPlain (words_text words)
plain_words [] = refl
plain_words (word ∷ words) =
    both (codes " " ++ word_text word) (words_text words) (both (codes " ") (word_text word) refl (plain_word word)) (plain_words words)

pub plain_labelled : (label : List ℕ) (n : ℕ) → IsPlain label → IsPlain (labelled label n)
unfolding labelled
plain_labelled label n p = both label (decimal n) p (plain_number n)

-- ---- names

plain_net : (net : Net) → IsPlain (net_text net)
plain_net One = refl
plain_net Two = refl

plain_side : (side : Side) → IsPlain (side_text side)
plain_side N = refl
plain_side _ = refl

plain_kind : (k : PortKind) → IsPlain (kind_text k)
plain_kind kind.Source = refl
plain_kind kind.Sink = refl

plain_port : (place : Option PortPlace) → IsPlain (port_name_of place)
plain_port None = refl
plain_port (Some place) = simp (list_all-append is_plain_byte, plain_kind, plain_net, plain_number, plain_side)

pub plain_name : (topo : Topology) (p : ℕ) → IsPlain (processor_name topo p)
unfolding processor_name
plain_name topo p =
    let tiles = tile_count topo in
    let port : List ℕ = port_name_of (slice_get topo.places (p - 2 * tiles)) in
    let tile : IsPlain (codes "tile " ++ place_text topo p) = simp (list_all-append is_plain_byte, plain_number) in
    let switch : IsPlain (codes "switch " ++ place_text topo (p - tiles)) = simp (list_all-append is_plain_byte, plain_number) in
    either (nat_lt p tiles) (codes "tile " ++ place_text topo p) (if nat_lt p (2 * tiles) then codes "switch " ++ place_text topo (p - tiles) else port) tile
    (either (nat_lt p (2 * tiles)) (codes "switch " ++ place_text topo (p - tiles)) port switch (plain_port (slice_get topo.places (p - 2 * tiles))))

pub plain_wait : (topo : Topology) (p v : ℕ) → IsPlain (wait_text topo p v)
unfolding wait_text
plain_wait topo p v = simp (list_all-append is_plain_byte, plain_name, plain_number)

-- ---- marks

plain_going : (wait : Option ℕ) → IsPlain (going_text wait)
plain_going None = refl
plain_going (Some v) = simp plain_number

plain_cause : (cause : Cause) → IsPlain (cause_text cause)
plain_cause Misaligned = refl
plain_cause _ = refl

plain_program : (limit : ℕ) (wait : Option ℕ) (mark : Mark) (count : ℕ) → IsPlain (program_mark limit wait mark count)
plain_program limit wait Going count =
    either (count == limit) (codes "limit") (going_text wait) refl (plain_going wait)
plain_program limit wait Halted count = refl
plain_program limit wait (Trapped cause) count = simp plain_cause

plain_local : (set : ProgramSet) (s : MachineState) (p : ℕ) (l : Option Local) → IsPlain (local_mark set s p l)
plain_local set s p None = refl
plain_local set s p (Some (Tile l)) = plain_program set.limit (first_wait set s p) l.mark l.count
plain_local set s p (Some (Switch l)) = plain_program set.limit (first_wait set s p) l.mark l.count
plain_local set s p (Some (Source l)) =
    either (stopped set s p) (codes "spent") (going_text (first_wait set s p)) refl (plain_going (first_wait set s p))
plain_local set s p (Some (Sink l)) =
    either (stopped set s p) (codes "full") (going_text (first_wait set s p)) refl (plain_going (first_wait set s p))

pub plain_mark : (set : ProgramSet) (s : MachineState) (p : ℕ) → IsPlain (mark_of set s p)
unfolding mark_of
plain_mark set s p = plain_local set s p (slice_get s.locals p)

pub plain_shown : (set : ProgramSet) (s : MachineState) (p : ℕ) (empty : Bool) → IsPlain (shown_mark set s p empty)
plain_shown set s p empty =
    either empty (codes "empty program") (mark_of set s p) refl (plain_mark set s p)

plain_behind : (text : List ℕ) (i : Option ℕ) → IsPlain text → IsPlain (behind text i)
plain_behind text None p = refl
plain_behind text (Some i) p = dropped (i + 1) text p

plain_after : (text : List ℕ) → IsPlain text → IsPlain (after_first_word text)
unfolding after_first_word
plain_after text p = plain_behind text (position is_blank text) p

-- ---- the outcome

pub plain_word_of : (o : Outcome) → IsPlain (outcome_word o)
plain_word_of Done = refl
plain_word_of _ = refl

pub plain_say : (set : ProgramSet) (s : MachineState) (o : Outcome) → IsPlain (say set s o)
unfolding say
plain_say set s Done = refl
plain_say set s (Deadlock p ps) = simp (list_all-append is_plain_byte, plain_number)
plain_say set s (OutcomeTrapped p) = simp (list_all-append is_plain_byte, plain_name, plain_after (mark_of set s p) (plain_mark set s p))
plain_say set s (Limit p) = simp (list_all-append is_plain_byte, plain_name, plain_number)
plain_say set s (Stuck p) = simp (list_all-append is_plain_byte, plain_name, plain_mark)

plain_lead : (first : Bool) → IsPlain (lead Sentences first)
plain_lead true = refl
plain_lead false = refl

plain_wait_told : (topo : Topology) (first : Bool) (p : ℕ) (wait : Option ℕ) → IsPlain (wait_told Sentences topo first p wait)
unfolding wait_piece
plain_wait_told topo first p None = refl
plain_wait_told topo first p (Some v) = simp (list_all-append is_plain_byte, plain_lead, plain_wait)

plain_waits_told : (set : ProgramSet) (s : MachineState) (first : Bool) (ps : List ℕ) → IsPlain (waits_told Sentences set s first ps)
plain_waits_told set s first [] = refl
plain_waits_told set s first (p ∷ ps) = simp (list_all-append is_plain_byte, plain_wait_told, plain_waits_told set s false ps)

pub plain_all_waits : (set : ProgramSet) (s : MachineState) → IsPlain (all_waits Sentences set s)
unfolding all_waits
plain_all_waits set s = plain_waits_told set s true (told_in set s)

-- ---- titles

plain_grid : (topo : Topology) → IsPlain (grid_text topo)
unfolding grid_text
plain_grid topo = simp (list_all-append is_plain_byte, plain_number)

pub plain_title : (set : ProgramSet) (s : MachineState) → IsPlain (title_text set s)
unfolding title_text
plain_title set s = simp (list_all-append is_plain_byte, plain_grid, plain_word_of)

pub plain_set : (set : ProgramSet) → IsPlain (set_text set)
unfolding set_text
plain_set set = simp (list_all-append is_plain_byte, plain_grid, plain_number)

pub plain_box : (topo : Topology) (p : ℕ) (mark : List ℕ) (far : Progress) → IsPlain mark → IsPlain (box_title topo p mark far)
unfolding box_title
plain_box topo p mark far m = simp (list_all-append is_plain_byte, plain_name, plain_number, m)

plain_done : (k : PortKind) → IsPlain (done_word k)
plain_done kind.Source = refl
plain_done kind.Sink = refl

pub plain_port_title : (topo : Topology) (p : ℕ) (place : PortPlace) (mark : List ℕ) (count most : ℕ) → IsPlain mark
    → IsPlain (port_title topo p place mark count most)
unfolding port_title
plain_port_title topo p place mark count most m = simp (list_all-append is_plain_byte, plain_name, plain_number, plain_done, m)

pub plain_port_text : (place : PortPlace) (count most : ℕ) → IsPlain (port_text place count most)
unfolding port_text
plain_port_text place count most = simp (list_all-append is_plain_byte, plain_kind, plain_net, plain_number)

pub plain_wire : (topo : Topology) (v : ℕ) → IsPlain (wire_text topo v)
unfolding wire_text
plain_wire topo v = simp (list_all-append is_plain_byte, plain_number, plain_net, plain_name)

-- ---- escaping

pub differs : (b k : ℕ) → is_plain_byte k ≡ false → is_plain_byte b ≡ true → (b == k) ≡ false
differs b k other is = ⊎_elim
    (λ (same : ((b == k) ≡ true) × (b ≡ k)). absurd (cc (same.1, other, is)))
    (λ (apart : ((b == k) ≡ false) × (b ≢ k)). apart.0)
    (eqb_tells b k)

same_byte : (b : ℕ) → is_plain_byte b ≡ true → escape_byte b ≡ b ∷ []
same_byte b is = rw (differs b 38 refl is, differs b 60 refl is, differs b 62 refl is, differs b 34 refl is)

pub escaped : (text : List ℕ) → IsPlain text → escape text ≡ text
escaped [] p = refl
escaped (b ∷ rest) p =
    let here : is_plain_byte b ≡ true = first (is_plain_byte b) (list_all is_plain_byte rest) p in
    let others : IsPlain rest = second (is_plain_byte b) (list_all is_plain_byte rest) p in
    ap (λ front. front ++ escape rest) (same_byte b here) ∙ ap (λ more. b ∷ more) (escaped rest others)
