-- What the entries of lines without a fault keep, each behind those before it.
use Rattle.std.proofs.Common.{◌≡◌, ℕ, ◌+◌, ◌*◌, ◌%◌, ◌^◌, ◌<◌, ◌≤◌, Bool, true, false, not, leb, ltb, List, [], ◌∷◌, ◌++◌, length, Option, Some, None, refl, sym}
use Rattle.std.specs.List.{All}
use Rattle.std.proofs.lemmas.Bool.{not-false, and_parts, or_parts, leb-true, ltb-true, ltb-false}
use Rattle.std.proofs.lemmas.Option.{none-some}
use Rattle.std.proofs.lemmas.List.Elements.{All-nil, All-cons, All-push}
use Rattle.std.proofs.lemmas.List.Sums.{AllPass-from_list_all}
use Rattle.raw_tile_asm.specs.Lawful.{IsLawful as IsTileCode}
use Rattle.raw_switch_asm.specs.Lawful.{IsLawful as IsSwitchCode}
use Rattle.raw_switch_isa.specs.declared.limits.TheConstants.{MAX_SWITCH_CODE}
use Rattle.raw_switch_isa.specs.Instruction.{IsSwitchIns}
use Rattle.raw_grid.specs.declared.parts.PortKind.TheVariants as kind
use Rattle.raw_model.specs.declared.limits.TheConstants.{MAX_DEPTH, MAX_CAPACITY}
use Rattle.raw_model.specs.Program.{memory_size}
use Rattle.raw_set_text.specs.declared.kind.SetKind.{SetKind}
use Rattle.raw_set_text.specs.declared.declaration.Position.{Position}
use Rattle.raw_set_text.specs.Entry.{Entry}
use Rattle.raw_set_text.specs.Entry.Entry.{Grid, Limit, Depth, Port, Feed, Data, Misses, Show, Tile, Switch}
use Rattle.raw_set_text.specs.Entries.{topology_of}
use Rattle.raw_set_text.specs.Faults.{is_within, is_bad_size, is_outside, is_off_grid, is_off_edge, is_double_port, is_undeclared, is_repeated, is_over_limit, fault_if, entry_fault}
use Rattle.raw_set_text.specs.Sections.{wired_at}

-- an entry passes each test behind these entries
pub record Passes (entries : List Entry) (entry : Entry) : Type 0 where
  pub sized : is_bad_size entry ≡ false
  pub on_grid : is_off_grid entries entry ≡ false
  pub at_edge : is_off_edge entries entry ≡ false
  pub new_port : is_double_port entries entry ≡ false
  pub declared : is_undeclared entries entry ≡ false
  pub new : is_repeated entries entry ≡ false
  pub within : is_over_limit entries entry ≡ false

pub none_if : (test : Bool) (kind : SetKind) (next : Option SetKind) → fault_if test kind next ≡ None → (test ≡ false) × (next ≡ None)
none_if true kind next e = absurd (none-some kind (sym e))
none_if false kind next e = (refl, e)

-- no fault means that each test is passed
pub passes : (entries : List Entry) (entry : Entry) → entry_fault entries entry ≡ None → Passes entries entry
unfolding entry_fault
passes entries entry e =
    let sized = none_if _ _ _ e in
    let on_grid = none_if _ _ _ sized.1 in
    let at_edge = none_if _ _ _ on_grid.1 in
    let new_port = none_if _ _ _ at_edge.1 in
    let declared = none_if _ _ _ new_port.1 in
    let new = none_if _ _ _ declared.1 in
    let within = none_if _ _ _ new.1 in
    record { sized = sized.0; on_grid = on_grid.0; at_edge = at_edge.0; new_port = new_port.0; declared = declared.0; new = new.0; within = within.0 }

-- a word has 32 bits
abbrev pub IsWord : ℕ → Type 0
IsWord word = word < 2 ^ 32

-- what a line's form says of its entry, and the meaning of a section of the program
abbrev pub Formed : List Entry → Entry → Type 0
Formed entries (Port place capacity) = place.kind ≡ kind.Source → capacity ≡ 0
Formed entries (Feed place words) = (place.kind ≡ kind.Source) × All IsWord words
Formed entries (Data tile address words) = (address % 4 ≡ 0) × All IsWord words
Formed entries (Show tile address words) = (address % 4 ≡ 0) × (1 ≤ words)
Formed entries (Tile tile code) = IsTileCode code
Formed entries (Switch tile code) = IsSwitchCode (wired_at (topology_of entries) tile) code
Formed entries _ = Unit {0}

-- an entry may stand behind these
pub record Follows (entries : List Entry) (entry : Entry) : Type 0 where
  pub formed : Formed entries entry
  pub passes : Passes entries entry

-- the entries of a text from its first two on
abbrev pub whole : ℕ → ℕ → ℕ → List Entry → List Entry
whole columns rows limit rest = Grid columns rows ∷ Limit limit ∷ rest

-- each entry behind the first two may stand there
pub data Good (columns rows limit : ℕ) : List Entry → Type 0 where
  start : Good columns rows limit []
  more : (front : List Entry) (entry : Entry) → Good columns rows limit front → Follows (whole columns rows limit front) entry → Good columns rows limit (front ++ entry ∷ [])

-- a tile of a grid of this size
pub record IsOn (columns rows : ℕ) (tile : Position) : Type 0 where
  pub column : tile.x < columns
  pub row : tile.y < rows

-- what each entry keeps, whatever stands before it
abbrev pub Plain : ℕ → ℕ → Entry → Type 0
Plain columns rows (Depth n) = (1 ≤ n) × (n ≤ MAX_DEPTH)
Plain columns rows (Port place capacity) = (capacity ≤ MAX_CAPACITY) × (place.kind ≡ kind.Source → capacity ≡ 0)
Plain columns rows (Feed place words) = (place.kind ≡ kind.Source) × All IsWord words
Plain columns rows (Data tile address words) = IsOn columns rows tile × (address % 4 ≡ 0) × (address + 4 * length words ≤ memory_size) × All IsWord words
Plain columns rows (Misses tile turns) = All (λ n. n < 256) turns
Plain columns rows (Show tile address words) = IsOn columns rows tile × (address % 4 ≡ 0) × (1 ≤ words) × (address + 4 * words ≤ memory_size)
Plain columns rows (Tile tile code) = IsTileCode code
Plain columns rows (Switch tile code) = All IsSwitchIns code × (length code ≤ MAX_SWITCH_CODE)
Plain columns rows _ = Unit {0}

pub within_parts : (least most n : ℕ) → not (is_within least most n) ≡ false → (least ≤ n) × (n ≤ most)
within_parts least most n e = let both = and_parts (leb least n) (leb n most) (not-false _ e) in (leb-true least n both.0, leb-true n most both.1)

pub inside_parts : (columns rows : ℕ) (tile : Position) → is_outside columns rows (Some tile) ≡ false → IsOn columns rows tile
inside_parts columns rows tile e =
    let both = and_parts (ltb tile.x columns) (ltb tile.y rows) (not-false _ e) in record { column = ltb-true _ _ both.0; row = ltb-true _ _ both.1 }

pub plain_of : (columns rows limit : ℕ) (front : List Entry) (entry : Entry) → Follows (whole columns rows limit front) entry → Plain columns rows entry
plain_of columns rows limit front (Depth n) h = within_parts 1 MAX_DEPTH n h.passes.within
plain_of columns rows limit front (Port place capacity) h = (ltb-false MAX_CAPACITY capacity (or_parts _ _ h.passes.within).0, h.formed)
plain_of columns rows limit front (Feed place words) h = h.formed
plain_of columns rows limit front (Data tile address words) h = (inside_parts columns rows tile h.passes.on_grid, h.formed.0, ltb-false memory_size (address + 4 * length words) (or_parts _ _ h.passes.within).0, h.formed.1)
plain_of columns rows limit front (Misses tile turns) h =
    let each = AllPass-from_list_all (λ n. ltb n 256) turns (not-false _ (or_parts _ _ h.passes.within).0) in λ k d l. ltb-true _ 256 (each k d l)
plain_of columns rows limit front (Show tile address words) h =
    (inside_parts columns rows tile h.passes.on_grid, h.formed.0, h.formed.1, ltb-false memory_size (address + 4 * words) (or_parts _ _ (or_parts _ _ h.passes.within).0).0)
plain_of columns rows limit front (Tile tile code) h = h.formed
plain_of columns rows limit front (Switch tile code) h = (h.formed.each, h.formed.few)
plain_of columns rows limit front _ h = tt

-- so does each of them
pub rest_plain : (columns rows limit : ℕ) (rest : List Entry) → Good columns rows limit rest → All (Plain columns rows) rest
rest_plain columns rows limit _ start = All-nil (Plain columns rows)
rest_plain columns rows limit _ (more front entry good h) = All-push (Plain columns rows) front entry (rest_plain columns rows limit front good) (plain_of columns rows limit front entry h)

pub all_plain : (columns rows limit : ℕ) (rest : List Entry) → Good columns rows limit rest → All (Plain columns rows) (whole columns rows limit rest)
all_plain columns rows limit rest good =
    All-cons (Plain columns rows) (Grid columns rows) (Limit limit ∷ rest) tt (All-cons (Plain columns rows) (Limit limit) rest tt (rest_plain columns rows limit rest good))
