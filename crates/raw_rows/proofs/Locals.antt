-- Local states of a cut: placed in a table they stand for those of the machine, and a run that arrives at the cut leaves such ones.
use Rattle.std.proofs.Common.{◌≡◌, ℕ, suc, ◌+◌, ◌-◌, ◌*◌, ◌<◌, ◌≤◌, List, [], ◌∷◌, ◌++◌, length, map, drop, Option, Some, None, refl, sym, ap, ◌∙◌, subst, arith, append_assoc, length-append}
use Rattle.std.specs.Prelude.{slice_get, slice_index}
use Rattle.std.specs.List.{All}
use Rattle.std.specs.Option.{option_map}
use Rattle.std.proofs.lemmas.List.{length-map}
use Rattle.std.proofs.Math.Seq.{drop-append_seam}
use Rattle.raw_grid.specs.Topology.{tile_count}
use Rattle.raw_model.specs.Program.{ProgramSet, PortProgram}
use Rattle.raw_model.specs.Local.{Local, Tile, Switch, Source, Sink, TileLocal, SwitchLocal}
use Rattle.raw_model.specs.TileTable.{word_at}
use Rattle.raw_model.specs.Machine.{port_program, words_of, capacity_of}
use Rattle.raw_term.proofs.Terms.{Holds, same_value}
use Rattle.raw_term.proofs.Image.{Pairs, AlikeLocals, AlikeAt, AlikeWires, pairs_length}
use Rattle.raw_term.proofs.SwitchImage.{pairs_at}
use Rattle.raw_term.proofs.TileTerms.{AlikeTile}
use Rattle.raw_term.proofs.Rows.{AlikeLocal}
use Rattle.raw_stream.specs.Streams.{Stream, valued, due_to}
use Rattle.raw_row_terms.proofs.Placing.{pairs_append, pairs_valued}
use Rattle.raw_rows.specs.Given.{given_by}
use Rattle.raw_rows.specs.Kernels.{renumbered, AtBoth, AtEach, IsLater}
use Rattle.raw_rows.proofs.Inputs.{pairs_same}
use Rattle.raw_rows.proofs.Frames.{Framed}

-- a tile of the machine that has the values of a tile of a cut, and has counted nothing
pub record IsTileAt (V : List ℕ) (l m : TileLocal) : Type 0 where
  pub is : m ≡ record { regs = valued V l.regs; pc = l.pc; count = 0; mark = l.mark; memory = m.memory }
  pub many : length l.memory ≡ 16384
  pub size : length m.memory ≡ 65536
  pub bytes : All (λ byte. byte < 256) m.memory
  pub words : (i : ℕ) → i < 16384 → word_at m.memory (4 * i) ≡ slice_index (valued V l.memory) i

-- a local state of the machine that has the values of one of a cut
abbrev pub IsValued : List ℕ → ℕ → Local → Local → Type 0
IsValued V p (Tile l) (Tile m) = IsTileAt V l m
IsValued V p (Switch l) (Switch m) = m ≡ record { regs = valued V l.regs; pc = l.pc; count = 0; mark = l.mark }
IsValued V p (Source l) (Source m) = m ≡ l
IsValued V p (Sink l) (Sink m) = m ≡ record { done = l.done; got = valued V l.got }
IsValued V p _ _ = ⊥

module _ (W V ns : List ℕ) (none : Holds W 0 0) (h : Pairs (Holds W) ns V) where
  pub valued_alike : (xs : List ℕ) → Pairs (Holds W) (valued ns xs) (valued V xs)
  valued_alike xs = pairs_valued (Holds W) none ns V xs h

  valued_back : (xs ys : List ℕ) → Pairs (Holds W) (valued ns xs) ys → ys ≡ valued V xs
  valued_back xs ys g = pairs_same W (valued ns xs) ys (valued V xs) g (valued_alike xs)

  -- placed
  local_placed : (p : ℕ) (l m : Local) → IsValued V p l m → AlikeLocal W (renumbered ns l) m
  local_placed p (Tile l) (Tile m) g = record {
    rest = ap (λ (k : TileLocal). record { regs = valued ns l.regs; pc = k.pc; count = k.count; mark = k.mark; memory = valued ns l.memory }) (sym g.is);
    core = record {
      each = subst (λ rs. Pairs (Holds W) (valued ns l.regs) rs) (sym (ap (λ k. k.regs) g.is)) (valued_alike l.regs);
      many = length-map l.memory (λ v. slice_index ns v) ∙ g.many;
      size = g.size;
      bytes = g.bytes;
      words = λ i lt. subst (λ x. Holds W (slice_index (valued ns l.memory) i) x) (sym (g.words i lt)) (pairs_at (Holds W) none (valued ns l.memory) (valued V l.memory) (valued_alike l.memory) i);
    };
  }
  local_placed p (Switch l) (Switch m) g = (
    ap (λ (k : SwitchLocal). record { regs = valued ns l.regs; pc = k.pc; count = k.count; mark = k.mark }) (sym g),
    subst (λ rs. Pairs (Holds W) (valued ns l.regs) rs) (sym (ap (λ k. k.regs) g)) (valued_alike l.regs),
  )
  local_placed p (Source l) (Source m) g = sym g
  local_placed p (Sink l) (Sink m) g = (sym (ap (λ k. k.done) g), subst (λ xs. Pairs (Holds W) (valued ns l.got) xs) (sym (ap (λ k. k.got) g)) (valued_alike l.got))
  local_placed p _ _ g = absurd g

  pub locals_placed : (ls ms : List Local) → AtEach (IsValued V) ls ms → AlikeLocals (AlikeLocal W) (map (renumbered ns) ls) ms
  locals_placed [] [] g = tt
  locals_placed [] (m ∷ ms) g = absurd (g 0)
  locals_placed (l ∷ ls) [] g = absurd (g 0)
  locals_placed (l ∷ ls) (m ∷ ms) g = (local_placed 0 l m (g 0), locals_placed ls ms (λ p. shift p (slice_get ls p) (slice_get ms p) (g (suc p)))) where
    shift : (p : ℕ) (o q : Option Local) → AtBoth (IsValued V) (suc p) o q → AtBoth (IsValued V) p o q
    shift p None None f = f
    shift p None (Some y) f = absurd f
    shift p (Some x) None f = absurd f
    shift p (Some (Tile x)) (Some (Tile y)) f = f
    shift p (Some (Switch x)) (Some (Switch y)) f = f
    shift p (Some (Source x)) (Some (Source y)) f = f
    shift p (Some (Sink x)) (Some (Sink y)) f = f
    shift p (Some _) (Some _) f = absurd f

  pub wires_placed : (ws : List (List ℕ)) → AlikeWires (Holds W) (map (valued ns) ws) (map (valued V) ws)
  wires_placed [] = tt
  wires_placed (xs ∷ ws) = (valued_alike xs, wires_placed ws)

  pub wires_back : (ws vs : List (List ℕ)) → AlikeWires (Holds W) (map (valued ns) ws) vs → vs ≡ map (valued V) ws
  wires_back [] [] g = refl
  wires_back [] (y ∷ vs) g = absurd g
  wires_back (x ∷ ws) [] g = absurd g
  wires_back (x ∷ ws) (y ∷ vs) g = ap (λ z. z ∷ vs) (valued_back x y g.0) ∙ ap (λ zs. valued V x ∷ zs) (wires_back ws vs g.1)

  -- a tile with terms of the cut stands for one with its values
  tile_back : (l m : TileLocal) (c : ℕ) → AlikeTile W (record { regs = valued ns l.regs; pc = l.pc; count = c; mark = l.mark; memory = valued ns l.memory }) m → IsTileAt V l (record m { count = 0 })
  tile_back l m c g = record {
    is = λ i. record { regs = valued_back l.regs m.regs g.core.each i; pc = sym (ap (λ k. k.pc) g.rest) i; count = 0; mark = sym (ap (λ k. k.mark) g.rest) i; memory = m.memory };
    many = sym (length-map l.memory (λ v. slice_index ns v)) ∙ g.core.many;
    size = g.core.size;
    bytes = g.core.bytes;
    words = λ i lt. same_value [] W (slice_index (valued ns l.memory) i) (word_at m.memory (4 * i)) (slice_index (valued V l.memory) i) (g.core.words i lt)
        (pairs_at (Holds W) none (valued ns l.memory) (valued V l.memory) (valued_alike l.memory) i);
  }

-- a local state that is counted from a later row on
abbrev pub rebased : (ℕ → List ℕ) → (ℕ → List ℕ) → ℕ → Local → Local
rebased given due p (Tile m) = Tile (record m { count = 0 })
rebased given due p (Switch m) = Switch (record m { count = 0 })
rebased given due p (Source m) = Source (record m { done = m.done - length (given p) })
rebased given due p (Sink m) = Sink (record { done = m.done - length (due p); got = drop (length (due p)) m.got })

-- a run that has arrived at a cut, seen from that cut
module _ (set_ : ProgramSet) (s : Stream) (small : ℕ) (few later : List PortProgram) (used : ℕ) (sent had given due : ℕ → List ℕ) where
  -- words and places for the rows before the cut and behind it
  pub record IsSplit (p : ℕ) : Type 0 where
    pub words : length (words_of (port_program (record set_ { limit = small; ports = few }) p)) ≤ length (given p) + length (words_of (port_program (record set_ { limit = 0; ports = later }) p))
    pub room : capacity_of (port_program (record set_ { limit = small; ports = few }) p) ≤ length (due p) + capacity_of (port_program (record set_ { limit = 0; ports = later }) p)

  pub record AtRebased (V : List ℕ) (p : ℕ) (k m x : Option Local) : Type 0 where
    pub values : AtBoth (IsValued V) p k (option_map (rebased given due p) m)
    pub framed : AtBoth (Framed set_ 0 later (used + small) (λ p. sent p ++ given p) (λ p. had p ++ due p)) p (option_map (rebased given due p) m) x

  pub record IsRebased (V : List ℕ) (p : ℕ) (k m x : Local) : Type 0 where
    pub values : IsValued V p k (rebased given due p m)
    pub framed : Framed set_ 0 later (used + small) (λ p. sent p ++ given p) (λ p. had p ++ due p) p (rebased given due p m) x

  module _ (W V ns : List ℕ) (none : Holds W 0 0) (h : Pairs (Holds W) ns V) (rows values : List (List ℕ)) where
    pub local_arrives : (p : ℕ) (l k m x : Local) → AlikeLocal W l m → IsLater s (tile_count set_.topo) rows values p l (renumbered ns k)
        → length (given_by s (p - 2 * tile_count set_.topo) rows) ≡ length (given p) → Pairs (Holds W) (due_to s (p - 2 * tile_count set_.topo) values) (due p) → IsSplit p
        → Framed set_ small few used sent had p m x → IsRebased V p k m x
    local_arrives p (Tile l) (Tile k) (Tile m) (Tile x) a is e d split f = record {
      values = tile_back W V ns none h k m l.count (subst (λ j. AlikeTile W j m) is a);
      framed = (f.0, omega (arith, f.1, f.2), omega arith);
    }
    local_arrives p (Switch l) (Switch k) (Switch m) (Switch x) a is e d split f =
        let a' = subst (λ j. (j ≡ record m { regs = j.regs }) × Pairs (Holds W) j.regs m.regs) is a in
        record {
          values = λ i. record { regs = valued_back W V ns none h k.regs m.regs a'.1 i; pc = sym (ap (λ j. j.pc) a'.0) i; count = 0; mark = sym (ap (λ j. j.mark) a'.0) i };
          framed = (f.0, omega (arith, f.1, f.2), omega arith);
        }
    local_arrives p (Source l) (Source k) (Source m) (Source x) a is e d split f =
        let done : m.done ≡ length (given p) + k.done = ap (λ j. j.done) (sym a) ∙ ap (λ j. j.done) is ∙ ap (λ n. n + k.done) e in
        let left : m.done - length (given p) ≡ k.done = omega (arith, done) in
        let got : m.got ≡ k.got = ap (λ j. j.got) (sym a) ∙ ap (λ j. j.got) is in
        record {
          values = λ i. record { done = left i; got = got i };
          framed = (omega (arith, f.0, done, length-append (sent p) (given p)), f.1, omega (arith, f.2, done, split.words));
        }
    local_arrives p (Sink l) (Sink k) (Sink m) (Sink x) a is e d split f =
        let many : length (due_to s (p - 2 * tile_count set_.topo) values) ≡ length (due p) = pairs_length (Holds W) (due_to s (p - 2 * tile_count set_.topo) values) (due p) d in
        let done : m.done ≡ length (due p) + k.done = sym a.0 ∙ ap (λ j. j.done) is ∙ ap (λ n. n + k.done) many in
        let left : m.done - length (due p) ≡ k.done = omega (arith, done) in
        let got : m.got ≡ due p ++ valued V k.got =
        pairs_same W l.got m.got (due p ++ valued V k.got) a.1 (subst (λ j. Pairs (Holds W) j (due p ++ valued V k.got)) (sym (ap (λ j. j.got) is))
        (pairs_append (Holds W) (due_to s (p - 2 * tile_count set_.topo) values) (due p) (valued ns k.got) (valued V k.got) d (valued_alike W V ns none h k.got))) in
        let rest : drop (length (due p)) m.got ≡ valued V k.got = ap (λ xs. drop (length (due p)) xs) got ∙ drop-append_seam (due p) (valued V k.got) in
        record {
          values = λ i. record { done = left i; got = rest i };
          framed = (
            omega (arith, f.0, done, length-append (had p) (due p)),
            f.1 ∙ ap (λ xs. had p ++ xs) (got ∙ ap (λ xs. due p ++ xs) (sym rest)) ∙ sym (append_assoc (had p) (due p) (drop (length (due p)) m.got)),
            omega (arith, f.2, done, split.room),
          );
        }
    local_arrives p (Tile l) (Tile k) (Tile m) _ a is e d split f = absurd f
    local_arrives p (Tile l) (Tile k) _ x a is e d split f = absurd a
    local_arrives p (Tile l) _ m x a is e d split f = absurd is
    local_arrives p (Switch l) (Switch k) (Switch m) _ a is e d split f = absurd f
    local_arrives p (Switch l) (Switch k) _ x a is e d split f = absurd a
    local_arrives p (Switch l) _ m x a is e d split f = absurd is
    local_arrives p (Source l) (Source k) (Source m) _ a is e d split f = absurd f
    local_arrives p (Source l) (Source k) _ x a is e d split f = absurd a
    local_arrives p (Source l) _ m x a is e d split f = absurd is
    local_arrives p (Sink l) (Sink k) (Sink m) _ a is e d split f = absurd f
    local_arrives p (Sink l) (Sink k) _ x a is e d split f = absurd a
    local_arrives p (Sink l) _ m x a is e d split f = absurd is

    pub at_arrives : (p : ℕ) (l k m x : Option Local) → AlikeAt (AlikeLocal W) l m → AtBoth (IsLater s (tile_count set_.topo) rows values) p l (option_map (renumbered ns) k)
        → length (given_by s (p - 2 * tile_count set_.topo) rows) ≡ length (given p) → Pairs (Holds W) (due_to s (p - 2 * tile_count set_.topo) values) (due p) → IsSplit p
        → AtBoth (Framed set_ small few used sent had) p m x → AtRebased V p k m x
    at_arrives p None None None None a is e d split f = record { values = tt; framed = tt }
    at_arrives p (Some l) (Some k) (Some m) (Some x) a is e d split f =
        let one : IsRebased V p k m x = local_arrives p l k m x a is e d split f in
        record { values = one.values; framed = one.framed }
    at_arrives p None (Some k) m x a is e d split f = absurd is
    at_arrives p (Some l) None m x a is e d split f = absurd is
    at_arrives p None None (Some m) x a is e d split f = absurd a
    at_arrives p None None None (Some x) a is e d split f = absurd f
    at_arrives p (Some l) (Some k) None x a is e d split f = absurd a
    at_arrives p (Some l) (Some k) (Some m) None a is e d split f = absurd f
