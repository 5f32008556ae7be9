-- The parts of one move, one node and one out, given one after another.
use Rattle.std.proofs.Common.{◌≡◌, ℕ, Bool, List, [], ◌∷◌, ◌++◌, sym, ap, ◌∙◌, subst}
use Rattle.raw_tile_isa.specs.Instruction.{Instruction}
use Rattle.raw_tile_isa.specs.Load.{load}
use Rattle.raw_model.specs.Program.{TileProgram}
use Rattle.raw_codegen.specs.Parts.{Part, ToTile, ToSwitch, to_tile, to_switches, Gives}
use Rattle.raw_codegen.specs.Limits.{Overflows}
use Rattle.raw_codegen.specs.Rows.{store_ins, from_side, to_side}
use Rattle.raw_route.specs.Hauls.{Haulage}
use Rattle.raw_route.specs.Tree.{tree_ins}
use Rattle.raw_route.proofs.HaulParts.{to_tile_split}
use Rattle.raw_flow.specs.declared.node.FlowOp.{FlowOp}
use Rattle.raw_flow.specs.declared.node.Node.TheVariants.{Apply}
use Rattle.raw_flow.specs.Flows.{Dataflow}
use Rattle.raw_flow.specs.Places.{Holding, with_value, AreMarks}
use Rattle.raw_grid.specs.declared.parts.Net.TheVariants.{One}
use Rattle.raw_grid.specs.declared.parts.PortPlace.{PortPlace}
use Rattle.raw_switch_isa.specs.Instruction.{SwitchInstruction}
use Rattle.raw_flow.specs.Ports.{FlowPorts, tile_at}
use Rattle.raw_flow.specs.Compiled.{tiles_in, home, send_value, take_value, one_haul, carried, moved, taken_at, given_at, const_code, apply_code, node_parts, held_node}
use Rattle.raw_flow.specs.Given.{AreGiven}
use Rattle.raw_codegen.specs.Laws.{GivingLaws}

module _ (laws : GivingLaws) where
  -- a constant
  pub const_given : (n t v word : ℕ) (sw : Instruction) (a b c : List TileProgram) → sw ≡ store_ins 7 v → Gives n (to_tile t (load 7 word)) a b → Gives n (ToTile t sw ∷ []) b c → Gives n (to_tile t (const_code v word)) a c
  const_given n t v word sw a b c is g h =
      subst (λ (ps : List Part). Gives n ps a c)
      (ap (λ ins. to_tile t (load 7 word) ++ ToTile t ins ∷ []) is ∙ sym (to_tile_split t (load 7 word) (store_ins 7 v ∷ [])))
      (laws.both n (to_tile t (load 7 word)) (ToTile t sw ∷ []) a b c g h)

  -- a value is carried
  module _ (flow : Dataflow) (ports : FlowPorts) (v t h : ℕ) (haul : Haulage) (lw sw : Instruction) (at : h ≡ home flow ports v) (is : haul ≡ one_haul h t) (lw_is : lw ≡ send_value One v) (sw_is : sw ≡ take_value One v) where
    abbrev n : ℕ
    n = tiles_in flow

    abbrev tree : Haulage → List Part
    tree u = to_switches n (tree_ins flow.cols u)

    parts_are : (ToTile h lw ∷ []) ++ (tree haul ++ (ToTile t sw ∷ [])) ≡ carried flow ports v t
    parts_are =
        ap (λ (u : Haulage). (ToTile h lw ∷ []) ++ (tree u ++ (ToTile t sw ∷ []))) is
        ∙ ap (λ (k : ℕ). (ToTile k lw ∷ []) ++ (tree (one_haul k t) ++ (ToTile t sw ∷ []))) at
        ∙ ap (λ ins. (ToTile (home flow ports v) ins ∷ []) ++ (tree (one_haul (home flow ports v) t) ++ (ToTile t sw ∷ []))) lw_is
        ∙ ap (λ ins. (ToTile (home flow ports v) (send_value One v) ∷ []) ++ (tree (one_haul (home flow ports v) t) ++ (ToTile t ins ∷ []))) sw_is

    pub carried_given : (a b c d : List TileProgram) → Gives n (ToTile h lw ∷ []) a b → Gives n (tree haul) b c → Gives n (ToTile t sw ∷ []) c d → Gives n (carried flow ports v t) a d
    carried_given a b c d x y z =
        subst (λ (ps : List Part). Gives n ps a d) parts_are
        (laws.both n (ToTile h lw ∷ []) (tree haul ++ (ToTile t sw ∷ [])) a b d x (laws.both n (tree haul) (ToTile t sw ∷ []) b c d y z))

    pub first_full : (a : List TileProgram) → Overflows n (ToTile h lw ∷ []) a → Overflows n (carried flow ports v t) a
    first_full a full =
        subst (λ (ps : List Part). Overflows n ps a) parts_are (laws.more n (ToTile h lw ∷ []) (tree haul ++ (ToTile t sw ∷ [])) a full)

    pub tree_full : (a b : List TileProgram) → Gives n (ToTile h lw ∷ []) a b → Overflows n (tree haul) b → Overflows n (carried flow ports v t) a
    tree_full a b x full =
        subst (λ (ps : List Part). Overflows n ps a) parts_are
        (laws.later n (ToTile h lw ∷ []) (tree haul ++ (ToTile t sw ∷ [])) a b x (laws.more n (tree haul) (ToTile t sw ∷ []) b full))

    pub last_full : (a b c : List TileProgram) → Gives n (ToTile h lw ∷ []) a b → Gives n (tree haul) b c → Overflows n (ToTile t sw ∷ []) c → Overflows n (carried flow ports v t) a
    last_full a b c x y full =
        subst (λ (ps : List Part). Overflows n ps a) parts_are
        (laws.later n (ToTile h lw ∷ []) (tree haul ++ (ToTile t sw ∷ [])) a b x (laws.later n (tree haul) (ToTile t sw ∷ []) b c y full))

  -- an input is taken
  module _ (flow : Dataflow) (held : List Holding) (place : PortPlace) (v t : ℕ) (sw : SwitchInstruction) (st : Instruction) (at : t ≡ tile_at flow place) (sw_is : sw ≡ from_side place.net place.side)
      (st_is : st ≡ take_value place.net v) where
    taken_are : ToSwitch t sw ∷ ToTile t st ∷ [] ≡ taken_at flow place v
    taken_are =
        ap (λ (u : ℕ). ToSwitch u sw ∷ ToTile u st ∷ []) at
        ∙ ap (λ ins. ToSwitch (tile_at flow place) ins ∷ ToTile (tile_at flow place) st ∷ []) sw_is
        ∙ ap (λ ins. ToSwitch (tile_at flow place) (from_side place.net place.side) ∷ ToTile (tile_at flow place) ins ∷ []) st_is

    pub taken_given : (a b c : List TileProgram) (marks : List Bool) → Gives (tiles_in flow) (ToSwitch t sw ∷ []) a b → Gives (tiles_in flow) (ToTile t st ∷ []) b c → AreMarks flow marks (with_value held v t)
        → AreGiven flow (taken_at flow place v) (with_value held v (tile_at flow place)) a c marks
    taken_given a b c marks x y m = record {
      gives = subst (λ (ps : List Part). Gives (tiles_in flow) ps a c) taken_are (laws.both (tiles_in flow) (ToSwitch t sw ∷ []) (ToTile t st ∷ []) a b c x y);
      marked = subst (λ (u : ℕ). AreMarks flow marks (with_value held v u)) at m;
    }

    pub switch_full : (a : List TileProgram) → Overflows (tiles_in flow) (ToSwitch t sw ∷ []) a → Overflows (tiles_in flow) (taken_at flow place v) a
    switch_full a full = subst (λ (ps : List Part). Overflows (tiles_in flow) ps a) taken_are (laws.more (tiles_in flow) (ToSwitch t sw ∷ []) (ToTile t st ∷ []) a full)

    pub store_full : (a b : List TileProgram) → Gives (tiles_in flow) (ToSwitch t sw ∷ []) a b → Overflows (tiles_in flow) (ToTile t st ∷ []) b → Overflows (tiles_in flow) (taken_at flow place v) a
    store_full a b x full = subst (λ (ps : List Part). Overflows (tiles_in flow) ps a) taken_are (laws.later (tiles_in flow) (ToSwitch t sw ∷ []) (ToTile t st ∷ []) a b x full)

  -- an out is given
  module _ (flow : Dataflow) (ports : FlowPorts) (held : List Holding) (place : PortPlace) (v t : ℕ) (lw : Instruction) (sw : SwitchInstruction) (at : t ≡ tile_at flow place) (lw_is : lw ≡ send_value place.net v)
      (sw_is : sw ≡ to_side place.net place.side) where
    abbrev way : List Part
    way = moved flow ports held v t

    given_are : way ++ ((ToTile t lw ∷ []) ++ ToSwitch t sw ∷ []) ≡ given_at flow ports held place v
    given_are =
        ap (λ (u : ℕ). moved flow ports held v u ++ (ToTile u lw ∷ ToSwitch u sw ∷ [])) at
        ∙ ap (λ ins. moved flow ports held v (tile_at flow place) ++ (ToTile (tile_at flow place) ins ∷ ToSwitch (tile_at flow place) sw ∷ [])) lw_is
        ∙ ap (λ ins. moved flow ports held v (tile_at flow place) ++ (ToTile (tile_at flow place) (send_value place.net v) ∷ ToSwitch (tile_at flow place) ins ∷ [])) sw_is

    pub out_given : (a b c d : List TileProgram) (marks : List Bool) → AreGiven flow way (with_value held v t) a b marks → Gives (tiles_in flow) (ToTile t lw ∷ []) b c → Gives (tiles_in flow) (ToSwitch t sw ∷ []) c d
        → AreGiven flow (given_at flow ports held place v) (with_value held v (tile_at flow place)) a d marks
    out_given a b c d marks g x y = record {
      gives = subst (λ (ps : List Part). Gives (tiles_in flow) ps a d) given_are
          (laws.both (tiles_in flow) way ((ToTile t lw ∷ []) ++ ToSwitch t sw ∷ []) a b d g.gives (laws.both (tiles_in flow) (ToTile t lw ∷ []) (ToSwitch t sw ∷ []) b c d x y));
      marked = subst (λ (u : ℕ). AreMarks flow marks (with_value held v u)) at g.marked;
    }

    pub way_full : (a : List TileProgram) → Overflows (tiles_in flow) way a → Overflows (tiles_in flow) (given_at flow ports held place v) a
    way_full a full = subst (λ (ps : List Part). Overflows (tiles_in flow) ps a) given_are (laws.more (tiles_in flow) way ((ToTile t lw ∷ []) ++ ToSwitch t sw ∷ []) a full)

    pub send_full : (a b : List TileProgram) → Gives (tiles_in flow) way a b → Overflows (tiles_in flow) (ToTile t lw ∷ []) b → Overflows (tiles_in flow) (given_at flow ports held place v) a
    send_full a b g full =
        subst (λ (ps : List Part). Overflows (tiles_in flow) ps a) given_are
        (laws.later (tiles_in flow) way ((ToTile t lw ∷ []) ++ ToSwitch t sw ∷ []) a b g (laws.more (tiles_in flow) (ToTile t lw ∷ []) (ToSwitch t sw ∷ []) b full))

    pub pass_full : (a b c : List TileProgram) → Gives (tiles_in flow) way a b → Gives (tiles_in flow) (ToTile t lw ∷ []) b c → Overflows (tiles_in flow) (ToSwitch t sw ∷ []) c → Overflows (tiles_in flow) (given_at flow ports held place v) a
    pass_full a b c g x full =
        subst (λ (ps : List Part). Overflows (tiles_in flow) ps a) given_are
        (laws.later (tiles_in flow) way ((ToTile t lw ∷ []) ++ ToSwitch t sw ∷ []) a b g (laws.later (tiles_in flow) (ToTile t lw ∷ []) (ToSwitch t sw ∷ []) b c x full))

  -- an operation: both values are moved, and it is done
  module _ (flow : Dataflow) (ports : FlowPorts) (held : List Holding) (v : ℕ) (op : FlowOp) (a b t : ℕ) (at : t ≡ home flow ports v) where
    abbrev m : ℕ
    m = tiles_in flow

    abbrev front : List Part
    front = moved flow ports held a t

    abbrev next : List Part
    next = moved flow ports (with_value held a t) b t

    abbrev block : List Part
    block = to_tile t (apply_code v op a b)

    apply_parts : front ++ (next ++ block) ≡ node_parts flow ports held v (Apply op a b)
    apply_parts = ap (λ (h : ℕ). moved flow ports held a h ++ (moved flow ports (with_value held a h) b h ++ to_tile h (apply_code v op a b))) at

    pub apply_given : (x y z w : List TileProgram) (m1 m2 m3 : List Bool) → AreGiven flow front (with_value held a t) x y m1 → AreGiven flow next (with_value (with_value held a t) b t) y z m2
        → Gives m block z w → AreMarks flow m3 (with_value (with_value (with_value held a t) b t) v t)
        → AreGiven flow (node_parts flow ports held v (Apply op a b)) (held_node flow ports held v (Apply op a b)) x w m3
    apply_given x y z w m1 m2 m3 g h k marks = record {
      gives = subst (λ (ps : List Part). Gives m ps x w) apply_parts (laws.both m front (next ++ block) x y w g.gives (laws.both m next block y z w h.gives k));
      marked = subst (λ (u : ℕ). AreMarks flow m3 (with_value (with_value (with_value held a u) b u) v u)) at marks;
    }

    pub front_full : (x : List TileProgram) → Overflows m front x → Overflows m (node_parts flow ports held v (Apply op a b)) x
    front_full x full = subst (λ (ps : List Part). Overflows m ps x) apply_parts (laws.more m front (next ++ block) x full)

    pub next_full : (x y : List TileProgram) → Gives m front x y → Overflows m next y → Overflows m (node_parts flow ports held v (Apply op a b)) x
    next_full x y g full = subst (λ (ps : List Part). Overflows m ps x) apply_parts (laws.later m front (next ++ block) x y g (laws.more m next block y full))

    pub block_full : (x y z : List TileProgram) → Gives m front x y → Gives m next y z → Overflows m block z → Overflows m (node_parts flow ports held v (Apply op a b)) x
    block_full x y z g h full = subst (λ (ps : List Part). Overflows m ps x) apply_parts (laws.later m front (next ++ block) x y g (laws.later m next block y z h full))
