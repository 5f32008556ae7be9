-- The row of a tile that names no network: it asks nothing of others, and the status word after it is the one before it.
use Rattle.std.proofs.Common.{◌≡◌, ℕ, ◌<◌, true, Option, Some, None, [], map, refl, sym, ap, ◌∙◌, subst, arith}
use Rattle.std.specs.Prelude.{IfSome}
use Rattle.raw_network.specs.Network.{count_of}
use Rattle.raw_tile_isa.specs.Instruction.{Instruction}
use Rattle.raw_grid.specs.Topology.{tile_count}
use Rattle.raw_model.specs.Program.{ProgramSet, IsSet}
use Rattle.raw_model.specs.Local.{TileLocal, Tile as tile_local}
use Rattle.raw_model.specs.TileTable.{next_instruction}
use Rattle.raw_model.specs.Machine.{is_stopped, tile_code, tile_effect}
use Rattle.raw_tile.specs.declared.step.Via.TheVariants.{Tile}
use Rattle.raw_tile.specs.declared.fire.TileOut.{TileOut}
use Rattle.raw_tile.specs.Step.{is_within}
use Rattle.raw_tile.specs.Given.{out_of}
use Rattle.raw_fabric_rule.specs.Views.{About, Hold}
use Rattle.raw_fabric_rule.specs.ByEnds.{needs, gives}
use Rattle.raw_fabric_rule.specs.Word.{pack}
use Rattle.raw_fabric_rule.specs.Plays.{held_value, values_of, counts_after}
use Rattle.raw_fabric_rule.specs.Conditions.{blank, ShowsRow}
use Rattle.raw_fabric_step.specs.Units.{IsReady}
use Rattle.raw_fabric_step.specs.Turns.{IsDue}
use Rattle.raw_fabric_step.specs.Pairs.{TakesPair, SendsPair, HasOperands}
use Rattle.raw_fabric_step.proofs.TileRows.{ways_within, row_needs, row_gives, row_fills, row_sent}
use Rattle.raw_fabric_step.proofs.Pairing.{takes_vias, named_first, named_second, pair_shows, pair_word}

-- nothing is sent to an output that is not named
none_sent : (set : ProgramSet) (p end : ℕ) (u : Hold) (o : Option ℕ) → gives set p u.local ≡ [] → IfSome o (λ _. 0 < count_of end (gives set p u.local)) → o ≡ None
none_sent set p end u None none some = refl
none_sent set p end u (Some value) none some = let c = ap (count_of end) none in absurd (omega (arith, c, some))

module _ (about : About) (is : IsSet about.set) (p : ℕ) (below : p < tile_count about.set.topo) (u : Hold) (l : TileLocal) (due : IsDue about p u (tile_local l))
    (ins : Instruction) (next : next_instruction (tile_code about.set p) l ≡ Some ins) (within : is_within ins ≡ true)
    (out : TileOut) (out_is : out ≡ out_of (tile_effect (tile_code about.set p) l [])) where
  pub no_values : values_of u ≡ []
  no_values = ap (map held_value) due.idle.fetched

  takes : TakesPair about.set p u.local None None
  takes =
      let ways = ways_within ins within in
      takes_vias about.set p u.local Tile Tile None None refl refl (row_needs about.set is p below u.local l due.local_is ins next Tile Tile ways.first_is ways.second_is)

  gives_none : gives about.set p u.local ≡ []
  gives_none = row_gives about.set is p below u.local l due.local_is ins next Tile (ways_within ins within).sent_is

  sends : SendsPair about.set p u None None
  sends =
      let out' : out ≡ out_of (tile_effect (tile_code about.set p) l (values_of u)) = out_is ∙ ap (λ values. out_of (tile_effect (tile_code about.set p) l values)) (sym no_values) in
      let all : SendsPair about.set p u out.sent1 out.sent2 = record {
        fills_are = row_fills about.set is p below u.local l due.local_is ins next (values_of u) out out';
        sent_are = row_sent about.set is p below u.local l due.local_is ins next (values_of u) out out';
      } in
      let first = none_sent about.set p 14 u out.sent1 gives_none (named_first about p u out.sent1 out.sent2 is all) in
      let second = none_sent about.set p 19 u out.sent2 gives_none (named_second about p u out.sent1 out.sent2 is all) in
      subst (λ (q : Option ℕ × Option ℕ). SendsPair about.set p u q.0 q.1) (λ i. (first i, second i)) all

  has : HasOperands about p None None u
  has = record {
    shown = record {
      going = ap (is_stopped about.set p) due.local_is ∙ due.going;
      values = λ end some. let c = ap (count_of end) takes.needs_are in absurd (omega (arith, c, some));
      room = λ end some. let c = ap (count_of end) gives_none in absurd (omega (arith, c, some));
    };
    fetched = ap (map blank) due.idle.fetched;
    staged = due.idle.staged;
  }

  -- the unit shows its row
  pub within_shows : ShowsRow about p u
  within_shows = pair_shows about p u None None None None takes sends has

  -- and the status word is the one after the row, too
  pub within_word : (status : ℕ) → IsReady status u → status ≡ pack (counts_after about.set p u)
  within_word status ready = pair_word about p u None None None None takes sends status ready.status_is
