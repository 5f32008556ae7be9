-- Where a processor of a fabric stands, and where its wires lead.
use Rattle.std.specs.Prelude.{◌≡◌, ℕ, ◌<◌, nat_lt, slice_index_or, if◌then◌else◌}
use Rattle.raw_model.specs.Program.{ProgramSet, IsSet}
use Rattle.raw_processor.specs.Ends.{AreEndsOf}
use Rattle.raw_fabric_rule.specs.declared.layout.TheConstants.{END_COUNT, SIDES}
use Rattle.raw_fabric_rule.specs.Views.{About}
use Rattle.raw_fabric_rule.specs.ByEnds.{procs, wires, producer_end, consumer_end, wire_at}
use Rattle.raw_fabric_rule.specs.Word.{word_count}
use Rattle.raw_fabric_rule.specs.Plays.{other_side}
use Rattle.raw_fabric_step.specs.declared.post.Side.{Side}
use Rattle.raw_fabric_step.specs.declared.post.Post.{Post}

-- the number of the end at the other side of an end of p
abbrev pub other_end : ProgramSet → ℕ → ℕ → ℕ
other_end set p end = if nat_lt end END_COUNT then producer_end set (wire_at set p end) else consumer_end set (wire_at set p end)

-- what stands at the other side of an end of p
pub record IsSide (set : ProgramSet) (p end : ℕ) (side : Side) : Type 0 where
  pub wire : side.wire ≡ wire_at set p end
  pub other : side.other ≡ other_side set p end
  pub end_is : side.end ≡ other_end set p end

-- the post of a processor of a fabric whose table has so many words
pub record IsPost (about : About) (words : ℕ) (post : Post) : Type 0 where
  pub valid : IsSet about.set
  pub words_are : words ≡ word_count about.set
  pub within : post.p < procs about.set
  pub processors_are : post.processors ≡ procs about.set
  pub depth_is : post.depth ≡ about.set.depth
  pub ends_are : AreEndsOf about.set.topo post.p post.ends.now
  -- each end that has a wire has its other side in the list
  pub sides_are : (end : ℕ) (none : Side) → end < SIDES → wire_at about.set post.p end < wires about.set →
      IsSide about.set post.p end (slice_index_or post.sides.now end none)
