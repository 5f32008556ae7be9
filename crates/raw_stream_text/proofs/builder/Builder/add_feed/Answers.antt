use Rattle.std.proofs.Common.{◌≡◌, Some, None, refl, sym, ap, ◌∙◌}
use Rattle.raw_set_text.specs.declared.kind.SetKind.TheVariants.{UndeclaredEdge}
use Rattle.raw_stream_text.specs.Edges.{edge_number}
use Rattle.raw_stream_text.specs.Statement.Statement.{Feed}
use Rattle.raw_stream_text.specs.Streams.{sources_in}
use Rattle.raw_stream_text.proofs.Standing.{says, feed_fault, feed_added}
use Rattle.raw_stream_text.proofs.builder.Builder.add_feed.Goals as goal

pub returns-in_default : goal.returns-in_default
returns-in_default c = λ claimed all is.
    says c.args.self.now _ claimed all c.args.line _ (Feed c.args.edge c.args.words.items) UndeclaredEdge c.at.ensures
    (λ said rest split stands.
    let none : edge_number (sources_in all) c.args.edge ≡ None = ap (λ edges. edge_number edges c.args.edge) (sym is.sources) ∙ sym c.find.ensures ∙ c.in_default.is in
    feed_fault claimed all said c.args.edge c.args.words.items ∙ rw none refl)

pub returns : goal.returns
returns c = λ claimed all is.
    let port : edge_number (sources_in all) c.args.edge ≡ Some c.in-Some.port = ap (λ edges. edge_number edges c.args.edge) (sym is.sources) ∙ sym c.find.ensures ∙ c.in-Some.is in
    record {
      fault = λ said rest split stands. feed_fault claimed all said c.args.edge c.args.words.items ∙ rw port refl;
      stands = λ said rest split stands.
          feed_added c.args.self.now c.add_words.new.self all said (Feed c.args.edge c.args.words.items) stands (c.in-Some.port, c.args.words.items) c.in_ok-add_words.ensures (rw port refl) refl refl refl refl;
    }
