use Rattle.std.proofs.Common.{◌≡◌, ◌-◌, ◌<◌, length, Some, refl, sym, ap, ◌∙◌, arith}
use Rattle.std.specs.Prelude.{slice_get}
use Rattle.raw_stream.specs.declared.row_node.RowNode.TheVariants.{Input, Const, Apply, Pre}
use Rattle.raw_stream.specs.Streams.{Stream}
use Rattle.raw_stream.proofs.Places.{word_within, place_input}
use Rattle.raw_unroll.proofs.Rows.{begins_behind, begins, next_few, const_place, apply_place, pre_found, took, took_none}
use Rattle.raw_unroll.proofs.unrolling.Unrolling.take_place.Goals as goal

pub take_word-requires : goal.take_word-requires
take_word-requires c =
    let s : Stream = c.args.stream.now in
    let is = c.requires.unrolled in
    let there : slice_get s.nodes c.args.v ≡ Some (Input c.in-Input.port) = c.requires.node ∙ ap Some c.in-Input.is in
    let low : c.in-Input.port < length s.sources = is.fits.named.nodes c.args.v (Input c.in-Input.port) there in
    let next = is.next c.in-Input.port low in
    let inside = word_within s is.fits.named c.args.row c.in-Input.port c.args.v c.requires.row there in
    record {
      within = omega (arith, low, is.sources);
      room = omega (arith, next, inside, is.fits.few);
    }

pub returns-in-Input : goal.returns-in-Input
returns-in-Input c =
    let s : Stream = c.args.stream.now in
    let is = c.requires.unrolled in
    let there : slice_get s.nodes c.args.v ≡ Some (Input c.in-Input.port) = c.requires.node ∙ ap Some c.in-Input.is in
    let low : c.in-Input.port < length s.sources = is.fits.named.nodes c.args.v (Input c.in-Input.port) there in
    record {
      value = c.take_word.ensures.value ∙ is.next c.in-Input.port low ∙ sym (place_input s is.fits.named c.args.row c.in-Input.port c.args.v there);
      next = took c.args.self.now c.take_word.new.self s c.args.row c.args.v c.in-Input.port is there c.take_word.ensures.takes;
    }

pub returns-in-Const : goal.returns-in-Const
returns-in-Const c =
    let s : Stream = c.args.stream.now in
    let is = c.requires.unrolled in
    let there : slice_get s.nodes c.args.v ≡ Some (Const c.in-Const.word) = c.requires.node ∙ ap Some c.in-Const.is in
    let many : c.len-in-Const.result ≡ length c.args.self.now.nodes.items = omega arith in
    record {
      value = many ∙ const_place c.args.self.now s c.args.row c.args.v is c.in-Const.word there;
      next = took_none c.args.self.now s c.args.row c.args.v (Const c.in-Const.word) is there (λ q. refl);
    }

pub returns-in-Apply : goal.returns-in-Apply
returns-in-Apply c =
    let s : Stream = c.args.stream.now in
    let is = c.requires.unrolled in
    let there : slice_get s.nodes c.args.v ≡ Some (Apply c.in-Apply.op c.in-Apply.a c.in-Apply.b) = c.requires.node ∙ ap Some c.in-Apply.is in
    let many : c.len-in-Apply.result ≡ length c.args.self.now.nodes.items = omega arith in
    record {
      value = many ∙ apply_place c.args.self.now s c.args.row c.args.v is c.in-Apply.op c.in-Apply.a c.in-Apply.b there;
      next = took_none c.args.self.now s c.args.row c.args.v (Apply c.in-Apply.op c.in-Apply.a c.in-Apply.b) is there (λ q. refl);
    }

pub pre_place-requires : goal.pre_place-requires
pre_place-requires c =
    let s : Stream = c.args.stream.now in
    let is = c.requires.unrolled in
    let there : slice_get s.nodes c.args.v ≡ Some (Pre c.in-Pre.a c.in-Pre.word) = c.requires.node ∙ ap Some c.in-Pre.is in
    let begin = begins c.args.self.now s c.args.row c.args.v is (c.len.result - c.args.v) (omega arith) in
    record {
      before = λ some. begins_behind s c.args.row (c.len.result - c.args.v) begin some;
      there = omega (arith, begin, is.many);
      node = (is.fits.named.nodes c.args.v (Pre c.in-Pre.a c.in-Pre.word) there).0;
      few = next_few c.args.self.now s c.args.row c.args.v is (Pre c.in-Pre.a c.in-Pre.word) c.requires.row there;
    }

pub returns-in-Pre : goal.returns-in-Pre
returns-in-Pre c =
    let s : Stream = c.args.stream.now in
    let is = c.requires.unrolled in
    let there : slice_get s.nodes c.args.v ≡ Some (Pre c.in-Pre.a c.in-Pre.word) = c.requires.node ∙ ap Some c.in-Pre.is in
    let begin = begins c.args.self.now s c.args.row c.args.v is (c.len.result - c.args.v) (omega arith) in
    record {
      value = c.pre_place.ensures ∙ pre_found c.args.self.now s c.args.row c.args.v is (c.len.result - c.args.v) c.in-Pre.a c.in-Pre.word there begin;
      next = took_none c.args.self.now s c.args.row c.args.v (Pre c.in-Pre.a c.in-Pre.word) is there (λ q. refl);
    }

pub overflow_cast-result : goal.overflow_cast-result
overflow_cast-result c =
    omega (arith, next_few c.args.self.now c.args.stream.now c.args.row c.args.v c.requires.unrolled (Const c.in-Const.word) c.requires.row (c.requires.node ∙ ap Some c.in-Const.is))

pub overflow_cast-result-in-Apply : goal.overflow_cast-result-in-Apply
overflow_cast-result-in-Apply c =
    omega (arith, next_few c.args.self.now c.args.stream.now c.args.row c.args.v c.requires.unrolled (Apply c.in-Apply.op c.in-Apply.a c.in-Apply.b) c.requires.row (c.requires.node ∙ ap Some c.in-Apply.is))
