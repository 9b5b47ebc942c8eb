use Rattle.std.proofs.Common.{◌≡◌, ap, slice_index, arith}
use Rattle.iff_files.specs.declared.frames.FrameHead.{FrameHead}
use Rattle.iff_files.specs.Frames.{head_of, masks, place_in, size_of, words_of}
use Rattle.iff_files.proofs.ReadFrames.{is_whole, not_address, not_flags, not_mask, not_short, not_whole, not_words}
use Rattle.iff_files.proofs.frames.read_head.Goals as goal

pub returns-then-bytes-lt-HEAD : goal.returns-then-bytes-lt-HEAD
returns-then-bytes-lt-HEAD c = not_short c.args.size c.args.most c.args.bytes.now (omega (arith, c.if-bytes-lt-HEAD.true))

pub returns-then-bytes-ge32 : goal.returns-then-bytes-ge32
returns-then-bytes-ge32 c = not_flags c.args.size c.args.most c.args.bytes.now (omega (arith, c.if-bytes-ge32.true))

pub returns-then-head-ge8 : goal.returns-then-head-ge8
returns-then-head-ge8 c =
    let mask : c.head_at-head.result.arguments ≡ place_in masks (slice_index c.args.bytes.now 5) =
    ap (λ (t : FrameHead). t.arguments) c.head_at-head.ensures in
    not_mask c.args.size c.args.most c.args.bytes.now (omega (arith, mask, c.if-head-ge8.true))

pub returns-then-head-size : goal.returns-then-head-size
returns-then-head-size c =
    let address : c.head_at-head.result.return_address ≡ (head_of c.args.bytes.now).return_address =
    ap (λ (t : FrameHead). t.return_address) c.head_at-head.ensures in
    not_address c.args.size c.args.most c.args.bytes.now (omega (arith, address, c.if-head-size.true))

pub returns-then-word_count-most : goal.returns-then-word_count-most
returns-then-word_count-most c =
    let count : words_of c.head_at-head.result ≡ words_of (head_of c.args.bytes.now) =
    ap (λ (t : FrameHead). words_of t) c.head_at-head.ensures in
    not_words c.args.size c.args.most c.args.bytes.now
    (omega (arith, count, c.word_count.ensures, c.if-word_count-most.true))

pub returns-then-size-bytes : goal.returns-then-size-bytes
returns-then-size-bytes c =
    let size : size_of c.head_at-head.result ≡ size_of (head_of c.args.bytes.now) =
    ap (λ (t : FrameHead). size_of t) c.head_at-head.ensures in
    not_whole c.args.size c.args.most c.args.bytes.now (omega (arith, size, c.size.ensures, c.if-size-bytes.true))

pub returns : goal.returns
returns c =
    let mask : c.head_at-head.result.arguments ≡ place_in masks (slice_index c.args.bytes.now 5) =
    ap (λ (t : FrameHead). t.arguments) c.head_at-head.ensures in
    let address : c.head_at-head.result.return_address ≡ (head_of c.args.bytes.now).return_address =
    ap (λ (t : FrameHead). t.return_address) c.head_at-head.ensures in
    let count : words_of c.head_at-head.result ≡ words_of (head_of c.args.bytes.now) =
    ap (λ (t : FrameHead). words_of t) c.head_at-head.ensures in
    let size : size_of c.head_at-head.result ≡ size_of (head_of c.args.bytes.now) =
    ap (λ (t : FrameHead). size_of t) c.head_at-head.ensures in (
      is_whole c.args.size c.args.most c.args.bytes.now (record {
        head = omega (arith, c.if-bytes-lt-HEAD.false);
        flags = omega (arith, c.if-bytes-ge32.false);
        mask = omega (arith, mask, c.if-head-ge8.false);
        address = omega (arith, address, c.if-head-size.false);
        words = omega (arith, count, c.word_count.ensures, c.if-word_count-most.false);
        end = omega (arith, size, c.size.ensures, c.if-size-bytes.false);
      }),
      c.head_at-head.ensures,
    )
