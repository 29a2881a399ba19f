use Rattle.std.proofs.Common.{◌≡◌, length, take, arith, length-take-le}
use Rattle.std.proofs.lemmas.Simd.{take_more_put_chunk, length-put_chunk}
use Rattle.binlog_documents.proofs.draft.put_sixteen.Goals as goal

pub returns : goal.returns
returns c =
    let front = take 16 c.args.text.now in
    let long : length front ≡ 16 = length-take-le 16 c.args.text.now c.requires.text in
    record {
      bytes = take_more_put_chunk c.args.at c.args.bytes.now front _ (omega arith) c.requires.room;
      moved = omega arith;
      len = length-put_chunk c.args.at c.args.bytes.now front;
    }
