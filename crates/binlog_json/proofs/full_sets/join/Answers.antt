use Rattle.std.proofs.Common.{drop_of_length-le, ap}
use Rattle.binlog_json.specs.Encodings.{texts_of}
use Rattle.binlog_json.proofs.Joined.{join_end}
use Rattle.binlog_json.proofs.full_sets.join.Goals as goal

pub returns : goal.returns
returns c =
    join_end c.args.between.now c.loop-name.bytes.items c.args.bytes.now.items c.loop-name.later _ (texts_of c.args.members.now)
    (ap texts_of (drop_of_length-le c.args.members.now c.loop-name-test.false)) c.loop-name.invariant
