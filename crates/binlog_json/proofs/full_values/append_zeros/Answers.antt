use Rattle.binlog_json.proofs.Transcoding.{zeros_more, zeros_end}
use Rattle.binlog_json.proofs.full_values.append_zeros.Goals as goal

pub loop-preserved : goal.loop-preserved
loop-preserved c = rw (c.in_ok-push.ensures.items, c.loop.invariant) (zeros_more c.args.bytes.now.items c.loop.counter)

pub returns : goal.returns
returns c = zeros_end c.args.bytes.now.items c.loop.bytes.items c.loop.counter c.args.count c.loop.invariant c.loop.auto.counter-end c.loop-test.false
