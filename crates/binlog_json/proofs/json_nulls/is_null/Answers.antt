use Rattle.std.proofs.Common.{arith}
use Rattle.binlog_json.proofs.JsonNulls.{few_bytes, literal_bytes, other_bytes}
use Rattle.binlog_json.proofs.json_nulls.is_null.Goals as goal

pub returns-in_default : goal.returns-in_default
returns-in_default c = few_bytes c.args.bytes.now c.is_empty.result (omega (arith, c.in_default.len_below)) c.is_empty.ensures

pub returns-then-kind-eq-LITERAL : goal.returns-then-kind-eq-LITERAL
returns-then-kind-eq-LITERAL c = literal_bytes c.args.bytes.now (omega (arith, c.in-len2-up.len_at_least)) c.if-kind-eq-LITERAL.true

pub returns-else-kind-eq-LITERAL : goal.returns-else-kind-eq-LITERAL
returns-else-kind-eq-LITERAL c = other_bytes c.args.bytes.now (omega (arith, c.in-len2-up.len_at_least)) c.if-kind-eq-LITERAL.false
