use Rattle.std.proofs.Common.{◌+◌, ◌≤◌, length, take, arith, length-take-le, subst}
use Rattle.std.proofs.lemmas.List.{take-take}
use Rattle.json.specs.Filled.{Placed}
use Rattle.binlog_documents.proofs.Placing.{placed_less}
use Rattle.binlog_json.proofs.pieces.put_first.Goals as goal

pub returns : goal.returns
returns c =
    let front = length-take-le 16 c.args.text.now c.requires.text in
    let few : c.args.count ≤ length (take 16 c.args.text.now) = omega (arith, front, c.requires.count) in
    let within : c.args.at ≤ length c.args.bytes.now = omega (arith, c.requires.room) in
    subst (λ t. Placed c.args.bytes.now c.put_front.new.bytes c.args.at t (c.args.at + c.args.count)) (take-take c.args.count 16 c.args.text.now c.requires.count) (placed_less c.args.count within few c.put_front.ensures)
