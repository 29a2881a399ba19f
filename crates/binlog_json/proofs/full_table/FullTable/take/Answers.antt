use Rattle.std.proofs.Common.{◌≡◌, Ok, ap, sym, ◌∙◌}
use Rattle.binlog_profile.specs.declared.profile.Profile.TheVariants.{Server}
use Rattle.binlog_table.specs.Map.{map_at_by}
use Rattle.binlog_json.proofs.full_table.FullTable.take.Goals as goal

pub returns-then-spells : goal.returns-then-spells
returns-then-spells c =
    let read : map_at_by Server c.args.self.now.body.items ≡ Ok c.args.map.now = ap (map_at_by Server) (sym c.deref.ensures.value) ∙ c.if-spells.ensures.server in
    record {
      types = c.args.self.now.typed c.if-self.true c.args.map.now read;
      key = c.args.self.now.keyed c.if-self.true c.args.map.now read;
      documents = c.args.self.now.documented c.if-self.true;
    }
