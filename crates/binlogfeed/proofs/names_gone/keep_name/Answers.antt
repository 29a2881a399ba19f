use Rattle.binlogfeed.proofs.NamesGone.{kept_now}
use Rattle.binlogfeed.proofs.names_gone.keep_name.Goals as goal

pub returns : goal.returns
returns c = kept_now c.args.gone.now.items c.push.new.self.items c.in_ok-copy.copy c.args.name.now c.in_ok-copy.ensures.ok c.in_ok-push.ensures.items
