use Rattle.std.proofs.Common.{◌-◌, ◌^◌}
use Rattle.key_story.proofs.fill_index.Given as goal

abbrev pub decreases-filling : goal.decreases-filling
decreases-filling g l = 2 ^ 32 - l.feed.window_length
